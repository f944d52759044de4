use Rattle.std.proofs.Common.{◌≡◌, ◌≢◌, ℕ, ◌<◌, ◌≤◌, false, List, [], ◌∷◌, ◌++◌, length, Option, Some, None, Result, Ok, Err, refl, sym, ◌∙◌, ap}
use Rattle.std.specs.Prelude.{All, IfSome, ◌==◌}
use Rattle.rohc_frame.specs.declared.header.Forward.{Forward}
use Rattle.rohc_frame.specs.declared.header.CidKind.{CidKind}
use Rattle.rohc_frame.specs.declared.refusal.FrameRefusal.{FrameRefusal}
use Rattle.std.proofs.lemmas.List.Elements.{All-head, All-tail, All-take, All-drop}
use Rattle.std.proofs.Math.Seq.{take-append_seam, drop-append_seam}
use Rattle.rohc_frame.specs.declared.header.CidKind.TheVariants.{Small, Large}
use Rattle.rohc_frame.specs.Header.{Header, placed}
use Rattle.rohc_frame.specs.Laws.{IsOctet, IsGood}
use Rattle.rohc_frame.specs.Items.{first_item, elements_in, all_contents, all_spelled, longest_items, after_items}
use Rattle.rohc_frame.specs.Parts.{header_parts, with_elements, parts_of}
use Rattle.rohc_frame.specs.Reading.{Reading, IsReading, IsHeader, EndsInHeader, option_header, header_of}
use Rattle.rohc_frame.specs.Refused.{IsRefused, StopsBy}
use Rattle.rohc_frame.proofs.ItemLemmas.{divided, longest_items_only, first_item_none, none_first_item}
use Rattle.rohc_frame.proofs.EndLemmas.{ends_from_parts, parts_from_ends, ends_no_item}
use Rattle.rohc_frame.proofs.RefusalLemmas.{rows_from_parts, parts_from_rows}

-- The readings and refusals of a packet are what the definition by cases gives.

read_by : (size : CidKind) (max_cid : ℕ) (octets : List ℕ) (parts : Result (Option Header) FrameRefusal) (r : Reading) → octets ≢ [] →
    header_parts size max_cid (after_items octets) ≡ parts → with_elements (elements_in octets) parts ≡ Ok r → IsReading size max_cid octets r
unfolding elements_in
read_by size max_cid octets (Err refusal) r some parts e = cc
read_by size max_cid octets (Ok header) r some parts e =
    let is : ◌≡◌ {A = Reading} (record { elements = elements_in octets; header = header }) r = cc in
    let split = divided octets in
    rw (← is) (record {
      items = longest_items octets;
      after = after_items octets;
      not_empty = some;
      are_items = split.are_items;
      whole = split.whole;
      elements = refl;
      ends = ends_from_parts size max_cid (after_items octets) header parts;
    })

pub reading_from_parts : (size : CidKind) (max_cid : ℕ) (octets : List ℕ) (r : Reading) → parts_of size max_cid octets ≡ Ok r → IsReading size max_cid octets r
unfolding parts_of
reading_from_parts size max_cid [] r e = cc
reading_from_parts size max_cid (o ∷ octets) r e =
    read_by size max_cid (o ∷ octets) (header_parts size max_cid (after_items (o ∷ octets))) r (λ empty. cc) refl e

-- a packet that is not empty, by its items and the octets after them
parts_by : (size : CidKind) (max_cid : ℕ) (octets : List ℕ) → octets ≢ [] → parts_of size max_cid octets ≡ with_elements (elements_in octets) (header_parts size max_cid (after_items octets))
unfolding parts_of
parts_by size max_cid [] some = absurd (some refl)
parts_by size max_cid (o ∷ octets) some = refl

pub parts_from_reading : (size : CidKind) (max_cid : ℕ) (octets : List ℕ) (r : Reading) → IsReading size max_cid octets r → parts_of size max_cid octets ≡ Ok r
unfolding elements_in
parts_from_reading size max_cid octets r is =
    let none : first_item is.after ≡ None = ends_no_item size max_cid is.after r.header is.ends in
    let only = longest_items_only is.items is.after is.are_items none in
    let items : longest_items octets ≡ is.items = ap longest_items is.whole ∙ only.0 in
    let after : after_items octets ≡ is.after = ap after_items is.whole ∙ only.1 in
    let elements : elements_in octets ≡ r.elements = ap all_contents items ∙ sym is.elements in
    parts_by size max_cid octets is.not_empty
    ∙ rw (after, elements, parts_from_ends size max_cid is.after r.header is.ends) refl

refused_by : (size : CidKind) (max_cid : ℕ) (octets : List ℕ) (parts : Result (Option Header) FrameRefusal) (e : FrameRefusal) →
    header_parts size max_cid (after_items octets) ≡ parts → with_elements (elements_in octets) parts ≡ Err e → StopsBy size max_cid octets e
refused_by size max_cid octets (Ok header) e parts is = cc
refused_by size max_cid octets (Err refusal) e parts is =
    let split = divided octets in
    let same : refusal ≡ e = cc in
    record {
      items = longest_items octets;
      after = after_items octets;
      are_items = split.are_items;
      whole = split.whole;
      longest = first_item_none (after_items octets) split.ended;
      stopped = rows_from_parts size max_cid (after_items octets) e split.ended (parts ∙ ap Err same);
    }

pub refused_from_parts : (size : CidKind) (max_cid : ℕ) (octets : List ℕ) (e : FrameRefusal) → parts_of size max_cid octets ≡ Err e → IsRefused size max_cid octets e
unfolding parts_of
refused_from_parts size max_cid [] e is = cc
refused_from_parts size max_cid (o ∷ octets) e is =
    refused_by size max_cid (o ∷ octets) (header_parts size max_cid (after_items (o ∷ octets))) e refl is

pub parts_from_refused : (size : CidKind) (max_cid : ℕ) (octets : List ℕ) (e : FrameRefusal) → IsRefused size max_cid octets e → parts_of size max_cid octets ≡ Err e
unfolding parts_of
parts_from_refused size max_cid [] e is = ap Err (sym is)
parts_from_refused size max_cid (o ∷ octets) e is =
    let none : first_item is.after ≡ None = none_first_item is.after is.longest in
    let only = longest_items_only is.items is.after is.are_items none in
    let after : after_items (o ∷ octets) ≡ is.after = ap after_items is.whole ∙ only.1 in
    rw (after, parts_from_rows size max_cid is.after e none is.stopped) refl

not_empty : (octets : List ℕ) → false ≡ (length octets == 0) → octets ≢ []
not_empty octets some empty = let test = rw empty at some in cc

-- What `cut` knows of a packet that is not empty: the octets after its items, and what they are.
module _ (size : CidKind) (max_cid : ℕ) (octets after : List ℕ) (some : false ≡ (length octets == 0)) (is_after : after ≡ after_items octets) where
  parts_of_header : (parts : Result (Option Header) FrameRefusal) → header_parts size max_cid after ≡ parts → parts_of size max_cid octets ≡ with_elements (elements_in octets) parts
  parts_of_header parts e = parts_by size max_cid octets (not_empty octets some) ∙ rw (← is_after, e) refl

  pub cut_refused : (refusal : FrameRefusal) → header_parts size max_cid after ≡ Err refusal → IsRefused size max_cid octets refusal
  cut_refused refusal e = refused_from_parts size max_cid octets refusal (parts_of_header (Err refusal) e)

  pub cut_only : (refusal : FrameRefusal) → header_parts size max_cid after ≡ Err refusal → (r : Reading) → IsReading size max_cid octets r → ⊥
  cut_only refusal e r is =
      let reads = parts_from_reading size max_cid octets r is in
      let refuses = parts_of_header (Err refusal) e in
      cc

  pub cut_reading : (elements : List (List ℕ)) (header : Option Header) → elements ≡ elements_in octets → header_parts size max_cid after ≡ Ok header → IsReading size max_cid octets (record { elements = elements; header = header })
  cut_reading elements header same e = rw same (reading_from_parts size max_cid octets _ (parts_of_header (Ok header) e))

-- the header of a reading is the link's
pub cut_sized : (size : CidKind) (max_cid : ℕ) (after : List ℕ) (forward : Option Forward) → header_parts size max_cid after ≡ Ok (option_header forward) → IfSome forward (λ f. f.size ≡ size)
cut_sized size max_cid after None e = tt
cut_sized size max_cid after (Some f) e = (ends_from_parts size max_cid after (Some (header_of f)) e).sized

pub cut_within : (size : CidKind) (max_cid : ℕ) (after : List ℕ) (forward : Option Forward) → header_parts size max_cid after ≡ Ok (option_header forward) → IfSome forward (λ f. f.cid ≤ max_cid)
cut_within size max_cid after None e = tt
cut_within size max_cid after (Some f) e = (ends_from_parts size max_cid after (Some (header_of f)) e).within

no_header_in_none : (size : CidKind) (max_cid : ℕ) (h : Header) → header_parts size max_cid [] ≡ Ok (Some h) → ⊥
unfolding header_parts
no_header_in_none Small max_cid h e = cc
no_header_in_none Large max_cid h e = cc

-- a packet that starts with a header has no other part
pub parts_of_plain : (size : CidKind) (max_cid : ℕ) (octets : List ℕ) (forward : Option Forward) → IfSome forward (λ f. after_items octets ≡ octets)
    → IfSome forward (λ f. elements_in octets ≡ []) → IfSome forward (λ f. header_parts size max_cid octets ≡ Ok (Some (header_of f)))
    → IfSome forward (λ f. parts_of size max_cid octets ≡ Ok (record { elements = []; header = Some (header_of f) }))
parts_of_plain size max_cid octets None front elements header = tt
parts_of_plain size max_cid octets (Some f) front elements header =
    parts_by size max_cid octets (λ empty. no_header_in_none size max_cid (header_of f) (rw empty at header)) ∙ rw (elements, front, header) refl

-- The header of a packet of octets.

all_right : (xs ys : List ℕ) → All IsOctet (xs ++ ys) → All IsOctet ys
all_right xs ys all = rw drop-append_seam at (All-drop IsOctet (length xs) (xs ++ ys) all)

all_left : (xs ys : List ℕ) → All IsOctet (xs ++ ys) → All IsOctet xs
all_left xs ys all = rw take-append_seam at (All-take IsOctet (length xs) (xs ++ ys) all)

-- the parts of a header of octets
pub record AreOctets (first : ℕ) (cid_octets rest : List ℕ) : Type 0 where
  pub start : first < 256
  pub identifier : All IsOctet cid_octets
  pub behind : All IsOctet rest

placed_octets : (size : CidKind) (cid_octets : List ℕ) (first : ℕ) (rest : List ℕ) → All IsOctet (placed size cid_octets first rest) → AreOctets first cid_octets rest
placed_octets Small cid_octets first rest all =
    let behind = all_right cid_octets (first ∷ rest) all in
    record { start = All-head IsOctet first rest behind; identifier = all_left cid_octets (first ∷ rest) all; behind = All-tail IsOctet first rest behind }
placed_octets Large cid_octets first rest all =
    let behind = All-tail IsOctet first (cid_octets ++ rest) all in
    record { start = All-head IsOctet first (cid_octets ++ rest) all; identifier = all_left cid_octets rest behind; behind = all_right cid_octets rest behind }

good_from_ends : (size : CidKind) (max_cid : ℕ) (after : List ℕ) (h : Header) → IsHeader size max_cid after h → All IsOctet after → IsGood size max_cid h
good_from_ends size max_cid after h is all =
    let octets = placed_octets h.size h.cid_octets h.first h.rest (rw is.whole at all) in
    record { sized = is.sized; within = is.within; spelled = is.spelled; first = octets.start; cid_octets = octets.identifier; rest = octets.behind }

good_from_some : (size : CidKind) (max_cid : ℕ) (after : List ℕ) (header : Option Header) (h : Header) → header ≡ Some h → EndsInHeader size max_cid after header → All IsOctet after → IsGood size max_cid h
good_from_some size max_cid after header h same ends all = good_from_ends size max_cid after h (rw same at ends) all

pub header_is_good : (size : CidKind) (max_cid : ℕ) (octets : List ℕ) (r : Reading) (h : Header) → parts_of size max_cid octets ≡ Ok r → r.header ≡ Some h → All IsOctet octets → IsGood size max_cid h
header_is_good size max_cid octets r h parts header all =
    let is = reading_from_parts size max_cid octets r parts in
    good_from_some size max_cid is.after r.header h header is.ends (all_right (all_spelled is.items) is.after (rw is.whole at all))

-- a packet has one reading at most
pub reading_one : (size : CidKind) (max_cid : ℕ) (octets : List ℕ) (a b : Reading) → IsReading size max_cid octets a → IsReading size max_cid octets b → a ≡ b
reading_one size max_cid octets a b is also =
    let e : ◌≡◌ {A = Result Reading FrameRefusal} (Ok a) (Ok b) = sym (parts_from_reading size max_cid octets a is) ∙ parts_from_reading size max_cid octets b also in
    cc
