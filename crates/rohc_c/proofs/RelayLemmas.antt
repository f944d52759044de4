-- What an answer relays fits into a buffer of as many octets as its packet has.
use Rattle.std.proofs.Common.{◌≡◌, ℕ, ◌+◌, ◌<◌, ◌≤◌, List, [], ◌∷◌, ◌++◌, length, get_or, Option, Some, None, Result, Ok, Err, arith, refl, sym, ap, subst, ◌∙◌}
use Rattle.std.specs.Prelude.{All}
use Rattle.std.proofs.lemmas.List.{length-append, append_assoc}
use Rattle.std.proofs.lemmas.List.Elements.{All-nil, All-cons, All-head, All-tail, All-take, All-drop, All-from_get_or}
use Rattle.std.proofs.Math.Seq.{take-append_seam, drop-append_seam}
use Rattle.rohc_frame.specs.Header.{Header}
use Rattle.rohc_frame.specs.Items.{Item, Padding, Coded, Sized, IsItem, spelled, all_spelled, all_contents}
use Rattle.rohc_frame.specs.Laws.{IsOctet}
use Rattle.rohc_frame.specs.Parts.{parts_of}
use Rattle.rohc_frame.specs.Reading.{Reading}
use Rattle.rohc_frame.specs.declared.refusal.FrameRefusal.{FrameRefusal}
use Rattle.rohc_frame.proofs.LawLemmas.{reading_from_parts}
use Rattle.rohc_context.specs.Record.{Record}
use Rattle.rohc_concentrator.specs.declared.setting.LinkSetting.{LinkSetting}
use Rattle.rohc_concentrator.specs.Report.{Report, IsCut, IsRead, IsAnswered}
use Rattle.rohc_c.specs.Relay.{told, FitsInRoom}
use Rattle.rohc_c.specs.Written.{relayed_in}

-- the front and the back of a list of octets
front_octets : (xs ys : List ℕ) → All IsOctet (xs ++ ys) → All IsOctet xs
front_octets xs ys all = subst (All IsOctet) (take-append_seam xs ys) (All-take IsOctet (length xs) (xs ++ ys) all)

back_octets : (xs ys : List ℕ) → All IsOctet (xs ++ ys) → All IsOctet ys
back_octets xs ys all = subst (All IsOctet) (drop-append_seam xs ys) (All-drop IsOctet (length xs) (xs ++ ys) all)

-- one more element, of fewer than 256 octets
one_more : (x : List ℕ) (xs : List (List ℕ)) (room : ℕ) → length x < 256 → FitsInRoom xs room → (more : ℕ) → 1 + length x + room ≤ more → FitsInRoom (x ∷ xs) more
one_more x xs room short fits more within = record {
  short = All-cons (λ (octets : List ℕ). length octets < 256) x xs short fits.short;
  within = omega (arith, length-append x (told xs), fits.within);
}

-- the elements among items fit into as many octets as the items have
items_fit : (items : List Item) → All IsItem items → All IsOctet (all_spelled items) → FitsInRoom (all_contents items) (length (all_spelled items))
items_fit [] are all = record { short = All-nil (λ (octets : List ℕ). length octets < 256); within = omega arith }
items_fit (Padding ∷ items) are all =
    let rest = items_fit items (All-tail IsItem Padding items are) (All-tail IsOctet 0xe0 (all_spelled items) all) in
    record { short = rest.short; within = omega (arith, rest.within) }
items_fit (Coded octets ∷ items) are all =
    let item = All-head IsItem (Coded octets) items are in
    let rest = items_fit items (All-tail IsItem (Coded octets) items are) (back_octets (spelled (Coded octets)) (all_spelled items) all) in
    one_more octets (all_contents items) (length (all_spelled items)) (omega (arith, item.1)) rest
    (length (all_spelled (Coded octets ∷ items))) (omega (arith, length-append octets (all_spelled items)))
items_fit (Sized octets ∷ items) are all =
    let front = front_octets (spelled (Sized octets)) (all_spelled items) all in
    let size : length octets < 256 = All-head IsOctet (length octets) octets (All-tail IsOctet 0xf0 (length octets ∷ octets) front) in
    let rest = items_fit items (All-tail IsItem (Sized octets) items are) (back_octets (spelled (Sized octets)) (all_spelled items) all) in
    one_more octets (all_contents items) (length (all_spelled items)) size rest
    (length (all_spelled (Sized octets ∷ items))) (omega (arith, length-append octets (all_spelled items)))

-- and so do those of a packet's reading into as many octets as the packet has
reading_fits : (octets : List ℕ) (items : List Item) (after : List ℕ) (elements : List (List ℕ)) → All IsOctet octets → All IsItem items →
    octets ≡ all_spelled items ++ after → elements ≡ all_contents items → FitsInRoom elements (length octets)
reading_fits octets items after elements all are whole is =
    let spelled_all = front_octets (all_spelled items) after (subst (All IsOctet) whole all) in
    let fits = items_fit items are spelled_all in
    subst (λ (es : List (List ℕ)). FitsInRoom es (length octets)) (sym is) (record {
      short = fits.short;
      within = omega (arith, fits.within, ap length whole, length-append (all_spelled items) after);
    })

nothing_fits : (room : ℕ) → FitsInRoom [] room
nothing_fits room = record { short = All-nil (λ (octets : List ℕ). length octets < 256); within = omega arith }

-- and so does what is relayed by the answer to it
abbrev RelayFits : ℕ → Report → Type 0
RelayFits room report = FitsInRoom (relayed_in report) room

module _ (s : LinkSetting) (m room : ℕ) (before after : ℕ → Option Record) (report : Report) where
  cut_fits : (relayed : List (List ℕ)) (header : Option Header) → FitsInRoom relayed room → IsCut s m relayed header before report after → RelayFits room report
  cut_fits relayed None fits a = subst (RelayFits room) (sym a) fits
  cut_fits relayed (Some h) fits a = subst (RelayFits room) (sym a.1) fits

  read_fits : (parts : Result Reading FrameRefusal) → ((r : Reading) → parts ≡ Ok r → FitsInRoom r.elements room) → IsRead s m parts before report after → RelayFits room report
  read_fits (Ok r) fits a = cut_fits r.elements r.header (fits r refl) a
  read_fits (Err refusal) fits a = subst (RelayFits room) (sym a) (nothing_fits room)

pub relay_fits : (set : Option LinkSetting) (m : ℕ) (octets : List ℕ) (before after : ℕ → Option Record) (report : Report) → All IsOctet octets →
    IsAnswered set before m octets report after → FitsInRoom (relayed_in report) (length octets)
relay_fits None m octets before after report all a = subst (RelayFits (length octets)) (sym a) (nothing_fits (length octets))
relay_fits (Some s) m octets before after report all a =
    read_fits s m (length octets) before after report (parts_of s.settings.size s.settings.max_cid octets) (λ r e.
    let is = reading_from_parts s.settings.size s.settings.max_cid octets r e in
    reading_fits octets is.items is.after r.elements all is.are_items is.whole is.elements) a

-- a larger buffer has room too
pub wider : (elements : List (List ℕ)) (room more : ℕ) → room ≤ more → FitsInRoom elements room → FitsInRoom elements more
wider elements room more within fits = record { short = fits.short; within = omega (arith, fits.within) }

-- the items of a slice of octets are octets
pub all_octets : (octets : List ℕ) → ((i : ℕ) → get_or octets i 0 < 256) → All IsOctet octets
all_octets octets small = All-from_get_or IsOctet octets 0 (λ i within. small i)

-- one element more in the buffer
pub told_more : (front octets : List ℕ) (rest : List (List ℕ)) (elements : List (List ℕ)) (all : List ℕ) → elements ≡ octets ∷ rest → front ++ told elements ≡ all →
    (front ++ length octets ∷ []) ++ octets ++ told rest ≡ all
told_more front octets rest elements all split whole =
    append_assoc (front ++ length octets ∷ []) octets (told rest) ∙ append_assoc front (length octets ∷ []) (octets ++ told rest)
    ∙ ap (λ (es : List (List ℕ)). front ++ told es) (sym split) ∙ whole
