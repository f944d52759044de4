-- A trimmed packet is read as before.
use Rattle.std.proofs.Common.{◌≡◌, ◌≢◌, ℕ, zero, suc, ◌+◌, ◌-◌, ◌≤◌, List, [], ◌∷◌, ◌++◌, length, Option, Some, None, Result, Ok, Err, refl, sym, ap, subst, ◌∙◌, arith, append_assoc, length-append}
use Rattle.std.specs.Prelude.{min, take}
use Rattle.rohc_frame.specs.declared.header.CidKind.{CidKind}
use Rattle.rohc_frame.specs.declared.header.CidKind.TheVariants.{Small, Large}
use Rattle.rohc_frame.specs.Header.{Header, placed, header_octets}
use Rattle.rohc_frame.specs.Items.{all_spelled}
use Rattle.rohc_frame.specs.Reading.{Reading, IsReading, IsHeader, EndsInHeader}
use Rattle.rohc_frame.specs.Parts.{parts_of}
use Rattle.rohc_frame.proofs.LawLemmas.{reading_from_parts, parts_from_reading}
use Rattle.rohc_context.specs.Record.{Record}
use Rattle.rohc_context.specs.Excess.{excess_in}
use Rattle.rohc_concentrator.specs.declared.setting.LinkSetting.{LinkSetting}
use Rattle.rohc_concentrator.specs.Bears.{header_in, header_on, cid_in, borne}
use Rattle.rohc_concentrator.specs.Trimmed.{surplus, trimmed, shortened, TrimmedIsRead}

-- what precedes a header's rest
abbrev front : CidKind → List ℕ → ℕ → List ℕ
front Small cid_octets first = cid_octets ++ first ∷ []
front Large cid_octets first = first ∷ cid_octets

placed_front : (size : CidKind) (cid_octets : List ℕ) (first : ℕ) (rest : List ℕ) → placed size cid_octets first rest ≡ front size cid_octets first ++ rest
placed_front Small cid_octets first rest = sym (append_assoc cid_octets (first ∷ []) rest)
placed_front Large cid_octets first rest = refl

less_one : (n e : ℕ) → e ≤ n → suc n - e ≡ suc (n - e)
less_one n e le = omega (arith, le)

-- octets that go from the end of what follows some octets
take_behind : (before rest : List ℕ) (e : ℕ) → e ≤ length rest → take (length (before ++ rest) - e) (before ++ rest) ≡ before ++ take (length rest - e) rest
take_behind [] rest e le = refl
take_behind (x ∷ before) rest e le =
    ap (λ n. take n (x ∷ before ++ rest)) (less_one (length (before ++ rest)) e (omega (arith, le, length-append before rest)))
    ∙ ap (λ xs. x ∷ xs) (take_behind before rest e le)

-- octets before a header, and what precedes its rest
split_before : (spelled : List ℕ) (size : CidKind) (cid_octets : List ℕ) (first : ℕ) (rest : List ℕ) → spelled ++ placed size cid_octets first rest ≡ (spelled ++ front size cid_octets first) ++ rest
split_before spelled size cid_octets first rest =
    ap (λ xs. spelled ++ xs) (placed_front size cid_octets first rest) ∙ sym (append_assoc spelled (front size cid_octets first) rest)

-- octets before a header and its own, without some at its end
shortened_octets : (spelled : List ℕ) (h : Header) (e : ℕ) → e ≤ length h.rest → take (length (spelled ++ header_octets h) - e) (spelled ++ header_octets h) ≡ spelled ++ header_octets (shortened e h)
shortened_octets spelled h e le =
    ap (λ xs. take (length xs - e) xs) (split_before spelled h.size h.cid_octets h.first h.rest)
    ∙ take_behind (spelled ++ front h.size h.cid_octets h.first) h.rest e le
    ∙ sym (split_before spelled h.size h.cid_octets h.first (take (length h.rest - e) h.rest))

not_nothing : (size : CidKind) (spelled cid_octets : List ℕ) (first : ℕ) (rest : List ℕ) → spelled ++ placed size cid_octets first rest ≢ []
not_nothing Small spelled cid_octets first rest e =
    absurd (omega (arith, ap length e, length-append spelled (cid_octets ++ first ∷ rest), length-append cid_octets (first ∷ rest)))
not_nothing Large spelled cid_octets first rest e =
    absurd (omega (arith, ap length e, length-append spelled (first ∷ cid_octets ++ rest)))

-- the reading of octets, of which some go from the end of a header's rest
read_shortened : (size : CidKind) (max_cid : ℕ) (octets : List ℕ) (r : Reading) (h : Header) (e : ℕ) → IsReading size max_cid octets r → r.header ≡ Some h → e ≤ length h.rest →
    IsReading size max_cid (take (length octets - e) octets) (record { elements = r.elements; header = Some (shortened e h) })
read_shortened size max_cid octets r h e is has le =
    let header : IsHeader size max_cid is.after h = subst (EndsInHeader size max_cid is.after) has is.ends in
    let whole : octets ≡ all_spelled is.items ++ header_octets h = is.whole ∙ ap (λ xs. all_spelled is.items ++ xs) header.whole in
    let cut : take (length octets - e) octets ≡ all_spelled is.items ++ header_octets (shortened e h) =
    ap (λ xs. take (length xs - e) xs) whole ∙ shortened_octets (all_spelled is.items) h e le in
    record {
      items = is.items;
      after = header_octets (shortened e h);
      not_empty = λ none. not_nothing h.size (all_spelled is.items) h.cid_octets h.first (take (length h.rest - e) h.rest) (sym cut ∙ none);
      are_items = is.are_items;
      whole = cut;
      elements = is.elements;
      ends = record { sized = header.sized; within = header.within; spelled = header.spelled; whole = refl };
    }

min_le : (a b : ℕ) → min a b ≤ b
min_le a b = grind arith

header_of_parts : (s : LinkSetting) (octets : List ℕ) (r : Reading) (h : Header) → parts_of s.settings.size s.settings.max_cid octets ≡ Ok r → r.header ≡ Some h → header_on s octets ≡ Some h
header_of_parts s octets r h parts has = ap header_in parts ∙ has

pub trimmed_is_read : TrimmedIsRead
trimmed_is_read n s records octets r h parts has =
    let e = surplus n records (Some h) in
    let on : header_on s octets ≡ Some h = header_of_parts s octets r h parts has in
    let cut : trimmed n (Some s) records octets ≡ take (length octets - e) octets = ap (λ x. take (length octets - surplus n records x) octets) on in
    let read = read_shortened s.settings.size s.settings.max_cid octets r h e (reading_from_parts s.settings.size s.settings.max_cid octets r parts) has (min_le (excess_in n h (records h.cid)) (length h.rest)) in
    let after : parts_of s.settings.size s.settings.max_cid (trimmed n (Some s) records octets) ≡ Ok (record { elements = r.elements; header = Some (shortened e h) }) =
    ap (parts_of s.settings.size s.settings.max_cid) cut
    ∙ parts_from_reading s.settings.size s.settings.max_cid (take (length octets - e) octets) (record { elements = r.elements; header = Some (shortened e h) }) read in
    (after, ap (λ x. cid_in (header_in x)) after ∙ sym (ap cid_in on))
