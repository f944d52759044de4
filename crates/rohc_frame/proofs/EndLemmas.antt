use Rattle.std.proofs.Common.{◌≡◌, ℕ, ◌-◌, ◌≤◌, Bool, true, false, List, [], ◌∷◌, ◌++◌, take, drop, Option, Some, None, Result, Ok, Err, refl, sym, ap, ⊎_elim, inl, inr, arith}
use Rattle.std.specs.Prelude.{nat_lt, ◌⊎◌, if◌then◌else◌}
use Rattle.std.proofs.lemmas.Bool.Decides.{nat_tests}
use Rattle.std.proofs.lemmas.List.{take-append-drop}
use Rattle.rohc_frame.specs.declared.header.CidKind.{CidKind}
use Rattle.rohc_frame.specs.declared.header.CidKind.TheVariants.{Small, Large}
use Rattle.rohc_frame.specs.declared.header.HeadKind.{HeadKind}
use Rattle.rohc_frame.specs.declared.header.HeadKind.TheVariants.{Ir, IrDyn, Other}
use Rattle.rohc_frame.specs.declared.refusal.FrameRefusal.{FrameRefusal}
use Rattle.rohc_frame.specs.declared.refusal.FrameRefusal.TheVariants.{CidRange}
use Rattle.rohc_frame.specs.Header.{Header, is_within, is_kind, is_identifier, is_header, placed}
use Rattle.rohc_frame.specs.Items.{first_item}
use Rattle.rohc_frame.specs.Parts.{kind_of, large_cid, small_header, behind_add_cid, large_header, behind_kind, header_parts, small_parts, large_parts}
use Rattle.rohc_frame.specs.Reading.{EndsInHeader}
use Rattle.rohc_frame.proofs.HeaderLemmas.{kind_fits, large_fits}

-- What stands after the items: nothing or a header, exactly where the definition by cases says so.

-- one way: what the cases give
small_ends_by : (max_cid cid : ℕ) (cid_octets : List ℕ) (first : ℕ) (rest r : List ℕ) (kind : Result HeadKind FrameRefusal) (header : Option Header) →
    cid ≤ max_cid → is_identifier Small cid cid_octets ≡ true → r ≡ cid_octets ++ first ∷ rest → kind_of first ≡ kind →
    small_header cid cid_octets first rest kind ≡ Ok header → EndsInHeader Small max_cid r header
small_ends_by max_cid cid cid_octets first rest r (Err refusal) header within identifier whole kinds e = cc
small_ends_by max_cid cid cid_octets first rest r (Ok kind) header within identifier whole kinds e =
    let is : Some (record { cid = cid; size = Small; kind = kind; first = first; cid_octets = cid_octets; rest = rest }) ≡ header = cc in
    rw (← is) (record { sized = refl; within = within; spelled = rw (identifier, kind_fits first kind kinds) refl; whole = whole })

behind_add_cid_ends : (max_cid add_cid : ℕ) (rest : List ℕ) (header : Option Header) → is_within 225 239 add_cid ≡ true → add_cid - 224 ≤ max_cid →
    behind_add_cid add_cid rest ≡ Ok header → EndsInHeader Small max_cid (add_cid ∷ rest) header
behind_add_cid_ends max_cid add_cid [] header within low e = cc
behind_add_cid_ends max_cid add_cid (first ∷ rest) header within low e =
    let plain : is_within 224 239 first ≡ false = grind (arith, nat_tests) in
    let other : is_within 240 247 first ≡ false = grind (arith, nat_tests) in
    let identifier : is_identifier Small (add_cid - 224) (add_cid ∷ []) ≡ true = grind (arith, nat_tests) in
    small_ends_by max_cid (add_cid - 224) (add_cid ∷ []) first rest (add_cid ∷ first ∷ rest) (kind_of first) header low identifier refl refl (rw (plain, other) at e)

chosen : {A : Type 0} (test : Bool) (a b : Result A FrameRefusal) (x : A) → (if test then a else b) ≡ Ok x → ((test ≡ true) × (a ≡ Ok x)) ⊎ ((test ≡ false) × (b ≡ Ok x))
chosen true a b x e = inl (refl, e)
chosen false a b x e = inr (refl, e)

small_ends : (max_cid : ℕ) (r : List ℕ) (header : Option Header) → small_parts max_cid r ≡ Ok header → EndsInHeader Small max_cid r header
small_ends max_cid [] header e = let none : None ≡ header = cc in rw (← none) refl
small_ends max_cid (first ∷ rest) header e = ⊎_elim
    (λ added. ⊎_elim
    (λ out_of_range. let never = out_of_range.1 in cc)
    (λ in_range. behind_add_cid_ends max_cid first rest header added.0 (let test = in_range.0 in grind (arith, nat_tests)) in_range.1)
    (chosen (nat_lt max_cid (first - 224)) (Err CidRange) (behind_add_cid first rest) header added.1))
    (λ alone. small_ends_by max_cid 0 [] first rest (first ∷ rest) (kind_of first) header (omega arith) refl refl refl alone.1)
    (chosen (is_within 225 239 first) (if nat_lt max_cid (first - 224) then Err CidRange else behind_add_cid first rest) (small_header 0 [] first rest (kind_of first)) header e)

large_ends_by : (max_cid first : ℕ) (kind : HeadKind) (octets : List ℕ) (identifier : Result (ℕ × ℕ) FrameRefusal) (header : Option Header) →
    kind_of first ≡ Ok kind → large_cid octets ≡ identifier → large_header max_cid kind first octets identifier ≡ Ok header → EndsInHeader Large max_cid (first ∷ octets) header
large_ends_by max_cid first kind octets (Err refusal) header kinds identifier e = cc
large_ends_by max_cid first kind octets (Ok (cid, count)) header kinds identifier e =
    let test : nat_lt max_cid cid ≡ false = grind (arith, nat_tests) in
    let within : cid ≤ max_cid = grind (arith, nat_tests) in
    let is : Some (record { cid = cid; size = Large; kind = kind; first = first; cid_octets = take count octets; rest = drop count octets }) ≡ header = let f = rw test at e in cc in
    rw (← is) (record {
      sized = refl;
      within = within;
      spelled = rw (large_fits octets cid count identifier, kind_fits first kind kinds) refl;
      whole = ap (λ rest. first ∷ rest) (sym (take-append-drop count octets));
    })

large_ends_kind : (max_cid first : ℕ) (octets : List ℕ) (kind : Result HeadKind FrameRefusal) (header : Option Header) →
    kind_of first ≡ kind → behind_kind max_cid first octets kind ≡ Ok header → EndsInHeader Large max_cid (first ∷ octets) header
large_ends_kind max_cid first octets (Err refusal) header kinds e = cc
large_ends_kind max_cid first octets (Ok kind) header kinds e = large_ends_by max_cid first kind octets (large_cid octets) header kinds refl e

large_ends : (max_cid : ℕ) (r : List ℕ) (header : Option Header) → large_parts max_cid r ≡ Ok header → EndsInHeader Large max_cid r header
large_ends max_cid [] header e = let none : None ≡ header = cc in rw (← none) refl
large_ends max_cid (first ∷ octets) header e = large_ends_kind max_cid first octets (kind_of first) header refl e

pub ends_from_parts : (size : CidKind) (max_cid : ℕ) (r : List ℕ) (header : Option Header) → header_parts size max_cid r ≡ Ok header → EndsInHeader size max_cid r header
unfolding header_parts
ends_from_parts Small max_cid r header e = small_ends max_cid r header e
ends_from_parts Large max_cid r header e = large_ends max_cid r header e

-- the other way: a header's octets
small_from : (max_cid cid : ℕ) (kind : HeadKind) (first : ℕ) (cid_octets rest : List ℕ) → cid ≤ max_cid → is_header Small cid kind first cid_octets ≡ true →
    small_parts max_cid (cid_octets ++ first ∷ rest) ≡ Ok (Some (record { cid = cid; size = Small; kind = kind; first = first; cid_octets = cid_octets; rest = rest }))
small_from max_cid cid kind first [] rest within spelled = grind (arith, nat_tests)
small_from max_cid cid kind first (a ∷ []) rest within spelled = grind (arith, nat_tests)
small_from max_cid cid kind first (a ∷ b ∷ octets) rest within spelled = cc

large_from : (max_cid cid : ℕ) (kind : HeadKind) (first : ℕ) (cid_octets rest : List ℕ) → cid ≤ max_cid → is_header Large cid kind first cid_octets ≡ true →
    large_parts max_cid (first ∷ cid_octets ++ rest) ≡ Ok (Some (record { cid = cid; size = Large; kind = kind; first = first; cid_octets = cid_octets; rest = rest }))
large_from max_cid cid kind first [] rest within spelled = cc
large_from max_cid cid kind first (a ∷ []) rest within spelled = grind (arith, nat_tests)
large_from max_cid cid kind first (a ∷ b ∷ []) rest within spelled = grind (arith, nat_tests)
large_from max_cid cid kind first (a ∷ b ∷ c ∷ octets) rest within spelled = cc

placed_parts : (size : CidKind) (max_cid cid : ℕ) (kind : HeadKind) (first : ℕ) (cid_octets rest : List ℕ) → cid ≤ max_cid → is_header size cid kind first cid_octets ≡ true →
    header_parts size max_cid (placed size cid_octets first rest) ≡ Ok (Some (record { cid = cid; size = size; kind = kind; first = first; cid_octets = cid_octets; rest = rest }))
unfolding header_parts
placed_parts Small max_cid cid kind first cid_octets rest within spelled = small_from max_cid cid kind first cid_octets rest within spelled
placed_parts Large max_cid cid kind first cid_octets rest within spelled = large_from max_cid cid kind first cid_octets rest within spelled

pub parts_from_ends : (size : CidKind) (max_cid : ℕ) (r : List ℕ) (header : Option Header) → EndsInHeader size max_cid r header → header_parts size max_cid r ≡ Ok header
unfolding header_parts
parts_from_ends Small max_cid r None e = rw e refl
parts_from_ends Large max_cid r None e = rw e refl
parts_from_ends size max_cid r (Some h) is =
    rw (← is.sized, is.whole) (placed_parts h.size max_cid h.cid h.kind h.first h.cid_octets h.rest is.within is.spelled)

-- and no item stands at its front
kind_no_item : (kind : HeadKind) (first : ℕ) (octets : List ℕ) → is_kind kind first ≡ true → first_item (first ∷ octets) ≡ None
unfolding first_item
kind_no_item (Ir true) first octets e = grind (arith, nat_tests)
kind_no_item (Ir false) first octets e = grind (arith, nat_tests)
kind_no_item IrDyn first octets e = grind (arith, nat_tests)
kind_no_item Other first octets e = grind (arith, nat_tests)

placed_no_item : (size : CidKind) (cid : ℕ) (kind : HeadKind) (first : ℕ) (cid_octets rest : List ℕ) → is_header size cid kind first cid_octets ≡ true → first_item (placed size cid_octets first rest) ≡ None
unfolding first_item
placed_no_item Small cid kind first [] rest spelled = kind_no_item kind first rest (grind (arith, nat_tests))
placed_no_item Small cid kind first (a ∷ []) rest spelled = grind (arith, nat_tests)
placed_no_item Small cid kind first (a ∷ b ∷ octets) rest spelled = cc
placed_no_item Large cid kind first octets rest spelled = kind_no_item kind first (octets ++ rest) (grind (arith, nat_tests))

pub ends_no_item : (size : CidKind) (max_cid : ℕ) (r : List ℕ) (header : Option Header) → EndsInHeader size max_cid r header → first_item r ≡ None
unfolding first_item
ends_no_item size max_cid r None e = rw e refl
ends_no_item size max_cid r (Some h) is = rw is.whole (placed_no_item h.size h.cid h.kind h.first h.cid_octets h.rest is.spelled)
