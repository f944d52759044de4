-- Whole packets: what is read from them is what their octets spell.
use Rattle.std.proofs.Common.{◌≡◌, ℕ, ◌-◌, ◌≤◌, Bool, true, false, List, [], ◌∷◌, ◌++◌, length, take, drop, get_or, Option, Some, None, Result, Ok, Err, refl, sym, ap, subst, ◌∙◌, append_assoc, length-append, arith}
use Rattle.std.specs.Prelude.{◌==◌, All, nat_le, if◌then◌else◌, IfOk, IfErr}
use Rattle.std.specs.Result.{result_map_both, result_err}
use Rattle.std.proofs.Math.Seq.{take-append_seam}
use Rattle.std.proofs.lemmas.Bool.{eqb-true, eq-eqb}
use Rattle.std.proofs.lemmas.Bool.Decides.{nat_tests}
use Rattle.std.proofs.lemmas.List.{append-nil, nil_from_length}
use Rattle.rohc_bits.specs.Reading.{judged, next_octet}
use Rattle.rohc_frame.specs.declared.header.HeadKind.{HeadKind}
use Rattle.rohc_frame.specs.declared.header.HeadKind.TheVariants.{Ir, IrDyn, Other}
use Rattle.rohc_frame.specs.Header.{Header}
use Rattle.rohc_header.specs.declared.fields.Static.{Static}
use Rattle.rohc_header.specs.declared.fields.Dynamic.{Dynamic}
use Rattle.rohc_chain.specs.declared.packet.Ir as lent
use Rattle.rohc_chain.specs.declared.packet.IrDyn as lent_dyn
use Rattle.rohc_chain.specs.declared.parts.Kept.{Kept}
use Rattle.rohc_chain.specs.declared.refusal.ChainRefusal.{ChainRefusal}
use Rattle.rohc_chain.specs.declared.refusal.ChainRefusal.TheVariants.{Truncated, Profile, ProfileChange, Trailing, TooLong, Check}
use Rattle.rohc_chain.specs.Octets.{read, octet_at}
use Rattle.rohc_chain.specs.Faults.{ir_profile_fault, dyn_profile_fault}
use Rattle.rohc_chain.specs.Chains.{judged_octet, static_at, dynamic_at}
use Rattle.rohc_chain.specs.Packets.{longest_payload, IrContent, Plain, StaticOnly, Whole, ir_content, DynContent, dyn_content, IsIr, IsIrDyn, is_dynamic, plain_cover, cover, fits, before, nothing_kept, length_fault, check_fault, ended, plain_at, static_only_at, whole_at, chains_at, ir_at, ir_dyn_at}
use Rattle.rohc_chain.specs.ChainText.{SpellsStatic, SpellsDynamic}
use Rattle.rohc_chain.specs.Texts.{check_of, IsPlainText, IsStaticText, IsWholeText, IsIrText, IsIrDynText, IsShort, ir_fault, ir_dyn_fault}
use Rattle.rohc_bits.proofs.Steps.{ok_parts, bind_ok, octet_found, judged_ok, judged_found}
use Rattle.rohc_chain.proofs.Values.{IsOctet}
use Rattle.rohc_chain.proofs.FaultLemmas.{ir_faults, ir_dyn_faults}
use Rattle.rohc_chain.proofs.SpelledLemmas.{static_read, dynamic_read}
use Rattle.rohc_chain.proofs.FoundLemmas.{one_found, unless_none, static_found, dynamic_found}

-- what stands before the end of a text
before_end : (front behind : List ℕ) → before behind (front ++ behind) ≡ front
before_end front behind =
    let count : length (front ++ behind) - length behind ≡ length front = omega (arith, length-append front behind) in
    ap (λ (n : ℕ). take n (front ++ behind)) count ∙ take-append_seam front behind

-- What the octets spell is read.

check_fits : (covered : List ℕ) → check_fault (check_of covered) covered ≡ None
check_fits covered = rw (eq-eqb (check_of covered) (check_of covered) refl) refl

plain_read : (h : Header) (packet : List ℕ) → IsPlainText h packet → ir_at h ≡ Ok (Plain packet)
unfolding ir_at next_octet
plain_read h packet is = rw (is.whole, is.kind, check_fits (plain_cover h)) refl

static_text_read : (h : Header) (fixed : Static) → IsStaticText h fixed → ir_at h ≡ Ok (StaticOnly fixed)
unfolding ir_at next_octet static_only_at
static_text_read h fixed is =
    let chains : read static_at is.chains ≡ Ok (fixed, []) = ap (read static_at) (sym (append-nil is.chains)) ∙ static_read fixed is.chains [] is.spells_static in
    rw (is.whole, is.kind, chains, check_fits (cover h is.chains)) refl

short : (payload : List ℕ) → length payload ≤ longest_payload → length_fault payload ≡ None
short payload l =
    let test : nat_le (length payload) longest_payload ≡ true = grind (arith, nat_tests) in
    rw test refl

whole_text_read : (h : Header) (fixed : Static) (moving : Dynamic) (payload : List ℕ) → IsWholeText h fixed moving payload → length payload ≤ longest_payload → ir_at h ≡ Ok (Whole fixed moving payload)
unfolding ir_at next_octet whole_at
whole_text_read h fixed moving payload is l =
    let first : read static_at (is.static_chain ++ (is.dynamic_chain ++ payload)) ≡ Ok (fixed, is.dynamic_chain ++ payload) = static_read fixed is.static_chain (is.dynamic_chain ++ payload) is.spells_static in
    let second : read (dynamic_at nothing_kept) (is.dynamic_chain ++ payload) ≡ Ok (moving, payload) = dynamic_read nothing_kept moving is.dynamic_chain payload is.spells_dynamic in
    let chains : before payload (is.static_chain ++ (is.dynamic_chain ++ payload)) ≡ is.static_chain ++ is.dynamic_chain =
    ap (before payload) (sym (append_assoc is.static_chain is.dynamic_chain payload)) ∙ before_end (is.static_chain ++ is.dynamic_chain) payload in
    rw (is.whole, is.kind, first, second, short payload l, chains, check_fits (cover h (is.static_chain ++ is.dynamic_chain))) refl

pub ir_from_text : (h : Header) (content : IrContent) → IsIrText h content → IsShort content → ir_at h ≡ Ok content
ir_from_text h (Plain packet) is l = plain_read h packet is
ir_from_text h (StaticOnly fixed) is l = static_text_read h fixed is
ir_from_text h (Whole fixed moving payload) is l = whole_text_read h fixed moving payload is l

pub dyn_from_text : (h : Header) (profile : ℕ) (kept : Kept) (packet : DynContent) → IsIrDynText h profile kept packet → length packet.payload ≤ longest_payload → ir_dyn_at h profile kept ≡ Ok packet
unfolding ir_dyn_at next_octet
dyn_from_text h profile kept packet is l =
    let moving : read (dynamic_at kept) (is.chain ++ packet.payload) ≡ Ok (packet.moving, packet.payload) = dynamic_read kept packet.moving is.chain packet.payload is.spells_dynamic in
    rw (is.for_profile_1, is.whole, moving, short packet.payload l, before_end is.chain packet.payload, check_fits (cover h is.chain)) refl

-- What is read the octets spell.

kind_is : (kind : HeadKind) (dynamic : Bool) → IsIr kind → is_dynamic kind ≡ dynamic → kind ≡ Ir dynamic
kind_is (Ir given) dynamic is e = ap Ir e
kind_is IrDyn dynamic is e = absurd is
kind_is Other dynamic is e = absurd is

-- the check that fits stands in its place
fitting : (octet : ℕ) (covered : List ℕ) → check_fault octet covered ≡ None → octet ≡ check_of covered
fitting octet covered e = sym (eqb-true _ _ (unless_none (fits octet covered) Check e))

plain_found : (h : Header) (octet : ℕ) (packet : List ℕ) (content : IrContent) → h.kind ≡ Ir false → h.rest ≡ 0 ∷ octet ∷ packet →
    plain_at h octet packet ≡ Ok content → IsIrText h content × IsShort content
plain_found h octet packet content kind whole e =
    let j = judged_ok (check_fault octet (plain_cover h)) (Plain packet) content e in
    let place = fitting octet (plain_cover h) j.0 in
    subst (λ (c : IrContent). IsIrText h c × IsShort c) j.1
    (record { kind = kind; whole = whole ∙ ap (λ (o : ℕ). 0 ∷ o ∷ packet) place }, tt)

static_text_found : (h : Header) (octet : ℕ) (text : List ℕ) (content : IrContent) → All IsOctet text → h.kind ≡ Ir false → h.rest ≡ 1 ∷ octet ∷ text →
    static_only_at h octet text ≡ Ok content → IsIrText h content × IsShort content
unfolding static_only_at
static_text_found h octet text content all kind whole e =
    let a = bind_ok (read static_at text) _ content e in
    let b = bind_ok (judged (ended a.0.1) a.0.1) _ content a.2 in
    let end = judged_ok (ended a.0.1) a.0.1 b.0 b.1 in
    let j = judged_ok (check_fault octet (cover h text)) (StaticOnly a.0.0) content b.2 in
    let found = static_found text a.0 all a.1 in
    let nothing : a.0.1 ≡ [] = nil_from_length a.0.1 (eqb-true _ _ (unless_none (length a.0.1 == 0) Trailing end.0)) in
    let same : text ≡ found.0 = found.1.whole ∙ ap (λ (t : List ℕ). found.0 ++ t) nothing ∙ append-nil found.0 in
    let place = fitting octet (cover h text) j.0 in
    subst (λ (c : IrContent). IsIrText h c × IsShort c) j.1
    (record { chains = text; kind = kind; spells_static = subst (SpellsStatic a.0.0) (sym same) found.2; whole = whole ∙ ap (λ (o : ℕ). 1 ∷ o ∷ text) place }, tt)

not_long : (payload : List ℕ) → length_fault payload ≡ None → length payload ≤ longest_payload
not_long payload e =
    let test : nat_le (length payload) longest_payload ≡ true = unless_none (nat_le (length payload) longest_payload) TooLong e in
    grind (arith, nat_tests)

whole_text_found : (h : Header) (octet : ℕ) (text : List ℕ) (content : IrContent) → All IsOctet text → h.kind ≡ Ir true → h.rest ≡ 1 ∷ octet ∷ text →
    whole_at h octet text ≡ Ok content → IsIrText h content × IsShort content
unfolding whole_at
whole_text_found h octet text content all kind whole e =
    let a = bind_ok (read static_at text) _ content e in
    let b = bind_ok (read (dynamic_at nothing_kept) a.0.1) _ content a.2 in
    let l = bind_ok (judged (length_fault b.0.1) b.0.1) _ content b.2 in
    let enough = judged_ok (length_fault b.0.1) b.0.1 l.0 l.1 in
    let j = judged_ok (check_fault octet (cover h (before b.0.1 text))) (Whole a.0.0 b.0.0 b.0.1) content l.2 in
    let fa = static_found text a.0 all a.1 in
    let fb = dynamic_found nothing_kept a.0.1 b.0 fa.1.octets b.1 in
    let parts : text ≡ fa.0 ++ (fb.0 ++ b.0.1) = fa.1.whole ∙ ap (λ (t : List ℕ). fa.0 ++ t) fb.1.whole in
    let chains : before b.0.1 text ≡ fa.0 ++ fb.0 = ap (before b.0.1) (parts ∙ sym (append_assoc fa.0 fb.0 b.0.1)) ∙ before_end (fa.0 ++ fb.0) b.0.1 in
    let place : octet ≡ check_of (cover h (fa.0 ++ fb.0)) = fitting octet (cover h (before b.0.1 text)) j.0 ∙ ap (λ (t : List ℕ). check_of (cover h t)) chains in
    subst (λ (c : IrContent). IsIrText h c × IsShort c) j.1 (
      record {
        static_chain = fa.0;
        dynamic_chain = fb.0;
        kind = kind;
        spells_static = fa.2;
        spells_dynamic = fb.2;
        whole = whole ∙ ap (λ (o : ℕ). 1 ∷ o ∷ text) place ∙ ap (λ (t : List ℕ). 1 ∷ check_of (cover h (fa.0 ++ fb.0)) ∷ t) parts;
      },
      not_long b.0.1 enough.0,
    )

-- by what the Profile octet says
profile_found : (h : Header) (dynamic plain : Bool) (profile octet : ℕ) (text : List ℕ) (content : IrContent) → IsIr h.kind → All IsOctet text →
    is_dynamic h.kind ≡ dynamic → h.rest ≡ profile ∷ octet ∷ text → (profile == 0) ≡ plain → ir_profile_fault dynamic profile ≡ None →
    (if profile == 0 then plain_at h octet text else chains_at h dynamic octet text) ≡ Ok content → IsIrText h content × IsShort content
profile_found h true true profile octet text content is all d whole p fault e =
    let none : ◌≡◌ {A = Option ChainRefusal} (Some Profile) None = rw p at fault in cc
profile_found h false true profile octet text content is all d whole p fault e =
    let zero : profile ≡ 0 = eqb-true _ _ p in
    plain_found h octet text content (kind_is h.kind false is d) (whole ∙ ap (λ (o : ℕ). o ∷ octet ∷ text) zero) (rw p at e)
profile_found h true false profile octet text content is all d whole p fault e =
    let one : profile ≡ 1 = eqb-true _ _ (unless_none (profile == 1) Profile (rw p at fault)) in
    whole_text_found h octet text content all (kind_is h.kind true is d) (whole ∙ ap (λ (o : ℕ). o ∷ octet ∷ text) one) (rw p at e)
profile_found h false false profile octet text content is all d whole p fault e =
    let one : profile ≡ 1 = eqb-true _ _ (unless_none (profile == 1) Profile (rw p at fault)) in
    static_text_found h octet text content all (kind_is h.kind false is d) (whole ∙ ap (λ (o : ℕ). o ∷ octet ∷ text) one) (rw p at e)

pub ir_text : (h : Header) (content : IrContent) → IsIr h.kind → All IsOctet h.rest → ir_at h ≡ Ok content → IsIrText h content × IsShort content
unfolding ir_at
ir_text h content is all e =
    let a = bind_ok (judged_octet (ir_profile_fault (is_dynamic h.kind)) h.rest) _ content e in
    let b = bind_ok (octet_at a.0.1) _ content a.2 in
    let first = judged_found Truncated (ir_profile_fault (is_dynamic h.kind)) h.rest a.0 a.1 in
    let second = octet_found Truncated a.0.1 b.0 b.1 in
    let fa = one_found h.rest a.0.0 a.0.1 all first.0 in
    let fb = one_found a.0.1 b.0.0 b.0.1 fa.0.octets second in
    profile_found h (is_dynamic h.kind) (a.0.0 == 0) a.0.0 b.0.0 b.0.1 content is fb.0.octets refl (first.0 ∙ ap (λ (t : List ℕ). a.0.0 ∷ t) second) refl first.1 b.2

-- the Profile octet is 01, and the context's profile 1
dyn_profiles : (given known : Bool) (profile octet : ℕ) → profile ≤ 1 → (octet == 1) ≡ given → (profile == 0) ≡ known → dyn_profile_fault profile octet ≡ None → (octet ≡ 1) × (profile ≡ 1)
dyn_profiles true true profile octet l o p e = let none : ◌≡◌ {A = Option ChainRefusal} (Some ProfileChange) None = rw (o, p) at e in cc
dyn_profiles true false profile octet l o p e = (eqb-true _ _ o, grind (arith, nat_tests))
dyn_profiles false known profile octet l o p e = let none : ◌≡◌ {A = Option ChainRefusal} (Some Profile) None = rw o at e in cc

ir_dyn_kind : (kind : HeadKind) → IsIrDyn kind → kind ≡ IrDyn
ir_dyn_kind (Ir dynamic) is = absurd is
ir_dyn_kind IrDyn is = refl
ir_dyn_kind Other is = absurd is

pub dyn_text : (h : Header) (profile : ℕ) (kept : Kept) (packet : DynContent) → IsIrDyn h.kind → profile ≤ 1 → All IsOctet h.rest → ir_dyn_at h profile kept ≡ Ok packet →
    IsIrDynText h profile kept packet × (length packet.payload ≤ longest_payload)
unfolding ir_dyn_at
dyn_text h profile kept packet is low all e =
    let a = bind_ok (judged_octet (dyn_profile_fault profile) h.rest) _ packet e in
    let b = bind_ok (octet_at a.0.1) _ packet a.2 in
    let d = bind_ok (read (dynamic_at kept) b.0.1) _ packet b.2 in
    let l = bind_ok (judged (length_fault d.0.1) d.0.1) _ packet d.2 in
    let first = judged_found Truncated (dyn_profile_fault profile) h.rest a.0 a.1 in
    let second = octet_found Truncated a.0.1 b.0 b.1 in
    let fa = one_found h.rest a.0.0 a.0.1 all first.0 in
    let fb = one_found a.0.1 b.0.0 b.0.1 fa.0.octets second in
    let fd = dynamic_found kept b.0.1 d.0 fb.0.octets d.1 in
    let enough = judged_ok (length_fault d.0.1) d.0.1 l.0 l.1 in
    let made : DynContent = record { moving = d.0.0; payload = d.0.1 } in
    let j = judged_ok (check_fault b.0.0 (cover h (before d.0.1 b.0.1))) made packet l.2 in
    let profiles = dyn_profiles (a.0.0 == 1) (profile == 0) profile a.0.0 low refl refl first.1 in
    let chain : before d.0.1 b.0.1 ≡ fd.0 = ap (before d.0.1) fd.1.whole ∙ before_end fd.0 d.0.1 in
    let place : b.0.0 ≡ check_of (cover h fd.0) = fitting b.0.0 (cover h (before d.0.1 b.0.1)) j.0 ∙ ap (λ (t : List ℕ). check_of (cover h t)) chain in
    subst (λ (p : DynContent). IsIrDynText h profile kept p × (length p.payload ≤ longest_payload)) j.1 (
      record {
        chain = fd.0;
        kind = ir_dyn_kind h.kind is;
        for_profile_1 = profiles.1;
        spells_dynamic = fd.2;
        whole = first.0 ∙ ap (λ (t : List ℕ). a.0.0 ∷ t) second ∙ ap (λ (o : ℕ). o ∷ b.0.0 ∷ b.0.1) profiles.0 ∙ ap (λ (o : ℕ). 1 ∷ o ∷ b.0.1) place
            ∙ ap (λ (t : List ℕ). 1 ∷ check_of (cover h fd.0) ∷ t) fd.1.whole;
      },
      not_long d.0.1 enough.0,
    )

-- A packet says one thing at most.

-- the octets behind the check octet
same_text : (h : Header) (a b c d : ℕ) (text other : List ℕ) → h.rest ≡ a ∷ b ∷ text → h.rest ≡ c ∷ d ∷ other → text ≡ other
same_text h a b c d text other e f = ap (λ (t : List ℕ). drop 2 t) (sym e ∙ f)

-- and the Profile octet
same_profile : (h : Header) (a b : ℕ) (text other : List ℕ) → h.rest ≡ a ∷ text → h.rest ≡ b ∷ other → a ≡ b
same_profile h a b text other e f = ap (λ (t : List ℕ). get_or t 0 0) (sym e ∙ f)

dynamic_or_not : (h : Header) → h.kind ≡ Ir true → h.kind ≡ Ir false → ⊥
dynamic_or_not h e f = let same : true ≡ false = ap is_dynamic (sym e ∙ f) in cc

zero_or_one : (h : Header) (text other : List ℕ) → h.rest ≡ 0 ∷ text → h.rest ≡ 1 ∷ other → ⊥
zero_or_one h text other e f = let same : ◌≡◌ {A = ℕ} 0 1 = same_profile h 0 1 text other e f in omega arith

one_static : (h : Header) (a b : Static) → IsStaticText h a → IsStaticText h b → a ≡ b
one_static h a b is also =
    let same = same_text h 1 _ 1 _ is.chains also.chains is.whole also.whole in
    (ok_parts a b [] [] (sym (static_read a is.chains [] is.spells_static) ∙ ap (λ (t : List ℕ). read static_at (t ++ [])) same ∙ static_read b also.chains [] also.spells_static)).0

one_moving : (kept : Kept) (a b : Dynamic) (left right first second : List ℕ) → SpellsDynamic kept a left → SpellsDynamic kept b right → left ++ first ≡ right ++ second → (a ≡ b) × (first ≡ second)
one_moving kept a b left right first second is also same =
    ok_parts a b first second (sym (dynamic_read kept a left first is) ∙ ap (read (dynamic_at kept)) same ∙ dynamic_read kept b right second also)

one_whole : (h : Header) (a b : Static) (d f : Dynamic) (p q : List ℕ) → IsWholeText h a d p → IsWholeText h b f q → (a ≡ b) × (d ≡ f) × (p ≡ q)
one_whole h a b d f p q is also =
    let same = same_text h 1 _ 1 _ (is.static_chain ++ (is.dynamic_chain ++ p)) (also.static_chain ++ (also.dynamic_chain ++ q)) is.whole also.whole in
    let first = ok_parts a b (is.dynamic_chain ++ p) (also.dynamic_chain ++ q) (sym (static_read a is.static_chain (is.dynamic_chain ++ p) is.spells_static) ∙ ap (read static_at) same ∙ static_read b also.static_chain (also.dynamic_chain ++ q) also.spells_static) in
    let second = one_moving nothing_kept d f is.dynamic_chain also.dynamic_chain p q is.spells_dynamic also.spells_dynamic first.1 in
    (first.0, second.0, second.1)

pub ir_one : (h : Header) (a b : IrContent) → IsIrText h a → IsIrText h b → a ≡ b
ir_one h (Plain a) (Plain b) is also = ap Plain (same_text h 0 _ 0 _ a b is.whole also.whole)
ir_one h (Plain a) (StaticOnly b) is also = absurd (zero_or_one h _ _ is.whole also.whole)
ir_one h (Plain a) (Whole b c d) is also = absurd (dynamic_or_not h also.kind is.kind)
ir_one h (StaticOnly a) (Plain b) is also = absurd (zero_or_one h _ _ also.whole is.whole)
ir_one h (StaticOnly a) (StaticOnly b) is also = ap StaticOnly (one_static h a b is also)
ir_one h (StaticOnly a) (Whole b c d) is also = absurd (dynamic_or_not h also.kind is.kind)
ir_one h (Whole a c d) (Plain b) is also = absurd (dynamic_or_not h is.kind also.kind)
ir_one h (Whole a c d) (StaticOnly b) is also = absurd (dynamic_or_not h is.kind also.kind)
ir_one h (Whole a c d) (Whole b e f) is also =
    let same = one_whole h a b c e d f is also in
    rw (same.0, same.1, same.2) refl

pub dyn_one : (h : Header) (profile : ℕ) (kept : Kept) (a b : DynContent) → IsIrDynText h profile kept a → IsIrDynText h profile kept b → a ≡ b
dyn_one h profile kept a b is also =
    let same = same_text h 1 _ 1 _ (is.chain ++ a.payload) (also.chain ++ b.payload) is.whole also.whole in
    let parts = one_moving kept a.moving b.moving is.chain also.chain a.payload b.payload is.spells_dynamic also.spells_dynamic same in
    let made : Dynamic → List ℕ → DynContent = λ m p. record { moving = m; payload = p } in
    ap (λ (m : Dynamic). made m a.payload) parts.0 ∙ ap (made b.moving) parts.1

-- The contract of a reader whose result is what the definitions give.

-- the value that it returns
ok_said : {A B : Type 0} (view : A → B) (r : Result A ChainRefusal) (read : Result B ChainRefusal) (P : B → Type 0) → result_map_both view (λ e. e) r ≡ read → ((x : B) → read ≡ Ok x → P x) → IfOk r (λ x. P (view x))
ok_said view (Ok x) read P e holds = holds (view x) (sym e)
ok_said view (Err refusal) read P e holds = tt

-- the error that it returns
err_said : {A B : Type 0} (view : A → B) (r : Result A ChainRefusal) (read : Result B ChainRefusal) (fault : Option ChainRefusal) → result_map_both view (λ e. e) r ≡ read → fault ≡ result_err read → IfErr r (λ e. fault ≡ Some e)
err_said view (Ok x) read fault e same = tt
err_said view (Err refusal) read fault e same = same ∙ ap result_err (sym e)

-- of an IR
module _ (h : Header) (r : Result lent.Ir ChainRefusal) (e : result_map_both ir_content (λ e. e) r ≡ ir_at h) where
  pub ir_said : IsIr h.kind → All IsOctet h.rest → IfOk r (λ ir. IsIrText h (ir_content ir))
  ir_said is all = ok_said ir_content r (ir_at h) (IsIrText h) e (λ content read. (ir_text h content is all read).0)

  pub ir_short : IsIr h.kind → All IsOctet h.rest → IfOk r (λ ir. IsShort (ir_content ir))
  ir_short is all = ok_said ir_content r (ir_at h) IsShort e (λ content read. (ir_text h content is all read).1)

  pub ir_only : (content : IrContent) → IsIrText h content → IsShort content → result_map_both ir_content (λ e. e) r ≡ Ok content
  ir_only content is l = e ∙ ir_from_text h content is l

  pub ir_refused : IfErr r (λ e. ir_fault h ≡ Some e)
  ir_refused = err_said ir_content r (ir_at h) (ir_fault h) e (ir_faults h)

-- of an IR-DYN
module _ (h : Header) (profile : ℕ) (kept : Kept) (r : Result lent_dyn.IrDyn ChainRefusal) (e : result_map_both dyn_content (λ e. e) r ≡ ir_dyn_at h profile kept) where
  pub dyn_said : IsIrDyn h.kind → profile ≤ 1 → All IsOctet h.rest → IfOk r (λ packet. IsIrDynText h profile kept (dyn_content packet))
  dyn_said is low all = ok_said dyn_content r (ir_dyn_at h profile kept) (IsIrDynText h profile kept) e (λ packet read. (dyn_text h profile kept packet is low all read).0)

  pub dyn_short : IsIrDyn h.kind → profile ≤ 1 → All IsOctet h.rest → IfOk r (λ packet. length packet.payload.now ≤ longest_payload)
  dyn_short is low all = ok_said dyn_content r (ir_dyn_at h profile kept) (λ packet. length packet.payload ≤ longest_payload) e (λ packet read. (dyn_text h profile kept packet is low all read).1)

  pub dyn_only : (packet : DynContent) → IsIrDynText h profile kept packet → length packet.payload ≤ longest_payload → result_map_both dyn_content (λ e. e) r ≡ Ok packet
  dyn_only packet is l = e ∙ dyn_from_text h profile kept packet is l

  pub dyn_refused : IfErr r (λ e. ir_dyn_fault h profile ≡ Some e)
  dyn_refused = err_said dyn_content r (ir_dyn_at h profile kept) (ir_dyn_fault h profile) e (ir_dyn_faults h profile kept)
