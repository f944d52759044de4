-- A packet is refused by the first fault among its pieces, else by the last one.
use Rattle.std.proofs.Common.{◌≡◌, ℕ, ◌-◌, Bool, true, false, List, [], ◌∷◌, length, Option, Some, None, Result, Ok, Err, refl, sym, ap, ◌∙◌, arith}
use Rattle.std.specs.Prelude.{◌==◌, ◌↔◌, if◌then◌else◌}
use Rattle.std.specs.Result.{result_err}
use Rattle.std.proofs.lemmas.Bool.Decides.{nat_tests}
use Rattle.std.proofs.lemmas.List.{take_all}
use Rattle.rohc_bits.specs.Reading.{◌>>=◌, judged, bit}
use Rattle.rohc_bits.specs.Grammar.{Says, Which, As, or_else, fault_after}
use Rattle.rohc_frame.specs.Header.{Header}
use Rattle.rohc_chain.specs.declared.parts.Kept.{Kept}
use Rattle.rohc_chain.specs.declared.refusal.ChainRefusal.{ChainRefusal}
use Rattle.rohc_chain.specs.declared.refusal.ChainRefusal.TheVariants.{Truncated}
use Rattle.rohc_chain.specs.Octets.{ChainPiece, read, octet_at, word_at, quad_at}
use Rattle.rohc_chain.specs.Faults.{ir_profile_fault, dyn_profile_fault, csrc_list_fault, rtp_fault, mode_fault}
use Rattle.rohc_chain.specs.Chains.{judged_octet, ip_dynamic_at, stride_at, behind_time_stride, flags_at, rtp_dynamic_at, static_at, dynamic_at}
use Rattle.rohc_chain.specs.Packets.{IrContent, is_dynamic, cover, plain_cover, before, nothing_kept, length_fault, check_fault, ended, plain_at, static_only_at, whole_at, chains_at, ir_at, ir_dyn_at}
use Rattle.rohc_chain.specs.Texts.{last_fault, last_ir_fault, chain_pieces, ir_pieces, ir_dyn_pieces, fault_among, ir_fault, ir_dyn_fault}
use Rattle.rohc_bits.proofs.Steps.{octet_found, judged_found}
use Rattle.rohc_bits.proofs.GrammarLemmas.{fault_in, is_first_fault}

-- the refusal of a reading, else the fault that is judged last
abbrev pub faulted : {A : Type 0} → (List ℕ → Option ChainRefusal) → Result (A × List ℕ) ChainRefusal → Option ChainRefusal
faulted last (Ok x) = last x.1
faulted last (Err refusal) = Some refusal

faulted_by : {A : Type 0} (last : List ℕ → Option ChainRefusal) (r : Result (A × List ℕ) ChainRefusal) → or_else (fault_in r) (fault_after r (λ _ payload. last payload)) ≡ faulted last r
faulted_by last (Ok x) = refl
faulted_by last (Err refusal) = refl

among_is : {A : Type 0} (last : List ℕ → Option ChainRefusal) (pieces : ChainPiece A) (text : List ℕ) → fault_among last pieces text ≡ faulted last (read pieces text)
among_is last pieces text =
    ap (λ f. or_else f (fault_after (read pieces text) (λ _ payload. last payload))) (sym (is_first_fault Truncated pieces text)) ∙ faulted_by last (read pieces text)

-- a step that both have in common
same_step : {A B C : Type 0} (last : List ℕ → Option ChainRefusal) (r : Result A ChainRefusal) (g : A → Result (C × List ℕ) ChainRefusal) (f : A → Result B ChainRefusal) →
    ((x : A) → r ≡ Ok x → faulted last (g x) ≡ result_err (f x)) → faulted last (r >>= g) ≡ result_err (r >>= f)
same_step last (Ok x) g f same = same x refl
same_step last (Err refusal) g f same = refl

judged_fault : {A : Type 0} (fault : Option ChainRefusal) (x : A) → fault ≡ result_err (judged fault x)
judged_fault None x = refl
judged_fault (Some refusal) x = refl

two_faults : {A B : Type 0} (first later : Option ChainRefusal) (x : A) (y : B) → or_else first later ≡ result_err (judged first x >>= λ _. judged later y)
two_faults None later x y = judged_fault later y
two_faults (Some refusal) later x y = refl

pub all_before : (text : List ℕ) → before [] text ≡ text
all_before text = take_all (length text - 0) text (omega arith)

-- behind the static chain of an IR without a dynamic one
static_end : (h : Header) (octet : ℕ) (text behind : List ℕ) (content : IrContent) →
    or_else (ended behind) (or_else (length_fault behind) (check_fault octet (cover h (before behind text))))
    ≡ result_err (judged (ended behind) behind >>= λ _. judged (check_fault octet (cover h text)) content)
static_end h octet text [] content = ap (λ (t : List ℕ). check_fault octet (cover h t)) (all_before text) ∙ judged_fault (check_fault octet (cover h text)) content
static_end h octet text (b ∷ behind) content =
    let more : (length (b ∷ behind) == 0) ≡ false = grind (arith, nat_tests) in
    rw more refl

-- the chains of profile 0x0001
chains_faults : (h : Header) (dynamic : Bool) (octet : ℕ) (text : List ℕ) (last : List ℕ → Option ChainRefusal) →
    ((payload : List ℕ) → last payload ≡ or_else (if dynamic then None else ended payload) (or_else (length_fault payload) (check_fault octet (cover h (before payload text))))) →
    faulted last (read static_at text >>= λ x. read (Which dynamic (As (λ _. tt) (dynamic_at nothing_kept)) (Says (tt {0}))) x.1) ≡ result_err (chains_at h dynamic octet text)
unfolding static_only_at whole_at
chains_faults h false octet text last e = same_step last (read static_at text) _ _ (λ x _. e x.1 ∙ static_end h octet text x.1 _)
chains_faults h true octet text last e =
    same_step last (read static_at text) _ _ (λ x _.
    same_step last (read (dynamic_at nothing_kept) x.1) _ _ (λ y _. e y.1 ∙ two_faults (length_fault y.1) _ y.1 _))

-- behind the check octet of an IR
chain_faults : (h : Header) (plain : Bool) (profile octet : ℕ) (text : List ℕ) → h.rest ≡ profile ∷ octet ∷ text → (profile == 0) ≡ plain →
    faulted (last_ir_fault h) (read (chain_pieces (is_dynamic h.kind) profile) text)
    ≡ result_err (if profile == 0 then plain_at h octet text else chains_at h (is_dynamic h.kind) octet text)
chain_faults h true profile octet text is e = rw (e, is, e) (judged_fault (check_fault octet (plain_cover h)) _)
chain_faults h false profile octet text is e = rw e (chains_faults h (is_dynamic h.kind) octet text (last_ir_fault h) (λ payload. rw (is, e) refl))

-- the Profile octet and the check octet, which both read, and then steps with the same fault
two_octets : {B C : Type 0} (last : List ℕ → Option ChainRefusal) (fault : ℕ → Option ChainRefusal) (more : ℕ → ChainPiece C) (rest : List ℕ) (f : ℕ → ℕ → List ℕ → Result B ChainRefusal) →
    ((profile octet : ℕ) (text : List ℕ) → rest ≡ profile ∷ octet ∷ text → faulted last (read (more profile) text) ≡ result_err (f profile octet text)) →
    faulted last (judged_octet fault rest >>= λ x. octet_at x.1 >>= λ y. read (more x.0) y.1)
    ≡ result_err (judged_octet fault rest >>= λ x. octet_at x.1 >>= λ y. f x.0 y.0 y.1)
two_octets last fault more rest f same =
    same_step last (judged_octet fault rest) _ _ (λ x found.
    same_step last (octet_at x.1) _ _ (λ y behind.
    same x.0 y.0 y.1 ((judged_found Truncated fault rest x found).0 ∙ ap (λ text. x.0 ∷ text) (octet_found Truncated x.1 y behind))))

pub ir_faults : (h : Header) → ir_fault h ≡ result_err (ir_at h)
unfolding ir_at
ir_faults h =
    among_is (last_ir_fault h) (ir_pieces (is_dynamic h.kind)) h.rest
    ∙ two_octets (last_ir_fault h) (ir_profile_fault (is_dynamic h.kind)) (chain_pieces (is_dynamic h.kind)) h.rest _ (λ profile octet text is. chain_faults h (profile == 0) profile octet text is refl)

-- where a reading ends, or its refusal
abbrev pub end_of : {A : Type 0} → Result (A × List ℕ) ChainRefusal → Result (List ℕ) ChainRefusal
end_of (Ok x) = Ok x.1
end_of (Err refusal) = Err refusal

same_end : {A B : Type 0} (r : Result A ChainRefusal) (f g : A → Result (B × List ℕ) ChainRefusal) → ((x : A) → end_of (f x) ≡ end_of (g x)) → end_of (r >>= f) ≡ end_of (r >>= g)
same_end (Ok x) f g same = same x
same_end (Err refusal) f g same = refl

-- the same values are kept or given
then_end : {A B : Type 0} (r s : Result (A × List ℕ) ChainRefusal) (f g : A × List ℕ → Result (B × List ℕ) ChainRefusal) → end_of r ≡ end_of s →
    ((x y : A) (text : List ℕ) → end_of (f (x, text)) ≡ end_of (g (y, text))) → end_of (r >>= f) ≡ end_of (s >>= g)
then_end (Ok (x, a)) (Ok (y, b)) f g e same = let is : a ≡ b = cc in ap (λ (t : List ℕ). end_of (f (x, t))) is ∙ same x y b
then_end (Ok x) (Err refusal) f g e same = cc
then_end (Err refusal) (Ok x) f g e same = cc
then_end (Err refusal) (Err other) f g e same = cc

stride_end : (kept other : Option ℕ) (flags : ℕ) (text : List ℕ) (named : Bool) → bit 0 flags ≡ named → end_of (read (stride_at kept flags) text) ≡ end_of (read (stride_at other flags) text)
unfolding stride_at
stride_end kept other flags text true e = rw e refl
stride_end kept other flags text false e = rw e refl

flags_end : (kept other : Kept) (named : Bool) (text : List ℕ) → end_of (read (flags_at kept named) text) ≡ end_of (read (flags_at other named) text)
unfolding flags_at
flags_end kept other true text =
    same_end (judged_octet mode_fault text) _ _ (λ a.
    then_end (read (stride_at kept.stride a.0) a.1) (read (stride_at other.stride a.0) a.1) _ _ (stride_end kept.stride other.stride a.0 a.1 (bit 0 a.0) refl) (λ x y behind.
    same_end (read (behind_time_stride a.0) behind) _ _ (λ b. refl)))
flags_end kept other false text = refl

rtp_end : (kept other : Kept) (text : List ℕ) → end_of (read (rtp_dynamic_at kept) text) ≡ end_of (read (rtp_dynamic_at other) text)
unfolding rtp_dynamic_at
rtp_end kept other text =
    same_end (judged_octet rtp_fault text) _ _ (λ a.
    same_end (octet_at a.1) _ _ (λ b.
    same_end (word_at b.1) _ _ (λ c.
    same_end (read quad_at c.1) _ _ (λ d.
    same_end (judged_octet csrc_list_fault d.1) _ _ (λ e.
    then_end (read (flags_at kept (bit 4 a.0)) e.1) (read (flags_at other (bit 4 a.0)) e.1) _ _ (flags_end kept other (bit 4 a.0) e.1) (λ x y behind. refl))))))

dynamic_end : (kept other : Kept) (text : List ℕ) → end_of (read (dynamic_at kept) text) ≡ end_of (read (dynamic_at other) text)
unfolding dynamic_at
dynamic_end kept other text =
    same_end (read ip_dynamic_at text) _ _ (λ a.
    same_end (word_at a.1) _ _ (λ b.
    then_end (read (rtp_dynamic_at kept) b.1) (read (rtp_dynamic_at other) b.1) _ _ (rtp_end kept other b.1) (λ x y behind. refl)))

end_fault : {A : Type 0} (last : List ℕ → Option ChainRefusal) (r s : Result (A × List ℕ) ChainRefusal) → end_of r ≡ end_of s → faulted last r ≡ faulted last s
end_fault last (Ok x) (Ok y) e = let is : x.1 ≡ y.1 = cc in ap last is
end_fault last (Ok x) (Err refusal) e = cc
end_fault last (Err refusal) (Ok x) e = cc
end_fault last (Err refusal) (Err other) e = cc

read_on : {A : Type 0} (r : Result (A × List ℕ) ChainRefusal) → (r >>= λ x. Ok x) ≡ r
read_on (Ok x) = refl
read_on (Err refusal) = refl

pub ir_dyn_faults : (h : Header) (profile : ℕ) (kept : Kept) → ir_dyn_fault h profile ≡ result_err (ir_dyn_at h profile kept)
unfolding ir_dyn_at
ir_dyn_faults h profile kept =
    among_is (last_fault h) (ir_dyn_pieces profile) h.rest
    ∙ two_octets (last_fault h) (dyn_profile_fault profile) (λ _. dynamic_at nothing_kept) h.rest _ (λ given octet text is.
    end_fault (last_fault h) (read (dynamic_at nothing_kept) text) (read (dynamic_at kept) text) (dynamic_end nothing_kept kept text)
    ∙ ap (faulted (last_fault h)) (sym (read_on (read (dynamic_at kept) text)))
    ∙ same_step (last_fault h) (read (dynamic_at kept) text) _ _ (λ y _. rw is (two_faults (length_fault y.1) _ y.1 _)))

-- an error is one
err_is : {A : Type 0} (r : Result A ChainRefusal) (refusal : ChainRefusal) → result_err r ≡ Some refusal → r ≡ Err refusal
err_is (Ok x) refusal e = cc
err_is (Err other) refusal e = let same : other ≡ refusal = cc in ap Err same

pub refused : {A : Type 0} (r : Result A ChainRefusal) (fault : Option ChainRefusal) (refusal : ChainRefusal) → fault ≡ result_err r → (r ≡ Err refusal) ↔ (fault ≡ Some refusal)
refused r fault refusal same = (λ is. same ∙ ap result_err is, λ is. err_is r refusal (sym same ∙ is))
