-- A packet that is cut behind its header and some octets of its payload is read as before.
use Rattle.std.proofs.Common.{◌≡◌, ℕ, ◌+◌, ◌-◌, ◌==◌, Bool, true, false, if◌then◌else◌, List, [], ◌∷◌, ◌++◌, length, take, Option, None, Result, Ok, Err, arith, refl, sym, ap, subst, ◌∙◌, append_assoc, length-append}
use Rattle.std.specs.Prelude.{min, nat_le}
use Rattle.std.proofs.Math.Seq.{take-append-add}
use Rattle.std.proofs.lemmas.List.{append-nil, length-take, nil_from_length, take_at, take_min}
use Rattle.std.proofs.lemmas.Bool.{eqb-true}
use Rattle.std.proofs.lemmas.Bool.Decides.{nat_tests}
use Rattle.rohc_bits.specs.Reading.{◌>>=◌, judged, next_octet}
use Rattle.rohc_bits.specs.Grammar.{SaidBy}
use Rattle.rohc_bits.proofs.Steps.{bind_ok, judged_ok, judged_found, octet_found}
use Rattle.rohc_bits.proofs.GrammarLemmas.{found, gives}
use Rattle.rohc_frame.specs.Header.{Header}
use Rattle.rohc_header.specs.declared.fields.Static.{Static}
use Rattle.rohc_chain.specs.declared.refusal.ChainRefusal.{ChainRefusal}
use Rattle.rohc_chain.specs.declared.refusal.ChainRefusal.TheVariants.{Truncated, Trailing, TooLong}
use Rattle.rohc_chain.specs.Octets.{ChainPiece, read, octet_at, four_octets_at, quad_at}
use Rattle.rohc_chain.specs.Faults.{ir_profile_fault, dyn_profile_fault}
use Rattle.rohc_chain.specs.Chains.{judged_octet, ip_static_at, static_at, dynamic_at}
use Rattle.rohc_chain.specs.Packets.{longest_payload, IrContent, Plain, StaticOnly, Whole, DynContent, is_dynamic, kept_values, nothing_kept, plain_cover, cover, before, length_fault, check_fault, ended, plain_at, static_only_at, whole_at, chains_at, ir_at, ir_dyn_at}
use Rattle.rohc_chain.proofs.FoundLemmas.{unless_none}
use Rattle.rohc_forms.specs.declared.refusal.FormRefusal.TheVariants as form
use Rattle.rohc_forms.specs.Octets as octets
use Rattle.rohc_forms.specs.Content.{Content}
use Rattle.rohc_forms.specs.Packets.{header_at, content_in, form_at}
use Rattle.rohc_forms.proofs.SaysLemmas.{reads, form_together}
use Rattle.rohc_context.specs.Record.{Reference}
use Rattle.rohc_context.specs.Refresh.{kept_by, dyn_said}
use Rattle.rohc_context.specs.Update.{said_under}
use Rattle.rohc_context.specs.Excess.{ir_excess, dyn_read, form_read}
use Rattle.rohc_context.specs.ExcessLaws.{cut_by, padded, CutFormIsRead, CutDynIsRead, CutIrIsRead, PaddedStaticIsCut}

-- what a cut leaves of a text
cut_front : (n : ℕ) (text front payload : List ℕ) → text ≡ front ++ payload → take (length text - (length payload - n)) text ≡ front ++ take n payload
cut_front n text front payload whole =
    let count : length (front ++ payload) - (length payload - n) ≡ length front + min n (length payload) = omega (arith, length-append front payload) in
    ap (λ (t : List ℕ). take (length t - (length payload - n)) t) whole ∙ ap (λ (k : ℕ). take k (front ++ payload)) count
    ∙ take-append-add front payload (min n (length payload)) ∙ ap (λ (t : List ℕ). front ++ t) (take_min n payload)

form_cut : (n : ℕ) (h : Header) (rnd sum known : Bool) (c : Content) → form_at h rnd sum known ≡ Ok c →
    form_at (cut_by (length c.payload - n) h) rnd sum known ≡ Ok (record c { payload = take n c.payload })
unfolding form_at
form_cut n h rnd sum known c e =
    let (said, front, payload, whole, says, content) = form_together h rnd sum known c ((reads h rnd sum known c).0 e) in
    rw content (
    ap (λ (t : List ℕ). content_in (octets.read (header_at h.first rnd sum known) t)) (cut_front n h.rest front payload whole)
    ∙ ap content_in (gives form.Truncated (header_at h.first rnd sum known) front (take n payload) said says))

pub cut_form : CutFormIsRead
cut_form n h r c e = ap (λ s. said_under (cut_by (form_read n s) h) r) e ∙ form_cut n h _ _ _ c e

-- what stands before the payload, of which fewer octets are not too many
before_end : (first second behind : List ℕ) → before behind (first ++ (second ++ behind)) ≡ first ++ second
before_end first second behind =
    ap (before behind) (sym (append_assoc first second behind)) ∙ take_at (first ++ second) behind _ (omega (arith, length-append (first ++ second) behind))

still_short : (n : ℕ) (payload : List ℕ) → length_fault payload ≡ None → length_fault (take n payload) ≡ None
still_short n payload e =
    let test : nat_le (length payload) longest_payload ≡ true = unless_none _ TooLong e in
    let within : nat_le (length (take n payload)) longest_payload ≡ true = grind (arith, nat_tests, length-take n payload) in
    rw within refl

-- the last chain of a packet and the payload, then its length, then the check
abbrev last_at : {A X : Type 0} → Header → ℕ → (chains : List ℕ) → ChainPiece X → (X → List ℕ → A) → List ℕ → Result A ChainRefusal
last_at h octet chains piece made text = do
  (x, payload) ← read piece text
  _ ← judged (length_fault payload) payload
  judged (check_fault octet (cover h (before payload chains))) (made x payload)

-- Its payload can be cut.
record LastCut {A X : Type 0} (h : Header) (octet : ℕ) (first : List ℕ) (piece : ChainPiece X) (made : X → List ℕ → A) (text : List ℕ) (y : A) : Type 0 where
  x : X
  front : List ℕ
  payload : List ℕ
  whole : text ≡ front ++ payload
  is : y ≡ made x payload
  again : (n : ℕ) → last_at h octet (first ++ (front ++ take n payload)) piece made (front ++ take n payload) ≡ Ok (made x (take n payload))

last_cut : {A X : Type 0} (h : Header) (octet : ℕ) (first chains : List ℕ) (piece : ChainPiece X) (made : X → List ℕ → A) (text : List ℕ) (y : A) → chains ≡ first ++ text →
    last_at h octet chains piece made text ≡ Ok y → LastCut h octet first piece made text y
last_cut h octet first chains piece made text y begins e =
    let ((x, payload), is_read, rest) = bind_ok (read piece text) _ y e in
    let (same, is_short, rest) = bind_ok (judged (length_fault payload) payload) _ y rest in
    let (fits, is) = judged_ok (check_fault octet (cover h (before payload chains))) (made x payload) y rest in
    let (front, whole, says) = found Truncated piece text payload x is_read in
    let covered : check_fault octet (cover h (first ++ front)) ≡ None =
    ap (λ (t : List ℕ). check_fault octet (cover h t)) (sym (ap (before payload) (begins ∙ ap (λ (t : List ℕ). first ++ t) whole) ∙ before_end first front payload)) ∙ fits in
    let short = (judged_ok (length_fault payload) payload same is_short).0 in
    record {
      x = x;
      front = front;
      payload = payload;
      whole = whole;
      is = sym is;
      again = λ n. rw (gives Truncated piece front (take n payload) x says, still_short n payload short, before_end first front (take n payload), covered) refl;
    }

dyn_cut : (n : ℕ) (h : Header) (r : Option Reference) (d : DynContent) → dyn_said h r ≡ Ok d → dyn_said (cut_by (length d.payload - n) h) r ≡ Ok (record d { payload = take n d.payload })
unfolding ir_dyn_at next_octet
dyn_cut n h r d e =
    let ((given, behind), is_given, rest) = bind_ok (judged_octet (dyn_profile_fault 1) h.rest) _ d e in
    let ((octet, text), is_octet, rest) = bind_ok (octet_at behind) _ d rest in
    let (begins, fine) = judged_found Truncated (dyn_profile_fault 1) h.rest (given, behind) is_given in
    let next = octet_found Truncated behind (octet, text) is_octet in
    let cut = last_cut h octet [] text (dynamic_at (kept_values (kept_by r).0 (kept_by r).1)) (λ moving payload. record { moving = moving; payload = payload }) text d refl rest in
    let left : take (length h.rest - (length cut.payload - n)) h.rest ≡ given ∷ octet ∷ cut.front ++ take n cut.payload =
    cut_front n h.rest (given ∷ octet ∷ cut.front) cut.payload (rw (← cut.whole, ← next) begins) in
    rw (cut.is, left, fine) (cut.again n)

pub cut_dyn : CutDynIsRead
cut_dyn n h r d e = ap (λ s. dyn_said (cut_by (dyn_read n s) h) r) e ∙ dyn_cut n h r d e

-- An IR by what follows its Profile octet and its check octet.
abbrev ir_behind : (plain dynamic : Bool) → Header → ℕ → List ℕ → Result IrContent ChainRefusal
ir_behind plain dynamic h octet text = if plain then plain_at h octet text else chains_at h dynamic octet text

ir_begins : (h : Header) (content : IrContent) → ir_at h ≡ Ok content → (given : ℕ) × (octet : ℕ) × (text : List ℕ) × (h.rest ≡ given ∷ octet ∷ text) × (ir_behind (given == 0) (is_dynamic h.kind) h octet text ≡ Ok content)
    × ((other : List ℕ) → ir_at (record h { rest = given ∷ octet ∷ other }) ≡ ir_behind (given == 0) (is_dynamic h.kind) h octet other)
unfolding ir_at next_octet whole_at static_only_at
ir_begins h content e =
    let ((given, behind), is_given, rest) = bind_ok (judged_octet (ir_profile_fault (is_dynamic h.kind)) h.rest) _ content e in
    let ((octet, text), is_octet, rest) = bind_ok (octet_at behind) _ content rest in
    let (begins, fine) = judged_found Truncated (ir_profile_fault (is_dynamic h.kind)) h.rest (given, behind) is_given in
    (given, octet, text, begins ∙ ap (λ (t : List ℕ). given ∷ t) (octet_found Truncated behind (octet, text) is_octet), rest, λ other. rw fine refl)

-- four octets, a number of four octets and a static chain have so many
four_count : (x t : List ℕ) → SaidBy four_octets_at x t → length t ≡ 4
unfolding four_octets_at
four_count x t (a, f, b, e, is_a, (c, g, d, h, is_c, (i, j, k, l, is_i, (m, n, o, p, is_m, (end, made))))) = rw (e, is_a, h, is_c, l, is_i, p, is_m, end) refl

quad_count : (n : ℕ) (t : List ℕ) → SaidBy quad_at n t → length t ≡ 4
unfolding quad_at
quad_count n t (high, a, b, e, (c, d, is_high, f), (low, g, i, j, (k, l, is_low, m), (end, made))) = rw (e, is_high, j, is_low, end) refl

both_count : {t : List ℕ} {m n : ℕ} (a b : List ℕ) → t ≡ a ++ b → length a ≡ m → length b ≡ n → length t ≡ m + n
both_count a b e f g = omega (arith, ap length e, length-append a b, f, g)

static_count : (x : Static) (t : List ℕ) → SaidBy static_at x t → length t ≡ 18
unfolding static_at ip_static_at
static_count x t (
  addresses,
  ip,
  udp,
  is_ip,
  (version, a, b, c, (is_version, _), (protocol, d, e, f, (is_protocol, _), (source, g, i, j, is_source, (destination, k, l, m, is_destination, (ends_ip, _))))),
  (from, n, o, p, (_, _, is_from, _), (to, q, r, s, (_, _, is_to, _), (ssrc, u, v, w, is_ssrc, (ends, _)))),
) =
    both_count ip udp is_ip
    (both_count a b c (ap length is_version) (both_count d e f (ap length is_protocol) (both_count g i j (four_count source g is_source) (both_count k l m (four_count destination k is_destination) (ap length ends_ip)))))
    (both_count n o p (ap length is_from) (both_count q r s (ap length is_to) (both_count u v w (quad_count ssrc u is_ssrc) (ap length ends))))

-- What has a payload can be cut. A static chain has 18 octets, and nothing may follow it.
abbrev Cut : (n : ℕ) (again : List ℕ → Result IrContent ChainRefusal) (text : List ℕ) → IrContent → Type 0
Cut n again text (Plain packet) = Unit {0}
Cut n again text (StaticOnly fixed) = (length text ≡ 18) × ((octet : ℕ) (behind : List ℕ) → again (text ++ octet ∷ behind) ≡ Err Trailing)
Cut n again text (Whole fixed moving payload) = (front : List ℕ) × (text ≡ front ++ payload) × (again (front ++ take n payload) ≡ Ok (Whole fixed moving (take n payload)))

whole_cut : (n : ℕ) (h : Header) (octet : ℕ) (first text : List ℕ) (x : Static) (behind : List ℕ) (content : IrContent) → text ≡ first ++ behind → SaidBy static_at x first →
    LastCut h octet first (dynamic_at nothing_kept) (Whole x) behind content → Cut n (whole_at h octet) text content
unfolding whole_at
whole_cut n h octet first text x behind content begins says cut =
    let again : whole_at h octet (first ++ (cut.front ++ take n cut.payload)) ≡ Ok (Whole x cut.x (take n cut.payload)) = rw (gives Truncated static_at first (cut.front ++ take n cut.payload) x says) (cut.again n) in
    subst (Cut n (whole_at h octet) text) (sym cut.is) (
      first ++ cut.front,
      begins ∙ ap (λ (t : List ℕ). first ++ t) cut.whole ∙ sym (append_assoc first cut.front cut.payload),
      ap (whole_at h octet) (append_assoc first cut.front (take n cut.payload)) ∙ again,
    )

static_cut : (h : Header) (octet : ℕ) (front text : List ℕ) (x : Static) → text ≡ front → SaidBy static_at x front →
    (length text ≡ 18) × ((a : ℕ) (behind : List ℕ) → static_only_at h octet (text ++ a ∷ behind) ≡ Err Trailing)
unfolding static_only_at
static_cut h octet front text x same says = rw same (
  static_count x front says,
  λ a behind.
      let follows : (length (a ∷ behind) == 0) ≡ false = grind (arith, nat_tests) in
      let refused : (judged (ended (a ∷ behind)) (a ∷ behind) >>= λ _. judged (check_fault octet (cover h (front ++ a ∷ behind))) (StaticOnly x)) ≡ Err Trailing = rw follows refl in
      rw (gives Truncated static_at front (a ∷ behind) x says) refused,
)

ir_cut : (plain dynamic : Bool) (n : ℕ) (h : Header) (octet : ℕ) (text : List ℕ) (content : IrContent) → ir_behind plain dynamic h octet text ≡ Ok content → Cut n (ir_behind plain dynamic h octet) text content
unfolding whole_at static_only_at
ir_cut true dynamic n h octet text content e = subst (Cut n (plain_at h octet) text) (judged_ok (check_fault octet (plain_cover h)) (Plain text) content e).1 tt
ir_cut false false n h octet text content e =
    let ((x, behind), is_static, rest) = bind_ok (read static_at text) _ content e in
    let (same, is_ended, rest) = bind_ok (judged (ended behind) behind) _ content rest in
    let (front, begins, says) = found Truncated static_at text behind x is_static in
    let nothing : behind ≡ [] = nil_from_length behind (eqb-true _ _ (unless_none (length behind == 0) Trailing (judged_ok (ended behind) behind same is_ended).0)) in
    subst (Cut n (static_only_at h octet) text) (judged_ok (check_fault octet (cover h text)) (StaticOnly x) content rest).1
    (static_cut h octet front text x (begins ∙ ap (λ (t : List ℕ). front ++ t) nothing ∙ append-nil front) says)
ir_cut false true n h octet text content e =
    let ((x, behind), is_static, rest) = bind_ok (read static_at text) _ content e in
    let (first, begins, says) = found Truncated static_at text behind x is_static in
    whole_cut n h octet first text x behind content begins says (last_cut h octet first text (dynamic_at nothing_kept) (Whole x) behind content begins rest)

pub cut_ir : CutIrIsRead
cut_ir n h fixed moving payload e =
    let (given, octet, text, begins, is, again) = ir_begins h (Whole fixed moving payload) e in
    let (front, whole, cut) = ir_cut (given == 0) (is_dynamic h.kind) n h octet text (Whole fixed moving payload) is in
    ap (λ s. ir_at (cut_by (ir_excess n h s) h)) e
    ∙ ap (λ (t : List ℕ). ir_at (record h { rest = t })) (cut_front n h.rest (given ∷ octet ∷ front) payload (begins ∙ ap (λ (t : List ℕ). given ∷ octet ∷ t) whole))
    ∙ again (front ++ take n payload) ∙ cut

static_excess : (n : ℕ) (h : Header) (fixed : Static) (behind : List ℕ) → ir_at h ≡ Ok (StaticOnly fixed) → ir_excess n (padded behind h) (ir_at (padded behind h)) ≡ length behind
static_excess n h fixed [] e = ap (λ (t : List ℕ). ir_excess n (padded [] h) (ir_at (record h { rest = t }))) (append-nil h.rest) ∙ ap (ir_excess n (padded [] h)) e
static_excess n h fixed (a ∷ behind) e =
    let (given, octet, text, begins, is, again) = ir_begins h (StaticOnly fixed) e in
    let (count, trails) = ir_cut (given == 0) (is_dynamic h.kind) n h octet text (StaticOnly fixed) is in
    ap (λ (t : List ℕ). ir_excess n (padded (a ∷ behind) h) (ir_at (record h { rest = t ++ a ∷ behind }))) begins
    ∙ ap (ir_excess n (padded (a ∷ behind) h)) (again (text ++ a ∷ behind) ∙ trails a behind)
    ∙ omega (arith, length-append h.rest (a ∷ behind), ap length begins, count)

pub padded_static : PaddedStaticIsCut
padded_static n h fixed behind e =
    ap (λ (t : List ℕ). record h { rest = t }) (take_at h.rest behind _ (omega (arith, length-append h.rest behind, static_excess n h fixed behind e)))
