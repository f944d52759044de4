-- What is read is what the octets of a packet say, and a refusal is the first fault.
use Rattle.std.proofs.Common.{◌≡◌, ℕ, List, [], Option, Some, Result, Ok, Err, refl, sym, ap, ◌∙◌}
use Rattle.std.specs.Prelude.{◌↔◌, Bool, IfOk, IfErr}
use Rattle.std.specs.Result.{result_map_both}
use Rattle.rohc_bits.specs.Grammar.{Says, Then, Called, SaidBefore}
use Rattle.rohc_bits.proofs.GrammarLemmas.{found, gives, refuses_first_fault, apart, together, before_map, before_says}
use Rattle.rohc_bits.proofs.Steps.{ok_is}
use Rattle.rohc_frame.specs.Header.{Header}
use Rattle.rohc_forms.specs.declared.refusal.FormRefusal.{FormRefusal}
use Rattle.rohc_forms.specs.declared.refusal.FormRefusal.TheVariants.{Truncated}
use Rattle.rohc_forms.specs.Octets.{FormPiece, read, word_if}
use Rattle.rohc_forms.specs.Table.{Id, Name, Of, UdpSum}
use Rattle.rohc_forms.specs.Content.{Head, Content}
use Rattle.rohc_forms.specs.Packets.{head_at, header_at, with_payload, content_in, form_at}
use Rattle.rohc_forms.specs.Says.{IsForm, form_fault}
use Rattle.rohc_forms.specs.Laws.{ReadsForms, RefusesForms, SaysOne}

abbrev Said3 : Type 0
Said3 = Head × Option ℕ × Option ℕ

content_found : (r : Result (Said3 × List ℕ) FormRefusal) (c : Content) → content_in r ≡ Ok c → (said : Said3) × (payload : List ℕ) × (r ≡ Ok (said, payload)) × (c ≡ with_payload said payload)
content_found (Ok (said, payload)) c e = (said, payload, refl, sym (ok_is {E = FormRefusal} (with_payload said payload) c e))
content_found (Err refusal) c e = cc

refusal_found : (r : Result (Said3 × List ℕ) FormRefusal) (refusal : FormRefusal) → (content_in r ≡ Err refusal) ↔ (r ≡ Err refusal)
refusal_found (Ok x) refusal = (λ e. cc, λ e. cc)
refusal_found (Err other) refusal = (λ e. cc, λ e. cc)

-- what follows the head, and what follows the Identification
abbrev pub words_at : Bool → Head → FormPiece Said3
words_at udp_sum head = Then (Called (Of Id) (word_if head.rnd)) (λ id. Then (Called UdpSum (word_if udp_sum)) (λ sum. Says (head, id, sum)))

abbrev pub IsContent : Content → Said3 → List ℕ → Type 0
IsContent c said payload = c ≡ with_payload said payload

form_apart : (h : Header) (rnd udp_sum known : Bool) (c : Content) → SaidBefore (header_at h.first rnd udp_sum known) (IsContent c) h.rest → IsForm h rnd udp_sum known c
form_apart h rnd udp_sum known c is =
    before_map (head_at h.first rnd known) (λ head. SaidBefore (words_at udp_sum head) (IsContent c)) _ h.rest (λ head text words.
    before_map (word_if head.rnd) (λ id. SaidBefore (Then (Called UdpSum (word_if udp_sum)) (λ sum. Says (head, id, sum))) (IsContent c)) _ text (λ id behind sums.
    before_map (word_if udp_sum) (λ sum. SaidBefore {N = Name} {E = FormRefusal} (Says (head, id, sum)) (IsContent c)) _ behind (λ sum payload says. before_says Name FormRefusal (head, id, sum) (IsContent c) payload says)
    (apart (Called UdpSum (word_if udp_sum)) (λ sum. Says (head, id, sum)) (IsContent c) behind sums))
    (apart (Called (Of Id) (word_if head.rnd)) (λ id. Then (Called UdpSum (word_if udp_sum)) (λ sum. Says (head, id, sum))) (IsContent c) text words))
    (apart (head_at h.first rnd known) (words_at udp_sum) (IsContent c) h.rest is)

pub form_together : (h : Header) (rnd udp_sum known : Bool) (c : Content) → IsForm h rnd udp_sum known c → SaidBefore (header_at h.first rnd udp_sum known) (IsContent c) h.rest
form_together h rnd udp_sum known c is =
    together (head_at h.first rnd known) (words_at udp_sum) (IsContent c) h.rest (
    before_map (head_at h.first rnd known) _ (λ head. SaidBefore (words_at udp_sum head) (IsContent c)) h.rest (λ head text words.
    together (Called (Of Id) (word_if head.rnd)) (λ id. Then (Called UdpSum (word_if udp_sum)) (λ sum. Says (head, id, sum))) (IsContent c) text (
    before_map (word_if head.rnd) _ (λ id. SaidBefore (Then (Called UdpSum (word_if udp_sum)) (λ sum. Says (head, id, sum))) (IsContent c)) text (λ id behind sums.
    together (Called UdpSum (word_if udp_sum)) (λ sum. Says (head, id, sum)) (IsContent c) behind (
    before_map (word_if udp_sum) _ (λ sum. SaidBefore {N = Name} {E = FormRefusal} (Says (head, id, sum)) (IsContent c)) behind (λ sum payload content. ((head, id, sum), [], payload, refl, (refl, refl), content)) sums)) words)) is)

form_found : (h : Header) (rnd udp_sum known : Bool) (c : Content) → form_at h rnd udp_sum known ≡ Ok c → IsForm h rnd udp_sum known c
unfolding form_at
form_found h rnd udp_sum known c e =
    let f = content_found (read (header_at h.first rnd udp_sum known) h.rest) c e in
    let w = found Truncated (header_at h.first rnd udp_sum known) h.rest f.1 f.0 f.2 in
    form_apart h rnd udp_sum known c (f.0, w.0, f.1, w.1, w.2, f.3)

form_given : (h : Header) (rnd udp_sum known : Bool) (c : Content) → IsForm h rnd udp_sum known c → form_at h rnd udp_sum known ≡ Ok c
unfolding form_at
form_given h rnd udp_sum known c is =
    let (said, header, payload, whole, says, content) = form_together h rnd udp_sum known c is in
    ap (λ (t : List ℕ). content_in (read (header_at h.first rnd udp_sum known) t)) whole
    ∙ ap content_in (gives Truncated (header_at h.first rnd udp_sum known) header payload said says)
    ∙ ap Ok (sym content)

pub reads : ReadsForms
reads = λ h rnd udp_sum known c. (form_found h rnd udp_sum known c, form_given h rnd udp_sum known c)

pub refuses : RefusesForms
unfolding form_at
refuses = λ h rnd udp_sum known refusal.
    let header = read (header_at h.first rnd udp_sum known) h.rest in
    let here = refusal_found header refusal in
    let there = refuses_first_fault Truncated (header_at h.first rnd udp_sum known) h.rest refusal in
    (λ e. there.0 (here.0 e), λ e. here.1 (there.1 e))

-- a reading that gave something, and one that has to
pub said : {A : Type 0} (as_content : A → Content) (h : Header) (rnd udp_sum known : Bool) (r : Result A FormRefusal) →
    result_map_both as_content (λ e. e) r ≡ form_at h rnd udp_sum known → IfOk r (λ x. IsForm h rnd udp_sum known (as_content x))
said as_content h rnd udp_sum known (Ok x) e = (reads h rnd udp_sum known (as_content x)).0 (sym e)
said as_content h rnd udp_sum known (Err refusal) e = tt

pub only : {A : Type 0} (as_content : A → Content) (h : Header) (rnd udp_sum known : Bool) (r : Result A FormRefusal) →
    result_map_both as_content (λ e. e) r ≡ form_at h rnd udp_sum known → (c : Content) → IsForm h rnd udp_sum known c → result_map_both as_content (λ e. e) r ≡ Ok c
only as_content h rnd udp_sum known r e c is = e ∙ (reads h rnd udp_sum known c).1 is

pub says_one : SaysOne
says_one = λ h rnd udp_sum known a b p q. ok_is a b (sym ((reads h rnd udp_sum known a).1 p) ∙ (reads h rnd udp_sum known b).1 q)

-- a reading's refusal is the first fault
pub refused : {A : Type 0} (as_content : A → Content) (h : Header) (rnd udp_sum known : Bool) (r : Result A FormRefusal) →
    result_map_both as_content (λ e. e) r ≡ form_at h rnd udp_sum known → IfErr r (λ e. form_fault h rnd udp_sum known ≡ Some e)
refused as_content h rnd udp_sum known (Ok x) e = tt
refused as_content h rnd udp_sum known (Err refusal) e = (refuses h rnd udp_sum known refusal).0 (sym e)
