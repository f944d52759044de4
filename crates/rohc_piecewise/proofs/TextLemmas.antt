-- Texts of links and contexts.
use Rattle.std.proofs.Common.{◌≡◌, ℕ, ◌+◌, List, [], ◌∷◌, ◌++◌, length, flat_map, take, drop, zero, suc, refl, sym, ap, ◌∙◌, arith, append_assoc, append-nil}
use Rattle.std.proofs.lemmas.List.{take-append-drop, take_all}
use Rattle.std.proofs.lemmas.Grind.{flat_map-append}
use Rattle.std.proofs.Math.Seq.{drop-length}
use Rattle.rohc_frame.specs.declared.header.CidKind.TheVariants.{Small}
use Rattle.rohc_context.specs.Record.{Record}
use Rattle.rohc_saved.specs.Form.{Link, Form, long, context_text, head_text, link_text, start_text, form_text}
use Rattle.rohc_piecewise.specs.Piecewise.{Head}
use Rattle.rohc_piecewise.specs.Between.{head_of_link, start_of}

-- contexts, and then more, behind octets
pub contexts_more : (front : List ℕ) (cs more : List (ℕ × Record)) → (front ++ flat_map context_text cs) ++ flat_map context_text more ≡ front ++ flat_map context_text (cs ++ more)
contexts_more front cs more = append_assoc front (flat_map context_text cs) (flat_map context_text more) ∙ ap (λ t. front ++ t) (sym (flat_map-append context_text cs more))

-- what was written over the whole of a buffer
pub filled : (old new : List ℕ) (len : ℕ) → len ≡ length old → length new ≡ length old → take len (new ++ drop (length new) old) ≡ new
filled old new len all same =
    ap (λ n. take len (new ++ drop n old)) same ∙ ap (λ t. take len (new ++ t)) (drop-length old) ∙ ap (λ t. take len t) (append-nil new)
    ∙ take_all len new (omega (arith, all, same))

-- a buffer of which the first eight octets were written over
pub over_eight : (old new head : List ℕ) → length head ≡ 8 → take (0 + length head) new ≡ take 0 old ++ head → drop (0 + length head) new ≡ drop (0 + length head) old → new ≡ head ++ drop 8 old
over_eight old new head eight front behind =
    sym (take-append-drop (0 + length head) new) ∙ ap (λ t. t ++ drop (0 + length head) new) front ∙ ap (λ t. head ++ t) (behind ∙ ap (λ n. drop (0 + n) old) eight)

-- the text of a link, by its head
pub link_text_is : (head : Head) (cs : List (ℕ × Record)) (count : ℕ) → count ≡ length cs → head_of_link head count ++ flat_map context_text cs ≡ link_text (head.number, record { size = head.size; greatest = head.greatest; contexts = cs })
unfolding link_text head_text
link_text_is head cs count e = ap (λ n. head_of_link head n ++ flat_map context_text cs) e

-- the start of a form, by its moment and the number of its links
pub start_is : (form : Form) (moment count : ℕ) → form.moment ≡ moment → length form.links ≡ count → start_of moment count ≡ start_text form
unfolding start_text
start_is form moment count at few = ap (λ m. start_of m count) (sym at) ∙ ap (λ n. start_of form.moment n) (sym few)

-- the text of a form, by its moment and the number of its links
pub form_is : (form : Form) (moment count : ℕ) → form.moment ≡ moment → length form.links ≡ count → start_of moment count ++ flat_map link_text form.links ≡ form_text form
unfolding form_text
form_is form moment count at few = ap (λ t. t ++ flat_map link_text form.links) (start_is form moment count at few)

-- one more link behind the others
pub links_more : (front : List ℕ) (links : List (ℕ × Link)) (link : ℕ × Link) → (front ++ flat_map link_text links) ++ link_text link ≡ front ++ flat_map link_text (links ++ link ∷ [])
links_more front links link =
    append_assoc front (flat_map link_text links) (link_text link)
    ∙ ap (λ t. front ++ t) (ap (λ t. flat_map link_text links ++ t) (sym (append-nil (link_text link))) ∙ sym (flat_map-append link_text links (link ∷ [])))

-- so many links, whatever they are
some_links : ℕ → List (ℕ × Link)
some_links zero = []
some_links (suc n) = (0, record { size = Small; greatest = 0; contexts = [] }) ∷ some_links n

links_count : (n : ℕ) → length (some_links n) ≡ n
unfolding some_links
links_count zero = refl
links_count (suc n) = ap suc (links_count n)

-- the start of a form, which tells nothing of its links but their number
pub start_items : (moment count : ℕ) (items : List ℕ) → ((links : List (ℕ × Link)) → length links ≡ count → items ≡ start_text (record { moment = moment; links = links }))
    → items ≡ start_of moment count
start_items moment count items is =
    let links = some_links count in
    is links (links_count count) ∙ sym (start_is (record { moment = moment; links = links }) moment count refl (links_count count))

pub start_length : (moment count : ℕ) → length (start_of moment count) ≡ 21
unfolding long
start_length moment count = refl
