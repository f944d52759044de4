-- A save that is under way, from one call to the next.
use Rattle.std.proofs.Common.{◌≡◌, ℕ, zero, suc, ◌+◌, ◌<◌, ◌≤◌, ◌⊎◌, inl, inr, List, [], ◌∷◌, ◌++◌, map, length, flat_map, take, drop, true, false, Some, refl, sym, ap, subst, ◌∙◌, arith, append_assoc, append-nil, length-append, slice_get, slice_index_or, nat_lt}
use Rattle.std.proofs.lemmas.Bool.Decides.{nat_tests}
use Rattle.std.specs.Prelude.{sum_by}
use Rattle.std.specs.Option.{option_map}
use Rattle.std.proofs.lemmas.List.{take_all, drop_all, length-map, length-drop}
use Rattle.std.proofs.lemmas.List.Elements.{All-nil}
use Rattle.std.proofs.lemmas.List.Sums.{sum_by-append}
use Rattle.std.proofs.lemmas.Option.{slice_get-map, slice_get-get_or, get_or_from_slice_get, slice_get_within, same_Some}
use Rattle.std.proofs.Math.Seq.{take-suc, drop-nil}
use Rattle.sha2.specs.declared.Sha256.{Sha256}
use Rattle.sha2.specs.Sha256.{sha256}
use Rattle.sha2.proofs.Facts256.{length-sha256}
use Rattle.sha2.specs.Hashers.{Holds256}
use Rattle.rohc_context.specs.Record.{Record}
use Rattle.rohc_concentrator.specs.declared.concentrator.Concentrator.{Concentrator}
use Rattle.rohc_saved.specs.Form.{Link, Form, context_text, link_text, form_text, signed}
use Rattle.rohc_piecewise.specs.Piecewise.{Head, heads_of, AreSaved, IsSavedOver}
use Rattle.rohc_piecewise.specs.Noted.{head_in}
use Rattle.rohc_piecewise.specs.Between.{held_from, head_of_link, start_of}
use Rattle.rohc_piecewise.specs.LooksOn.{LooksOn}
use Rattle.rohc_piecewise.specs.UnderWay.{IsGatheredBelow, IsWaiting, IsTaken, IsGathering, IsLast, IsAt, IsUnderWay, busy, is_busy_at, waiting, waiting_at}
use Rattle.rohc_piecewise.specs.declared.noted.Noted.{Noted}
use Rattle.rohc_piecewise.specs.declared.ready.Ready.{Ready}
use Rattle.rohc_piecewise.specs.declared.saver.Saver.{Saver}
use Rattle.rohc_piecewise.specs.declared.saver.Stage.{Stage}
use Rattle.rohc_piecewise.specs.declared.saver.Stage.TheVariants.{Idle, Gathering, Waiting, Last}
use Rattle.rohc_piecewise.proofs.SeenLemmas.{last_one, below_more, saved_more, saved_last, saved_length, below_from, gathered_all}
use Rattle.rohc_piecewise.proofs.TextLemmas.{contexts_more, link_text_is, form_is, links_more}

-- ---- By the stage

pub under_at : (moment : ℕ) (heads : List Head) (seen : List Concentrator) (taken : List ℕ) (s : Saver) (stage : Stage) → s.stage ≡ stage → IsUnderWay moment heads seen taken s → IsAt stage moment heads seen taken s
unfolding IsUnderWay
under_at moment heads seen taken s stage e h = subst (λ at. IsAt at moment heads seen taken s) e h

pub at_under : (moment : ℕ) (heads : List Head) (seen : List Concentrator) (taken : List ℕ) (s : Saver) (stage : Stage) → s.stage ≡ stage → IsAt stage moment heads seen taken s → IsUnderWay moment heads seen taken s
unfolding IsUnderWay
at_under moment heads seen taken s stage e h = subst (λ at. IsAt at moment heads seen taken s) (sym e) h

-- what was saved, once all was taken
pub is_saved : (moment : ℕ) (heads : List Head) (seen : List Concentrator) (taken : List ℕ) (s : Saver) → IsUnderWay moment heads seen taken s → busy s ≡ false → IsSavedOver moment heads seen taken
is_saved moment heads seen taken s h done = by s.stage refl
  where
    by : (stage : Stage) → s.stage ≡ stage → IsSavedOver moment heads seen taken
    by Idle e = under_at moment heads seen taken s Idle e h
    by Gathering e = absurd (let never : true ≡ false = sym (ap is_busy_at e) ∙ done in cc)
    by Waiting e = absurd (let never : true ≡ false = sym (ap is_busy_at e) ∙ done in cc)
    by Last e = absurd (let never : true ≡ false = sym (ap is_busy_at e) ∙ done in cc)

-- ---- One more concentrator was seen

more_at : (moment : ℕ) (heads : List Head) (seen more : List Concentrator) (taken : List ℕ) (s : Saver) (stage : Stage) → IsAt stage moment heads seen taken s → IsAt stage moment heads (seen ++ more) taken s
more_at moment heads seen more taken s Idle h = record {
  form = h.form;
  at = h.at;
  links = saved_more seen more heads h.form.links h.links;
  text = h.text;
}
more_at moment heads seen more taken s Gathering h = record {
  links = h.links;
  noted = h.noted;
  saved = saved_more seen more (take s.place heads) h.links h.saved;
  hashed = h.hashed;
  text = h.text;
  link = h.link;
  here = h.here;
  left = h.left;
  contexts = h.contexts;
  gathered = below_more seen more (head_in h.link) s.ready.next h.contexts h.gathered;
  count = h.count;
  ready = h.ready;
}
more_at moment heads seen more taken s Waiting h = record {
  links = h.links;
  noted = h.noted;
  saved = saved_more seen more (take s.place heads) h.links h.saved;
  hashed = h.hashed;
  some = h.some;
  text = h.text;
}
more_at moment heads seen more taken s Last h = record {
  form = h.form;
  at = h.at;
  links = saved_more seen more heads h.form.links h.links;
  some = h.some;
  text = h.text;
}

pub more_seen : (moment : ℕ) (heads : List Head) (seen more : List Concentrator) (taken : List ℕ) (s : Saver) → IsUnderWay moment heads seen taken s → IsUnderWay moment heads (seen ++ more) taken s
unfolding IsUnderWay
more_seen moment heads seen more taken s h = more_at moment heads seen more taken s s.stage h

-- ---- Begin

pub begun : (moment : ℕ) (k : Concentrator) (s : Saver) → s.stage ≡ Waiting → map head_in s.heads.items ≡ heads_of k → s.place ≡ 0 → s.sent ≡ 0 → Holds256 s.hasher []
    → s.ready.octets.items ≡ start_of moment s.heads.len → IsUnderWay moment (heads_of k) [] [] s
begun moment k s stage noted place sent hashed text =
    let count : s.heads.len ≡ length (heads_of k) = s.heads.ok.0 ∙ sym (length-map s.heads.items head_in) ∙ ap length noted in
    at_under moment (heads_of k) [] [] s Waiting stage (record {
      links = [];
      noted = noted;
      saved = subst (λ n. AreSaved [] (take n (heads_of k)) []) (sym place) tt;
      hashed = hashed;
      some = omega (arith, sent, ap length text);
      text = ap (λ n. drop n s.ready.octets.items) sent ∙ text ∙ ap (start_of moment) count ∙ sym (append-nil (start_of moment (length (heads_of k))));
    })

-- ---- Gather

link_at : (xs : List Noted) (i : ℕ) (d x : Noted) → i < length xs → x ≡ slice_index_or xs i d → slice_get xs i ≡ Some x
link_at xs i d x low e = slice_get-get_or xs i d low ∙ ap (λ (y : Noted). Some y) (sym e)

pub link_here : (xs items : List Noted) (i : ℕ) (d x : Noted) → xs ≡ items → true ≡ nat_lt i (length xs) → x ≡ slice_index_or xs i d → slice_get items i ≡ Some x
link_here xs items i d x same low e =
    let within : i < length xs = grind (arith, nat_tests, low) in
    ap (λ ys. slice_get ys i) (sym same) ∙ link_at xs i d x within e

-- the next CIDs of the link were looked at
pub gathered_on : (seen : List Concentrator) (k : Concentrator) (head : Head) (old new : Ready) (cs : List (ℕ × Record)) (looks : LooksOn k head old new) → IsGatheredBelow seen head old.next cs
    → IsGatheredBelow (seen ++ k ∷ []) head new.next (cs ++ held_from k head old.next looks.cids)
gathered_on seen k head old new cs looks h =
    subst (λ n. IsGatheredBelow (seen ++ k ∷ []) head n (cs ++ held_from k head old.next looks.cids)) (sym looks.next)
    (below_from (seen ++ k ∷ []) k head old.next looks.cids cs (last_one seen k) (below_more seen (k ∷ []) head old.next cs h))

count_on : (k : Concentrator) (head : Head) (old new : Ready) (cs : List (ℕ × Record)) (looks : LooksOn k head old new) → old.count ≡ length cs → new.count ≡ length (cs ++ held_from k head old.next looks.cids)
count_on k head old new cs looks h = omega (arith, looks.count, h, length-append cs (held_from k head old.next looks.cids))

ready_on : (k : Concentrator) (head : Head) (old new : Ready) (front : List ℕ) (cs : List (ℕ × Record)) (looks : LooksOn k head old new) → old.octets.items ≡ front ++ flat_map context_text cs
    → new.octets.items ≡ front ++ flat_map context_text (cs ++ held_from k head old.next looks.cids)
ready_on k head old new front cs looks h =
    looks.text ∙ ap (λ t. t ++ flat_map context_text (held_from k head old.next looks.cids)) h ∙ contexts_more front cs (held_from k head old.next looks.cids)

same_link : (xs : List Noted) (i : ℕ) (a b : Noted) → slice_get xs i ≡ Some a → slice_get xs i ≡ Some b → a ≡ b
same_link xs i a b ea eb = same_Some a b (sym ea ∙ eb)

pub step_on : (moment : ℕ) (heads : List Head) (seen : List Concentrator) (taken : List ℕ) (k : Concentrator) (old : Saver) (ready : Ready) (link : Noted) → IsGathering moment heads seen taken old
    → slice_get old.heads.items old.place ≡ Some link → LooksOn k (head_in link) old.ready ready → ready.next ≤ link.greatest
    → IsGathering moment heads (seen ++ k ∷ []) taken (record old { ready = ready })
step_on moment heads seen taken k old ready link h here looks left =
    let same : h.link ≡ link = same_link old.heads.items old.place h.link link h.here here in
    record {
      links = h.links;
      noted = h.noted;
      saved = saved_more seen (k ∷ []) (take old.place heads) h.links h.saved;
      hashed = h.hashed;
      text = h.text;
      link = link;
      here = here;
      left = left;
      contexts = h.contexts ++ held_from k (head_in link) old.ready.next looks.cids;
      gathered = gathered_on seen k (head_in link) old.ready ready h.contexts looks (subst (λ n. IsGatheredBelow seen (head_in n) old.ready.next h.contexts) same h.gathered);
      count = count_on k (head_in link) old.ready ready h.contexts looks h.count;
      ready = ready_on k (head_in link) old.ready ready (0 ∷ 0 ∷ 0 ∷ 0 ∷ 0 ∷ 0 ∷ 0 ∷ 0 ∷ []) h.contexts looks h.ready;
    }

take_next : (xs : List Noted) (i : ℕ) (x : Noted) → slice_get xs i ≡ Some x → take (i + 1) (map head_in xs) ≡ take i (map head_in xs) ++ head_in x ∷ []
take_next xs i x e =
    let mapped : slice_get (map head_in xs) i ≡ Some (head_in x) = slice_get-map head_in xs i ∙ ap (option_map head_in) e in
    let next : suc i ≡ i + 1 = omega arith in
    subst (λ n. take n (map head_in xs) ≡ take i (map head_in xs) ++ head_in x ∷ []) next
    (take-suc (map head_in xs) i (head_in x) (slice_get_within (map head_in xs) i (head_in x) mapped)
    ∙ ap (λ h. take i (map head_in xs) ++ h ∷ []) (get_or_from_slice_get (map head_in xs) i (head_in x) (head_in x) mapped))

-- all CIDs of the link were looked at, and its head was put in front
pub looked_whole : (moment : ℕ) (heads : List Head) (seen : List Concentrator) (taken : List ℕ) (k : Concentrator) (old : Saver) (ready done : Ready) (link : Noted) → IsGathering moment heads seen taken old
    → slice_get old.heads.items old.place ≡ Some link → LooksOn k (head_in link) old.ready ready → link.greatest < ready.next
    → (8 ≤ length ready.octets.items → done.octets.items ≡ head_of_link (head_in link) ready.count ++ drop 8 ready.octets.items)
    → IsWaiting moment heads (seen ++ k ∷ []) taken (record old { place = old.place + 1; ready = done; sent = 0; stage = Waiting })
looked_whole moment heads seen taken k old ready done link h here looks end put =
    let same : h.link ≡ link = same_link old.heads.items old.place h.link link h.here here in
    let head : Head = head_in link in
    let contexts : List (ℕ × Record) = h.contexts ++ held_from k head old.ready.next looks.cids in
    let whole : ℕ × Link = (head.number, record { size = head.size; greatest = head.greatest; contexts = contexts }) in
    let low : old.ready.next ≤ link.greatest = subst (λ (n : Noted). old.ready.next ≤ n.greatest) same h.left in
    let last : ready.next ≡ head.greatest + 1 = at_end low looks.within in
    let below = gathered_on seen k head old.ready ready h.contexts looks (subst (λ n. IsGatheredBelow seen (head_in n) old.ready.next h.contexts) same h.gathered) in
    let all = gathered_all (seen ++ k ∷ []) head ready.next contexts last below in
    let count = count_on k head old.ready ready h.contexts looks h.count in
    let text : ready.octets.items ≡ (0 ∷ 0 ∷ 0 ∷ 0 ∷ 0 ∷ 0 ∷ 0 ∷ 0 ∷ []) ++ flat_map context_text contexts = ready_on k head old.ready ready (0 ∷ 0 ∷ 0 ∷ 0 ∷ 0 ∷ 0 ∷ 0 ∷ 0 ∷ []) h.contexts looks h.ready in
    let items : done.octets.items ≡ link_text whole = put (omega (arith, ap length text)) ∙ ap (λ t. head_of_link head ready.count ++ drop 8 t) text ∙ link_text_is head contexts ready.count count in
    record {
      links = h.links ++ whole ∷ [];
      noted = h.noted;
      saved = subst (λ hs. AreSaved (seen ++ k ∷ []) hs (h.links ++ whole ∷ [])) (front whole)
          (saved_last (seen ++ k ∷ []) (take old.place heads) h.links head whole (saved_more seen (k ∷ []) (take old.place heads) h.links h.saved) (refl, refl, refl, all, tt));
      hashed = h.hashed;
      some = omega (arith, ap length (put (omega (arith, ap length text))));
      text = ap (λ t. taken ++ t) items ∙ ap (λ t. t ++ link_text whole) h.text ∙ links_more (start_of moment (length heads)) h.links whole;
    }
  where
    at_end : old.ready.next ≤ link.greatest → (looks.cids ≡ 0) ⊎ (ready.next ≤ link.greatest + 1) → ready.next ≡ link.greatest + 1
    at_end low (inl none) = absurd (omega (arith, low, none, looks.next, end))
    at_end low (inr within) = omega (arith, end, within)

    front : ℕ × Link → take old.place heads ++ head_in link ∷ [] ≡ take (old.place + 1) heads
    front whole = subst (λ hs. take old.place hs ++ head_in link ∷ [] ≡ take (old.place + 1) hs) h.noted (sym (take_next old.heads.items old.place link here))

-- ---- Take

-- the front of what waits, and the rest
pub rest_behind : (n m : ℕ) (xs : List ℕ) → take n (take m xs) ++ drop (length (take n (take m xs))) xs ≡ xs
rest_behind zero m xs = refl
rest_behind (suc n) zero xs = refl
rest_behind (suc n) (suc m) [] = refl
rest_behind (suc n) (suc m) (x ∷ xs) = ap (λ l. x ∷ l) (rest_behind n m xs)

drop_more : (a b : ℕ) (xs : List ℕ) → drop (a + b) xs ≡ drop b (drop a xs)
drop_more zero b xs = ap (λ n. drop n xs) (let e : 0 + b ≡ b = omega arith in e)
drop_more (suc a) b [] = drop-nil (suc a + b) ∙ sym (drop-nil b)
drop_more (suc a) b (x ∷ xs) = let e : suc (a + b) ≡ suc a + b = omega arith in subst (λ n. drop n (x ∷ xs) ≡ drop b (drop a xs)) e (drop_more a b xs)

-- what was taken and what waits, before and after the front of what waits was taken
pub moved : (taken items : List ℕ) (sent n m : ℕ) → (taken ++ take n (take m (drop sent items))) ++ drop (sent + length (take n (take m (drop sent items)))) items ≡ taken ++ drop sent items
moved taken items sent n m =
    append_assoc taken (take n (take m (drop sent items))) (drop (sent + length (take n (take m (drop sent items)))) items)
    ∙ ap (λ t. taken ++ t) (ap (λ t. take n (take m (drop sent items)) ++ t) (drop_more sent (length (take n (take m (drop sent items)))) items) ∙ rest_behind n m (drop sent items))

-- all that waits was taken
moved_all : (taken items : List ℕ) (sent n m : ℕ) → length items ≤ sent + length (take n (take m (drop sent items))) → taken ++ take n (take m (drop sent items)) ≡ taken ++ drop sent items
moved_all taken items sent n m all =
    sym (append-nil (taken ++ take n (take m (drop sent items))))
    ∙ ap (λ t. (taken ++ take n (take m (drop sent items))) ++ t) (sym (drop_all (sent + length (take n (take m (drop sent items)))) items all))
    ∙ moved taken items sent n m

pub waits_still : (moment : ℕ) (heads : List Head) (seen : List Concentrator) (taken : List ℕ) (old : Saver) (n m : ℕ) (hasher : Sha256) → IsWaiting moment heads seen taken old
    → Holds256 hasher (taken ++ take n (take m (drop old.sent old.ready.octets.items))) → old.sent + length (take n (take m (drop old.sent old.ready.octets.items))) < length old.ready.octets.items
    → IsWaiting moment heads seen (taken ++ take n (take m (drop old.sent old.ready.octets.items))) (record old { sent = old.sent + length (take n (take m (drop old.sent old.ready.octets.items))); hasher = hasher })
waits_still moment heads seen taken old n m hasher h hashed less = record {
  links = h.links;
  noted = h.noted;
  saved = h.saved;
  hashed = hashed;
  some = less;
  text = moved taken old.ready.octets.items old.sent n m ∙ h.text;
}

pub all_taken : (moment : ℕ) (heads : List Head) (seen : List Concentrator) (taken : List ℕ) (old : Saver) (n m : ℕ) (hasher : Sha256) → IsWaiting moment heads seen taken old
    → Holds256 hasher (taken ++ take n (take m (drop old.sent old.ready.octets.items))) → length old.ready.octets.items ≤ old.sent + length (take n (take m (drop old.sent old.ready.octets.items)))
    → IsTaken moment heads seen (taken ++ take n (take m (drop old.sent old.ready.octets.items))) (record old { sent = old.sent + length (take n (take m (drop old.sent old.ready.octets.items))); hasher = hasher })
all_taken moment heads seen taken old n m hasher h hashed all = record {
  links = h.links;
  noted = h.noted;
  saved = h.saved;
  hashed = hashed;
  text = moved_all taken old.ready.octets.items old.sent n m all ∙ h.text;
}

found_at : (xs : List Noted) (i : ℕ) → i < length xs → (x : Noted) × (slice_get xs i ≡ Some x)
found_at [] i low = absurd (omega (arith, low))
found_at (x ∷ xs) zero low = (x, refl)
found_at (x ∷ xs) (suc i) low = found_at xs i (omega (arith, low))

-- the next link is begun
pub opened : (moment : ℕ) (heads : List Head) (seen : List Concentrator) (taken : List ℕ) (old : Saver) (ready : Ready) → IsTaken moment heads seen taken old → old.place < old.heads.len
    → ready.octets.items ≡ 0 ∷ 0 ∷ 0 ∷ 0 ∷ 0 ∷ 0 ∷ 0 ∷ 0 ∷ [] → ready.next ≡ 0 → ready.count ≡ 0
    → IsGathering moment heads seen taken (record old { ready = ready; sent = 0; stage = Gathering })
opened moment heads seen taken old ready h low free next count =
    let found = found_at old.heads.items old.place (omega (arith, low, old.heads.ok.0)) in
    record {
      links = h.links;
      noted = h.noted;
      saved = h.saved;
      hashed = h.hashed;
      text = h.text;
      link = found.0;
      here = found.1;
      left = omega (arith, next);
      contexts = [];
      gathered = record {
        ascending = tt;
        within = All-nil (λ (c : ℕ × Record). c.0 < ready.next);
        each = λ cid low. absurd (omega (arith, next, low));
      };
      count = count;
      ready = free;
    }

-- all links were taken, and the digest waits
pub closed : (moment : ℕ) (heads : List Head) (seen : List Concentrator) (taken : List ℕ) (old : Saver) (ready : Ready) (hasher : Sha256) → IsTaken moment heads seen taken old → old.heads.len ≤ old.place
    → ready.octets.items ≡ sha256 taken
    → IsLast moment heads seen taken (record old { ready = ready; sent = 0; hasher = hasher; stage = Last })
unfolding signed
closed moment heads seen taken old ready hasher h end digest =
    let count : length heads ≡ old.heads.len = sym (ap length h.noted) ∙ length-map old.heads.items head_in ∙ sym old.heads.ok.0 in
    let saved : AreSaved seen heads h.links = subst (λ hs. AreSaved seen hs h.links) (take_all old.place heads (omega (arith, count, end))) h.saved in
    let form : Form = record { moment = moment; links = h.links } in
    let text : taken ≡ form_text form = h.text ∙ form_is form moment (length heads) refl (saved_length seen heads h.links saved) in
    record {
      form = form;
      at = refl;
      links = saved;
      some = omega (arith, ap length digest, length-sha256 taken);
      text = ap (λ t. taken ++ t) digest ∙ ap (λ t. t ++ sha256 t) text;
    }

pub last_still : (moment : ℕ) (heads : List Head) (seen : List Concentrator) (taken : List ℕ) (old : Saver) (n m : ℕ) → IsLast moment heads seen taken old
    → old.sent + length (take n (take m (drop old.sent old.ready.octets.items))) < length old.ready.octets.items
    → IsLast moment heads seen (taken ++ take n (take m (drop old.sent old.ready.octets.items))) (record old { sent = old.sent + length (take n (take m (drop old.sent old.ready.octets.items))) })
last_still moment heads seen taken old n m h less = record {
  form = h.form;
  at = h.at;
  links = h.links;
  some = less;
  text = moved taken old.ready.octets.items old.sent n m ∙ h.text;
}

pub last_taken : (moment : ℕ) (heads : List Head) (seen : List Concentrator) (taken : List ℕ) (old : Saver) (n m : ℕ) → IsLast moment heads seen taken old
    → length old.ready.octets.items ≤ old.sent + length (take n (take m (drop old.sent old.ready.octets.items)))
    → IsSavedOver moment heads seen (taken ++ take n (take m (drop old.sent old.ready.octets.items)))
last_taken moment heads seen taken old n m h all = record {
  form = h.form;
  at = h.at;
  links = h.links;
  text = moved_all taken old.ready.octets.items old.sent n m all ∙ h.text;
}

pub waits_by : (moment : ℕ) (heads : List Head) (seen : List Concentrator) (taken : List ℕ) (old : Saver) (n m : ℕ) (part : List ℕ) (hasher : Sha256) → part ≡ take n (take m (drop old.sent old.ready.octets.items))
    → IsWaiting moment heads seen taken old → Holds256 hasher (taken ++ part) → old.sent + length part < length old.ready.octets.items
    → IsWaiting moment heads seen (taken ++ take n (take m (drop old.sent old.ready.octets.items))) (record old { sent = old.sent + length part; hasher = hasher })
waits_by moment heads seen taken old n m part hasher e h =
    subst (λ p. Holds256 hasher (taken ++ p) → old.sent + length p < length old.ready.octets.items → IsWaiting moment heads seen (taken ++ take n (take m (drop old.sent old.ready.octets.items))) (record old { sent = old.sent + length p; hasher = hasher }))
    (sym e) (waits_still moment heads seen taken old n m hasher h)

pub taken_by : (moment : ℕ) (heads : List Head) (seen : List Concentrator) (taken : List ℕ) (old : Saver) (n m : ℕ) (part : List ℕ) (hasher : Sha256) → part ≡ take n (take m (drop old.sent old.ready.octets.items))
    → IsWaiting moment heads seen taken old → Holds256 hasher (taken ++ part) → length old.ready.octets.items ≤ old.sent + length part
    → IsTaken moment heads seen (taken ++ take n (take m (drop old.sent old.ready.octets.items))) (record old { sent = old.sent + length part; hasher = hasher })
taken_by moment heads seen taken old n m part hasher e h =
    subst (λ p. Holds256 hasher (taken ++ p) → length old.ready.octets.items ≤ old.sent + length p → IsTaken moment heads seen (taken ++ take n (take m (drop old.sent old.ready.octets.items))) (record old { sent = old.sent + length p; hasher = hasher }))
    (sym e) (all_taken moment heads seen taken old n m hasher h)

pub last_by : (moment : ℕ) (heads : List Head) (seen : List Concentrator) (taken : List ℕ) (old : Saver) (n m : ℕ) (part : List ℕ) → part ≡ take n (take m (drop old.sent old.ready.octets.items))
    → IsLast moment heads seen taken old → old.sent + length part < length old.ready.octets.items
    → IsLast moment heads seen (taken ++ take n (take m (drop old.sent old.ready.octets.items))) (record old { sent = old.sent + length part })
last_by moment heads seen taken old n m part e h =
    subst (λ p. old.sent + length p < length old.ready.octets.items → IsLast moment heads seen (taken ++ take n (take m (drop old.sent old.ready.octets.items))) (record old { sent = old.sent + length p }))
    (sym e) (last_still moment heads seen taken old n m h)

-- what a part is, by the calls that cut it
pub part_is : (part piece slice items : List ℕ) (n m sent : ℕ) → part ≡ take n piece → piece ≡ take m (drop sent slice) → slice ≡ items → part ≡ take n (take m (drop sent items))
part_is part piece slice items n m sent ep es ei = ep ∙ ap (take n) es ∙ ap (λ xs. take n (take m (drop sent xs))) ei

-- ---- A save goes on

-- where contexts aren't being gathered, octets wait
pub none_waits : {A : Type 0} (moment : ℕ) (heads : List Head) (seen : List Concentrator) (taken : List ℕ) (s : Saver) → (s.stage ≡ Gathering → A) → IsUnderWay moment heads seen taken s → busy s ≡ true → waiting s ≡ [] → A
none_waits {A} moment heads seen taken s gathers h is none = by s.stage refl
  where
    some_left : s.sent < length s.ready.octets.items → drop s.sent s.ready.octets.items ≡ [] → A
    some_left some none = absurd (omega (arith, some, ap length none, length-drop s.sent s.ready.octets.items))

    by : (stage : Stage) → s.stage ≡ stage → A
    by Idle e = absurd (let never : true ≡ false = sym is ∙ ap is_busy_at e in cc)
    by Gathering e = gathers e
    by Waiting e = some_left (under_at moment heads seen taken s Waiting e h).some (sym (ap (λ stage. waiting_at stage (drop s.sent s.ready.octets.items)) e) ∙ none)
    by Last e = some_left (under_at moment heads seen taken s Last e h).some (sym (ap (λ stage. waiting_at stage (drop s.sent s.ready.octets.items)) e) ∙ none)

-- the link under way was noted
pub is_noted : {A : Type 0} (xs items : List Noted) (i : ℕ) (link : Noted) → slice_get items i ≡ Some link → xs ≡ items → false ≡ nat_lt i (length xs) → A
is_noted xs items i link here same past =
    let low : i < length items = slice_get_within items i link here in
    let high : nat_lt i (length items) ≡ false = ap (λ ys. nat_lt i (length ys)) (sym same) ∙ sym past in
    absurd (grind (arith, nat_tests, low, high))

-- the CIDs of one more link
pub sum_next : (xs : List Noted) (i : ℕ) (x : Noted) → slice_get xs i ≡ Some x → sum_by (λ (n : Noted). n.greatest + 1) (take (i + 1) xs) ≡ sum_by (λ (n : Noted). n.greatest + 1) (take i xs) + (x.greatest + 1)
sum_next xs i x e =
    let next : suc i ≡ i + 1 = omega arith in
    let front : take (i + 1) xs ≡ take i xs ++ x ∷ [] = subst (λ n. take n xs ≡ take i xs ++ x ∷ []) next
    (take-suc xs i x (slice_get_within xs i x e) ∙ ap (λ (y : Noted). take i xs ++ y ∷ []) (get_or_from_slice_get xs i x x e)) in
    let one : sum_by (λ (n : Noted). n.greatest + 1) (x ∷ []) ≡ x.greatest + 1 = omega arith in
    ap (sum_by (λ (n : Noted). n.greatest + 1)) front ∙ sum_by-append (λ (n : Noted). n.greatest + 1) (take i xs) (x ∷ [])
    ∙ ap (λ n. sum_by (λ (n : Noted). n.greatest + 1) (take i xs) + n) one
