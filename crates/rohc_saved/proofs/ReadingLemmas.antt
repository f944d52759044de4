-- What is read is what the definitions read.
use Rattle.std.proofs.Common.{◌≡◌, ℕ, suc, List, [], ◌∷◌, ◌++◌, length, true, Result, Ok, Err, refl, sym, ap, ◌∙◌, arith, inl, inr, length-append}
use Rattle.std.specs.Prelude.{nat_le, ◌⊎◌, IsErr, IsErrAnd}
use Rattle.std.proofs.lemmas.Bool.Decides.{nat_tests}
use Rattle.std.proofs.lemmas.List.{take_at, drop_at}
use Rattle.rohc_context.specs.Record.{Record}
use Rattle.rohc_saved.specs.Form.{Link}
use Rattle.rohc_saved.specs.declared.fault.SavedFault.{SavedFault}
use Rattle.rohc_saved.specs.declared.fault.SavedFault.TheVariants.{NoMemory}
use Rattle.rohc_saved.specs.Reading.{cid_at, record_text_at, Read, Gives, part_at, context_at, contexts_at, link_at, links_at}

-- a front of this length is what is taken
pub part_is : (count : ℕ) (short : SavedFault) (front rest : List ℕ) → length front ≡ count → part_at count short (front ++ rest) ≡ Ok (front, rest)
unfolding part_at
part_is count short front rest is =
    let enough : nat_le count (length (front ++ rest)) ≡ true = grind (arith, nat_tests, length-append front rest, is) in
    rw (enough, take_at front rest count is, drop_at front rest count is) refl

-- after one context, the others are those behind it
pub contexts_step : (total greatest count : ℕ) (held new : List (ℕ × Record)) (text behind : List ℕ) (x : ℕ × Record) → context_at total greatest held text ≡ Ok (x, behind) → new ≡ held ++ x ∷ []
    → contexts_at total greatest (suc count) held text ≡ contexts_at total greatest count new behind
unfolding contexts_at
contexts_step total greatest count held new text behind x read is = rw (read, is) refl

pub contexts_stop : (total greatest count : ℕ) (held : List (ℕ × Record)) (text : List ℕ) (e : SavedFault) → context_at total greatest held text ≡ Err e → contexts_at total greatest (suc count) held text ≡ Err e
unfolding contexts_at
contexts_stop total greatest count held text e read = rw read refl

-- and so for links
pub links_step : (total count : ℕ) (held new : List (ℕ × Link)) (text behind : List ℕ) (x : ℕ × Link) → link_at total held text ≡ Ok (x, behind) → new ≡ held ++ x ∷ []
    → links_at total (suc count) held text ≡ links_at total count new behind
unfolding links_at
links_step total count held new text behind x read is = rw (read, is) refl

pub links_stop : (total count : ℕ) (held : List (ℕ × Link)) (text : List ℕ) (e : SavedFault) → link_at total held text ≡ Err e → links_at total (suc count) held text ≡ Err e
unfolding links_at
links_stop total count held text e read = rw read refl

-- a reader that was stopped by this fault, or by want of memory
pub stops : {A B wants : Type 0} (view : A → B) (result : Result A SavedFault) (behind : List ℕ) (e : SavedFault) (read : Read B)
    → IsErr result → IsErrAnd result (λ x. x ≡ e) → ((e ≡ NoMemory) × wants) ⊎ (read ≡ Err e) → Gives view wants result behind read
stops view (Ok x) behind e read err is why = absurd (let never = err in cc)
stops view (Err x) behind e read err is (inl poor) = inl (is ∙ poor.0, poor.1)
stops view (Err x) behind e read err is (inr stop) = inr (stop ∙ ap Err (sym is))

-- no context is left to read
pub contexts_end : (total greatest count : ℕ) (held : List (ℕ × Record)) (text : List ℕ) → count ≡ 0 → contexts_at total greatest count held text ≡ Ok (held, text)
unfolding contexts_at
contexts_end total greatest count held text none = rw none refl

pub links_end : (total count : ℕ) (held : List (ℕ × Link)) (text : List ℕ) → count ≡ 0 → links_at total count held text ≡ Ok (held, text)
unfolding links_at
links_end total count held text none = rw none refl

-- a fault of one more is that of all
pub either_by : {P Q R S : Type 0} → (P → R) → (Q → S) → P ⊎ Q → R ⊎ S
either_by f g (inl p) = inl (f p)
either_by f g (inr q) = inr (g q)

-- a CID and a context behind it were read
pub context_reads : (total greatest cid : ℕ) (held : List (ℕ × Record)) (text mid behind : List ℕ) (r : Record) → cid_at total greatest held text ≡ Ok (cid, mid)
    → record_text_at total mid ≡ Ok (r, behind) → context_at total greatest held text ≡ Ok ((cid, r), behind)
unfolding context_at
context_reads total greatest cid held text mid behind r first second = rw (first, second) refl
