-- The parts of a copy, one after the other.
use Rattle.std.proofs.Common.{inr, ◌≡◌, ℕ, refl, List, [], ◌∷◌, ◌++◌, length, append_assoc, ◌∙◌, ap}
use Rattle.std.specs.Prelude.{Option, Some, None, Result, Ok, Err, ⊤}
use Rattle.std.specs.declared.alloc.Global.{Global}
use Rattle.std.specs.declared.vec.Vec.{Vec}
use Rattle.rohc_text.specs.declared.reason.Reason.{Reason}
use Rattle.rohc_world.specs.Acts.{Act, Modified, AddsActs, Asks}
use Rattle.rohc_loop.specs.declared.unwritten.Unwritten.{Unwritten}
use Rattle.rohc_loop.specs.Reading.{ReadsState}
use Rattle.rohc_loop.specs.Saving.{EndsSaving}
use Rattle.rohctl_keep.specs.declared.save.Uncopied.TheVariants.{NotRead, NotWritten}
use Rattle.rohctl_keep.specs.Copying.{IsRead, IsPut, Copies}

adds_more : (before mid after : Option (List Act)) (a b : List Act) → AddsActs before mid a → AddsActs mid after b →
    AddsActs before after (a ++ b)
adds_more None None None a b ha hb = tt
adds_more None None (Some z) a b ha hb = hb
adds_more None (Some y) after a b ha hb = absurd ha
adds_more (Some x) (Some y) (Some z) a b ha hb = hb ∙ ap (λ (l : List Act). l ++ b) ha ∙ append_assoc x a b
adds_more (Some x) None (Some z) a b ha hb = absurd hb
adds_more (Some x) mid None a b ha hb = tt

is_read : (before mid after : Option (List Act)) (latest : List ℕ) (date : ℕ) (result : Result (Option (Vec ℕ Global)) Reason) →
    AddsActs before mid (Modified latest (Ok date) ∷ []) → Asks mid after (ReadsState latest result) →
    Asks before after (IsRead latest date result)
is_read before mid after latest date result told h = record {
  acts = Modified latest (Ok date) ∷ h.acts;
  known = adds_more before mid after (Modified latest (Ok date) ∷ []) h.acts told h.known;
  form = (h.acts, h.form, refl);
}

pub none_there : (before mid after : Option (List Act)) (latest kept : List ℕ) (date : ℕ) →
    AddsActs before mid (Modified latest (Ok date) ∷ []) → Asks mid after (ReadsState latest (Ok None)) →
    Asks before after (Copies latest kept (Ok None))
none_there before mid after latest kept date told h =
    let all = is_read before mid after latest date (Ok None) told h in
    record { acts = all.acts; known = all.known; form = inr (date, all.form) }

pub not_read : (before mid after : Option (List Act)) (latest kept : List ℕ) (date : ℕ) (reason : Reason) →
    AddsActs before mid (Modified latest (Ok date) ∷ []) → Asks mid after (ReadsState latest (Err reason)) →
    Asks before after (Copies latest kept (Err (NotRead reason)))
not_read before mid after latest kept date reason told h =
    let all = is_read before mid after latest date (Err reason) told h in
    record { acts = all.acts; known = all.known; form = inr (date, all.form) }

is_put : (before one two after : Option (List Act)) (latest kept : List ℕ) (date : ℕ) (whole : Vec ℕ Global) (octets : List ℕ)
    (result : Result ⊤ Unwritten) → AddsActs before one (Modified latest (Ok date) ∷ []) →
    Asks one two (ReadsState latest (Ok (Some whole))) → whole.items ≡ octets → Asks two after (EndsSaving date kept octets result) →
    Asks before after (IsPut latest date octets (EndsSaving date kept octets result))
is_put before one two after latest kept date whole octets result told h same s =
    let all = is_read before one two latest date (Ok (Some whole)) told h in
    record {
      acts = all.acts ++ s.acts;
      known = adds_more before two after all.acts s.acts all.known s.known;
      form = record {
        whole = whole;
        same = same;
        reading = all.acts;
        saving = s.acts;
        read = all.form;
        ends = s.form;
        all = refl;
      };
    }

pub copied : (before one two after : Option (List Act)) (latest kept : List ℕ) (date size : ℕ) (whole : Vec ℕ Global) (octets : List ℕ) →
    AddsActs before one (Modified latest (Ok date) ∷ []) → Asks one two (ReadsState latest (Ok (Some whole))) → whole.items ≡ octets →
    size ≡ length octets → Asks two after (EndsSaving date kept octets (Ok tt)) →
    Asks before after (Copies latest kept (Ok (Some (record { date = date; size = size }))))
copied before one two after latest kept date size whole octets told h same sized s =
    let all = is_put before one two after latest kept date whole octets (Ok tt) told h same s in
    record { acts = all.acts; known = all.known; form = (octets, sized, all.form) }

pub not_written : (before one two after : Option (List Act)) (latest kept : List ℕ) (date : ℕ) (whole : Vec ℕ Global) (octets : List ℕ)
    (error : Unwritten) → AddsActs before one (Modified latest (Ok date) ∷ []) →
    Asks one two (ReadsState latest (Ok (Some whole))) → whole.items ≡ octets → Asks two after (EndsSaving date kept octets (Err error)) →
    Asks before after (Copies latest kept (Err (NotWritten error)))
not_written before one two after latest kept date whole octets error told h same s =
    let all = is_put before one two after latest kept date whole octets (Err error) told h same s in
    record { acts = all.acts; known = all.known; form = (date, octets, all.form) }
