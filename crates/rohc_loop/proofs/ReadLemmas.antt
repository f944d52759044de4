-- Reads, one after the other, between the opening and the closing of a file.
use Rattle.std.proofs.Common.{inl, inr, ◌≡◌, ◌<◌, ◌≤◌, ℕ, List, [], ◌∷◌, ◌++◌, length, append_assoc, append-nil, refl, sym, ◌∙◌, ap, subst}
use Rattle.std.specs.Prelude.{Option, Ok, Err, Result, Bool, true, false, IsUtf8}
use Rattle.std.specs.declared.alloc.Global.{Global}
use Rattle.std.specs.declared.vec.Vec.{Vec}
use Rattle.std.specs.declared.string.String.{String}
use Rattle.std.specs.String.{string_vec}
use Rattle.rohc_text.specs.declared.reason.Reason.{Reason}
use Rattle.rohc_text.specs.declared.reason.Reason.TheVariants.{TooLong, NotUtf8}
use Rattle.rohc_world.specs.declared.trouble.Trouble.{Trouble}
use Rattle.rohc_world.specs.Acts.{Act, Opened, Read, Closed, AddsActs, Asks, reason_for}
use Rattle.rohc_loop.specs.Reading.{AreReads, EndsReading, Reads, ReadsText, ReadsMore}
use Rattle.rohc_loop.proofs.AskLemmas.{adds_none, adds_more}

pub read_none : (acts : Option (List Act)) (octets : List ℕ) → octets ≡ [] → Asks acts acts (AreReads octets)
read_none acts octets e = record { acts = []; known = adds_none acts; form = e }

reads_more : (acts : List Act) (a b all : List ℕ) → AreReads a acts → all ≡ a ++ b → AreReads all (acts ++ Read (Ok b) ∷ [])
reads_more [] a b all none e = (b, [], refl, e ∙ ap (λ (l : List ℕ). l ++ b) none ∙ sym (append-nil b), refl)
reads_more (act ∷ acts) a b all h e =
    (h.0, h.1 ++ b, h.2, e ∙ ap (λ (l : List ℕ). l ++ b) h.3 ∙ append_assoc h.0 h.1 b, reads_more acts h.1 b (h.1 ++ b) h.4 refl)

pub read_on : (before mid after : Option (List Act)) (old new : List ℕ) → Asks before mid (AreReads old) →
    ReadsMore old new (Ok true) mid after → Asks before after (AreReads new)
read_on before mid after old new h r = record {
  acts = h.acts ++ Read (Ok r.0) ∷ [];
  known = adds_more before mid after h.acts (Read (Ok r.0) ∷ []) h.known r.1;
  form = reads_more h.acts old r.0 new h.form r.2.1;
}

pub ends_whole : (before mid after : Option (List Act)) (longest : ℕ) (old : List ℕ) (octets : Vec ℕ Global) (more : Bool) → more ≡ false →
    Asks before mid (AreReads old) → ReadsMore old octets.items (Ok more) mid after → length old ≤ longest →
    Asks before after (EndsReading longest (Ok octets))
ends_whole before mid after longest old octets more none h some fits =
    let r : ReadsMore old octets.items (Ok false) mid after =
    subst (λ (b : Bool). ReadsMore old octets.items (Ok b) mid after) none some in
    record {
      acts = h.acts ++ Read (Ok []) ∷ [];
      known = adds_more before mid after h.acts (Read (Ok []) ∷ []) h.known
          (subst (λ (l : List ℕ). AddsActs mid after (Read (Ok l) ∷ [])) r.2.1 r.1);
      form = (
        h.acts,
        subst (λ (l : List ℕ). AreReads l h.acts) (sym r.2.0) h.form,
        subst (λ (l : List ℕ). length l ≤ longest) (sym r.2.0) fits,
        refl,
      );
    }

pub ends_failed : (before mid after : Option (List Act)) (longest : ℕ) (old new : List ℕ) (reason : Reason) →
    Asks before mid (AreReads old) → ReadsMore old new (Err reason) mid after → Asks before after (EndsReading longest (Err reason))
ends_failed before mid after longest old new reason h (inl r) = record {
  acts = h.acts ++ Read (Err r.0) ∷ [];
  known = adds_more before mid after h.acts (Read (Err r.0) ∷ []) h.known r.1;
  form = inr (inl (old, h.acts, r.0, h.form, refl, r.2));
}
ends_failed before mid after longest old new reason h (inr r) = record {
  acts = h.acts ++ Read (Ok r.0) ∷ [];
  known = adds_more before mid after h.acts (Read (Ok r.0) ∷ []) h.known r.1;
  form = inr (inr (old ++ r.0, reads_more h.acts old r.0 (old ++ r.0) h.form refl, r.2));
}

pub ends_long : (before after : Option (List Act)) (longest : ℕ) (octets : List ℕ) → Asks before after (AreReads octets) →
    longest < length octets → Asks before after (EndsReading longest (Err (TooLong longest)))
ends_long before after longest octets h long = record { acts = h.acts; known = h.known; form = inl (octets, h.form, long, refl) }

pub not_opened : (before after : Option (List Act)) (path : List ℕ) (longest : ℕ) (trouble : Trouble) →
    AddsActs before after (Opened path (Err trouble) ∷ []) → Asks before after (Reads path longest (Err (reason_for trouble)))
not_opened before after path longest trouble told =
    record { acts = Opened path (Err trouble) ∷ []; known = told; form = inl (trouble, refl, refl) }

pub all_read : (before one two after : Option (List Act)) (path : List ℕ) (longest : ℕ) (result : Result (Vec ℕ Global) Reason) →
    AddsActs before one (Opened path (Ok tt) ∷ []) → Asks one two (EndsReading longest result) → AddsActs two after (Closed ∷ []) →
    Asks before after (Reads path longest result)
all_read before one two after path longest result told h ends = record {
  acts = Opened path (Ok tt) ∷ h.acts ++ Closed ∷ [];
  known = adds_more before two after (Opened path (Ok tt) ∷ h.acts) (Closed ∷ [])
      (adds_more before one two (Opened path (Ok tt) ∷ []) h.acts told h.known) ends;
  form = inr (h.acts, h.form, refl);
}

pub text_read : (before after : Option (List Act)) (path : List ℕ) (octets : Vec ℕ Global) (text : String Global) →
    Asks before after (Reads path 1048576 (Ok octets)) → string_vec text ≡ octets → Asks before after (ReadsText path (Ok text))
text_read before after path octets text h is =
    subst (λ (v : Vec ℕ Global). Asks before after (Reads path 1048576 (Ok v))) (sym is) h

pub text_refused : (before after : Option (List Act)) (path : List ℕ) (octets : Vec ℕ Global) →
    Asks before after (Reads path 1048576 (Ok octets)) → (IsUtf8 octets.items → ⊥) → Asks before after (ReadsText path (Err NotUtf8))
text_refused before after path octets h bad = record { acts = h.acts; known = h.known; form = inr (octets, h.form, bad, refl) }

pub text_failed : (before after : Option (List Act)) (path : List ℕ) (reason : Reason) →
    Asks before after (Reads path 1048576 (Err reason)) → Asks before after (ReadsText path (Err reason))
text_failed before after path reason h = record { acts = h.acts; known = h.known; form = inl h.form }
