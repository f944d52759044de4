-- Totals with a packet more. Words: key_of; IsTaken; IsEmpty, Advances, AdvancesFrom, StepsTo; call_at.
use Rattle.std.specs.Prelude.{◌≡◌, ℕ, ◌+◌, ◌*◌, List, Option, Some, None, nat_eq, slice_index}
use Rattle.indexmap.specs.IndexMap.{get}
use Rattle.rohc_feedback.specs.declared.meaning.Word.{Word}
use Rattle.rohc_counts.specs.declared.counts.Counts.{Counts}
use Rattle.rohc_counts.specs.Counted.{IsFed, HasParts, counted}
use Rattle.rohc_report.specs.declared.became.Became.{Became}
use Rattle.rohc_report.specs.declared.call.CallTotals.{CallTotals}
use Rattle.rohc_report.specs.declared.calls.Calls.{Calls}
use Rattle.rohc_report.specs.Became.{outcome_of, late_count, repaired_count}

-- the key of a call
abbrev pub key_of : ℕ → ℕ → ℕ
key_of link cid = link * 65536 + cid

-- counts with a packet more: what became of it, the feedback that it made due, and how much it carried
abbrev pub IsTaken : (cid : ℕ) → Became → Option (List ℕ) → (relayed : ℕ) → (before after : Counts) → Type 0
IsTaken cid became feedback relayed before after =
    (word : Option Word) × IsFed cid feedback word × HasParts (outcome_of became) word relayed before after

-- a call without packets
pub record IsEmpty (t : CallTotals) : Type 0 where
  pub outcomes : (k : ℕ) → slice_index t.counts.outcomes k ≡ 0
  pub words : (k : ℕ) → slice_index t.counts.words k ≡ 0
  pub fronts : t.counts.fronts ≡ 0
  pub relayed : t.counts.relayed ≡ 0
  pub late : t.late ≡ 0
  pub repaired : t.repaired ≡ 0

-- a call with a packet more
pub record Advances (cid : ℕ) (became : Became) (feedback : Option (List ℕ)) (relayed : ℕ)
    (before after : CallTotals) : Type 0 where
  pub counts : IsTaken cid became feedback relayed before.counts after.counts
  pub late : after.late ≡ counted before.late (late_count became)
  pub repaired : after.repaired ≡ counted before.repaired (repaired_count became)

-- the same, where it may have no packet so far
abbrev pub AdvancesFrom : (cid : ℕ) → Became → Option (List ℕ) → (relayed : ℕ) →
    Option CallTotals → CallTotals → Type 0
AdvancesFrom cid became feedback relayed (Some t) new = Advances cid became feedback relayed t new
AdvancesFrom cid became feedback relayed None new =
    (t : CallTotals) × IsEmpty t × Advances cid became feedback relayed t new

-- a call gets its first packet, or one more
abbrev pub StepsTo : (cid : ℕ) → Became → Option (List ℕ) → (relayed : ℕ) →
    (old new : Option CallTotals) → Type 0
StepsTo cid became feedback relayed old None = ⊥
StepsTo cid became feedback relayed old (Some new) = AdvancesFrom cid became feedback relayed old new

-- the totals at a key, if there is a packet of that call
abbrev pub call_at : Calls → ℕ → Option CallTotals
call_at calls key = get nat_eq calls.calls key
