-- What one piece finds. Word: LooksOn.
use Rattle.std.specs.Prelude.{◌≡◌, ◌≤◌, ◌<◌, ◌+◌, ◌⊎◌, ℕ, ◌++◌, length, flat_map}
use Rattle.rohc_concentrator.specs.declared.concentrator.Concentrator.{Concentrator}
use Rattle.rohc_saved.specs.Form.{context_text}
use Rattle.rohc_piecewise.specs.Piecewise.{Head}
use Rattle.rohc_piecewise.specs.Between.{held_from}
use Rattle.rohc_piecewise.specs.declared.ready.Ready.{Ready}

-- The next CIDs of a link were looked at, at most 256 and up to its greatest. Those that have a context
-- were appended, each with it.
pub record LooksOn (k : Concentrator) (head : Head) (old new : Ready) : Type 0 where
  pub cids : ℕ
  pub few : cids ≤ 256
  pub next : new.next ≡ old.next + cids
  pub within : (cids ≡ 0) ⊎ (new.next ≤ head.greatest + 1)
  pub some : (head.greatest < old.next) ⊎ (0 < cids)
  pub count : new.count ≡ old.count + length (held_from k head old.next cids)
  pub text : new.octets.items
      ≡ old.octets.items ++ flat_map context_text (held_from k head old.next cids)
