use Rattle.std.proofs.Common.{◌≡◌, ◌≤◌, ◌+◌, ◌++◌, length, flat_map}
use Rattle.std.specs.Prelude.{◌⊎◌}
use Rattle.rohc_saved.specs.Form.{context_text}
use Rattle.rohc_piecewise.specs.Noted.{head_in}
use Rattle.rohc_piecewise.specs.Between.{held_from}
use Rattle.rohc_piecewise.proofs.ready.Ready.look_on.Given as goal

-- so many CIDs were looked at
abbrev pub invariant-loop : goal.invariant-loop
invariant-loop l = record {
  next : l.self.next ≡ l.initial.self.next + l.counter;
  within : (l.counter ≡ 0) ⊎ (l.self.next ≤ l.link.greatest + 1);
  count : l.self.count ≡ l.initial.self.count + length (held_from l.concentrator (head_in l.link) l.initial.self.next l.counter);
  text : l.self.octets.items ≡ l.initial.self.octets.items ++ flat_map context_text (held_from l.concentrator (head_in l.link) l.initial.self.next l.counter);
}
