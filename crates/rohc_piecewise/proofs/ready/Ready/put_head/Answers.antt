use Rattle.rohc_piecewise.proofs.TextLemmas.{over_eight, filled}
use Rattle.std.proofs.Common.{◌≡◌, ◌++◌, length, ap, ◌∙◌, drop}
use Rattle.rohc_piecewise.specs.Noted.{head_in}
use Rattle.rohc_piecewise.specs.Between.{head_of_link}
use Rattle.rohc_piecewise.proofs.ready.Ready.put_head.Goals as goal

pub returns-then-len-ge8-clause-text : goal.returns-then-len-ge8-clause-text
returns-then-len-ge8-clause-text c long =
    let old = c.args.self.now.octets in
    let len : length c.put_behind.new.place ≡ length old.items = c.put_behind.ensures.len ∙ ap length c.deref_mut.ensures.value in
    filled old.items c.put_behind.new.place old.len old.ok.0 len
    ∙ over_eight c.deref_mut.result.now c.put_behind.new.place c.head_octets-head.result (ap length c.head_octets-head.ensures) c.put_behind.ensures.put c.put_behind.ensures.behind
    ∙ ap (λ h. h ++ drop 8 c.deref_mut.result.now) c.head_octets-head.ensures
    ∙ ap (λ xs. head_of_link (head_in c.args.link) c.args.self.now.count ++ drop 8 xs) c.deref_mut.ensures.value
