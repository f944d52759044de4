use Rattle.std.proofs.Common.{◌++◌, ◌∷◌, [], refl, ap, arith}
use Rattle.rohc_piecewise.specs.declared.saver.Stage.TheVariants.{Gathering, Waiting}
use Rattle.rohc_piecewise.proofs.UnderLemmas.{more_seen, under_at, at_under, step_on, looked_whole, link_here, none_waits, is_noted, sum_next}
use Rattle.rohc_piecewise.specs.UnderWay.{looked_at_in}
use Rattle.rohc_piecewise.proofs.saver.Saver.gather.Goals as goal

pub returns-in_default-clause-goes : goal.returns-in_default-clause-goes
returns-in_default-clause-goes c moment heads seen taken h = more_seen moment heads seen (c.args.concentrator.now ∷ []) taken c.args.self.now h

pub returns-in_default-get-clause-goes : goal.returns-in_default-get-clause-goes
returns-in_default-get-clause-goes c moment heads seen taken h = more_seen moment heads seen (c.args.concentrator.now ∷ []) taken c.args.self.now h

pub returns-then-self-link-clause-goes : goal.returns-then-self-link-clause-goes
returns-then-self-link-clause-goes c moment heads seen taken h =
    let gathering = under_at moment heads seen taken c.args.self.now Gathering c.in-Gathering.is h in
    at_under moment heads (seen ++ c.args.concentrator.now ∷ []) taken _ Waiting refl
    (looked_whole moment heads seen taken c.args.concentrator.now c.args.self.now c.look_on.new.self c.put_head.new.self c.in-Some.link.now gathering
    (link_here c.deref.result.now c.args.self.now.heads.items c.args.self.now.place _ c.in-Some.link.now c.deref.ensures.value c.in-Some.ensures.lookup.0 c.in-Some.ensures.lookup.1) c.look_on.ensures c.if-self-link.true c.put_head.ensures.text)

pub returns-else-self-link-clause-goes : goal.returns-else-self-link-clause-goes
returns-else-self-link-clause-goes c moment heads seen taken h =
    let gathering = under_at moment heads seen taken c.args.self.now Gathering c.in-Gathering.is h in
    at_under moment heads (seen ++ c.args.concentrator.now ∷ []) taken _ Gathering c.in-Gathering.is
    (step_on moment heads seen taken c.args.concentrator.now c.args.self.now c.look_on.new.self c.in-Some.link.now gathering
    (link_here c.deref.result.now c.args.self.now.heads.items c.args.self.now.place _ c.in-Some.link.now c.deref.ensures.value c.in-Some.ensures.lookup.0 c.in-Some.ensures.lookup.1) c.look_on.ensures c.if-self-link.false)

pub returns-in_default-clause-on : goal.returns-in_default-clause-on
returns-in_default-clause-on c moment heads seen taken h is none =
    none_waits moment heads seen taken c.args.self.now (λ e. absurd (c.in_default.not-Gathering e)) h is none

pub returns-in_default-get-clause-on : goal.returns-in_default-get-clause-on
returns-in_default-get-clause-on c moment heads seen taken h is none =
    let gathering = under_at moment heads seen taken c.args.self.now Gathering c.in-Gathering.is h in
    is_noted c.deref.result.now c.args.self.now.heads.items c.args.self.now.place gathering.link gathering.here c.deref.ensures.value c.in_default-get.ensures.lookup.0

pub returns-then-self-link-clause-on : goal.returns-then-self-link-clause-on
returns-then-self-link-clause-on c moment heads seen taken h is none =
    let gathering = under_at moment heads seen taken c.args.self.now Gathering c.in-Gathering.is h in
    let at = ap (λ stage. looked_at_in stage c.args.self.now.ready.next) c.in-Gathering.is in
    omega (arith, at, gathering.left, sum_next c.args.self.now.heads.items c.args.self.now.place gathering.link gathering.here)
