use Rattle.std.proofs.Common.{ℕ, ◌∙◌, sym, subst}
use Rattle.std.specs.Prelude.{Option, Ok}
use Rattle.std.specs.declared.alloc.Global.{Global}
use Rattle.std.specs.declared.vec.Vec.{Vec}
use Rattle.rohc_world.specs.Acts.{Asks}
use Rattle.rohc_loop.specs.Reading.{ReadsState}
use Rattle.rohctl_keep.proofs.CopyLemmas.{none_there, not_read, copied, not_written}
use Rattle.rohctl_keep.proofs.copying.copy_save.Goals as goal

pub returns-in-Ok-None : goal.returns-in-Ok-None
returns-in-Ok-None g c =
    none_there _ _ _ c.args.latest.now c.args.kept.now c.in-Ok.date c.in-Ok.ensures.told
    (subst
    (λ (found : Option (Vec ℕ Global)). Asks (g.W.Traced.acts c.modified.new.self) (g.W.Traced.acts c.read_state.new.world) (ReadsState c.args.latest.now (Ok found)))
    c.in-Ok-None.field-0-is c.in-Ok-None.ensures)

pub returns-in-Err-read_state : goal.returns-in-Err-read_state
returns-in-Err-read_state g c =
    not_read _ _ _ c.args.latest.now c.args.kept.now c.in-Ok.date c.in-Err-read_state.reason c.in-Ok.ensures.told c.in-Err-read_state.ensures

pub returns-in-Ok-replace_file : goal.returns-in-Ok-replace_file
returns-in-Ok-replace_file g c =
    copied _ _ _ _ c.args.latest.now c.args.kept.now c.in-Ok.date c.len-size.result c.in-Ok-Some.octets c.as_slice.result.now c.in-Ok.ensures.told
    (subst
    (λ (found : Option (Vec ℕ Global)). Asks (g.W.Traced.acts c.modified.new.self) (g.W.Traced.acts c.read_state.new.world) (ReadsState c.args.latest.now (Ok found)))
    c.in-Ok-Some.field-0-is c.in-Ok-Some.ensures)
    (sym c.as_slice.ensures.value)
    (c.len-size.ensures ∙ sym c.as_slice.ensures.len)
    c.in-Ok-replace_file.ensures

pub returns : goal.returns
returns g c =
    not_written _ _ _ _ c.args.latest.now c.args.kept.now c.in-Ok.date c.in-Ok-Some.octets c.as_slice.result.now c.in-Err-replace_file.error c.in-Ok.ensures.told
    (subst
    (λ (found : Option (Vec ℕ Global)). Asks (g.W.Traced.acts c.modified.new.self) (g.W.Traced.acts c.read_state.new.world) (ReadsState c.args.latest.now (Ok found)))
    c.in-Ok-Some.field-0-is c.in-Ok-Some.ensures)
    (sym c.as_slice.ensures.value)
    c.in-Err-replace_file.ensures
