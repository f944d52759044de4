use Rattle.std.proofs.Common.{◌≡◌, Ok, sym, ◌∙◌, refl}
use Rattle.std.specs.Result.{result_map_both}
use Rattle.rohc_chain.specs.Packets.{ir_content, Whole}
use Rattle.rohc_context.proofs.ir.renewal.Goals as goal

pub returns-in-Whole-clause-taken : goal.returns-in-Whole-clause-taken
returns-in-Whole-clause-taken c =
    let w = c.in-Whole in
    let read : result_map_both ir_content (λ e. e) c.read_ir.result ≡ Ok (Whole w.fixed w.moving w.payload.now) = rw (c.in_ok-packet.was, w.is) refl in
    (Whole w.fixed w.moving w.payload.now, sym c.read_ir.ensures.reads ∙ read, λ moment. rw (sym c.full_window-window.ensures) (c.begin.ensures moment))
