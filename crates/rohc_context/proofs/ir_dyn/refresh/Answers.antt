use Rattle.std.proofs.Common.{◌≡◌, ℕ, Bool, Option, Ok, ap, sym, ◌∙◌, refl}
use Rattle.std.specs.Result.{result_map_both}
use Rattle.rohc_frame.specs.Reading.{header_of}
use Rattle.rohc_chain.specs.Packets.{dyn_content, kept_values, ir_dyn_at}
use Rattle.rohc_context.proofs.ir_dyn.refresh.Goals as goal

pub returns-clause-taken : goal.returns-clause-taken
returns-clause-taken c =
    let p = c.in_ok-packet.packet in
    let read : result_map_both dyn_content (λ e. e) c.read_ir_dyn.result ≡ Ok (dyn_content p) = rw c.in_ok-packet.was refl in
    (dyn_content p, sym (ap (λ (kept : Bool × Option ℕ). ir_dyn_at (header_of c.args.forward.now) 1 (kept_values kept.0 kept.1)) c.kept-extension.ensures) ∙ sym c.read_ir_dyn.ensures.reads ∙ read, λ moment. c.begin.ensures moment)
