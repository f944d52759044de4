-- What is delivered was sent, in lines.
use Rattle.std.proofs.Common.{Some, ap, subst, ◌∙◌}
use Rattle.std.specs.Prelude.{List}
use Rattle.std.specs.List.{flat_map}
use Rattle.rohc_context.specs.Response.{Response}
use Rattle.rohc_concentrator.specs.Setting.{settings_of}
use Rattle.rohc_concentrator.specs.Tables.{record_at}
use Rattle.rohc_concentrator.specs.LoneRun.{LoneRun}
use Rattle.rohc_concentrator.proofs.HonestLemmas.{delivers_what_was_sent}
use Rattle.rohc_replay.specs.AnswerLines.{response_lines}
use Rattle.rohc_replay.specs.Isolation.{own_unmarked}
use Rattle.rohc_replay.specs.Laws.{LinesOfWhatWasSent}

pub lines_of_what_was_sent : LinesOfWhatWasSent
lines_of_what_was_sent r isolated p sender before arrivals is_pair is_before is_own call =
    let told = isolated.alone p is_pair in
    let s = settings_of p.setting p.cid in
    let after = record_at r.after p.link p.cid in
    let run = subst (λ events. LoneRun s (Some before) events told.replies after) is_own (subst (λ b. LoneRun s b (own_unmarked p.setting p.link p.cid isolated.marked) told.replies after) is_before told.run) in
    told.told ∙ ap (λ (replies : List Response). flat_map (response_lines p.link p.cid) replies) (delivers_what_was_sent sender s before arrivals told.replies after call run)
