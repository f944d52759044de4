-- The laws of a step, for the proofs of the crates above: each is its law's statement and nothing else.
use Rattle.rohc_context.specs.Laws.{HasAnswer, HasNoOther, LeavesGood, BeginsByIr, LeavesNone, NeverPoor, KeepsGood, KeepsRefused, LendsPayload, ChecksChange, LowStatesChange, LowStatesRefuse, ComesToOne, MeansOne, TakesPlain, DeliversHonest, PromotesHonest, DeliversWritten, HasWritten}
use Rattle.rohc_context.proofs.StepLemmas.{step_some, step_one, step_begins}
use Rattle.rohc_context.proofs.GoodLemmas.{step_good, context_good}
use Rattle.rohc_context.proofs.RefusalLemmas.{step_none, step_rich, step_keeps, step_checks, step_low, step_untaken}
use Rattle.rohc_context.proofs.LentLemmas.{step_lends}
use Rattle.rohc_context.proofs.TryLemmas.{verdict_one}
use Rattle.rohc_context.proofs.WrittenExample.{call, packet, is_written}
use Rattle.rohc_context.proofs.HonestLemmas.{means_one_header, takes_plain, delivers_honest, promotes_honest, delivers_written}

pub has_answer : HasAnswer
has_answer before s moment h good = step_some before s moment h good

pub has_no_other : HasNoOther
has_no_other before s moment h good a b x y p q = step_one before s moment h a b x y good.header.rest p q

pub leaves_good : LeavesGood
leaves_good before s moment h good response next step = step_good before s moment h good response next step

pub begins_by_ir : BeginsByIr
begins_by_ir s moment h response r step = step_begins s moment h response r step

pub leaves_none : LeavesNone
leaves_none s moment h response next refusal step e = step_none s moment h response next refusal step e

pub never_poor : NeverPoor
never_poor before s moment h response next step = step_rich before s moment h response next step

pub keeps_good : KeepsGood
keeps_good c = context_good c

pub keeps_refused : KeepsRefused
keeps_refused before s moment h response next refusal step e check low = step_keeps before s moment h response next refusal step e check low

pub lends_payload : LendsPayload
lends_payload = step_lends

pub means_one : MeansOne
means_one = means_one_header

pub takes_plain_ir : TakesPlain
takes_plain_ir = takes_plain

pub delivers_honest_packet : DeliversHonest
delivers_honest_packet = delivers_honest

pub promotes_honest_packet : PromotesHonest
promotes_honest_packet = promotes_honest

pub delivers_written_packet : DeliversWritten
delivers_written_packet = delivers_written

pub has_written : HasWritten
has_written = (call, packet, is_written)

pub checks_change : ChecksChange
checks_change = step_checks

pub low_states_change : LowStatesChange
low_states_change = step_low

pub low_states_refuse : LowStatesRefuse
low_states_refuse = step_untaken

pub comes_to_one : ComesToOne
comes_to_one = verdict_one
