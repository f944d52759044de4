use Rattle.std.proofs.Common.{rules, refl, []}
use Rattle.rohc_totals.proofs.reading.Progress.new.Goals as goal

pub returns : goal.returns
returns c = record {
  finished = [];
  rest = [];
  splits = record { whole = refl; each = tt; unfinished = refl };
  is_kept = search rules;
  short = search rules;
  told = [];
  are_told = tt;
  totals = search rules;
}
