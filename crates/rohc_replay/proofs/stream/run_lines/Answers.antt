use Rattle.std.proofs.Common.{◌≡◌, ◌+◌, ◌<◌, [], ◌∷◌, ◌++◌, length, take, drop, get_or, false, slice_range, arith, length-drop, sym, ◌∙◌, ap, subst, inl, inr}
use Rattle.std.proofs.lemmas.List.{get_or-drop}
use Rattle.std.proofs.lemmas.Result.{err_from_is_err_and}
use Rattle.rohc_replay.specs.Lines.{has_newline}
use Rattle.rohc_replay.proofs.RangeLemmas.{range-ahead, range-end}
use Rattle.rohc_replay.proofs.StreamLemmas.{seen_parts, StandsInScript-along, StandsInScript-after, StandsInScript-long, StandsInScript-short, StandsInScript-end}
use Rattle.rohc_replay.proofs.stream.run_lines.Goals as goal
use Rattle.rohc_replay.proofs.stream.run_lines.Goals.{then-long-via-then-long, then-long-via-else-long+then-len-gt-LONGEST_LINE}

pub loop-ahead-preserved : goal.loop-ahead-preserved
loop-ahead-preserved g c =
    let octets = c.args.octets.now in
    let from = c.loop-ahead.from in
    let ahead = c.in-Some.ahead in
    let before = c.loop-ahead.invariant in
    let found = c.in-Some.ensures.found in
    let tail = range-end octets from in
    let inside : from + ahead < length octets = omega (arith, length-drop from octets, subst (λ t. ahead < length t) tail found.0) in
    let none : has_newline (slice_range octets from (from + ahead)) ≡ false = ap has_newline (range-ahead octets from ahead) ∙ subst (λ t. has_newline (take ahead t) ≡ false) tail found.2 in
    let newline : get_or octets (from + ahead) 0 ≡ 10 = sym (get_or-drop from octets ahead 0) ∙ subst (λ t. get_or t ahead 0 ≡ 10) tail found.1 in
    record {
      begun = omega arith;
      later = omega (arith, before.later);
      within = omega arith;
      stands = λ first held seen s.
          StandsInScript-after _ seen octets c.args.front.len (from + ahead) _ (omega (arith, before.later)) inside newline
          (c.in_ok-end_line.ensures.stands first held (seen ++ slice_range octets c.args.front.len (from + ahead))
          (StandsInScript-along _ octets c.args.front.len c.loop-ahead.start from (from + ahead) _ _ before.begun before.later (omega arith) none seen (before.stands first held seen s)));
    }

pub returns-in_err-end_line-clause-stops : goal.returns-in_err-end_line-clause-stops
returns-in_err-end_line-clause-stops g c =
    let octets = c.args.octets.now in
    let from = c.loop-ahead.from in
    let ahead = c.in-Some.ahead in
    let before = c.loop-ahead.invariant in
    let found = c.in-Some.ensures.found in
    let tail = range-end octets from in
    let inside : from + ahead < length octets = omega (arith, length-drop from octets, subst (λ t. ahead < length t) tail found.0) in
    let none : has_newline (slice_range octets from (from + ahead)) ≡ false = ap has_newline (range-ahead octets from ahead) ∙ subst (λ t. has_newline (take ahead t) ≡ false) tail found.2 in
    let newline : get_or octets (from + ahead) 0 ≡ 10 = sym (get_or-drop from octets ahead 0) ∙ subst (λ t. get_or t ahead 0 ≡ 10) tail found.1 in
    let failed = err_from_is_err_and c.from_residual.result c.from_residual.ensures.1 in
    rw failed.1 (λ first held seen s. (
      (seen ++ slice_range octets c.args.front.len (from + ahead)) ++ 10 ∷ [],
      drop (from + ahead + 1) octets,
      seen_parts seen octets c.args.front.len (from + ahead) (omega (arith, before.later)) inside newline,
      c.in_err-end_line.ensures.stops first held (seen ++ slice_range octets c.args.front.len (from + ahead))
          (StandsInScript-along _ octets c.args.front.len c.loop-ahead.start from (from + ahead) _ _ before.begun before.later (omega arith) none seen (before.stands first held seen s)),
    ))

pub returns-then-long-clause-stands : goal.returns-then-long-clause-stands
returns-then-long-clause-stands g c = λ first held seen s.
    let octets = c.args.octets.now in
    let before = c.loop-ahead.invariant in
    StandsInScript-long _ _ (drop c.loop-ahead.start octets) _ c.loop-ahead.long _
    (elim c.then-long.branch [
      | then-long-via-then-long w ↦ inl w.if-long.true
      | then-long-via-else-long+then-len-gt-LONGEST_LINE w ↦ inr (omega (arith, length-drop c.loop-ahead.start octets))
    ])
    (StandsInScript-end _ seen octets c.args.front.len c.loop-ahead.start _ _
    (StandsInScript-along _ octets c.args.front.len c.loop-ahead.start c.loop-ahead.from (length octets) _ _ before.begun before.later before.within c.in_default.ensures.none seen (before.stands first held seen s)))

pub returns-clause-stands : goal.returns-clause-stands
returns-clause-stands g c = λ first held seen s.
    let octets = c.args.octets.now in
    let before = c.loop-ahead.invariant in
    StandsInScript-short _ _ octets c.loop-ahead.start c.loop-ahead.long _ (omega (arith, before.begun, before.within)) c.if-long.false
    (StandsInScript-end _ seen octets c.args.front.len c.loop-ahead.start _ _
    (StandsInScript-along _ octets c.args.front.len c.loop-ahead.start c.loop-ahead.from (length octets) _ _ before.begun before.later before.within c.in_default.ensures.none seen (before.stands first held seen s)))
