use Rattle.std.proofs.Common.{◌≡◌, ◌≤◌, ◌<◌, ◌⊎◌, inl, inr, ℕ, length, length-drop, drop, arith, ap, ◌∙◌}
use Rattle.rohc_capture.specs.Window.{ahead_of}
use Rattle.rohc_capture.proofs.WindowLemmas.{range-behind}
use Rattle.rohc_capture.proofs.ReaderLemmas.{ahead-nothing}
use Rattle.rohc_capture.proofs.reader.Capture.coming.Goals as goal

-- a part that ends where the octets do isn't there if it begins behind them
few : (size from : ℕ) → (size < from) ⊎ (size < size) → size ≤ from
few size from (inl past) = omega arith
few size from (inr not) = omega arith

pub returns-in_err-get : goal.returns-in_err-get
returns-in_err-get g c =
    let here = c.args.self.now in
    let ahead = ahead_of here.window in
    let past = few (length c.ahead.result.now) here.span.all c.in_err-get.ensures.lookup.0 in
    let size : length c.ahead.result.now ≡ length ahead = ap length c.ahead.ensures in
    let empty : length (drop c.args.passed (drop here.span.all ahead)) ≡ 0 =
    omega (arith, past, size, length-drop c.args.passed (drop here.span.all ahead), length-drop here.span.all ahead) in
    rw (c.from_residual.ensures) (ahead-nothing here.kind (drop c.args.passed (drop here.span.all ahead)) empty)

pub returns-in_err-octets : goal.returns-in_err-octets
returns-in_err-octets g c =
    let here = c.args.self.now in
    let ahead = ahead_of here.window in
    let rest : c.in_ok-get.field-0.now ≡ drop here.span.all ahead =
    c.in_ok-get.ensures.lookup.0.2 ∙ range-behind c.ahead.result.now here.span.all ∙ ap (drop here.span.all) c.ahead.ensures in
    let past = few (length c.in_ok-get.field-0.now) c.args.passed c.in_err-octets.ensures.lookup.0 in
    let empty : length (drop c.args.passed (drop here.span.all ahead)) ≡ 0 =
    omega (arith, past, ap length rest, length-drop c.args.passed (drop here.span.all ahead)) in
    rw (c.from_residual-in_err-octets.ensures) (ahead-nothing here.kind (drop c.args.passed (drop here.span.all ahead)) empty)
