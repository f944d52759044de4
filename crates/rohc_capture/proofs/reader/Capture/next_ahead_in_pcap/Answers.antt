use Rattle.std.proofs.Common.{◌≡◌, ◌≤◌, length, drop, Some, arith, ap, sym, ◌∙◌, subst}
use Rattle.std.proofs.KnownBytes.{Keeps-refl}
use Rattle.std.specs.Io.KnownBytes.{Keeps, prepend_known}
use Rattle.rohc_capture.specs.Pcap.{record_in}
use Rattle.rohc_capture.specs.Window.{ahead_of, counted}
use Rattle.rohc_capture.specs.Standing.{place_of}
use Rattle.rohc_capture.proofs.ReaderLemmas.{next-record}
use Rattle.rohc_capture.proofs.WindowLemmas.{range-behind}
use Rattle.rohc_capture.proofs.reader.Capture.next_ahead_in_pcap.Goals as goal

pub returns-clause-some : goal.returns-clause-some
returns-clause-some g c =
    let here = c.args.self.now in
    let first = drop here.span.all (ahead_of here.window) in
    let ahead = ahead_of c.pass.new.self in
    let before = g.R.Read.remaining here.window.reader in
    let after = g.R.Read.remaining c.pass.new.self.reader in
    let rest : c.in_ok-rest.rest.now ≡ first = c.in_ok-rest.ensures.lookup.0.2 ∙ range-behind c.ahead.result.now here.span.all ∙ ap (drop here.span.all) c.ahead.ensures in
    let is : ahead ≡ first = c.pass.ensures.ahead in
    let read : record_in c.args.head first ≡ Some c.in_ok-next.next = cc (c.record_in.ensures, c.in_ok-next.was, rest) in
    let same : prepend_known first before ≡ prepend_known ahead after = cc (is, c.pass.ensures.reader) in
    let keeps : Keeps (prepend_known first before) (prepend_known ahead after) = subst (Keeps (prepend_known first before)) same (Keeps-refl (prepend_known first before)) in
    let size : length ahead ≡ length c.in_ok-rest.rest.now = ap length (is ∙ sym rest) in
    let enough : 16 ≤ length first = omega (arith, c.if-all-rest.false, ap length rest) in
    let place : c.pass.new.self.place ≡ place_of here = c.pass.ensures.place ∙ ap (counted here.window.place) c.pass.ensures.passed in
    rw (c.place.ensures ∙ place)
    (next-record (prepend_known first before) before after first ahead c.args.head (place_of here) c.pass.new.self.place c.in_ok-next.next
    place
    (Keeps-refl (prepend_known first before)) keeps enough read c.if-all-gt-LONGEST.false (omega (arith, c.if-all-rest.false, size)))
