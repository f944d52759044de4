use Rattle.std.proofs.Common.{◌≡◌, arith, None, Some, true, ap, sym, ◌∙◌}
use Rattle.rohc_capture.specs.Pcap.{file_in}
use Rattle.rohc_capture.specs.Records.{is_section}
use Rattle.rohc_capture.specs.Window.{ahead_of, counted}
use Rattle.rohc_capture.proofs.ReaderLemmas.{begins-section, begins-short, begins-bad, begins-good}
use Rattle.rohc_capture.proofs.reader.Capture.begin.Goals as goal

pub returns-then-is_section-clause-begins : goal.returns-then-is_section-clause-begins
returns-then-is_section-clause-begins g c =
    let is : is_section (ahead_of c.need.new.self) ≡ true = ap is_section (sym c.ahead.ensures) ∙ sym c.is_section.ensures ∙ c.if-is_section.true in
    begins-section _ _ (ahead_of c.need.new.self) c.need.ensures.text is

pub returns-then-not-has_head-clause-begins : goal.returns-then-not-has_head-clause-begins
returns-then-not-has_head-clause-begins g c =
    let few = c.in_ok-has_head.ensures.few c.if-not-has_head.true in
    begins-short _ _ (ahead_of c.need.new.self) c.need.ensures.text few.1 few.0

pub returns-in_default-clause-begins : goal.returns-in_default-clause-begins
returns-in_default-clause-begins g c =
    let is : file_in (ahead_of c.need.new.self) ≡ None = ap file_in (sym c.ahead-2.ensures) ∙ sym c.file_in.ensures ∙ c.in_default.is in
    begins-bad _ _ (ahead_of c.need.new.self) c.need.ensures.text (c.in_ok-has_head.ensures.enough c.if-not-has_head.false) is

pub returns-clause-begins : goal.returns-clause-begins
returns-clause-begins g c =
    let is : file_in (ahead_of c.need.new.self) ≡ Some c.in-Some.head = ap file_in (sym c.ahead-2.ensures) ∙ sym c.file_in.ensures ∙ c.in-Some.is in
    let enough = c.in_ok-has_head.ensures.enough c.if-not-has_head.false in
    let passed : c.pass.result ≡ 24 = omega (arith, enough, c.pass.ensures.passed) in
    let place : c.place-self.result ≡ counted c.args.self.now.place 24 =
    c.place-self.ensures ∙ c.pass.ensures.place ∙ ap (counted c.need.new.self.place) passed ∙ ap (λ p. counted p 24) (c.need.ensures.place ∙ sym c.requires) in
    begins-good _ _ _ (ahead_of c.need.new.self) (ahead_of c.pass.new.self) c.in-Some.head c.args.self.now.place c.place-self.result
    c.need.ensures.text enough is place c.pass.ensures.ahead (ap g.R.Read.remaining c.pass.ensures.reader)
