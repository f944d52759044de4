use Rattle.std.proofs.Common.{◌≡◌, ◌<◌, length, Some, None, arith, ap, sym, ◌∙◌}
use Rattle.rohc_capture.specs.Pcap.{record_in}
use Rattle.rohc_capture.specs.Window.{ahead_of}
use Rattle.rohc_capture.proofs.ReaderLemmas.{next-cut_head, next-no_record, next-too_long, next-cut_off, next-record}
use Rattle.rohc_capture.proofs.reader.Capture.next_in_pcap.Goals as goal

pub returns-in_default-clause-next : goal.returns-in_default-clause-next
returns-in_default-clause-next g c =
    let few = c.in_ok-need.ensures.few c.if-not-branch.true in
    let some : 0 < length (ahead_of c.need.new.self) = omega (arith, c.in_default.len_at_least, ap length c.ahead.ensures) in
    next-cut_head _ _ (ahead_of c.need.new.self) c.args.head c.args.self.now.place c.need.ensures.text few.1 some few.0

pub returns-in_default-record_in-clause-next : goal.returns-in_default-record_in-clause-next
returns-in_default-record_in-clause-next g c =
    let read : record_in c.args.head (ahead_of c.need.new.self) ≡ None = ap (record_in c.args.head) (sym c.ahead-2.ensures) ∙ sym c.record_in.ensures ∙ c.in_default-record_in.is in
    next-no_record _ _ (ahead_of c.need.new.self) c.args.head c.args.self.now.place c.need.ensures.text (c.in_ok-need.ensures.enough c.if-not-branch.false) read

pub returns-then-captured-clause-next : goal.returns-then-captured-clause-next
returns-then-captured-clause-next g c =
    let read : record_in c.args.head (ahead_of c.need.new.self) ≡ Some c.in-Some.record = ap (record_in c.args.head) (sym c.ahead-2.ensures) ∙ sym c.record_in.ensures ∙ c.in-Some.is in
    next-too_long _ _ (ahead_of c.need.new.self) c.args.head c.args.self.now.place c.in-Some.record c.need.ensures.text (c.in_ok-need.ensures.enough c.if-not-branch.false) read (omega arith)

pub returns-then-not-branch-2-clause-next : goal.returns-then-not-branch-2-clause-next
returns-then-not-branch-2-clause-next g c =
    let read : record_in c.args.head (ahead_of c.need.new.self) ≡ Some c.in-Some.record = ap (record_in c.args.head) (sym c.ahead-2.ensures) ∙ sym c.record_in.ensures ∙ c.in-Some.is in
    let few = c.in_ok-need-2.ensures.few c.if-not-branch-2.true in
    next-cut_off _ _ _ (ahead_of c.need.new.self) (ahead_of c.need-2.new.self) c.args.head c.args.self.now.place c.in-Some.record
    c.need.ensures.text c.need-2.ensures.text few.1 (c.in_ok-need.ensures.enough c.if-not-branch.false) read (omega arith) (omega (arith, few.0))

pub returns-clause-next : goal.returns-clause-next
returns-clause-next g c =
    let read : record_in c.args.head (ahead_of c.need.new.self) ≡ Some c.in-Some.record = ap (record_in c.args.head) (sym c.ahead-2.ensures) ∙ sym c.record_in.ensures ∙ c.in-Some.is in
    next-record _ _ _ (ahead_of c.need.new.self) (ahead_of c.need-2.new.self) c.args.head c.args.self.now.place c.need-2.new.self.place c.in-Some.record
    (c.need-2.ensures.place ∙ c.need.ensures.place ∙ sym c.requires)
    c.need.ensures.text c.need-2.ensures.text (c.in_ok-need.ensures.enough c.if-not-branch.false) read (omega arith) (omega (arith, c.in_ok-need-2.ensures.enough c.if-not-branch-2.false))
