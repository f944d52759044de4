use Rattle.std.proofs.Common.{◌≡◌, ◌+◌, ◌-◌, take, drop, Some, None, arith, ap, sym, inl, inr, refl}
use Rattle.rohc_capture.specs.Pcap.{record_in}
use Rattle.rohc_capture.proofs.ReaderLemmas.{ahead-none, ahead-not, ahead-whole}
use Rattle.rohc_capture.proofs.reader.coming_in.Goals.{then-all-gt-LONGEST-via-then-all-gt-LONGEST, then-all-gt-LONGEST-via-else-all-gt-LONGEST+then-all-octets}
use Rattle.rohc_capture.proofs.reader.coming_in.Goals as goal

pub returns-in_err-record : goal.returns-in_err-record
returns-in_err-record c =
    let read : record_in c.args.head c.args.octets.now ≡ None = cc (c.record_in.ensures, c.in_err-record.was) in
    rw (ahead-none c.args.head c.args.octets.now read, c.from_residual.ensures) refl

pub returns-then-all-gt-LONGEST : goal.returns-then-all-gt-LONGEST
returns-then-all-gt-LONGEST c =
    let read : record_in c.args.head c.args.octets.now ≡ Some c.in_ok-record.record = cc (c.record_in.ensures, c.in_ok-record.was) in
    elim c.then-all-gt-LONGEST.branch [
      | then-all-gt-LONGEST-via-then-all-gt-LONGEST w ↦ sym (ahead-not c.args.head c.args.octets.now c.in_ok-record.record read (inl w.if-all-gt-LONGEST.true))
      | then-all-gt-LONGEST-via-else-all-gt-LONGEST+then-all-octets w ↦ sym (ahead-not c.args.head c.args.octets.now c.in_ok-record.record read (inr w.if-all-octets.true))
    ]

pub returns : goal.returns
returns c =
    let read : record_in c.args.head c.args.octets.now ≡ Some c.in_ok-record.record = cc (c.record_in.ensures, c.in_ok-record.was) in
    let size : 16 + c.in_ok-record.record.captured - 16 ≡ c.in_ok-record.record.captured = omega arith in
    ahead-whole c.args.head c.args.octets.now c.in_ok-record.record _ read (omega arith) (omega arith) (ap (λ n. take n (drop 16 c.args.octets.now)) size)
