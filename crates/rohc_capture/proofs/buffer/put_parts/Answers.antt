use Rattle.std.proofs.Common.{◌≡◌, ◌+◌, ◌-◌, ◌++◌, length, take, arith, sym, ◌∙◌, ap, append-nil}
use Rattle.std.proofs.lemmas.List.{length-take-le, take_all}
use Rattle.rohc_capture.proofs.BufferLemmas.{part-put}
use Rattle.rohc_capture.proofs.buffer.put_parts.Goals as goal

pub returns-clause-put : goal.returns-clause-put
returns-clause-put c =
    let octets = c.args.octets.now in
    let cells = c.args.cells.now in
    let used = c.args.used in
    let before = take used cells in
    let one = c.put_part.new.cells in
    let two = c.put_part-2.new.cells in
    let three = c.put_part-3.new.cells in
    let last = length octets - 16 in
    let middle = c.middle_of-middle.result in
    let size : length before ≡ used = length-take-le used cells (omega (arith, c.requires.room)) in
    let none : used + 0 ≡ used = omega arith in
    let begun : take (used + 0) cells ≡ before ++ take 0 octets = ap (λ n. take n cells) none ∙ sym (append-nil before) in
    let p = part-put before octets cells one used 0 0 size (omega arith) (omega arith) (omega (arith, c.requires.room)) begun c.put_part.ensures.put in
    let first : used + 0 + 16 ≡ used + 16 = omega arith in
    let q = part-put before octets one two used middle 16 size c.middle_of-middle.ensures.behind_first c.requires.least
    (omega (arith, c.requires.least, c.requires.room, c.put_part.ensures.length)) (ap (λ n. take n one) (sym first) ∙ p) c.put_part-2.ensures.put in
    let after : used + middle + 16 ≡ used + (middle + 16) = omega arith in
    let r = part-put before octets two three used last (middle + 16) size c.middle_of-middle.ensures.last
    (omega (arith, c.middle_of-middle.ensures.before_last, c.requires.least))
    (omega (arith, c.middle_of-middle.ensures.before_last, c.requires.least, c.requires.room, c.put_part.ensures.length, c.put_part-2.ensures.length))
    (ap (λ n. take n two) (sym after) ∙ q) c.put_part-3.ensures.put in
    let whole : last + 16 ≡ length octets = omega (arith, c.requires.least) in
    r ∙ ap (λ l. before ++ l) (take_all (last + 16) octets (omega (arith, whole)))
