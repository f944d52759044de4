use Rattle.std.proofs.Common.{rules, ◌≡◌, take, take_all, arith}
use Rattle.rohc_chain.proofs.FourOctets.{four_taken}
use Rattle.rohc_chain.proofs.octets.four_octets.Goals as goal

pub returns-clause-reads : goal.returns-clause-reads
returns-clause-reads c =
    let front = c.in-Some.front.now in
    let counted = c.in-Some.ensures.counted in
    let all : take 4 front ≡ front = take_all 4 front (omega (arith, counted)) in
    let same : c.in-Some-first_chunk.octets.now ≡ front = search (rules, all) in
    rw (c.in-Some.ensures.split, same) (four_taken front c.take.new.self counted)
