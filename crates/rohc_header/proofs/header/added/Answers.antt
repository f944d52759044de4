use Rattle.std.proofs.Common.{◌<◌, ◌≡◌, ◌+◌, ◌*◌, ◌^◌, ℕ, get_or, rules, arith}
use Rattle.rohc_header.proofs.SevenBits.{low_half, high_half}
use Rattle.rohc_header.proofs.header.added.Goals as goal

pub returns-clause-first : goal.returns-clause-first
returns-clause-first c =
    let these : (k : ℕ) → get_or c.args.these k 0 < 256 = search rules in
    let those : (k : ℕ) → get_or c.args.those k 0 < 256 = search rules in
    let a = get_or c.args.these 0 0 + get_or c.args.these 1 0 * 256 in
    let b = get_or c.args.these 2 0 + get_or c.args.these 3 0 * 256 in
    let d = get_or c.args.those 0 0 + get_or c.args.those 1 0 * 256 in
    let e = get_or c.args.those 2 0 + get_or c.args.those 3 0 * 256 in
    let low : a < 2 ^ 16 = omega (arith, these 0, these 1) in
    let small : d < 2 ^ 16 = omega (arith, those 0, those 1) in
    let first : c.from_le_bytes.result ≡ b * 2 ^ 16 + a = omega (arith, c.from_le_bytes.ensures) in
    let second : c.from_le_bytes-2.result ≡ e * 2 ^ 16 + d = omega (arith, c.from_le_bytes-2.ensures) in
    low_half a b d e c.from_le_bytes.result c.from_le_bytes-2.result low small first second

pub returns-clause-second : goal.returns-clause-second
returns-clause-second c =
    let these : (k : ℕ) → get_or c.args.these k 0 < 256 = search rules in
    let those : (k : ℕ) → get_or c.args.those k 0 < 256 = search rules in
    let a = get_or c.args.these 0 0 + get_or c.args.these 1 0 * 256 in
    let b = get_or c.args.these 2 0 + get_or c.args.these 3 0 * 256 in
    let d = get_or c.args.those 0 0 + get_or c.args.those 1 0 * 256 in
    let e = get_or c.args.those 2 0 + get_or c.args.those 3 0 * 256 in
    let low : a < 2 ^ 16 = omega (arith, these 0, these 1) in
    let small : d < 2 ^ 16 = omega (arith, those 0, those 1) in
    let first : c.from_le_bytes.result ≡ b * 2 ^ 16 + a = omega (arith, c.from_le_bytes.ensures) in
    let second : c.from_le_bytes-2.result ≡ e * 2 ^ 16 + d = omega (arith, c.from_le_bytes-2.ensures) in
    high_half a b d e c.from_le_bytes.result c.from_le_bytes-2.result low small first second
