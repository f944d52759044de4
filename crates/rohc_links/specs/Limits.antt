-- What scripts and datagrams share. Words: longest_packet; counted, which stays at the greatest u64.
use Rattle.std.specs.Prelude.{ℕ, ◌+◌, ◌-◌, ◌^◌, min}

-- the longest packet, in octets
abbrev pub longest_packet : ℕ
longest_packet = 65535

-- a count that stays at the greatest `u64`
abbrev pub counted : ℕ → ℕ → ℕ
counted before more = min (before + more) (2 ^ 64 - 1)
