-- How far a look through contexts has come. Word: reached.
use Rattle.std.specs.Prelude.{ℕ, ◌+◌, ◌*◌}
use Rattle.rohc_station.specs.declared.scan.Scan.{Scan}

-- A link has at most 16,384 CIDs, so that each CID and each link counts.
abbrev pub reached : Scan → ℕ
reached s = 16385 * s.place + s.next
