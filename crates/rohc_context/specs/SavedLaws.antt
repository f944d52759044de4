-- Laws of saved contexts. Words: ComesBack, RecordIsSpelled.
use Rattle.std.specs.Prelude.{◌≡◌, ℕ, List, ◌++◌, All, Ok}
use Rattle.rohc_bits.specs.Bits.{IsOctet}
use Rattle.rohc_context.specs.Good.{IsGoodRecord}
use Rattle.rohc_context.specs.Record.{Record}
use Rattle.rohc_context.specs.SavedText.{saved_text}
use Rattle.rohc_context.specs.SavedReading.{saved_at}

-- What is saved of a good record is read as that record, whatever octets follow.
abbrev pub ComesBack : Type 0
ComesBack = (r : Record) (behind : List ℕ) → IsGoodRecord r →
    saved_at (saved_text r ++ behind) ≡ Ok (r, behind)

-- Octets that are read as a record are what is saved of it, and those that follow.
abbrev pub RecordIsSpelled : Type 0
RecordIsSpelled = (text behind : List ℕ) (r : Record) → All IsOctet text → saved_at text ≡ Ok (r, behind) →
    text ≡ saved_text r ++ behind
