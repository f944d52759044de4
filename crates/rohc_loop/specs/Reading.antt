-- What the reading of a file asks, over its whole list of acts. Words: AreReads; EndsReading, Reads;
-- ReadsText, ReadsState.
use Rattle.std.specs.Prelude.{◌⊎◌, ◌≡◌, ◌≢◌, ◌<◌, ◌≤◌, ℕ, List, [], ◌∷◌, ◌++◌, length, Bool, true, false, Option, Some, None, Result, Ok, Err, IsUtf8}
use Rattle.std.specs.declared.alloc.Global.{Global}
use Rattle.std.specs.declared.vec.Vec.{Vec}
use Rattle.std.specs.declared.string.String.{String}
use Rattle.std.specs.String.{string_vec}
use Rattle.rohc_text.specs.declared.reason.Reason.{Reason}
use Rattle.rohc_text.specs.declared.reason.Reason.TheVariants.{Missing, Memory, NotUtf8, TooLong}
use Rattle.rohc_world.specs.declared.trouble.Trouble.{Trouble}
use Rattle.rohc_world.specs.Acts.{Act, Opened, Read, Closed, AddsActs, reason_for}

-- reads that returned these octets, in order
abbrev pub AreReads : List ℕ → List Act → Type 0
AreReads octets [] = octets ≡ []
AreReads octets (act ∷ acts) =
    (some : List ℕ) × (rest : List ℕ) × (act ≡ Read (Ok some)) × (octets ≡ some ++ rest) × AreReads rest acts

-- Reads that end so: at the end of a file that isn't too long; beyond the longest; at a failure; or without
-- memory.
abbrev pub EndsReading : ℕ → Result (Vec ℕ Global) Reason → List Act → Type 0
EndsReading longest (Ok octets) acts =
    (reads : List Act) × AreReads octets.items reads × (length octets.items ≤ longest)
    × (acts ≡ reads ++ Read (Ok []) ∷ [])
EndsReading longest (Err reason) acts =
    ((octets : List ℕ) × AreReads octets acts × (longest < length octets) × (reason ≡ TooLong longest))
    ⊎ ((octets : List ℕ) × (reads : List Act) × (trouble : Trouble) × AreReads octets reads
    × (acts ≡ reads ++ Read (Err trouble) ∷ []) × (reason ≡ reason_for trouble))
    ⊎ ((octets : List ℕ) × AreReads octets acts × (reason ≡ Memory))

-- A file is opened, read and closed, and nothing else is asked.
abbrev pub Reads : List ℕ → ℕ → Result (Vec ℕ Global) Reason → List Act → Type 0
Reads path longest result acts =
    ((trouble : Trouble) × (acts ≡ Opened path (Err trouble) ∷ []) × (result ≡ Err (reason_for trouble)))
    ⊎ ((reads : List Act) × EndsReading longest result reads
    × (acts ≡ Opened path (Ok tt) ∷ reads ++ Closed ∷ []))

-- a text is read: it is all octets of the file, which are UTF-8
abbrev pub ReadsText : List ℕ → Result (String Global) Reason → List Act → Type 0
ReadsText path (Ok text) acts = Reads path 1048576 (Ok (string_vec text)) acts
ReadsText path (Err reason) acts =
    Reads path 1048576 (Err reason) acts
    ⊎ ((octets : Vec ℕ Global) × Reads path 1048576 (Ok octets) acts
    × (IsUtf8 octets.items → ⊥) × (reason ≡ NotUtf8))

-- a state file is read: there may be none
abbrev pub ReadsState : List ℕ → Result (Option (Vec ℕ Global)) Reason → List Act → Type 0
ReadsState path (Ok (Some octets)) acts = Reads path 1073741824 (Ok octets) acts
ReadsState path (Ok None) acts = Reads path 1073741824 (Err Missing) acts
ReadsState path (Err reason) acts = Reads path 1073741824 (Err reason) acts × (reason ≢ Missing)

-- a read returned octets, which are appended; the answer is whether there were any
abbrev pub Appended : List ℕ → List ℕ → Bool → List ℕ → Type 0
Appended old new true some = (0 < length some) × (new ≡ old ++ some)
Appended old new false some = (new ≡ old) × (some ≡ [])

-- one read: octets that are appended, or a failure, or octets without memory for them
abbrev pub ReadsMore : List ℕ → List ℕ → Result Bool Reason → Option (List Act) → Option (List Act) → Type 0
ReadsMore old new (Ok more) before after =
    (some : List ℕ) × AddsActs before after (Read (Ok some) ∷ []) × Appended old new more some
ReadsMore old new (Err reason) before after =
    ((trouble : Trouble) × AddsActs before after (Read (Err trouble) ∷ []) × (reason ≡ reason_for trouble))
    ⊎ ((some : List ℕ) × AddsActs before after (Read (Ok some) ∷ []) × (reason ≡ Memory))
