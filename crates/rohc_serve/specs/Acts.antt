-- What a front was asked, and what it answered. Words: Attempt; Act; received; AddsActs.
use Rattle.std.specs.Prelude.{◌≡◌, ℕ, List, ◌++◌, Bool, Option, Some, None, take, ⊤}

-- a datagram that was offered for a port, and whether it went out
pub record Attempt : Type 0 where
  pub port : ℕ
  pub octets : List ℕ
  pub gone : Bool

-- A receive, with the arrival time and the datagram that it gave, if it gave one; or a send.
pub data Act : Type 0 where
  Received : Option (ℕ × List ℕ) → Act
  Sent : Attempt → Act

-- a receive, from the length and the arrival time that it gave, and the buffer after it
abbrev pub received : Option (ℕ × ℕ) → List ℕ → Act
received None buffer = Received None
received (Some (size, moment)) buffer = Received (Some (moment, take size buffer))

-- Acts that are known grow by these, as long as they stay known. Acts that aren't known stay unknown.
abbrev pub AddsActs : Option (List Act) → Option (List Act) → List Act → Type 0
AddsActs None None more = ⊤
AddsActs None (Some after) more = ⊥
AddsActs (Some acts) None more = ⊤
AddsActs (Some acts) (Some after) more = after ≡ acts ++ more
