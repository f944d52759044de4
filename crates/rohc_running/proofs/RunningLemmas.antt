-- One piece of a save, from its write on, and a save that is given up.
use Rattle.std.proofs.Common.{◌≡◌, ◌≤◌, ◌+◌, ◌-◌, ◌^◌, ℕ, List, [], ◌∷◌, ◌++◌, take, length, min, false, length-append, ap, arith, ◌∙◌}
use Rattle.std.proofs.lemmas.List.{length-take-le}
use Rattle.std.specs.Prelude.{Option, Result, Ok, Err, ⊤}
use Rattle.rohc_concentrator.specs.declared.concentrator.Concentrator.{Concentrator}
use Rattle.std.specs.List.{AllByRecursion}
use Rattle.std.specs.String.{string_bytes}
use Rattle.rohc_world.specs.declared.trouble.Trouble.{Trouble}
use Rattle.rohc_world.specs.Acts.{Act, Opened, Read, Created, Wrote, Synced, Closed, Renamed, Removed, SyncedFolder, SetModified, Modified, Dated, Timed, Logged, AddsActs, Asks}
use Rattle.rohc_loop.proofs.AskLemmas.{adds_more}
use Rattle.rohc_loop.specs.declared.unwritten.Unwritten.{Unwritten}
use Rattle.rohc_piecewise.specs.Piecewise.{Head, IsSavedOver}
use Rattle.rohc_running.specs.declared.running.Progress.{Progress}
use Rattle.rohc_running.specs.declared.running.Progress.TheVariants.{Goes, Ends}
use Rattle.rohc_running.specs.declared.running.RunningSave.{RunningSave}
use Rattle.rohc_running.specs.Running.{file_size, KeepsPaths, LeavesSave, EndsFailing, GivesUp, EndsPlacing, GoesOn}

-- the file of a save is closed and removed
pub given_up : (old new : RunningSave) (path : List ℕ) (removed : Result ⊤ Trouble) (before mid after : Option (List Act)) → AddsActs before mid (Closed ∷ [])
    → AddsActs mid after (Removed path removed ∷ []) → path ≡ string_bytes old.unfinished → new.is_open ≡ false → KeepsPaths old new → Asks before after (GivesUp old new)
given_up old new path removed before mid after closes removes is closed paths = record {
  acts = Closed ∷ Removed path removed ∷ [];
  known = adds_more before mid after (Closed ∷ []) (Removed path removed ∷ []) closes removes;
  form = record {
    fails = record { closed = closed; paths = paths; leaves = (tt, (is, tt)) };
    removed = record { before = Closed ∷ []; answer = removed; last = ap (λ at. Closed ∷ Removed at removed ∷ []) is };
  };
}

-- the file of a save gets its date and is closed, but not its name, and is removed
pub not_placed : (old new : RunningSave) (path from to : List ℕ) (date : ℕ) (dated removed : Result ⊤ Trouble) (trouble : Trouble) (error : Unwritten) (before one two three after : Option (List Act))
    → AddsActs before one (SetModified date dated ∷ []) → AddsActs one two (Closed ∷ []) → AddsActs two three (Renamed from to (Err trouble) ∷ []) → AddsActs three after (Removed path removed ∷ [])
    → path ≡ string_bytes old.unfinished → new.is_open ≡ false → KeepsPaths old new → Asks before after (EndsPlacing old new (Err error))
not_placed old new path from to date dated removed trouble error before one two three after dates closes renames removes is closed paths =
    let gone = Removed path removed ∷ [] in
    let named = Renamed from to (Err trouble) in
    record {
      acts = SetModified date dated ∷ Closed ∷ named ∷ gone;
      known = adds_more before one after (SetModified date dated ∷ []) (Closed ∷ named ∷ gone) dates
          (adds_more one two after (Closed ∷ []) (named ∷ gone) closes (adds_more two three after (named ∷ []) gone renames removes));
      form = record {
        fails = record { closed = closed; paths = paths; leaves = (tt, (tt, (tt, (is, tt)))) };
        removed = record {
          before = SetModified date dated ∷ Closed ∷ named ∷ [];
          answer = removed;
          last = ap (λ at. SetModified date dated ∷ Closed ∷ named ∷ Removed at removed ∷ []) is;
        };
      };
    }

-- the acts of a failure after another act, by which no file got its name
pub fails_later : (old mid new : RunningSave) (act : Act) (acts : List Act) → KeepsPaths old mid → LeavesSave old act → EndsFailing mid new acts → EndsFailing old new (act ∷ acts)
fails_later old mid new act acts keeps leaves fails = record {
  closed = fails.closed;
  paths = record { path = fails.paths.path ∙ keeps.path; unfinished = fails.paths.unfinished ∙ keeps.unfinished };
  leaves = (leaves, all_left acts fails.leaves);
} where
  one_left : (a : Act) → LeavesSave mid a → LeavesSave old a
  one_left (Created path answer) is = is ∙ ap string_bytes keeps.unfinished
  one_left (Removed path answer) is = is ∙ ap string_bytes keeps.unfinished
  one_left (Renamed from to (Ok done)) is = is
  one_left (Renamed from to (Err trouble)) is = tt
  one_left (Opened path answer) is = tt
  one_left (Read answer) is = tt
  one_left (Wrote octets answer) is = tt
  one_left (Synced answer) is = tt
  one_left Closed is = tt
  one_left (SyncedFolder path answer) is = tt
  one_left (SetModified date answer) is = tt
  one_left (Modified path answer) is = tt
  one_left (Dated answer) is = tt
  one_left (Timed answer) is = tt
  one_left (Logged line answer) is = tt

  all_left : (more : List Act) → AllByRecursion (LeavesSave mid) more → AllByRecursion (LeavesSave old) more
  all_left [] all = tt
  all_left (a ∷ more) all = (one_left a all.0, all_left more all.1)

-- the acts of a save that is given up after another act
pub gives_up_later : (old mid new : RunningSave) (act : Act) (acts : List Act) → KeepsPaths old mid → LeavesSave old act → GivesUp mid new acts → GivesUp old new (act ∷ acts)
gives_up_later old mid new act acts keeps leaves gives = record {
  fails = fails_later old mid new act acts keeps leaves gives.fails;
  removed = record {
    before = act ∷ gives.removed.before;
    answer = gives.removed.answer;
    last = ap (λ more. act ∷ more)
        (gives.removed.last ∙ (λ i. gives.removed.before ++ Removed (string_bytes (keeps.unfinished i)) gives.removed.answer ∷ []));
  };
}

-- what a write accepted is counted
pub size_more : (octets piece : List ℕ) (n before size : ℕ) → n ≤ length piece → before ≡ file_size octets → size ≡ min (before + n) (2 ^ 64 - 1) → size ≡ file_size (octets ++ take n piece)
size_more octets piece n before size within is sum =
    omega (arith, is, sum, length-append octets (take n piece), length-take-le n piece within)

-- the last octets of a save were written, and then its file got its name, or the save failed
pub places_last : (moment : ℕ) (heads : List Head) (seen : List Concentrator) (octets : List ℕ) (k : Concentrator) (old mid new : RunningSave) (piece : List ℕ) (n : ℕ)
    (result : Result Progress Unwritten) (acts : List Act) → length piece ≤ 65536 → mid.date ≡ old.date → KeepsPaths old mid → IsSavedOver moment heads seen (octets ++ take n piece)
    → mid.length ≡ file_size (octets ++ take n piece) → EndsPlacing mid new result acts → GoesOn moment heads seen octets k old new result (Wrote piece (Ok n) ∷ acts)
places_last moment heads seen octets k old mid new piece n (Ok Goes) acts few date keeps over size placed = absurd placed
places_last moment heads seen octets k old mid new piece n (Ok (Ends told)) acts few date keeps over size (same, closed, paths, (dated, is)) = (
  record { path = paths.path ∙ keeps.path; unfinished = paths.unfinished ∙ keeps.unfinished },
  closed,
  (
    piece,
    n,
    dated,
    few,
    ap (λ rest. Wrote piece (Ok n) ∷ rest)
        (is ∙ (λ i. SetModified (date i) dated ∷ Closed ∷ Renamed (string_bytes (keeps.unfinished i)) (string_bytes (keeps.path i)) (Ok tt) ∷ [])),
    over,
    same ∙ size,
  ),
)
places_last moment heads seen octets k old mid new piece n (Err error) acts few date keeps over size gives = gives_up_later old mid new (Wrote piece (Ok n)) acts keeps tt gives
