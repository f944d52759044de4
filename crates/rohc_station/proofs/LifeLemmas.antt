-- A station's whole life is one run of calls of its concentrator.
use Rattle.std.proofs.Common.{◌≡◌, ℕ, ◌<◌, List, [], ◌∷◌, ◌++◌, map, inl, inr, ◌⊎◌, All, not, Bool, true, false, Option, Some, None, Ok, Err, refl, sym, ap, ◌∙◌, subst}
use Rattle.std.specs.List.{AllByRecursion, flat_map}
use Rattle.std.proofs.lemmas.List.Elements.{All-take}
use Rattle.rohc_frame.specs.Laws.{IsOctet}
use Rattle.rohc_concentrator.specs.declared.concentrator.Concentrator.{Concentrator}
use Rattle.rohc_concentrator.specs.declared.setting.LinkSetting.{LinkSetting}
use Rattle.rohc_context.specs.Record.{Record}
use Rattle.rohc_concentrator.specs.declared.putting.PutFault.TheVariants as puts
use Rattle.rohc_concentrator.specs.Calls.{Done, NotPut}
use Rattle.rohc_concentrator.specs.RunsCall.{Turn, Runs}
use Rattle.rohc_concentrator.specs.Tables.{setting_at, record_at}
use Rattle.rohc_concentrator.specs.Trimmed.{trimmed}
use Rattle.rohc_concentrator.specs.CallLaws.{IsFitTurn}
use Rattle.rohc_concentrator.proofs.OwnLemmas.{isolated_calls, same_answers}
use Rattle.rohc_concentrator.proofs.LinkCallLemmas.{isolated_links, same_links}
use Rattle.rohc_concentrator.proofs.SoundLemmas.{calls_keep_sound}
use Rattle.rohc_concentrator.proofs.WayLemmas.{each_of, all_append}
use Rattle.rohc_station.specs.declared.station.Station.{Station}
use Rattle.rohc_station.specs.declared.reload.ReloadFault.TheVariants.{Settings, NoMemory}
use Rattle.rohc_station.specs.Timed.{TimedPacket}
use Rattle.rohc_station.specs.Told.{Told}
use Rattle.rohc_station.specs.Importing.{StopsImport}
use Rattle.rohc_station.specs.Taking.{limiter_at, trimmed_by, trimmed_at, TakesIf, TakesWithin, TakesUnless, TakesStanding, IsRefusedUnread, begins_call, turns_away}
use Rattle.rohc_station.specs.Reload.{is_among, removed, changed, added, removing, changing, adding, refused_add, reload_turns, StopsIn}
use Rattle.rohc_saved.specs.Restoring.{put_turn, puts_of, taken_of}
use Rattle.rohc_saved.specs.LinkRestoring.{reset_turn as stopped_turn}
use Rattle.rohc_station.specs.declared.counters.DatagramFault.{DatagramFault}
use Rattle.rohc_station.specs.declared.counters.DatagramFault.TheVariants.{Short, NewCall}
use Rattle.rohc_station.specs.Life.{StationCall, StationTurn, Take, TakeKnown, Reset, Expire, Reload, Import, AddFailedSends, SetLimits, IsTurn, TakesTurns, IsFit, IsFitPacket, LifeIsRun, LifeKeepsSound, IsolatedLife, IsolatedLinkLife, SameLives, SameLinkLives}
use Rattle.rohc_saved.proofs.PutLemmas.{runs_append}
use Rattle.rohc_station.proofs.CallLemmas.{all_weaker, all_passed, all_if}

module _ (old new : Station) (calls : List Turn) where
  abbrev RunsThem : List Turn → Type 0
  RunsThem turns = Runs old.concentrator turns new.concentrator

  unread_runs : (fault : DatagramFault) (told : Told) → IsRefusedUnread fault old new told calls → RunsThem calls
  unread_runs fault told p = subst RunsThem (sym p.none) p.concentrator

  within_runs : (away : Bool) (second : ℕ) (t : TimedPacket) (told : Told) → TakesIf away old new second t told calls → RunsThem calls
  within_runs true second t told (mid, counts, p) = subst RunsThem (sym p.none) (p.concentrator ∙ counts.concentrator)
  within_runs false second t told (mid, whole, p, limits) =
      subst RunsThem (sym p.these) (mid.concentrator, p.call, limits.counts.concentrator)

  taken_runs : (second : ℕ) (t : TimedPacket) (told : Told) → TakesWithin old new second t told calls → RunsThem calls
  taken_runs second t told p = within_runs (turns_away old second t) second t told p

  known_runs : (begins : Bool) (second : ℕ) (t : TimedPacket) (told : Told) → TakesUnless begins old new second t told calls → RunsThem calls
  known_runs true second t told p = unread_runs NewCall told p
  known_runs false second t told p = taken_runs second t told p

  standing_runs : (second : ℕ) (t : TimedPacket) (told : Told) → TakesStanding old new second t told calls → RunsThem calls
  standing_runs second t told p = known_runs (begins_call old.concentrator t) second t told p

  none_runs : new ≡ old → calls ≡ [] → RunsThem calls
  none_runs stays none = subst RunsThem (sym none) (ap (λ (s : Station). s.concentrator) stays)

  turn_runs : (call : StationCall) → IsTurn old call calls new → RunsThem calls
  turn_runs (Take second None told) p = unread_runs Short told p
  turn_runs (Take second (Some t) told) p = taken_runs second (trimmed_at old t) told p
  turn_runs (TakeKnown second None told) p = unread_runs Short told p
  turn_runs (TakeKnown second (Some t) told) p = standing_runs second (trimmed_at old t) told p
  turn_runs (Reset link cid answer) p = subst RunsThem (sym p.1) (new.concentrator, p.0.runs, refl)
  turn_runs (Expire link moment answer) p = subst RunsThem (sym p.1) (new.concentrator, p.0.runs, refl)
  turn_runs (Reload file (Ok report)) p = p.runs
  turn_runs (Reload file (Err (Settings fault))) p = none_runs p.0 p.1
  turn_runs (Reload file (Err NoMemory)) (inl p) = none_runs p.0 p.1
  turn_runs (Reload file (Err NoMemory)) (inr p) = p.runs
  turn_runs (Import link octets (Ok told)) p = subst RunsThem (sym p.puts.1) p.puts.0.puts
  turn_runs (Import link octets (Err fault)) p = let (stays, is, stops) = p.puts in by stops
    where
      by : StopsImport old.concentrator link octets fault calls new.concentrator → RunsThem calls
      by (inl (stays, none)) = subst RunsThem (sym none) stays
      by (inr (poor, (s, out, are))) = subst RunsThem (sym are) out.stops.runs
  turn_runs (AddFailedSends None failed) p = none_runs p.0 p.1
  turn_runs (AddFailedSends (Some link) failed) p = subst RunsThem (sym p.1) p.0.concentrator
  turn_runs (SetLimits link limits) p = subst RunsThem (sym p.1) p.0.concentrator

-- ---- What a call is given fits

abbrev AreFit : List Turn → Type 0
AreFit turns = AllByRecursion IsFitTurn turns

all_map : {X : Type 0} (P : Turn → Type 0) (turn : X → Turn) (xs : List X) → AllByRecursion (λ (x : X). P (turn x)) xs → AllByRecursion P (map turn xs)
all_map P turn [] all = tt
all_map P turn (x ∷ xs) all = (all.0, all_map P turn xs all.1)

all_front : (xs ys : List Turn) → AreFit (xs ++ ys) → AreFit xs × AreFit ys
all_front [] ys all = (tt, all)
all_front (x ∷ xs) ys all = let rest = all_front xs ys all.1 in ((all.0, rest.0), rest.1)

module _ (k : Concentrator) (numbers : List ℕ) (file : List LinkSetting) (fit : All (λ (s : LinkSetting). s.link < 65536) file) where
  adds_fit : AreFit (map adding (added numbers file))
  adds_fit = all_map IsFitTurn adding (added numbers file) (all_weaker (λ (s : LinkSetting). (s.link < 65536) × (not (is_among s.link numbers) ≡ true)) (λ s. IsFitTurn (adding s)) (λ s both. (refl, both.0)) (added numbers file)
      (all_passed (λ (s : LinkSetting). s.link < 65536) (λ (s : LinkSetting). not (is_among s.link numbers)) file (each_of (λ (s : LinkSetting). s.link < 65536) file fit)))

  reload_fit : AreFit (reload_turns k numbers file)
  reload_fit =
      all_append IsFitTurn (map removing (removed file numbers)) (map changing (changed k file) ++ map adding (added numbers file)) (all_map IsFitTurn removing (removed file numbers) (all_if (λ l. IsFitTurn (removing l)) (removed file numbers) (λ l. tt)))
      (all_append IsFitTurn (map changing (changed k file)) (map adding (added numbers file)) (all_map IsFitTurn changing (changed k file) (all_if (λ s. IsFitTurn (changing s)) (changed k file) (λ s. refl))) adds_fit)

  stopped_fit : (calls : List Turn) → StopsIn (reload_turns k numbers file) calls → AreFit calls
  stopped_fit calls (front, behind, split, stops) = by stops
    where
      parts : AreFit front × AreFit behind
      parts = all_front front behind (subst AreFit split reload_fit)

      by : (calls ≡ front) ⊎ ((s : LinkSetting) × (rest : List Turn) × (behind ≡ adding s ∷ rest) × (calls ≡ front ++ refused_add s ∷ [])) → AreFit calls
      by (inl is) = subst AreFit (sym is) parts.0
      by (inr (s, rest, next, is)) = subst AreFit (sym is) (all_append IsFitTurn front (refused_add s ∷ []) parts.0 ((subst AreFit next parts.1).0, tt))

-- a packet that loses octets at its end still fits
trimmed_fit : (s : Station) (t : TimedPacket) → IsFitPacket (Some t) → IsFitPacket (Some (trimmed_at s t))
trimmed_fit s t fit = by (limiter_at s t.link).limits.payload
  where
    on : (n : ℕ) (setting : Option LinkSetting) → All IsOctet (trimmed n setting (record_at s.concentrator t.link) t.packet)
    on n None = fit.1
    on n (Some setting) = All-take IsOctet _ t.packet fit.1

    by : (payload : Option ℕ) → IsFitPacket (Some (trimmed_by payload s.concentrator t))
    by None = fit
    by (Some n) = (fit.0, on n (setting_at s.concentrator t.link))

puts_fit : (link : ℕ) (contexts : List (ℕ × Record)) → AreFit (puts_of link contexts)
puts_fit link contexts = all_map IsFitTurn (put_turn Done link) contexts (all_if (λ (c : ℕ × Record). IsFitTurn (put_turn Done link c)) contexts (λ c. tt))

module _ (old new : Station) (calls : List Turn) where
  within_fit : (away : Bool) (second : ℕ) (t : TimedPacket) (told : Told) → IsFitPacket (Some t) → TakesIf away old new second t told calls → AreFit calls
  within_fit true second t told fit (mid, counts, p) = subst AreFit (sym p.none) tt
  within_fit false second t told fit (mid, whole, p, limits) = subst AreFit (sym p.these) (fit, tt)

  taken_fit : (second : ℕ) (t : TimedPacket) (told : Told) → IsFitPacket (Some t) → TakesWithin old new second t told calls → AreFit calls
  taken_fit second t told fit p = within_fit (turns_away old second t) second t told fit p

  known_fit : (begins : Bool) (second : ℕ) (t : TimedPacket) (told : Told) → IsFitPacket (Some t) → TakesUnless begins old new second t told calls → AreFit calls
  known_fit true second t told fit p = subst AreFit (sym p.none) tt
  known_fit false second t told fit p = taken_fit second t told fit p

  standing_fit : (second : ℕ) (t : TimedPacket) (told : Told) → IsFitPacket (Some t) → TakesStanding old new second t told calls → AreFit calls
  standing_fit second t told fit p = known_fit (begins_call old.concentrator t) second t told fit p

  turn_fit : (call : StationCall) → IsFit call → IsTurn old call calls new → AreFit calls
  turn_fit (Take second None told) fit p = subst AreFit (sym p.none) tt
  turn_fit (Take second (Some t) told) fit p = taken_fit second (trimmed_at old t) told (trimmed_fit old t fit) p
  turn_fit (TakeKnown second None told) fit p = subst AreFit (sym p.none) tt
  turn_fit (TakeKnown second (Some t) told) fit p = standing_fit second (trimmed_at old t) told (trimmed_fit old t fit) p
  turn_fit (Reset link None answer) fit p = subst AreFit (sym p.1) (tt, tt)
  turn_fit (Reset link (Some cid) answer) fit p = subst AreFit (sym p.1) (tt, tt)
  turn_fit (Expire link moment answer) fit p = subst AreFit (sym p.1) (tt, tt)
  turn_fit (Reload file (Ok report)) fit p = subst AreFit (sym p.these) (reload_fit old.concentrator p.numbers file.settings fit)
  turn_fit (Reload file (Err (Settings fault))) fit p = subst AreFit (sym p.1) tt
  turn_fit (Reload file (Err NoMemory)) fit (inl p) = subst AreFit (sym p.1) tt
  turn_fit (Reload file (Err NoMemory)) fit (inr p) = stopped_fit old.concentrator p.numbers file.settings fit calls p.stops
  turn_fit (Import link octets (Ok told)) fit p = subst AreFit (sym p.puts.1) (puts_fit link (taken_of (Some p.puts.0.setting) p.puts.0.saved))
  turn_fit (Import link octets (Err fault)) fit p = let (stays, is, stops) = p.puts in by stops
    where
      by : StopsImport old.concentrator link octets fault calls new.concentrator → AreFit calls
      by (inl (stays, none)) = subst AreFit (sym none) tt
      by (inr (poor, (s, out, are))) = subst AreFit (sym are)
          (all_append IsFitTurn (puts_of link out.stops.done) (put_turn (NotPut puts.NoMemory) link out.stops.one ∷ stopped_turn Done link ∷ []) (puts_fit link out.stops.done) (tt, (tt, tt)))
  turn_fit (AddFailedSends link failed) fit p = subst AreFit (sym p.1) tt
  turn_fit (SetLimits link limits) fit p = subst AreFit (sym p.1) tt

-- ---- A life

abbrev calls_of : List StationTurn → List Turn
calls_of turns = flat_map (λ (t : StationTurn). t.calls) turns

turns_run : (turns : List StationTurn) (old new : Station) → TakesTurns old turns new → Runs old.concentrator (calls_of turns) new.concentrator
turns_run [] old new run = ap (λ (s : Station). s.concentrator) run
turns_run (t ∷ turns) old new (mid, turn, rest) =
    runs_append t.calls (calls_of turns) old.concentrator mid.concentrator new.concentrator (turn_runs old mid t.calls t.call turn) (turns_run turns mid new rest)

turns_fit : (turns : List StationTurn) (old new : Station) → AllByRecursion (λ (t : StationTurn). IsFit t.call) turns → TakesTurns old turns new → AreFit (calls_of turns)
turns_fit [] old new fit run = tt
turns_fit (t ∷ turns) old new fit (mid, turn, rest) = all_append IsFitTurn t.calls (calls_of turns) (turn_fit old mid t.calls t.call fit.0 turn) (turns_fit turns mid new fit.1 rest)

pub life_is_run : LifeIsRun
life_is_run life is = turns_run life.turns life.before life.after is

pub life_keeps_sound : LifeKeepsSound
life_keeps_sound life is fit = calls_keep_sound life.before.concentrator life.after.concentrator (calls_of life.turns) (turns_fit life.turns life.before life.after fit is) (life_is_run life is)

pub isolated_life : IsolatedLife
isolated_life life is = isolated_calls life.before.concentrator life.after.concentrator (calls_of life.turns) (life_is_run life is)

pub isolated_link_life : IsolatedLinkLife
isolated_link_life life is = isolated_links life.before.concentrator life.after.concentrator (calls_of life.turns) (life_is_run life is)

pub same_lives : SameLives
same_lives a b l c life_a life_b fit alike same =
    same_answers a.before.concentrator b.before.concentrator a.after.concentrator b.after.concentrator (calls_of a.turns) (calls_of b.turns) l c alike (turns_fit a.turns a.before a.after fit life_a) (life_is_run a life_a) (life_is_run b life_b) same

pub same_link_lives : SameLinkLives
same_link_lives a b l life_a life_b fit alike same =
    same_links a.before.concentrator b.before.concentrator a.after.concentrator b.after.concentrator (calls_of a.turns) (calls_of b.turns) l alike (turns_fit a.turns a.before a.after fit life_a) (life_is_run a life_a) (life_is_run b life_b) same
