-- What a service does at its ports is part of the life of its station.
use Rattle.std.proofs.Common.{◌≡◌, ◌<◌, ◌+◌, ℕ, zero, suc, List, [], ◌∷◌, ◌++◌, length, drop, get_or, Bool, true, false, Option, Some, None, inl, inr, refl, sym, ap, ◌∙◌, subst, arith}
use Rattle.std.proofs.lemmas.List.{length-append}
use Rattle.std.specs.List.{slice_range, AllByRecursion}
use Rattle.rohc_concentrator.specs.RunsCall.{Turn}
use Rattle.rohc_station.specs.declared.duty.Duty.{Duty}
use Rattle.rohc_station.specs.declared.held.Mark.{Mark}
use Rattle.rohc_station.specs.declared.held.Held.{Held}
use Rattle.rohc_station.specs.declared.service.Port.{Port}
use Rattle.rohc_station.specs.declared.station.Station.{Station}
use Rattle.rohc_station.specs.Limits.{second_of}
use Rattle.rohc_station.specs.Timed.{TimedPacket}
use Rattle.rohc_station.specs.Told.{Told}
use Rattle.rohc_station.specs.Recorded.{arrival_in}
use Rattle.rohc_station.specs.Answering.{TakesAs, CountsFailures, AnswersRead, link_in}
use Rattle.rohc_station.specs.Life.{StationTurn, Take, TakeKnown, AddFailedSends, IsTurn, TakesTurns}
use Rattle.rohc_station.specs.Held.{HeldDatagram, came, held_at, held_in}
use Rattle.rohc_station.specs.Service.{View, is_timed_at, datagram_at, AnswersUnless, TurnsOn, TurnsIn, Serves, AnswersEach, IsTake, CountsFailed, AreTurnsOf, AreAnswers, came_at, Among, ServesInLife}
use Rattle.rohc_station.proofs.HeldLemmas.{next_held}

-- ---- Receives

-- one more turn behind those
turns_more : (port : Port) (duty : Duty) (old mid new : View) (given : List (Option (ℕ × List ℕ))) (one : Option (ℕ × List ℕ)) →
    TurnsIn port duty old given mid → TurnsOn port duty mid one new → TurnsIn port duty old (given ++ one ∷ []) new
turns_more port duty old mid new [] one same turn = (new, subst (λ v. TurnsOn port duty v one new) same turn, refl)
turns_more port duty old mid new (g ∷ more) one (next, first, rest) turn = (next, first, turns_more port duty next mid new more one rest turn)

-- so many turns, and one more
pub one_turn_more : (port : Port) (duty : Duty) (old mid new : View) (count : ℕ) →
    ((given : List (Option (ℕ × List ℕ))) × (length given ≡ count) × TurnsIn port duty old given mid) → ((one : Option (ℕ × List ℕ)) × TurnsOn port duty mid one new) →
    (given : List (Option (ℕ × List ℕ))) × (length given ≡ count + 1) × TurnsIn port duty old given new
one_turn_more port duty old mid new count (given, so_many, turns) (one, turn) =
    (given ++ one ∷ [], length-append given (one ∷ []) ∙ ap (λ n. n + 1) so_many, turns_more port duty old mid new given one turns turn)

pub serves_so_far : (port : Port) (duty : Duty) (old mid new : View) (count : ℕ) → count < 256 →
    ((given : List (Option (ℕ × List ℕ))) × (length given ≡ count) × TurnsIn port duty old given mid) → ((one : Option (ℕ × List ℕ)) × TurnsOn port duty mid one new) →
    Serves port duty 256 old new
serves_so_far port duty old mid new count below turns turn =
    let (given, so_many, all) = one_turn_more port duty old mid new count turns turn in
    record { given = given; turns = all; within = omega (arith, so_many, below) }

-- ---- The turns of answers

take_of : (is_draining : Bool) (old new : Station) (second : ℕ) (read : Option TimedPacket) (told : Told) (calls : List Turn) →
    TakesAs is_draining old new second read told calls → (turn : StationTurn) × IsTake is_draining second read turn × IsTurn old turn.call turn.calls new
take_of true old new second read told calls takes = (record { call = TakeKnown second read told; calls = calls }, (told, refl), takes)
take_of false old new second read told calls takes = (record { call = Take second read told; calls = calls }, (told, refl), takes)

counting_of : (old new : Station) (link : Option ℕ) (failed : ℕ) → CountsFailures old new link failed →
    (turns : List StationTurn) × AllByRecursion (CountsFailed link) turns × TakesTurns old turns new
counting_of old new link zero same = ([], tt, same)
counting_of old new link (suc n) fails = (record { call = AddFailedSends link (suc n); calls = [] } ∷ [], ((suc n, refl), tt), (new, (fails, refl), refl))

turns_of : (duty : Duty) (old new : View) (d : HeldDatagram) → AnswersUnless false duty old new d →
    (turns : List StationTurn) × AreTurnsOf duty d turns × TakesTurns old.station turns new.station
turns_of duty old new d (told, a) =
    let read : Option TimedPacket = arrival_in d.is_timed d.moment d.octets in
    let (first, takes, turn) = take_of duty.is_draining old.station a.mid (second_of d.moment) read told a.calls a.taken in
    let (counting, counts, run) = counting_of a.mid new.station (link_in read) a.failed a.counts in
    (first ∷ counting, record { first = first; counting = counting; both = refl; takes = takes; counts = counts }, (a.mid, turn, run))

turns_append : (old mid new : Station) (first later : List StationTurn) → TakesTurns old first mid → TakesTurns mid later new → TakesTurns old (first ++ later) new
turns_append old mid new [] later same run = subst (λ s. TakesTurns s later new) same run
turns_append old mid new (turn ∷ more) later (next, one, rest) run = (next, one, turns_append next mid new more later rest run)

-- ---- The laws

pub answers_in_life : (duty : Duty) (old : View) (held : List HeldDatagram) (new : View) → AnswersEach duty old held new →
    (turns : List StationTurn) × AreAnswers duty held turns × TakesTurns old.station turns new.station
answers_in_life duty old [] new same = ([], refl, ap (λ (v : View). v.station) same)
answers_in_life duty old (d ∷ more) new (mid, answers, moves, rest) =
    let (first, are, run) = turns_of duty old mid d answers in
    let (later, others, on) = answers_in_life duty mid more new rest in
    (first ++ later, (first, later, are, others, refl), turns_append old.station mid.station new.station first later run on)

one_more : (xs ys : List HeldDatagram) (y : HeldDatagram) → Among xs ys → Among xs (y ∷ ys)
one_more [] ys y among = tt
one_more (x ∷ xs) ys y among = inr among

pub serves_in_life : ServesInLife
serves_in_life port duty old new [] same = ([], [], tt, refl, ap (λ (v : View). v.station) same)
serves_in_life port duty old new (None ∷ more) (mid, (station, moves, acts), rest) =
    let (answered, turns, among, are, run) = serves_in_life port duty mid new more rest in
    (answered, turns, among, are, subst (λ s. TakesTurns s turns new.station) station run)
serves_in_life port duty old new (Some (moment, octets) ∷ more) (mid, (acts, adds, handles), rest) =
    by handles.is_back handles.answers (serves_in_life port duty mid new more rest)
  where
    d : HeldDatagram
    d = came moment (is_timed_at port) (datagram_at port octets)

    by : (is_back : Bool) → AnswersUnless is_back duty (record old { acts = acts }) mid d →
        ((answered : List HeldDatagram) × (turns : List StationTurn) × Among answered (came_at port more) × AreAnswers duty answered turns × TakesTurns mid.station turns new.station) →
        (answered : List HeldDatagram) × (turns : List StationTurn) × Among answered (d ∷ came_at port more) × AreAnswers duty answered turns × TakesTurns old.station turns new.station
    by true (same, none) (answered, turns, among, are, run) =
        (answered, turns, one_more answered (came_at port more) d among, are, subst (λ s. TakesTurns s turns new.station) same run)
    by false answers (answered, turns, among, are, run) =
        let (first, these, on) = turns_of duty (record old { acts = acts }) mid d answers in
        (d ∷ answered, first ++ turns, inl (refl, among), (first, turns, these, are, refl), turns_append old.station mid.station new.station first turns on run)

-- ---- Held datagrams

-- the mark that a loop over marks reads past their end
abbrev pub no_mark : Mark
no_mark = record { moment = 0; is_timed = false; start = 0; end = 0 }

pub answers_next : (duty : Duty) (old mid new : View) (held : Held) (marks : List Mark) (octets : List ℕ) (i : ℕ) (told : Told) (read : Option TimedPacket) →
    marks ≡ held.marks.items → octets ≡ held.octets.items → i < length marks →
    read ≡ arrival_in (get_or marks i no_mark).is_timed (get_or marks i no_mark).moment (slice_range octets (get_or marks i no_mark).start (get_or marks i no_mark).end) →
    AnswersRead duty (get_or marks i no_mark).moment old.station mid.station read told old.acts mid.acts → mid.moves ≡ old.moves →
    AnswersEach duty mid (drop (i + 1) (held_in held)) new → AnswersEach duty old (drop i (held_in held)) new
answers_next duty old mid new held marks octets i told read same_marks same_octets below is answers moves rest =
    let h : HeldDatagram = held_at octets (get_or marks i no_mark) in
    let behind : List HeldDatagram = drop (i + 1) (held_in held) in
    let within : i < length held.marks.items = subst (λ ms. i < length ms) same_marks below in
    let same : held_at held.octets.items (get_or held.marks.items i no_mark) ≡ h = ap (λ ms. held_at held.octets.items (get_or ms i no_mark)) (sym same_marks) ∙ ap (λ xs. held_at xs (get_or marks i no_mark)) (sym same_octets) in
    let cut : drop i (held_in held) ≡ h ∷ behind = next_held held.octets.items held.marks.items i no_mark within ∙ ap (λ first. first ∷ behind) same in
    let this : AnswersUnless false duty old mid h = (told, subst (λ (r : Option TimedPacket). AnswersRead duty h.moment old.station mid.station r told old.acts mid.acts) is answers) in
    subst (λ hs. AnswersEach duty old hs new) (sym cut) (mid, this, moves, rest)
