-- What is delivered was sent.
use Rattle.std.proofs.Common.{arith, ◌≡◌, ◌≢◌, ℕ, zero, suc, ◌+◌, ◌<◌, ◌≤◌, List, [], ◌∷◌, ◌++◌, map, take, reverse, length-append, Option, Some, None, ◌⊎◌, inl, inr, refl, sym, ap, subst, ◌∙◌}
use Rattle.std.specs.Prelude.{All, AllPairs, length, IfSome}
use Rattle.std.proofs.lemmas.List.Elements.{All-head, All-tail, All-nil, All-cons}
use Rattle.std.proofs.lemmas.List.Kept.{AllPairs-cons}
use Rattle.std.proofs.lemmas.List.{append_assoc, append-nil, reverse-append, reverse-reverse, length-reverse}
use Rattle.rohc_frame.specs.declared.header.HeadKind.TheVariants.{Other}
use Rattle.rohc_context.specs.declared.settings.Settings.{Settings}
use Rattle.rohc_context.specs.Good.{AreGoodValues, IsGoodRecord, IsGoodHeader}
use Rattle.rohc_context.specs.Settings.{AreGood}
use Rattle.rohc_context.specs.Honest.{Held, held_by, HoldsInFull, Written, IsHonestPacket, delivery_of}
use Rattle.rohc_context.specs.Record.{Record}
use Rattle.rohc_context.specs.Response.{Response}
use Rattle.rohc_context.proofs.StepLaws.{has_answer, leaves_good, delivers_written_packet}
use Rattle.rohc_context.proofs.WrittenCall.{IsWrittenCall, has_written_call}
use Rattle.rohc_concentrator.specs.LoneRun.{LoneRun}
use Rattle.rohc_concentrator.specs.Honest.{IsOrdinary, IsHonestFrom, IsHonest, IsHonestEitherWay, Arrived, Reaches, AreInTime, events_of, deliveries, DeliversWhatWasSent, AsksOrdinaryAlone, Sender, IsHonestCall, IsGoodArrival, HasHonestRun, HasHonestSender}

-- this is held at a place of a list
abbrev At : ℕ → List Held → Held → Type 0
At k [] held = ⊥
At zero (x ∷ xs) held = x ≡ held
At (suc k) (x ∷ xs) held = At k xs held

module _ (P : Held → Type 0) where
  -- what holds of the first ones holds at a place among them
  of_first : (w k : ℕ) (xs : List Held) (held : Held) → At k xs held → k < w → All P (take w xs) → P held
  of_first zero k xs held at low all = absurd (omega (arith, low))
  of_first (suc w) k [] held at low all = absurd at
  of_first (suc w) zero (x ∷ xs) held at low all = subst P at (All-head P x (take w xs) all)
  of_first (suc w) (suc k) (x ∷ xs) held at low all = of_first w k xs held at (omega (arith, low)) (All-tail P x (take w xs) all)

  -- and the other way round
  to_first : (w : ℕ) (xs : List Held) → ((k : ℕ) (held : Held) → At k xs held → k < w → P held) → All P (take w xs)
  to_first zero xs each = All-nil P
  to_first (suc w) [] each = All-nil P
  to_first (suc w) (x ∷ xs) each = All-cons P x (take w xs) (each 0 x refl (omega arith)) (to_first w xs (λ k held at low. each (suc k) held at (omega (arith, low))))

module _ (w : ℕ) (first : Held) where
  -- What is held stands at a place. Packets are lost, and then one arrives: if the place is still among the newest w, the
  -- packet is written for what is held, and what comes next is written from its header on.
  behind_lost : (references : List Held) (k : ℕ) (held : Held) (lost later : List Written) (p : Written) → At k references held → k + length lost < w
      → IsHonestFrom w first references (lost ++ p ∷ later) → IsOrdinary p
      → IsHonestPacket held p × ((before : List Held) × IsHonestFrom w first (held_by first p.header ∷ before) later)
  behind_lost references k held [] later p at low honest ordinary =
      (of_first (λ h. IsHonestPacket h p) w k references held at (omega (arith, low)) (honest.0 ordinary), (references, honest.1))
  behind_lost references k held (q ∷ lost) later p at low honest ordinary =
      behind_lost (held_by first q.header ∷ references) (suc k) held lost later p at (omega (arith, low)) honest.1 ordinary

module _ (s : Settings) (w : ℕ) (first : Held) where
  -- the record holds the newest reference of those from which the rest is written
  record Goes (rest : List Written) (held : Held) (before : Record) (arrivals : List Arrived) : Type 0 where
    older : List Held
    honest : IsHonestFrom w first (held ∷ older) rest
    same : (p : Written) → held_by held p.header ≡ held_by first p.header
    full : HoldsInFull held before
    reaches : Reaches w rest (map (λ (a : Arrived). a.written) arrivals)
    ordinary : All (λ (a : Arrived). IsOrdinary a.written) arrivals
    in_time : AreInTime s before.accepted arrivals

  goes_on : (rest : List Written) (held : Held) (before : Record) (arrivals : List Arrived) (replies : List Response) (after : Option Record)
      → Goes rest held before arrivals → LoneRun s (Some before) (events_of arrivals) replies after → replies ≡ deliveries arrivals
  goes_on rest held before [] [] after g run = refl
  goes_on rest held before [] (reply ∷ replies) after g run = absurd run
  goes_on rest held before (a ∷ arrivals) [] after g run = absurd run
  goes_on rest held before (a ∷ arrivals) (reply ∷ replies) after g (mid, step, run) =
      let p = a.written in
      let (lost, later, split, few, reaches) = g.reaches in
      let honest : IsHonestFrom w first (held ∷ g.older) (lost ++ p ∷ later) = subst (λ l. IsHonestFrom w first (held ∷ g.older) l) split g.honest in
      let (written, (references, onward)) = behind_lost w first (held ∷ g.older) 0 held lost later p refl (omega (arith, few)) honest (All-head (λ (b : Arrived). IsOrdinary b.written) a arrivals g.ordinary) in
      let (answer, (next, is, moment, full)) = delivers_written_packet held before s a.moment p reply mid g.full written g.in_time.0 step in
      let on : Goes later (held_by first p.header) next arrivals = record {
        older = references;
        honest = onward;
        same = λ q. refl;
        full = subst (λ h. HoldsInFull h next) (g.same p) full;
        reaches = reaches;
        ordinary = All-tail (λ (b : Arrived). IsOrdinary b.written) a arrivals g.ordinary;
        in_time = subst (λ m. AreInTime s m arrivals) (sym moment) g.in_time.1;
      } in
      let rest_is = goes_on later (held_by first p.header) next arrivals replies after on (subst (λ r. LoneRun s r (events_of arrivals) replies after) is run) in
      ap (λ r. r ∷ replies) answer ∙ ap (λ l. delivery_of p ∷ l) rest_is

pub delivers_what_was_sent : DeliversWhatWasSent
delivers_what_was_sent sender s before arrivals replies after call run =
    goes_on s sender.w sender.first sender.sent sender.first before arrivals replies after (record {
      older = [];
      honest = call.honest;
      same = λ q. refl;
      full = call.held;
      reaches = call.reaches;
      ordinary = call.ordinary;
      in_time = call.in_time;
    }) run

-- ---- The same said by places

-- the place of what stands before so many others, in the order in which they came
place_of : (xs older newer : List Held) (held : Held) → xs ≡ newer ++ held ∷ older → At (length newer) xs held
place_of xs older [] held is = subst (λ l. At 0 l held) (sym is) refl
place_of [] older (y ∷ newer) held is = absurd (let bad : ◌≡◌ {A = List Held} [] (y ∷ (newer ++ held ∷ older)) = is in cc)
place_of (x ∷ xs) older (y ∷ newer) held is = place_of xs older newer held (let e : ◌≡◌ {A = List Held} (x ∷ xs) (y ∷ (newer ++ held ∷ older)) = is in cc)

reverse_more : (x : Held) (xs : List Held) → reverse (x ∷ xs) ≡ reverse xs ++ x ∷ []
reverse_more x xs = reverse-append (x ∷ []) xs

reverse_before : (x : Held) (xs ys : List Held) → reverse (x ∷ xs) ++ ys ≡ reverse xs ++ x ∷ ys
reverse_before x xs ys = ap (λ l. l ++ ys) (reverse_more x xs) ∙ append_assoc (reverse xs) (x ∷ []) ys

-- a list around one of its places, in the order in which its elements came
around : (k : ℕ) (xs : List Held) (held : Held) → At k xs held → (older newer : List Held) × (reverse xs ≡ older ++ held ∷ newer) × (length newer ≡ k)
around k [] held at = absurd at
around zero (x ∷ xs) held at = (reverse xs, [], reverse_more x xs ∙ ap (λ h. reverse xs ++ h ∷ []) at, refl)
around (suc k) (x ∷ xs) held at =
    let (older, newer, split, is) = around k xs held at in
    (older, newer ++ x ∷ [], reverse_more x xs ∙ ap (λ l. l ++ x ∷ []) split ∙ append_assoc older (held ∷ newer) (x ∷ []), omega (arith, length-append newer (x ∷ []), is))

-- the place of what stands before so many others, counted from the end
from_end : (xs older newer : List Held) (held : Held) → reverse xs ≡ older ++ held ∷ newer → At (length newer) xs held
from_end xs older newer held split =
    let turned : xs ≡ reverse newer ++ held ∷ reverse older = sym (reverse-reverse xs) ∙ ap reverse split ∙ reverse-append older (held ∷ newer) ∙ reverse_before held newer (reverse older) in
    subst (λ n. At n xs held) (length-reverse newer) (place_of xs (reverse older) (reverse newer) held turned)

module _ (w : ℕ) (first : Held) where
  abbrev reference_of : Written → Held
  reference_of p = held_by first p.header

  -- a packet after these references
  abbrev ByPlaces : (before : List Held) → List Written → Type 0
  ByPlaces before sent =
      (earlier later : List Written) (p : Written) (older newer : List Held) (held : Held) → sent ≡ earlier ++ p ∷ later
      → reverse before ++ map reference_of earlier ≡ older ++ held ∷ newer → length newer < w → IsOrdinary p → IsHonestPacket held p

  by_places : (before : List Held) (sent : List Written) → IsHonestFrom w first before sent → ByPlaces before sent
  by_places before [] honest [] later p older newer held split last few ordinary = absurd (let e : ◌≡◌ {A = List Written} [] (p ∷ later) = split in cc)
  by_places before [] honest (x ∷ earlier) later p older newer held split last few ordinary = absurd (let e : ◌≡◌ {A = List Written} [] (x ∷ (earlier ++ p ∷ later)) = split in cc)
  by_places before (q ∷ sent) honest [] later p older newer held split last few ordinary =
      let same : q ≡ p = (let e : ◌≡◌ {A = List Written} (q ∷ sent) (p ∷ later) = split in cc) in
      let at = from_end before older newer held (sym (append-nil (reverse before)) ∙ last) in
      subst (λ y. IsHonestPacket held y) same (of_first (λ h. IsHonestPacket h q) w (length newer) before held at few (honest.0 (subst IsOrdinary (sym same) ordinary)))
  by_places before (q ∷ sent) honest (x ∷ earlier) later p older newer held split last few ordinary =
      let e : ◌≡◌ {A = List Written} (q ∷ sent) (x ∷ (earlier ++ p ∷ later)) = split in
      let same : q ≡ x = cc in
      let behind : sent ≡ earlier ++ p ∷ later = cc in
      by_places (reference_of q ∷ before) sent honest.1 earlier later p older newer held behind
      (reverse_before (reference_of q) before (map reference_of earlier)
      ∙ ap (λ (y : Written). reverse before ++ reference_of y ∷ map reference_of earlier) same ∙ last) few ordinary

  over_window : (before : List Held) (sent : List Written) → ByPlaces before sent → IsHonestFrom w first before sent
  over_window before [] places = tt
  over_window before (p ∷ sent) places = (
    λ ordinary. to_first (λ h. IsHonestPacket h p) w before (λ k held at low.
        let (older, newer, split, is) = around k before held at in
        places [] sent p older newer held refl (append-nil (reverse before) ∙ split) (omega (arith, is, low)) ordinary),
    over_window (reference_of p ∷ before) sent (λ earlier later q older newer held split last few ordinary.
        places (p ∷ earlier) later q older newer held (ap (λ l. p ∷ l) split)
        (sym (reverse_before (reference_of p) before (map reference_of earlier)) ∙ last) few ordinary),
  )

pub is_honest_either_way : IsHonestEitherWay
is_honest_either_way w first sent = (by_places w first (first ∷ []) sent, over_window w first (first ∷ []) sent)

-- ---- There is a run

-- from a good record or none
run_from : (s : Settings) (before : Option Record) (arrivals : List Arrived) → IfSome before IsGoodRecord → AreGood s → All (IsGoodArrival s) arrivals
    → (replies : List Response) × (after : Option Record) × LoneRun s before (events_of arrivals) replies after
run_from s before [] good settings all = ([], before, refl)
run_from s before (a ∷ arrivals) good settings all =
    let here = All-head (IsGoodArrival s) a arrivals all in
    let values : AreGoodValues before s a.moment a.written.packet = record { record_before = good; settings = settings; moment_fits = here.0; header = here.1 } in
    let (reply, mid, step) = has_answer before s a.moment a.written.packet values in
    let (replies, after, run) = run_from s mid arrivals (leaves_good before s a.moment a.written.packet values reply mid step) settings (All-tail (IsGoodArrival s) a arrivals all) in
    (reply ∷ replies, after, (mid, step, run))

pub has_honest_run : HasHonestRun
has_honest_run s before arrivals good settings all = run_from s (Some before) arrivals good settings all

-- ---- There is such a sender

-- a packet of which nothing is asked
abbrev IsFree : Written → Type 0
IsFree p = (p.packet.kind ≢ Other) ⊎ (p.content.values ≢ None) ⊎ (65535 < 40 + length p.content.payload)

not_ordinary : (p : Written) → IsFree p → IsOrdinary p → ⊥
not_ordinary p (inl kind) ordinary = kind ordinary.kind
not_ordinary p (inr (inl values)) ordinary = values ordinary.no_values
not_ordinary p (inr (inr long)) ordinary = let few = ordinary.few in omega (arith, long, few)

free_from : (w : ℕ) (first : Held) (references : List Held) (sent : List Written) → All IsFree sent → IsHonestFrom w first references sent
free_from w first references [] all = tt
free_from w first references (p ∷ sent) all =
    (λ ordinary. absurd (not_ordinary p (All-head IsFree p sent all) ordinary), free_from w first (held_by first p.header ∷ references) sent (All-tail IsFree p sent all))

pub asks_ordinary_alone : AsksOrdinaryAlone
asks_ordinary_alone w first sent all = free_from w first (first ∷ []) sent all

-- a packet that is written for a reference is ordinary
is_ordinary : (held : Held) (p : Written) → IsHonestPacket held p → IsOrdinary p
is_ordinary held p written =
    let few : length p.content.payload ≤ 65495 = written.few in
    record { kind = written.kind; octets = written.octets; no_values = written.no_values; few = omega (arith, few) }

-- the headers of two packets differ
abbrev AreApart : Written → Written → Type 0
AreApart v w = v.header.octets ≢ w.header.octets

-- The call of three packets, of which the second is lost.
module _ (s : Settings) (before : Record) (first : Held) (p q r : Written) (call : IsWrittenCall s before first p q r) where
  abbrev its_sender : Sender
  its_sender = record { w = 14; first = first; sent = p ∷ q ∷ r ∷ [] }

  abbrev arrived : Written → Arrived
  arrived w = record { moment = 0; written = w }

  abbrev arrivals : List Arrived
  arrivals = arrived p ∷ arrived r ∷ []

  abbrev from_p : Held
  from_p = held_by first p.header

  abbrev from_q : Held
  from_q = held_by first q.header

  is_honest : IsHonest 14 first (p ∷ q ∷ r ∷ [])
  is_honest =
      let for_q : Held → Type 0 = λ h. IsHonestPacket h q in
      let for_r : Held → Type 0 = λ h. IsHonestPacket h r in
      let q_later = All-tail for_q first (from_p ∷ []) call.q_written in
      let r_later = All-tail for_r first (from_p ∷ from_q ∷ []) call.r_written in
      let r_last = All-tail for_r from_p (from_q ∷ []) r_later in (
        λ o. All-cons (λ (h : Held). IsHonestPacket h p) first [] call.p_written (All-nil (λ (h : Held). IsHonestPacket h p)),
        (
          λ o. All-cons for_q from_p (first ∷ []) (All-head for_q from_p [] q_later) (All-cons for_q first [] (All-head for_q first (from_p ∷ []) call.q_written) (All-nil for_q)),
          (
            λ o. All-cons for_r from_q (from_p ∷ first ∷ []) (All-head for_r from_q [] r_last)
                (All-cons for_r from_p (first ∷ []) (All-head for_r from_p (from_q ∷ []) r_later) (All-cons for_r first [] (All-head for_r first (from_p ∷ from_q ∷ []) call.r_written) (All-nil for_r))),
            tt,
          ),
        ),
      )

  are_ordinary : All (λ (a : Arrived). IsOrdinary a.written) arrivals
  are_ordinary =
      let r_written : IsHonestPacket first r = All-head (λ (h : Held). IsHonestPacket h r) first (held_by first p.header ∷ held_by first q.header ∷ []) call.r_written in
      All-cons (λ (a : Arrived). IsOrdinary a.written) (arrived p) (arrived r ∷ []) (is_ordinary first p call.p_written)
      (All-cons (λ (a : Arrived). IsOrdinary a.written) (arrived r) [] (is_ordinary first r r_written) (All-nil (λ (a : Arrived). IsOrdinary a.written)))

  is_call : IsHonestCall its_sender s before arrivals
  is_call = record {
    held = call.held;
    honest = is_honest;
    reaches = ([], q ∷ r ∷ [], refl, omega (arith), (q ∷ [], [], refl, omega (arith), tt));
    ordinary = are_ordinary;
    in_time = (inl call.never_idle, (inl call.never_idle, tt));
  }

  are_good_arrivals : All (IsGoodArrival s) arrivals
  are_good_arrivals =
      let behind_p = All-tail (λ (w : Written). IsGoodHeader s w.packet) p (q ∷ r ∷ []) call.good_headers in
      let behind_q = All-tail (λ (w : Written). IsGoodHeader s w.packet) q (r ∷ []) behind_p in
      All-cons (IsGoodArrival s) (arrived p) (arrived r ∷ []) (omega (arith), All-head (λ (w : Written). IsGoodHeader s w.packet) p (q ∷ r ∷ []) call.good_headers)
      (All-cons (IsGoodArrival s) (arrived r) [] (omega (arith), All-head (λ (w : Written). IsGoodHeader s w.packet) r [] behind_q) (All-nil (IsGoodArrival s)))

  its_run : (after : Option Record) × LoneRun s (Some before) (events_of arrivals) (deliveries arrivals) after
  its_run =
      let (replies, after, run) = has_honest_run s before arrivals call.good_record call.good_settings are_good_arrivals in
      (after, subst (λ l. LoneRun s (Some before) (events_of arrivals) l after) (delivers_what_was_sent its_sender s before arrivals replies after is_call run) run)

  are_apart : AllPairs AreApart (p ∷ q ∷ r ∷ [])
  are_apart =
      AllPairs-cons AreApart p (q ∷ r ∷ []) (All-cons (AreApart p) q (r ∷ []) call.apart.0 (All-cons (AreApart p) r [] call.apart.1 (All-nil (AreApart p))))
      (AllPairs-cons AreApart q (r ∷ []) (All-cons (AreApart q) r [] call.apart.2 (All-nil (AreApart q)))
      (AllPairs-cons AreApart r [] (All-nil (AreApart r)) (λ i j d below fits. absurd (omega (arith, below, fits)))))

pub has_honest_sender : HasHonestSender
has_honest_sender =
    let (s, before, first, p, q, r, call) = has_written_call in
    let (after, run) = its_run s before first p q r call in (
      its_sender s before first p q r call,
      s,
      before,
      record { moment = 0; written = p },
      q,
      record { moment = 0; written = r },
      after,
      refl,
      refl,
      are_apart s before first p q r call,
      is_call s before first p q r call,
      run,
    )
