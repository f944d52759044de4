-- Runs one after another.
use Rattle.std.proofs.Common.{◌≡◌, ◌≢◌, ℕ, ◌/◌, Bool, List, [], ◌∷◌, ◌++◌, map, Option, Some, None, IfSome, Result, Ok, Err, refl, sym, ◌∙◌, ap, subst, append_assoc, append-nil}
use Rattle.std.specs.List.{flat_map}
use Rattle.std.specs.Option.{option_map}
use Rattle.std.specs.Io.KnownBytes.{Appends, Keeps, append_known}
use Rattle.std.proofs.KnownBytes.{Appends-nil, Appends-trans, Appends-kept, Keeps-refl}
use Rattle.rohc_concentrator.specs.declared.concentrator.Concentrator.{Concentrator}
use Rattle.rohc_concentrator.specs.Report.{Report}
use Rattle.rohc_concentrator.specs.Events.{Event, RunsEvents}
use Rattle.rohc_capture.specs.declared.choice.Rule.{Rule}
use Rattle.rohc_capture.specs.declared.framing.Framing.{Framing}
use Rattle.rohc_concentrator.specs.Isolation.{IsIsolatedRun}
use Rattle.rohc_concentrator.specs.Tables.{KeepsAll}
use Rattle.rohc_concentrator.specs.Calls.{Arrive, Reported}
use Rattle.rohc_capture.specs.declared.writer.Format.{Format}
use Rattle.rohc_concentrator.proofs.EventLemmas.{isolated_events}
use Rattle.rohc_concentrator.proofs.KeepLemmas.{runs_after}
use Rattle.rohc_capture.specs.declared.fault.FrameFault.{FrameFault}
use Rattle.rohc_capture.specs.declared.fault.CaptureFault.{CaptureFault}
use Rattle.rohc_capture.specs.declared.fault.FaultKind.TheVariants.{Read}
use Rattle.rohc_capture.specs.declared.reader.Kind.{Kind}
use Rattle.rohc_capture.specs.declared.reader.Record.{Record}
use Rattle.rohc_capture.specs.Choice.{packet_in}
use Rattle.rohc_capture.specs.Records.{Entry, Standing, standing, IsNext, Leads, Holds}
use Rattle.rohc_capture.specs.Standing.{entry_of, ReadsOn}
use Rattle.rohc_decompress.specs.declared.fault.BulkFault.{BulkFault}
use Rattle.rohc_decompress.specs.declared.fault.BulkFault.TheVariants.{Capture, Write}
use Rattle.rohc_decompress.specs.Written.{packet_of, packet_text, feedback_of, feedback_text, TakesPacket, Work, work}
use Rattle.rohc_decompress.specs.Run.{arrival_of, arrival_in, arrivals_in, Turn, event_of, turn_packet, turn_feedback, How, Runs, event_run, OfReading, IsLed, Decompresses, Breaks, Stops}

some_is : (x y : List ℕ) → ◌≡◌ {A = Option (List ℕ)} (Some x) (Some y) → x ≡ y
some_is x y e = cc

-- lists of lists that stand one after the other
map-append : {A B : Type 0} (f : A → B) (xs ys : List A) → map f (xs ++ ys) ≡ map f xs ++ map f ys
map-append f [] ys = refl
map-append f (x ∷ xs) ys = ap (λ zs. f x ∷ zs) (map-append f xs ys)

flat-append : {A : Type 0} (f : A → List ℕ) (xs ys : List A) → flat_map f (xs ++ ys) ≡ flat_map f xs ++ flat_map f ys
flat-append f [] ys = refl
flat-append f (x ∷ xs) ys = ap (λ zs. f x ++ zs) (flat-append f xs ys) ∙ sym (append_assoc (f x) (flat_map f xs) (flat_map f ys))

arrivals-append : (rules : List Rule) (framing : Framing) (xs ys : List Entry) →
    arrivals_in rules framing (xs ++ ys) ≡ arrivals_in rules framing xs ++ arrivals_in rules framing ys
arrivals-append rules framing [] ys = refl
arrivals-append rules framing (x ∷ xs) ys = ap (λ zs. arrival_in rules framing x ++ zs) (arrivals-append rules framing xs ys)
    ∙ sym (append_assoc (arrival_in rules framing x) (arrivals_in rules framing xs) (arrivals_in rules framing ys))

run-append : (a b c : Concentrator) (xs ys : List (Event × Option Report)) → RunsEvents a xs b → RunsEvents b ys c → RunsEvents a (xs ++ ys) c
run-append a b c [] ys p q = subst (λ k. RunsEvents k ys c) p q
run-append a b c (x ∷ xs) ys p q = (p.0, p.1, run-append p.0 b c xs ys p.2 q)

pub Runs-none : (how : How) (w : Work) → Runs how [] w w
Runs-none how w = record { turns = []; arrivals = refl; run = refl; packets = Appends-nil w.packets; feedback = Appends-nil w.feedback }

pub Runs-more : (how : How) (xs ys : List Entry) (a b c : Work) → Runs how xs a b → Runs how ys b c → Runs how (xs ++ ys) a c
Runs-more how xs ys a b c p q = record {
  turns = p.turns ++ q.turns;
  arrivals = map-append (λ (t : Turn). t.arrival) p.turns q.turns ∙ ap (λ l. l ++ map (λ (t : Turn). t.arrival) q.turns) p.arrivals
      ∙ ap (λ l. arrivals_in how.rules how.framing xs ++ l) q.arrivals ∙ sym (arrivals-append how.rules how.framing xs ys);
  run = subst (λ l. RunsEvents a.concentrator l c.concentrator) (sym (map-append event_of p.turns q.turns)) (run-append _ _ _ _ _ p.run q.run);
  packets = subst (Appends a.packets c.packets) (sym (flat-append (turn_packet how.format how.padded) p.turns q.turns)) (Appends-trans a.packets b.packets c.packets _ _ p.packets q.packets);
  feedback = subst (Appends a.feedback c.feedback) (sym (flat-append (turn_feedback how.format) p.turns q.turns)) (Appends-trans a.feedback b.feedback c.feedback _ _ p.feedback q.feedback);
}

-- both writers were flushed
pub Runs-kept : (how : How) (es : List Entry) (a b : Work) (packets feedback : Option (List ℕ)) → Runs how es a b → Keeps b.packets packets → Keeps b.feedback feedback →
    Runs how es a (work b.concentrator packets feedback)
Runs-kept how es a b packets feedback r p q = record {
  turns = r.turns;
  arrivals = r.arrivals;
  run = r.run;
  packets = Appends-kept a.packets b.packets packets _ r.packets p;
  feedback = Appends-kept a.feedback b.feedback feedback _ r.feedback q;
}

-- ---- a batch

-- nothing stands in it
pub append_known-none : (known : Option (List ℕ)) (batch : List ℕ) → batch ≡ [] → append_known known batch ≡ known
append_known-none None batch none = refl
append_known-none (Some text) batch none = ap (λ l. Some (text ++ l)) none ∙ ap Some (append-nil text)

-- ---- one record

-- what is tried first and changes nothing may be left out
pub takes_after : (format : Format) (padded : Bool) (link nanos : ℕ) (packet : List ℕ) (old : Work) (mid : Concentrator) (new : Work) → KeepsAll old.concentrator mid →
    TakesPacket format padded link nanos packet (work mid old.packets old.feedback) new → TakesPacket format padded link nanos packet old new
takes_after format padded link nanos packet old mid new kept t = record {
  report = t.report;
  arrives = runs_after old.concentrator mid link (Arrive (nanos / 1000000) packet) (Reported t.report) new.concentrator kept t.arrives;
  packets = t.packets;
  feedback = t.feedback;
}

pub one-turn : (how : How) (e : Entry) (link : ℕ) (packet : List ℕ) (old new : Work) → packet_in how.rules how.framing e.link_type e.original e.frame ≡ Ok (Some (link, packet)) →
    TakesPacket how.format how.padded link e.nanos packet old new → Runs how (e ∷ []) old new
one-turn how e link packet old new is t = record {
  turns = record { arrival = record { link = link; nanos = e.nanos; packet = packet }; report = t.report } ∷ [];
  arrivals = sym (ap (λ r. arrival_of e.nanos r ++ []) is);
  run = (new.concentrator, t.arrives, refl);
  packets = subst (Appends old.packets new.packets) (sym (append-nil (packet_text how.format how.padded e.nanos (packet_of t.report)))) t.packets;
  feedback = subst (Appends old.feedback new.feedback) (sym (append-nil (feedback_text how.format link e.nanos (feedback_of t.report)))) t.feedback;
}

none_here : (how : How) (e : Entry) (w : Work) → arrival_in how.rules how.framing e ≡ [] → Runs how (e ∷ []) w w
none_here how e w is = record {
  turns = [];
  arrivals = sym (ap (λ l. l ++ []) is);
  run = refl;
  packets = Appends-nil w.packets;
  feedback = Appends-nil w.feedback;
}

pub no-turn : (how : How) (e : Entry) (w : Work) → packet_in how.rules how.framing e.link_type e.original e.frame ≡ Ok None → Runs how (e ∷ []) w w
no-turn how e w is = none_here how e w (ap (arrival_of e.nanos) is)

pub bad-frame : (how : How) (e : Entry) (w : Work) (fault : FrameFault) → packet_in how.rules how.framing e.link_type e.original e.frame ≡ Err fault → Runs how (e ∷ []) w w
bad-frame how e w fault is = none_here how e w (ap (arrival_of e.nanos) is)

-- ---- the records of a capture

leads-more : (s mid t : Standing) (es : List Entry) (e : Entry) → Leads s es mid → IsNext mid (Ok (Some (e, t))) → Leads s (es ++ e ∷ []) t
leads-more s mid t [] e l n = (t, subst (λ m. IsNext m (Ok (Some (e, t)))) (sym l) n, refl)
leads-more s mid t (x ∷ es) e l n = (l.0, l.1, leads-more l.0 mid t es e l.2 n)

pub led-first : (kind : Kind) (place : ℕ) (rest : Option (List ℕ)) → IsLed (option_map (standing kind place) rest) [] kind place rest
led-first kind place None = tt
led-first kind place (Some text) = (text, refl, refl)

leads-append : (s mid t : Standing) (es fs : List Entry) → Leads s es mid → Leads mid fs t → Leads s (es ++ fs) t
leads-append s mid t [] fs l n = subst (λ m. Leads m fs t) (sym l) n
leads-append s mid t (x ∷ es) fs l n = (l.0, l.1, leads-append l.0 mid t es fs l.2 n)

-- and further
pub led-append : (s : Option Standing) (es fs : List Entry) (kind now : Kind) (place after : ℕ) (rest left : Option (List ℕ)) → IsLed s es kind place rest →
    IsLed (option_map (standing kind place) rest) fs now after left → IsLed s (es ++ fs) now after left
led-append None es fs kind now place after rest left l n = tt
led-append (Some s) es fs kind now place after None left l n = let e = l.1 in absurd (cc)
led-append (Some s) es fs kind now place after (Some x) left l n =
    let same : l.0 ≡ x = some_is l.0 x (sym l.1) in
    (n.0, n.1, leads-append s (standing kind place x) (standing now after n.0) es fs (subst (λ t. Leads s es (standing kind place t)) same l.2) n.2)

pub led-more : (s : Option Standing) (es : List Entry) (kind now : Kind) (place after : ℕ) (rest left : Option (List ℕ)) (r : Record) (frame : List ℕ) → IsLed s es kind place rest →
    IfSome rest (λ text. ReadsOn (standing kind place text) (Ok (Some r)) frame now after left) → IsLed s (es ++ entry_of r frame ∷ []) now after left
led-more None es kind now place after rest left r frame l n = tt
led-more (Some s) es kind now place after None left r frame l n = let e = l.1 in absurd (cc)
led-more (Some s) es kind now place after (Some x) left r frame l n =
    let same : l.0 ≡ x = some_is l.0 x (sym l.1) in
    (n.0, n.1, leads-more s (standing kind place x) (standing now after n.0) es (entry_of r frame) (subst (λ t. Leads s es (standing kind place t)) same l.2) n.2)

pub led-end : (s : Option Standing) (es : List Entry) (kind now : Kind) (place after : ℕ) (rest left : Option (List ℕ)) (frame : List ℕ) → IsLed s es kind place rest →
    IfSome rest (λ text. ReadsOn (standing kind place text) (Ok None) frame now after left) → IfSome s (λ (s : Standing). Holds s es (Ok tt))
led-end None es kind now place after rest left frame l n = tt
led-end (Some s) es kind now place after None left frame l n = let e = l.1 in absurd (cc)
led-end (Some s) es kind now place after (Some x) left frame l n =
    let same : l.0 ≡ x = some_is l.0 x (sym l.1) in
    record { last = standing kind place x; leads = subst (λ t. Leads s es (standing kind place t)) same l.2; ends = n }

pub led-fault : (s : Option Standing) (es : List Entry) (kind now : Kind) (place after : ℕ) (rest left : Option (List ℕ)) (frame : List ℕ) (fault : CaptureFault) → IsLed s es kind place rest →
    IfSome rest (λ text. ReadsOn (standing kind place text) (Err fault) frame now after left) → fault.kind ≢ Read → IfSome s (λ (s : Standing). Holds s es (Err fault))
led-fault None es kind now place after rest left frame fault l n k = tt
led-fault (Some s) es kind now place after None left frame fault l n k = let e = l.1 in absurd (cc)
led-fault (Some s) es kind now place after (Some x) left frame fault l n k =
    let same : l.0 ≡ x = some_is l.0 x (sym l.1) in
    record { last = standing kind place x; leads = subst (λ t. Leads s es (standing kind place t)) same l.2; ends = n k }

led-here : (s : Option Standing) (es : List Entry) (kind : Kind) (place : ℕ) (rest : Option (List ℕ)) → IsLed s es kind place rest → IfSome s (λ (s : Standing). (t : Standing) × Leads s es t)
led-here None es kind place rest l = tt
led-here (Some s) es kind place rest l = (standing kind place l.0, l.2)

-- ---- the run

isolated : {how : How} {es : List Entry} {old new : Work} (r : Runs how es old new) → IsIsolatedRun (event_run r)
isolated r = isolated_events (event_run r) r.run

pub ends_well : (how : How) (s : Option Standing) (es : List Entry) (old new : Work) (ending : Result Unit CaptureFault) → IfSome s (λ (s : Standing). Holds s es ending) → Runs how es old new →
    Decompresses how s ending old new
ends_well how s es old new ending h r = record { records = es; held = h; run = r; isolated = isolated r }

pub breaks_off : (how : How) (s : Option Standing) (es : List Entry) (kind : Kind) (place : ℕ) (rest : Option (List ℕ)) (old new : Work) → IsLed s es kind place rest → Runs how es old new →
    Breaks how s old new
breaks_off how s es kind place rest old new l r = record { records = es; led = led-here s es kind place rest l; run = r; isolated = isolated r }

-- no record was read, but a fault
pub stops-at : (how : How) (s : Option Standing) (es : List Entry) (kind now : Kind) (place after : ℕ) (rest left : Option (List ℕ)) (frame : List ℕ) (fault : BulkFault)
    (old new : Work) (packets feedback : Option (List ℕ)) → IsLed s es kind place rest → Runs how es old new →
    OfReading (λ r. IfSome rest (λ text. ReadsOn (standing kind place text) r frame now after left)) (Err fault) →
    OfReading (λ r. Keeps new.packets packets) (Err fault) → OfReading (λ r. Keeps new.feedback feedback) (Err fault) →
    Stops how s fault old (work new.concentrator packets feedback)
stops-at how s es kind now place after rest left frame (Capture fault) old new packets feedback l run n p q =
    let end = work new.concentrator packets feedback in
    let kept = Runs-kept how es old new packets feedback run p q in (
      λ k. ends_well how s es old end (Err fault) (led-fault s es kind now place after rest left frame fault l n k) kept,
      breaks_off how s es kind place rest old end l kept,
    )
stops-at how s es kind now place after rest left frame Write old new packets feedback l run n p q = tt

-- ---- the last batch is written

pub whole-poured : (how : How) (s : Option Standing) (ending : Result Unit CaptureFault) (old new : Work) (poured : Option (List ℕ)) → Keeps new.packets poured →
    Decompresses how s ending old new → Decompresses how s ending old (work new.concentrator poured new.feedback)
whole-poured how s ending old new poured kept d =
    ends_well how s d.records old (work new.concentrator poured new.feedback) ending d.held (Runs-kept how d.records old new poured new.feedback d.run kept (Keeps-refl new.feedback))

break-poured : (how : How) (s : Option Standing) (old new : Work) (poured : Option (List ℕ)) → Keeps new.packets poured → Breaks how s old new → Breaks how s old (work new.concentrator poured new.feedback)
break-poured how s old new poured kept b =
    let run = Runs-kept how b.records old new poured new.feedback b.run kept (Keeps-refl new.feedback) in
    record { records = b.records; led = b.led; run = run; isolated = isolated run }

pub stop-poured : (how : How) (s : Option Standing) (fault : BulkFault) (old new : Work) (poured : Option (List ℕ)) → Keeps new.packets poured →
    Stops how s fault old new → Stops how s fault old (work new.concentrator poured new.feedback)
stop-poured how s (Capture fault) old new poured kept p = (
  λ known. whole-poured how s (Err fault) old new poured kept (p.0 known),
  break-poured how s old new poured kept p.1,
)
stop-poured how s Write old new poured kept p = tt
