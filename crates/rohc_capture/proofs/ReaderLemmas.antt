-- What a capture's octets say, by those of them that are ahead.
use Rattle.std.proofs.Common.{◌≡◌, ◌≢◌, ℕ, ◌+◌, ◌<◌, ◌≤◌, ◌%◌, ◌⊎◌, inl, inr, nat_le, min, List, [], ◌∷◌, ◌++◌, length, take, drop, Bool, true, false, Option, Some, None, IfSome, Ok, Err, arith, refl, sym, ◌∙◌, ap, subst, append-nil, length-append, length-drop, length-take}
use Rattle.std.specs.Io.KnownBytes.{Keeps, IsAtEnd, prepend_known}
use Rattle.rohc_capture.specs.declared.number.ByteOrder.{ByteOrder}
use Rattle.rohc_capture.specs.declared.number.ByteOrder.TheVariants.{Big}
use Rattle.rohc_capture.specs.declared.pcap.PcapHead.{PcapHead}
use Rattle.rohc_capture.specs.declared.pcap.RecordHead.{RecordHead}
use Rattle.rohc_capture.specs.Number.{◌>>=◌, long_at}
use Rattle.rohc_capture.specs.Pcap.{magic_of, file_in, record_in}
use Rattle.rohc_capture.specs.declared.fault.FaultKind.{FaultKind}
use Rattle.rohc_capture.specs.declared.fault.FaultKind.TheVariants.{Read, NotACapture, CutOff, TooLong}
use Rattle.rohc_capture.specs.Records.{Next, standing, head_at, longest, record_at, placed, next_in_pcap, is_number, is_section}
use Rattle.rohc_capture.specs.declared.reader.Kind.{Kind}
use Rattle.rohc_capture.specs.declared.reader.Kind.TheVariants.{Unknown, Pcap, Pcapng}
use Rattle.rohc_capture.specs.Window.{counted}
use Rattle.rohc_capture.specs.Coming.{Ahead, first_of, IsComing}
use Rattle.std.proofs.lemmas.Bool.{le-leb, lt-leb}
use Rattle.std.proofs.lemmas.Bool.Decides.{nat_tests}
use Rattle.std.proofs.lemmas.List.{drop-append-le, take-append-le, length-take-le}

-- the link type and the octets behind it, of the numbers behind the magic number
abbrev link_of : ByteOrder → Bool → List ℕ → Option PcapHead
link_of order nano text = do
  (version, text) ← long_at order text
  (zone, text) ← long_at order text
  (figures, text) ← long_at order text
  (longest, text) ← long_at order text
  (link, text) ← long_at order text
  Some (record { order = order; is_nano = nano; link_type = link % 65536 })

-- a number in front of at least four octets, whatever follows them
pub long-some : (order : ByteOrder) (xs : List ℕ) → 4 ≤ length xs →
    (n : ℕ) × (rest : List ℕ) × (length xs ≡ 4 + length rest) × ((ys : List ℕ) → long_at order (xs ++ ys) ≡ Some (n, rest ++ ys)) × (long_at order xs ≡ Some (n, rest))
unfolding long_at
long-some order [] few = absurd (omega arith)
long-some order (a ∷ []) few = absurd (omega arith)
long-some order (a ∷ b ∷ []) few = absurd (omega arith)
long-some order (a ∷ b ∷ c ∷ []) few = absurd (omega arith)
long-some order (a ∷ b ∷ c ∷ d ∷ rest) few = (_, rest, omega arith, λ ys. refl, refl)

-- the head of a record is the same, whatever follows its 16 octets
pub record-front : (head : PcapHead) (xs ys : List ℕ) → 16 ≤ length xs → record_in head (xs ++ ys) ≡ record_in head xs
unfolding record_in
record-front head xs ys enough =
    let a = long-some head.order xs (omega arith) in
    let b = long-some head.order a.1 (omega arith) in
    let c = long-some head.order b.1 (omega arith) in
    let d = long-some head.order c.1 (omega arith) in
    rw (a.3 ys, b.3 ys, c.3 ys, d.3 ys, a.4, b.4, c.4, d.4) refl

-- and the head of a file, whatever follows its 24 octets
file-behind : (order : ByteOrder) (nano : Bool) (xs ys : List ℕ) → 20 ≤ length xs → (link_of order nano (xs ++ ys)) ≡ link_of order nano xs
file-behind order nano xs ys enough =
    let a = long-some order xs (omega arith) in
    let b = long-some order a.1 (omega arith) in
    let c = long-some order b.1 (omega arith) in
    let d = long-some order c.1 (omega arith) in
    let e = long-some order d.1 (omega arith) in
    rw (a.3 ys, b.3 ys, c.3 ys, d.3 ys, e.3 ys, a.4, b.4, c.4, d.4, e.4) refl

file-magic : (magic : Option (ByteOrder × Bool)) (xs ys : List ℕ) → 20 ≤ length xs →
    (magic >>= λ (order, nano). link_of order nano (xs ++ ys)) ≡ (magic >>= λ (order, nano). link_of order nano xs)
file-magic None xs ys enough = refl
file-magic (Some (order, nano)) xs ys enough = file-behind order nano xs ys enough

pub file-front : (xs ys : List ℕ) → 24 ≤ length xs → file_in (xs ++ ys) ≡ file_in xs
unfolding file_in
file-front xs ys enough =
    let a = long-some Big xs (omega arith) in
    let e = file-magic (magic_of a.0) a.1 ys (omega arith) in
    rw (a.3 ys, a.4) e

-- whether the capture is one of pcapng
pub section-front : (xs ys : List ℕ) → 4 ≤ length xs → is_section (xs ++ ys) ≡ is_section xs
section-front xs ys enough = let a = long-some Big xs enough in ap is_number (a.3 ys) ∙ sym (ap is_number a.4)

-- ---- one record

abbrev short_fault : PcapHead → ℕ → FaultKind → Next
short_fault head place kind = Err (record { kind = kind; place = place })

nonempty : (head : PcapHead) (place : ℕ) (text : List ℕ) → 0 < length text → next_in_pcap head place text ≡ placed head place (record_at head place text)
nonempty head place [] some = absurd (omega arith)
nonempty head place (o ∷ os) some = refl

record-short : (head : PcapHead) (place : ℕ) (text : List ℕ) → length text < 16 → record_at head place text ≡ Err CutOff
unfolding record_at
record-short head place text few = rw (lt-leb 16 (length text) few) refl

record-none : (head : PcapHead) (place : ℕ) (text : List ℕ) → 16 ≤ length text → record_in head text ≡ None → record_at head place text ≡ Err CutOff
unfolding record_at
record-none head place text enough e = rw (le-leb 16 (length text) enough, e) refl

record-long : (head : PcapHead) (place : ℕ) (text : List ℕ) (r : RecordHead) → 16 ≤ length text → record_in head text ≡ Some r → longest < 16 + r.captured → record_at head place text ≡ Err TooLong
unfolding record_at
record-long head place text r enough e long = rw (le-leb 16 (length text) enough, e, lt-leb (16 + r.captured) longest long) refl

record-cut : (head : PcapHead) (place : ℕ) (text : List ℕ) (r : RecordHead) → 16 ≤ length text → record_in head text ≡ Some r → 16 + r.captured ≤ longest →
    length text < 16 + r.captured → record_at head place text ≡ Err CutOff
unfolding record_at
record-cut head place text r enough e within few =
    rw (le-leb 16 (length text) enough, e, le-leb (16 + r.captured) longest within, lt-leb (16 + r.captured) (length text) few) refl

record-whole : (head : PcapHead) (place : ℕ) (text : List ℕ) (r : RecordHead) → 16 ≤ length text → record_in head text ≡ Some r → 16 + r.captured ≤ longest →
    16 + r.captured ≤ length text → record_at head place text ≡ Ok (record { link_type = head.link_type; nanos = r.nanos; original = r.original; frame = take r.captured (drop 16 text); place = place }, drop (16 + r.captured) text)
unfolding record_at
record-whole head place text r enough e within whole =
    rw (le-leb 16 (length text) enough, e, le-leb (16 + r.captured) longest within, le-leb (16 + r.captured) (length text) whole) refl

-- ---- the octets of a capture, by those that are ahead

-- all of them are ahead
whole_text : (t rest : Option (List ℕ)) (ahead : List ℕ) (P : List ℕ → Type 0) → Keeps t (prepend_known ahead rest) → IsAtEnd rest → P ahead → IfSome t P
whole_text None rest ahead P k end h = tt
whole_text (Some x) None ahead P k end h = absurd k
whole_text (Some x) (Some y) ahead P k end h = subst P (sym (append-nil ahead) ∙ ap (λ l. ahead ++ l) (sym end) ∙ k) h

-- they begin with those that are ahead
front_text : (t rest : Option (List ℕ)) (ahead : List ℕ) (P : List ℕ → Type 0) → Keeps t (prepend_known ahead rest) → ((ys : List ℕ) → P (ahead ++ ys)) → IfSome t P
front_text None rest ahead P k h = tt
front_text (Some x) None ahead P k h = absurd k
front_text (Some x) (Some y) ahead P k h = subst P k (h y)

-- a fault at this place
abbrev Fault : PcapHead → ℕ → FaultKind → List ℕ → Type 0
Fault head place kind text = kind ≢ Read → short_fault head place kind ≡ next_in_pcap head place text

fault-is : (head : PcapHead) (place : ℕ) (kind : FaultKind) (text : List ℕ) → 0 < length text → record_at head place text ≡ Err kind → short_fault head place kind ≡ next_in_pcap head place text
fault-is head place kind text some e = sym (nonempty head place text some ∙ ap (placed head place) e)

-- ---- what comes next in a capture of pcap

pub next-end : (t rest : Option (List ℕ)) (ahead : List ℕ) (head : PcapHead) (place : ℕ) → Keeps t (prepend_known ahead rest) → IsAtEnd rest → ahead ≡ [] →
    IfSome t (λ text. Ok None ≡ next_in_pcap head place text)
next-end t rest ahead head place k end e =
    whole_text t rest ahead (λ text. Ok None ≡ next_in_pcap head place text) k end (subst (λ l. Ok None ≡ next_in_pcap head place l) (sym e) refl)

pub next-cut_head : (t rest : Option (List ℕ)) (ahead : List ℕ) (head : PcapHead) (place : ℕ) → Keeps t (prepend_known ahead rest) → IsAtEnd rest →
    0 < length ahead → length ahead < 16 → IfSome t (Fault head place CutOff)
next-cut_head t rest ahead head place k end some few =
    whole_text t rest ahead (Fault head place CutOff) k end (λ _. fault-is head place CutOff ahead some (record-short head place ahead few))

pub next-no_record : (t rest : Option (List ℕ)) (ahead : List ℕ) (head : PcapHead) (place : ℕ) → Keeps t (prepend_known ahead rest) →
    16 ≤ length ahead → record_in head ahead ≡ None → IfSome t (Fault head place CutOff)
next-no_record t rest ahead head place k enough e =
    front_text t rest ahead (Fault head place CutOff) k (λ ys _.
    let more : length (ahead ++ ys) ≡ length ahead + length ys = length-append ahead ys in
    fault-is head place CutOff (ahead ++ ys) (omega arith) (record-none head place (ahead ++ ys) (omega arith) (record-front head ahead ys enough ∙ e)))

pub next-too_long : (t rest : Option (List ℕ)) (ahead : List ℕ) (head : PcapHead) (place : ℕ) (r : RecordHead) → Keeps t (prepend_known ahead rest) →
    16 ≤ length ahead → record_in head ahead ≡ Some r → longest < 16 + r.captured → IfSome t (Fault head place TooLong)
next-too_long t rest ahead head place r k enough e long =
    front_text t rest ahead (Fault head place TooLong) k (λ ys _.
    let more : length (ahead ++ ys) ≡ length ahead + length ys = length-append ahead ys in
    fault-is head place TooLong (ahead ++ ys) (omega arith) (record-long head place (ahead ++ ys) r (omega arith) (record-front head ahead ys enough ∙ e) long))

-- the octets after a second reading are those after the first
same_record : (head : PcapHead) (x first y : List ℕ) (r : RecordHead) → first ++ y ≡ x → 16 ≤ length first → record_in head first ≡ Some r → record_in head x ≡ Some r
same_record head x first y r k enough e = ap (record_in head) (sym k) ∙ record-front head first y enough ∙ e

pub next-cut_off : (t before after : Option (List ℕ)) (first ahead : List ℕ) (head : PcapHead) (place : ℕ) (r : RecordHead) →
    Keeps t (prepend_known first before) → Keeps (prepend_known first before) (prepend_known ahead after) → IsAtEnd after →
    16 ≤ length first → record_in head first ≡ Some r → 16 + r.captured ≤ longest → length ahead < 16 + r.captured → IfSome t (Fault head place CutOff)
next-cut_off None before after first ahead head place r k l end enough e within few = tt
next-cut_off (Some x) None after first ahead head place r k l end enough e within few = absurd k
next-cut_off (Some x) (Some y) None first ahead head place r k l end enough e within few = absurd l
next-cut_off (Some x) (Some y) (Some z) first ahead head place r k l end enough e within few =
    λ _.
    let n : length x ≡ length first + length y = ap length (sym k) ∙ length-append first y in
    let m : length x ≡ length ahead + length z = ap length (sym k) ∙ ap length (sym l) ∙ length-append ahead z in
    let none : length z ≡ 0 = ap length end in
    fault-is head place CutOff x (omega arith) (record-cut head place x r (omega arith) (same_record head x first y r k enough e) within (omega arith))

-- a record that was read, with this frame and these octets behind it
abbrev read_record : PcapHead → ℕ → RecordHead → List ℕ → ℕ → List ℕ → Next
read_record head place r frame after rest =
    Ok (Some (record { link_type = head.link_type; nanos = r.nanos; original = r.original; frame = frame; place = place }, standing (Pcap head) after rest))

frame-ahead : (ahead z : List ℕ) (n : ℕ) → 16 + n ≤ length ahead → take n (drop 16 (ahead ++ z)) ≡ take n (drop 16 ahead)
frame-ahead ahead z n enough =
    ap (take n) (drop-append-le 16 ahead z (omega arith)) ∙ take-append-le n (drop 16 ahead) z (omega (arith, length-drop 16 ahead))

frame-length : (ahead : List ℕ) (n : ℕ) → 16 + n ≤ length ahead → 16 + length (take n (drop 16 ahead)) ≡ min (16 + n) (length ahead)
frame-length ahead n enough = omega (arith, length-take n (drop 16 ahead), length-drop 16 ahead)

pub next-record : (t before after : Option (List ℕ)) (first ahead : List ℕ) (head : PcapHead) (place at : ℕ) (r : RecordHead) → at ≡ place →
    Keeps t (prepend_known first before) → Keeps (prepend_known first before) (prepend_known ahead after) →
    16 ≤ length first → record_in head first ≡ Some r → 16 + r.captured ≤ longest → 16 + r.captured ≤ length ahead →
    IfSome t (λ text. (rest : List ℕ) × (prepend_known (drop (16 + r.captured) ahead) after ≡ Some rest)
    × (read_record head place r (take r.captured (drop 16 ahead)) (counted at (min (16 + r.captured) (length ahead))) rest ≡ next_in_pcap head place text))
next-record None before after first ahead head place at r same k l enough e within whole = tt
next-record (Some x) None after first ahead head place at r same k l enough e within whole = absurd k
next-record (Some x) (Some y) None first ahead head place at r same k l enough e within whole = absurd l
next-record (Some x) (Some y) (Some z) first ahead head place at r same k l enough e within whole =
    let n : length x ≡ length first + length y = ap length (sym k) ∙ length-append first y in
    let m : length x ≡ length ahead + length z = ap length (sym k) ∙ ap length (sym l) ∙ length-append ahead z in
    let is : x ≡ ahead ++ z = sym k ∙ sym l in
    let all = 16 + r.captured in
    let frame = take r.captured (drop 16 ahead) in
    let f : take r.captured (drop 16 x) ≡ frame = ap (λ t. take r.captured (drop 16 t)) is ∙ frame-ahead ahead z r.captured whole in
    let d : drop all x ≡ drop all ahead ++ z = ap (drop all) is ∙ drop-append-le all ahead z whole in
    let p : 16 + length (take r.captured (drop 16 x)) ≡ min all (length ahead) = ap (λ t. 16 + length t) f ∙ frame-length ahead r.captured whole in
    let got = nonempty head place x (omega arith) ∙ ap (placed head place) (record-whole head place x r (omega arith) (same_record head x first y r k enough e) within (omega arith)) in (
      drop all ahead ++ z,
      refl,
      sym (got
          ∙ ap (λ q. read_record head place r (take r.captured (drop 16 x)) (counted place (16 + length (take r.captured (drop 16 x)))) q) d
          ∙ ap (λ q. read_record head place r (take r.captured (drop 16 x)) (counted place q) (drop all ahead ++ z)) p
          ∙ ap (λ q. read_record head place r q (counted place (min all (length ahead))) (drop all ahead ++ z)) f
          ∙ ap (λ q. read_record head place r frame (counted q (min all (length ahead))) (drop all ahead ++ z)) (sym same)),
    )

-- in a capture of pcapng it is known what follows, and no more is said
pub known-ahead : (old new : List ℕ) (before after : Option (List ℕ)) → after ≡ before →
    IfSome (prepend_known old before) (λ text. (rest : List ℕ) × (prepend_known new after ≡ Some rest) × Unit {0})
known-ahead old new None after same = tt
known-ahead old new (Some x) after same = (new ++ x, ap (prepend_known new) same, tt)

-- ---- the first octets of a capture

long-length : (order : ByteOrder) (xs : List ℕ) → is_number (long_at order xs) ≡ true → 4 ≤ length xs
unfolding long_at
long-length order [] h = absurd (cc)
long-length order (a ∷ []) h = absurd (cc)
long-length order (a ∷ b ∷ []) h = absurd (cc)
long-length order (a ∷ b ∷ c ∷ []) h = absurd (cc)
long-length order (a ∷ b ∷ c ∷ d ∷ rest) h = omega arith

pub begins-section : (t rest : Option (List ℕ)) (ahead : List ℕ) → Keeps t (prepend_known ahead rest) → is_section ahead ≡ true →
    IfSome t (λ text. (is_section text ≡ true) × (prepend_known ahead rest ≡ Some text))
begins-section None rest ahead k h = tt
begins-section (Some x) None ahead k h = absurd k
begins-section (Some x) (Some y) ahead k h = (ap is_section (sym k) ∙ section-front ahead y (long-length Big ahead h) ∙ h, ap (λ l. Some l) k)

-- the head isn't good
abbrev NoHead : List ℕ → Type 0
NoHead text = NotACapture ≢ Read → is_section text ≡ false → head_at text ≡ Err NotACapture

no_head : (text : List ℕ) → length text < 24 → head_at text ≡ Err NotACapture
unfolding head_at
no_head text few = rw (lt-leb 24 (length text) few) refl

bad_head : (text : List ℕ) → 24 ≤ length text → file_in text ≡ None → head_at text ≡ Err NotACapture
unfolding head_at
bad_head text enough e = rw (le-leb 24 (length text) enough, e) refl

good_head : (text : List ℕ) (head : PcapHead) → 24 ≤ length text → file_in text ≡ Some head → head_at text ≡ Ok head
unfolding head_at
good_head text head enough e = rw (le-leb 24 (length text) enough, e) refl

pub begins-short : (t rest : Option (List ℕ)) (ahead : List ℕ) → Keeps t (prepend_known ahead rest) → IsAtEnd rest → length ahead < 24 → IfSome t NoHead
begins-short t rest ahead k end few = whole_text t rest ahead NoHead k end (λ _ _. no_head ahead few)

pub begins-bad : (t rest : Option (List ℕ)) (ahead : List ℕ) → Keeps t (prepend_known ahead rest) → 24 ≤ length ahead → file_in ahead ≡ None → IfSome t NoHead
begins-bad t rest ahead k enough e =
    front_text t rest ahead NoHead k (λ ys _ _.
    let more : length (ahead ++ ys) ≡ length ahead + length ys = length-append ahead ys in
    bad_head (ahead ++ ys) (omega arith) (file-front ahead ys enough ∙ e))

pub begins-good : (t rest left : Option (List ℕ)) (ahead behind : List ℕ) (head : PcapHead) (place after : ℕ) → Keeps t (prepend_known ahead rest) → 24 ≤ length ahead → file_in ahead ≡ Some head →
    after ≡ counted place 24 → behind ≡ drop 24 ahead → left ≡ rest →
    IfSome t (λ text. (head_at text ≡ Ok head) × (after ≡ counted place 24) × (prepend_known behind left ≡ Some (drop 24 text)))
begins-good None rest left ahead behind head place after k enough e p q r = tt
begins-good (Some x) None left ahead behind head place after k enough e p q r = absurd k
begins-good (Some x) (Some y) left ahead behind head place after k enough e p q r =
    let n : length x ≡ length ahead + length y = ap length (sym k) ∙ length-append ahead y in (
      good_head x head (omega arith) (ap file_in (sym k) ∙ file-front ahead y enough ∙ e),
      p,
      ap (prepend_known behind) r ∙ ap (λ l. Some (l ++ y)) q ∙ ap (λ l. Some l) (sym (ap (drop 24) (sym k) ∙ drop-append-le 24 ahead y enough)),
    )

-- ---- a frame that lies ahead

abbrev frame_ahead : PcapHead → List ℕ → Option Ahead
frame_ahead head text = first_of (record_at head 0 text)

-- a fault, unless the front has 16 octets
short_or : (head : PcapHead) (text : List ℕ) → (16 ≤ length text → frame_ahead head text ≡ None) → frame_ahead head text ≡ None
short_or head text whole = by (nat_le 16 (length text)) refl
  where
    by : (b : Bool) → nat_le 16 (length text) ≡ b → frame_ahead head text ≡ None
    by true e = whole (grind (arith, nat_tests))
    by false e = ap first_of (record-short head 0 text (grind (arith, nat_tests)))

pub ahead-none : (head : PcapHead) (text : List ℕ) → record_in head text ≡ None → first_of (record_at head 0 text) ≡ None
ahead-none head text e = short_or head text (λ enough. ap first_of (record-none head 0 text enough e))

-- too long, or cut off
pub ahead-not : (head : PcapHead) (text : List ℕ) (r : RecordHead) → record_in head text ≡ Some r →
    (longest < 16 + r.captured) ⊎ (length text < 16 + r.captured) → first_of (record_at head 0 text) ≡ None
ahead-not head text r e (inl long) = short_or head text (λ enough. ap first_of (record-long head 0 text r enough e long))
ahead-not head text r e (inr few) = short_or head text (λ enough. by (nat_le (16 + r.captured) longest) refl enough)
  where
    by : (b : Bool) → nat_le (16 + r.captured) longest ≡ b → 16 ≤ length text → frame_ahead head text ≡ None
    by true within enough = ap first_of (record-cut head 0 text r enough e (grind (arith, nat_tests)) few)
    by false long enough = ap first_of (record-long head 0 text r enough e (grind (arith, nat_tests)))

pub ahead-whole : (head : PcapHead) (text : List ℕ) (r : RecordHead) (frame : List ℕ) → record_in head text ≡ Some r → 16 + r.captured ≤ longest →
    16 + r.captured ≤ length text → frame ≡ take r.captured (drop 16 text) →
    Some (record { link_type = head.link_type; original = r.original; frame = frame; all = 16 + r.captured }) ≡ first_of (record_at head 0 text)
ahead-whole head text r frame e within whole same =
    let rest : r.captured ≤ length (drop 16 text) = omega (arith, length-drop 16 text) in
    let size : length (take r.captured (drop 16 text)) ≡ r.captured = length-take-le r.captured (drop 16 text) rest in
    let enough : 16 ≤ length text = omega arith in
    rw (same) (rw (record-whole head 0 text r enough e within whole) (rw (size) refl))

-- where nothing lies ahead, no frame does
pub ahead-nothing : (kind : Kind) (text : List ℕ) → length text ≡ 0 → IsComing kind text None
ahead-nothing Unknown text empty = refl
ahead-nothing (Pcap head) text empty = sym (ap first_of (record-short head 0 text (omega (arith, empty))))
ahead-nothing (Pcapng order) text empty = tt
