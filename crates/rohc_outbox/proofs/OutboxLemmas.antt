-- Datagrams and the heads that they are made of.
use Rattle.std.proofs.Common.{◌≡◌, refl, sym, ap, subst, ⊎_elim, ◌∙◌, ℕ, zero, suc, ◌+◌, ◌-◌, ◌<◌, ◌≤◌, Bool, true, false, cond, List, [], ◌∷◌, ◌++◌, length, take, drop, get_or, eq-eqb, ne_eqb, eqb-true, set, length-set, length-drop, length-take-le, length-append, take_all, arith}
use Rattle.std.specs.Prelude.{◌==◌, Any, slice_get, Some, min, replicate}
use Rattle.std.proofs.lemmas.Bool.{cases_eq}
use Rattle.std.proofs.lemmas.List.{get_or-replicate, length-replicate, get_or-set_same, get_or-set_other, take-append-le, drop-append-le}
use Rattle.std.proofs.lemmas.List.Sums.{sum_by-cons, sum_by_push}
use Rattle.rohc_outbox.specs.Outbox.{Datagram, datagram, datagrams, octets_of, lengths_of, count_to, IsOutbox}
use Rattle.circular_buffer.specs.Buffer.{Buffer, buffer, keep_last}
use Rattle.rohc_outbox.specs.declared.outbox.TheConstants.{MOST, PORTS, ROOM}
use Rattle.rohc_outbox.specs.declared.outbox.Waiting.{Waiting}

-- whether a head goes to the port, as a number
abbrev pub one_to : ℕ → Waiting → ℕ
one_to port head = cond (head.to == port) 1 0

pub one_to-same : (port : ℕ) (head : Waiting) → head.to ≡ port → one_to port head ≡ 1
one_to-same port head e = ap (λ (b : Bool). cond b 1 0) (eq-eqb head.to port e)

one_to-other : (port : ℕ) (head : Waiting) → (head.to ≡ port → ⊥) → one_to port head ≡ 0
one_to-other port head e = ap (λ (b : Bool). cond b 1 0) (ne_eqb head.to port e)

pub lengths_of-cons : (head : Waiting) (heads : List Waiting) →
    lengths_of (head ∷ heads) ≡ head.length + lengths_of heads
lengths_of-cons head heads = sum_by-cons (λ each. each.length) head heads

pub count_to-cons : (port : ℕ) (head : Waiting) (heads : List Waiting) →
    count_to port (head ∷ heads) ≡ one_to port head + count_to port heads
count_to-cons port head heads = sum_by-cons (λ each. cond (each.to == port) 1 0) head heads

pub length-datagrams : (heads : List Waiting) (octets : List ℕ) →
    length (datagrams heads octets) ≡ length heads
length-datagrams [] octets = refl
length-datagrams (head ∷ heads) octets = ap suc (length-datagrams heads (drop head.length octets))

-- each octet is one of some datagram
pub octets_of-datagrams : (heads : List Waiting) (octets : List ℕ) → length octets ≡ lengths_of heads →
    octets_of (datagrams heads octets) ≡ length octets
octets_of-datagrams [] octets e = sym e
octets_of-datagrams (head ∷ heads) octets e =
    let sum = lengths_of-cons head heads in
    let less = length-drop head.length octets in
    let taken = length-take-le head.length octets (omega arith) in
    let rest = octets_of-datagrams heads (drop head.length octets) (omega arith) in
    let first = datagram head.from head.to (take head.length octets) in
    let others = datagrams heads (drop head.length octets) in
    omega (arith, sum_by-cons (λ each. length each.octets) first others)

-- one more head, and its octets after the others, add one more datagram
pub datagrams-push : (heads : List Waiting) (octets : List ℕ) (last : Waiting) (more : List ℕ) →
    length octets ≡ lengths_of heads → length more ≡ last.length →
    datagrams (heads ++ last ∷ []) (octets ++ more) ≡
    datagrams heads octets ++ datagram last.from last.to more ∷ []
datagrams-push [] [] last more e m =
    ap (λ each. datagram last.from last.to each ∷ []) (take_all last.length more (omega arith))
datagrams-push [] (octet ∷ octets) last more e m = absurd (omega arith)
datagrams-push (head ∷ heads) octets last more e m =
    let sum = lengths_of-cons head heads in
    let within : head.length ≤ length octets = omega arith in
    let less = length-drop head.length octets in
    let rest = datagrams-push heads (drop head.length octets) last more (omega arith) m in
    let taken = take-append-le head.length octets more within in
    let left = drop-append-le head.length octets more within in
    cc

-- if the first head or some datagram of the others goes to the port, then some datagram does
any_from_head : (port : ℕ) (head : Waiting) (heads : List Waiting) (octets : List ℕ) (here : Bool) →
    (head.to == port) ≡ here → 0 < cond here 1 0 + count_to port heads →
    (0 < count_to port heads →
    Any (λ waiting. waiting.to ≡ port) (datagrams heads (drop head.length octets))) →
    Any (λ waiting. waiting.to ≡ port) (datagrams (head ∷ heads) octets)
any_from_head port head heads octets true e some others =
    (0, datagram head.from head.to (take head.length octets), omega arith, refl, eqb-true head.to port e)
any_from_head port head heads octets false e some others =
    let (k, x, within, at, to) = others (omega arith) in (suc k, x, omega arith, at, to)

-- if some head goes to the port, then so does some datagram
pub any_from_count : (port : ℕ) (heads : List Waiting) (octets : List ℕ) → 0 < count_to port heads →
    Any (λ waiting. waiting.to ≡ port) (datagrams heads octets)
any_from_count port [] octets some = absurd (omega arith)
any_from_count port (head ∷ heads) octets some =
    any_from_head port head heads octets (head.to == port) refl (omega (arith, count_to-cons port head heads))
    (any_from_count port heads (drop head.length octets))

-- if some datagram goes to the port, then so does some head
pub count_from_any : (port : ℕ) (heads : List Waiting) (octets : List ℕ) (k : ℕ) (waiting : Datagram) →
    k < length (datagrams heads octets) → get_or (datagrams heads octets) k waiting ≡ waiting →
    waiting.to ≡ port → 0 < count_to port heads
count_from_any port [] octets k waiting within at to = absurd (omega arith)
count_from_any port (head ∷ heads) octets zero waiting within at to =
    let same : head.to ≡ waiting.to = ap (λ (each : Datagram). each.to) at in
    omega (arith, count_to-cons port head heads, one_to-same port head (same ∙ to))
count_from_any port (head ∷ heads) octets (suc k) waiting within at to =
    let rest = count_from_any port heads (drop head.length octets) k waiting (omega arith) at to in
    omega (arith, count_to-cons port head heads)

-- a number that is written at one index of a list is read there, and no other changes
get_or-set : (counts : List ℕ) (at port now wanted : ℕ) → at < length counts →
    (at ≡ port → now ≡ wanted) → ((at ≡ port → ⊥) → get_or counts port 0 ≡ wanted) →
    get_or (set counts at now) port 0 ≡ wanted
get_or-set counts at port now wanted within here there = ⊎_elim
    (λ (same : at ≡ port). subst (λ (p : ℕ). get_or (set counts at now) p 0 ≡ wanted) same
    (get_or-set_same counts at now 0 within ∙ here same))
    (λ (other : at ≡ port → ⊥). get_or-set_other counts at port now 0 (λ e. other (sym e)) ∙ there other)
    (cases_eq at port)

module _ (heads : Buffer Waiting) (octets : Buffer ℕ) (counts : List ℕ) (is : IsOutbox heads octets counts) where
  -- an outbox with one more datagram
  pub IsOutbox-push : (last : Waiting) (more : List ℕ) → length heads.items < MOST →
      length octets.items + length more ≤ ROOM → length more ≡ last.length → last.to < PORTS →
      IsOutbox (buffer (heads.items ++ last ∷ []) heads.capacity) (buffer (octets.items ++ more) octets.capacity)
      (set counts last.to (get_or counts last.to 0 + 1))
  IsOutbox-push last more few fits long port_is =
      let all = heads.items ++ last ∷ [] in
      let now = get_or counts last.to 0 + 1 in
      let lengths = sum_by_push (λ (each : Waiting). each.length) heads.items last in
      record {
        most = is.most;
        room = is.room;
        few = omega (arith, length-append heads.items (last ∷ []));
        fits = omega (arith, length-append octets.items more);
        lengths = length-append octets.items more ∙ omega arith ∙ sym lengths;
        ports = length-set counts last.to now ∙ is.ports;
        counted = λ port below.
            let more = sum_by_push (λ (each : Waiting). one_to port each) heads.items last in
            let was = is.counted port below in
            get_or-set counts last.to port now (count_to port all) (omega (arith, is.ports))
            (λ same. omega (arith, more, was, one_to-same port last same, ap (λ (p : ℕ). get_or counts p 0) same))
            (λ other. omega (arith, more, was, one_to-other port last other));
      }

  -- an outbox without its first datagram
  pub IsOutbox-pop : (first : Waiting) (rest : List Waiting) → heads.items ≡ first ∷ rest → first.to < PORTS →
      IsOutbox (buffer rest heads.capacity) (buffer (drop first.length octets.items) octets.capacity)
      (set counts first.to (get_or counts first.to 0 - 1))
  IsOutbox-pop first rest e port_is =
      let now = get_or counts first.to 0 - 1 in
      let lengths = ap lengths_of e ∙ lengths_of-cons first rest in
      record {
        most = is.most;
        room = is.room;
        few = omega (arith, ap length e);
        fits = omega (arith, length-drop first.length octets.items);
        lengths = omega (arith, length-drop first.length octets.items, lengths);
        ports = length-set counts first.to now ∙ is.ports;
        counted = λ port below.
            let fewer = ap (count_to port) e ∙ count_to-cons port first rest in
            let was = is.counted port below in
            get_or-set counts first.to port now (count_to port rest) (omega (arith, is.ports))
            (λ same. omega (arith, fewer, was, one_to-same port first same, ap (λ (p : ℕ). get_or counts p 0) same))
            (λ other. omega (arith, fewer, was, one_to-other port first other));
      }

  -- the octets of the first datagram are there
  pub first-fits : (first : Waiting) (rest : List Waiting) → heads.items ≡ first ∷ rest →
      first.length ≤ length octets.items
  first-fits first rest e = omega (arith, is.lengths, ap lengths_of e, lengths_of-cons first rest)

  -- the first datagram's port is counted
  pub first-counted : (first : Waiting) (rest : List Waiting) → heads.items ≡ first ∷ rest → first.to < PORTS →
      1 ≤ get_or counts first.to 0
  first-counted first rest e port_is =
      let one = one_to-same first.to first refl in
      omega (arith, is.counted first.to port_is, ap (count_to first.to) e, count_to-cons first.to first rest, one)

-- a buffer with room for one more head keeps all heads
pub heads-push : (heads : Buffer Waiting) (last : Waiting) → length heads.items < heads.capacity →
    buffer (keep_last heads.capacity (heads.items ++ last ∷ [])) heads.capacity ≡
    buffer (heads.items ++ last ∷ []) heads.capacity
heads-push heads last few =
    let all = heads.items ++ last ∷ [] in
    let none : length all - heads.capacity ≡ 0 = omega (arith, length-append heads.items (last ∷ [])) in
    ap (λ (n : ℕ). buffer (drop n all) heads.capacity) none

-- a buffer with room for some more octets takes all of them
pub octets-push : (octets : Buffer ℕ) (more : List ℕ) (taken : ℕ) →
    taken ≡ min (length more) (octets.capacity - length octets.items) →
    length octets.items + length more ≤ octets.capacity →
    buffer (octets.items ++ take taken more) octets.capacity ≡ buffer (octets.items ++ more) octets.capacity
octets-push octets more taken e fits =
    ap (λ (xs : List ℕ). buffer (octets.items ++ xs) octets.capacity) (take_all taken more (omega arith))

-- the first of some heads, and the others
pub heads-split : (heads : List Waiting) (first : Waiting) → slice_get heads 0 ≡ Some first →
    heads ≡ first ∷ drop 1 heads
heads-split [] first e = absurd (cc)
heads-split (head ∷ heads) first e = let same : head ≡ first = cc in ap (λ (x : Waiting). x ∷ heads) same

-- what is read in a list of zeros
pub get_or-zeros : (counts : List ℕ) (n port : ℕ) → counts ≡ replicate n 0 → port < n →
    get_or counts port 0 ≡ 0
get_or-zeros counts n port e below =
    ap (λ (xs : List ℕ). get_or xs port 0) e ∙ get_or-replicate n port 0 0 below

pub length-zeros : (counts : List ℕ) (n : ℕ) → counts ≡ replicate n 0 → length counts ≡ n
length-zeros counts n e = ap length e ∙ length-replicate n 0
