-- Reading a saved context from left to right, up to the first fault. Words: saved_at, restored.
use Rattle.std.specs.Prelude.{ℕ, ◌<◌, ◌+◌, ◌*◌, ◌^◌, List, [], ◌∷◌, length, Bool, true, false, nat_le, nat_lt, ◌==◌, ◌&&◌, if◌then◌else◌, Option, Some, None, Result, Ok, Err}
use Rattle.rohc_bits.specs.Reading.{◌>>=◌, next_octet, next_word}
use Rattle.rohc_checks.specs.Division.{bits}
use Rattle.rohc_header.specs.declared.fields.Static.{Static}
use Rattle.rohc_header.specs.declared.fields.Dynamic.{Dynamic}
use Rattle.rohc_context.specs.declared.context_fault.ContextFault.{ContextFault}
use Rattle.rohc_context.specs.declared.context_fault.ContextFault.TheVariants.{Short, Bad, Long}
use Rattle.rohc_context.specs.Record.{Reference, State, Plain, NoContext, StaticContext, FullContext, Record}

-- a value and the octets after it, or the first fault
abbrev pub Read : Type 0 → Type 0
Read A = Result (A × List ℕ) ContextFault

-- the value, if the test holds; else what stands at the start of these octets is bad
abbrev pub given : {A : Type 0} → Bool → List ℕ → A → Result A ContextFault
given true here x = Ok x
given false here x = Err (Bad (length here))

abbrev pub octet_at : List ℕ → Read ℕ
octet_at text = next_octet Short text

abbrev pub word_at : List ℕ → Read ℕ
word_at text = next_word Short text

unfoldable pub quad_at : List ℕ → Read ℕ
quad_at text = do
  (high, text) ← word_at text
  (low, text) ← word_at text
  Ok (high * 65536 + low, text)

unfoldable pub long_at : List ℕ → Read ℕ
long_at text = do
  (high, text) ← quad_at text
  (low, text) ← quad_at text
  Ok (high * 2 ^ 32 + low, text)

-- a flag is 00 or 01
unfoldable pub flag_at : List ℕ → Read Bool
flag_at text = do
  (octet, after) ← octet_at text
  given (nat_lt octet 2) text (octet == 1, after)

-- a window has at most 64 outcomes, and no bit above them is set
unfoldable pub window_at : List ℕ → Read (List Bool)
window_at text = do
  (count, after) ← octet_at text
  count ← given (nat_le count 64) text count
  (value, rest) ← long_at after
  given (nat_lt value (2 ^ count)) after (bits count value, rest)

unfoldable pub address_at : List ℕ → Read (List ℕ)
address_at text = do
  (a, text) ← octet_at text
  (b, text) ← octet_at text
  (c, text) ← octet_at text
  (d, text) ← octet_at text
  Ok (a ∷ b ∷ c ∷ d ∷ [], text)

unfoldable pub static_at : List ℕ → Read Static
static_at text = do
  (source, text) ← address_at text
  (destination, text) ← address_at text
  (source_port, text) ← word_at text
  (destination_port, text) ← word_at text
  (ssrc, text) ← quad_at text
  Ok (
    record {
      source = source;
      destination = destination;
      source_port = source_port;
      destination_port = destination_port;
      ssrc = ssrc;
    },
    text,
  )

-- the numbers are in their ranges
pub record HasNumbers (m : Dynamic) : Type 0 where
  pub tos : m.tos < 256
  pub ttl : m.ttl < 256
  pub id : m.id < 65536
  pub udp_sum : m.udp_sum < 65536
  pub sn : m.sn < 65536
  pub ts : m.ts < 4294967296

-- the numbers in which a reference and the previous one may differ, beside other fields
unfoldable pub numbers_at : Dynamic → List ℕ → Read Dynamic
numbers_at m text = do
  (tos, text) ← octet_at text
  (ttl, text) ← octet_at text
  (id, text) ← word_at text
  (udp_sum, text) ← word_at text
  (sn, text) ← word_at text
  (ts, text) ← quad_at text
  Ok (record m { tos = tos; ttl = ttl; id = id; udp_sum = udp_sum; sn = sn; ts = ts }, text)

-- a payload type is below 128
unfoldable pub payload_type_at : List ℕ → Read ℕ
payload_type_at text = do
  (payload_type, after) ← octet_at text
  given (nat_lt payload_type 128) text (payload_type, after)

unfoldable pub marks_at : Dynamic → List ℕ → Read Dynamic
marks_at m text = do
  (payload_type, text) ← payload_type_at text
  (df, text) ← flag_at text
  (padding, text) ← flag_at text
  (extension, text) ← flag_at text
  Ok (record m { payload_type = payload_type; df = df; padding = padding; extension = extension }, text)

unfoldable pub fields_at : Dynamic → List ℕ → Read Dynamic
fields_at m text = do
  (m, text) ← numbers_at m text
  marks_at m text

-- A stride is from 1 to 536,870,911. Where there is none, its octets are zero.
abbrev pub stride_by : Bool → (here after : List ℕ) → ℕ → Read (Option ℕ)
stride_by true here after n = given (nat_le 1 n && nat_le n 536870911) here (Some n, after)
stride_by false here after n = given (n == 0) here (None, after)

unfoldable pub stride_at : List ℕ → Read (Option ℕ)
stride_at text = do
  (has, text) ← flag_at text
  (n, after) ← quad_at text
  stride_by has text after n

abbrev pub blank : Dynamic
blank = record {
  tos = 0;
  ttl = 0;
  id = 0;
  udp_sum = 0;
  sn = 0;
  ts = 0;
  payload_type = 0;
  df = false;
  padding = false;
  extension = false;
  marker = false;
  rnd = false;
  nbo = false;
  stride = None;
}

unfoldable pub shared_at : Dynamic → List ℕ → Read Reference
shared_at m text = do
  (rnd, text) ← flag_at text
  (nbo, text) ← flag_at text
  (carries_sum, text) ← flag_at text
  (stride, text) ← stride_at text
  Ok (record { moving = record m { rnd = rnd; nbo = nbo; stride = stride }; carries_sum = carries_sum }, text)

unfoldable pub reference_at : List ℕ → Read Reference
reference_at text = do
  (m, text) ← fields_at blank text
  shared_at m text

-- a reference, if the flag before it says that there is one
unfoldable pub held_by : Bool → List ℕ → Read (Option Reference)
held_by false text = Ok (None, text)
held_by true text = do
  (r, text) ← reference_at text
  Ok (Some r, text)

unfoldable pub held_at : List ℕ → Read (Option Reference)
held_at text = do
  (has, text) ← flag_at text
  held_by has text

-- the previous reference beside the reference, in the same way
unfoldable pub previous_by : Bool → Reference → List ℕ → Read (Option Reference)
previous_by false r text = Ok (None, text)
previous_by true r text = do
  (m, text) ← fields_at r.moving text
  Ok (Some (record { moving = m; carries_sum = r.carries_sum }), text)

unfoldable pub previous_at : Reference → List ℕ → Read (Option Reference)
previous_at r text = do
  (has, text) ← flag_at text
  previous_by has r text

unfoldable pub no_context_at : List ℕ → Read State
no_context_at text = do
  (nacked, text) ← long_at text
  Ok (NoContext nacked, text)

unfoldable pub static_context_at : List ℕ → Read State
static_context_at text = do
  (fixed, text) ← static_at text
  (reference, text) ← held_at text
  (first, text) ← window_at text
  (second, text) ← window_at text
  Ok (StaticContext fixed reference first second, text)

unfoldable pub full_context_at : List ℕ → Read State
full_context_at text = do
  (fixed, text) ← static_at text
  (reference, text) ← reference_at text
  (previous, text) ← previous_at reference text
  (window, text) ← window_at text
  Ok (FullContext fixed reference previous window, text)

-- the state of this number
abbrev pub state_by : ℕ → (here after : List ℕ) → Read State
state_by tag here after =
    if tag == 0 then Ok (Plain, after)
    else if tag == 1 then no_context_at after
    else if tag == 2 then static_context_at after
    else if tag == 3 then full_context_at after
    else Err (Bad (length here))

unfoldable pub state_at : List ℕ → Read State
state_at text = do
  (tag, after) ← octet_at text
  state_by tag text after

unfoldable pub saved_at : List ℕ → Read Record
saved_at text = do
  (accepted, text) ← long_at text
  (state, text) ← state_at text
  Ok (record { accepted = accepted; state = state }, text)

-- what was read, if nothing is left
abbrev pub ended : {A : Type 0} → A → List ℕ → Result A ContextFault
ended x [] = Ok x
ended x (octet ∷ text) = Err (Long (length (octet ∷ text)))

-- the context that octets spell, or their first fault
unfoldable pub restored : List ℕ → Result Record ContextFault
restored text = do
  (r, text) ← saved_at text
  ended r text
