-- No answer line has a newline within, so the lines of what was written are the answer lines.
use Rattle.std.proofs.Common.{◌≡◌, ℕ, zero, suc, ◌/◌, ◌%◌, ◌<◌, ◌^◌, List, [], ◌∷◌, ◌++◌, map, false, ◌==◌, Option, Some, None, codes, slice_index, arith, ne_eqb, refl, ◌∙◌, ap}
use Rattle.std.specs.List.{AllByRecursion}
use Rattle.std.specs.Fmt.{decimal}
use Rattle.hex.specs.Hex.{encode_with, encode_lower, lower_digits}
use Rattle.rohc_context.specs.Refusal.{name_of}
use Rattle.rohc_context.specs.declared.refusal.Refusal.{Refusal}
use Rattle.rohc_context.specs.declared.reply.Outcome.{Outcome}
use Rattle.rohc_context.specs.declared.reply.Outcome.TheVariants as outcomes
use Rattle.rohc_context.specs.Response.{Response, Packet}
use Rattle.rohc_replay.specs.AnswerLines.{pair_text, relay_line, link_refusal, packet_lines, stored_lines, feedback_lines, refused_lines, response_lines}
use Rattle.rohc_replay.specs.Lines.{has_newline}
use Rattle.rohc_replay.specs.Script.{hex_text}
use Rattle.rohc_replay.proofs.NameLemmas.{name_one_line}
use Rattle.rohc_replay.proofs.PairLemmas.{digits_first}
use Rattle.rohc_replay.proofs.SplitLemmas.{both_false, neither, has_newline-append}

-- a digit of a table without a newline is none
digit_one_line : (t : List ℕ) (i : ℕ) → has_newline t ≡ false → (slice_index t i == 10) ≡ false
digit_one_line [] i none = refl
digit_one_line (d ∷ t) zero none = (neither (d == 10) (has_newline t) none).0
digit_one_line (d ∷ t) (suc i) none = digit_one_line t i (neither (d == 10) (has_newline t) none).1

encoded_one_line : (octets : List ℕ) → has_newline (encode_lower octets) ≡ false
unfolding encode_with
encoded_one_line [] = refl
encoded_one_line (o ∷ os) = both_false _ _ (digit_one_line lower_digits (o / 16) refl) (both_false _ _ (digit_one_line lower_digits (o % 16) refl) (encoded_one_line os))

pub hex_one_line : (octets : List ℕ) → has_newline (hex_text octets) ≡ false
hex_one_line [] = refl
hex_one_line (o ∷ os) = encoded_one_line (o ∷ os)

pub decimal_one_line : (n : ℕ) → n < 2 ^ 64 → has_newline (decimal n) ≡ false
decimal_one_line n fits =
    let first = digits_first n fits in
    let digit : (first.0 == 10) ≡ false = ne_eqb first.0 10 (λ e. omega (arith, first.3)) in
    ap has_newline first.2 ∙ both_false _ _ digit first.4

append_one_line : (a b : List ℕ) → has_newline a ≡ false → has_newline b ≡ false → has_newline (a ++ b) ≡ false
append_one_line a b one two = has_newline-append a b ∙ both_false _ _ one two

pub pair_one_line : (l c : ℕ) → l < 2 ^ 16 → c < 2 ^ 16 → has_newline (pair_text l c) ≡ false
pair_one_line l c lf cf =
    append_one_line ((decimal l ++ codes " ") ++ decimal c) (codes " ") (append_one_line (decimal l ++ codes " ") (decimal c) (append_one_line (decimal l) (codes " ") (decimal_one_line l (omega arith)) refl) (decimal_one_line c (omega arith))) refl

-- lines without a newline within
abbrev pub AreWhole : List (List ℕ) → Type 0
AreWhole lines = AllByRecursion (λ line. has_newline line ≡ false) lines

pub whole_append : (a b : List (List ℕ)) → AreWhole a → AreWhole b → AreWhole (a ++ b)
whole_append [] b one two = two
whole_append (x ∷ a) b one two = (one.0, whole_append a b one.1 two)

pub relays_whole : (l : ℕ) (relayed : List (List ℕ)) → l < 2 ^ 16 → AreWhole (map (relay_line l) relayed)
relays_whole l [] lf = tt
relays_whole l (r ∷ relayed) lf =
    (append_one_line (decimal l ++ codes " - relay ") (hex_text r) (append_one_line (decimal l) (codes " - relay ") (decimal_one_line l (omega arith)) refl) (hex_one_line r), relays_whole l relayed lf)

pub refusal_whole : (l : ℕ) (refusal : Refusal) → l < 2 ^ 16 → has_newline (link_refusal l refusal) ≡ false
refusal_whole l refusal lf = append_one_line (decimal l ++ codes " - refused ") (name_of refusal) (append_one_line (decimal l) (codes " - refused ") (decimal_one_line l (omega arith)) refl) (name_one_line refusal)

module _ (l c : ℕ) (lf : l < 2 ^ 16) (cf : c < 2 ^ 16) where
  three_one_line : (a b : List ℕ) → has_newline a ≡ false → has_newline b ≡ false → has_newline ((pair_text l c ++ a) ++ b) ≡ false
  three_one_line a b one two = append_one_line (pair_text l c ++ a) b (append_one_line (pair_text l c) a (pair_one_line l c lf cf) one) two

  packet_whole : (p : Option Packet) → AreWhole (packet_lines l c p)
  packet_whole None = tt
  packet_whole (Some p) = (three_one_line (codes "ip ") (hex_text (p.head ++ p.payload)) refl (hex_one_line (p.head ++ p.payload)), tt)

  stored_whole : (o : Outcome) → AreWhole (stored_lines l c o)
  stored_whole outcomes.Stored = (append_one_line (pair_text l c) (codes "stored") (pair_one_line l c lf cf) refl, tt)
  stored_whole outcomes.Delivered = tt
  stored_whole (outcomes.Refused r) = tt

  feedback_whole : (f : Option (List ℕ)) → AreWhole (feedback_lines l c f)
  feedback_whole None = tt
  feedback_whole (Some element) = (three_one_line (codes "feedback ") (hex_text element) refl (hex_one_line element), tt)

  refused_whole : (o : Outcome) → AreWhole (refused_lines l c o)
  refused_whole (outcomes.Refused r) = (three_one_line (codes "refused ") (name_of r) refl (name_one_line r), tt)
  refused_whole outcomes.Delivered = tt
  refused_whole outcomes.Stored = tt

  pub reply_whole : (r : Response) → AreWhole (response_lines l c r)
  reply_whole r =
      whole_append (packet_lines l c r.packet ++ stored_lines l c r.outcome ++ feedback_lines l c r.feedback) (refused_lines l c r.outcome)
      (whole_append (packet_lines l c r.packet ++ stored_lines l c r.outcome) (feedback_lines l c r.feedback)
      (whole_append (packet_lines l c r.packet) (stored_lines l c r.outcome) (packet_whole r.packet) (stored_whole r.outcome))
      (feedback_whole r.feedback))
      (refused_whole r.outcome)
