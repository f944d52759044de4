-- Which lines of an answer are a pair's own.
use Rattle.std.proofs.Common.{◌≡◌, ◌≢◌, ℕ, ◌<◌, ◌^◌, List, [], ◌∷◌, ◌++◌, map, filter, Bool, true, false, ◌&&◌, Option, Some, None, cond, codes, append_assoc, refl, ◌∙◌, ap}
use Rattle.std.specs.Fmt.{decimal}
use Rattle.std.specs.Str.{bytes_eq}
use Rattle.rohc_context.specs.Refusal.{name_of}
use Rattle.rohc_context.specs.declared.refusal.Refusal.{Refusal}
use Rattle.rohc_context.specs.declared.refusal.Refusal.TheVariants.{NoMemory}
use Rattle.rohc_context.specs.declared.reply.Outcome.{Outcome}
use Rattle.rohc_context.specs.declared.reply.Outcome.TheVariants as outcomes
use Rattle.rohc_context.specs.Response.{Response, Packet, refused}
use Rattle.rohc_replay.specs.Script.{hex_text}
use Rattle.rohc_replay.specs.AnswerLines.{pair_text, relay_line, link_refusal, packet_lines, stored_lines, feedback_lines, refused_lines, response_lines}
use Rattle.rohc_replay.specs.Isolation.{is_pair_line, is_own_line}
use Rattle.rohc_replay.proofs.NameLemmas.{refused_otherwise}
use Rattle.rohc_replay.proofs.PairLemmas.{no_pair, begins_whole, own_pair, poor_pair}

pub filter-append : {X : Type 0} (p : X → Bool) (xs ys : List X) → filter p (xs ++ ys) ≡ filter p xs ++ filter p ys
filter-append p [] ys = refl
filter-append p (x ∷ xs) ys = elim (p x) as (λ b. cond b (x ∷ filter p (xs ++ ys)) (filter p (xs ++ ys)) ≡ cond b (x ∷ filter p xs) (filter p xs) ++ filter p ys) [
  | true ↦ ap (λ zs. x ∷ zs) (filter-append p xs ys)
  | false ↦ filter-append p xs ys
]

pub filter-left_out : {X : Type 0} (p : X → Bool) (x : X) (xs : List X) → p x ≡ false → filter p (x ∷ xs) ≡ filter p xs
filter-left_out p x xs out = rw out refl

pub filter-kept : {X : Type 0} (p : X → Bool) (x : X) (xs : List X) → p x ≡ true → filter p (x ∷ xs) ≡ x ∷ filter p xs
filter-kept p x xs keep = rw keep refl

-- relayed feedback is no pair's
pub relays_left_out : (l c k : ℕ) (relayed : List (List ℕ)) → l < 2 ^ 16 → c < 2 ^ 16 → k < 2 ^ 16 → filter (is_pair_line l c) (map (relay_line k) relayed) ≡ []
relays_left_out l c k [] lf cf kf = refl
relays_left_out l c k (feedback ∷ relayed) lf cf kf =
    let spelled : relay_line k feedback ≡ decimal k ++ 32 ∷ 45 ∷ (codes " relay " ++ hex_text feedback) = append_assoc (decimal k) (codes " - relay ") (hex_text feedback) in
    filter-left_out (is_pair_line l c) (relay_line k feedback) (map (relay_line k) relayed) (ap (is_pair_line l c) spelled ∙ no_pair l c k (codes " relay " ++ hex_text feedback) lf cf kf)
    ∙ relays_left_out l c k relayed lf cf kf

-- nor is a refusal without an identifier
pub refusal_left_out : (l c k : ℕ) (refusal : Refusal) → l < 2 ^ 16 → c < 2 ^ 16 → k < 2 ^ 16 → filter (is_pair_line l c) (link_refusal k refusal ∷ []) ≡ []
refusal_left_out l c k refusal lf cf kf =
    let spelled : link_refusal k refusal ≡ decimal k ++ 32 ∷ 45 ∷ (codes " refused " ++ name_of refusal) = append_assoc (decimal k) (codes " - refused ") (name_of refusal) in
    filter-left_out (is_pair_line l c) (link_refusal k refusal) [] (ap (is_pair_line l c) spelled ∙ no_pair l c k (codes " refused " ++ name_of refusal) lf cf kf)

module _ (l c k d : ℕ) (apart : (rest : List ℕ) → is_pair_line l c (pair_text k d ++ rest) ≡ false) where
  out_three : (a b : List ℕ) → filter (is_pair_line l c) (((pair_text k d ++ a) ++ b) ∷ []) ≡ []
  out_three a b = filter-left_out (is_pair_line l c) ((pair_text k d ++ a) ++ b) [] (ap (is_pair_line l c) (append_assoc (pair_text k d) a b) ∙ apart (a ++ b))

  out_packet : (p : Option Packet) → filter (is_pair_line l c) (packet_lines k d p) ≡ []
  out_packet None = refl
  out_packet (Some p) = out_three (codes "ip ") (hex_text (p.head ++ p.payload))

  out_stored : (o : Outcome) → filter (is_pair_line l c) (stored_lines k d o) ≡ []
  out_stored outcomes.Stored = filter-left_out (is_pair_line l c) (pair_text k d ++ codes "stored") [] (apart (codes "stored"))
  out_stored outcomes.Delivered = refl
  out_stored (outcomes.Refused r) = refl

  out_feedback : (f : Option (List ℕ)) → filter (is_pair_line l c) (feedback_lines k d f) ≡ []
  out_feedback None = refl
  out_feedback (Some element) = out_three (codes "feedback ") (hex_text element)

  out_refused : (o : Outcome) → filter (is_pair_line l c) (refused_lines k d o) ≡ []
  out_refused (outcomes.Refused r) = out_three (codes "refused ") (name_of r)
  out_refused outcomes.Delivered = refl
  out_refused outcomes.Stored = refl

  -- the lines of another pair are left out
  pub reply_left_out : (r : Response) → filter (is_pair_line l c) (response_lines k d r) ≡ []
  reply_left_out r =
      filter-append (is_pair_line l c) (packet_lines k d r.packet ++ stored_lines k d r.outcome ++ feedback_lines k d r.feedback) (refused_lines k d r.outcome)
      ∙ ap (λ t. t ++ filter (is_pair_line l c) (refused_lines k d r.outcome)) (filter-append (is_pair_line l c) (packet_lines k d r.packet ++ stored_lines k d r.outcome) (feedback_lines k d r.feedback)
      ∙ ap (λ t. t ++ filter (is_pair_line l c) (feedback_lines k d r.feedback)) (filter-append (is_pair_line l c) (packet_lines k d r.packet) (stored_lines k d r.outcome)))
      ∙ rw (out_packet r.packet, out_stored r.outcome, out_feedback r.feedback, out_refused r.outcome) refl

-- Lines of the pair that a predicate keeps, but perhaps for want of memory.
module _ (l c : ℕ) (p : List ℕ → Bool) (keep : (rest : List ℕ) → bytes_eq (codes "refused NoMemory") rest ≡ false → p (pair_text l c ++ rest) ≡ true) where
  kept_three : (a b : List ℕ) → bytes_eq (codes "refused NoMemory") (a ++ b) ≡ false → filter p (((pair_text l c ++ a) ++ b) ∷ []) ≡ ((pair_text l c ++ a) ++ b) ∷ []
  kept_three a b rich = filter-kept p ((pair_text l c ++ a) ++ b) [] (ap p (append_assoc (pair_text l c) a b) ∙ keep (a ++ b) rich)

  kept_packet : (q : Option Packet) → filter p (packet_lines l c q) ≡ packet_lines l c q
  kept_packet None = refl
  kept_packet (Some q) = kept_three (codes "ip ") (hex_text (q.head ++ q.payload)) refl

  kept_stored : (o : Outcome) → filter p (stored_lines l c o) ≡ stored_lines l c o
  kept_stored outcomes.Stored = filter-kept p (pair_text l c ++ codes "stored") [] (keep (codes "stored") refl)
  kept_stored outcomes.Delivered = refl
  kept_stored (outcomes.Refused r) = refl

  kept_feedback : (f : Option (List ℕ)) → filter p (feedback_lines l c f) ≡ feedback_lines l c f
  kept_feedback None = refl
  kept_feedback (Some element) = kept_three (codes "feedback ") (hex_text element) refl

  kept_refused : (o : Outcome) → o ≢ outcomes.Refused NoMemory → filter p (refused_lines l c o) ≡ refused_lines l c o
  kept_refused (outcomes.Refused r) rich = kept_three (codes "refused ") (name_of r) (refused_otherwise r (λ e. rich (ap (λ x. outcomes.Refused x) e)))
  kept_refused outcomes.Delivered rich = refl
  kept_refused outcomes.Stored rich = refl

  kept_with : (r : Response) → filter p (refused_lines l c r.outcome) ≡ refused_lines l c r.outcome → filter p (response_lines l c r) ≡ response_lines l c r
  kept_with r refusal =
      filter-append p (packet_lines l c r.packet ++ stored_lines l c r.outcome ++ feedback_lines l c r.feedback) (refused_lines l c r.outcome)
      ∙ ap (λ t. t ++ filter p (refused_lines l c r.outcome)) (filter-append p (packet_lines l c r.packet ++ stored_lines l c r.outcome) (feedback_lines l c r.feedback)
      ∙ ap (λ t. t ++ filter p (feedback_lines l c r.feedback)) (filter-append p (packet_lines l c r.packet) (stored_lines l c r.outcome)))
      ∙ rw (kept_packet r.packet, kept_stored r.outcome, kept_feedback r.feedback, refusal) refl

module _ (l c : ℕ) where
  pair_refused : (o : Outcome) → filter (is_pair_line l c) (refused_lines l c o) ≡ refused_lines l c o
  pair_refused (outcomes.Refused r) =
      filter-kept (is_pair_line l c) ((pair_text l c ++ codes "refused ") ++ name_of r) [] (ap (is_pair_line l c) (append_assoc (pair_text l c) (codes "refused ") (name_of r)) ∙ begins_whole (pair_text l c) (codes "refused " ++ name_of r))
  pair_refused outcomes.Delivered = refl
  pair_refused outcomes.Stored = refl

  -- all lines of a reply are the pair's
  pub reply_whole_kept : (r : Response) → filter (is_pair_line l c) (response_lines l c r) ≡ response_lines l c r
  reply_whole_kept r = kept_with l c (is_pair_line l c) (λ rest rich. begins_whole (pair_text l c) rest) r (pair_refused r.outcome)

  -- and its own, but for want of memory
  pub reply_kept : (r : Response) → r.outcome ≢ outcomes.Refused NoMemory → filter (is_own_line l c) (response_lines l c r) ≡ response_lines l c r
  reply_kept r rich = kept_with l c (is_own_line l c) (own_pair l c) r (kept_refused l c (is_own_line l c) (own_pair l c) r.outcome rich)

  -- want of memory is left out
  pub poor_left_out : filter (is_own_line l c) (response_lines l c (refused NoMemory)) ≡ []
  poor_left_out = filter-left_out (is_own_line l c) ((pair_text l c ++ codes "refused ") ++ codes "NoMemory") [] (ap (is_own_line l c) (append_assoc (pair_text l c) (codes "refused ") (codes "NoMemory")) ∙ poor_pair l c (codes "refused NoMemory") refl)

-- a line of a narrower kind is of the wider one too
pub filter-within : {X : Type 0} (wide more : X → Bool) (xs : List X) → filter (λ x. wide x && more x) xs ≡ filter (λ x. wide x && more x) (filter wide xs)
filter-within wide more [] = refl
filter-within {X} wide more (x ∷ xs) = elim (wide x) as (λ b. wide x ≡ b → filter (λ y. wide y && more y) (x ∷ xs) ≡ filter (λ y. wide y && more y) (cond b (x ∷ filter wide xs) (filter wide xs))) [
  | true ↦ λ e. ap (λ zs. cond (wide x && more x) (x ∷ zs) zs) (filter-within wide more xs)
  | false ↦ λ e. filter-left_out (λ y. wide y && more y) x xs (rw e refl) ∙ filter-within wide more xs
] refl
