-- A text that goes to a writer by way of a buffer.
use Rattle.std.proofs.Common.{◌≡◌, ℕ, ◌+◌, ◌<◌, List, [], ◌∷◌, ◌++◌, length, Option, Result, Ok, Err, append_assoc, append-nil, sym, ◌∙◌, ap, refl, subst, arith, length-append}
use Rattle.std.proofs.lemmas.List.{nil_from_length}
use Rattle.std.specs.Io.KnownBytes.{Appends}
use Rattle.hex.specs.Hex.{encode_with, encode_lower}
use Rattle.rohc_replay.specs.Script.{hex_text}
use Rattle.rohc_links.specs.Limits.{counted}
use Rattle.rohc_replay.specs.Offers.{TakesAll, TakesPart, OffersText}
use Rattle.rohc_replay.specs.declared.output.Stopped.{Stopped}
use Rattle.rohc_replay.proofs.DigitLemmas.{encode-append}
use Rattle.rohc_replay.proofs.OfferLemmas.{appends_none, appends_more}

-- octets as hex text are their digits, where there are some
pub hex_text_some : (octets : List ℕ) → 0 < length octets → hex_text octets ≡ encode_lower octets
hex_text_some [] some = absurd (omega arith)
hex_text_some (x ∷ xs) some = refl

-- a head and what comes behind it, as the digits of the one and of the other
pub hex_text_parts : (head rest : List ℕ) → 0 < length head + length rest → hex_text (head ++ rest) ≡ encode_lower head ++ encode_lower rest
hex_text_parts head rest some = hex_text_some (head ++ rest) (omega (arith, length-append head rest)) ∙ encode-append head rest

-- the same behind what was put before
pub hex_text_after : (line head rest : List ℕ) → 0 < length head + length rest
    → line ++ hex_text (head ++ rest) ++ 10 ∷ [] ≡ line ++ encode_lower head ++ encode_lower rest ++ 10 ∷ []
hex_text_after line head rest some =
    ap (λ (l : List ℕ). line ++ l ++ 10 ∷ []) (hex_text_parts head rest some)
    ∙ ap (λ (l : List ℕ). l ++ 10 ∷ []) (sym (append_assoc line (encode_lower head) (encode_lower rest)))

-- A front of the whole text was taken; what waits comes behind it, and then the rest.
pub record Waits (held holding : Option (List ℕ)) (before after : ℕ) (whole waiting rest : List ℕ) : Type 0 where
  pub front : List ℕ
  pub taken : Appends held holding front
  pub count : counted after 0 ≡ counted before (length front)
  pub parts : front ++ (waiting ++ rest) ≡ whole

-- the digits of octets are all to come
pub waits_first_of : (held : Option (List ℕ)) (before : ℕ) (waiting octets all : List ℕ) → octets ≡ all
    → Waits held held before before (waiting ++ encode_lower all ++ 10 ∷ []) waiting (encode_lower octets ++ 10 ∷ [])
waits_first_of held before waiting octets all e = record {
  front = [];
  taken = appends_none held;
  count = refl;
  parts = sym (append_assoc waiting (encode_lower octets) (10 ∷ [])) ∙ ap (λ (l : List ℕ). waiting ++ encode_lower l ++ 10 ∷ []) e;
}

-- more of the rest waits
pub waits_put : (held holding : Option (List ℕ)) (before after : ℕ) (whole waiting part rest : List ℕ)
    → Waits held holding before after whole waiting (part ++ rest) → Waits held holding before after whole (waiting ++ part) rest
waits_put held holding before after whole waiting part rest h = record {
  front = h.front;
  taken = h.taken;
  count = h.count;
  parts = ap (λ (l : List ℕ). h.front ++ l) (append_assoc waiting part rest) ∙ h.parts;
}

-- a part of the octets is put behind what waits
pub waits_digits : (held holding : Option (List ℕ)) (before after : ℕ) (whole waiting still octets part more : List ℕ)
    → octets ≡ part ++ more → still ≡ waiting ++ encode_lower part
    → Waits held holding before after whole waiting (encode_lower octets ++ 10 ∷ [])
    → Waits held holding before after whole still (encode_lower more ++ 10 ∷ [])
waits_digits held holding before after whole waiting still octets part more cut put h =
    let rest : encode_lower octets ++ 10 ∷ [] ≡ encode_lower part ++ (encode_lower more ++ 10 ∷ []) =
    ap (λ (l : List ℕ). encode_lower l ++ 10 ∷ []) cut ∙ ap (λ (l : List ℕ). l ++ 10 ∷ []) (encode-append part more)
    ∙ append_assoc (encode_lower part) (encode_lower more) (10 ∷ []) in
    rw put (waits_put held holding before after whole waiting (encode_lower part) (encode_lower more ++ 10 ∷ []) (rw rest at h))

-- all octets were put, and the newline comes
pub waits_newline : (held holding : Option (List ℕ)) (before after : ℕ) (whole waiting octets : List ℕ) → length octets ≡ 0
    → Waits held holding before after whole waiting (encode_lower octets ++ 10 ∷ []) → Waits held holding before after whole (waiting ++ 10 ∷ []) []
unfolding encode_with
waits_newline held holding before after whole waiting octets none h =
    waits_put held holding before after whole waiting (10 ∷ []) [] (rw (nil_from_length octets none) at h)

-- the count after a text and another, where the first count was within its type
counts_more : (before between after a b : ℕ) → counted between 0 ≡ counted before a → after ≡ counted between b → after ≡ counted before (a + b)
counts_more before between after a b ha hb = omega arith

module _ (held mid holding : Option (List ℕ)) (before between after : ℕ) where
  -- what waited was taken
  pub waits_taken : (whole waiting rest : List ℕ)
      → Waits held mid before between whole waiting rest → TakesAll mid holding between after waiting → Waits held holding before after whole [] rest
  waits_taken whole waiting rest h all = record {
    front = h.front ++ waiting;
    taken = appends_more held mid holding h.front waiting h.taken all.0;
    count = omega (arith, counts_more before between after (length h.front) (length waiting) h.count all.1, length-append h.front waiting);
    parts = append_assoc h.front waiting rest ∙ h.parts;
  }

  -- a part of what waited was taken
  pub waits_part : (whole waiting rest : List ℕ)
      → Waits held mid before between whole waiting rest → TakesPart mid holding between after waiting → TakesPart held holding before after whole
  waits_part whole waiting rest h p = record {
    part = h.front ++ p.part;
    rest = p.rest ++ rest;
    parts = sym h.parts ∙ ap (λ (l : List ℕ). h.front ++ (l ++ rest)) p.parts
        ∙ ap (λ (l : List ℕ). h.front ++ l) (append_assoc p.part p.rest rest) ∙ sym (append_assoc h.front p.part (p.rest ++ rest));
    some_left = omega (arith, p.some_left, length-append p.rest rest);
    taken = (
      appends_more held mid holding h.front p.part h.taken p.taken.0,
      omega (arith, counts_more before between after (length h.front) (length p.part) h.count p.taken.1, length-append h.front p.part),
    );
  }

  -- What waits is offered, and nothing comes behind it.
  pub waits_offered : (whole waiting : List ℕ) (r : Result Unit Stopped)
      → Waits held mid before between whole waiting [] → OffersText mid holding between after waiting r → OffersText held holding before after whole r
  waits_offered whole waiting (Ok done) h all =
      let parts = ap (λ (l : List ℕ). h.front ++ l) (sym (append-nil waiting)) ∙ h.parts in
      subst (λ (text : List ℕ). TakesAll held holding before after text) parts (
        appends_more held mid holding h.front waiting h.taken all.0,
        omega (arith, counts_more before between after (length h.front) (length waiting) h.count all.1, length-append h.front waiting),
      )
  waits_offered whole waiting (Err stopped) h part = waits_part whole waiting [] h part
