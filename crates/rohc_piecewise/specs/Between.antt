-- The contexts that are found in one piece, and what stands in front of contexts. Words: one_of, held_from;
-- head_of_link, start_of.
use Rattle.std.specs.Prelude.{ℕ, ◌+◌, List, [], ◌∷◌, ◌++◌, Option, Some, None, zero, suc}
use Rattle.rohc_context.specs.Record.{Record}
use Rattle.rohc_concentrator.specs.declared.concentrator.Concentrator.{Concentrator}
use Rattle.rohc_saved.specs.Form.{word, long, magic, size_octet}
use Rattle.rohc_piecewise.specs.Piecewise.{Head, held_under}

-- a CID with its record, if it has one
abbrev pub one_of : ℕ → Option Record → List (ℕ × Record)
one_of cid None = []
one_of cid (Some r) = (cid, r) ∷ []

-- the CIDs of a link from one on, this many, that have a record under a head, each with it
abbrev pub held_from : Concentrator → Head → ℕ → ℕ → List (ℕ × Record)
held_from k head from zero = []
held_from k head from (suc n) = held_from k head from n ++ one_of (from + n) (held_under k head (from + n))

-- the octets in front of a link's contexts, with their number
abbrev pub head_of_link : Head → ℕ → List ℕ
head_of_link head count =
    word head.number ++ (size_octet head.size ∷ 0 ∷ (word head.greatest ++ word count))

-- the octets in front of the links, with their number
abbrev pub start_of : ℕ → ℕ → List ℕ
start_of moment count = magic ++ (word 1 ++ (long moment ++ word count))
