-- A piece that was read behind what is kept of an unfinished line, and the end of the text.
use Rattle.std.proofs.Common.{◌≡◌, ℕ, ◌-◌, ◌≤◌, List, [], ◌++◌, length, take, drop, slice_range, Bool, Option, IfSome, append-nil, arith, refl, sym, ◌∙◌, ap, subst}
use Rattle.std.specs.Io.KnownBytes.{Consumes, IsAtEnd}
use Rattle.std.proofs.KnownBytes.{Consumes-trans, Consumes-whole}
use Rattle.std.proofs.lemmas.List.{length-take-le}
use Rattle.rohc_replay.specs.declared.counts.Counts.{Counts}
use Rattle.rohc_replay.specs.Run.{ReplayChange}
use Rattle.rohc_replay.specs.Stream.{StandsInScript, StopsWithin}
use Rattle.rohc_replay.proofs.RangeLemmas.{range-none, drop-front, take-front}
use Rattle.rohc_replay.proofs.StreamLemmas.{StandsInScript-same}

-- a read that gave nothing consumed nothing
pub Consumes-nothing : (a b c : Option (List ℕ)) (seen read : List ℕ) → Consumes a b seen → Consumes b c read → read ≡ [] → Consumes a c seen
Consumes-nothing a b c seen read before last nothing = subst (Consumes a c) (ap (λ t. seen ++ t) nothing ∙ append-nil seen) (Consumes-trans a b c seen read before last)

-- the last read gave nothing, so the whole text was seen
pub whole_text : (a b c : Option (List ℕ)) (seen line : List ℕ) (len end : ℕ) (P : List ℕ → Type 0) →
    Consumes a b seen → Consumes b c (slice_range line len end) → end ≡ len → IsAtEnd c → P seen → IfSome a P
whole_text a b c seen line len end P before last same at_end h =
    let nothing : slice_range line len end ≡ [] = ap (slice_range line len) same ∙ range-none line len in
    Consumes-whole a c seen P (Consumes-nothing a b c seen (slice_range line len end) before last nothing) at_end h

-- and the octets that were kept are the last line
pub StandsInScript-kept : (c : ReplayChange) (seen line read : List ℕ) (len end : ℕ) (long : Bool) (counts : Counts) →
    end ≡ len → take len read ≡ take len line → StandsInScript c seen (take len line) long counts → StandsInScript c seen (take end read) long counts
StandsInScript-kept c seen line read len end long counts same kept s =
    StandsInScript-same c seen seen (take len line) (take end read) long counts refl (sym kept ∙ ap (λ n. take n read) (sym same)) s

-- the octets that were kept stand before a piece
pub StandsInScript-before : (c : ReplayChange) (seen line read : List ℕ) (len end : ℕ) (long : Bool) (counts : Counts) →
    len ≤ end → take len read ≡ take len line → StandsInScript c seen (take len line) long counts → StandsInScript c seen (take len (take end read)) long counts
StandsInScript-before c seen line read len end long counts within kept s =
    StandsInScript-same c seen seen (take len line) (take len (take end read)) long counts refl (sym kept ∙ sym (take-front read len end within)) s

-- the octets of a piece that are kept were moved to the front
moved_last : (read moved : List ℕ) (n end : ℕ) → n ≤ length (take end read) → end ≤ length read → take n moved ≡ slice_range read (end - n) end →
    drop (length (take end read) - n) (take end read) ≡ take n moved
moved_last read moved n end few within same =
    let bound : length (take end read) ≡ end = length-take-le end read within in
    let order : end - n ≤ end = omega arith in
    ap (λ m. drop (m - n) (take end read)) bound ∙ drop-front read (end - n) end order ∙ sym same

pub StandsInScript-moved : (c : ReplayChange) (read moved : List ℕ) (len n end : ℕ) (long : Bool) (counts : Counts) →
    len ≤ end → n ≤ length (take end read) → end ≤ length read → take n moved ≡ slice_range read (end - n) end → (seen : List ℕ) →
    StandsInScript c (seen ++ drop len (take end read)) (drop (length (take end read) - n) (take end read)) long counts →
    StandsInScript c (seen ++ slice_range read len end) (take n moved) long counts
StandsInScript-moved c read moved len n end long counts more few within same seen s =
    StandsInScript-same c (seen ++ drop len (take end read)) (seen ++ slice_range read len end) (drop (length (take end read) - n) (take end read)) (take n moved) long counts
    (ap (λ t. seen ++ t) (drop-front read len end more)) (moved_last read moved n end few within same) s

-- the writer stopped within a piece
pub StopsWithin-piece : (c : ReplayChange) (seen read : List ℕ) (len end : ℕ) (counts : Counts) →
    len ≤ end → StopsWithin c (seen ++ drop len (take end read)) counts → StopsWithin c (seen ++ slice_range read len end) counts
StopsWithin-piece c seen read len end counts more stops =
    subst (λ t. StopsWithin c (seen ++ t) counts) (drop-front read len end more) stops
