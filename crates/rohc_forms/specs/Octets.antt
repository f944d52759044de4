-- The pieces of packets.
use Rattle.std.specs.Prelude.{ℕ, List, Bool, Option, Result}
use Rattle.rohc_bits.specs.Grammar.{Piece, Octet, Word, IfNamed, reads}
use Rattle.rohc_forms.specs.declared.refusal.FormRefusal.{FormRefusal}
use Rattle.rohc_forms.specs.declared.refusal.FormRefusal.TheVariants.{Truncated}
use Rattle.rohc_forms.specs.Table.{Name}

-- a piece of a packet, and what is read of it; a packet that ends too early is truncated
abbrev pub FormPiece : Type 0 → Type 1
FormPiece = Piece Name FormRefusal

abbrev pub read : {A : Type 0} → FormPiece A → List ℕ → Result (A × List ℕ) FormRefusal
read = reads Truncated

-- an octet, or a number of two octets, if a flag announces it
unfoldable pub octet_if : Bool → FormPiece (Option ℕ)
octet_if named = IfNamed named Octet

unfoldable pub word_if : Bool → FormPiece (Option ℕ)
word_if named = IfNamed named Word
