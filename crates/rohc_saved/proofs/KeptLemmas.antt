-- A saved context within a longer text.
use Rattle.std.proofs.Common.{◌≡◌, ℕ, List, ◌++◌, Result, Ok, Err, sym, ap, ◌∙◌, append_assoc, All}
use Rattle.rohc_bits.specs.Bits.{IsOctet}
use Rattle.rohc_bits.proofs.Steps.{ok_is}
use Rattle.rohc_context.specs.declared.context_fault.ContextFault.{ContextFault}
use Rattle.rohc_context.specs.Good.{IsGoodRecord}
use Rattle.rohc_context.specs.Record.{Record}
use Rattle.rohc_context.specs.SavedText.{saved_text}
use Rattle.rohc_context.specs.SavedReading.{saved_at}
use Rattle.rohc_context.proofs.SavedLemmas.{comes_back, is_spelled}
use Rattle.rohc_saved.specs.declared.fault.SavedFault.{SavedFault}
use Rattle.rohc_saved.specs.Form.{word, context_text}
use Rattle.rohc_saved.specs.Reading.{in_whole, record_text_at}

-- the text of a context is its CID, and a text that is read as its record
pub record IsKeptText (total : ℕ) (c : ℕ × Record) (rest : List ℕ) : Type 0 where
  pub text : List ℕ
  pub parts : context_text c ++ rest ≡ word c.0 ++ text
  pub reads : record_text_at total text ≡ Ok (c.1, rest)

pub kept_back : (total : ℕ) (c : ℕ × Record) (rest : List ℕ) → IsGoodRecord c.1 → IsKeptText total c rest
kept_back total c rest good = record {
  text = saved_text c.1 ++ rest;
  parts = append_assoc (word c.0) (saved_text c.1) rest;
  reads = ap (in_whole total) (comes_back c.1 rest good);
}

ok_whole : (total : ℕ) (r : Result (Record × List ℕ) ContextFault) (y : Record × List ℕ) → in_whole total r ≡ Ok y → r ≡ Ok y
ok_whole total (Ok x) y e = ap Ok (ok_is {E = SavedFault} x y e)
ok_whole total (Err fault) y e = cc

-- what is read behind a CID spells the context
pub kept_spells : (total cid : ℕ) (text mid : List ℕ) (y : Record × List ℕ) → All IsOctet mid → text ≡ word cid ++ mid → record_text_at total mid ≡ Ok y
    → text ≡ context_text (cid, y.0) ++ y.1
kept_spells total cid text mid y all whole reads =
    let is = is_spelled mid y.1 y.0 all (ok_whole total (saved_at mid) y reads) in
    whole ∙ ap (λ t. word cid ++ t) is ∙ sym (append_assoc (word cid) (saved_text y.0) y.1)
