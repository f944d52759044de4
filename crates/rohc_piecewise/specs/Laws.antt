-- Laws of saves by pieces. Words: IsSavedAtEnd; IsReadOver, IsReadAtEnd.
use Rattle.std.specs.Prelude.{◌≡◌, ◌<◌, ◌^◌, ℕ, List, false, Ok}
use Rattle.rohc_concentrator.specs.declared.concentrator.Concentrator.{Concentrator}
use Rattle.rohc_concentrator.specs.Sound.{IsInOrder}
use Rattle.rohc_saved.specs.Form.{Form}
use Rattle.rohc_saved.specs.Reading.{restored}
use Rattle.rohc_piecewise.specs.Piecewise.{Head, heads_of, AreSaved, IsSavedOver}
use Rattle.rohc_piecewise.specs.UnderWay.{busy, IsUnderWay}
use Rattle.rohc_piecewise.specs.declared.saver.Saver.{Saver}

-- Once a save that was under way is over, the octets that were taken are those of a save over what was seen.
abbrev pub IsSavedAtEnd : Type 0
IsSavedAtEnd = (moment : ℕ) (heads : List Head) (seen : List Concentrator) (taken : List ℕ) (s : Saver) →
    IsUnderWay moment heads seen taken s → busy s ≡ false → IsSavedOver moment heads seen taken

-- octets are read as one form, whose links are saved over what was seen
pub record IsReadOver (moment : ℕ) (heads : List Head) (seen : List Concentrator)
    (octets : List ℕ) : Type 0 where
  pub form : Form
  pub read : restored octets ≡ Ok form
  pub at : form.moment ≡ moment
  pub links : AreSaved seen heads form.links

-- So is what was saved, if the concentrator was sound when the save began.
abbrev pub IsReadAtEnd : Type 0
IsReadAtEnd = (k : Concentrator) (moment : ℕ) (seen : List Concentrator) (octets : List ℕ) → IsInOrder k →
    moment < 2 ^ 64 → IsSavedOver moment (heads_of k) seen octets → IsReadOver moment (heads_of k) seen octets
