-- What a restore gives or refuses, in the words of C.
use Rattle.std.proofs.Common.{◌≡◌, ℕ, List, inr, subst}
use Rattle.std.specs.Prelude.{All, Ok}
use Rattle.rohc_concentrator.specs.declared.concentrator.Concentrator.{Concentrator}
use Rattle.rohc_concentrator.specs.declared.setting.LinkSetting.{LinkSetting}
use Rattle.rohc_concentrator.specs.Setup.{AreFine, entry_of}
use Rattle.rohc_saved.specs.Form.{Form}
use Rattle.rohc_saved.specs.Reading.{restored}
use Rattle.rohc_saved.specs.Restoring.{Restores, IsToldOfForm, IsRefusal}
use Rattle.rohc_saved.specs.declared.restored.Restored.{Restored}
use Rattle.rohc_saved.specs.declared.fault.SavedFault.{SavedFault}
use Rattle.rohc_c.specs.Settings.{link_settings, HasFewRanges}
use Rattle.rohc_c.specs.Saved.{told, fault_of_saved, IsBack, IsNotBack}
use Rattle.rohc_c.specs.declared.link.RohcLink.{RohcLink}
use Rattle.rohc_c.specs.declared.saved.RohcRestored.{RohcRestored}
use Rattle.rohc_c.specs.declared.saved.BackFault.{BackFault}

pub refused : (links : List RohcLink) (octets : List ℕ) (settings : List LinkSetting) (e : SavedFault) (fault : BackFault)
    → All HasFewRanges links → settings ≡ link_settings links → IsRefusal settings octets e → fault ≡ fault_of_saved e
    → IsNotBack links octets fault
refused links octets settings e fault few is refusal shown = inr (few, (e, subst (λ s. IsRefusal s octets e) is refusal, shown))

pub back : (links : List RohcLink) (octets : List ℕ) (settings : List LinkSetting) (k kept : Concentrator) (r : Restored) (shown : RohcRestored)
    → All HasFewRanges links → settings ≡ link_settings links → AreFine settings
    → (form : Form) × (restored octets ≡ Ok form) × Restores settings form k × IsToldOfForm (λ link. entry_of link settings) form r
    → kept ≡ k → shown ≡ told r → IsBack links octets kept shown
back links octets settings k kept r shown few is fine b same told_is = record {
  few = few;
  fine = subst AreFine is fine;
  form = b.0;
  spelled = b.1;
  restores = rw same (subst (λ s. Restores s b.0 k) is b.2);
  tally = r;
  counts = subst (λ s. IsToldOfForm (λ link. entry_of link s) b.0 r) is b.3;
  shown = told_is;
}
