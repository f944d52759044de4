-- What a concentrator keeps is good.
use Rattle.rohc_context.specs.Record.{Record, record_of}
use Rattle.std.specs.Option.{option_map, option_and_then}
use Rattle.std.proofs.Common.{◌≡◌, ℕ, ◌<◌, ◌≤◌, ◌^◌, List, All, Option, Some, None, Result, Ok, Err, IfSome, arith, nat_eq, refl, sym, subst}
use Rattle.indexmap.specs.IndexMap.{get}
use Rattle.rohc_frame.specs.Header.{Header, greatest_cid}
use Rattle.rohc_frame.specs.declared.header.CidKind.{CidKind}
use Rattle.rohc_frame.specs.declared.header.CidKind.TheVariants as sizes
use Rattle.rohc_frame.specs.Laws.{IsOctet}
use Rattle.rohc_frame.specs.Reading.{Reading}
use Rattle.rohc_frame.specs.Parts.{parts_of}
use Rattle.rohc_frame.specs.declared.refusal.FrameRefusal.{FrameRefusal}
use Rattle.rohc_frame.proofs.LawLemmas.{header_is_good}
use Rattle.rohc_context.specs.declared.record.Context.{Context}
use Rattle.rohc_context.specs.Good.{AreGoodValues, IsGoodRecord, IsGoodHeader}
use Rattle.rohc_context.specs.Settings.{AreGood}
use Rattle.rohc_context.proofs.StepLaws.{keeps_good}
use Rattle.rohc_concentrator.specs.declared.concentrator.Concentrator.{Concentrator}
use Rattle.rohc_concentrator.specs.declared.records.LinkRecords.{LinkRecords}
use Rattle.rohc_concentrator.specs.declared.setting.LinkSetting.{LinkSetting}
use Rattle.rohc_concentrator.specs.Setting.{IsGoodSetting, settings_of}
use Rattle.rohc_concentrator.specs.Tables.{setting_at, record_at, record_in}
use Rattle.rohc_concentrator.specs.Report.{Report, Arrived, OnlyFront, Refused, IsCut, IsRead, IsAnswered}

good_within : (records : Option LinkRecords) (s : LinkSetting) → option_map (λ (r : LinkRecords). r.setting) records ≡ Some s → IsGoodSetting s
good_within (Some r) s e = subst IsGoodSetting (let same : ◌≡◌ {A = Option LinkSetting} (Some r.setting) (Some s) = e in cc) r.good
good_within None s e = absurd (let same : ◌≡◌ {A = Option LinkSetting} None (Some s) = e in cc)

-- what is set for a link is good
pub good_setting : (k : Concentrator) (l : ℕ) (s : LinkSetting) → setting_at k l ≡ Some s → IsGoodSetting s
good_setting k l s e = good_within (get nat_eq k.links l) s e

-- and so is what is set for an identifier of it
pub good_settings_of : (s : LinkSetting) (c : ℕ) → IsGoodSetting s → AreGood (settings_of s c)
good_settings_of s c good = record {
  max_cid = good.settings_good.max_cid;
  k1 = good.settings_good.k1;
  k2 = good.settings_good.k2;
  packet_ms = good.settings_good.packet_ms;
  static_nack_ms = good.settings_good.static_nack_ms;
  idle_ms = good.settings_good.idle_ms;
}

pub good_in : (context : Option Context) → IfSome (option_map record_of context) IsGoodRecord
good_in None = tt
good_in (Some c) = keeps_good c

good_record_within : (records : Option LinkRecords) (c : ℕ) → IfSome (option_and_then (λ (t : LinkRecords). record_in t c) records) IsGoodRecord
good_record_within None c = tt
good_record_within (Some r) c = good_in (get nat_eq r.contexts c)

-- a record that stands is good
pub good_record_at : (k : Concentrator) (l c : ℕ) → IfSome (record_at k l c) IsGoodRecord
good_record_at k l c = good_record_within (get nat_eq k.links l) c

-- the header of a packet of octets is good for each identifier's settings
pub good_header : (s : LinkSetting) (c : ℕ) (octets : List ℕ) (r : Reading) (h : Header) → parts_of s.settings.size s.settings.max_cid octets ≡ Ok r → r.header ≡ Some h → All IsOctet octets → IsGoodHeader (settings_of s c) h
good_header s c octets r h parts header all =
    let good = header_is_good s.settings.size s.settings.max_cid octets r h parts header all in
    record { sized = good.sized; within = good.within; spelled = good.spelled; first = good.first; cid_octets = good.cid_octets; rest = good.rest }

-- so an arrival meets good values
pub good_arrival : (k : Concentrator) (l c m : ℕ) (s : LinkSetting) (octets : List ℕ) (r : Reading) (h : Header) → setting_at k l ≡ Some s → m < 2 ^ 64 → parts_of s.settings.size s.settings.max_cid octets ≡ Ok r → r.header ≡ Some h → All IsOctet octets →
    AreGoodValues (record_at k l c) (settings_of s c) m h
good_arrival k l c m s octets r h set fits parts header all = record {
  record_before = good_record_at k l c;
  settings = good_settings_of s c (good_setting k l s set);
  moment_fits = fits;
  header = good_header s c octets r h parts header all;
}

-- an identifier that a link can spell is below 2^16
spelled_fits : (size : CidKind) (n m : ℕ) → n ≤ m → m ≤ greatest_cid size → n < 2 ^ 16
spelled_fits sizes.Small n m within least = omega arith
spelled_fits sizes.Large n m within least = omega arith

-- the identifier of a header is below 2^16
cid_fits : (s : LinkSetting) (octets : List ℕ) (r : Reading) (h : Header) → IsGoodSetting s → All IsOctet octets → parts_of s.settings.size s.settings.max_cid octets ≡ Ok r → r.header ≡ Some h → h.cid < 2 ^ 16
cid_fits s octets r h good all parts header =
    spelled_fits s.settings.size h.cid s.settings.max_cid (header_is_good s.settings.size s.settings.max_cid octets r h parts header all).within good.settings_good.max_cid

-- and so is the identifier in an answer
abbrev pub HasFitCid : Report → Type 0
HasFitCid (Arrived cid response relayed) = cid < 2 ^ 16
HasFitCid (OnlyFront relayed) = Unit {0}
HasFitCid (Refused refusal) = Unit {0}

module _ (s : LinkSetting) (m : ℕ) (before after : ℕ → Option Record) (report : Report) where
  cut_fits : (relayed : List (List ℕ)) (header : Option Header) → ((h : Header) → header ≡ Some h → h.cid < 2 ^ 16) → IsCut s m relayed header before report after → HasFitCid report
  cut_fits relayed None bound a = subst HasFitCid (sym a) tt
  cut_fits relayed (Some h) bound a = subst HasFitCid (sym a.1) (bound h refl)

  read_fits : (parts : Result Reading FrameRefusal) → ((r : Reading) (h : Header) → parts ≡ Ok r → r.header ≡ Some h → h.cid < 2 ^ 16) → IsRead s m parts before report after → HasFitCid report
  read_fits (Ok r) bound a = cut_fits r.elements r.header (λ h. bound r h refl) a
  read_fits (Err refusal) bound a = subst HasFitCid (sym a) tt

answered_fits : (set : Option LinkSetting) (m : ℕ) (octets : List ℕ) (before after : ℕ → Option Record) (report : Report) → ((s : LinkSetting) → set ≡ Some s → IsGoodSetting s) → All IsOctet octets →
    IsAnswered set before m octets report after → HasFitCid report
answered_fits None m octets before after report good all a = subst HasFitCid (sym a) tt
answered_fits (Some s) m octets before after report good all a =
    read_fits s m before after report (parts_of s.settings.size s.settings.max_cid octets) (λ r h. cid_fits s octets r h (good s refl) all) a

pub report_fits : (k : Concentrator) (l m : ℕ) (octets : List ℕ) (after : ℕ → Option Record) (report : Report) → All IsOctet octets → IsAnswered (setting_at k l) (record_at k l) m octets report after → HasFitCid report
report_fits k l m octets after report all a = answered_fits (setting_at k l) m octets (record_at k l) after report (good_setting k l) all a
