-- Records of a link that are left while others go. Words: left_of; LeavesIn; HaveGone; is_other,
-- is_expired, counts_at, survives.
use Rattle.std.specs.Prelude.{◌≡◌, ℕ, ◌+◌, ◌-◌, length, Bool, true, false, not, ◌&&◌, ◌==◌, nat_le, filter, is_some, Option, Some, None, if◌then◌else◌}
use Rattle.indexmap.specs.IndexMap.{keys}
use Rattle.rohc_frame.specs.declared.header.CidKind.{CidKind}
use Rattle.rohc_frame.specs.declared.header.CidKind.TheVariants.{Small, Large}
use Rattle.rohc_context.specs.Record.{Record}
use Rattle.rohc_concentrator.specs.declared.concentrator.Concentrator.{Concentrator}
use Rattle.rohc_concentrator.specs.declared.records.LinkRecords.{LinkRecords}
use Rattle.rohc_concentrator.specs.declared.setting.LinkSetting.{LinkSetting}
use Rattle.rohc_concentrator.specs.Tables.{record_in, identifiers_at}

-- what is left of a CID's record, if it has one: itself if it passes, else none
abbrev pub left_of : (ℕ → Record → Bool) → ℕ → Option Record → Option Record
left_of passes cid None = None
left_of passes cid (Some r) = if passes cid r then Some r else None

-- of the records of a link those are left that pass, in their order
pub record LeavesIn (old : LinkRecords) (passes : ℕ → Record → Bool) (new : LinkRecords) : Type 0 where
  pub records : (cid : ℕ) → record_in new cid ≡ left_of passes cid (record_in old cid)
  pub order : keys new.contexts ≡
      filter (λ cid. is_some (left_of passes cid (record_in old cid))) (keys old.contexts)

-- so many records of a link have gone
abbrev pub HaveGone : ℕ → Concentrator → Concentrator → ℕ → Type 0
HaveGone count old new link = count + length (identifiers_at new link) ≡ length (identifiers_at old link)

-- the CID is another
abbrev pub is_other : ℕ → ℕ → Record → Bool
is_other cid other r = not (other == cid)

-- The record has expired at this moment: `idle_ms` milliseconds have passed since its last accepted arrival.
-- If `idle_ms` is 0, none expires. An earlier moment counts as no time passed.
abbrev pub is_expired : (idle_ms moment : ℕ) → Record → Bool
is_expired idle_ms moment r = not (idle_ms == 0) && nat_le idle_ms (moment - r.accepted)

-- the record of this CID has not expired
abbrev pub counts_at : (idle_ms moment : ℕ) → (cid : ℕ) → Record → Bool
counts_at idle_ms moment cid r = not (is_expired idle_ms moment r)

-- two CID kinds are the same
abbrev pub is_same_kind : CidKind → CidKind → Bool
is_same_kind Small Small = true
is_same_kind Small Large = false
is_same_kind Large Small = false
is_same_kind Large Large = true

-- A record survives a change of its link's setting: the CID kind stays, and the CID is at most the new
-- greatest.
abbrev pub survives : (before after : LinkSetting) → (cid : ℕ) → Record → Bool
survives before after cid r =
    is_same_kind before.settings.size after.settings.size && nat_le cid after.settings.max_cid
