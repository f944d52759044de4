-- What has no place in a list isn't found in it, and ports stand at their link's place.
use Rattle.std.proofs.Common.{◌≡◌, ◌∙◌, sym, ap, ℕ, ◌<◌, ◌≤◌, ◌⊎◌, inl, inr, List, length, Bool, arith, rules, get_or}
use Rattle.std.specs.Prelude.{Some, None, position, find, slice_get, ◌==◌}
use Rattle.std.specs.List.{position_or_len}
use Rattle.std.proofs.lemmas.List.Folds.{find_at}
use Rattle.std.proofs.lemmas.Option.{slice_get_cases, slice_get-get_or}
use Rattle.rohc_concentrator.specs.declared.setting.LinkSetting.{LinkSetting}
use Rattle.rohc_concentrator.specs.Setup.{entry_of}
use Rattle.rohc_links.specs.declared.ports.Ports.{Ports}
use Rattle.rohc_links.specs.Links.{Lists}
use Rattle.rohc_serve.specs.Datagram.{place_of, ports_of}

unplaced : {X : Type 0} (p : X → Bool) (xs : List X) → position p xs ≡ None →
    ((x : X) × (position_or_len p xs < length xs) × (slice_get xs (position_or_len p xs) ≡ Some x) × (get_or xs (position_or_len p xs) x ≡ x))
    ⊎ ((length xs ≤ position_or_len p xs) × (slice_get xs (position_or_len p xs) ≡ None)) → find p xs ≡ None
unplaced p xs none (inr past) = find_at p xs ∙ past.1
unplaced p xs none (inl there) = let within = there.1 in search rules

not_found : {X : Type 0} (p : X → Bool) (xs : List X) → position p xs ≡ None → find p xs ≡ None
not_found p xs none = unplaced p xs none (slice_get_cases xs (position_or_len p xs)).1

-- a link without a place has no entry
pub no_entry : (link : ℕ) (found settings : List LinkSetting) → found ≡ settings → None ≡ place_of link found →
    entry_of link settings ≡ None
no_entry link found settings same none =
    rw (← same) (not_found (λ (s : LinkSetting). s.link == link) found (sym none))

-- the ports at a link's place
pub ports_at : (link : ℕ) (lists : Lists) (found : List LinkSetting) (ports : List Ports) (place : ℕ) (d : Ports) →
    found ≡ lists.settings → ports ≡ lists.ports → length lists.ports ≡ length lists.settings →
    place < length found → Some place ≡ place_of link found → Some (get_or ports place d) ≡ ports_of link lists
ports_at link lists found ports place d settings same paired within placed =
    let inside : place < length ports = omega (arith, paired, within, ap length same, ap length settings) in
    rw (← settings, ← placed, ← same) (sym (slice_get-get_or ports place d inside))
