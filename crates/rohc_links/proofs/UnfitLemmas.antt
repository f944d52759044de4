-- All that is wrong with an entry, against its first fault.
use Rattle.std.proofs.Common.{◌≡◌, ◌∷◌, [], ℕ, Option, Some, None, List, Bool, true, false, cond, map, not, refl, sym, ◌∙◌, Result, Ok, Err}
use Rattle.std.specs.Prelude.{ℕ, is_ok, ok_or, option_map, ◌&&◌}
use Rattle.std.specs.Option.{option_map_or}
use Rattle.std.specs.Result.{result_err, result_map_both}
use Rattle.rohc_concentrator.specs.declared.setting.LinkSetting.{LinkSetting}
use Rattle.rohc_links.specs.declared.ports.Ports.{Ports}
use Rattle.toml.specs.Data.{Data, Members, no_members, member, get_member}
use Rattle.rohc_links.specs.declared.version.Version.{Version}
use Rattle.rohc_links.specs.declared.version.Version.TheVariants.{One, Two}
use Rattle.rohc_links.specs.declared.fault.Key.{Key}
use Rattle.rohc_links.specs.declared.fault.Key.TheVariants as key
use Rattle.rohc_links.specs.declared.fault.LinksFault.{LinksFault}
use Rattle.rohc_links.specs.declared.fault.LinksFault.TheVariants.{UnknownKey, BadKey}
use Rattle.rohc_links.specs.Entry.{◌>>=◌, keys, entry_in, ports_in, has_known_keys}
use Rattle.rohc_links.specs.Keys.{name_of}
use Rattle.rohc_links.specs.Fields.{whole_number, size, mode, field_at, is_among, has_only}
use Rattle.rohc_links.specs.Ranges.{ranges}
use Rattle.rohc_links.specs.Unfit.{unfit_keys, names_beside, first_fault, TellsFirst}

-- the result has as its fault the first of these keys, if there is one
abbrev Tells : ℕ → Result (LinkSetting × Ports) Key → List Key → Type 0
Tells n read unfit = result_err (result_map_both (λ set. set) (BadKey n) read) ≡ first_fault n [] unfit

-- one more key, before the others
step : {A : Type 0} (f : A → Result (LinkSetting × Ports) Key) (unfit : List Key) (o : Option A) (k : Key) (n : ℕ)
    → ((x : A) → Tells n (f x) unfit) → Tells n (ok_or o k >>= f) (cond (not (is_ok (ok_or o k))) (k ∷ unfit) unfit)
step f unfit None k n next = refl
step f unfit (Some x) k n next = next x

-- one more key of a part, before the others
inner : {A B : Type 0} (g : A → Result B Key) (f : B → Result (LinkSetting × Ports) Key) (unfit : List Key) (o : Option A) (k : Key) (n : ℕ)
    → ((x : A) → Tells n (g x >>= f) unfit) → Tells n ((ok_or o k >>= g) >>= f) (cond (not (is_ok (ok_or o k))) (k ∷ unfit) unfit)
inner g f unfit None k n next = refl
inner g f unfit (Some x) k n next = next x

-- one more key that may be missing, before the others
optional : {A B : Type 0} (g : Option A → Result B Key) (f : B → Result (LinkSetting × Ports) Key) (unfit : List Key)
    (d : Option Data) (read : Data → Option A) (k : Key) (n : ℕ) → ((x : Option A) → Tells n (g x >>= f) unfit)
    → Tells n ((option_map_or (λ v. ok_or (option_map Some (read v)) k) d (Ok None) >>= g) >>= f)
    (cond (not (is_ok (option_map_or (λ v. ok_or (option_map Some (read v)) k) d (Ok None)))) (k ∷ unfit) unfit)
optional g f unfit None read k n next = next None
optional g f unfit (Some v) read k n next = inner g f unfit (option_map Some (read v)) k n next

entry_tells : (version : Version) (n : ℕ) (ms : Members) → Tells n (entry_in version ms) (unfit_keys version ms)
unfolding entry_in ports_in
entry_tells One n ms =
    step _ _ (field_at (whole_number 0 65535) (name_of key.Number) ms) key.Number n (λ x0.
    step _ _ (field_at size (name_of key.Cid) ms) key.Cid n (λ x1.
    step _ _ (field_at (whole_number 0 65535) (name_of key.MaxCid) ms) key.MaxCid n (λ x2.
    step _ _ (field_at mode (name_of key.Mode) ms) key.Mode n (λ x3.
    step _ _ (field_at (whole_number 0 255) (name_of key.K1) ms) key.K1 n (λ x4.
    step _ _ (field_at (whole_number 0 255) (name_of key.N1) ms) key.N1 n (λ x5.
    step _ _ (field_at (whole_number 0 255) (name_of key.K2) ms) key.K2 n (λ x6.
    step _ _ (field_at (whole_number 0 255) (name_of key.N2) ms) key.N2 n (λ x7.
    step _ _ (field_at (whole_number 0 4294967295) (name_of key.PacketMs) ms) key.PacketMs n (λ x8.
    step _ _ (field_at (whole_number 0 4294967295) (name_of key.StaticNackMs) ms) key.StaticNackMs n (λ x9.
    inner _ _ _ (field_at (whole_number 1 65535) (name_of key.DeliverPort) ms) key.DeliverPort n (λ x10.
    inner _ _ _ (field_at (whole_number 1 65535) (name_of key.FeedbackPort) ms) key.FeedbackPort n (λ x11.
    inner _ _ _ (field_at (whole_number 1 65535) (name_of key.RelayPort) ms) key.RelayPort n (λ x12.
    refl)))))))))))))
entry_tells Two n ms =
    step _ _ (field_at (whole_number 0 65535) (name_of key.Number) ms) key.Number n (λ x0.
    step _ _ (field_at size (name_of key.Cid) ms) key.Cid n (λ x1.
    step _ _ (field_at (whole_number 0 65535) (name_of key.MaxCid) ms) key.MaxCid n (λ x2.
    step _ _ (field_at mode (name_of key.Mode) ms) key.Mode n (λ x3.
    step _ _ (field_at (whole_number 0 255) (name_of key.K1) ms) key.K1 n (λ x4.
    step _ _ (field_at (whole_number 0 255) (name_of key.N1) ms) key.N1 n (λ x5.
    step _ _ (field_at (whole_number 0 255) (name_of key.K2) ms) key.K2 n (λ x6.
    step _ _ (field_at (whole_number 0 255) (name_of key.N2) ms) key.N2 n (λ x7.
    step _ _ (field_at (whole_number 0 4294967295) (name_of key.PacketMs) ms) key.PacketMs n (λ x8.
    step _ _ (field_at (whole_number 0 4294967295) (name_of key.StaticNackMs) ms) key.StaticNackMs n (λ x9.
    inner _ _ _ (field_at (whole_number 1 65535) (name_of key.DeliverPort) ms) key.DeliverPort n (λ x10.
    inner _ _ _ (field_at (whole_number 1 65535) (name_of key.FeedbackPort) ms) key.FeedbackPort n (λ x11.
    inner _ _ _ (field_at (whole_number 1 65535) (name_of key.RelayPort) ms) key.RelayPort n (λ x12.
    step _ _ (field_at (whole_number 0 4294967295) (name_of key.IdleMs) ms) key.IdleMs n (λ x13.
    optional _ _ _ (get_member (name_of key.Range) ms) ranges key.Range n (λ x. refl)))))))))))))))

named : (b h : Bool) (n : ℕ) (name : List ℕ) (others : List (List ℕ)) (unfit : List Key) (rest : Option LinksFault)
    → first_fault n others unfit ≡ cond h rest (Some (UnknownKey n))
    → first_fault n (cond (not b) (name ∷ others) others) unfit ≡ cond (b && h) rest (Some (UnknownKey n))
named true h n name others unfit rest e = e
named false h n name others unfit rest e = refl

-- unknown names are the first fault
names_first : (known : List (List ℕ)) (ms : Members) (n : ℕ) (unfit : List Key)
    → first_fault n (names_beside known ms) unfit ≡ cond (has_only known ms) (first_fault n [] unfit) (Some (UnknownKey n))
names_first known no_members n unfit = refl
names_first known (member name d ms) n unfit =
    named (is_among known name) (has_only known ms) n name (names_beside known ms) unfit (first_fault n [] unfit) (names_first known ms n unfit)

judged : (b : Bool) (n : ℕ) (read : Result (LinkSetting × Ports) Key) (unfit : List Key) → Tells n read unfit
    → result_err (cond b (result_map_both (λ set. set) (BadKey n) read) (Err (UnknownKey n))) ≡ cond b (first_fault n [] unfit) (Some (UnknownKey n))
judged true n read unfit e = e
judged false n read unfit e = refl

pub tells_first : TellsFirst
unfolding has_known_keys
tells_first version n ms =
    judged (has_only (map name_of (keys version)) ms) n (entry_in version ms) (unfit_keys version ms) (entry_tells version n ms)
    ∙ sym (names_first (map name_of (keys version)) ms n (unfit_keys version ms))
