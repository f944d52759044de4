-- The file that a save renames has all octets, and they are on the device.
use Rattle.std.proofs.Common.{inl, inr, ◌≡◌, ℕ, List, [], ◌∷◌, ◌++◌, take, drop, true, false, append_assoc, append-nil, take-append-drop, refl, sym, ◌∙◌, ap, subst}
use Rattle.std.specs.Prelude.{Ok, Err}
use Rattle.rohc_world.specs.declared.trouble.Trouble.{Trouble}
use Rattle.rohc_world.specs.Acts.{Act, Wrote, SetModified, Synced}
use Rattle.rohc_loop.specs.Paths.{beside}
use Rattle.rohc_loop.specs.Saving.{Takes, Fills, Saved, NotCreated, NotFilled, NotRenamed, NotSettled}
use Rattle.rohc_loop.specs.Laws.{NewFile, after, NamesWhole, RenamesWhole, SavesWhole}

-- after writes the file has what they took
takes_whole : (path all octets left : List ℕ) (file : NewFile) (writes rest : List Act) → Takes octets left writes →
    ((new : NewFile) → new.path ≡ file.path → new.octets ++ left ≡ file.octets ++ octets → RenamesWhole path all new rest) →
    RenamesWhole path all file (writes ++ rest)
takes_whole path all octets left file [] rest same h = h file refl (ap (λ (l : List ℕ). file.octets ++ l) same)
takes_whole path all octets left file (act ∷ acts) rest t h =
    let next : NewFile = record { path = file.path; octets = file.octets ++ take t.0 octets; is_synced = false } in
    let on = takes_whole path all (drop t.0 octets) left next acts rest t.3
    (λ (new : NewFile) same e. h new same
    (e ∙ append_assoc file.octets (take t.0 octets) (drop t.0 octets)
    ∙ ap (λ (l : List ℕ). file.octets ++ l) (take-append-drop t.0 octets))) in
    subst (λ (a : Act). NamesWhole path all file a × RenamesWhole path all (after file a) (acts ++ rest)) (sym t.2) (tt, on)

-- a file that is filled has all octets, and they are on the device
fills_whole : (date : ℕ) (path all octets : List ℕ) (file : NewFile) (filling rest : List Act) → Fills date octets (Ok tt) filling →
    ((new : NewFile) → new.path ≡ file.path → new.octets ≡ file.octets ++ octets → new.is_synced ≡ true → RenamesWhole path all new rest) →
    RenamesWhole path all file (filling ++ rest)
fills_whole date path all octets file filling rest f h =
    let on = takes_whole path all octets [] file f.0 (SetModified date f.1 ∷ Synced (Ok tt) ∷ rest) f.2
    (λ (new : NewFile) same e. (tt, (tt, h (record new { is_synced = true }) same (sym (append-nil new.octets) ∙ e) refl))) in
    subst (λ (l : List Act). RenamesWhole path all file l)
    (sym (ap (λ (l : List Act). l ++ rest) f.3 ∙ append_assoc f.0 (SetModified date f.1 ∷ Synced (Ok tt) ∷ []) rest)) on

-- a file that isn't filled, and then no rename
not_filled_whole : (date : ℕ) (path all octets : List ℕ) (trouble : Trouble) (file : NewFile) (filling rest : List Act) → Fills date octets (Err trouble) filling →
    ((new : NewFile) → RenamesWhole path all new rest) → RenamesWhole path all file (filling ++ rest)
not_filled_whole date path all octets trouble file filling rest (inl f) h =
    let last = Wrote f.left f.answer in
    let on = takes_whole path all octets f.left file f.writes (last ∷ rest) f.taken
    (λ (new : NewFile) same e. (tt, h (after new last))) in
    subst (λ (l : List Act). RenamesWhole path all file l)
    (sym (ap (λ (l : List Act). l ++ rest) f.last ∙ append_assoc f.writes (last ∷ []) rest)) on
not_filled_whole date path all octets trouble file filling rest (inr f) h =
    let last = Synced (Err trouble) in
    let on = takes_whole path all octets [] file f.0 (SetModified date f.1 ∷ last ∷ rest) f.2
    (λ (new : NewFile) same e. (tt, (tt, h (after new last)))) in
    subst (λ (l : List Act). RenamesWhole path all file l)
    (sym (ap (λ (l : List Act). l ++ rest) f.3 ∙ append_assoc f.0 (SetModified date f.1 ∷ last ∷ []) rest)) on

-- the new file, when it is created
abbrev empty : List ℕ → NewFile
empty path = record { path = beside path; octets = []; is_synced = false }

pub saves_whole : SavesWhole
saves_whole date path octets Saved file acts s =
    subst (λ (l : List Act). RenamesWhole path octets file l) (sym s.4)
    (tt, fills_whole date path octets octets (empty path) s.0 _ s.2 (λ new p o y. (tt, ((refl, sym p, o, y), (tt, tt)))))
saves_whole date path octets (NotCreated trouble) file acts s =
    subst (λ (l : List Act). RenamesWhole path octets file l) (sym s) (tt, tt)
saves_whole date path octets (NotFilled trouble) file acts s =
    subst (λ (l : List Act). RenamesWhole path octets file l) (sym s.3)
    (tt, not_filled_whole date path octets octets trouble (empty path) s.0 _ s.2 (λ new. (tt, (tt, tt))))
saves_whole date path octets (NotRenamed trouble) file acts s =
    subst (λ (l : List Act). RenamesWhole path octets file l) (sym s.3)
    (tt, fills_whole date path octets octets (empty path) s.0 _ s.2 (λ new p o y. (tt, ((refl, sym p, o, y), (tt, tt)))))
saves_whole date path octets (NotSettled trouble) file acts s =
    subst (λ (l : List Act). RenamesWhole path octets file l) (sym s.4)
    (tt, fills_whole date path octets octets (empty path) s.0 _ s.2 (λ new p o y. (tt, ((refl, sym p, o, y), (tt, tt)))))
