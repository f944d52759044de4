-- The parts of a save, one after the other.
use Rattle.std.proofs.Common.{inl, inr, ◌≡◌, ℕ, List, [], ◌∷◌, ◌++◌, append_assoc, refl, ◌∙◌, ap}
use Rattle.std.specs.Prelude.{Option, Ok, Err, Result, ⊤}
use Rattle.rohc_world.specs.declared.trouble.Trouble.{Trouble}
use Rattle.rohc_world.specs.Acts.{Act, Created, Closed, Renamed, Removed, SyncedFolder, AddsActs, Asks}
use Rattle.rohc_loop.specs.declared.unwritten.Unwritten.{Unwritten}
use Rattle.rohc_loop.specs.declared.unwritten.Unwritten.TheVariants.{Memory}
use Rattle.rohc_loop.specs.Paths.{IsFolder, beside}
use Rattle.rohc_loop.specs.Saving.{Fills, EndsFilling, EndsNaming, NotCreated, NotFilled, NotRenamed, NotSettled, Says, EndsSaving}
use Rattle.rohc_loop.proofs.AskLemmas.{adds_none, adds_more}

pub not_created : (before after : Option (List Act)) (date : ℕ) (new octets : List ℕ) (trouble : Trouble) →
    AddsActs before after (Created new (Err trouble) ∷ []) → Asks before after (EndsFilling date new octets (Err trouble))
not_created before after date new octets trouble told = record { acts = Created new (Err trouble) ∷ []; known = told; form = inl refl }

-- the new file is created, filled and closed
closed : (before one two after : Option (List Act)) (new : List ℕ) (filling : List Act) → AddsActs before one (Created new (Ok tt) ∷ []) →
    AddsActs one two filling → AddsActs two after (Closed ∷ []) → AddsActs before after (Created new (Ok tt) ∷ filling ++ Closed ∷ [])
closed before one two after new filling made known told =
    adds_more before two after (Created new (Ok tt) ∷ filling) (Closed ∷ [])
    (adds_more before one two (Created new (Ok tt) ∷ []) filling made known) told

pub new_filled : (before one two after : Option (List Act)) (date : ℕ) (new octets : List ℕ) → AddsActs before one (Created new (Ok tt) ∷ []) →
    Asks one two (Fills date octets (Ok tt)) → AddsActs two after (Closed ∷ []) → Asks before after (EndsFilling date new octets (Ok tt))
new_filled before one two after date new octets made h told = record {
  acts = Created new (Ok tt) ∷ h.acts ++ Closed ∷ [];
  known = closed before one two after new h.acts made h.known told;
  form = (h.acts, h.form, refl);
}

pub new_removed : (before one two three after : Option (List Act)) (date : ℕ) (new octets : List ℕ) (trouble : Trouble) (answer : Result ⊤ Trouble) →
    AddsActs before one (Created new (Ok tt) ∷ []) → Asks one two (Fills date octets (Err trouble)) → AddsActs two three (Closed ∷ []) →
    AddsActs three after (Removed new answer ∷ []) → Asks before after (EndsFilling date new octets (Err trouble))
new_removed before one two three after date new octets trouble answer made h told gone = record {
  acts = Created new (Ok tt) ∷ h.acts ++ Closed ∷ [] ++ Removed new answer ∷ [];
  known = adds_more before three after (Created new (Ok tt) ∷ h.acts ++ Closed ∷ []) (Removed new answer ∷ [])
      (closed before one two three new h.acts made h.known told) gone;
  form = inr (h.acts, answer, h.form, append_assoc (Created new (Ok tt) ∷ h.acts) (Closed ∷ []) (Removed new answer ∷ []));
}

pub not_renamed : (before mid after : Option (List Act)) (new path : List ℕ) (trouble : Trouble) (answer : Result ⊤ Trouble) →
    AddsActs before mid (Renamed new path (Err trouble) ∷ []) → AddsActs mid after (Removed new answer ∷ []) →
    Asks before after (EndsNaming new path (Err trouble))
not_renamed before mid after new path trouble answer told gone = record {
  acts = Renamed new path (Err trouble) ∷ Removed new answer ∷ [];
  known = adds_more before mid after (Renamed new path (Err trouble) ∷ []) (Removed new answer ∷ []) told gone;
  form = (answer, refl);
}

pub no_memory : (acts : Option (List Act)) (date : ℕ) (path octets : List ℕ) → Asks acts acts (EndsSaving date path octets (Err Memory))
no_memory acts date path octets = record { acts = []; known = adds_none acts; form = inl (refl, refl) }

-- the new file isn't created, or not filled
pub failed_filling : (before after : Option (List Act)) (date : ℕ) (path new at octets : List ℕ) (error : Unwritten) (trouble : Trouble) →
    new ≡ beside path → at ≡ beside path → Asks before after (EndsFilling date new octets (Err trouble)) → Says error at trouble →
    Asks before after (EndsSaving date path octets (Err error))
failed_filling before after date path new at octets error trouble is same h says = record {
  acts = h.acts;
  known = h.known;
  form = inr (elim h.form [
    | inl made ↦ record {
      ending = NotCreated trouble;
      saves = made ∙ ap (λ (l : List ℕ). Created l (Err trouble) ∷ []) is;
      at = at;
      trouble = trouble;
      fault = (same, refl);
      says = says;
    }
    | inr begun ↦ record {
      ending = NotFilled trouble;
      saves = (
        begun.0,
        begun.1,
        begun.2,
        begun.3 ∙ ap (λ (l : List ℕ). Created l (Ok tt) ∷ begun.0 ++ Closed ∷ Removed l begun.1 ∷ []) is,
      );
      at = at;
      trouble = trouble;
      fault = (same, refl);
      says = says;
    }
  ]);
}

-- the acts of a save whose new file is filled, and then more
further : (path new : List ℕ) (filling acts more : List Act) → new ≡ beside path → acts ≡ Created new (Ok tt) ∷ filling ++ Closed ∷ [] →
    acts ++ more ≡ Created (beside path) (Ok tt) ∷ filling ++ Closed ∷ more
further path new filling acts more is e =
    ap (λ (l : List Act). l ++ more) (e ∙ ap (λ (l : List ℕ). Created l (Ok tt) ∷ filling ++ Closed ∷ []) is)
    ∙ append_assoc (Created (beside path) (Ok tt) ∷ filling) (Closed ∷ []) more

pub failed_naming : (before mid after : Option (List Act)) (date : ℕ) (path new from octets : List ℕ) (error : Unwritten) (trouble : Trouble) →
    new ≡ beside path → from ≡ beside path → Asks before mid (EndsFilling date new octets (Ok tt)) →
    Asks mid after (EndsNaming from path (Err trouble)) → Says error path trouble → Asks before after (EndsSaving date path octets (Err error))
failed_naming before mid after date path new from octets error trouble is same h n says = record {
  acts = h.acts ++ n.acts;
  known = adds_more before mid after h.acts n.acts h.known n.known;
  form = inr (record {
    ending = NotRenamed trouble;
    saves = (
      h.form.0,
      n.form.0,
      h.form.1,
      further path new h.form.0 h.acts n.acts is h.form.2
          ∙ ap (λ (l : List Act). Created (beside path) (Ok tt) ∷ h.form.0 ++ Closed ∷ l)
          (n.form.1 ∙ ap (λ (l : List ℕ). Renamed l path (Err trouble) ∷ Removed l n.form.0 ∷ []) same),
    );
    at = path;
    trouble = trouble;
    fault = (refl, refl);
    says = says;
  });
}

-- the acts of a save up to the sync of the folder
up_to_folder : (before one two after : Option (List Act)) (date : ℕ) (path new from octets folder : List ℕ) (result : Result ⊤ Trouble) →
    Asks before one (EndsFilling date new octets (Ok tt)) → Asks one two (EndsNaming from path (Ok tt)) →
    AddsActs two after (SyncedFolder folder result ∷ []) → new ≡ beside path → from ≡ beside path →
    Asks before after (λ (acts : List Act). (filling : List Act) × Fills date octets (Ok tt) filling
    × (acts ≡ Created (beside path) (Ok tt) ∷ filling ++ Closed ∷ Renamed (beside path) path (Ok tt) ∷ SyncedFolder folder result ∷ []))
up_to_folder before one two after date path new from octets folder result h n told is same =
    let last = SyncedFolder folder result ∷ [] in
    record {
      acts = h.acts ++ (n.acts ++ last);
      known = adds_more before one after h.acts (n.acts ++ last) h.known (adds_more one two after n.acts last n.known told);
      form = (
        h.form.0,
        h.form.1,
        further path new h.form.0 h.acts (n.acts ++ last) is h.form.2
            ∙ ap (λ (l : List Act). Created (beside path) (Ok tt) ∷ h.form.0 ++ Closed ∷ (l ++ last))
            (n.form ∙ ap (λ (l : List ℕ). Renamed l path (Ok tt) ∷ []) same),
      );
    }

pub failed_folder : (before one two after : Option (List Act)) (date : ℕ) (path new from octets folder : List ℕ) (error : Unwritten) (trouble : Trouble) →
    new ≡ beside path → from ≡ beside path → Asks before one (EndsFilling date new octets (Ok tt)) →
    Asks one two (EndsNaming from path (Ok tt)) →
    IsFolder path folder → AddsActs two after (SyncedFolder folder (Err trouble) ∷ []) → Says error folder trouble →
    Asks before after (EndsSaving date path octets (Err error))
failed_folder before one two after date path new from octets folder error trouble is same h n place told says =
    let all = up_to_folder before one two after date path new from octets folder (Err trouble) h n told is same in
    record {
      acts = all.acts;
      known = all.known;
      form = inr (record {
        ending = NotSettled trouble;
        saves = (all.form.0, folder, all.form.1, place, all.form.2);
        at = folder;
        trouble = trouble;
        fault = (place, refl);
        says = says;
      });
    }

pub all_saved : (before one two after : Option (List Act)) (date : ℕ) (path new from octets folder : List ℕ) →
    new ≡ beside path → from ≡ beside path → Asks before one (EndsFilling date new octets (Ok tt)) →
    Asks one two (EndsNaming from path (Ok tt)) →
    IsFolder path folder → AddsActs two after (SyncedFolder folder (Ok tt) ∷ []) → Asks before after (EndsSaving date path octets (Ok tt))
all_saved before one two after date path new from octets folder is same h n place told =
    let all = up_to_folder before one two after date path new from octets folder (Ok tt) h n told is same in
    record { acts = all.acts; known = all.known; form = (all.form.0, folder, all.form.1, place, all.form.2) }
