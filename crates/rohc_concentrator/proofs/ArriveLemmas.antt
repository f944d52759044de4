-- An arrival is one call.
use Rattle.std.proofs.Common.{◌≡◌, ◌≢◌, ℕ, List, Bool, true, false, ◌==◌, inl, inr, is_some, nat_eq, Option, Some, None, Result, Ok, Err, refl, sym, ap, ◌∙◌, subst, eq-eqb, eqb-true, if◌then◌else◌}
use Rattle.std.specs.List.{list_any}
use Rattle.rohc_frame.specs.Header.{Header}
use Rattle.rohc_frame.specs.Reading.{Reading}
use Rattle.rohc_frame.specs.Parts.{parts_of}
use Rattle.rohc_frame.specs.declared.refusal.FrameRefusal.{FrameRefusal}
use Rattle.rohc_context.specs.Record.{Record}
use Rattle.rohc_context.specs.Response.{Response}
use Rattle.rohc_context.proofs.StepLaws.{never_poor}
use Rattle.indexmap.specs.IndexMap.{keys}
use Rattle.rohc_context.specs.declared.refusal.Refusal.TheVariants as refusals
use Rattle.rohc_concentrator.specs.declared.concentrator.Concentrator.{Concentrator}
use Rattle.rohc_concentrator.specs.declared.records.LinkRecords.{LinkRecords}
use Rattle.rohc_concentrator.specs.declared.setting.LinkSetting.{LinkSetting}
use Rattle.rohc_concentrator.specs.Setting.{settings_of}
use Rattle.rohc_concentrator.specs.Tables.{setting_at, record_in, KeepsPlaces}
use Rattle.rohc_concentrator.specs.Bears.{header_in, cid_in}
use Rattle.rohc_concentrator.specs.Report.{Report, Arrived, Refused, OwnStep, IsCut, IsRead, is_no_memory}
use Rattle.rohc_concentrator.specs.Taken.{TakesOnLink}
use Rattle.rohc_concentrator.specs.Seen.{Seen}
use Rattle.rohc_concentrator.specs.Calls.{Arrive, Reported, LoneArrival, arrival_for}
use Rattle.rohc_concentrator.specs.Owns.{Owns, Steps}
use Rattle.rohc_concentrator.specs.RunsCall.{IsFrontOf, IsFrontIn, GoesLastOf, LinkStep, RunsCall}
use Rattle.rohc_concentrator.proofs.OutcomeLemmas.{is_no_memory-not}
use Rattle.rohc_concentrator.proofs.ViewLemmas.{view_of, view_in_is, view_none, listed_in, goes_last, call_runs}

-- the own step of a CID, or lack of memory
own_owns : (c m : ℕ) (h : Header) (v : Seen) (response : Response) (relayed : List (List ℕ)) (after : Option Record) → OwnStep v.settings m h v.held response after
    → Owns c (LoneArrival m h) (Some v) (Reported (Arrived h.cid response relayed)) (Some (record v { held = after }))
own_owns c m h v response relayed after (inl step) = rw (is_no_memory-not response.outcome (never_poor v.held v.settings m h response after step)) (response, after, step, refl, refl)
own_owns c m h v response relayed after (inr poor) =
    let stays : after ≡ v.held = poor.1 ∙ sym poor.0 in
    rw (ap (λ (r : Response). is_no_memory r.outcome) poor.2) (ap (λ z. Some (record v { held = z })) stays, (response, (poor.0, poor.0, poor.2, poor.3), refl))

-- a packet on a link, by its parts
module _ (m : ℕ) (report : Report) (s : LinkSetting) (held next : ℕ → Option Record) (old new : List ℕ) where
  abbrev seen : ℕ → Option Record → Option Seen
  seen c o = Some (record { settings = settings_of s c; held = o })

  abbrev Arrives-in : Result Reading FrameRefusal → Type 0
  Arrives-in parts = ((c : ℕ) → Steps c (arrival_for c m (header_in parts)) (seen c (held c)) (Reported report) (seen c (next c)))
      × IsFrontIn parts (Reported report) × GoesLastOf (cid_in (header_in parts)) (λ c. seen c (held c)) (λ c. seen c (next c)) old new

  arrives_in : (parts : Result Reading FrameRefusal) → IsRead s m parts held report next → ((c : ℕ) → cid_in (header_in parts) ≢ Some c → next c ≡ held c) → KeepsPlaces old new (cid_in (header_in parts)) held
      → ((c : ℕ) → list_any (nat_eq c) old ≡ is_some (held c)) → ((c : ℕ) → list_any (nat_eq c) new ≡ is_some (next c)) → Arrives-in parts
  arrives_in (Err refusal) a others order had has =
      (λ c. ap (seen c) (others c (λ e. let f : ◌≡◌ {A = Option ℕ} None (Some c) = e in cc)), ap (λ r. Reported r) a, order)
  arrives_in (Ok reading) a others order had has = by reading.header a others order
    where
      by : (header : Option Header) → IsCut s m reading.elements header held report next → ((c : ℕ) → cid_in header ≢ Some c → next c ≡ held c) → KeepsPlaces old new (cid_in header) held
          → ((c : ℕ) → Steps c (arrival_for c m header) (seen c (held c)) (Reported report) (seen c (next c)))
          × IsFrontOf reading.elements header (Reported report) × GoesLastOf (cid_in header) (λ c. seen c (held c)) (λ c. seen c (next c)) old new
      by None a others order = (λ c. ap (seen c) (others c (λ e. let f : ◌≡◌ {A = Option ℕ} None (Some c) = e in cc)), ap (λ r. Reported r) a, order)
      by (Some h) (response, e, step) others order =
          (λ c. own c (h.cid == c) refl, (response, ap (λ r. Reported r) e), goes_last (held h.cid) (next h.cid) h.cid old new order (had h.cid) (has h.cid))
        where
          own : (c : ℕ) (b : Bool) → (h.cid == c) ≡ b → Steps c (if b then Some (LoneArrival m h) else None) (seen c (held c)) (Reported report) (seen c (next c))
          own c true is =
              subst (λ r. Owns c (LoneArrival m h) (seen c (held c)) (Reported r) (seen c (next c))) (sym e)
              (own_owns c m h (record { settings = settings_of s c; held = held c }) response reading.elements (next c)
              (subst (λ d. OwnStep (settings_of s d) m h (held d) response (next d)) (eqb-true h.cid c is) step))
          own c false is =
              ap (seen c) (others c (λ e. let f : ◌≡◌ {A = Option ℕ} (Some h.cid) (Some c) = e in let g : h.cid ≡ c = cc in let owned : (h.cid == c) ≡ true = eq-eqb h.cid c g in let bad : false ≡ true = sym is ∙ owned in cc))

-- a packet on a link, by what is kept for it
pub takes_step : (old new : LinkRecords) (m : ℕ) (octets : List ℕ) (report : Report) → TakesOnLink old m octets report new
    → LinkStep (view_of (Some old)) (Arrive m octets) (Reported report) (view_of (Some new))
takes_step old new m octets report t =
    let parts = parts_of old.setting.settings.size old.setting.settings.max_cid octets in
    let all = arrives_in m report old.setting (record_in old) (record_in new) (keys old.contexts) (keys new.contexts) parts t.answer t.others t.order
    (λ c. listed_in c (Some old)) (λ c. listed_in c (Some new)) in
    subst (LinkStep (view_of (Some old)) (Arrive m octets) (Reported report))
    (sym (view_in_is new old.setting (record_in new) (keys new.contexts) t.setting (λ c. refl) refl))
    (record { each = all.0; setting = refl; front = all.1; order = all.2 })

-- a packet of a link that isn't there
pub absent_arrives : (k : Concentrator) (link m : ℕ) (octets : List ℕ) → setting_at k link ≡ None → RunsCall k link (Arrive m octets) (Reported (Refused refusals.NoLink)) k
absent_arrives k link m octets is =
    call_runs k k link (Arrive m octets) (Reported (Refused refusals.NoLink)) _ _ (view_none k link is) (view_none k link is)
    (record { each = λ c. refl; setting = refl; front = refl; order = refl }) (λ l other. refl) tt refl
