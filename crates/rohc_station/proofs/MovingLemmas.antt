-- A link is imported, and the datagrams that waited for it are answered.
use Rattle.std.proofs.Common.{◌≡◌, ℕ, List, [], ◌∷◌, ◌++◌, Some, Result, Ok, Err, inl, inr, refl, sym, ◌∙◌}
use Rattle.std.specs.Prelude.{IfOk, IfErr}
use Rattle.rohc_concentrator.specs.declared.setting.LinkSetting.{LinkSetting}
use Rattle.rohc_station.specs.declared.station.Station.{Station}
use Rattle.rohc_concentrator.specs.declared.concentrator.Concentrator.{Concentrator}
use Rattle.rohc_concentrator.specs.declared.putting.PutFault.TheVariants as put_faults
use Rattle.rohc_concentrator.specs.Calls.{Done, NotPut}
use Rattle.rohc_concentrator.specs.Tables.{KeepsAll}
use Rattle.rohc_concentrator.specs.Seen.{view_at}
use Rattle.rohc_concentrator.specs.RunsCall.{Turn}
use Rattle.rohc_concentrator.proofs.ViewLemmas.{view_stays}
use Rattle.rohc_saved.specs.declared.fault.LinkFault.{LinkFault}
use Rattle.rohc_saved.specs.declared.fault.LinkFault.TheVariants.{NoLink, HasContexts, Octets, OtherLink, OtherKind, NoMemory}
use Rattle.rohc_saved.specs.declared.restored.Restored.{Restored}
use Rattle.rohc_saved.specs.Restoring.{taken_of, put_turn, puts_of}
use Rattle.rohc_saved.specs.LinkRestoring.{RestoresLink, reset_turn, LinkFaultIn}
use Rattle.rohc_saved.proofs.LinkLaws.{link_comes_back}
use Rattle.rohc_saved.proofs.PutLemmas.{KeepsTurn, keep_settings, all_puts}
use Rattle.rohc_station.specs.Importing.{StopsImport, KeepsCounted, Imports}
use Rattle.rohc_station.specs.Moving.{MoveIsLife, IsMoved, MovedGoesOn}
use Rattle.rohc_station.proofs.LifeLemmas.{same_link_lives}
use Rattle.rohc_station.proofs.ServiceLemmas.{answers_in_life}

-- ---- The calls of an import

stops_import : (old new : Concentrator) (link : ℕ) (octets : List ℕ) (fault : LinkFault) → LinkFaultIn old link octets new fault → (calls : List Turn) × StopsImport old link octets fault calls new
stops_import old new link octets NoLink is = ([], inl (is.0, refl))
stops_import old new link octets HasContexts is = ([], inl (is.0, refl))
stops_import old new link octets (Octets e) is = ([], inl (is.0, refl))
stops_import old new link octets OtherLink is = ([], inl (is.0, refl))
stops_import old new link octets OtherKind is = ([], inl (is.0, refl))
stops_import old new link octets NoMemory (s, ready, inl (stays, may)) = ([], inl (stays, refl))
stops_import old new link octets NoMemory (s, ready, inr out) =
    (puts_of link out.stops.done ++ put_turn (NotPut put_faults.NoMemory) link out.stops.one ∷ reset_turn Done link ∷ [], inr (refl, (s, out, refl)))

pub imports_if : (old new : Station) (link : ℕ) (octets : List ℕ) (result : Result Restored LinkFault) → IfOk result (λ told. RestoresLink old.concentrator link octets told new.concentrator)
    → IfErr result (λ e. KeepsAll old.concentrator new.concentrator) → IfErr result (LinkFaultIn old.concentrator link octets new.concentrator) → KeepsCounted old new
    → (calls : List Turn) × Imports old new link octets result calls
imports_if old new link octets (Ok told) all stays fault keeps = (puts_of link (taken_of (Some all.setting) all.saved), record { puts = (all, refl); keeps = keeps })
imports_if old new link octets (Err e) all stays fault keeps =
    let (calls, stops) = stops_import old.concentrator new.concentrator link octets e fault in (calls, record { puts = (stays, fault, stops); keeps = keeps })

-- ---- A moved link goes on

pub move_is_life : MoveIsLife
move_is_life before old new link octets result calls duty held imports answers =
    let (turns, are, run) = answers_in_life duty old held new answers in (turns, are, (old.station, imports, run))

-- what the link sees there is what it saw here
same_view : (here there : Station) (s : LinkSetting) → IsMoved here there s → view_at here.concentrator s.link ≡ view_at there.concentrator s.link
same_view here there s moved =
    let all = moved.imports.puts.0 in
    let back = (link_comes_back here.concentrator moved.moment s moved.sound moved.fits moved.set_here).1 moved.before.concentrator there.concentrator moved.told moved.set_there all in
    let puts = taken_of (Some all.setting) all.saved in
    let settings = keep_settings (puts_of s.link puts) moved.before.concentrator there.concentrator (all_puts KeepsTurn (λ n c. tt) s.link puts) all.puts in
    sym (view_stays here.concentrator there.concentrator s.link (settings.each s.link ∙ moved.set_there ∙ sym moved.set_here) back.0 back.1)

pub moved_goes_on : MovedGoesOn
moved_goes_on a b s moved life_a life_b fit same = same_link_lives a b s.link life_a life_b fit (same_view a.before b.before s moved) same
