-- Calls of the library are one life.
use Rattle.std.proofs.Common.{◌≡◌, ℕ, List, [], ◌∷◌, ◌++◌, inl, inr, Option, Some, refl, sym, subst}
use Rattle.rohc_concentrator.specs.declared.concentrator.Concentrator.{Concentrator}
use Rattle.rohc_concentrator.specs.Calls.{Arrive, Reported}
use Rattle.rohc_concentrator.specs.RunsCall.{Turn, Runs}
use Rattle.rohc_concentrator.proofs.LinkCallLemmas.{isolated_links}
use Rattle.rohc_concentrator.proofs.OwnLemmas.{isolated_calls}
use Rattle.rohc_concentrator.proofs.SoundLemmas.{calls_keep_sound}
use Rattle.rohc_saved.specs.declared.fault.LinkFault.{LinkFault}
use Rattle.rohc_saved.specs.declared.fault.LinkFault.TheVariants as faults
use Rattle.rohc_saved.specs.LinkRestoring.{LinkFaultIn}
use Rattle.rohc_saved.specs.Restoring.{taken_of, puts_of}
use Rattle.rohc_saved.proofs.PutLemmas.{runs_append}
use Rattle.rohc_c.specs.AnyCalls.{Use, Arrives, ArriveMany, Calls, Restores, Fails, Looks, Uses, UseAll, Makes, MakeAll, AnyCalls}

abbrev Made : Use → Concentrator → Concentrator → Type 0
Made u k n = (turns : List Turn) × Makes u turns × Runs k turns n

fails : (link : ℕ) (octets : List ℕ) (status place : ℕ) (k n : Concentrator) (fault : LinkFault) → LinkFaultIn k link octets n fault → Made (Fails link octets status place) k n
fails link octets status place k n faults.NoMemory (s, ready, inl (stays, wants)) = ([], inl refl, stays)
fails link octets status place k n faults.NoMemory (s, ready, inr out) = (
  _,
  inr (record { setting = s; form = out.form; saved = out.saved; spells = out.spells; done = out.stops.done; one = out.stops.one; behind = out.stops.behind; parts = out.stops.parts; are = refl }),
  out.stops.runs,
)
fails link octets status place k n faults.NoLink (stays, why) = ([], inl refl, stays)
fails link octets status place k n faults.HasContexts first = ([], inl refl, first.0)
fails link octets status place k n (faults.Octets e) first = ([], inl refl, first.0)
fails link octets status place k n faults.OtherLink first = ([], inl refl, first.0)
fails link octets status place k n faults.OtherKind first = ([], inl refl, first.0)

makes : (u : Use) (k n : Concentrator) → Uses u k n → Made u k n
makes (Arrives link moment octets p a) k n (report, event, written) = (record { link = link; call = Arrive moment octets; answer = Reported report } ∷ [], (report, written, refl), (n, event, refl))
makes (ArriveMany packets octets room answers) k n (turns, told, runs) = (turns, told, runs)
makes (Calls link e status) k n (a, told, event) = (record { link = link; call = e; answer = a } ∷ [], (a, told, refl), (n, event, refl))
makes (Restores link octets r) k n u =
    let b = u.restores in
    (puts_of link (taken_of (Some b.setting) b.saved), (b.setting, b.form, b.saved, b.spells, refl), b.puts)
makes (Fails link octets status place) k n u = fails link octets status place k n u.fault u.first
makes Looks k n stays = ([], refl, stays)

some_is : (k n : Concentrator) → ◌≡◌ {A = Option Concentrator} (Some k) (Some n) → k ≡ n
some_is k n e = cc

lives : (k : Concentrator) (new : Option Concentrator) (uses : List Use) → UseAll (Some k) uses new → (n : Concentrator) × (turns : List Turn) × (new ≡ Some n) × MakeAll uses turns × Runs k turns n
lives k new [] run = (k, [], run, refl, refl)
lives k new (u ∷ uses) (mid, change, rest) =
    let (own, made, runs) = makes u k change.after (subst (λ b. Uses u b change.after) (sym (some_is k change.before change.was)) change.holds) in
    let (n, more, is, make, later) = lives change.after new uses (subst (λ o. UseAll o uses new) change.is rest) in
    (n, own ++ more, is, (own, more, made, make, refl), runs_append own more k change.after n runs later)

pub any_calls : AnyCalls
any_calls k new uses run =
    let (n, turns, is, make, runs) = lives k new uses run in
    (n, turns, is, make, record { runs = runs; cids = isolated_calls k n turns runs; links = isolated_links k n turns runs; sound = λ fit. calls_keep_sound k n turns fit runs })
