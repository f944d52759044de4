-- A server's turns are one run of calls of its concentrator.
use Rattle.std.proofs.Common.{◌≡◌, ℕ, List, [], ◌∷◌, ◌++◌, Option, Some, None, refl, sym, subst}
use Rattle.rohc_concentrator.specs.declared.concentrator.Concentrator.{Concentrator}
use Rattle.rohc_concentrator.specs.Calls.{Arrive, Reported}
use Rattle.rohc_concentrator.specs.RunsCall.{Turn, Runs}
use Rattle.rohc_concentrator.proofs.OwnLemmas.{isolated_calls}
use Rattle.rohc_links.specs.Links.{Lists}
use Rattle.rohc_serve.specs.Outgoing.{Outgoing}
use Rattle.rohc_serve.specs.Datagram.{named_link, datagram_packet, AnswersOn}
use Rattle.rohc_serve.specs.Turns.{ServeTurn, Missed, Answered, ServesTurns}
use Rattle.rohc_serve.specs.Laws.{IsCall, AreCalls, ServedIsRun}

-- the calls of turns, and their run
module _ (links : Lists) where
  run_of : (turns : List ServeTurn) (old new : Concentrator) → ServesTurns links old turns new → (calls : List Turn) × AreCalls turns calls × Runs old calls new
  run_of [] old new same = ([], refl, same)
  run_of (Missed ∷ turns) old new (mid, same, rest) =
      let (calls, each, run) = run_of turns mid new rest in
      (calls, each, subst (λ k. Runs k calls new) same run)
  run_of (Answered moment octets outgoing attempts ∷ turns) old new (mid, (answer, offers), rest) =
      by (named_link octets) answer (run_of turns mid new rest)
    where
      packet : List ℕ
      packet = datagram_packet octets

      by : (link : Option ℕ) → AnswersOn links old moment link packet outgoing mid → (calls : List Turn) × AreCalls turns calls × Runs mid calls new →
          (calls : List Turn) × ((first later : List Turn) × IsCall link moment packet first × AreCalls turns later × (calls ≡ first ++ later)) × Runs old calls new
      by None (same, none) (calls, each, run) = (calls, ([], calls, refl, each, refl), subst (λ k. Runs k calls new) same run)
      by (Some link) (report, call, sent) (calls, each, run) =
          let first : Turn = record { link = link; call = Arrive moment packet; answer = Reported report } in
          (first ∷ calls, (first ∷ [], calls, (report, refl), each, refl), (mid, call, run))

pub served_is_run : ServedIsRun
served_is_run links old new turns serves =
    let (calls, each, run) = run_of links turns old new serves in
    record { calls = calls; each = each; run = run; isolated = isolated_calls old new calls run }
