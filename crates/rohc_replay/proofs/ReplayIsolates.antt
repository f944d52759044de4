-- A replay isolates each identifier of each link from all others.
use Rattle.std.proofs.Common.{◌≡◌, ℕ, ◌<◌, ◌^◌, List, [], ◌∷◌, ◌++◌, append-nil, map, if◌then◌else◌, filter, Bool, true, false, Option, Some, None, Result, Ok, Err, IfOk, IfSome, ⊎_elim, refl, sym, ◌∙◌, ap, subst}
use Rattle.std.specs.List.{flat_map, AllByRecursion}
use Rattle.rohc_context.specs.Response.{Response}
use Rattle.rohc_concentrator.specs.declared.concentrator.Concentrator.{Concentrator}
use Rattle.rohc_concentrator.specs.declared.setting.LinkSetting.{LinkSetting}
use Rattle.rohc_concentrator.specs.Setting.{settings_of}
use Rattle.rohc_concentrator.specs.Tables.{record_at}
use Rattle.rohc_concentrator.specs.Report.{Report, is_no_memory}
use Rattle.rohc_concentrator.specs.Events.{Event}
use Rattle.rohc_concentrator.specs.Isolation.{Pair, own_events, own_replies, is_rich, IsAnsweredAlone}
use Rattle.rohc_concentrator.specs.LoneRun.{LoneEvent, LoneRun, MarkedRun, unmarked}
use Rattle.rohc_concentrator.proofs.EventLemmas.{IsRichOrPoor, each_rich_or_poor, isolated_events}
use Rattle.rohc_concentrator.proofs.OutcomeLemmas.{is_no_memory-not}
use Rattle.rohc_concentrator.proofs.SameLemmas.{unmarked_with}
use Rattle.rohc_replay.specs.declared.tally.Tally.{Tally}
use Rattle.rohc_replay.specs.declared.fault.RunFault.{RunFault}
use Rattle.rohc_replay.specs.AnswerLines.{response_lines, text_of}
use Rattle.rohc_replay.specs.Isolation.{IsPair, Replay, is_pair_line, is_own_line, pair_lines, own_unmarked, own_line, own_marked, lines_left, left_of, IsToldAll, IsToldAlone, IsToldAlike, Isolates}
use Rattle.rohc_replay.specs.Lines.{has_newline}
use Rattle.rohc_replay.specs.Run.{Replays, marked_of}
use Rattle.rohc_replay.specs.Script.{Line, IsLine, AreLines, IsScript, lines_of}
use Rattle.rohc_replay.proofs.OwnLines.{filter-append, filter-within, reply_kept, poor_left_out}
use Rattle.rohc_replay.proofs.SplitLemmas.{lines_of-splits, lines_of-each}
use Rattle.rohc_replay.proofs.ToldLemmas.{marked_lines, AreFit, lines_fit, turns_of, turns_run, own_turns, run_told}
use Rattle.rohc_replay.proofs.WholeLemmas.{written_lines}

-- The lines of a marked run's replies without those of want of memory are the lines of the others.
rich_lines : (l c : ℕ) (replies : List Response) → AllByRecursion IsRichOrPoor replies → filter (is_own_line l c) (flat_map (response_lines l c) replies) ≡ flat_map (response_lines l c) (filter is_rich replies)
rich_lines l c [] each = refl
rich_lines l c (reply ∷ replies) each = filter-append (is_own_line l c) (response_lines l c reply) (flat_map (response_lines l c) replies) ∙ ⊎_elim
    (λ rich. let kept : is_no_memory reply.outcome ≡ false = is_no_memory-not reply.outcome rich in rw (reply_kept l c reply rich, rich_lines l c replies each.1, kept) refl)
    (λ poor. let none : filter (is_own_line l c) (response_lines l c reply) ≡ [] = ap (λ r. filter (is_own_line l c) (response_lines l c r)) poor ∙ poor_left_out l c in
    let wants : is_no_memory reply.outcome ≡ true = ap (λ (r : Response). is_no_memory r.outcome) poor in
    rw (none, wants) (rich_lines l c replies each.1))
    each.0

-- The lines that are left of a script: what they are, and that nothing of the pair's own is missing.
module _ (s : LinkSetting) (l c : ℕ) where
  abbrev pub left_lines : List (Line × Bool) → List Line
  left_lines [] = []
  left_lines ((line, mark) ∷ marked) = left_of (own_line s l c line) mark line ++ left_lines marked

  each_left : (octets : List ℕ) (events : List LoneEvent) (mark : Bool) (more : List (List ℕ)) → has_newline octets ≡ false → AllByRecursion (λ (line : List ℕ). has_newline line ≡ false) more →
      AllByRecursion (λ (line : List ℕ). has_newline line ≡ false) (left_of events mark octets ++ more)
  each_left octets [] mark more one each = each
  each_left octets (event ∷ events) true more one each = each
  each_left octets (event ∷ events) false more one each = (one, each)

  left_each : (texts : List (List ℕ)) (marked : List (Line × Bool)) → AllByRecursion (λ (line : List ℕ). has_newline line ≡ false) texts → AllByRecursion (λ (line : List ℕ). has_newline line ≡ false) (lines_left s l c texts marked)
  left_each [] marked each = tt
  left_each (octets ∷ texts) [] each = tt
  left_each (octets ∷ texts) ((line, mark) ∷ marked) each = each_left octets (own_line s l c line) mark (lines_left s l c texts marked) each.0 (left_each texts marked each.1)

  line_left : (octets : List ℕ) (line : Line) (events : List LoneEvent) (mark : Bool) (texts : List (List ℕ)) (lines : List Line) → IsLine octets line → AreLines texts lines → AreLines (left_of events mark octets ++ texts) (left_of events mark line ++ lines)
  line_left octets line [] mark texts lines is are = are
  line_left octets line (event ∷ events) true texts lines is are = are
  line_left octets line (event ∷ events) false texts lines is are = (is, are)

  are_left : (texts : List (List ℕ)) (marked : List (Line × Bool)) → AreLines texts (map (λ (m : Line × Bool). m.0) marked) → AreLines (lines_left s l c texts marked) (left_lines marked)
  are_left [] [] are = tt
  are_left [] (m ∷ marked) are = absurd are
  are_left (octets ∷ texts) [] are = absurd are
  are_left (octets ∷ texts) ((line, mark) ∷ marked) are = line_left octets line (own_line s l c line) mark (lines_left s l c texts marked) (left_lines marked) are.0 (are_left texts marked are.1)

  -- cutting the text of the lines that are left into lines gives them back
  pub script_left : (text : List ℕ) (marked : List (Line × Bool)) → IsScript text (map (λ (m : Line × Bool). m.0) marked) → IsScript (text_of (lines_left s l c (lines_of text) marked)) (left_lines marked)
  script_left text marked script =
      let texts = lines_left s l c (lines_of text) marked in
      let cut : lines_of (text_of texts) ≡ texts = lines_of-splits (text_of texts) texts [] (record {
        whole = sym (append-nil (text_of texts));
        each = left_each (lines_of text) marked (lines_of-each text);
        unfinished = refl;
      }) ∙ append-nil texts in
      subst (λ ts. AreLines ts (left_lines marked)) (sym cut) (are_left (lines_of text) marked script)

  line_own : (line : Line) (events : List LoneEvent) (mark : Bool) (more : List Line) → own_line s l c line ≡ events → (if mark then [] else events) ++ flat_map (own_line s l c) more ≡ flat_map (own_line s l c) (left_of events mark line ++ more)
  line_own line [] true more same = refl
  line_own line [] false more same = refl
  line_own line (event ∷ events) true more same = refl
  line_own line (event ∷ events) false more same = ap (λ es. es ++ flat_map (own_line s l c) more) (sym same)

  -- the pair's own events without the marked ones are those of the lines that are left
  pub own_left : (marked : List (Line × Bool)) → own_unmarked s l c marked ≡ flat_map (own_line s l c) (left_lines marked)
  own_left [] = refl
  own_left ((line, mark) ∷ marked) =
      unmarked_with mark (own_line s l c line) (own_marked s l c marked)
      ∙ ap (λ es. (if mark then [] else own_line s l c line) ++ es) (own_left marked)
      ∙ line_own line (own_line s l c line) mark (left_lines marked) refl

module _ (r : Replay) (p : Pair) where
  pub told_alike : (marked : List (Line × Bool)) → IsScript r.text (map (λ (m : Line × Bool). m.0) marked) → IsToldAlone r (own_unmarked p.setting p.link p.cid marked) p → IsToldAlike r marked p
  told_alike marked script told = record {
    lines = left_lines p.setting p.link p.cid marked;
    script = script_left p.setting p.link p.cid r.text marked script;
    alike = subst (λ es. IsToldAlone r es p) (own_left p.setting p.link p.cid marked) told;
  }

-- What a run of events is to a pair, its lines tell the pair.
module _ (r : Replay) (p : Pair) (turns : List (Event × Option Report)) (marked : List (Line × Bool)) (one : IsAnsweredAlone (record { before = r.before; after = r.after; turns = turns }) p)
    (own_lines : own_events p.setting p.link p.cid turns ≡ own_marked p.setting p.link p.cid marked) (told : pair_lines p.link p.cid r.written ≡ flat_map (response_lines p.link p.cid) (own_replies p.link p.cid turns)) where
  told_all : IsToldAll r marked p
  told_all = record {
    replies = own_replies p.link p.cid turns;
    run = subst (λ es. MarkedRun (settings_of p.setting p.cid) (record_at r.before p.link p.cid) es (own_replies p.link p.cid turns) (record_at r.after p.link p.cid)) own_lines one.answered;
    told = told;
  }

  told_alone : IsToldAlone r (own_unmarked p.setting p.link p.cid marked) p
  told_alone = record {
    replies = filter is_rich (own_replies p.link p.cid turns);
    run = subst (λ es. LoneRun (settings_of p.setting p.cid) (record_at r.before p.link p.cid) (unmarked es) (filter is_rich (own_replies p.link p.cid turns)) (record_at r.after p.link p.cid)) own_lines one.alone;
    told = filter-within (is_pair_line p.link p.cid) _ (lines_of r.written) ∙ ap (filter (is_own_line p.link p.cid)) told
        ∙ rich_lines p.link p.cid (own_replies p.link p.cid turns)
        (each_rich_or_poor (settings_of p.setting p.cid) (record_at r.before p.link p.cid) (record_at r.after p.link p.cid) (own_events p.setting p.link p.cid turns) (own_replies p.link p.cid turns) one.answered);
  }

pub replay_isolates : (old : Concentrator) (text : List ℕ) (held holding : Option (List ℕ)) (t : Tally) (new : Concentrator) → Replays (record { before = old; after = new; held = held; holding = holding }) text t → Isolates old text held holding new
replay_isolates old text held holding t new r =
    let fit : AreFit r.lines = lines_fit (lines_of text) r.lines r.script in
    let written = flat_map text_of r.answers in
    let replay : Replay = record { before = old; after = new; text = text; written = written } in
    let lines : lines_of written ≡ flat_map (λ a. a) r.answers = written_lines old r.lines r.answers new r.run fit in
    let marked = marked_of old r.lines r.answers new r.run in
    let script : IsScript text (map (λ (m : Line × Bool). m.0) marked) = subst (IsScript text) (sym (marked_lines old r.lines r.answers new r.run)) r.script in
    let turns = turns_of old r.lines r.answers new r.run in
    let isolated = isolated_events (record { before = old; after = new; turns = turns }) (turns_run old r.lines r.answers new r.run) in
    let told : (l c : ℕ) → l < 2 ^ 16 → c < 2 ^ 16 → pair_lines l c written ≡ flat_map (response_lines l c) (own_replies l c turns) =
    λ l c lf cf. ap (filter (is_pair_line l c)) lines ∙ run_told l c lf cf old r.lines r.answers new r.run fit in
    let alone : (p : Pair) → IsPair old p → IsToldAlone replay (own_unmarked p.setting p.link p.cid marked) p =
    λ p is. told_alone replay p turns marked (isolated.pairs p is.set) (own_turns p.setting p.link p.cid old r.lines r.answers new r.run) (told p.link p.cid is.link_fits is.cid_fits) in (
      written,
      r.written,
      record {
        marked = marked;
        script = script;
        answered = λ p is. told_all replay p turns marked (isolated.pairs p is.set) (own_turns p.setting p.link p.cid old r.lines r.answers new r.run) (told p.link p.cid is.link_fits is.cid_fits);
        alone = alone;
        taken_out = λ p is. told_alike replay p marked script (alone p is);
        settings = isolated.settings.each;
        absent = λ l c lf cf none. told l c lf cf ∙ ap (flat_map (response_lines l c)) (isolated.absent l c none);
      },
    )

pub isolates_where : (result : Result Tally RunFault) (remaining : Option (List ℕ)) (old new : Concentrator) (held holding : Option (List ℕ)) →
    IfOk result (λ t. IfSome remaining (λ input. Replays (record { before = old; after = new; held = held; holding = holding }) input t)) → IfOk result (λ t. IfSome remaining (λ input. Isolates old input held holding new))
isolates_where (Ok t) (Some input) old new held holding r = replay_isolates old input held holding t new r
isolates_where (Ok t) None old new held holding r = tt
isolates_where (Err e) remaining old new held holding r = tt
