-- What a shot comes to is listed as the listing of its text says.
use Rattle.std.proofs.Common.{◌≡◌, ℕ, ◌≤◌, ◌∷◌, [], ◌++◌, map, min, is_ok, List, get_or, length, take, drop, replicate, Some, None, Ok, Err, Option, Result, refl, sym, ap, ap₂, ◌∙◌, subst, arith}
use Rattle.std.proofs.lemmas.List.{take_all, take_at, length-replicate}
use Rattle.calculus.specs.Cells.{blank, kind_cell}
use Rattle.calculus.specs.declared.cells.TermCell.{TermCell}
use Rattle.calculus.specs.declared.cells.TypeCell.{TypeCell}
use Rattle.verdict.specs.Faults.{Verdict}
use Rattle.checker.specs.Accepting.{program_verdict}
use Rattle.reader.specs.declared.faults.ReadFault.{ReadFault}
use Rattle.registers.specs.contracts.tape.TapeRegister.TheImpl.{ghosts}
use Rattle.registers.specs.Journal.{Reel, new_tape, tape_changes, tape_makes, tape_meaning, tape_reel}
use Rattle.registers.specs.Meaning.{Meaning, after_clear}
use Rattle.registers.specs.Telling.{tape_tells}
use Rattle.registers.specs.declared.journal.Entry.{Entry}
use Rattle.registers.specs.declared.journal.Entry.TheVariants.{Empty}
use Rattle.registers.specs.declared.tape.Tape.{Tape}
use Rattle.controller.specs.declared.faults.Refusal.{Refusal}
use Rattle.controller.specs.declared.faults.Stop.{Stop}
use Rattle.controller.specs.Loading.{load_answer}
use Rattle.controller.specs.Meant.{Standing}
use Rattle.controller.specs.Settled.{run_of}
use Rattle.controller.specs.Shots.{Held, nothing_held, program_held, root_cells}
use Rattle.controller.specs.Unloading.{collect_answer}
use Rattle.player.specs.declared.turns.Done.TheVariants.{Loaded}
use Rattle.player.specs.declared.turns.Turn.{Turn}
use Rattle.player.specs.declared.turns.Turn.TheVariants.{Load, Step, Run, Collect, Abandon}
use Rattle.player.specs.declared.turns.TurnFault.{TurnFault}
use Rattle.player.specs.declared.turns.TurnFault.TheVariants.{NotAccepted, Refused as RefusedCall}
use Rattle.player.specs.Stages.{Reply, Stage, stage, replied, as_run, as_collected, after_load}
use Rattle.player.proofs.Settled.{row_settled}
use Rattle.player.specs.Settled.{meant_stage, load_turn, run_start, run_turn, collect_turn, after_collect, turns_of}
use Rattle.listing.specs.declared.shots.Shot.{Shot}
use Rattle.listing.specs.Listing.{before_empty, run_lines, listing_lines}
use Rattle.listing.proofs.Ending.{CollectedSo, collected_so, few_root}
use Rattle.controller.specs.declared.faults.Stop.TheVariants.{Value as AtValue, Budget, Refused as StepRefused}
use Rattle.listing.specs.Listed.{pulses_of, lines_of_run, lines_after_load, lines_after_check, lines_of_cells, lines_after_read, lines_of_text}
use Rattle.listing.proofs.Journal.{entries, turns_keep}
use Rattle.listing.proofs.Played.{three}
use Rattle.listing.specs.Replies.{run_report, Reports}
use Rattle.listing.specs.declared.replies.RunReport.{RunReport}
use Rattle.listing.specs.Playing.{alternating, shot_of_report, Loads, RowOfShot, fresh_stage, CellsPlayed, ReadAndPlayed, TextPlayed}
use Rattle.reader.specs.Reading.{reading_of}

-- a stage's tables and journal, by what its tape means
pub record Ended (end : Stage Tape) (b : Stage (Meaning Reel)) : Type 0 where
  pub value : end.value ≡ b.value
  pub kinds : end.kinds ≡ b.kinds
  pub entries : (tape_reel end.register).entries ≡ b.register.content.entries

-- a stage with new tables for a value and its type
abbrev on_tables : Standing Reel → Stage (Meaning Reel)
on_tables last = stage last.shot last.register last.work (replicate 1024 blank) (replicate 256 (kind_cell 0))

-- the lines of equal runs
same_lines : (n : ℕ) (p : Stop) {ks ls : List TypeCell} {xs ys : List TermCell} {es fs : List Entry} → ks ≡ ls → xs ≡ ys → es ≡ fs → run_lines n p ks xs es ≡ run_lines n p ls ys fs
same_lines n p {ks = ks} {ls = ls} {xs = xs} {ys = ys} {es = es} c d e =
    ap (λ z. run_lines n p z xs es) c ∙ ap (λ z. run_lines n p ls z es) d ∙ ap (run_lines n p ls ys) e

-- what the answers to a load, a run and a collect report
abbrev pub report_from : Result ℕ Refusal → Result (ℕ × Stop) Refusal → Result (ℕ × ℕ) Refusal → Result RunReport TurnFault
report_from (Err f) r c = Err (RefusedCall f)
report_from (Ok n) (Err f) c = Err (RefusedCall f)
report_from (Ok n) (Ok (steps, stop)) (Err f) = Ok (run_report steps stop 0 0)
report_from (Ok n) (Ok (steps, stop)) (Ok (cells, kinds)) = Ok (run_report steps stop cells kinds)

reported_so : (l : Result ℕ Refusal) (r : Result (ℕ × Stop) Refusal) (c : Result (ℕ × ℕ) Refusal) (t : Result RunReport TurnFault)
    → Reports (Some (replied Loaded l)) (Some (replied as_run r)) (Some (replied as_collected c)) t → t ≡ report_from l r c
reported_so (Err f) r c t e = e
reported_so (Ok n) (Err f) c t e = e
reported_so (Ok n) (Ok (steps, stop)) (Err f) t e = e
reported_so (Ok n) (Ok (steps, stop)) (Ok (cells, kinds)) t e = e

so_reported : (l : Result ℕ Refusal) (r : Result (ℕ × Stop) Refusal) (c : Result (ℕ × ℕ) Refusal)
    → Reports (Some (replied Loaded l)) (Some (replied as_run r)) (Some (replied as_collected c)) (report_from l r c)
so_reported (Err f) r c = refl
so_reported (Ok n) (Err f) c = refl
so_reported (Ok n) (Ok (steps, stop)) (Err f) = refl
so_reported (Ok n) (Ok (steps, stop)) (Ok (cells, kinds)) = refl

module _ (end : Stage Tape) where
  -- a run that stopped at no value, of which nothing was collected
  none_is_listed : (n steps : ℕ) (stop : Stop) (last : Standing Reel) (f : Refusal) → collect_answer last.shot 1024 256 ≡ Err f
      → Ended end (after_collect tape_changes tape_tells (on_tables last) (collect_answer last.shot 1024 256))
      → listing_lines (shot_of_report (report_from (Ok n) (Ok (steps, stop)) (collect_answer last.shot 1024 256)) end) ≡ run_lines steps stop [] [] (pulses_of last)
  none_is_listed n steps stop last f q e =
      let d = subst (λ c. Ended end (after_collect tape_changes tape_tells (on_tables last) c)) q e in
      ap (λ c. listing_lines (shot_of_report (report_from (Ok n) (Ok (steps, stop)) c) end)) q ∙ ap (run_lines steps stop [] []) (ap before_empty d.entries)

  -- a run after a load that was made
  ran_is_listed : (n : ℕ) (x : Result (ℕ × Stop) Refusal × Standing Reel) → CollectedSo x
      → Ended end (after_collect tape_changes tape_tells (on_tables x.1) (collect_answer x.1.shot 1024 256))
      → listing_lines (shot_of_report (report_from (Ok n) x.0 (collect_answer x.1.shot 1024 256)) end) ≡ lines_of_run x
  ran_is_listed n (Ok (steps, AtValue), last) q e =
      let d = subst (λ c. Ended end (after_collect tape_changes tape_tells (on_tables last) c)) q e in
      let cells = ap (take (length last.shot.cells)) d.value ∙ take_at last.shot.cells _ (length last.shot.cells) refl in
      let type = ap (take (length last.shot.kinds)) d.kinds ∙ take_at last.shot.kinds _ (length last.shot.kinds) refl in
      ap (λ c. listing_lines (shot_of_report (report_from (Ok n) (Ok (steps, AtValue)) c) end)) q ∙ same_lines steps AtValue type cells (ap before_empty d.entries)
  ran_is_listed n (Ok (steps, Budget), last) q e = none_is_listed n steps Budget last q.0 q.1 e
  ran_is_listed n (Ok (steps, StepRefused f place), last) q e = none_is_listed n steps (StepRefused f place) last q.0 q.1 e
  ran_is_listed n (Err f, last) q e = refl

module _ (end : Stage Tape) where
  -- what is collected into new tables
  collected : (last : Standing Reel) (w : List TermCell) (c d : Result (ℕ × ℕ) Refusal) → c ≡ d
      → Ended end (after_collect tape_changes tape_tells (stage last.shot last.register w (replicate 1024 blank) (replicate 256 (kind_cell 0))) c)
      → Ended end (after_collect tape_changes tape_tells (on_tables last) d)
  collected last w c d q e =
      beside d (subst (λ c. Ended end (after_collect tape_changes tape_tells (stage last.shot last.register w (replicate 1024 blank) (replicate 256 (kind_cell 0))) c)) q e)
    where
      beside : (c : Result (ℕ × ℕ) Refusal) → Ended end (after_collect tape_changes tape_tells (stage last.shot last.register w (replicate 1024 blank) (replicate 256 (kind_cell 0))) c)
          → Ended end (after_collect tape_changes tape_tells (on_tables last) c)
      beside (Ok n) e = record { value = e.value; kinds = e.kinds; entries = e.entries }
      beside (Err f) e = record { value = e.value; kinds = e.kinds; entries = e.entries }

-- where a shot begins, but for its load
abbrev begin : Held → Stage (Meaning Reel)
begin h = stage h (after_clear tape_changes (new_tape 8 (alternating 64) (replicate 64 Empty))) (replicate 1024 blank) (replicate 1024 blank) (replicate 256 (kind_cell 0))

abbrev ran_from : Stage (Meaning Reel) → Reply × Stage (Meaning Reel)
ran_from a = run_turn tape_changes tape_tells 1000 1024 a

abbrev collected_from : Stage (Meaning Reel) → Reply × Stage (Meaning Reel)
collected_from a = collect_turn tape_changes tape_tells 1024 256 a

room : (n : ℕ) {X : Type 0} (x : X) → min n (length (replicate n x)) ≡ n
room n x = let l = length-replicate n x in omega arith

-- a shot whose load was answered so
abbrev after_begin : List TypeCell → List TermCell → Result ℕ Refusal → Reply × Stage (Meaning Reel)
after_begin types terms x = ran_from (after_load types terms (begin nothing_held) x)

module _ (end : Stage Tape) where
  loaded_is_listed : (types : List TypeCell) (terms : List TermCell) (x : Result ℕ Refusal) (t : Result RunReport TurnFault)
      → Ended end (collected_from (after_begin types terms x).1).1
      → Reports (Some (replied Loaded x)) (Some (after_begin types terms x).0) (Some (collected_from (after_begin types terms x).1).0) t
      → length (root_cells types terms) ≤ 256 → listing_lines (shot_of_report t end) ≡ lines_after_load types terms x
  loaded_is_listed types terms (Ok n) t e r few =
      let start : List TermCell → Standing Reel = λ w. record { shot = program_held types terms; register = (begin nothing_held).register; work = w } in
      let from = λ (w : List TermCell). run_of tape_changes tape_tells 1000 (start w) in
      let table = take 1024 (replicate 1024 blank) in
      let x : Result (ℕ × Stop) Refusal × Standing Reel = from table in
      let all : table ≡ replicate 1024 blank = take_all 1024 (replicate 1024 blank) (let l = length-replicate 1024 blank in omega arith) in
      let rooms = ap₂ (collect_answer x.1.shot) (room 1024 blank) (room 256 (kind_cell 0)) in
      let told = subst (λ c. Reports (Some (Ok (Loaded n))) (Some (replied as_run x.0)) (Some (replied as_collected c)) t) rooms r in
      ap (λ t. listing_lines (shot_of_report t end)) (reported_so (Ok n) x.0 _ t told)
      ∙ ran_is_listed end n x (collected_so 1000 (start table) few) (collected end x.1 (x.1.work ++ drop 1024 (replicate 1024 blank)) _ _ rooms e)
      ∙ ap lines_of_run (ap from all)
  loaded_is_listed types terms (Err f) t e r few = ap (λ t. listing_lines (shot_of_report t end)) r

  checked_is_listed : (types : List TypeCell) (terms : List TermCell) (v : Verdict) (t : Result RunReport TurnFault) → program_verdict types terms ≡ v
      → Ended end (collected_from (ran_from (load_turn tape_changes tape_tells types terms (begin nothing_held) v).1).1).1
      → Reports (Some (load_turn tape_changes tape_tells types terms (begin nothing_held) v).0)
      (Some (ran_from (load_turn tape_changes tape_tells types terms (begin nothing_held) v).1).0)
      (Some (collected_from (ran_from (load_turn tape_changes tape_tells types terms (begin nothing_held) v).1).1).0) t
      → listing_lines (shot_of_report t end) ≡ lines_after_check types terms v
  checked_is_listed types terms (Ok u) t q e r = loaded_is_listed types terms (load_answer tape_makes nothing_held terms) t e r (few_root types terms (ap is_ok q))
  checked_is_listed types terms (Err f) t q e r = ap (λ t. listing_lines (shot_of_report t end)) r

-- what the turns of a shot come to
abbrev pub shot_turns : Turn → Meaning Reel → List Reply × Stage (Meaning Reel)
shot_turns load m = turns_of tape_changes tape_tells (load ∷ Run 1000 1024 ∷ Collect 1024 256 ∷ []) (stage nothing_held (after_clear tape_changes m) (replicate 1024 blank) (replicate 1024 blank) (replicate 256 (kind_cell 0)))

-- three replies report so
abbrev pub TheseReport : List (Option Reply) → Result RunReport TurnFault → Type 0
TheseReport [] t = ⊥
TheseReport (l ∷ []) t = ⊥
TheseReport (l ∷ r ∷ []) t = ⊥
TheseReport (l ∷ r ∷ c ∷ []) t = Reports l r c t
TheseReport (l ∷ r ∷ c ∷ d ∷ ds) t = ⊥

-- the replies to the turns of a shot
abbrev pub shot_replies : Turn → Meaning Reel → List (Option Reply)
shot_replies load m = map Some (shot_turns load m).0 ++ drop (length (shot_turns load m).0) (replicate 3 None)

pub row_is_listed : (types : List TypeCell) (terms : List TermCell) (load : Turn) (m : Meaning Reel) (replies : List (Option Reply)) (end : Stage Tape) (t : Result RunReport TurnFault)
    → Loads types terms load → m ≡ new_tape 8 (alternating 64) (replicate 64 Empty)
    → replies ≡ shot_replies load m → Ended end (shot_turns load m).1 → TheseReport replies t → listing_lines (shot_of_report t end) ≡ lines_of_cells types terms
row_is_listed types terms (Load types' terms') m replies end t l q e d r = go m q d (subst (λ ys. TheseReport ys t) e r) ∙ ap₂ lines_of_cells l.0 l.1
  where
    go : (m : Meaning Reel) → m ≡ new_tape 8 (alternating 64) (replicate 64 Empty) → Ended end (shot_turns (Load types' terms') m).1
        → TheseReport (shot_replies (Load types' terms') m) t → listing_lines (shot_of_report t end) ≡ lines_of_cells types'.now terms'.now
    go m q d r =
        checked_is_listed end types'.now terms'.now (program_verdict types'.now terms'.now) t refl
        (subst (λ m. Ended end (shot_turns (Load types' terms') m).1) q d)
        (subst (λ m. TheseReport (shot_replies (Load types' terms') m) t) q r)
row_is_listed types terms (Step room) m replies end t l q e d r = absurd l
row_is_listed types terms (Run budget room) m replies end t l q e d r = absurd l
row_is_listed types terms (Collect room kind_room) m replies end t l q e d r = absurd l
row_is_listed types terms Abandon m replies end t l q e d r = absurd l

-- the replies to a load, a run and a collect report something
module _ (types : List TypeCell) (terms : List TermCell) (a : Stage (Meaning Reel)) where
  abbrev loaded_from : Verdict → Reply × Stage (Meaning Reel)
  loaded_from v = load_turn tape_changes tape_tells types terms a v

  some_report : (v : Verdict) → (t : Result RunReport TurnFault)
      × Reports (Some (loaded_from v).0) (Some (ran_from (loaded_from v).1).0) (Some (collected_from (ran_from (loaded_from v).1).1).0) t
  some_report (Ok u) =
      let x = load_answer a.register.makes a.shot terms in
      let b = after_load types terms a x in
      let y = run_of tape_changes tape_tells 1000 (run_start tape_changes tape_tells 1024 b) in
      let z = collect_answer y.1.shot (min 1024 (length b.value)) (min 256 (length b.kinds)) in
      (report_from x y.0 z, so_reported x y.0 z)
  some_report (Err f) = (Err (NotAccepted f), refl)

pub row_reports : (types : List TypeCell) (terms : List TermCell) (load : Turn) (m : Meaning Reel) → Loads types terms load → (t : Result RunReport TurnFault) × TheseReport (shot_replies load m) t
row_reports types terms (Load types' terms') m l =
    some_report types'.now terms'.now (stage nothing_held (after_clear tape_changes m) (replicate 1024 blank) (replicate 1024 blank) (replicate 256 (kind_cell 0))) (program_verdict types'.now terms'.now)
row_reports types terms (Step room) m l = absurd l
row_reports types terms (Run budget room) m l = absurd l
row_reports types terms (Collect room kind_room) m l = absurd l
row_reports types terms Abandon m l = absurd l

-- the row of a shot on a new tape: what its turns come to
pub row_comes_to : (tape : Tape) (load : Turn) (replies : List (Option Reply)) (end : Stage Tape)
    → RowOfShot ghosts tape load replies end
    → (replies ≡ shot_replies load (tape_meaning tape)) × (meant_stage ghosts end ≡ (shot_turns load (tape_meaning tape)).1)
row_comes_to tape load replies end p = row_settled ghosts (fresh_stage tape) (load ∷ Run 1000 1024 ∷ Collect 1024 256 ∷ []) (replicate 3 None) replies end p tape_tells (λ r. refl)

pub played_is_listed : (types : List TypeCell) (terms : List TermCell) (s : Shot) → CellsPlayed ghosts types terms s → listing_lines s ≡ lines_of_cells types terms
played_is_listed types terms s p =
    let e = row_comes_to p.tape p.load (p.loaded ∷ p.run ∷ p.collected ∷ []) p.end p.played in
    ap listing_lines p.shot
    ∙ row_is_listed types terms p.load (tape_meaning p.tape) (p.loaded ∷ p.run ∷ p.collected ∷ []) p.end p.report p.loads p.is_new e.0
    (record { value = ap (λ (a : Stage (Meaning Reel)). a.value) e.1; kinds = ap (λ (a : Stage (Meaning Reel)). a.kinds) e.1; entries = ap (λ (a : Stage (Meaning Reel)). a.register.content.entries) e.1 })
    p.reports

-- the replies to a row that is played report something
pub reports_here : (types : List TypeCell) (terms : List TermCell) (tape : Tape) (load : Turn) (replies : List (Option Reply)) (end : Stage Tape) → Loads types terms load → length replies ≡ 3
    → RowOfShot ghosts tape load replies end
    → (t : Result RunReport TurnFault) × Reports (get_or replies 0 None) (get_or replies 1 None) (get_or replies 2 None) t
reports_here types terms tape load replies end l n p =
    let e = row_comes_to tape load replies end p in
    let r = row_reports types terms load (tape_meaning tape) l in
    (r.0, subst (λ ys. TheseReport ys r.0) (sym e.0 ∙ three replies None n) r.1)

-- the journal keeps its length
pub entries_here : (types : List TypeCell) (terms : List TermCell) (tape : Tape) (load : Turn) (replies : List (Option Reply)) (end : Stage Tape)
    → Loads types terms load → tape_meaning tape ≡ new_tape 8 (alternating 64) (replicate 64 Empty)
    → RowOfShot ghosts tape load replies end → length (tape_reel end.register).entries ≡ 64
entries_here types terms tape (Load types' terms') replies end l q p =
    ap (λ (b : Stage (Meaning Reel)). entries b.register) (row_comes_to tape (Load types' terms') replies end p).1
    ∙ turns_keep types'.now terms'.now 1000 1024 1024 256 (stage nothing_held (after_clear tape_changes (tape_meaning tape)) (replicate 1024 blank) (replicate 1024 blank) (replicate 256 (kind_cell 0))) (program_verdict types'.now terms'.now)
    ∙ ap entries q
entries_here types terms tape (Step room) replies end l q p = absurd l
entries_here types terms tape (Run budget room) replies end l q p = absurd l
entries_here types terms tape (Collect room kind_room) replies end l q p = absurd l
entries_here types terms tape Abandon replies end l q p = absurd l

-- a shot that is what such a row's replies report
pub cells_played : (types : List TypeCell) (terms : List TermCell) (tape : Tape) (load : Turn) (replies : List (Option Reply)) (end : Stage Tape) (t : Result RunReport TurnFault) (s : Shot)
    → Loads types terms load → tape_meaning tape ≡ new_tape 8 (alternating 64) (replicate 64 Empty) → length replies ≡ 3
    → RowOfShot ghosts tape load replies end
    → Reports (get_or replies 0 None) (get_or replies 1 None) (get_or replies 2 None) t → s ≡ shot_of_report t end → CellsPlayed ghosts types terms s
cells_played types terms tape load replies end t s l q n p r e = record {
  load = load;
  loads = l;
  tape = tape;
  is_new = q;
  loaded = get_or replies 0 None;
  run = get_or replies 1 None;
  collected = get_or replies 2 None;
  end = end;
  played = subst (λ ys. RowOfShot ghosts tape load ys end) (three replies None n) p;
  report = t;
  reports = r;
  shot = e;
}

read_is_listed : (x : Result (ℕ × ℕ) ReadFault) (types : List TypeCell) (terms : List TermCell) (s : Shot) → ReadAndPlayed ghosts x types terms s → listing_lines s ≡ lines_after_read x types terms
read_is_listed (Ok n) types terms s p = played_is_listed (take n.0 types) (take n.1 terms) s p
read_is_listed (Err f) types terms s p = ap listing_lines p

pub text_is_listed : (text : List ℕ) (s : Shot) → TextPlayed ghosts text s → listing_lines s ≡ lines_of_text text
text_is_listed text s p = read_is_listed (reading_of text).answer (reading_of text).types (reading_of text).terms s p
