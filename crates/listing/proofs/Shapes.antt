-- What shape a listing has, and where T and M stand.
use Rattle.std.proofs.Common.{◌≡◌, ℕ, zero, suc, ◌+◌, ◌<◌, List, [], ◌∷◌, ◌++◌, length, map, take, get_or, decimal, Contains, ⊎_elim, Ok, Err, Result, refl, sym, ◌∙◌, subst, arith}
use Rattle.std.specs.List.{AllByRecursion, enumerate_from}
use Rattle.calculus.specs.Cells.{type_cells}
use Rattle.calculus.specs.Reading.{type_at}
use Rattle.calculus.specs.Types.{Ty}
use Rattle.calculus.specs.declared.cells.TermCell.{TermCell}
use Rattle.calculus.specs.declared.cells.TypeCell.{TypeCell}
use Rattle.checker.specs.Accepting.{program_verdict}
use Rattle.reader.specs.declared.faults.ReadFault.{ReadFault}
use Rattle.registers.specs.Journal.{Reel, tape_changes, tape_makes}
use Rattle.registers.specs.Telling.{tape_tells}
use Rattle.registers.specs.declared.journal.Entry.{Entry}
use Rattle.verdict.specs.Faults.{Verdict}
use Rattle.controller.specs.declared.faults.ControllerFault.{ControllerFault}
use Rattle.controller.specs.declared.faults.Refusal.{Refusal}
use Rattle.controller.specs.declared.faults.Stop.{Stop}
use Rattle.controller.specs.declared.faults.Stop.TheVariants.{Value as AtValue, Budget, Refused}
use Rattle.controller.specs.Faults.{fault_number, ready_answer}
use Rattle.controller.specs.Loading.{load_answer}
use Rattle.controller.specs.Meant.{Standing}
use Rattle.controller.specs.Settled.{Ended, run_from, run_if_ready}
use Rattle.controller.specs.Shots.{nothing_held, root_claim}
use Rattle.listing.specs.Listing.{call, code_of, with_dashes, pulse_line, pulse_lines, refusal_line, run_lines, steps_line, stop_lines}
use Rattle.listing.proofs.Ending.{Ends, EndsBy, run_ends, value_meant}
use Rattle.listing.specs.Listed.{pulses_of, start_of_run, lines_of_run, lines_after_load, lines_after_check, lines_after_read, lines_of_text}
use Rattle.reader.specs.Reading.{reading_of}
use Rattle.listing.specs.Shapes.{TellsCell, Shape, not_loaded, at_value, at_budget, at_refusal}

-- the shape of a run's listing, by how the run ends
module _ (e : Ended Reel) (a : Standing Reel) (h : Ends 1000 a e) (none_made : a.shot.steps ≡ 0) (type : Ty) (is_type : a.shot.kinds ≡ type_cells type) where
  by_stop : (stop : Stop) → EndsBy 1000 a e stop → Shape (lines_of_run (Ok (e.made, stop), e.last))
  by_stop AtValue q =
      let (v, means, is) = value_meant e.last.shot.cells q in
      subst (λ ks. Shape (run_lines e.made AtValue ks e.last.shot.cells (pulses_of e.last))) (sym (h.kinds ∙ is_type))
      (at_value e.made type e.last.shot.cells (pulses_of e.last) v means is)
  by_stop Budget q = subst (λ n. Shape (run_lines n Budget [] [] (pulses_of e.last))) (sym q.1) (at_budget (pulses_of e.last))
  by_stop (Refused f place) q =
      let made = h.steps (omega (arith, none_made)) in
      let same : place ≡ e.made = omega (arith, q.1, made, none_made) in
      subst (λ n. Shape (run_lines e.made (Refused f n) [] [] (pulses_of e.last))) (sym same) (at_refusal e.made f (pulses_of e.last))

module _ (types : List TypeCell) (terms : List TermCell) where
  ran : (x : Result (Unit {0}) ControllerFault) → Shape (lines_of_run (run_if_ready tape_changes tape_tells 1000 (start_of_run types terms) x))
  ran (Ok u) =
      let a = start_of_run types terms in
      let e = run_from tape_changes tape_tells 1000 a in
      let h = run_ends 1000 a in
      by_stop e a h refl (type_at types (root_claim terms)) refl e.stop h.by
  ran (Err f) = not_loaded _ _

  loaded : (x : Result ℕ Refusal) → Shape (lines_after_load types terms x)
  loaded (Ok n) = ran (ready_answer (length (start_of_run types terms).shot.cells) (length (start_of_run types terms).work))
  loaded (Err f) = not_loaded _ _

  checked : (v : Verdict) → Shape (lines_after_check types terms v)
  checked (Ok u) = loaded (load_answer tape_makes nothing_held terms)
  checked (Err f) = not_loaded _ _

shape_read : (x : Result (ℕ × ℕ) ReadFault) (types : List TypeCell) (terms : List TermCell) → Shape (lines_after_read x types terms)
shape_read (Ok n) types terms = checked (take n.0 types) (take n.1 terms) (program_verdict (take n.0 types) (take n.1 terms))
shape_read (Err f) types terms = not_loaded _ _

pub shape_of : (text : List ℕ) → Shape (lines_of_text text)
shape_of text = shape_read (reading_of text).answer (reading_of text).types (reading_of text).terms

-- lines of another letter tell no cell
abbrev Other : List (List ℕ) → Type 0
Other line = TellsCell line → ⊥

other : (a : ℕ) (fs : List (List ℕ)) → (a ≡ 84 → ⊥) → (a ≡ 77 → ⊥) → Other ((a ∷ []) ∷ fs)
other a fs t m h = ⊎_elim (λ e. t cc) (λ e. m cc) h

others_pulses : (n : ℕ) (es : List Entry) → AllByRecursion Other (map (λ p. pulse_line p.0 p.1) (enumerate_from n es))
others_pulses n [] = tt
others_pulses n (e ∷ es) = (other 74 (decimal n ∷ with_dashes (call e)) (λ e. omega arith) (λ e. omega arith), others_pulses (n + 1) es)

others_more : (xs ys : List (List (List ℕ))) → AllByRecursion Other xs → AllByRecursion Other ys → AllByRecursion Other (xs ++ ys)
others_more [] ys h k = k
others_more (x ∷ xs) ys h k = (h.0, others_more xs ys h.1 k)

at_each : (k : ℕ) (ls : List (List (List ℕ))) (line : List (List ℕ)) → k < length ls → get_or ls k line ≡ line → AllByRecursion Other ls → Other line
at_each k [] line l e h = absurd (omega arith)
at_each zero (x ∷ xs) line l e h = subst Other e h.0
at_each (suc k) (x ∷ xs) line l e h = at_each k xs line (omega arith) e h.1

none_tell : (ls : List (List (List ℕ))) (line : List (List ℕ)) → AllByRecursion Other ls → Contains ls line → TellsCell line → ⊥
none_tell ls line h (k, l, e) = at_each k ls line l e h

other_refusal : (number place : ℕ) → Other (refusal_line number place)
other_refusal number place = other 88 (decimal number ∷ decimal place ∷ []) (λ e. omega arith) (λ e. omega arith)

-- the lines of a run with no value
others_run : (steps : ℕ) (stop : Stop) (journal : List Entry) → AllByRecursion Other (run_lines steps stop [] [] journal)
others_run steps stop journal = (
  other 83 (decimal steps ∷ decimal (code_of stop) ∷ []) (λ e. omega arith) (λ e. omega arith),
  others_more (pulse_lines journal) (stop_lines stop) (others_pulses 0 journal) (stopped stop),
)
  where
    stopped : (stop : Stop) → AllByRecursion Other (stop_lines stop)
    stopped AtValue = tt
    stopped Budget = tt
    stopped (Refused f steps) = (other_refusal (fault_number f) steps, tt)

pub only_of_values : (ls : List (List (List ℕ))) → Shape ls → (line : List (List ℕ)) → Contains ls line → TellsCell line → (steps : ℕ) × Contains ls (steps_line steps AtValue)
only_of_values _ (not_loaded number place) line c t = absurd (none_tell (refusal_line number place ∷ []) line (other_refusal number place, tt) c t)
only_of_values _ (at_value steps type cells journal v means is) line c t = (steps, (0, omega arith, refl))
only_of_values _ (at_budget journal) line c t = absurd (none_tell (run_lines 1000 Budget [] [] journal) line (others_run 1000 Budget journal) c t)
only_of_values _ (at_refusal steps f journal) line c t = absurd (none_tell (run_lines steps (Refused f steps) [] [] journal) line (others_run steps (Refused f steps) journal) c t)
