-- Programs that are run, from their tables and from their texts.
use Rattle.std.specs.Prelude.{ℕ, List, [], take, Ok, Err, Result}
use Rattle.calculus.specs.declared.cells.TermCell.{TermCell}
use Rattle.calculus.specs.declared.cells.TypeCell.{TypeCell}
use Rattle.checker.specs.Accepting.{program_verdict}
use Rattle.numbers.specs.declared.answers.Verdict.{Verdict}
use Rattle.numbers.specs.Runs.{loaded_and_run, new_standing, run_answer, run_answered, tables}
use Rattle.numbers.specs.Verdicts.{check_refusal, read_refusal, fresh_reading}
use Rattle.reader.specs.declared.faults.ReadFault.{ReadFault}
use Rattle.reader.specs.Reading.{Outcome}
use Rattle.registers.specs.Journal.{tape_changes}
use Rattle.registers.specs.Telling.{tape_tells}
use Rattle.verdict.specs.declared.faults.CheckFault.{CheckFault}
use Rattle.timed.specs.declared.shots.TheConstants.{BUDGET}

module _ (types : List TypeCell) (terms : List TermCell) (outcomes : List ℕ) (budget : ℕ) where
  -- a load on a new tape and a run, with nothing collected
  abbrev pub run_made : Verdict
  run_made =
      run_answer
      (loaded_and_run tape_changes tape_tells types terms budget (new_standing outcomes)).0

  -- the same of a program that is accepted, or why it is not
  abbrev pub run_if_accepted : Result (Unit {0}) CheckFault → Verdict
  run_if_accepted (Ok u) = run_made
  run_if_accepted (Err f) = check_refusal f

  abbrev pub run_told : Verdict
  run_told = run_if_accepted (program_verdict types terms)

-- a whole shot of the cells that were read, or why they were not
abbrev pub shot_if_read : List ℕ → Outcome → Result (ℕ × ℕ) ReadFault → Verdict
shot_if_read outcomes read (Ok n) =
    (run_answered (take n.0 read.types) (take n.1 read.terms) outcomes BUDGET (tables [] [] [])).0
shot_if_read outcomes read (Err f) = read_refusal f

-- a whole shot of a text
abbrev pub shot_told : List ℕ → List ℕ → Verdict
shot_told text outcomes =
    let read = fresh_reading text in
    shot_if_read outcomes read read.answer
