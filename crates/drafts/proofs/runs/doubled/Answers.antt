use Rattle.std.proofs.Common.{◌≡◌, ◌-◌, List, ◌∷◌, ◌++◌, ap, arith}
use Rattle.std.proofs.lemmas.List.{append_assoc}
use Rattle.calculus.specs.Alphabet.{op_variable, op_application}
use Rattle.calculus.specs.declared.cells.TermCell.{TermCell}
use Rattle.calculus.specs.Terms.{bound, var, lam}
use Rattle.calculus.specs.Cells.{cell_of, placed_cells}
use Rattle.drafts.proofs.Programs.{on_ok}
use Rattle.drafts.proofs.Applications.{applied_here}
use Rattle.drafts.proofs.runs.doubled.Goals as goal

pub returns-clause-terms : goal.returns-clause-terms
returns-clause-terms c =
    on_ok c.cells-2.result
    (λ (e : c.cells-2.new.self.terms.items ≡ c.loop.draft.terms.items ++ placed_cells (lam 7 (var 0 (bound 0)))). simp (e, c.loop.invariant.1, c.in_ok-cells.ensures.terms, append_assoc)
    (ap (λ (cs : List TermCell). c.args.draft.now.terms.items ++ (cell_of op_application 0 0 ∷ cell_of op_application 0 1 ∷ cell_of op_variable 0 27 ∷ cs))
    (applied_here c.loop.counter (c.args.depth - 1) 7 (var 18 (bound 0)) (lam 7 (var 0 (bound 0))) (omega arith))))
    c.cells-2.ensures.terms
