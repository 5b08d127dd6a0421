use Rattle.std.proofs.Common.{◌≡◌, ◌-◌, List, ◌++◌, ap, arith}
use Rattle.std.proofs.lemmas.List.{append_assoc}
use Rattle.calculus.specs.declared.cells.TermCell.{TermCell}
use Rattle.calculus.specs.Terms.{bound, var, lam}
use Rattle.calculus.specs.Cells.{placed_cells}
use Rattle.drafts.specs.Runs.{negated}
use Rattle.drafts.proofs.Programs.{on_ok}
use Rattle.drafts.proofs.Applications.{applied_here}
use Rattle.drafts.proofs.runs.turned.Goals as goal

pub returns-clause-terms : goal.returns-clause-terms
returns-clause-terms c =
    on_ok c.negation.result
    (λ (e : c.negation.new.draft.terms.items ≡ c.cell.new.self.terms.items ++ placed_cells negated). simp (e, c.in_ok-cell.ensures.terms, c.loop.invariant.1, append_assoc)
    (ap (λ (cs : List TermCell). c.args.draft.now.terms.items ++ cs)
    (applied_here c.loop.counter (c.args.depth - 1) 7 (var 19 (bound 0)) (lam 7 negated) (omega arith))))
    c.negation.ensures.terms
