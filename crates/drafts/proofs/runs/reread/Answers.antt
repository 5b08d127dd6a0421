use Rattle.std.proofs.Common.{◌≡◌, ℕ, ◌+◌, ◌*◌, false, List, ◌++◌, ap, arith}
use Rattle.std.proofs.lemmas.List.{append_assoc}
use Rattle.calculus.specs.declared.cells.TermCell.{TermCell}
use Rattle.calculus.specs.Terms.{bit_of, meas, bound, var, const, lam, app}
use Rattle.calculus.specs.Cells.{placed_cells}
use Rattle.drafts.specs.Runs.{made}
use Rattle.drafts.proofs.Programs.{on_ok}
use Rattle.drafts.proofs.Applications.{applied_here}
use Rattle.drafts.proofs.runs.reread.Goals as goal

pub returns-clause-terms : goal.returns-clause-terms
returns-clause-terms c =
    let b : ℕ = 2 * c.args.held in
    on_ok c.cell.result
    (λ (e : c.cell.new.self.terms.items ≡ c.loop.draft.terms.items ++ placed_cells (const b (bit_of false))). simp (e, c.loop.invariant.1, append_assoc)
    (ap (λ (cs : List TermCell). c.args.draft.now.terms.items ++ cs)
    (applied_here c.loop.counter c.args.times b (lam (b + 7) (app b (const (b + 4) meas) (made b (var b (bound 0))))) (const b (bit_of false)) (omega arith))))
    c.cell.ensures.terms
