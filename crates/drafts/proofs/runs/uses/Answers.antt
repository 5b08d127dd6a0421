use Rattle.std.proofs.Common.{◌≡◌, ℕ, ◌++◌, ap, ◌∙◌, arith}
use Rattle.drafts.specs.Limits.{calls}
use Rattle.drafts.proofs.Programs.{on_ok, used_here}
use Rattle.drafts.proofs.runs.uses.Goals as goal

pub returns-clause-terms : goal.returns-clause-terms
returns-clause-terms c =
    let all : c.loop.counter ≡ c.args.times = omega arith in
    on_ok c.cell.result (used_here c.args.times _ _ _ c.args.index (c.loop.invariant.1 ∙ ap (λ (n : ℕ). c.args.draft.now.terms.items ++ calls c.args.index n) all)) c.cell.ensures.terms
