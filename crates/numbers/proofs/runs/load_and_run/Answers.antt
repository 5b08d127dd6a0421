use Rattle.std.proofs.Common.{Err, sym, ap, ◌∙◌}
use Rattle.std.proofs.lemmas.Result.{err_from_is_err_and}
use Rattle.controller.specs.Meant.{standing}
use Rattle.controller.specs.Shots.{held}
use Rattle.numbers.proofs.Ran.{loads_and_runs, load_refused}
use Rattle.numbers.proofs.runs.load_and_run.Goals as goal

pub returns-in_err-load-clause-runs : goal.returns-in_err-load-clause-runs
returns-in_err-load-clause-runs g c =
    let s = c.args.controller.now in
    let p = c.args.program.now in
    let k = c.load.new.self in
    let y = err_from_is_err_and c.from_residual.result c.from_residual.ensures.1 in
    load_refused g.R.Register p.types.now p.terms.now c.args.budget s.shot k.shot s.register k.register c.args.work.now c.in_err-load.field-0.0 c.from_residual.result
    (sym c.in_err-load.was ∙ c.load.ensures.answer) (ap (λ z. held z.shot) c.in_err-load.ensures.state) (ap (λ z. z.register) c.in_err-load.ensures.state) (y.1 ∙ ap Err y.2)

pub returns-clause-runs : goal.returns-clause-runs
returns-clause-runs g c =
    let s = c.args.controller.now in
    let p = c.args.program.now in
    let k = c.load.new.self in
    let end = c.run.new in
    loads_and_runs g.R.Register p.types.now p.terms.now c.args.budget c.in_ok-load.field-0 s.shot k.shot s.register k.register c.args.work.now
    (standing g.R.Register end.self.shot end.self.register end.work) c.run.result
    (sym c.in_ok-load.was ∙ c.load.ensures.answer) c.in_ok-load.ensures.state.0 c.in_ok-load.ensures.state.1 c.run.ensures.settled
