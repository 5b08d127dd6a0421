use Rattle.std.proofs.Common.{◌≡◌, ◌-◌, false, ◌++◌, map, refl, ◌∙◌, rules, arith}
use Rattle.std.specs.Prelude.{codes}
use Rattle.std.specs.Str.{chars}
use Rattle.calculus.specs.declared.gates.Gate.TheVariants.{H}
use Rattle.calculus.specs.Terms.{bit_of, new, gate, const, app}
use Rattle.calculus.specs.Cells.{kind_cell, placed_cells}
use Rattle.drafts.specs.Runs.{applications}
use Rattle.drafts.proofs.Applications.{letters, applied_here}
use Rattle.drafts.proofs.runs.pulses.Goals as goal

pub returns-clause-types : goal.returns-clause-types
returns-clause-types c =
    let e : c.cells-2.new.self.types.items ≡ map kind_cell (chars (codes "q>qq>bqb")) = search rules in
    e ∙ letters (codes "q>qq>bqb") refl

pub returns-clause-terms : goal.returns-clause-terms
returns-clause-terms c =
    let e : c.cells-2.new.self.terms.items ≡ applications c.loop.counter 0 (const 1 (gate H)) ++ placed_cells (app 0 (const 4 new) (const 7 (bit_of false))) = search rules in
    e ∙ applied_here c.loop.counter (c.args.pulses - 1) 0 (const 1 (gate H)) _ (omega arith)
