use Rattle.std.proofs.Common.{◌≡◌, ◌-◌, false, true, ◌∙◌, rules, arith}
use Rattle.reader.specs.Pieces.{pieces}
use Rattle.termview.proofs.Pieces.{last_line, next_line}
use Rattle.termview.proofs.lines.+line_after.Goals as goal

pub returns-then-not-line : goal.returns-then-not-line
returns-then-not-line t c =
    let e : c.first_line.result.0.is_ended ≡ false = search (rules, c.if-not-line.true) in
    last_line c.args.before (pieces 10 c.args.text.now) _ _ e c.first_line.ensures.line

pub returns : goal.returns
returns t c =
    let e : c.first_line.result.0.is_ended ≡ true = search (rules, c.if-not-line.false) in
    c.line_after.ensures ∙ next_line c.args.before (c.args.before - 1) _ c.first_line.result.1.now c.args.text.now (omega (arith, c.if-before-eq0.false)) (c.first_line.ensures.rest e)
