use Rattle.std.proofs.Common.{◌++◌, take, string_bytes, sym, ap, ◌∙◌, arith}
use Rattle.std.proofs.lemmas.List.{length-take-le, take_rest, take-append-drop}
use Rattle.termview.proofs.Joins.{on_ok}
use Rattle.termview.proofs.Laying.{all_laid, line_laid}
use Rattle.termview.proofs.layout.push_laid.Goals as goal

pub loop-indent-preserved : goal.loop-indent-preserved
loop-indent-preserved c =
    let rest = c.loop-indent.rest.now in
    let end = c.best_break-end.result in
    let taken = length-take-le end rest (omega (arith, c.best_break-end.ensures.within, c.loop-indent-test.true)) in (
      c.indent_at-indent.ensures,
      line_laid _ _ _ _ (take end rest) _ _ _ c.loop-indent.indent c.loop-indent.invariant.1 (sym (ap (λ xs. take end rest ++ xs) (take_rest rest end) ∙ take-append-drop end rest))
          c.after_blank-rest.ensures.behind (omega (arith, taken, c.best_break-end.ensures.within, c.loop-indent.invariant.0)) c.in_ok-push_line.ensures,
    )

pub returns : goal.returns
returns c = on_ok _ (λ w. all_laid c.args.text.now (string_bytes c.args.out.now) (string_bytes c.loop-indent.out) (string_bytes c.push_line-2.new.out) c.loop-indent.rest.now c.loop-indent.indent c.loop-indent.invariant.1 (omega (arith, c.loop-indent-test.false, c.loop-indent.invariant.0)) w) c.push_line-2.ensures
