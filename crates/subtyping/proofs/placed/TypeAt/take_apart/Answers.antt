use Rattle.std.proofs.Common.{sym, ◌∙◌, subst, arith}
use Rattle.subtyping.specs.Parting.{Apart}
use Rattle.subtyping.proofs.Parted.{an_arrow, a_pair, a_bit, a_qubit, a_unit}
use Rattle.subtyping.proofs.placed.TypeAt.take_apart.Goals as goal
use Rattle.subtyping.proofs.placed.TypeAt.take_apart.Goals.{in-b, in-q, in-62, in-42, in_default}

pub returns : goal.returns
returns c =
    let a = c.args.self in
    let n = c.strip-marks.result.0 in
    let h = c.strip-marks.ensures in
    let k = sym c.kind.ensures in
    elim c.match-kind.branch [
      | in-b w ↦ subst (λ d. Apart a (n, d)) (sym w.core-is) (a_bit a _ h (k ∙ w.in-b.is))
      | in-q w ↦ subst (λ d. Apart a (n, d)) (sym w.core-is) (a_qubit a _ h (k ∙ w.in-q.is))
      | in-62 w ↦ subst (λ d. Apart a (n, d)) (sym w.core-is) (an_arrow a _ h _ _ (k ∙ w.in-62.is) w.parts.ensures)
      | in-42 w ↦ subst (λ d. Apart a (n, d)) (sym w.core-is) (a_pair a _ h _ _ (k ∙ w.in-42.is) w.parts-in-42.ensures)
      | in_default w ↦ subst (λ d. Apart a (n, d)) (sym w.core-is) (a_unit a _ h (λ e. omega (arith, c.kind.ensures)) (λ e. omega (arith, c.kind.ensures)) (λ e. omega (arith, c.kind.ensures)) (λ e. omega (arith, c.kind.ensures)))
    ]
