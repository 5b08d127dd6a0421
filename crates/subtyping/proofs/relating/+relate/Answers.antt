use Rattle.std.proofs.Common.{ℕ, sym, ◌∙◌, arith}
use Rattle.subtyping.proofs.Pairing.{Ends, marks_differ, kinds_differ, leaves, arrow_halves, pair_halves, related_some, related_none}
use Rattle.subtyping.proofs.Places.{stands, strips}
use Rattle.subtyping.proofs.relating.+relate.Given.{Over}
use Rattle.subtyping.proofs.relating.+relate.Goals as goal
use Rattle.subtyping.proofs.relating.+relate.Goals.{In_ok-right_end-in-62, In_ok-left_end-in-42, then-not-marks_agree-via-then-not-marks_agree, then-not-marks_agree-via-else-not-marks_agree+then-kind}

pub returns-then-not-marks_agree : goal.returns-then-not-marks_agree
returns-then-not-marks_agree g t c =
    elim c.then-not-marks_agree.branch [
      | then-not-marks_agree-via-then-not-marks_agree w ↦ sym (marks_differ g.R.Relation.asked _ _ _ _ c.strip-left_marks.ensures c.strip-right_marks.ensures (sym w.if-not-marks_agree.ensures))
      | then-not-marks_agree-via-else-not-marks_agree+then-kind w ↦ sym (kinds_differ g.R.Relation.asked _ _ _ _ c.strip-left_marks.ensures c.strip-right_marks.ensures _ _ c.kind-kind.ensures w.kind.ensures w.if-kind.true)
    ]

pub returns-in_default : goal.returns-in_default
returns-in_default g t c =
    leaves g.R.Relation.asked _ _ _ _ c.strip-left_marks.ensures c.strip-right_marks.ensures _ _ c.kind-kind.ensures c.kind.ensures c.if-not-marks_agree.ensures c.if-kind.false (λ e. omega arith) (λ e. omega arith)

pub next-requires : goal.next-requires
next-requires g t c =
    (arrow_halves g.R.Relation.asked _ _ _ _ c.strip-left_marks.ensures c.strip-right_marks.ensures _ _ c.kind-kind.ensures c.kind.ensures c.if-not-marks_agree.ensures c.if-kind.false c.in-62.is).right_first

pub next-requires-in-62 : goal.next-requires-in-62
next-requires-in-62 g t c =
    (arrow_halves g.R.Relation.asked _ _ _ _ c.strip-left_marks.ensures c.strip-right_marks.ensures _ _ c.kind-kind.ensures c.kind.ensures c.if-not-marks_agree.ensures c.if-kind.false c.in-62.is).left_first

pub returns-in_err-right_end-in-62 : goal.returns-in_err-right_end-in-62
returns-in_err-right_end-in-62 g t c =
    let n = related_none g.R.Relation.asked _ _ _ _ _ _ c.next.ensures c.next-in-62.ensures (sym c.in_err-right_end-in-62.was ∙ c.relate.ensures) in
    c.from_residual.ensures ∙ (arrow_halves g.R.Relation.asked _ _ _ _ c.strip-left_marks.ensures c.strip-right_marks.ensures _ _ c.kind-kind.ensures c.kind.ensures c.if-not-marks_agree.ensures c.if-kind.false c.in-62.is).none n

-- where the first parts of two arrows end
arrow_ends : (g : Over) (t : ℕ) (c : In_ok-right_end-in-62 g t) → Ends g.R.Relation.asked c.args.left c.args.right c.strip-left_marks.result.1 c.strip-right_marks.result.1 c.in_ok-right_end-in-62.left_end c.in_ok-right_end-in-62.right_end
arrow_ends g t c =
    let k = related_some g.R.Relation.asked _ _ _ _ _ _ c.next.ensures c.next-in-62.ensures _ _ (sym c.in_ok-right_end-in-62.was ∙ c.relate.ensures) in
    (arrow_halves g.R.Relation.asked _ _ _ _ c.strip-left_marks.ensures c.strip-right_marks.ensures _ _ c.kind-kind.ensures c.kind.ensures c.if-not-marks_agree.ensures c.if-kind.false c.in-62.is).ends _ _ k.2 k.1 k.0

pub at-requires : goal.at-requires
at-requires g t c = (arrow_ends g t c).inside.0

pub at-requires-in-62 : goal.at-requires-in-62
at-requires-in-62 g t c = (arrow_ends g t (goal.at.at-requires-in-62 g t c).In_ok-right_end-in-62).inside.1

pub relate-requires-in-62 : goal.relate-requires-in-62
relate-requires-in-62 g t c κs within =
    let e = arrow_ends g t (goal.at.relate-requires-in-62 g t c).In_ok-right_end-in-62 in
    (omega (arith, c.decreases, (stands _ _ _ c.at.ensures).cells, (stands _ _ _ c.at-in-62.ensures).cells, (strips _ _ c.strip-left_marks.ensures).on, (strips _ _ c.strip-right_marks.ensures).on, e.are.0, e.are.1, c.strip-left_marks.result.1.placed.within), within)

pub returns-in_ok-right_end-in-62 : goal.returns-in_ok-right_end-in-62
returns-in_ok-right_end-in-62 g t c = c.relate-in-62.ensures ∙ (arrow_ends g t (goal.at.returns-in_ok-right_end-in-62 g t c).In_ok-right_end-in-62).answer _ _ c.at.ensures c.at-in-62.ensures

pub next-requires-in-42 : goal.next-requires-in-42
next-requires-in-42 g t c =
    (pair_halves g.R.Relation.asked _ _ _ _ c.strip-left_marks.ensures c.strip-right_marks.ensures _ _ c.kind-kind.ensures c.kind.ensures c.if-not-marks_agree.ensures c.if-kind.false c.in-42.is).left_first

pub next-requires-in-42-2 : goal.next-requires-in-42-2
next-requires-in-42-2 g t c =
    (pair_halves g.R.Relation.asked _ _ _ _ c.strip-left_marks.ensures c.strip-right_marks.ensures _ _ c.kind-kind.ensures c.kind.ensures c.if-not-marks_agree.ensures c.if-kind.false c.in-42.is).right_first

pub returns-in_err-left_end-in-42 : goal.returns-in_err-left_end-in-42
returns-in_err-left_end-in-42 g t c =
    let n = related_none g.R.Relation.asked _ _ _ _ _ _ c.next-in-42.ensures c.next-in-42-2.ensures (sym c.in_err-left_end-in-42.was ∙ c.relate-in-42.ensures) in
    c.from_residual-in_err-left_end-in-42.ensures ∙ (pair_halves g.R.Relation.asked _ _ _ _ c.strip-left_marks.ensures c.strip-right_marks.ensures _ _ c.kind-kind.ensures c.kind.ensures c.if-not-marks_agree.ensures c.if-kind.false c.in-42.is).none n

-- where the first parts of two pairs end
pair_ends : (g : Over) (t : ℕ) (c : In_ok-left_end-in-42 g t) → Ends g.R.Relation.asked c.args.left c.args.right c.strip-left_marks.result.1 c.strip-right_marks.result.1 c.in_ok-left_end-in-42.left_end c.in_ok-left_end-in-42.right_end
pair_ends g t c =
    let k = related_some g.R.Relation.asked _ _ _ _ _ _ c.next-in-42.ensures c.next-in-42-2.ensures _ _ (sym c.in_ok-left_end-in-42.was ∙ c.relate-in-42.ensures) in
    (pair_halves g.R.Relation.asked _ _ _ _ c.strip-left_marks.ensures c.strip-right_marks.ensures _ _ c.kind-kind.ensures c.kind.ensures c.if-not-marks_agree.ensures c.if-kind.false c.in-42.is).ends _ _ k.1 k.2 k.0

pub at-requires-in-42 : goal.at-requires-in-42
at-requires-in-42 g t c = (pair_ends g t c).inside.0

pub at-requires-in-42-2 : goal.at-requires-in-42-2
at-requires-in-42-2 g t c = (pair_ends g t (goal.at.at-requires-in-42-2 g t c).In_ok-left_end-in-42).inside.1

pub relate-requires-in-42-2 : goal.relate-requires-in-42-2
relate-requires-in-42-2 g t c κs within =
    let e = pair_ends g t (goal.at.relate-requires-in-42-2 g t c).In_ok-left_end-in-42 in
    (omega (arith, c.decreases, (stands _ _ _ c.at-in-42.ensures).cells, (stands _ _ _ c.at-in-42-2.ensures).cells, (strips _ _ c.strip-left_marks.ensures).on, (strips _ _ c.strip-right_marks.ensures).on, e.are.0, e.are.1, c.strip-left_marks.result.1.placed.within), within)

pub returns-in_ok-left_end-in-42 : goal.returns-in_ok-left_end-in-42
returns-in_ok-left_end-in-42 g t c = c.relate-in-42-2.ensures ∙ (pair_ends g t (goal.at.returns-in_ok-left_end-in-42 g t c).In_ok-left_end-in-42).answer _ _ c.at-in-42.ensures c.at-in-42-2.ensures
