use Rattle.std.proofs.Common.{sym, ap, ap₂, ◌∙◌}
use Rattle.kinds.specs.declared.Kind.{Kind}
use Rattle.calculus.specs.Stripping.{subtype}
use Rattle.kinds.specs.Kinds.{head_type, kind_type}
use Rattle.kinds.proofs.Types.{few_marks, some_marks, more_marks, one_leaf, other_heads, arrows, pairs, not_bit, not_qubit, not_unit, not_arrow, not_pair, second_answers, first_answers}
use Rattle.kinds.proofs.+is_below.Goals as goal
use Rattle.kinds.proofs.+is_below.Goals.{else-b-gt0-via-then-b-gt0+else-a-eq0, else-b-gt0-via-else-b-gt0}

pub returns-then-a-eq0 : goal.returns-then-a-eq0
returns-then-a-eq0 t c = more_marks c.args.a.now c.args.b.now c.if-b-gt0.true c.if-a-eq0.true

pub returns-in-Bit-Bit : goal.returns-in-Bit-Bit
returns-in-Bit-Bit t c = one_leaf c.args.a.now c.args.b.now (elim c.else-b-gt0.branch [ else-b-gt0-via-then-b-gt0+else-a-eq0 w ↦ some_marks c.args.a.now c.args.b.now w.if-a-eq0.false | else-b-gt0-via-else-b-gt0 w ↦ few_marks c.args.a.now c.args.b.now w.if-b-gt0.false ]) (c.in-Bit-Bit.is-0 ∙ sym c.in-Bit-Bit.is-1)

pub returns-in-Bit-Bit-2 : goal.returns-in-Bit-Bit-2
returns-in-Bit-Bit-2 t c = one_leaf c.args.a.now c.args.b.now (elim c.else-b-gt0.branch [ else-b-gt0-via-then-b-gt0+else-a-eq0 w ↦ some_marks c.args.a.now c.args.b.now w.if-a-eq0.false | else-b-gt0-via-else-b-gt0 w ↦ few_marks c.args.a.now c.args.b.now w.if-b-gt0.false ]) (c.in-Bit-Bit.is-0 ∙ sym c.in-Bit-Bit.is-1)

pub returns-in-Bit-Bit-3 : goal.returns-in-Bit-Bit-3
returns-in-Bit-Bit-3 t c = one_leaf c.args.a.now c.args.b.now (elim c.else-b-gt0.branch [ else-b-gt0-via-then-b-gt0+else-a-eq0 w ↦ some_marks c.args.a.now c.args.b.now w.if-a-eq0.false | else-b-gt0-via-else-b-gt0 w ↦ few_marks c.args.a.now c.args.b.now w.if-b-gt0.false ]) (c.in-Bit-Bit.is-0 ∙ sym c.in-Bit-Bit.is-1)

pub returns-in_default : goal.returns-in_default
returns-in_default t c = other_heads c.args.a.now c.args.b.now (not_bit c.args.a.now.head c.args.b.now.head c.in_default.is-0 c.in_default.not-Bit-1)

pub returns-in_default-2 : goal.returns-in_default-2
returns-in_default-2 t c = other_heads c.args.a.now c.args.b.now (not_qubit c.args.a.now.head c.args.b.now.head c.in_default.is-0 c.in_default.not-Qubit-1)

pub returns-in_default-3 : goal.returns-in_default-3
returns-in_default-3 t c = other_heads c.args.a.now c.args.b.now (not_unit c.args.a.now.head c.args.b.now.head c.in_default.is-0 c.in_default.not-Unit-1)

pub returns-in_default-4 : goal.returns-in_default-4
returns-in_default-4 t c = other_heads c.args.a.now c.args.b.now (not_arrow c.args.a.now.head c.args.b.now.head c.in_default.field-0-0 c.in_default.field-1-0 c.in_default.is-0 c.in_default.not-Arrow-1)

pub returns-in_default-5 : goal.returns-in_default-5
returns-in_default-5 t c = other_heads c.args.a.now c.args.b.now (not_pair c.args.a.now.head c.args.b.now.head c.in_default.field-0-0 c.in_default.field-1-0 c.in_default.is-0 c.in_default.not-Pair-1)

pub returns-then-is_below : goal.returns-then-is_below
returns-then-is_below t c =
    let e = arrows c.args.a.now c.args.b.now c.in-Arrow-Arrow.a.value c.in-Arrow-Arrow.b.value c.in-Arrow-Arrow.c.value c.in-Arrow-Arrow.d.value (elim c.else-b-gt0.branch [ else-b-gt0-via-then-b-gt0+else-a-eq0 w ↦ some_marks c.args.a.now c.args.b.now w.if-a-eq0.false | else-b-gt0-via-else-b-gt0 w ↦ few_marks c.args.a.now c.args.b.now w.if-b-gt0.false ]) (ap head_type c.in-Arrow-Arrow.is-0) (ap head_type c.in-Arrow-Arrow.is-1) in
    let p = c.is_below.ensures ∙ ap₂ (λ (x y : Kind). subtype (kind_type x) (kind_type y)) c.deref.ensures c.deref-in-Arrow-Arrow.ensures in
    let q = c.is_below-then-is_below.ensures ∙ ap₂ (λ (x y : Kind). subtype (kind_type x) (kind_type y)) c.deref-then-is_below.ensures c.deref-then-is_below-2.ensures in
    q ∙ second_answers (sym c.if-is_below.true ∙ p) e

pub returns-else-is_below : goal.returns-else-is_below
returns-else-is_below t c =
    let e = arrows c.args.a.now c.args.b.now c.in-Arrow-Arrow.a.value c.in-Arrow-Arrow.b.value c.in-Arrow-Arrow.c.value c.in-Arrow-Arrow.d.value (elim c.else-b-gt0.branch [ else-b-gt0-via-then-b-gt0+else-a-eq0 w ↦ some_marks c.args.a.now c.args.b.now w.if-a-eq0.false | else-b-gt0-via-else-b-gt0 w ↦ few_marks c.args.a.now c.args.b.now w.if-b-gt0.false ]) (ap head_type c.in-Arrow-Arrow.is-0) (ap head_type c.in-Arrow-Arrow.is-1) in
    let p = c.is_below.ensures ∙ ap₂ (λ (x y : Kind). subtype (kind_type x) (kind_type y)) c.deref.ensures c.deref-in-Arrow-Arrow.ensures in
    c.if-is_below.false ∙ first_answers _ (sym c.if-is_below.false ∙ p) e

pub returns-then-is_below-2 : goal.returns-then-is_below-2
returns-then-is_below-2 t c =
    let e = pairs c.args.a.now c.args.b.now c.in-Pair-Pair.a.value c.in-Pair-Pair.b.value c.in-Pair-Pair.c.value c.in-Pair-Pair.d.value (elim c.else-b-gt0.branch [ else-b-gt0-via-then-b-gt0+else-a-eq0 w ↦ some_marks c.args.a.now c.args.b.now w.if-a-eq0.false | else-b-gt0-via-else-b-gt0 w ↦ few_marks c.args.a.now c.args.b.now w.if-b-gt0.false ]) (ap head_type c.in-Pair-Pair.is-0) (ap head_type c.in-Pair-Pair.is-1) in
    let p = c.is_below-in-Pair-Pair.ensures ∙ ap₂ (λ (x y : Kind). subtype (kind_type x) (kind_type y)) c.deref-in-Pair-Pair.ensures c.deref-in-Pair-Pair-2.ensures in
    let q = c.is_below-then-is_below-2.ensures ∙ ap₂ (λ (x y : Kind). subtype (kind_type x) (kind_type y)) c.deref-then-is_below-2-2.ensures c.deref-then-is_below-2-3.ensures in
    q ∙ second_answers (sym c.if-is_below-2.true ∙ p) e

pub returns-else-is_below-2 : goal.returns-else-is_below-2
returns-else-is_below-2 t c =
    let e = pairs c.args.a.now c.args.b.now c.in-Pair-Pair.a.value c.in-Pair-Pair.b.value c.in-Pair-Pair.c.value c.in-Pair-Pair.d.value (elim c.else-b-gt0.branch [ else-b-gt0-via-then-b-gt0+else-a-eq0 w ↦ some_marks c.args.a.now c.args.b.now w.if-a-eq0.false | else-b-gt0-via-else-b-gt0 w ↦ few_marks c.args.a.now c.args.b.now w.if-b-gt0.false ]) (ap head_type c.in-Pair-Pair.is-0) (ap head_type c.in-Pair-Pair.is-1) in
    let p = c.is_below-in-Pair-Pair.ensures ∙ ap₂ (λ (x y : Kind). subtype (kind_type x) (kind_type y)) c.deref-in-Pair-Pair.ensures c.deref-in-Pair-Pair-2.ensures in
    c.if-is_below-2.false ∙ first_answers _ (sym c.if-is_below-2.false ∙ p) e
