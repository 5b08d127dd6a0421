use Rattle.std.proofs.Common.{sym, ap, ap₂, ◌∙◌}
use Rattle.calculus.specs.Stripping.{same as same_type}
use Rattle.kinds.specs.declared.Kind.{Kind}
use Rattle.kinds.specs.Kinds.{head_type, kind_type}
use Rattle.kinds.proofs.Types.{other_marks, other_cores, same_arrows, same_pairs, not_bit, not_qubit, not_unit, not_arrow, not_pair, second_answers, first_answers}
use Rattle.kinds.proofs.+same.Goals as goal

pub returns-then-a-b : goal.returns-then-a-b
returns-then-a-b t c = other_marks c.args.a.now c.args.b.now c.if-a-b.true

pub returns-in_default : goal.returns-in_default
returns-in_default t c = other_cores c.args.a.now c.args.b.now (not_bit c.args.a.now.head c.args.b.now.head c.in_default.is-0 c.in_default.not-Bit-1)

pub returns-in_default-2 : goal.returns-in_default-2
returns-in_default-2 t c = other_cores c.args.a.now c.args.b.now (not_qubit c.args.a.now.head c.args.b.now.head c.in_default.is-0 c.in_default.not-Qubit-1)

pub returns-in_default-3 : goal.returns-in_default-3
returns-in_default-3 t c = other_cores c.args.a.now c.args.b.now (not_unit c.args.a.now.head c.args.b.now.head c.in_default.is-0 c.in_default.not-Unit-1)

pub returns-in_default-4 : goal.returns-in_default-4
returns-in_default-4 t c = other_cores c.args.a.now c.args.b.now (not_arrow c.args.a.now.head c.args.b.now.head c.in_default.field-0-0 c.in_default.field-1-0 c.in_default.is-0 c.in_default.not-Arrow-1)

pub returns-in_default-5 : goal.returns-in_default-5
returns-in_default-5 t c = other_cores c.args.a.now c.args.b.now (not_pair c.args.a.now.head c.args.b.now.head c.in_default.field-0-0 c.in_default.field-1-0 c.in_default.is-0 c.in_default.not-Pair-1)

pub returns-then-same : goal.returns-then-same
returns-then-same t c =
    let e = same_arrows c.args.a.now c.args.b.now c.in-Arrow-Arrow.a.value c.in-Arrow-Arrow.b.value c.in-Arrow-Arrow.c.value c.in-Arrow-Arrow.d.value c.if-a-b.false (ap head_type c.in-Arrow-Arrow.is-0) (ap head_type c.in-Arrow-Arrow.is-1) in
    let p = c.same.ensures ∙ ap₂ (λ (x y : Kind). same_type (kind_type x) (kind_type y)) c.deref.ensures c.deref-in-Arrow-Arrow.ensures in
    let q = c.same-then-same.ensures ∙ ap₂ (λ (x y : Kind). same_type (kind_type x) (kind_type y)) c.deref-then-same.ensures c.deref-then-same-2.ensures in
    q ∙ second_answers (sym c.if-same.true ∙ p) e

pub returns-else-same : goal.returns-else-same
returns-else-same t c =
    let e = same_arrows c.args.a.now c.args.b.now c.in-Arrow-Arrow.a.value c.in-Arrow-Arrow.b.value c.in-Arrow-Arrow.c.value c.in-Arrow-Arrow.d.value c.if-a-b.false (ap head_type c.in-Arrow-Arrow.is-0) (ap head_type c.in-Arrow-Arrow.is-1) in
    let p = c.same.ensures ∙ ap₂ (λ (x y : Kind). same_type (kind_type x) (kind_type y)) c.deref.ensures c.deref-in-Arrow-Arrow.ensures in
    c.if-same.false ∙ first_answers _ (sym c.if-same.false ∙ p) e

pub returns-then-same-2 : goal.returns-then-same-2
returns-then-same-2 t c =
    let e = same_pairs c.args.a.now c.args.b.now c.in-Pair-Pair.a.value c.in-Pair-Pair.b.value c.in-Pair-Pair.c.value c.in-Pair-Pair.d.value c.if-a-b.false (ap head_type c.in-Pair-Pair.is-0) (ap head_type c.in-Pair-Pair.is-1) in
    let p = c.same-in-Pair-Pair.ensures ∙ ap₂ (λ (x y : Kind). same_type (kind_type x) (kind_type y)) c.deref-in-Pair-Pair.ensures c.deref-in-Pair-Pair-2.ensures in
    let q = c.same-then-same-2.ensures ∙ ap₂ (λ (x y : Kind). same_type (kind_type x) (kind_type y)) c.deref-then-same-2-2.ensures c.deref-then-same-2-3.ensures in
    q ∙ second_answers (sym c.if-same-2.true ∙ p) e

pub returns-else-same-2 : goal.returns-else-same-2
returns-else-same-2 t c =
    let e = same_pairs c.args.a.now c.args.b.now c.in-Pair-Pair.a.value c.in-Pair-Pair.b.value c.in-Pair-Pair.c.value c.in-Pair-Pair.d.value c.if-a-b.false (ap head_type c.in-Pair-Pair.is-0) (ap head_type c.in-Pair-Pair.is-1) in
    let p = c.same-in-Pair-Pair.ensures ∙ ap₂ (λ (x y : Kind). same_type (kind_type x) (kind_type y)) c.deref-in-Pair-Pair.ensures c.deref-in-Pair-Pair-2.ensures in
    c.if-same-2.false ∙ first_answers _ (sym c.if-same-2.false ∙ p) e
