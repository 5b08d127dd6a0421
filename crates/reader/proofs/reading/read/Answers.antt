use Rattle.std.proofs.Common.{◌≡◌, ◌+◌, Ok, Err, ap, ◌∙◌, arith, rules}
use Rattle.reader.specs.declared.faults.ReadFault.{ReadFault}
use Rattle.reader.specs.Pieces.{pieces}
use Rattle.reader.specs.Places.{place_after, place_of}
use Rattle.reader.specs.Reading.{left, by_answer, reads, reading}
use Rattle.reader.proofs.Exacts.{ensured}
use Rattle.reader.proofs.Turns.{refusal, stepped, ends}
use Rattle.reader.proofs.reading.read.Goals as goal
use Rattle.reader.proofs.reading.read.Goals.{After-take_line-next}

-- the read, once the next line is taken in
turned : (c : After-take_line-next) →
    let l = c.loop-line in
    let t = c.take_line-next in
    by_answer l.due (place_after t.result t.new.types t.new.terms) t.new.types.cells.now t.new.terms.cells.now (reads (pieces 10 c.in-Some.after.now) (l.due + 1))
    ≡ reading c.args.text.now c.args.types.now c.args.terms.now
turned c =
    let l = c.loop-line in
    let t = c.take_line-next in
    stepped l.rest.now c.in-Some.line.now c.in-Some.after.now l.due (place_of l.section l.types l.terms) l.types.cells.now l.terms.cells.now c.in-Some.ensures.parts _ _ _
    t.ensures.answer t.ensures.types t.ensures.terms
    ∙ l.invariant.4

pub loop-line-preserved : goal.loop-line-preserved
loop-line-preserved c =
    let l = c.loop-line in
    let t = c.take_line-next in
    let ok : t.result ≡ Ok c.in_ok-section.section = search rules in (
      omega arith,
      omega (arith, c.in-Some.ensures.shorter),
      t.ensures.same_types ∙ l.invariant.2,
      t.ensures.same_terms ∙ l.invariant.3,
      rw ok at (turned (goal.at.loop-line-preserved c).After-take_line-next),
    )

pub returns-in_err-section : goal.returns-in_err-section
returns-in_err-section c =
    let t = c.take_line-next in
    let (reason, r, f) = refusal t.result c.map_err.result c.in_err-section.field-0.0 c.loop-line.due _ (λ e g p. search rules) c.map_err.ensures.cases c.in_err-section.was in
    let answer : c.from_residual.result ≡ Err c.in_err-section.field-0.0 = search rules in
    let e = ap (λ x. left x t.new.types.cells.now t.new.terms.cells.now) (answer ∙ ap (λ (g : ReadFault). Err g) f) in
    ensured _ _ _ (e ∙ (rw r at (turned (goal.at.returns-in_err-section c).After-take_line-next))) (search rules) (search rules)

pub returns : goal.returns
returns c =
    let l = c.loop-line in
    let e =
    ap (λ r. left r l.types.cells.now l.terms.cells.now) c.close.ensures
    ∙ ends l.rest.now l.due (place_of l.section l.types l.terms) l.types.cells.now l.terms.cells.now c.in_default.ensures.parts ∙ l.invariant.4 in
    ensured _ _ _ e (search rules) (search rules)
