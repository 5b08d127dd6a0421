use Rattle.std.proofs.Common.{rules, ◌≡◌, ℕ, ◌+◌, None, Some, get_or, drop, refl, ap, ◌∙◌, sym, arith}
use Rattle.std.proofs.lemmas.List.{take_rest}
use Rattle.std.specs.Option.{option_or}
use Rattle.calculus.specs.Cells.{blank}
use Rattle.finder.specs.Progress.{found_of}
use Rattle.finder.specs.Search.{Found}
use Rattle.finder.specs.Words.{applied_of, branched_of, opened_of}
use Rattle.finder.specs.declared.finder.Progress.{Progress}
use Rattle.finder.specs.declared.finder.Progress.TheVariants.{Value, Step, Stuck}
use Rattle.finder.proofs.Working.{or_or, works_lam, works_app, works_pair, works_let, works_if, first_within, second_within}
use Rattle.finder.proofs.finder.+work.Goals as goal

-- the end, and what is found
abbrev ended : ℕ × Progress → ℕ × Found
ended r = (r.0, found_of r.1)

pub work-middle-requires : goal.work-middle-requires
work-middle-requires t c =
    let l = first_within c.args.cells.now c.requires.0 c.args.at c.requires.1 97 c.in-a.is (omega arith) in
    (omega arith, (c.requires.0, l))

pub work-end-requires : goal.work-end-requires
work-end-requires t c =
    let l = second_within c.args.cells.now c.requires.0 c.args.at c.requires.1 97 c.in-a.is (omega arith) (ended c.work-middle.result) (c.work-middle.ensures.end, c.work-middle.ensures.progress) in
    (omega arith, (c.requires.0, l.1))

pub work-middle-requires-in-p : goal.work-middle-requires-in-p
work-middle-requires-in-p t c =
    let l = first_within c.args.cells.now c.requires.0 c.args.at c.requires.1 112 c.in-p.is (omega arith) in
    (omega arith, (c.requires.0, l))

pub work-end-requires-in-p : goal.work-end-requires-in-p
work-end-requires-in-p t c =
    let l = second_within c.args.cells.now c.requires.0 c.args.at c.requires.1 112 c.in-p.is (omega arith) (ended c.work-middle-in-p.result) (c.work-middle-in-p.ensures.end, c.work-middle-in-p.ensures.progress) in
    (omega arith, (c.requires.0, l.1))

pub work-middle-requires-in-d : goal.work-middle-requires-in-d
work-middle-requires-in-d t c =
    let l = first_within c.args.cells.now c.requires.0 c.args.at c.requires.1 100 c.in-d.is (omega arith) in
    (omega arith, (c.requires.0, l))

pub work-middle-requires-in-i : goal.work-middle-requires-in-i
work-middle-requires-in-i t c =
    let l = first_within c.args.cells.now c.requires.0 c.args.at c.requires.1 105 c.in-i.is (omega arith) in
    (omega arith, (c.requires.0, l))

pub returns-in-l-clause-end : goal.returns-in-l-clause-end
returns-in-l-clause-end t c = (works_lam c.args.cells.now c.requires.0 c.args.at c.requires.1 c.in-l.is c.past.result c.past.ensures.end).0

pub bounds-cells-at-in-Value : goal.bounds-cells-at-in-Value
bounds-cells-at-in-Value t c = first_within c.args.cells.now c.requires.0 c.args.at c.requires.1 97 c.in-a.is (omega arith)

pub offset_bounds-cells-middle : goal.offset_bounds-cells-middle
offset_bounds-cells-middle t c =
    let l = second_within c.args.cells.now c.requires.0 c.args.at c.requires.1 97 c.in-a.is (omega arith) (ended c.work-middle.result) (c.work-middle.ensures.end, c.work-middle.ensures.progress) in
    search (rules, l.1)

pub slice_bounds-applied-count : goal.slice_bounds-applied-count
slice_bounds-applied-count t c =
    let l = second_within c.args.cells.now c.requires.0 c.args.at c.requires.1 97 c.in-a.is (omega arith) (ended c.work-middle.result) (c.work-middle.ensures.end, c.work-middle.ensures.progress) in
    omega (arith, l.1)

pub slice_bounds-applied-start : goal.slice_bounds-applied-start
slice_bounds-applied-start t c =
    let l = second_within c.args.cells.now c.requires.0 c.args.at c.requires.1 97 c.in-a.is (omega arith) (ended c.work-middle.result) (c.work-middle.ensures.end, c.work-middle.ensures.progress) in
    omega (arith, l.1)

pub bounds-cells-at-in-Value-pair : goal.bounds-cells-at-in-Value-pair
bounds-cells-at-in-Value-pair t c = first_within c.args.cells.now c.requires.0 c.args.at c.requires.1 100 c.in-d.is (omega arith)

pub bounds-cells-at-in-Value-condition : goal.bounds-cells-at-in-Value-condition
bounds-cells-at-in-Value-condition t c = first_within c.args.cells.now c.requires.0 c.args.at c.requires.1 105 c.in-i.is (omega arith)

-- where a part is no value, what the rule would be does not matter
parts_first : (o x : Found) (p : Progress) → o ≡ found_of p → (p ≡ Value → ⊥) → found_of p ≡ option_or o x
parts_first o x Value e n = absurd (n refl)
parts_first o x (Step r k) e n = ap (λ (o : Found). option_or o x) (sym e)
parts_first o x (Stuck k) e n = ap (λ (o : Found). option_or o x) (sym e)

pub returns-in-Value : goal.returns-in-Value
returns-in-Value t c =
    let cs = c.args.cells.now in
    let r = ended c.work-middle.result in
    let s = ended c.work-end.result in
    let part = get_or cs (c.args.at + 1) blank in
    let rule = applied_of part.op part.argument (drop r.0 cs) in
    let due : found_of c.due.result ≡ Some (c.args.at, rule) = c.due.ensures ∙ ap (λ o. Some (c.args.at, o)) (c.applied-rule.ensures ∙ ap (applied_of part.op part.argument) (take_rest cs r.0)) in
    let both : option_or s.1 r.1 ≡ None = sym c.or.ensures ∙ ap found_of c.in-Value.is in
    let work = due ∙ sym (ap (λ (o : Found). option_or o (Some (c.args.at, rule))) both) ∙ or_or s.1 r.1 (Some (c.args.at, rule)) in
    let w = works_app cs c.requires.0 c.args.at c.requires.1 c.in-a.is r s (found_of c.due.result) (c.work-middle.ensures.end, c.work-middle.ensures.progress) (c.work-end.ensures.end, c.work-end.ensures.progress) work in
    record { end = w.0; progress = w.1 }

pub returns-in_default-or : goal.returns-in_default-or
returns-in_default-or t c =
    let cs = c.args.cells.now in
    let r = ended c.work-middle.result in
    let s = ended c.work-end.result in
    let part = get_or cs (c.args.at + 1) blank in
    let rule : Found = Some (c.args.at, applied_of part.op part.argument (drop r.0 cs)) in
    let work = parts_first (option_or s.1 r.1) rule c.or.result (sym c.or.ensures) c.in_default-or.not-Value ∙ or_or s.1 r.1 rule in
    let w = works_app cs c.requires.0 c.args.at c.requires.1 c.in-a.is r s (found_of c.or.result) (c.work-middle.ensures.end, c.work-middle.ensures.progress) (c.work-end.ensures.end, c.work-end.ensures.progress) work in
    record { end = w.0; progress = w.1 }

pub returns-in-p : goal.returns-in-p
returns-in-p t c =
    let r = ended c.work-middle-in-p.result in
    let s = ended c.work-end-in-p.result in
    let w = works_pair c.args.cells.now c.requires.0 c.args.at c.requires.1 c.in-p.is r s (found_of c.or-in-p.result) (c.work-middle-in-p.ensures.end, c.work-middle-in-p.ensures.progress) (c.work-end-in-p.ensures.end, c.work-end-in-p.ensures.progress) c.or-in-p.ensures in
    record { end = w.0; progress = w.1 }

pub returns-in-Value-pair : goal.returns-in-Value-pair
returns-in-Value-pair t c =
    let cs = c.args.cells.now in
    let r = ended c.work-middle-in-d.result in
    let rule = opened_of (get_or cs (c.args.at + 1) blank).op in
    let work : found_of c.due-in-Value-pair.result ≡ option_or r.1 (Some (c.args.at, rule)) =
    c.due-in-Value-pair.ensures ∙ ap (λ o. Some (c.args.at, o)) c.opened.ensures ∙ sym (ap (λ p. option_or (found_of p) (Some (c.args.at, rule))) c.in-Value-pair.is) in
    let w = works_let cs c.requires.0 c.args.at c.requires.1 c.in-d.is r c.past-end.result (found_of c.due-in-Value-pair.result) (c.work-middle-in-d.ensures.end, c.work-middle-in-d.ensures.progress) c.past-end.ensures.end work in
    record { end = w.0; progress = w.1 }

pub returns-in_default-pair : goal.returns-in_default-pair
returns-in_default-pair t c =
    let cs = c.args.cells.now in
    let r = ended c.work-middle-in-d.result in
    let rule : Found = Some (c.args.at, opened_of (get_or cs (c.args.at + 1) blank).op) in
    let work = parts_first r.1 rule c.work-middle-in-d.result.1 refl c.in_default-pair.not-Value in
    let w = works_let cs c.requires.0 c.args.at c.requires.1 c.in-d.is r c.past-end.result r.1 (c.work-middle-in-d.ensures.end, c.work-middle-in-d.ensures.progress) c.past-end.ensures.end work in
    record { end = w.0; progress = w.1 }

pub returns-in-Value-condition : goal.returns-in-Value-condition
returns-in-Value-condition t c =
    let cs = c.args.cells.now in
    let r = ended c.work-middle-in-i.result in
    let rule = branched_of (get_or cs (c.args.at + 1) blank).op in
    let work : found_of c.due-in-Value-condition.result ≡ option_or r.1 (Some (c.args.at, rule)) =
    c.due-in-Value-condition.ensures ∙ ap (λ o. Some (c.args.at, o)) c.branched.ensures ∙ sym (ap (λ p. option_or (found_of p) (Some (c.args.at, rule))) c.in-Value-condition.is) in
    let w = works_if cs c.requires.0 c.args.at c.requires.1 c.in-i.is r c.past-in-i.result c.past-end-in-i.result (found_of c.due-in-Value-condition.result) (c.work-middle-in-i.ensures.end, c.work-middle-in-i.ensures.progress) c.past-in-i.ensures.end c.past-end-in-i.ensures.end work in
    record { end = w.0; progress = w.1 }

pub returns-in_default-condition : goal.returns-in_default-condition
returns-in_default-condition t c =
    let cs = c.args.cells.now in
    let r = ended c.work-middle-in-i.result in
    let rule : Found = Some (c.args.at, branched_of (get_or cs (c.args.at + 1) blank).op) in
    let work = parts_first r.1 rule c.work-middle-in-i.result.1 refl c.in_default-condition.not-Value in
    let w = works_if cs c.requires.0 c.args.at c.requires.1 c.in-i.is r c.past-in-i.result c.past-end-in-i.result r.1 (c.work-middle-in-i.ensures.end, c.work-middle-in-i.ensures.progress) c.past-in-i.ensures.end c.past-end-in-i.ensures.end work in
    record { end = w.0; progress = w.1 }
