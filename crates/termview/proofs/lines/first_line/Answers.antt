use Rattle.std.proofs.Common.{◌≡◌, ◌+◌, ◌-◌, ◌==◌, length, take, drop, ap, sym, ◌∙◌, rules, tests}
use Rattle.std.specs.List.{position}
use Rattle.std.proofs.lemmas.Iterator.{YieldsList-from_slice}
use Rattle.std.proofs.lemmas.Iterator.Search.{position_from_yields_List}
use Rattle.reader.proofs.Cuts.{first_piece, no_mark}
use Rattle.termview.specs.Lines.{line_in}
use Rattle.termview.proofs.Pieces.{first_of}
use Rattle.termview.proofs.lines.first_line.Goals as goal
use Rattle.termview.proofs.lines.first_line.Goals.{After-position}

-- the search answers where the first end of a line is
found : (c : After-position) → c.position.result ≡ position (λ b. b == 10) c.args.text.now
found c = position_from_yields_List _ _ _ _ c.position.ensures.ran (YieldsList-from_slice c.args.text.now cc) (λ x b q k. search (rules, tests))

pub returns-in-Some-clause-line : goal.returns-in-Some-clause-line
returns-in-Some-clause-line c =
    let text = c.args.text.now in
    let e = first_piece 10 text c.in-Some.end (sym (found (goal.at.returns-in-Some-clause-line c).After-position) ∙ c.in-Some.is) in
    sym (ap (line_in 0) e ∙ first_of (take c.in-Some.end text) (take (length text - (c.in-Some.end + 1)) (drop (c.in-Some.end + 1) text)))

pub returns-in-Some-clause-rest : goal.returns-in-Some-clause-rest
returns-in-Some-clause-rest c = λ h. first_piece 10 c.args.text.now c.in-Some.end (sym (found (goal.at.returns-in-Some-clause-rest c).After-position) ∙ c.in-Some.is)

pub returns-in-None-clause-line : goal.returns-in-None-clause-line
returns-in-None-clause-line c = sym (ap (line_in 0) (no_mark 10 c.args.text.now (sym (found (goal.at.returns-in-None-clause-line c).After-position) ∙ c.in-None.is)))
