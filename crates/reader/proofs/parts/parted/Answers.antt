use Rattle.std.proofs.Common.{◌≡◌, ◌==◌, [], ◌∷◌, MatchOption, sym, ◌∙◌, subst, rules, tests}
use Rattle.std.specs.List.{position}
use Rattle.std.proofs.lemmas.Iterator.{YieldsList-from_slice}
use Rattle.std.proofs.lemmas.Iterator.Search.{position_from_yields_List}
use Rattle.reader.specs.Pieces.{pieces}
use Rattle.reader.proofs.Cuts.{first_piece, no_mark}
use Rattle.reader.proofs.parts.parted.Goals as goal
use Rattle.reader.proofs.parts.parted.Goals.{After-position}

-- the search answers where the first mark is
found : (c : After-position) → c.position.result ≡ position (λ b. b == c.args.mark) c.args.text.now
found c = position_from_yields_List _ _ _ _ c.position.ensures.ran (YieldsList-from_slice c.args.text.now cc) (λ x b q k. search (rules, tests))

pub returns-in_err-at-clause-parts : goal.returns-in_err-at-clause-parts
returns-in_err-at-clause-parts c =
    let text = c.args.text.now in
    subst (λ r. MatchOption r (pieces c.args.mark text ≡ text ∷ []) (λ p. pieces c.args.mark text ≡ p.0.now ∷ pieces c.args.mark p.1.now)) (sym c.from_residual.ensures)
    (no_mark c.args.mark text (sym (found (goal.at.returns-in_err-at-clause-parts c).After-position) ∙ c.in_err-at.was))

pub returns-clause-parts : goal.returns-clause-parts
returns-clause-parts c = first_piece c.args.mark c.args.text.now c.in_ok-at.at (sym (found (goal.at.returns-clause-parts c).After-position) ∙ c.in_ok-at.was)
