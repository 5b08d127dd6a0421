-- The whole view.
use Rattle.std.specs.Prelude.{◌≡◌, ℕ, List, [], ◌∷◌, ◌++◌, Option, codes}
use Rattle.calculus.specs.declared.cells.TermCell.{TermCell}
use Rattle.calculus.specs.declared.cells.TypeCell.{TypeCell}
use Rattle.notation.specs.Terms.{term_trees}
use Rattle.termview.specs.Judging.{terms_read, types_read, verdict_on}
use Rattle.termview.specs.Layout.{TermsLaid}
use Rattle.termview.specs.Rows.{rows_text}
use Rattle.termview.specs.Verdicts.{refused_cell, verdict_text}

abbrev pub heading : List ℕ
heading =
    codes "\n    cell  line  letter  term"
    ++ codes "                                            claims\n"

-- the terms on their lines, and the rows; nothing where there is no cell
abbrev pub table_text : List TypeCell → List TermCell → Option ℕ → List ℕ → List ℕ
table_text types [] marked laid = []
table_text types (c ∷ cs) marked laid =
    codes "term\n" ++ (laid ++ (heading ++ (rows_text types (c ∷ cs) marked ++ codes "\n")))

-- The table stands behind what there was.
pub record TableOf (types : List TypeCell) (terms : List TermCell) (marked : Option ℕ)
    (old new : List ℕ) : Type 0 where
  pub laid : List ℕ
  pub lines : TermsLaid (term_trees terms) laid
  pub text : new ≡ old ++ table_text types terms marked laid

-- A text's view: the terms that were read of it on their lines, with a row for each cell; the
-- product's verdict, with the refused cell marked; and reasons.
pub record ViewOf (text out : List ℕ) : Type 0 where
  pub laid : List ℕ
  pub reasons : List ℕ
  pub lines : TermsLaid (term_trees (terms_read text)) laid
  pub shown :
      let v = verdict_on text in
      let types = types_read text in
      let terms = terms_read text in
      out ≡ table_text types terms (refused_cell v types terms) laid
      ++ (verdict_text v text types terms ++ reasons)
