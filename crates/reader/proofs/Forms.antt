-- What a line is, by the tests on its first field and by its pieces.
use Rattle.std.proofs.Common.{◌≡◌, ℕ, Bool, false, List, ◌∷◌, sym, ap, ◌∙◌}
use Rattle.std.specs.Str.{bytes_eq}
use Rattle.std.proofs.lemmas.Bool.{cond-false}
use Rattle.reader.specs.Lines.{Said, other, header_line, said, said_fields}
use Rattle.reader.specs.Pieces.{pieces}
use Rattle.reader.proofs.Cuts.{some_piece}

pub by_fields : (line : List ℕ) (r : Bool) {fs : List (List ℕ)} {s : Said} → r ≡ bytes_eq line header_line → r ≡ false
    → pieces 9 line ≡ fs → s ≡ said_fields fs → s ≡ said line
by_fields line r m e p h = h ∙ ap said_fields (sym p) ∙ sym (cond-false _ _ _ (sym m ∙ e))

pub too_many : (l f g h : List ℕ) (rest : List ℕ) → other ≡ said_fields (l ∷ f ∷ g ∷ h ∷ pieces 9 rest)
too_many l f g h rest = let (p, ps, e) = some_piece 9 rest in ap (λ more. said_fields (l ∷ f ∷ g ∷ h ∷ more)) (sym e)
