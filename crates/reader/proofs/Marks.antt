-- Texts that lack a mark, and pieces put together again.
use Rattle.std.proofs.Common.{◌≡◌, ℕ, true, false, eqb, ◌⊎◌, List, [], ◌∷◌, ◌++◌, sym, refl, ap, ◌∙◌, inl, inr}
use Rattle.std.proofs.lemmas.List.{append_assoc, append-nil}
use Rattle.std.proofs.lemmas.Bool.{cases_Bool, cond-true, cond-false, eqb-true}
use Rattle.std.specs.List.{AllByRecursion, onto_first}
use Rattle.reader.specs.Pieces.{pieces}
use Rattle.reader.specs.Stored.{text_of}
use Rattle.reader.proofs.Cuts.{at_mark, at_other, some_piece}

abbrev pub Lacks : ℕ → List ℕ → Type 0
Lacks mark xs = AllByRecursion (λ b. b ≡ mark → ⊥) xs

-- pieces, with the mark between them
abbrev pub glued : ℕ → List (List ℕ) → List ℕ
glued mark [] = []
glued mark (p ∷ []) = p
glued mark (p ∷ q ∷ ps) = p ++ (mark ∷ glued mark (q ∷ ps))

module _ (mark : ℕ) where
  pub lone : (xs : List ℕ) → Lacks mark xs → pieces mark xs ≡ xs ∷ []
  lone [] h = refl
  lone (x ∷ xs) h = at_other mark x xs h.0 ∙ ap (onto_first x) (lone xs h.1)

  pub cut_off : (xs ys : List ℕ) → Lacks mark xs → pieces mark (xs ++ (mark ∷ ys)) ≡ xs ∷ pieces mark ys
  cut_off [] ys h = at_mark mark mark ys refl
  cut_off (x ∷ xs) ys h = at_other mark x (xs ++ (mark ∷ ys)) h.0 ∙ ap (onto_first x) (cut_off xs ys h.1)

  glue_longer : (x : ℕ) (p : List ℕ) (ps : List (List ℕ)) → glued mark (onto_first x (p ∷ ps)) ≡ x ∷ glued mark (p ∷ ps)
  glue_longer x p [] = refl
  glue_longer x p (q ∷ ps) = refl

  glue_more : (x : ℕ) (xs : List ℕ) → glued mark (pieces mark xs) ≡ xs → (eqb x mark ≡ true) ⊎ (eqb x mark ≡ false) → glued mark (pieces mark (x ∷ xs)) ≡ x ∷ xs
  glue_more x xs h (inl e) =
      let (p, ps, c) = some_piece mark xs in
      ap (glued mark) (cond-true _ _ _ e ∙ ap (λ qs. [] ∷ qs) c) ∙ ap (λ ys. mark ∷ ys) (ap (glued mark) (sym c) ∙ h) ∙ ap (λ y. y ∷ xs) (sym (eqb-true x mark e))
  glue_more x xs h (inr e) =
      let (p, ps, c) = some_piece mark xs in
      ap (glued mark) (cond-false _ _ _ e ∙ ap (onto_first x) c) ∙ glue_longer x p ps ∙ ap (λ ys. x ∷ ys) (ap (glued mark) (sym c) ∙ h)

  pub glue : (xs : List ℕ) → glued mark (pieces mark xs) ≡ xs
  glue [] = refl
  glue (x ∷ xs) = glue_more x xs (glue xs) (cases_Bool (eqb x mark))

-- ended lines, and nothing after them
pub glue_lines : (ls : List (List ℕ)) → glued 10 (ls ++ ([] ∷ [])) ≡ text_of ls
glue_lines [] = refl
glue_lines (l ∷ []) = sym (append-nil (l ++ (10 ∷ [])))
glue_lines (l ∷ m ∷ ls) = ap (λ ys. l ++ (10 ∷ ys)) (glue_lines (m ∷ ls)) ∙ sym (append_assoc l (10 ∷ []) (text_of (m ∷ ls)))

pub line_pieces : (ls : List (List ℕ)) → AllByRecursion (Lacks 10) ls → pieces 10 (text_of ls) ≡ ls ++ ([] ∷ [])
line_pieces [] h = refl
line_pieces (l ∷ ls) h = ap (pieces 10) (append_assoc l (10 ∷ []) (text_of ls)) ∙ cut_off 10 l (text_of ls) h.0 ∙ ap (λ ps. l ∷ ps) (line_pieces ls h.1)
