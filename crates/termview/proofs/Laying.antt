-- Lines that were laid, and what goes on after them.
use Rattle.std.proofs.Common.{refl, ◌∷◌, ◌<◌, arith, rules, tests, ◌≡◌, ℕ, ◌+◌, ◌≤◌, List, [], ◌++◌, length, append_assoc, append-nil, sym, ap, ◌∙◌, subst}
use Rattle.calculus.specs.Reading.{rest as others, top}
use Rattle.calculus.specs.declared.cells.TermCell.{TermCell}
use Rattle.notation.specs.Terms.{no_term, term_text, term_trees}
use Rattle.notation.specs.declared.brackets.Around.TheVariants.{Open}
use Rattle.termview.specs.Layout.{TermsLaid, Behind, LaidAs, last, more, laid_line}

-- The lines so far, behind which any lines for the rest make lines for the whole.
pub record LaidSoFar (text old new rest : List ℕ) : Type 0 where
  pub so_far : List ℕ
  pub appended : new ≡ old ++ so_far
  pub goes_on : (laid : List ℕ) → LaidAs rest laid → LaidAs text (so_far ++ laid)

-- before the first line
pub nothing_laid : (text old : List ℕ) → LaidSoFar text old old text
nothing_laid text old = record {
  so_far = [];
  appended = sym (append-nil old);
  goes_on = λ laid h. h;
}

-- a line more
pub line_laid : (text old new newer line cut rest' rest : List ℕ) (indent : ℕ) → LaidSoFar text old new rest → rest ≡ line ++ cut → Behind cut rest' → indent + length line ≤ 100 → newer ≡ new ++ laid_line indent line → LaidSoFar text old newer rest'
line_laid text old new newer line cut rest' rest indent h e b n w = record {
  so_far = h.so_far ++ laid_line indent line;
  appended = w ∙ ap (λ xs. xs ++ laid_line indent line) h.appended ∙ append_assoc old h.so_far (laid_line indent line);
  goes_on = λ laid k.
      subst (λ xs. LaidAs text xs) (sym (append_assoc h.so_far (laid_line indent line) laid))
      (h.goes_on (laid_line indent line ++ laid) (subst (λ xs. LaidAs xs (laid_line indent line ++ laid)) (sym e) (more indent line cut rest' laid n b k)));
}

-- the last line
pub all_laid : (text old new newer rest : List ℕ) (indent : ℕ) → LaidSoFar text old new rest → indent + length rest ≤ 100 → newer ≡ new ++ laid_line indent rest → (laid : List ℕ) × ((newer ≡ old ++ laid) × LaidAs text laid)
all_laid text old new newer rest indent h n w = (
  h.so_far ++ laid_line indent rest,
  (
    w ∙ ap (λ xs. xs ++ laid_line indent rest) h.appended ∙ append_assoc old h.so_far (laid_line indent rest),
    h.goes_on (laid_line indent rest) (last indent rest n),
  ),
)

-- The terms so far, behind which any lines for the others make lines for all.
pub record TermsSoFar (all rest : List TermCell) (old new : List ℕ) : Type 0 where
  pub so_far : List ℕ
  pub appended : new ≡ old ++ so_far
  pub goes_on : (laid : List ℕ) → TermsLaid (term_trees rest) laid → TermsLaid (term_trees all) (so_far ++ laid)

-- before the first term
pub no_term_laid : (cells : List TermCell) (old : List ℕ) → TermsSoFar cells cells old old
no_term_laid cells old = record {
  so_far = [];
  appended = sym (append-nil old);
  goes_on = λ laid h. h;
}

-- cells make a first tree, and others
pub first_tree : (c : TermCell) (cs : List TermCell) → term_trees (c ∷ cs) ≡ top no_term (term_trees (c ∷ cs)) ∷ others (term_trees (c ∷ cs))
first_tree c cs = grind (rules, tests)

-- a term more
pub term_laid : (all rest after : List TermCell) (old new newer first term : List ℕ) → (0 < length rest) → TermsSoFar all rest old new
    → others (term_trees rest) ≡ term_trees after → term ≡ term_text 0 Open (top no_term (term_trees rest)) → newer ≡ new ++ first → LaidAs term first
    → TermsSoFar all after old newer
term_laid all [] after old new newer first term n h e f g k = absurd (omega (arith, n))
term_laid all (c ∷ cs) after old new newer first term n h e f g k = record {
  so_far = h.so_far ++ first;
  appended = g ∙ ap (λ xs. xs ++ first) h.appended ∙ append_assoc old h.so_far first;
  goes_on = λ laid m.
      subst (λ xs. TermsLaid (term_trees all) xs) (sym (append_assoc h.so_far first laid))
      (h.goes_on (first ++ laid) (subst (λ ts. TermsLaid ts (first ++ laid)) (sym (first_tree c cs))
      (first, (laid, (refl, (subst (λ t. LaidAs t first) f k, subst (λ ts. TermsLaid ts laid) (sym e) m))))));
}

-- all terms
pub all_terms_laid : (all : List TermCell) (rest : List TermCell) (old new : List ℕ) → length rest ≡ 0 → TermsSoFar all rest old new
    → (laid : List ℕ) × (TermsLaid (term_trees all) laid × (new ≡ old ++ laid))
all_terms_laid all [] old new e h = (h.so_far ++ [], (h.goes_on [] refl, h.appended ∙ ap (λ xs. old ++ xs) (sym (append-nil h.so_far))))
all_terms_laid all (c ∷ cs) old new e h = absurd (omega (arith, e))
