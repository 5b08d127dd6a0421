-- Lines of a text, the first and the next.
use Rattle.std.proofs.Common.{◌≡◌, ℕ, suc, ◌+◌, Bool, true, false, List, [], ◌∷◌, add-one, sym, ap, ◌∙◌}
use Rattle.reader.specs.Pieces.{pieces}
use Rattle.reader.proofs.Cuts.{some_piece}
use Rattle.termview.specs.Lines.{line_in}

-- the first of several lines is ended
pub first_of : (p text : List ℕ) → line_in 0 (p ∷ pieces 10 text) ≡ (p, true)
first_of p text = let (q, qs, e) = some_piece 10 text in ap (λ ps. line_in 0 (p ∷ ps)) e

-- a line that is not ended is the last
pub last_line : (n : ℕ) (ps : List (List ℕ)) (p : List ℕ) (b : Bool) → b ≡ false → (p, b) ≡ line_in 0 ps → (p, b) ≡ line_in n ps
last_line n [] p b e h = h
last_line n (q ∷ []) p b e h = h
last_line n (q ∷ r ∷ ps) p b e h = absurd (not_true (sym e ∙ ap (λ x. x.1) h))
  where
    not_true : false ≡ true → ⊥
    not_true e = cc e

-- the lines after the first
pub next_line : (m n : ℕ) (p text whole : List ℕ) → m ≡ n + 1 → pieces 10 whole ≡ p ∷ pieces 10 text → line_in n (pieces 10 text) ≡ line_in m (pieces 10 whole)
next_line m n p text whole e c =
    let (q, qs, f) = some_piece 10 text in
    ap (line_in n) f ∙ sym (ap (λ ps. line_in (suc n) (p ∷ ps)) f) ∙ ap (λ k. line_in k (p ∷ pieces 10 text)) (sym (e ∙ add-one n)) ∙ ap (line_in m) (sym c)
