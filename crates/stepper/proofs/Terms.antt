-- The cells of running terms: how they are parted, and what stands for them.
use Rattle.std.proofs.Common.{◌≡◌, ℕ, zero, suc, ◌+◌, ◌-◌, Bool, true, false, cond, ltb, List, [], ◌∷◌, ◌++◌, map, sym, refl, ap, ap₂, ◌∙◌, add-one, arith}
use native.Mathlib.Numerals.{add-two}
use Rattle.std.proofs.lemmas.List.{append_assoc, append-nil}
use Rattle.calculus.specs.Terms.{bit_of, meas, new, gate, bound, held, var, const, star, lam, app, pair, if_then_else, let_pair, Running}
use Rattle.calculus.specs.Cells.{running_cells, cell_of}
use Rattle.calculus.specs.Reduction.{substituted, replaced, chosen}
use Rattle.calculus.specs.declared.cells.TermCell.{TermCell}
use Rattle.calculus.proofs.Values.{raised_below}
use Rattle.stepper.specs.Laws.{AllClosed}
use Rattle.stepper.specs.Parts.{taken, after}
use Rattle.stepper.specs.Substitution.{value_cells, substitute}

-- the cells of a term are one tree, whatever is due after it
abbrev Taken : Running → Type 0
Taken m = (k : ℕ) (rest : List TermCell) → (taken (suc k) (running_cells m ++ rest) ≡ running_cells m ++ taken k rest) × (after (suc k) (running_cells m ++ rest) ≡ after k rest)

taken_two : (m n : Running) (k : ℕ) (rest : List TermCell) → Taken m → Taken n
    → (taken (k + 2) ((running_cells m ++ running_cells n) ++ rest) ≡ (running_cells m ++ running_cells n) ++ taken k rest)
    × (after (k + 2) ((running_cells m ++ running_cells n) ++ rest) ≡ after k rest)
taken_two m n k rest f g =
    let whole = append_assoc (running_cells m) (running_cells n) rest in
    let one = f (suc k) (running_cells n ++ rest) in
    let two = g k rest in (
      ap₂ (λ i ds. taken i ds) (add-two k) whole ∙ one.0 ∙ ap (λ ds. running_cells m ++ ds) two.0 ∙ sym (append_assoc (running_cells m) (running_cells n) (taken k rest)),
      ap₂ (λ i ds. after i ds) (add-two k) whole ∙ one.1 ∙ two.1,
    )

leaf : (c : TermCell) (k n : ℕ) (rest : List TermCell) → n ≡ 0 → (c ∷ taken (k + n) rest ≡ c ∷ taken k rest) × (after (k + n) rest ≡ after k rest)
leaf c k n rest e =
    let z : k + n ≡ k = omega arith in
    (ap (λ i. c ∷ taken i rest) z, ap (λ i. after i rest) z)

pub taken_term : (m : Running) → Taken m
taken_term (var c (bound i)) k rest = leaf _ k 0 rest refl
taken_term (var c (held h)) k rest = leaf _ k 0 rest refl
taken_term (const c (bit_of false)) k rest = leaf _ k 0 rest refl
taken_term (const c (bit_of true)) k rest = leaf _ k 0 rest refl
taken_term (const c meas) k rest = leaf _ k 0 rest refl
taken_term (const c new) k rest = leaf _ k 0 rest refl
taken_term (const c (gate u)) k rest = leaf _ k 0 rest refl
taken_term (star c) k rest = leaf _ k 0 rest refl
taken_term (lam c m) k rest =
    let f = taken_term m k rest in
    (ap (λ i. cell_of 108 0 0 ∷ taken i (running_cells m ++ rest)) (add-one k) ∙ ap (λ ds. cell_of 108 0 0 ∷ ds) f.0, ap (λ i. after i (running_cells m ++ rest)) (add-one k) ∙ f.1)
taken_term (app c m n) k rest = let f = taken_two m n k rest (taken_term m) (taken_term n) in (ap (λ ds. cell_of 97 0 0 ∷ ds) f.0, f.1)
taken_term (pair c m n) k rest = let f = taken_two m n k rest (taken_term m) (taken_term n) in (ap (λ ds. cell_of 112 0 0 ∷ ds) f.0, f.1)
taken_term (if_then_else c p m n) k rest =
    let whole = append_assoc (running_cells p) (running_cells m ++ running_cells n) rest in
    let due : k + 3 ≡ suc (k + 2) = omega arith in
    let one = taken_term p (k + 2) ((running_cells m ++ running_cells n) ++ rest) in
    let two = taken_two m n k rest (taken_term m) (taken_term n) in (
      ap (λ ds. cell_of 105 0 0 ∷ ds) (ap₂ (λ i ds. taken i ds) due whole ∙ one.0 ∙ ap (λ ds. running_cells p ++ ds) two.0 ∙ sym (append_assoc (running_cells p) (running_cells m ++ running_cells n) (taken k rest))),
      ap₂ (λ i ds. after i ds) due whole ∙ one.1 ∙ two.1,
    )
taken_term (let_pair c m n) k rest = let f = taken_two m n k rest (taken_term m) (taken_term n) in (ap (λ ds. cell_of 100 0 0 ∷ ds) f.0, f.1)

-- the first term of some cells, and the cells after it
pub first_term : (m : Running) (rest : List TermCell) → taken 1 (running_cells m ++ rest) ≡ running_cells m
first_term m rest = (taken_term m 0 rest).0 ∙ append-nil (running_cells m)

pub after_term : (m : Running) (rest : List TermCell) → after 1 (running_cells m ++ rest) ≡ rest
after_term m rest = (taken_term m 0 rest).1

-- a closed value for a variable
valued : (k : ℕ) (vs : List Running) (j : ℕ) → AllClosed vs → value_cells k (map running_cells vs) j ≡ running_cells (chosen k vs j)
valued k [] j h = refl
valued k (v ∷ vs) zero h = ap running_cells (sym (raised_below k 0 v (λ i f. absurd (h.0 i f))))
valued k (v ∷ vs) (suc j) h = valued k vs j h.1

module _ (vs : List Running) (h : AllClosed vs) where
  abbrev ws : List (List TermCell)
  ws = map running_cells vs

  abbrev Substitutes : Running → ℕ → Type 0
  Substitutes m k = (ks : List ℕ) (rest : List TermCell) → substitute ws (k ∷ ks) (running_cells m ++ rest) ≡ running_cells (substituted k vs m) ++ substitute ws ks rest

  two_substituted : (m n : Running) (k l : ℕ) (ks : List ℕ) (rest : List TermCell) → Substitutes m k → Substitutes n l
      → substitute ws (k ∷ l ∷ ks) ((running_cells m ++ running_cells n) ++ rest) ≡ (running_cells (substituted k vs m) ++ running_cells (substituted l vs n)) ++ substitute ws ks rest
  two_substituted m n k l ks rest f g =
      ap (substitute ws (k ∷ l ∷ ks)) (append_assoc (running_cells m) (running_cells n) rest)
      ∙ f (l ∷ ks) (running_cells n ++ rest)
      ∙ ap (λ ds. running_cells (substituted k vs m) ++ ds) (g ks rest)
      ∙ sym (append_assoc (running_cells (substituted k vs m)) (running_cells (substituted l vs n)) (substitute ws ks rest))

  pub substitute_term : (m : Running) (k : ℕ) → Substitutes m k
  substitute_term (var c (bound i)) k ks rest = go (ltb i k)
    where
      go : (b : Bool) → cond b (cell_of 118 i 0 ∷ []) (value_cells k ws (i - k)) ++ substitute ws ks rest ≡ running_cells (replaced k vs b i) ++ substitute ws ks rest
      go true = refl
      go false = ap (λ ds. ds ++ substitute ws ks rest) (valued k vs (i - k) h)
  substitute_term (var c (held x)) k ks rest = refl
  substitute_term (const c (bit_of false)) k ks rest = refl
  substitute_term (const c (bit_of true)) k ks rest = refl
  substitute_term (const c meas) k ks rest = refl
  substitute_term (const c new) k ks rest = refl
  substitute_term (const c (gate u)) k ks rest = refl
  substitute_term (star c) k ks rest = refl
  substitute_term (lam c m) k ks rest = ap (λ ds. cell_of 108 0 0 ∷ ds) (substitute_term m (suc k) ks rest)
  substitute_term (app c m n) k ks rest = ap (λ ds. cell_of 97 0 0 ∷ ds) (two_substituted m n k k ks rest (substitute_term m k) (substitute_term n k))
  substitute_term (pair c m n) k ks rest = ap (λ ds. cell_of 112 0 0 ∷ ds) (two_substituted m n k k ks rest (substitute_term m k) (substitute_term n k))
  substitute_term (if_then_else c p m n) k ks rest =
      ap (λ ds. cell_of 105 0 0 ∷ ds)
      (ap (substitute ws (k ∷ k ∷ k ∷ ks)) (append_assoc (running_cells p) (running_cells m ++ running_cells n) rest)
      ∙ substitute_term p k (k ∷ k ∷ ks) ((running_cells m ++ running_cells n) ++ rest)
      ∙ ap (λ ds. running_cells (substituted k vs p) ++ ds) (two_substituted m n k k ks rest (substitute_term m k) (substitute_term n k))
      ∙ sym (append_assoc (running_cells (substituted k vs p)) (running_cells (substituted k vs m) ++ running_cells (substituted k vs n)) (substitute ws ks rest)))
  substitute_term (let_pair c m n) k ks rest = ap (λ ds. cell_of 100 0 0 ∷ ds) (two_substituted m n k (suc (suc k)) ks rest (substitute_term m k) (substitute_term n (suc (suc k))))

  pub substituted_cells : (m : Running) (rest : List TermCell) → substitute ws (0 ∷ []) (running_cells m ++ rest) ≡ running_cells (substituted 0 vs m)
  substituted_cells m rest = substitute_term m 0 [] rest ∙ append-nil (running_cells (substituted 0 vs m))
