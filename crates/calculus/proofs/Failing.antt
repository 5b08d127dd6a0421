-- No cell fails a test just where every cell passes it.
use Rattle.std.proofs.Common.{◌≡◌, ℕ, zero, suc, ◌+◌, ◌<◌, Bool, true, false, cond, ◌&&◌, T, List, [], ◌∷◌, Some, None, Option, sym, refl, ap, ◌∙◌, subst, arith}
use Rattle.std.specs.List.{slice_get}
use Rattle.std.proofs.lemmas.Bool.{cond_both, both_ways}
use Rattle.trees.specs.Failing.{first_failing}
use Rattle.calculus.specs.Reading.{every}
use Rattle.calculus.proofs.Reading.{T_true, both}

module _ {X : Type 0} (f : X → Bool) where
  pub all_pass : (cs : List X) (k : ℕ) → first_failing f cs k ≡ None → T (every f cs)
  all_pass [] k e = tt
  all_pass (c ∷ cs) k e = go (f c) refl e (all_pass cs (k + 1))
    where
      go : (b : Bool) → f c ≡ b → cond b (first_failing f cs (k + 1)) (Some k) ≡ None → (first_failing f cs (k + 1) ≡ None → T (every f cs)) → T (every f (c ∷ cs))
      go true p e h = subst (λ b. T (b && every f cs)) (sym p) (h e)
      go false p e h = let z : ◌≡◌ {A = ℕ} 0 1 = cc in absurd (omega arith)

  pub none_fails : (cs : List X) (k : ℕ) → T (every f cs) → first_failing f cs k ≡ None
  none_fails [] k h = refl
  none_fails (c ∷ cs) k h =
      let (p, q) = both (f c) (every f cs) h in
      ap (λ b. cond b (first_failing f cs (k + 1)) (Some k)) (T_true (f c) p) ∙ none_fails cs (k + 1) q

-- What the search for the first cell that fails a test has found: no cell that does, or the first.
module _ {X : Type 0} (f : X → Bool) where
  abbrev pub FirstFails : List X → ℕ → Option ℕ → Type 0
  FirstFails cs a None = (j : ℕ) (d : X) → slice_get cs j ≡ Some d → f d ≡ false → ⊥
  FirstFails cs a (Some n) =
      (k : ℕ) × (c : X) × (n ≡ a + k) × (slice_get cs k ≡ Some c) × (f c ≡ false) × ((j : ℕ) (d : X) → j < k → slice_get cs j ≡ Some d → f d ≡ false → ⊥)

  passes_on : (c : X) (cs : List X) (a : ℕ) (o : Option ℕ) → f c ≡ true → FirstFails cs (a + 1) o → FirstFails (c ∷ cs) a o
  passes_on c cs a None e h = elim [
    | zero ↦ λ d g l. both_ways (f d) l (rw (cell c d g) at e)
    | suc j ↦ λ d g l. h j d g l
  ]
    where
      cell : (c d : X) → Some c ≡ Some d → c ≡ d
      cell c d g = cc
  passes_on c cs a (Some n) e h = (
    suc h.0,
    h.1,
    (let z = h.2 in omega arith),
    h.3,
    h.4,
    elim [
      | zero ↦ λ d s g l. both_ways (f d) l (rw (cell c d g) at e)
      | suc j ↦ λ d s g l. h.5 j d (omega arith) g l
    ],
  )
    where
      cell : (c d : X) → Some c ≡ Some d → c ≡ d
      cell c d g = cc

  pub first_fails : (cs : List X) (a : ℕ) → FirstFails cs a (first_failing f cs a)
  first_fails [] a = λ j d g l. none_there j d g
    where
      none_there : (j : ℕ) (d : X) → slice_get [] j ≡ Some d → ⊥
      none_there j d g = cc
  first_fails (c ∷ cs) a =
      cond_both (f c) _ _ (λ o. FirstFails (c ∷ cs) a o)
      (λ e. passes_on c cs a (first_failing f cs (a + 1)) e (first_fails cs (a + 1)))
      (λ e. (0, c, omega arith, refl, e, λ j d l. absurd (omega arith)))
