-- Nothing of a step is free but the register's answer.
use Rattle.std.proofs.Common.{◌≡◌, ℕ, ◌<◌, ◌⊎◌, List, [], ◌∷◌, sym, refl, ap, ◌∙◌, subst, ap₂, inl, inr, ⊎_elim, arith}
use Rattle.calculus.specs.Terms.{Running}
use Rattle.calculus.specs.Reduction.{Effect, silent, prepares, reads, applies, Reduces}
use Rattle.calculus.specs.Names.{Names, In, Rising}
use Rattle.calculus.proofs.Determinism.{deterministic}
use Rattle.registers.specs.Meaning.{Meaning, Changes, after_prepare, after_read, after_gate}
use Rattle.rows.specs.Stepping.{Acts, without}
use Rattle.rows.specs.Making.{StepsAreExact}

-- A rising list is told by its members.
same_head : {h k : ℕ} {A B : Type 0} → (h ≡ k) ⊎ A → (A → k < h) → (k ≡ h) ⊎ B → (B → h < k) → h ≡ k
same_head (inl e) f y g = e
same_head (inr a) f (inl e) g = sym e
same_head (inr a) f (inr b) g = let x = f a in let y = g b in absurd (omega arith)

same_tail : (h : ℕ) (hs ks : List ℕ) → ((j : ℕ) → In j hs → h < j) → ((j : ℕ) → In j (h ∷ hs) → In j (h ∷ ks)) → (j : ℕ) → In j hs → In j ks
same_tail h hs ks r f j i = let l = r j i in ⊎_elim (λ e. absurd (omega arith)) (λ k. k) (f j (inr i))

pub same_rising : (hs ks : List ℕ) → Rising hs → Rising ks → ((j : ℕ) → In j hs → In j ks) → ((j : ℕ) → In j ks → In j hs) → hs ≡ ks
same_rising [] [] r s f g = refl
same_rising [] (k ∷ ks) r s f g = absurd (g k (inl refl))
same_rising (h ∷ hs) [] r s f g = absurd (f h (inl refl))
same_rising (h ∷ hs) (k ∷ ks) r s f g =
    ap₂ ◌∷◌ e (same_rising hs ks r.1 s.1 (same_tail h hs ks r.0 (subst (λ (i : ℕ). (j : ℕ) → In j (h ∷ hs) → In j (i ∷ ks)) (sym e) f))
    (same_tail k ks hs s.0 (subst (λ (i : ℕ). (j : ℕ) → In j (k ∷ ks) → In j (i ∷ hs)) e g)))
  where
    e : h ≡ k
    e = same_head (f h (inl refl)) (s.0 h) (g k (inl refl)) (r.0 k)

module _ {C : Type 0} (changes : Changes C) where
  -- What an act leaves is told by its effect.
  abbrev acted : Effect → Meaning C → Meaning C
  acted silent r = r
  acted (prepares b h) r = after_prepare changes r h b
  acted (reads h b) r = after_read changes r h b
  acted (applies u hs) r = after_gate changes r u hs

  is_acted : (e : Effect) (r s : Meaning C) → Acts changes r e s → s ≡ acted e r
  is_acted silent r s q = q
  is_acted (prepares b h) r s (x, f, q) = q
  is_acted (reads h b) r s (x, q) = q
  is_acted (applies u hs) r s (x, q) = q

pub steps_are_exact : (C : Type 0) → StepsAreExact C
steps_are_exact C changes m n n' r s s' t t' q = (same, t.after ∙ ap₂ (without changes) lists registers ∙ sym t'.after)
  where
    same : n ≡ n'
    same = deterministic m n n' t.effect t.reduces (subst (λ (e : Effect). Reduces m e n') (sym q) t'.reduces)

    registers : t.between ≡ t'.between
    registers = is_acted changes t.effect r t.between t.acts ∙ ap (λ (e : Effect). acted changes e r) q ∙ sym (is_acted changes t'.effect r t'.between t'.acts)

    lists : t.dropped ≡ t'.dropped
    lists = same_rising t.dropped t'.dropped t.rising t'.rising
        (λ j i. let p = (t.dropped_are j).0 i in (t'.dropped_are j).1 (p.0, λ x. p.1 (subst (λ (y : Running). Names y j) (sym same) x)))
        (λ j i. let p = (t'.dropped_are j).0 i in (t.dropped_are j).1 (p.0, λ x. p.1 (subst (λ (y : Running). Names y j) same x)))
