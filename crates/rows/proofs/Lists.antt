-- The live places of a list of flags, as a rising list of handles.
use Rattle.std.proofs.Common.{◌≡◌, ℕ, zero, suc, ◌<◌, Bool, true, false, ◌⊎◌, ◌↔◌, List, [], ◌∷◌, length, get_or, set, replicate, sym, refl, ap, ◌∙◌, subst, inl, inr, ⊎_elim, arith}
use native.Mathlib.Decide.{ℕ_discrete}
use Rattle.std.proofs.lemmas.List.{get_or-set_same, get_or-set_other}
use Rattle.calculus.specs.Names.{In, Distinct, Rising}
use Rattle.registers.specs.Meaning.{counted}
use Rattle.registers.proofs.Put.{none_set}

pub false_true : false ≡ true → ⊥
false_true e = let z : ◌≡◌ {A = ℕ} 0 1 = cc in omega arith

suc_zero : {h : ℕ} → suc h ≡ 0 → ⊥
suc_zero e = omega arith

-- every handle one higher
abbrev ups : List ℕ → List ℕ
ups [] = []
ups (h ∷ hs) = suc h ∷ ups hs

abbrev pub lit : List Bool → List ℕ
lit [] = []
lit (true ∷ bs) = 0 ∷ ups (lit bs)
lit (false ∷ bs) = ups (lit bs)

length_ups : (hs : List ℕ) → length (ups hs) ≡ length hs
length_ups [] = refl
length_ups (h ∷ hs) = ap suc (length_ups hs)

pub counted_lit : (bs : List Bool) → counted bs ≡ length (lit bs)
counted_lit [] = refl
counted_lit (true ∷ bs) = ap suc (counted_lit bs ∙ sym (length_ups (lit bs)))
counted_lit (false ∷ bs) = counted_lit bs ∙ sym (length_ups (lit bs))

no_zero : (hs : List ℕ) → In 0 (ups hs) → ⊥
no_zero [] i = i
no_zero (h ∷ hs) (inl e) = omega arith
no_zero (h ∷ hs) (inr i) = no_zero hs i

in_ups : (h : ℕ) (hs : List ℕ) → In h hs → In (suc h) (ups hs)
in_ups h [] i = i
in_ups h (k ∷ hs) (inl e) = inl (ap suc e)
in_ups h (k ∷ hs) (inr i) = inr (in_ups h hs i)

of_ups : (h : ℕ) (hs : List ℕ) → In (suc h) (ups hs) → In h hs
of_ups h [] i = i
of_ups h (k ∷ hs) (inl e) = inl (omega arith)
of_ups h (k ∷ hs) (inr i) = inr (of_ups h hs i)

pub in_lit : (h : ℕ) (bs : List Bool) → get_or bs h false ≡ true → In h (lit bs)
in_lit h [] e = false_true e
in_lit zero (true ∷ bs) e = inl refl
in_lit (suc h) (true ∷ bs) e = inr (in_ups h (lit bs) (in_lit h bs e))
in_lit zero (false ∷ bs) e = absurd (false_true e)
in_lit (suc h) (false ∷ bs) e = in_ups h (lit bs) (in_lit h bs e)

pub of_lit : (h : ℕ) (bs : List Bool) → In h (lit bs) → get_or bs h false ≡ true
of_lit h [] i = absurd i
of_lit zero (true ∷ bs) i = refl
of_lit (suc h) (true ∷ bs) (inl e) = absurd (suc_zero e)
of_lit (suc h) (true ∷ bs) (inr i) = of_lit h bs (of_ups h (lit bs) i)
of_lit zero (false ∷ bs) i = absurd (no_zero (lit bs) i)
of_lit (suc h) (false ∷ bs) i = of_lit h bs (of_ups h (lit bs) i)

distinct_ups : (hs : List ℕ) → Distinct hs → Distinct (ups hs)
distinct_ups [] d = tt
distinct_ups (h ∷ hs) d = ((λ i. d.0 (of_ups h hs i)), distinct_ups hs d.1)

pub distinct_lit : (bs : List Bool) → Distinct (lit bs)
distinct_lit [] = tt
distinct_lit (true ∷ bs) = (no_zero (lit bs), distinct_ups (lit bs) (distinct_lit bs))
distinct_lit (false ∷ bs) = distinct_ups (lit bs) (distinct_lit bs)

-- Flags after one is put.
pub lit_within : (bs : List Bool) (h : ℕ) → get_or bs h false ≡ true → h < length bs
lit_within [] h e = absurd (false_true e)
lit_within (b ∷ bs) zero e = omega arith
lit_within (b ∷ bs) (suc h) e = let i = lit_within bs h e in omega arith

pub none_lit : (n h : ℕ) → get_or (replicate n false) h false ≡ true → ⊥
none_lit n h e = false_true (sym (none_set n h) ∙ e)

pub lit_after_true : (bs : List Bool) (h k : ℕ) → h < length bs → get_or (set bs h true) k false ≡ true ↔ (get_or bs k false ≡ true) ⊎ (k ≡ h)
lit_after_true bs h k l = go (ℕ_discrete k h)
  where
    go : Dec (k ≡ h) → get_or (set bs h true) k false ≡ true ↔ (get_or bs k false ≡ true) ⊎ (k ≡ h)
    go (yes e) = ((λ _. inr e), λ _. subst (λ (j : ℕ). get_or (set bs h true) j false ≡ true) (sym e) (get_or-set_same bs h true false l))
    go (no n) = ((λ i. inl (sym (get_or-set_other bs h k true false n) ∙ i)), ⊎_elim (λ i. get_or-set_other bs h k true false n ∙ i) (λ e. absurd (n e)))

unlit : (bs : List Bool) (h : ℕ) → get_or (set bs h false) h false ≡ true → ⊥
unlit [] h e = false_true e
unlit (b ∷ bs) zero e = false_true e
unlit (b ∷ bs) (suc h) e = unlit bs h e

pub lit_after_false : (bs : List Bool) (h k : ℕ) → get_or (set bs h false) k false ≡ true ↔ (get_or bs k false ≡ true) × (k ≡ h → ⊥)
lit_after_false bs h k = go (ℕ_discrete k h)
  where
    go : Dec (k ≡ h) → get_or (set bs h false) k false ≡ true ↔ (get_or bs k false ≡ true) × (k ≡ h → ⊥)
    go (yes e) = ((λ i. absurd (unlit bs h (subst (λ (j : ℕ). get_or (set bs h false) j false ≡ true) e i))), λ p. absurd (p.1 e))
    go (no n) = ((λ i. (sym (get_or-set_other bs h k false false n) ∙ i, n)), λ p. get_or-set_other bs h k false false n ∙ p.0)

pub counted_none : (bs : List Bool) → ((h : ℕ) → get_or bs h false ≡ true → ⊥) → counted bs ≡ 0
counted_none [] n = refl
counted_none (true ∷ bs) n = absurd (n 0 refl)
counted_none (false ∷ bs) n = counted_none bs (λ h. n (suc h))

rising_ups : (hs : List ℕ) → Rising hs → Rising (ups hs)
rising_ups [] r = tt
rising_ups (h ∷ hs) r = (above, rising_ups hs r.1)
  where
    above : (k : ℕ) → In k (ups hs) → suc h < k
    above zero i = absurd (no_zero hs i)
    above (suc k) i = let l = r.0 k (of_ups k hs i) in omega arith

pub rising_lit : (bs : List Bool) → Rising (lit bs)
rising_lit [] = tt
rising_lit (true ∷ bs) = (above, rising_ups (lit bs) (rising_lit bs))
  where
    above : (k : ℕ) → In k (ups (lit bs)) → 0 < k
    above zero i = absurd (no_zero (lit bs) i)
    above (suc k) i = omega arith
rising_lit (false ∷ bs) = rising_ups (lit bs) (rising_lit bs)

-- Where not all is lit, something is dark.
pub dark : (bs : List Bool) → counted bs < length bs → (h : ℕ) × (h < length bs) × (get_or bs h false ≡ false)
dark [] l = absurd (omega arith)
dark (true ∷ bs) l = let d = dark bs (omega arith) in let i = d.1 in (suc d.0, omega arith, d.2)
dark (false ∷ bs) l = (0, omega arith, refl)
