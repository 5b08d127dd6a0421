-- Handles are let go one after the other.
use Rattle.std.proofs.Common.{◌≡◌, ℕ, suc, ◌+◌, ◌-◌, ◌<◌, Bool, true, false, cond, not, ◌&&◌, ◌⊎◌, ⊎_elim, List, ◌∷◌, length, drop, get_or, refl, sym, ap, ap₂, ◌∙◌, arith}
use Rattle.std.specs.List.{filter, range_with_len}
use Rattle.std.proofs.lemmas.List.{drop_more, length-drop}
use Rattle.registers.specs.Meaning.{Meaning, Changes}
use Rattle.stepper.specs.Naming.{dropped}
use Rattle.controller.specs.Letting.{released, released_all}

module _ {C : Type 0} (changes : Changes C) (before after : List Bool) where
  abbrev goes : ℕ → Bool
  goes h = get_or before h false && not (get_or after h false)

  -- From a handle on there are still some to let go, which takes what the register means to what it means at last.
  pub record Left (k : ℕ) (were are : List Bool) (m last : Meaning C) : Type 0 where
    pub from_before : were ≡ drop k before
    pub from_after : are ≡ drop k after
    pub leads : released_all changes (filter goes (range_with_len k (32 - k))) m ≡ last

  rest_of : (xs ys : List Bool) (b : Bool) (k : ℕ) → b ∷ ys ≡ drop k xs → (k < length xs) × (b ≡ get_or xs k false) × (ys ≡ drop (k + 1) xs)
  rest_of xs ys b k e =
      let l = ap length e ∙ length-drop k xs in
      let within : k < length xs = omega arith in
      let q : b ∷ ys ≡ get_or xs k false ∷ drop (k + 1) xs = e ∙ drop_more xs k false within in
      (within, (cc), (cc))

  chosen : (b : Bool) (k : ℕ) (hs : List ℕ) (m : Meaning C) → released_all changes hs (cond b (released changes m k) m) ≡ released_all changes (cond b (k ∷ hs) hs) m
  chosen true k hs m = refl
  chosen false k hs m = refl

  pub left_begins : {k : ℕ} {were are : List Bool} (m : Meaning C) → k ≡ 0 → were ≡ before → are ≡ after
      → Left k were are m (released_all changes (dropped (λ h. get_or before h false) (λ h. get_or after h false)) m)
  left_begins m z e f = record {
    from_before = e ∙ sym (ap (λ j. drop j before) z);
    from_after = f ∙ sym (ap (λ j. drop j after) z);
    leads = ap (λ j. released_all changes (filter goes (range_with_len j (32 - j))) m) z;
  }

  module _ (before_wide : length before ≡ 32) {k : ℕ} {were are : List Bool} {m last : Meaning C} (l : Left k were are m last) where
    pub left_within : {b : Bool} {bs : List Bool} → were ≡ b ∷ bs → k < 32
    left_within {b} {bs} e = let i = (rest_of before bs b k (sym e ∙ l.from_before)).0 in omega arith

    pub left_next : {j : ℕ} {b a : Bool} {bs cs : List Bool} {m' : Meaning C} → were ≡ b ∷ bs → are ≡ a ∷ cs → j ≡ k + 1 → m' ≡ cond (b && not a) (released changes m k) m → Left j bs cs m' last
    left_next {j} {b} {a} {bs} {cs} {m'} e f q u =
        let r = rest_of before bs b k (sym e ∙ l.from_before) in
        let s = rest_of after cs a k (sym f ∙ l.from_after) in
        let i = r.0 in
        let n : suc (32 - j) ≡ 32 - k = omega arith in
        let next : range_with_len k (32 - k) ≡ k ∷ range_with_len j (32 - j) = sym (ap (range_with_len k) n) ∙ ap (λ x. k ∷ range_with_len x (32 - j)) (sym q) in
        record {
          from_before = r.2 ∙ sym (ap (λ x. drop x before) q);
          from_after = s.2 ∙ sym (ap (λ x. drop x after) q);
          leads = ap (released_all changes (filter goes (range_with_len j (32 - j)))) (u ∙ ap₂ (λ x y. cond (x && not y) (released changes m k) m) (r.1) (s.1))
              ∙ chosen (goes k) k (filter goes (range_with_len j (32 - j))) m ∙ sym (ap (λ hs. released_all changes (filter goes hs) m) next) ∙ l.leads;
        }

    pub left_end : length after ≡ 32 → (length were ≡ 0) ⊎ (length are ≡ 0) → m ≡ last
    left_end after_wide e =
        let none : 0 ≡ 32 - k = ⊎_elim (λ (z : length were ≡ 0). ends before were before_wide l.from_before z) (λ (z : length are ≡ 0). ends after are after_wide l.from_after z) e in
        ap (λ j. released_all changes (filter goes (range_with_len k j)) m) none ∙ l.leads
      where
        ends : (xs ys : List Bool) → length xs ≡ 32 → ys ≡ drop k xs → length ys ≡ 0 → 0 ≡ 32 - k
        ends xs ys w e z = let d = ap length e ∙ length-drop k xs in omega arith
