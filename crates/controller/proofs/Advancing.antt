-- The same handles are dropped, by tables and by cells.
use Rattle.std.proofs.Common.{◌≡◌, ℕ, zero, suc, ◌+◌, ◌<◌, Bool, cond, not, ◌&&◌, ◌∷◌, refl, ap₂, arith}
use Rattle.std.specs.List.{filter, range_with_len}
use Rattle.stepper.specs.Naming.{dropped}

same_chosen : (f g : ℕ → Bool) (k n : ℕ) → ((h : ℕ) → h < k + n → f h ≡ g h) → filter f (range_with_len k n) ≡ filter g (range_with_len k n)
same_chosen f g k zero e = refl
same_chosen f g k (suc n) e = ap₂ (λ b hs. cond b (k ∷ hs) hs) (e k (omega arith)) (same_chosen f g (k + 1) n (λ h l. e h (omega arith)))

pub same_dropped : (f f' g g' : ℕ → Bool) → ((h : ℕ) → h < 32 → f h ≡ f' h) → ((h : ℕ) → h < 32 → g h ≡ g' h) → dropped f g ≡ dropped f' g'
same_dropped f f' g g' e d = same_chosen (λ h. f h && not (g h)) (λ h. f' h && not (g' h)) 0 32 (λ h l. ap₂ (λ b c. b && not c) (e h l) (d h l))
