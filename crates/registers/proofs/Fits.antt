-- An array of 32 places is its own 32 places.
use Rattle.std.proofs.Common.{◌≡◌, ℕ, Bool, true, false, not, ◌&&◌, List, length, get_or, take, set, sym, refl, ap, ◌∙◌}
use Rattle.std.proofs.lemmas.List.{take_at, length-set}
use Rattle.calculus.specs.declared.gates.Gate.{Gate}
use Rattle.calculus.specs.declared.gates.Gate.TheVariants.{H, X, Z, S, T, Cnot, Swap, Toffoli}
use Rattle.registers.specs.declared.handles.Handles.{Handles}
use Rattle.registers.specs.Meaning.{none_live}
use Rattle.registers.specs.Handles.{places, room}
use Rattle.registers.specs.Bits.{bit_of, flipped, bits_gated}

pub places_are : (l : List Bool) → length l ≡ 32 → l ≡ places l
places_are l wide = sym (take_at l none_live 32 wide)

pub places_set : (l : List Bool) (h : ℕ) (b : Bool) → length l ≡ 32 → places (set l h b) ≡ set (places l) h b
places_set l h b wide = sym (places_are (set l h b) (length-set l h b ∙ wide)) ∙ ap (λ x. set x h b) (places_are l wide)

pub below_are : (s : Handles) (n : ℕ) → length s.live ≡ 32 → n ≡ room s → take n s.live ≡ take (room s) (places s.live)
below_are s n wide e = ap (λ k. take k s.live) e ∙ ap (take (room s)) (places_are s.live wide)

flipped_long : (l : List Bool) (test : Bool) (h : ℕ) → length (flipped l test h) ≡ length l
flipped_long l true h = length-set l h (not (bit_of l h))
flipped_long l false h = refl

gated_long : (l : List Bool) (gate : Gate) (on : List ℕ) → length (bits_gated l gate on) ≡ length l
gated_long l H on = refl
gated_long l X on = flipped_long l true (get_or on 0 0)
gated_long l Z on = refl
gated_long l S on = refl
gated_long l T on = refl
gated_long l Cnot on = flipped_long l (bit_of l (get_or on 0 0)) (get_or on 1 0)
gated_long l Swap on = length-set (set l (get_or on 0 0) (bit_of l (get_or on 1 0))) (get_or on 1 0) (bit_of l (get_or on 0 0)) ∙ length-set l (get_or on 0 0) (bit_of l (get_or on 1 0))
gated_long l Toffoli on = flipped_long l (bit_of l (get_or on 0 0) && bit_of l (get_or on 1 0)) (get_or on 2 0)

pub places_gated : (l : List Bool) (gate : Gate) (on : List ℕ) → length l ≡ 32 → places (bits_gated l gate on) ≡ bits_gated (places l) gate on
places_gated l gate on wide = sym (places_are (bits_gated l gate on) (gated_long l gate on ∙ wide)) ∙ ap (λ x. bits_gated x gate on) (places_are l wide)
