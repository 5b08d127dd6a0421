-- What a tape and a level owe: where there is room, the next handle is below 32 and not live.
use Rattle.std.specs.Prelude.{◌≡◌, ℕ, zero, suc, ◌<◌, ◌≤◌, Bool, true, false, List, [], ◌∷◌, length}
use Rattle.std.specs.Prelude.{get_or, take, drop, nat_lt, slice_index_or, refl}
use Rattle.std.proofs.Common.{sym, ◌∙◌, arith, one-add, length-take, length-append}
use Rattle.std.proofs.lemmas.List.{get_or-drop, get_or-take, length-replicate}
use Rattle.std.proofs.lemmas.Bool.{cond_both, ltb-true}
use Rattle.calculus.specs.declared.gates.Gate.{Gate}
use Rattle.registers.specs.declared.handles.Handles.{Handles}
use Rattle.registers.specs.Meaning.{Owed, counted}
use Rattle.registers.specs.Handles.{first_free, free_from, next_free}
use Rattle.registers.specs.Handles.{places, room, next_handle, shown}

pub places_wide : (l : List Bool) → length (places l) ≡ 32
places_wide l = simp (length-take, length-append) (omega (arith, length-replicate 32 false))

counted_take : (n : ℕ) (l : List Bool) → counted (take n l) ≤ counted l
counted_take zero l = omega arith
counted_take (suc n) [] = omega arith
counted_take (suc n) (true ∷ l) = let h = counted_take n l in omega arith
counted_take (suc n) (false ∷ l) = counted_take n l

free_at : (l : List Bool) → slice_index_or l (first_free l) false ≡ false
free_at [] = refl
free_at (true ∷ l) = rw one-add (free_at l)
free_at (false ∷ l) = refl

free_below : (l : List Bool) → counted l < length l → first_free l < length l
free_below [] h = h
free_below (true ∷ l) h = let r = free_below l (omega arith) in omega arith
free_below (false ∷ l) h = omega arith

next_at : (l : List Bool) (start : ℕ) → slice_index_or l (next_free l start) false ≡ false
next_at l start =
    cond_both (nat_lt (free_from l start) (length l)) _ _ (λ k. slice_index_or l k false ≡ false)
    (λ _. from_at start) (λ _. from_at 0)
  where
    from_at : (k : ℕ) → slice_index_or l (free_from l k) false ≡ false
    from_at k = sym (get_or-drop k l (first_free (drop k l)) false) ∙ free_at (drop k l)

next_below : (l : List Bool) (start : ℕ) → counted l < length l → next_free l start < length l
next_below l start h =
    cond_both (nat_lt (free_from l start) (length l)) _ _ (λ k. k < length l)
    (ltb-true _ _) (λ _. let f = free_below l h in omega arith)

-- the places below a number of them
module _ (n : ℕ) (l : List Bool) (wide : length l ≡ 32) (small : n ≤ 32) where
  pub below_long : length (take n l) ≡ n
  below_long = simp length-take (omega arith)

  pub next_small : (start : ℕ) → counted l < n → next_free (take n l) start < n
  next_small start h =
      let c = counted_take n l in
      let w = below_long in
      let r = next_below (take n l) start (omega arith) in omega arith

  pub next_dead : (start : ℕ) → counted l < n
      → slice_index_or l (next_free (take n l) start) false ≡ false
  next_dead start h =
      sym (get_or-take n l (next_free (take n l) start) false (next_small start h))
      ∙ next_at (take n l) start

module _ (s : Handles) (h : counted (places s.live) < room s) where
  pub handle_below : next_handle s < room s
  handle_below = next_small (room s) (places s.live) (places_wide s.live) (omega arith) s.next h

  pub handle_not_live : get_or (places s.live) (next_handle s) false ≡ false
  handle_not_live = next_dead (room s) (places s.live) (places_wide s.live) (omega arith) s.next h

pub handles_owed : {C : Type 0} (s : Handles) (makes : Gate → Bool) (pulses : ℕ) (content : C)
    → Owed (shown s makes pulses content) (next_handle s)
handles_owed s makes pulses content = record {
  small = omega arith;
  wide = places_wide s.live;
  free = λ _ h. (let b = handle_below s h in omega arith, handle_not_live s h);
}
