-- Every place before the first free one is true.
use Rattle.std.proofs.Common.{◌≡◌, ℕ, ◌+◌, ◌-◌, ◌<◌, ◌≤◌, Bool, true, false, not, ltb, List, length, get_or, take, drop, sym, ap, ◌∙◌, ⊎_elim, arith}
use Rattle.std.proofs.lemmas.List.{get_or-drop, get_or-take}
use Rattle.std.proofs.lemmas.List.Sums.{fails_before_first}
use Rattle.std.proofs.lemmas.Bool.{cond_both, ltb-false, not-false}
use Rattle.registers.specs.Handles.{first_free, free_from, next_free, places, room}
use Rattle.registers.specs.Free.{places_wide, below_long, handle_below, handle_not_live}
use Rattle.registers.specs.Next.{Passed, NextIsFound}

before_free : (l : List Bool) (k : ℕ) → k < first_free l → get_or l k false ≡ true
before_free l k h = not-false (get_or l k false) (fails_before_first not l k false h)

before_from : (l : List Bool) (start k : ℕ) → start ≤ k → k < free_from l start → get_or l k false ≡ true
before_from l start k s h =
    let e : start + (k - start) ≡ k = omega arith in
    ap (λ i. get_or l i false) (sym e) ∙ sym (get_or-drop start l (k - start) false) ∙ before_free (drop start l) (k - start) (omega arith)

passed_before : (l : List Bool) (start k : ℕ) → k < length l → Passed start (next_free l start) k → get_or l k false ≡ true
passed_before l start k inside =
    cond_both (ltb (free_from l start) (length l)) _ _ (λ h. Passed start h k → get_or l k false ≡ true)
    (λ _ p. ⊎_elim (λ up. before_from l start k up.0 up.1) (λ round. absurd (let r = round.0 in omega arith)) p)
    (λ e p.
    let past = ltb-false (free_from l start) (length l) e in
    ⊎_elim
    (λ up. before_from l 0 k (omega arith) up.1)
    (λ round. ⊎_elim (λ from. before_from l start k from (omega arith)) (λ under. before_from l 0 k (omega arith) under) round.1) p)

pub next_is_found : NextIsFound
next_is_found s h =
    let n = room s in
    let l = places s.live in
    let long = below_long n l (places_wide s.live) (omega arith) in
    record {
      below = handle_below s h;
      not_live = handle_not_live s h;
      passed = λ k inside p. sym (get_or-take n l k false inside) ∙ passed_before (take n l) s.next k (omega arith) p;
    }
