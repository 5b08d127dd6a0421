-- Cells put into a table one after the other.
use Rattle.std.proofs.Common.{◌≡◌, ℕ, ◌+◌, ◌<◌, ◌≤◌, true, ltb, List, [], ◌∷◌, ◌++◌, length, take, drop, set, sym, ap, ◌∙◌, add-zero, zero-add, arith}
use Rattle.std.proofs.lemmas.List.{append_assoc, take-append-drop, take_more_set, drop-set-lt, length-set}
use Rattle.std.proofs.lemmas.Bool.{and_parts, and_from, ltb-true, lt-ltb}
use Rattle.reader.specs.Cells.{has_room}
use Rattle.reader.specs.Stored.{fronted}

module _ {T : Type 0} where
  abbrev pub puts : ℕ → List T → List T → List T
  puts n [] table = table
  puts n (c ∷ cs) table = puts (n + 1) cs (set table n c)

  puts_are : (n : ℕ) (cs table : List T) → n + length cs ≤ length table → puts n cs table ≡ take n table ++ (cs ++ drop (n + length cs) table)
  puts_are n [] table h = sym (take-append-drop n table) ∙ ap (λ i. take n table ++ drop i table) (sym (add-zero n))
  puts_are n (c ∷ cs) table h =
      puts_are (n + 1) cs (set table n c) (simp length-set (omega arith))
      ∙ ap (λ xs. xs ++ (cs ++ drop (n + 1 + length cs) (set table n c))) (take_more_set table n c (omega arith))
      ∙ ap (λ xs. (take n table ++ (c ∷ [])) ++ (cs ++ xs)) (drop-set-lt (n + 1 + length cs) table n c (omega arith))
      ∙ append_assoc (take n table) (c ∷ []) (cs ++ drop (n + 1 + length cs) table)
      ∙ ap (λ i. take n table ++ (c ∷ (cs ++ drop i table))) next
    where
      next : n + 1 + length cs ≡ n + length (c ∷ cs)
      next = omega arith

  pub puts_front : (cs table : List T) → length cs ≤ length table → puts 0 cs table ≡ fronted cs table
  puts_front cs table h = puts_are 0 cs table (omega arith) ∙ ap (λ i. cs ++ drop i table) (zero-add (length cs))

  pub room_is : (most : ℕ) (table : List T) (at : ℕ) → has_room most table at ≡ true → (at < most) × (at < length table)
  room_is most table at e =
      let p = and_parts (ltb at most) (ltb at (length table)) e in
      (ltb-true at most p.0, ltb-true at (length table) p.1)

  pub room_has : (most : ℕ) (table : List T) (at : ℕ) → at < most → at < length table → has_room most table at ≡ true
  room_has most table at h i = and_from (ltb at most) (ltb at (length table)) (lt-ltb at most h) (lt-ltb at (length table) i)
