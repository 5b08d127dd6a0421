-- How counts and tables go on, piece by piece.
use Rattle.std.proofs.Common.{◌≡◌, ℕ, suc, ◌+◌, ◌-◌, ◌<◌, ◌≤◌, cond, leb, List, [], ◌∷◌, ◌++◌, length, get_or, set, take, drop, Some, None, Option, sym, refl, ap, ap₂, ◌∙◌, add-zero, arith}
use Rattle.std.specs.Borrow.{Bor}
use Rattle.std.proofs.Math.Seq.{take-append-add}
use Rattle.std.proofs.lemmas.List.{append-nil, length-append, length-take, length-take-le, length-drop, take_all, take-append-drop, take-append-le, length-set, get_or-set_same, same_lists, places}
use Rattle.std.proofs.lemmas.Bool.{cases_eq, le-leb, lt-leb}
use Rattle.std.proofs.lemmas.Bool.Decides.{nat_tests}
use Rattle.calculus.specs.Cells.{blank}
use Rattle.calculus.specs.Letters.{letter, arity}
use Rattle.calculus.specs.declared.cells.TermCell.{TermCell}
use Rattle.stepper.specs.declared.writing.Front.{Front}
use Rattle.stepper.specs.Front.{Puts, PutsTrees}
use Rattle.stepper.specs.Parts.{after}
use Rattle.stepper.specs.Substitution.{depths, substitute_cell, substitute}
use Rattle.stepper.specs.Writing.{overlaid, put_count, counted, fronted}
use Rattle.stepper.proofs.Parts.{after_more, parted_length}
use Rattle.stepper.proofs.Substitution.{depths_length, substitute_more}

-- a count is the sum, if that is not too much
few : (n : ℕ) (cs : List TermCell) → n + length cs ≤ 1024 → put_count n cs ≡ Some (n + length cs)
few n cs l = simp (le-leb (n + length cs) 1024 l)

many : (n : ℕ) (cs : List TermCell) → 1024 < n + length cs → put_count n cs ≡ None
many n cs l = simp (lt-leb (n + length cs) 1024 l)

sum_of : (n m : ℕ) (cs : List TermCell) → Some m ≡ put_count n cs → (m ≡ n + length cs) × (m ≤ 1024)
sum_of n m cs e = (grind (arith, nat_tests), grind (arith, nat_tests))

too_many : (n : ℕ) (cs : List TermCell) → None ≡ put_count n cs → 1024 < n + length cs
too_many n cs e = grind (arith, nat_tests)

-- pieces are counted one after the other
count_more : (n m : ℕ) (xs ys : List TermCell) → Some m ≡ put_count n xs → put_count n (xs ++ ys) ≡ put_count m ys
count_more n m xs ys e =
    let s : n + length (xs ++ ys) ≡ m + length ys = omega (arith, sum_of n m xs e, length-append xs ys) in
    ap (λ k. cond (leb k 1024) (Some k) None) s

count_over : (n : ℕ) (xs ys : List TermCell) → None ≡ put_count n xs → put_count n (xs ++ ys) ≡ None
count_over n xs ys e = many n (xs ++ ys) (omega (arith, too_many n xs e, length-append xs ys))

overlaid_length : (t : List TermCell) (n : ℕ) (cs : List TermCell) → length (overlaid t n cs) ≡ length t
overlaid_length t n cs = grind (arith, length-append, length-take, length-drop)

pub one_over : (t : List TermCell) (n : ℕ) (c : TermCell) → n < length t → set t n c ≡ overlaid t n (c ∷ [])
one_over t n c l = same_lists _ _ (length-set t n c ∙ sym (overlaid_length t n (c ∷ []))) (λ k d h. grind (arith, places, cases_eq k n, get_or-set_same {A = TermCell}))

-- cells are written one after the other
written_more : (t xs ys : List TermCell) (n : ℕ) → overlaid (overlaid t n xs) (n + length xs) ys ≡ overlaid t n (xs ++ ys)
written_more t xs ys n = same_lists _ _ (overlaid_length (overlaid t n xs) (n + length xs) ys ∙ overlaid_length t n xs ∙ sym (overlaid_length t n (xs ++ ys))) (λ k d h. grind (arith, places))

written_both : (t u w xs ys : List TermCell) (n m : ℕ) → (m ≡ n + length xs) × (m ≤ 1024) → u ≡ overlaid t n (take (1024 - n) xs) → w ≡ overlaid u m (take (1024 - m) ys)
    → w ≡ overlaid t n (take (1024 - n) (xs ++ ys))
written_both t u w xs ys n m sum f g =
    let all : take (1024 - n) xs ≡ xs = take_all (1024 - n) xs (omega arith) in
    let room : 1024 - n ≡ length xs + (1024 - m) = omega arith in
    let both : take (1024 - n) (xs ++ ys) ≡ xs ++ take (1024 - m) ys = ap (λ k. take k (xs ++ ys)) room ∙ take-append-add xs ys (1024 - m) in
    g
    ∙ ap (λ zs. overlaid zs m (take (1024 - m) ys)) (f ∙ ap (overlaid t n) all)
    ∙ ap (λ k. overlaid (overlaid t n xs) k (take (1024 - m) ys)) sum.0
    ∙ written_more t xs (take (1024 - m) ys) n
    ∙ ap (overlaid t n) (sym both)

-- pieces are put one after the other
pub puts_more : {A B : Type 0} {x : A} {r : Option B} {f g h : Front} {xs ys : List TermCell} → Puts (Some x) f g xs → Puts r g h ys → Puts r f h (xs ++ ys)
puts_more {f = f} {g = g} {h = h} {xs = xs} {ys = ys} p q = record {
  same = q.same ∙ p.same;
  count = q.count ∙ sym (count_more f.len g.len xs ys p.count);
  table = written_both f.table.now g.table.now h.table.now xs ys f.len g.len (sum_of f.len g.len xs p.count) p.table q.table;
}

-- where one is too much, so are more
pub puts_over : {A B : Type 0} {f g : Front} {xs : List TermCell} (ys : List TermCell) → Puts {A = A} None f g xs → Puts {A = B} None f g (xs ++ ys)
puts_over {f = f} {xs = xs} ys p = record {
  same = p.same;
  count = sym (count_over f.len xs ys p.count);
  table = p.table ∙ ap (overlaid f.table.now f.len) (sym (take-append-le (1024 - f.len) xs ys (omega (arith, too_many f.len xs p.count))));
}

-- what is put first is all that is counted
pub put_first : (cs ds : List TermCell) → cs ≡ ds → put_count 0 cs ≡ counted ds
put_first cs ds e =
    let n : 0 + length cs ≡ length ds = omega (arith, ap length e) in
    ap (λ k. cond (leb k 1024) (Some k) None) n

nothing_over : (t : List TermCell) (n : ℕ) → overlaid t n [] ≡ t
nothing_over t n =
    ap (λ xs. take n t ++ (xs ++ drop (n + 0) t)) (take_all (length t - n) [] (omega arith))
    ∙ ap (λ k. take n t ++ drop k t) (add-zero n)
    ∙ take-append-drop n t

-- and all that is written
pub over_first : {A : Type 0} {r : Option A} {f g : Front} {cs : List TermCell} (t ds : List TermCell) → f.table.now ≡ t → f.len ≡ 0 → Puts r f g cs → cs ≡ ds → g.table.now ≡ overlaid t 0 (take 1024 ds)
over_first {cs = cs} t ds e n p q = p.table ∙ ap₂ (λ us k. overlaid us k (take (1024 - k) cs)) e n ∙ ap (λ xs. overlaid t 0 (take 1024 xs)) q

-- a table with room for cells that a running term may have begins with them
pub begun : (t cs : List TermCell) → length cs ≤ 1024 → length cs ≤ length t → overlaid t 0 (take 1024 cs) ≡ cs ++ drop (length cs) t
begun t cs few room = ap (overlaid t 0) (take_all 1024 cs few) ∙ ap₂ (λ us k. us ++ drop k t) (take_all (length t - 0) cs (omega arith)) (omega arith)

pub begun_counted : (t cs : List TermCell) (n : ℕ) → Some n ≡ counted cs → n ≤ length t → overlaid t 0 (take 1024 cs) ≡ fronted cs t
begun_counted t cs n e l =
    let few : (n ≡ length cs) × (length cs ≤ 1024) = (grind (arith, nat_tests), grind (arith, nat_tests)) in
    begun t cs few.1 (omega arith) ∙ sym (simp (le-leb (length cs) 1024 few.1, le-leb (length cs) (length t) (omega arith)))

-- nothing is put by leaving the table
pub puts_none : {A : Type 0} (x : A) (f : Front) → Puts (Some x) f f []
puts_none x f = record {
  same = refl;
  count = ap Some (sym (add-zero f.len)) ∙ sym (few f.len [] (omega (arith, f.few, add-zero f.len)));
  table = sym (ap (overlaid f.table.now f.len) (take_all (1024 - f.len) [] (omega arith)) ∙ nothing_over f.table.now f.len);
}

-- the cells after the first
abbrev pub tail : List TermCell → List TermCell
tail cs = take (length cs - 1) (drop 1 cs)

parted_first : (cs : List TermCell) → 1 ≤ length cs → cs ≡ get_or cs 0 blank ∷ tail cs
parted_first [] l = absurd (omega arith)
parted_first (c ∷ cs) l = ap (λ ds. c ∷ ds) (sym (take_all (suc (length cs) - 1) cs (omega arith)))

-- the cells after a tree are no more, and after the first cell fewer
pub no_longer : (cs ds : List TermCell) → ds ≡ after 1 cs → length ds ≤ length cs
no_longer cs ds e = omega (arith, ap length e, parted_length 1 cs)

pub shorter : (cs ds : List TermCell) → 1 ≤ length cs → ds ≡ after 1 (tail cs) → length ds < length cs
shorter cs ds l e = omega (arith, no_longer (tail cs) ds e, length-take-le (length cs - 1) (drop 1 cs) (omega (arith, length-drop 1 cs)))

module _ {r : Option (Bor (List TermCell))} {vs : List (List TermCell)} {k : ℕ} {cs : List TermCell} {f g h : Front} where
  -- a cell, and then its parts
  pub cell_put : {x : Unit {0}} {ks : List ℕ} → 1 ≤ length cs → depths (letter (get_or cs 0 blank).op) k ≡ ks
      → Puts {A = Unit {0}} (Some x) f g (substitute_cell vs k (get_or cs 0 blank)) → PutsTrees r g h vs ks (tail cs) → PutsTrees r f h vs (k ∷ []) cs
  cell_put {ks = ks} l e p q =
      let c = get_or cs 0 blank in
      let parts : depths (letter c.op) k ++ [] ≡ ks = append-nil (depths (letter c.op) k) ∙ e in
      let due : length ks ≡ 0 + arity c = omega (arith, depths_length (letter c.op) k, ap length e) in
      rw (parted_first cs l) (record { put = rw parts (puts_more p q.put); after_trees = rw due at q.after_trees })

  -- a tree, and then more
  pub tree_put : {rest : Bor (List TermCell)} {ks : List ℕ} → PutsTrees (Some rest) f g vs (k ∷ []) cs → PutsTrees r g h vs ks rest.now → PutsTrees r f h vs (k ∷ ks) cs
  tree_put {rest = rest} {ks = ks} p q =
      let more : substitute vs (k ∷ ks) cs ≡ substitute vs (k ∷ []) cs ++ substitute vs ks rest.now = substitute_more vs cs (k ∷ []) ks ∙ ap (λ ds. substitute vs (k ∷ []) cs ++ substitute vs ks ds) (sym p.after_trees) in
      let n : suc (length ks) ≡ 1 + length ks = omega arith in
      let end : after (length (k ∷ ks)) cs ≡ after (length ks) rest.now = ap (λ j. after j cs) n ∙ after_more 1 (length ks) cs ∙ ap (after (length ks)) (sym p.after_trees) in
      record { put = rw more (puts_more p.put q.put); after_trees = rw end q.after_trees }

module _ {vs : List (List TermCell)} {k : ℕ} {cs : List TermCell} {f g : Front} where
  -- a cell that has no parts
  pub leaf_put : {x : Unit {0}} {rest : Bor (List TermCell)} → rest.now ≡ tail cs → 1 ≤ length cs → depths (letter (get_or cs 0 blank).op) k ≡ []
      → Puts {A = Unit {0}} (Some x) f g (substitute_cell vs k (get_or cs 0 blank)) → PutsTrees (Some rest) f g vs (k ∷ []) cs
  leaf_put {rest = rest} s l e p = cell_put {r = Some rest} {h = g} l e p (record { put = puts_none rest g; after_trees = s })

  pub tree_over : (ks : List ℕ) → PutsTrees None f g vs (k ∷ []) cs → PutsTrees None f g vs (k ∷ ks) cs
  tree_over ks p = record { put = rw (substitute_more vs cs (k ∷ []) ks) (puts_over (substitute vs ks (after 1 cs)) p.put); after_trees = tt }
