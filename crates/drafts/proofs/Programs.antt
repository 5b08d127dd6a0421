-- The cells of programs at a limit, piece by piece.
use Rattle.std.proofs.Common.{◌≡◌, ℕ, zero, suc, ◌+◌, ◌-◌, ◌*◌, ◌/◌, ◌%◌, ◌<◌, max, Bool, true, false, ◌&&◌, eqb, nat_lt, cond, List, [], ◌∷◌, ◌++◌, map, length, replicate, Result, Ok, Err, IfOk, OnOk, sym, refl, ap, ◌∙◌, subst, rules, tests, arith}
use Rattle.std.specs.List.{repeat, list_all}
use Rattle.std.specs.Str.{chars, IsAscii}
use Rattle.std.proofs.lemmas.List.{append_assoc, length-append}
use Rattle.std.proofs.lemmas.Str.{chars-IsAscii}
use Rattle.calculus.specs.declared.cells.TypeCell.{TypeCell}
use Rattle.calculus.specs.declared.cells.TermCell.{TermCell}
use Rattle.calculus.specs.Types.{bit, bang, arrow, tensor, bangs}
use Rattle.calculus.specs.Terms.{bound, Term, var, const, star, lam, app, pair, if_then_else, let_pair, size}
use Rattle.calculus.specs.Cells.{kind_cell, type_cells, placed_cells}
use Rattle.drafts.specs.Counts.{padded_count, function_count}
use Rattle.drafts.specs.Limits.{table, common_types, zero_bit, one_bit, wrapped, right_bit, padded_bit, padded_function, used, wraps, calls}

pub on_ok : {A E P Q : Type 0} (r : Result A E) → (P → Q) → OnOk r P → OnOk r Q
on_ok (Ok x) f p = f p
on_ok (Err e) f p = p

pub if_ok : {A E : Type 0} {P Q : A → Type 0} (r : Result A E) → ((x : A) → P x → Q x) → IfOk r P → IfOk r Q
if_ok (Ok x) f p = f x p
if_ok (Err e) f p = p

-- Letters below 128 are the bytes of their text.
pub no_bytes : IsAscii []
no_bytes i = omega arith

pub one_byte : (x : ℕ) (bs : List ℕ) → x < 128 → IsAscii bs → IsAscii (x ∷ bs)
one_byte x bs l a zero = l
one_byte x bs l a (suc i) = a i

repeated : (n x : ℕ) (bs : List ℕ) → x < 128 → IsAscii bs → IsAscii (repeat n (x ∷ []) ++ bs)
repeated zero x bs l a = a
repeated (suc n) x bs l a = one_byte x (repeat n (x ∷ []) ++ bs) l (repeated n x bs l a)

-- the bytes of a text that is written out
pub ascii : (bs : List ℕ) → list_all (λ b. nat_lt b 128) bs ≡ true → IsAscii bs
ascii [] e = no_bytes
ascii (b ∷ bs) e = one_byte b bs (below b (nat_lt b 128) refl (and_true (nat_lt b 128) _ e).0) (ascii bs (and_true (nat_lt b 128) _ e).1)
  where
    and_true : (x y : Bool) → (x && y) ≡ true → (x ≡ true) × (y ≡ true)
    and_true true y f = (refl, f)
    and_true false y f = cc

    below : (b : ℕ) (x : Bool) → nat_lt b 128 ≡ x → x ≡ true → b < 128
    below b x e f = search (rules, tests)

-- the letters of the types that programs share, and of the one more
abbrev common_letters : List ℕ
common_letters = 98 ∷ 62 ∷ 98 ∷ 98 ∷ 42 ∷ 98 ∷ 98 ∷ 33 ∷ 62 ∷ 98 ∷ 98 ∷ 62 ∷ 33 ∷ 62 ∷ 98 ∷ 98 ∷ 98 ∷ []

abbrev pair_letters : List ℕ
pair_letters = 42 ∷ 33 ∷ 62 ∷ 98 ∷ 98 ∷ 98 ∷ []

pub common_cells : map kind_cell (chars common_letters) ≡ table common_types
common_cells = ap (map kind_cell) (chars-IsAscii common_letters (ascii common_letters refl))

pub pair_cells : map kind_cell (chars pair_letters) ≡ type_cells (tensor (bang (arrow bit bit)) bit)
pair_cells = ap (map kind_cell) (chars-IsAscii pair_letters (ascii pair_letters refl))

-- so many b
bits : (n : ℕ) → map kind_cell (repeat n (98 ∷ [])) ≡ replicate n (kind_cell 98)
bits zero = refl
bits (suc n) = ap (λ (cs : List TypeCell). kind_cell 98 ∷ cs) (bits n)

same_end : (bs : List ℕ) → bs ++ [] ≡ bs
same_end [] = refl
same_end (b ∷ bs) = ap (λ (cs : List ℕ). b ∷ cs) (same_end bs)

pub bit_letters : (n : ℕ) → map kind_cell (chars (repeat n (98 ∷ []))) ≡ replicate n (kind_cell 98)
bit_letters n = ap (map kind_cell) (chars-IsAscii (repeat n (98 ∷ [])) (subst IsAscii (same_end (repeat n (98 ∷ []))) (repeated n 98 [] (omega arith) no_bytes))) ∙ bits n

-- so many marks and a b
marked_bit : (n : ℕ) → map kind_cell (repeat n (33 ∷ []) ++ (98 ∷ [])) ≡ type_cells (bangs n bit)
marked_bit zero = refl
marked_bit (suc n) = ap (λ (cs : List TypeCell). kind_cell 33 ∷ cs) (marked_bit n)

pub mark_letters : (n : ℕ) → map kind_cell (chars (repeat n (33 ∷ []) ++ (98 ∷ []))) ≡ type_cells (bangs n bit)
mark_letters n = ap (map kind_cell) (chars-IsAscii (repeat n (33 ∷ []) ++ (98 ∷ [])) (repeated n 33 (98 ∷ []) (omega arith) (one_byte 98 [] (omega arith) no_bytes))) ∙ marked_bit n

-- Identities around a bit, and uses of a function.
within : (n : ℕ) (m : Term ℕ) → wrapped n (app 0 (lam 1 (var 0 (bound 0))) m) ≡ wrapped (suc n) m
within zero m = refl
within (suc n) m = ap (λ (t : Term ℕ). app 0 (lam 1 (var 0 (bound 0))) t) (within n m)

pub wraps_cells : (n : ℕ) (m : Term ℕ) → wraps n ++ placed_cells m ≡ placed_cells (wrapped n m)
wraps_cells zero m = refl
wraps_cells (suc n) m = append_assoc (wraps n) _ (placed_cells m) ∙ wraps_cells n (app 0 (lam 1 (var 0 (bound 0))) m) ∙ ap placed_cells (within n m)

calls_cells : (i n k : ℕ) → calls i n ++ placed_cells (used i k) ≡ placed_cells (used i (n + k))
calls_cells i zero k = ap (λ (j : ℕ). placed_cells (used i j)) (omega arith)
calls_cells i (suc n) k = append_assoc (calls i n) _ (placed_cells (used i k)) ∙ calls_cells i n (suc k) ∙ ap (λ (j : ℕ). placed_cells (used i j)) (omega arith)

pub used_cells : (i n : ℕ) → calls i n ++ placed_cells zero_bit ≡ placed_cells (used i n)
used_cells i n = calls_cells i n 0 ∙ ap (λ (j : ℕ). placed_cells (used i j)) (omega arith)

module _ (n : ℕ) where
  abbrev by_rest : ℕ → Term ℕ
  by_rest r = cond (eqb r 1) (wrapped (n / 3) zero_bit) (cond (eqb r 2) (wrapped (n / 3 - 1) right_bit) (wrapped (n / 3 - 4) (if_then_else 0 right_bit one_bit right_bit)))

  module _ (old mid new : List TermCell) where
    ending : (k : ℕ) (m : Term ℕ) → mid ≡ old ++ wraps k → new ≡ mid ++ placed_cells m → new ≡ old ++ placed_cells (wrapped k m)
    ending k m e f = f ∙ ap (λ (cs : List TermCell). cs ++ placed_cells m) e ∙ append_assoc old (wraps k) (placed_cells m) ∙ ap (λ (cs : List TermCell). old ++ cs) (wraps_cells k m)

    rest_is : (r : ℕ) → n % 3 ≡ r → new ≡ old ++ placed_cells (by_rest r) → new ≡ old ++ placed_cells (padded_bit n)
    rest_is r e f = subst (λ (k : ℕ). new ≡ old ++ placed_cells (by_rest k)) (sym e) f

    pub padded_one : n % 3 ≡ 1 → mid ≡ old ++ wraps (n / 3) → new ≡ mid ++ placed_cells zero_bit → new ≡ old ++ placed_cells (padded_bit n)
    padded_one r e f = rest_is 1 r (ending (n / 3) zero_bit e f)

    pub padded_two : (k : ℕ) → n % 3 ≡ 2 → mid ≡ old ++ wraps k → k ≡ n / 3 - 1 → new ≡ mid ++ placed_cells right_bit → new ≡ old ++ placed_cells (padded_bit n)
    padded_two k r e s f = rest_is 2 r (ending (n / 3 - 1) right_bit (e ∙ ap (λ (j : ℕ). old ++ wraps j) s) f)

    pub padded_none : (k : ℕ) → (n % 3 ≡ 1 → ⊥) → (n % 3 ≡ 2 → ⊥) → mid ≡ old ++ wraps k → k ≡ n / 3 - 4
        → new ≡ mid ++ placed_cells (if_then_else 0 right_bit one_bit right_bit) → new ≡ old ++ placed_cells (padded_bit n)
    padded_none k a b e s f = rest_is 0 (omega arith) (ending (n / 3 - 4) (if_then_else 0 right_bit one_bit right_bit) (e ∙ ap (λ (j : ℕ). old ++ wraps j) s) f)

    pub used_here : (i : ℕ) → mid ≡ old ++ calls i n → new ≡ mid ++ placed_cells zero_bit → new ≡ old ++ placed_cells (used i n)
    used_here i e f = f ∙ ap (λ (cs : List TermCell). cs ++ placed_cells zero_bit) e ∙ append_assoc old (calls i n) (placed_cells zero_bit) ∙ ap (λ (cs : List TermCell). old ++ cs) (used_cells i n)

-- A condition, written cell by cell and part by part.
pub chosen : {c f d new : List TermCell} (w i o r : List TermCell) → new ≡ d ++ r → d ≡ f ++ o → f ≡ c ++ r → c ≡ w ++ i → new ≡ w ++ (i ++ (r ++ (o ++ r)))
chosen w i o r a b g h =
    a ∙ ap (λ (cs : List TermCell). cs ++ r) (b ∙ ap (λ (cs : List TermCell). cs ++ o) (g ∙ ap (λ (cs : List TermCell). cs ++ r) h)) ∙ simp append_assoc

-- How many cells these are.
placed_size : (m : Term ℕ) → length (placed_cells m) ≡ size m
placed_size (var c x) = refl
placed_size (const c k) = refl
placed_size (star c) = refl
placed_size (lam c m) = ap suc (placed_size m)
placed_size (app c m n) = let a = placed_size m in let b = placed_size n in let l = length-append (placed_cells m) (placed_cells n) in omega arith
placed_size (pair c m n) = let a = placed_size m in let b = placed_size n in let l = length-append (placed_cells m) (placed_cells n) in omega arith
placed_size (if_then_else c p m n) =
    let a = placed_size p in let b = placed_size m in let d = placed_size n in
    let l = length-append (placed_cells p) (placed_cells m ++ placed_cells n) in let k = length-append (placed_cells m) (placed_cells n) in omega arith
placed_size (let_pair c m n) = let a = placed_size m in let b = placed_size n in let l = length-append (placed_cells m) (placed_cells n) in omega arith

wrapped_size : (n : ℕ) (m : Term ℕ) → size (wrapped n m) ≡ 3 * n + size m
wrapped_size zero m = omega arith
wrapped_size (suc n) m = let e = wrapped_size n m in omega arith

used_size : (i n : ℕ) → size (used i n) ≡ 2 * n + 1
used_size i zero = refl
used_size i (suc n) = let e = used_size i n in omega arith

abbrev size_by : ℕ → ℕ → ℕ
size_by n r = size (cond (eqb r 1) (wrapped (n / 3) zero_bit) (cond (eqb r 2) (wrapped (n / 3 - 1) right_bit) (wrapped (n / 3 - 4) (if_then_else 0 right_bit one_bit right_bit))))

abbrev count_by : ℕ → ℕ → ℕ
count_by n r = cond (eqb r 1) n (cond (eqb r 2) (max n 5) (max n 12))

padded_size : (n : ℕ) → size (padded_bit n) ≡ padded_count n
padded_size n = go (n % 3) refl
  where
    go : (r : ℕ) → n % 3 ≡ r → size_by n r ≡ count_by n r
    go zero e = let w = wrapped_size (n / 3 - 4) (if_then_else 0 right_bit one_bit right_bit) in omega arith
    go (suc zero) e = let w = wrapped_size (n / 3) zero_bit in omega arith
    go (suc (suc zero)) e = let w = wrapped_size (n / 3 - 1) right_bit in omega arith
    go (suc (suc (suc r))) e = absurd (omega arith)

module _ (cs : List TermCell) (len : ℕ) (whole : len ≡ length cs) where
  pub bit_count : (n : ℕ) → cs ≡ placed_cells (padded_bit n) → len ≡ padded_count n
  bit_count n e = whole ∙ ap length e ∙ placed_size (padded_bit n) ∙ padded_size n

  pub applied_count : (n k : ℕ) → cs ≡ placed_cells (app 0 (lam 11 (used 0 n)) (padded_function k)) → len ≡ 2 * n + function_count k + 3
  applied_count n k e =
      let s = ap length e ∙ placed_size (app 0 (lam 11 (used 0 n)) (padded_function k)) in let u = used_size 0 n in let p = padded_size (k - 1) in omega arith

  pub split_count : (n k : ℕ) → cs ≡ placed_cells (let_pair 0 (pair 17 (padded_function k) zero_bit) (used 1 n)) → len ≡ 2 * n + function_count k + 4
  split_count n k e =
      let s = ap length e ∙ placed_size (let_pair 0 (pair 17 (padded_function k) zero_bit) (used 1 n)) in let u = used_size 1 n in let p = padded_size (k - 1) in omega arith
