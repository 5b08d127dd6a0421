-- The cells of the next term are allowed.
use Rattle.std.proofs.Common.{◌≡◌, ℕ, zero, suc, ◌+◌, ◌-◌, ◌<◌, ◌≤◌, Bool, true, false, cond, ◌&&◌, T, eqb, ltb, List, [], ◌∷◌, ◌++◌, take, drop, sym, refl, ap, subst, ◌∙◌, arith}
use Rattle.std.proofs.lemmas.List.{take-append-drop}
use Rattle.std.proofs.lemmas.Bool.{lt-ltb, ltb-true, ltb-false, eqb-true}
use Rattle.calculus.specs.Letters.{letter, arguments_of, allowed}
use Rattle.calculus.specs.Reading.{every}
use Rattle.calculus.specs.declared.cells.TermCell.{TermCell}
use Rattle.calculus.proofs.Reading.{both, T_true}
use Rattle.finder.specs.declared.rules.Rule.{Rule}
use Rattle.finder.specs.declared.rules.Rule.TheVariants.{Function, Pair, Then, Else, Prepare, Read, Gates}
use Rattle.stepper.specs.declared.writing.Answer.{Answer}
use Rattle.stepper.specs.Laws.{Fits, fits_prepare, fits_read}
use Rattle.stepper.specs.Next.{trees, left, next_cells}
use Rattle.stepper.specs.Parts.{taken, after}
use Rattle.stepper.specs.Substitution.{depths, value_cells, substitute_cell, substitute}
use Rattle.stepper.proofs.Parts.{parted}

abbrev Each : List TermCell → Type 0
Each cs = T (every allowed cs)

and_both : (a b : Bool) → T a → T b → T (a && b)
and_both true b h k = k
and_both false b h k = h

each_append : (xs ys : List TermCell) → Each xs → Each ys → Each (xs ++ ys)
each_append [] ys h k = k
each_append (x ∷ xs) ys h k = let (p, q) = both (allowed x) (every allowed xs) h in and_both (allowed x) (every allowed (xs ++ ys)) p (each_append xs ys q k)

pub each_first : (xs ys : List TermCell) → Each (xs ++ ys) → Each xs
each_first [] ys h = tt
each_first (x ∷ xs) ys h = let (p, q) = both (allowed x) (every allowed (xs ++ ys)) h in and_both (allowed x) (every allowed xs) p (each_first xs ys q)

pub each_last : (xs ys : List TermCell) → Each (xs ++ ys) → Each ys
each_last [] ys h = h
each_last (x ∷ xs) ys h = each_last xs ys (both (allowed x) (every allowed (xs ++ ys)) h).1

each_taken : (k : ℕ) (cs : List TermCell) → Each cs → Each (taken k cs)
each_taken k cs h = each_first (taken k cs) (after k cs) (subst Each (sym (parted k cs)) h)

each_after : (k : ℕ) (cs : List TermCell) → Each cs → Each (after k cs)
each_after k cs h = each_last (taken k cs) (after k cs) (subst Each (sym (parted k cs)) h)

each_take : (k : ℕ) (cs : List TermCell) → Each cs → Each (take k cs)
each_take k cs h = each_first (take k cs) (drop k cs) (subst Each (sym (take-append-drop k cs)) h)

each_drop : (k : ℕ) (cs : List TermCell) → Each cs → Each (drop k cs)
each_drop k cs h = each_last (take k cs) (drop k cs) (subst Each (sym (take-append-drop k cs)) h)

abbrev EachOf : List (List TermCell) → Type 0
EachOf [] = Unit {0}
EachOf (v ∷ vs) = Each v × EachOf vs

each_value : (k : ℕ) (vs : List (List TermCell)) (j : ℕ) → EachOf vs → k + j < 65536 → Each (value_cells k vs j)
each_value k [] j h l = subst (λ b. T (b && true)) (sym (lt-ltb (k + j) 65536 l)) tt
each_value k (v ∷ vs) zero h l = h.0
each_value k (v ∷ vs) (suc j) h l = each_value k vs j h.1 (omega arith)

each_cell : (vs : List (List TermCell)) (k : ℕ) (c : TermCell) → EachOf vs → T (allowed c) → Each (substitute_cell vs k c)
each_cell vs k c h a = go (eqb c.op 118) refl (ltb c.argument k) refl
  where
    go : (x : Bool) → eqb c.op 118 ≡ x → (y : Bool) → ltb c.argument k ≡ y → Each (cond x (cond y (c ∷ []) (value_cells k vs (c.argument - k))) (c ∷ []))
    go false p y q = and_both (allowed c) true a tt
    go true p true q = and_both (allowed c) true a tt
    go true p false q =
        let small : ltb c.argument 65536 ≡ true = ap (λ o. ltb c.argument (arguments_of (letter o))) (sym (eqb-true c.op 118 p)) ∙ T_true (allowed c) a in
        let l : c.argument < 65536 = ltb-true c.argument 65536 small in
        let g : k ≤ c.argument = ltb-false c.argument k q in
        each_value k vs (c.argument - k) h (omega arith)

each_substituted : (vs : List (List TermCell)) (ks : List ℕ) (cs : List TermCell) → EachOf vs → Each cs → Each (substitute vs ks cs)
each_substituted vs [] cs h a = tt
each_substituted vs (k ∷ ks) [] h a = tt
each_substituted vs (k ∷ ks) (c ∷ cs) h a =
    let (p, q) = both (allowed c) (every allowed cs) a in
    each_append (substitute_cell vs k c) (substitute vs (depths (letter c.op) k ++ ks) cs) (each_cell vs k c h p) (each_substituted vs (depths (letter c.op) k ++ ks) cs h q)

each_left : (rule : Rule) (a : Answer) (cs : List TermCell) → Fits rule a → Each cs → Each (left rule a cs)
each_left Function a cs f h = each_substituted (taken 1 (after 1 cs) ∷ []) (0 ∷ []) cs (each_taken 1 (after 1 cs) (each_after 1 cs h), tt) h
each_left Pair a cs f h =
    each_substituted (taken 1 (after 1 cs) ∷ taken 1 cs ∷ []) (0 ∷ []) (after 2 cs) (each_taken 1 (after 1 cs) (each_after 1 cs h), (each_taken 1 cs h, tt)) (each_after 2 cs h)
each_left Then a cs f h = each_taken 1 cs h
each_left Else a cs f h = each_taken 1 (after 1 cs) (each_after 1 cs h)
each_left Prepare _ cs (fits_prepare {h = k} l) h = subst (λ b. T (b && true)) (sym (lt-ltb k 32 l)) tt
each_left Read _ cs (fits_read {b = true}) h = tt
each_left Read _ cs (fits_read {b = false}) h = tt
each_left Gates a cs f h = each_taken 1 cs h

pub each_next : (cs : List TermCell) (rule : Rule) (at : ℕ) (a : Answer) → Fits rule a → Each cs → Each (next_cells cs rule at a)
each_next cs rule at a f h =
    let ds = drop (at + 2) cs in
    let k = each_drop (at + 2) cs h in
    each_append (take at cs) (left rule a ds ++ after (trees rule) ds) (each_take at cs h) (each_append (left rule a ds) (after (trees rule) ds) (each_left rule a ds f k) (each_after (trees rule) ds k))
