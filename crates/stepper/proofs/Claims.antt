-- The claims of cells change nothing but claims of the next term.
use Rattle.std.proofs.Common.{◌≡◌, ℕ, zero, suc, ◌+◌, ◌-◌, Bool, true, false, cond, eqb, ltb, List, [], ◌∷◌, ◌++◌, map, take, drop, sym, refl, ap, ap₂, ◌∙◌}
use Rattle.std.proofs.lemmas.List.{map-append, take-map, drop-map}
use Rattle.calculus.specs.Cells.{cell_of, unclaimed}
use Rattle.calculus.specs.Letters.{letter, arity}
use Rattle.calculus.specs.declared.cells.TermCell.{TermCell}
use Rattle.finder.specs.declared.rules.Rule.{Rule}
use Rattle.finder.specs.declared.rules.Rule.TheVariants.{Function, Pair, Then, Else, Prepare, Read, Gates}
use Rattle.stepper.specs.declared.writing.Answer.{Answer}
use Rattle.stepper.specs.declared.writing.Answer.TheVariants.{Nothing, Handle, Outcome}
use Rattle.stepper.specs.Next.{trees, left, next_cells}
use Rattle.stepper.specs.Parts.{taken, after}
use Rattle.stepper.specs.Substitution.{depths, value_cells, substitute_cell, substitute}
use Rattle.stepper.specs.Writing.{answer_cell}

taken_unclaimed : (k : ℕ) (cs : List TermCell) → unclaimed (taken k cs) ≡ taken k (unclaimed cs)
taken_unclaimed zero cs = refl
taken_unclaimed (suc k) [] = refl
taken_unclaimed (suc k) (c ∷ cs) = ap (λ ds. cell_of c.op c.argument 0 ∷ ds) (taken_unclaimed (k + arity c) cs)

after_unclaimed : (k : ℕ) (cs : List TermCell) → unclaimed (after k cs) ≡ after k (unclaimed cs)
after_unclaimed zero cs = refl
after_unclaimed (suc k) [] = refl
after_unclaimed (suc k) (c ∷ cs) = after_unclaimed (k + arity c) cs

value_unclaimed : (k : ℕ) (vs : List (List TermCell)) (j : ℕ) → unclaimed (value_cells k vs j) ≡ value_cells k (map unclaimed vs) j
value_unclaimed k [] j = refl
value_unclaimed k (v ∷ vs) zero = refl
value_unclaimed k (v ∷ vs) (suc j) = value_unclaimed k vs j

cell_unclaimed : (vs : List (List TermCell)) (k : ℕ) (c : TermCell) → unclaimed (substitute_cell vs k c) ≡ substitute_cell (map unclaimed vs) k (cell_of c.op c.argument 0)
cell_unclaimed vs k c = go (eqb c.op 118) (ltb c.argument k)
  where
    go : (a b : Bool) → unclaimed (cond a (cond b (c ∷ []) (value_cells k vs (c.argument - k))) (c ∷ [])) ≡ cond a (cond b (cell_of c.op c.argument 0 ∷ []) (value_cells k (map unclaimed vs) (c.argument - k))) (cell_of c.op c.argument 0 ∷ [])
    go true true = refl
    go true false = value_unclaimed k vs (c.argument - k)
    go false b = refl

substitute_unclaimed : (vs : List (List TermCell)) (ks : List ℕ) (cs : List TermCell) → unclaimed (substitute vs ks cs) ≡ substitute (map unclaimed vs) ks (unclaimed cs)
substitute_unclaimed vs [] cs = refl
substitute_unclaimed vs (k ∷ ks) [] = refl
substitute_unclaimed vs (k ∷ ks) (c ∷ cs) =
    map-append (λ (x : TermCell). cell_of x.op x.argument 0) (substitute_cell vs k c) (substitute vs (depths (letter c.op) k ++ ks) cs)
    ∙ ap₂ (λ us ws. us ++ ws) (cell_unclaimed vs k c) (substitute_unclaimed vs (depths (letter c.op) k ++ ks) cs)

answer_unclaimed : (a : Answer) → unclaimed (answer_cell a ∷ []) ≡ answer_cell a ∷ []
answer_unclaimed Nothing = refl
answer_unclaimed (Handle h) = refl
answer_unclaimed (Outcome true) = refl
answer_unclaimed (Outcome false) = refl

second_unclaimed : (cs : List TermCell) → unclaimed (taken 1 (after 1 cs)) ≡ taken 1 (after 1 (unclaimed cs))
second_unclaimed cs = taken_unclaimed 1 (after 1 cs) ∙ ap (taken 1) (after_unclaimed 1 cs)

left_unclaimed : (rule : Rule) (a : Answer) (cs : List TermCell) → unclaimed (left rule a cs) ≡ left rule a (unclaimed cs)
left_unclaimed Function a cs = substitute_unclaimed (taken 1 (after 1 cs) ∷ []) (0 ∷ []) cs ∙ ap (λ v. substitute (v ∷ []) (0 ∷ []) (unclaimed cs)) (second_unclaimed cs)
left_unclaimed Pair a cs =
    substitute_unclaimed (taken 1 (after 1 cs) ∷ taken 1 cs ∷ []) (0 ∷ []) (after 2 cs)
    ∙ ap₂ (λ v w. substitute (v ∷ w ∷ []) (0 ∷ []) (unclaimed (after 2 cs))) (second_unclaimed cs) (taken_unclaimed 1 cs)
    ∙ ap (substitute (taken 1 (after 1 (unclaimed cs)) ∷ taken 1 (unclaimed cs) ∷ []) (0 ∷ [])) (after_unclaimed 2 cs)
left_unclaimed Then a cs = taken_unclaimed 1 cs
left_unclaimed Else a cs = second_unclaimed cs
left_unclaimed Prepare a cs = answer_unclaimed a
left_unclaimed Read a cs = answer_unclaimed a
left_unclaimed Gates a cs = taken_unclaimed 1 cs

pub unclaims : (cs : List TermCell) (rule : Rule) (at : ℕ) (a : Answer) → unclaimed (next_cells cs rule at a) ≡ next_cells (unclaimed cs) rule at a
unclaims cs rule at a =
    let ds = drop (at + 2) cs in
    let forget : TermCell → TermCell = λ x. cell_of x.op x.argument 0 in
    let back : unclaimed ds ≡ drop (at + 2) (unclaimed cs) = sym (drop-map forget (at + 2) cs) in
    map-append forget (take at cs) (left rule a ds ++ after (trees rule) ds)
    ∙ ap₂ (λ us ws. us ++ ws)
    (sym (take-map forget at cs))
    (map-append forget (left rule a ds) (after (trees rule) ds)
    ∙ ap₂ (λ us ws. us ++ ws) (left_unclaimed rule a ds) (after_unclaimed (trees rule) ds)
    ∙ ap (λ es. left rule a es ++ after (trees rule) es) back)
