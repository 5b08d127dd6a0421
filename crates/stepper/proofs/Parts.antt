-- The places of trees in a table.
use Rattle.std.proofs.Common.{◌≡◌, ℕ, zero, suc, ◌+◌, ◌≤◌, List, [], ◌∷◌, ◌++◌, length, take, drop, sym, refl, ap, ◌∙◌, zero-add, arith}
use Rattle.std.specs.Option.{unwrap_or}
use Rattle.std.proofs.lemmas.List.{length-append, take_at, drop_at}
use Rattle.calculus.specs.Letters.{arity}
use Rattle.calculus.specs.declared.cells.TermCell.{TermCell}
use Rattle.trees.specs.Reach.{ends}
use Rattle.stepper.specs.Parts.{taken, after}

pub after_none : (k : ℕ) → after k [] ≡ []
after_none zero = refl
after_none (suc k) = refl

pub after_more : (j k : ℕ) (cs : List TermCell) → after (j + k) cs ≡ after k (after j cs)
after_more zero k cs = ap (λ n. after n cs) (zero-add k)
after_more (suc j) k [] = after_none (suc j + k) ∙ sym (after_none k)
after_more (suc j) k (c ∷ cs) = ap (λ n. after n (c ∷ cs)) due ∙ ap (λ n. after n cs) swapped ∙ after_more (j + arity c) k cs
  where
    due : suc j + k ≡ suc (j + k)
    due = omega arith

    swapped : j + k + arity c ≡ j + arity c + k
    swapped = omega arith

-- the cells after a tree, and then after another
pub after_two : (cs ds es : List TermCell) → ds ≡ after 1 cs → es ≡ after 1 ds → es ≡ after 2 cs
after_two cs ds es d e = e ∙ ap (after 1) d ∙ sym (after_more 1 1 cs)

-- the trees and the cells after them are the cells
pub parted : (k : ℕ) (cs : List TermCell) → taken k cs ++ after k cs ≡ cs
parted zero cs = refl
parted (suc k) [] = refl
parted (suc k) (c ∷ cs) = ap (λ ds. c ∷ ds) (parted (k + arity c) cs)

pub parted_length : (k : ℕ) (cs : List TermCell) → length (taken k cs) + length (after k cs) ≡ length cs
parted_length k cs = sym (length-append (taken k cs) (after k cs)) ∙ ap length (parted k cs)

-- where trees end, as they are reached: at the end, where they are not
reached : (k : ℕ) (cs : List TermCell) (at : ℕ) → unwrap_or (ends arity k cs at) (at + length cs) ≡ at + length (taken k cs)
reached zero cs at = omega arith
reached (suc k) [] at = refl
reached (suc k) (c ∷ cs) at =
    ap (unwrap_or (ends arity (k + arity c) cs (suc at))) same ∙ reached (k + arity c) cs (suc at) ∙ later
  where
    same : at + suc (length cs) ≡ suc at + length cs
    same = omega arith

    later : suc at + length (taken (k + arity c) cs) ≡ at + suc (length (taken (k + arity c) cs))
    later = omega arith

pub tree_ends : (cs : List TermCell) → unwrap_or (ends arity 1 cs 0) (length cs) ≡ length (taken 1 cs)
tree_ends cs = ap (unwrap_or (ends arity 1 cs 0)) (sym (zero-add (length cs))) ∙ reached 1 cs 0 ∙ zero-add (length (taken 1 cs))

pub taken_within : (k : ℕ) (cs : List TermCell) → length (taken k cs) ≤ length cs
taken_within k cs = omega (arith, parted_length k cs)

-- the first tree as a part of the table, and the part after it
pub front_taken : (k n : ℕ) (cs : List TermCell) → n ≡ length (taken k cs) → take n cs ≡ taken k cs
front_taken k n cs e = ap (take n) (sym (parted k cs)) ∙ take_at (taken k cs) (after k cs) n (sym e)

pub back_after : (k n : ℕ) (cs : List TermCell) → n ≡ length (taken k cs) → drop n cs ≡ after k cs
back_after k n cs e = ap (drop n) (sym (parted k cs)) ∙ drop_at (taken k cs) (after k cs) n (sym e)
