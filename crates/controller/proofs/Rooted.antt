-- The type that the root of an accepted program claims, as a part of its table.
use Rattle.std.proofs.Common.{◌≡◌, ℕ, suc, ◌+◌, ◌-◌, ◌≤◌, true, List, ◌++◌, length, take, drop, Some, None, Option, unwrap_or, cond, nat_le, sym, refl, ap, ap₂, ◌∙◌, arith}
use Rattle.std.proofs.lemmas.List.{append_assoc, length-append, length-drop}
use Rattle.std.proofs.Math.Seq.{take-append_seam}
use Rattle.std.proofs.lemmas.Bool.{le-leb}
use Rattle.trees.specs.Reach.{ends, copied_count, fronted}
use Rattle.calculus.specs.declared.cells.TypeCell.{TypeCell}
use Rattle.calculus.specs.declared.cells.TermCell.{TermCell}
use Rattle.calculus.specs.Types.{Ty, bit, qbit, unit, bang, arrow, tensor}
use Rattle.calculus.specs.Letters.{kind_arity}
use Rattle.calculus.specs.Cells.{type_cells}
use Rattle.calculus.specs.Reading.{type_at}
use Rattle.calculus.proofs.ReadTypes.{at_place}
use Rattle.checker.specs.Accepting.{accepts}
use Rattle.controller.proofs.Accepted.{Whole, whole_tables}
use Rattle.controller.specs.Shots.{root_cells, root_claim}

same_ends : {j k p q : ℕ} (cs : List TypeCell) → j ≡ k → p ≡ q → ends kind_arity j cs p ≡ ends kind_arity k cs q
same_ends cs e f = ap₂ (λ i j. ends kind_arity i cs j) e f

-- A type's cells are one tree.
abbrev Tree : List TypeCell → Type 0
Tree xs = (ds : List TypeCell) (due at : ℕ) → ends kind_arity (suc due) (xs ++ ds) at ≡ ends kind_arity due ds (at + length xs)

two_ended : (xs ys ds : List TypeCell) (due at : ℕ) → Tree xs → Tree ys → ends kind_arity (due + 2) ((xs ++ ys) ++ ds) (suc at) ≡ ends kind_arity due ds (at + suc (length (xs ++ ys)))
two_ended xs ys ds due at f g =
    ap (λ zs. ends kind_arity (due + 2) zs (suc at)) (append_assoc xs ys ds)
    ∙ same_ends {k = suc (suc due)} (xs ++ (ys ++ ds)) (omega arith) refl
    ∙ f (ys ++ ds) (suc due) (suc at)
    ∙ g ds due (suc at + length xs)
    ∙ same_ends ds refl (let l = length-append xs ys in omega arith)

type_ended : (a : Ty) → Tree (type_cells a)
type_ended bit ds due at = same_ends ds (omega arith) (omega arith)
type_ended qbit ds due at = same_ends ds (omega arith) (omega arith)
type_ended unit ds due at = same_ends ds (omega arith) (omega arith)
type_ended (bang a) ds due at = same_ends {k = suc due} (type_cells a ++ ds) (omega arith) refl ∙ type_ended a ds due (suc at) ∙ same_ends ds refl (omega arith)
type_ended (arrow a b) ds due at = two_ended (type_cells a) (type_cells b) ds due at (type_ended a) (type_ended b)
type_ended (tensor a b) ds due at = two_ended (type_cells a) (type_cells b) ds due at (type_ended a) (type_ended b)

-- The part of a type table that is the type of a program's root.
pub record RootPart (types : List TypeCell) (terms : List TermCell) (table : List TypeCell) (root end : ℕ) : Type 0 where
  pub rises : root ≤ end
  pub within : end ≤ length table
  pub cells : take (end - root) (drop root table) ≡ root_cells types terms
  pub few : length (take (end - root) (drop root table)) ≤ 256

-- The root's type ends within its table.
pub root_reached : (types table : List TypeCell) (terms nodes : List TermCell) (root : ℕ) (r : Option ℕ) → accepts types terms ≡ true → table ≡ types → nodes ≡ terms → root ≡ root_claim nodes
    → r ≡ ends kind_arity 1 (drop root table) root → r ≡ Some (root_claim terms + length (root_cells types terms))
root_reached types table terms nodes root r a et em er e =
    let t = whole_tables types terms a in
    let p = root_claim terms in
    let (ds, q) = at_place types p t.types_stand t.root_within in
    e ∙ ap₂ (λ xs i. ends kind_arity 1 xs i) (ap₂ drop (er ∙ ap root_claim em) et ∙ q) (er ∙ ap root_claim em) ∙ type_ended (type_at types p) ds 0 p

pub root_part : (types table : List TypeCell) (terms nodes : List TermCell) (root end : ℕ) (r : Option ℕ) → accepts types terms ≡ true → table ≡ types → nodes ≡ terms → root ≡ root_claim nodes
    → r ≡ ends kind_arity 1 (drop root table) root → r ≡ Some end → RootPart types terms table root end
root_part types table terms nodes root end r a et em er e u = go (whole_tables types terms a)
  where
    go : Whole types terms → RootPart types terms table root end
    go t =
        let p = root_claim terms in
        let cs = type_cells (type_at types p) in
        let (ds, q) = at_place types p t.types_stand t.root_within in
        let at : root ≡ p = er ∙ ap root_claim em in
        let there : drop root table ≡ cs ++ ds = ap₂ drop at et ∙ q in
        let ends_at : end ≡ p + length cs = ap (λ o. unwrap_or o 0) (sym u ∙ root_reached types table terms nodes root r a et em er e) in
        let l = ap length q ∙ length-append cs ds in
        let m = length-drop p types in
        let w = t.root_within in
        let f = t.few_types in
        let long = ap length et in
        let n : end - root ≡ length cs = omega arith in
        let is : take (end - root) (drop root table) ≡ cs = ap₂ take n there ∙ take-append_seam cs ds in
        let s = ap length is in
        record { rises = omega arith; within = omega arith; cells = is; few = omega arith }

room_for : (n m room : ℕ) → n ≡ m → m ≤ room → cond (nat_le n room) (Some n) None ≡ Some m
room_for n m room e l = ap (λ k. cond (nat_le k room) (Some k) None) e ∙ ap (λ b. cond b (Some m) None) (le-leb m room l)

-- The root's type has been copied to the front of a table.
pub record RootCopied (types : List TypeCell) (terms : List TermCell) (answer : Option ℕ) (table : List TypeCell) : Type 0 where
  pub count : answer ≡ Some (length (root_cells types terms))
  pub front : take (length (root_cells types terms)) table ≡ root_cells types terms

pub root_copied : (types table : List TypeCell) (terms nodes : List TermCell) (root : ℕ) (to to' : List TypeCell) (r : Option ℕ)
    → accepts types terms ≡ true → table ≡ types → nodes ≡ terms → root ≡ root_claim nodes → length to ≡ 256
    → r ≡ copied_count (ends kind_arity 1 (drop root table) root) root (length to) → to' ≡ fronted r (drop root table) to
    → RootCopied types terms r to'
root_copied types table terms nodes root to to' r a et em er room e f = record { count = counts; front = front }
  where
    part : RootPart types terms table root (root_claim terms + length (root_cells types terms))
    part = root_part types table terms nodes root _ _ a et em er refl (root_reached types table terms nodes root _ a et em er refl)

    at : root ≡ root_claim terms
    at = er ∙ ap root_claim em

    long : root_claim terms + length (root_cells types terms) - root ≡ length (root_cells types terms)
    long = let q = at in omega arith

    cells : take (length (root_cells types terms)) (drop root table) ≡ root_cells types terms
    cells = ap (λ n. take n (drop root table)) (sym long) ∙ part.cells

    few : length (root_cells types terms) ≤ length to
    few = let x = part.few in let y = ap length part.cells in omega arith

    counts : r ≡ Some (length (root_cells types terms))
    counts = e ∙ ap (λ o. copied_count o root (length to)) (root_reached types table terms nodes root _ a et em er refl) ∙ room_for _ _ _ long few

    front : take (length (root_cells types terms)) to' ≡ root_cells types terms
    front = ap (take (length (root_cells types terms))) (f ∙ ap (λ o. fronted o (drop root table) to) counts ∙ ap (λ xs. xs ++ drop (length (root_cells types terms)) to) cells)
        ∙ take-append_seam (root_cells types terms) (drop (length (root_cells types terms)) to)
