-- The notation of terms.
use Rattle.std.specs.Prelude.{ℕ, ◌+◌, cond, List, [], ◌∷◌, ◌++◌, codes, ◌==◌}
use Rattle.calculus.specs.Alphabet.{op_function, op_application, op_pair, op_let, op_condition}
use Rattle.calculus.specs.Reading.{rest, top}
use Rattle.calculus.specs.declared.cells.TermCell.{TermCell}
use Rattle.notation.specs.declared.brackets.Around.{Around}
use Rattle.notation.specs.declared.brackets.Around.TheVariants.{Open, Head, Tight}
use Rattle.notation.specs.Brackets.{bracketed, tight, wide}
use Rattle.notation.specs.Leaves.{binder, leaf_text}

-- The terms that cells make, where a part may be missing.
pub data TermTree : Type 0 where
  no_term : TermTree
  leaf : TermCell → TermTree
  function : TermTree → TermTree
  application : TermTree → TermTree → TermTree
  pair : TermTree → TermTree → TermTree
  let_pair : TermTree → TermTree → TermTree
  condition : TermTree → TermTree → TermTree → TermTree

-- a cell, by its letter, before cells that make the terms ms: l, a, p, d, i
abbrev pub with_op : TermCell → List TermTree → List TermTree
with_op c ms =
    cond (c.op == op_function) (function (top no_term ms) ∷ rest ms)
    (cond (c.op == op_application)
    (application (top no_term ms) (top no_term (rest ms)) ∷ rest (rest ms))
    (cond (c.op == op_pair) (pair (top no_term ms) (top no_term (rest ms)) ∷ rest (rest ms))
    (cond (c.op == op_let) (let_pair (top no_term ms) (top no_term (rest ms)) ∷ rest (rest ms))
    (cond (c.op == op_condition)
    (condition (top no_term ms) (top no_term (rest ms)) (top no_term (rest (rest ms)))
    ∷ rest (rest (rest ms)))
    (leaf c ∷ ms)))))

-- the terms that the cells make, one after the other
abbrev pub term_trees : List TermCell → List TermTree
term_trees [] = []
term_trees (c ∷ cs) = with_op c (term_trees cs)

abbrev pub function_head : ℕ → List ℕ
function_head binders = codes "fun " ++ (binder binders ++ codes ". ")

abbrev pub let_head : ℕ → List ℕ
let_head binders =
    codes "let <" ++ (binder binders ++ (codes "," ++ (binder (binders + 1) ++ codes "> = ")))

-- A term under so many binders. The left component of a let is the outer one of its two.
abbrev pub term_text : ℕ → Around → TermTree → List ℕ
term_text binders around no_term = codes "?"
term_text binders around (leaf c) = leaf_text binders c
term_text binders around (function m) =
    bracketed (wide around) (function_head binders ++ term_text (binders + 1) Open m)
term_text binders around (application m n) =
    bracketed (tight around) (term_text binders Head m ++ (codes " " ++ term_text binders Tight n))
term_text binders around (pair m n) =
    codes "<" ++ (term_text binders Open m ++ (codes ", "
    ++ (term_text binders Open n ++ codes ">")))
term_text binders around (let_pair m n) =
    bracketed (wide around)
    (let_head binders
    ++ (term_text binders Head m ++ (codes " in " ++ term_text (binders + 2) Open n)))
term_text binders around (condition p m n) =
    bracketed (wide around)
    (codes "if " ++ (term_text binders Head p ++ (codes " then "
    ++ (term_text binders Head m ++ (codes " else " ++ term_text binders Head n)))))
