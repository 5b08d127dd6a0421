use Rattle.std.proofs.Common.{◌≡◌, ◌+◌, [], ◌∷◌, get_or, refl, arith, rules}
use Rattle.calculus.specs.Cells.{blank}
use Rattle.calculus.specs.Letters.{letter}
use Rattle.stepper.specs.Substitution.{depths}
use Rattle.stepper.proofs.Substitution.{depths_lambda, depths_two, depths_let, depths_if}
use Rattle.stepper.proofs.Puts.{cell_put, leaf_put, tree_put, tree_over, shorter, no_longer}
use Rattle.stepper.proofs.writing.Front.+substitute.Goals as goal

pub returns-in-l : goal.returns-in-l
returns-in-l t c = cell_put c.in-len1-up.len_at_least (depths_lambda _ _ c.in-l.is) c.in_ok-put_cell.ensures c.substitute.ensures

pub returns-in_err-second-in-a : goal.returns-in_err-second-in-a
returns-in_err-second-in-a t c =
    rw c.from_residual-in_err-second-in-a.ensures
    (cell_put c.in-len1-up.len_at_least (depths_two _ _ c.in-a.is) c.in_ok-put_cell.ensures (tree_over (c.args.depth ∷ []) c.in_err-second-in-a.ensures))

pub substitute-requires-in-a-2 : goal.substitute-requires-in-a-2
substitute-requires-in-a-2 t c =
    let l = shorter c.args.cells.now c.in_ok-second-in-a.second.now c.in-len1-up.len_at_least c.in_ok-second-in-a.ensures.after_trees in
    (omega arith, omega arith)

pub returns-in_ok-second-in-a : goal.returns-in_ok-second-in-a
returns-in_ok-second-in-a t c =
    cell_put c.in-len1-up.len_at_least (depths_two _ _ c.in-a.is) c.in_ok-put_cell.ensures (tree_put c.in_ok-second-in-a.ensures c.substitute-in-a-2.ensures)

pub returns-in_err-body-in-d : goal.returns-in_err-body-in-d
returns-in_err-body-in-d t c =
    rw c.from_residual-in_err-body-in-d.ensures
    (cell_put c.in-len1-up.len_at_least (depths_let _ _ c.in-d.is) c.in_ok-put_cell.ensures (tree_over ((c.args.depth + 2) ∷ []) c.in_err-body-in-d.ensures))

pub substitute-requires-in-d-2 : goal.substitute-requires-in-d-2
substitute-requires-in-d-2 t c =
    let l = shorter c.args.cells.now c.in_ok-body-in-d.body.now c.in-len1-up.len_at_least c.in_ok-body-in-d.ensures.after_trees in
    (omega arith, omega arith)

pub returns-in_ok-body-in-d : goal.returns-in_ok-body-in-d
returns-in_ok-body-in-d t c =
    cell_put c.in-len1-up.len_at_least (depths_let _ _ c.in-d.is) c.in_ok-put_cell.ensures (tree_put c.in_ok-body-in-d.ensures c.substitute-in-d-2.ensures)

pub returns-in_err-second-in-i : goal.returns-in_err-second-in-i
returns-in_err-second-in-i t c =
    rw c.from_residual-in_err-second-in-i.ensures
    (cell_put c.in-len1-up.len_at_least (depths_if _ _ c.in-i.is) c.in_ok-put_cell.ensures (tree_over (c.args.depth ∷ c.args.depth ∷ []) c.in_err-second-in-i.ensures))

pub substitute-requires-in-i-2 : goal.substitute-requires-in-i-2
substitute-requires-in-i-2 t c =
    let l = shorter c.args.cells.now c.in_ok-second-in-i.second.now c.in-len1-up.len_at_least c.in_ok-second-in-i.ensures.after_trees in
    (omega arith, omega arith)

pub returns-in_err-third-in-i : goal.returns-in_err-third-in-i
returns-in_err-third-in-i t c =
    rw c.from_residual-in_err-third-in-i.ensures
    (cell_put c.in-len1-up.len_at_least (depths_if _ _ c.in-i.is) c.in_ok-put_cell.ensures
    (tree_put c.in_ok-second-in-i.ensures (tree_over (c.args.depth ∷ []) c.in_err-third-in-i.ensures)))

pub substitute-requires-in-i-3 : goal.substitute-requires-in-i-3
substitute-requires-in-i-3 t c =
    let l = shorter c.args.cells.now c.in_ok-second-in-i.second.now c.in-len1-up.len_at_least c.in_ok-second-in-i.ensures.after_trees in
    let m = no_longer c.in_ok-second-in-i.second.now c.in_ok-third-in-i.third.now c.in_ok-third-in-i.ensures.after_trees in
    (omega arith, omega arith)

pub returns-in_ok-third-in-i : goal.returns-in_ok-third-in-i
returns-in_ok-third-in-i t c =
    cell_put c.in-len1-up.len_at_least (depths_if _ _ c.in-i.is) c.in_ok-put_cell.ensures
    (tree_put c.in_ok-second-in-i.ensures (tree_put c.in_ok-third-in-i.ensures c.substitute-in-i-3.ensures))

pub returns-in_default-op : goal.returns-in_default-op
returns-in_default-op t c =
    let none : depths (letter (get_or c.args.cells.now 0 blank).op) c.args.depth ≡ [] = search rules in
    leaf_put refl c.in-len1-up.len_at_least none c.in_ok-put_cell.ensures
