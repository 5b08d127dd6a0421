-- Cells put at the front of a table.
use Rattle.std.specs.Prelude.{◌≡◌, ℕ, ◌-◌, List, length, take, Option, IfSome}
use Rattle.std.specs.Borrow.{Bor}
use Rattle.std.specs.Option.{option_map}
use Rattle.calculus.specs.declared.limits.TheConstants.{MOST_RUNNING_CELLS}
use Rattle.calculus.specs.declared.cells.TermCell.{TermCell}
use Rattle.stepper.specs.declared.writing.Front.{Front}
use Rattle.stepper.specs.Parts.{after}
use Rattle.stepper.specs.Substitution.{substitute}
use Rattle.stepper.specs.Writing.{put_count, overlaid}

-- The cells are put behind those that are there, in the same table: they are counted, if a running
-- term may have so many, and as many of them as it may have are written, as far as the table goes.
pub record Puts {A : Type 0} (answer : Option A) (old new : Front)
    (cs : List TermCell) : Type 0 where
  pub same : new.table.ghost_name ≡ old.table.ghost_name
  pub count : option_map (λ (x : A). new.len) answer ≡ put_count old.len cs
  pub table : new.table.now
      ≡ overlaid old.table.now old.len (take (MOST_RUNNING_CELLS - old.len) cs)

-- what stands for the trees that the cells begin with is put, one tree for each number of binders
-- around it, and the answer is the cells after them
pub record PutsTrees (answer : Option (Bor (List TermCell))) (old new : Front)
    (vs : List (List TermCell)) (ks : List ℕ) (cs : List TermCell) : Type 0 where
  pub put : Puts answer old new (substitute vs ks cs)
  pub after_trees : IfSome answer (λ rest. rest.now ≡ after (length ks) cs)
