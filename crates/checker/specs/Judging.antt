-- What the judging of a term speaks of: terms at its nodes, their parts, and the binders around.
use Rattle.std.specs.Prelude.{◌≡◌, ℕ, ◌+◌, List, ◌++◌, map, reverse}
use Rattle.std.specs.Prelude.{slice_index_or, Ok, Err, Result}
use Rattle.calculus.specs.Cells.{blank}
use Rattle.calculus.specs.declared.cells.TypeCell.{TypeCell}
use Rattle.calculus.specs.declared.cells.TermCell.{TermCell}
use Rattle.calculus.specs.Terms.{Term}
use Rattle.calculus.specs.Types.{Ty}
use Rattle.checker.specs.Ending.{trees_end}
use Rattle.checker.specs.Meaning.{meaning}
use Rattle.checker.specs.declared.program.Node.{Node}
use Rattle.subtyping.specs.Meaning.{meant}
use Rattle.subtyping.specs.declared.placed.TypeAt.{TypeAt}
use Rattle.verdict.specs.Faults.{Verdict, accepted}
use Rattle.verdict.specs.declared.faults.CheckFault.{CheckFault}

-- the verdict that an answer gives
abbrev pub verdict_of : {A : Type 0} → Result A CheckFault → Verdict
verdict_of (Ok a) = accepted
verdict_of (Err f) = Err f

-- the tables of a node's program
abbrev pub types_of : Node → List TypeCell
types_of n = n.program.now.types.now

abbrev pub terms_of : Node → List TermCell
terms_of n = n.program.now.terms.now

-- the cell that a term begins with
abbrev pub cell_of : Node → TermCell
cell_of n = slice_index_or (terms_of n) n.at blank

-- the term at a place of the same program
abbrev pub term_near : Node → ℕ → Term Ty
term_near n at = meaning (types_of n) (terms_of n) at

-- the term at the place
abbrev pub term_of : Node → Term Ty
term_of n = term_near n n.at

-- The part of a term, the parts counted from 0.
pub record PartOf (n : Node) (k : ℕ) (part : Node) : Type 0 where
  pub same_types : types_of part ≡ types_of n
  pub same_terms : terms_of part ≡ terms_of n
  pub same_place : part.at ≡ trees_end (terms_of n) (n.at + 1) k

-- the types in scope under more binders, the outermost first
abbrev pub with_binders : List TypeAt → List Ty → List Ty
with_binders binders bs = reverse (map meant binders) ++ bs
