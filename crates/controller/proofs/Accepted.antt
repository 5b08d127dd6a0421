-- What the tables of an accepted program are.
use Rattle.std.proofs.Common.{◌≡◌, ℕ, ◌<◌, ◌≤◌, true, T, List, [], ◌∷◌, length, is_ok, Some, Ok, Err, refl, arith}
use Rattle.std.proofs.lemmas.Bool.{false≢true, ltb-true}
use Rattle.trees.specs.Reach.{ends}
use Rattle.calculus.specs.declared.cells.TypeCell.{TypeCell}
use Rattle.calculus.specs.declared.cells.TermCell.{TermCell}
use Rattle.calculus.specs.Contexts.{empty}
use Rattle.calculus.specs.Letters.{arity}
use Rattle.calculus.specs.Reading.{every, TypesStand}
use Rattle.calculus.specs.Terms.{Term, claim_of}
use Rattle.calculus.specs.Types.{Ty}
use Rattle.calculus.specs.Typing.{Derives, Claimed}
use Rattle.calculus.proofs.Reading.{T_true, both}
use Rattle.checker.specs.Accepting.{Stores, IsDerivable, accepts, program_verdict}
use Rattle.checker.specs.Tables.{claim_in}
use Rattle.checker.proofs.Exact.{checking_is_exact}
use Rattle.checker.proofs.Passing.{one_tree_ends}
use Rattle.verdict.specs.Faults.{Verdict, accepted}
use Rattle.controller.specs.Shots.{root_claim}

is_accepted : (v : Verdict) → is_ok v ≡ true → v ≡ accepted
is_accepted (Ok u) e = refl
is_accepted (Err f) e = absurd (false≢true e)

pub derivable : (types : List TypeCell) (terms : List TermCell) → accepts types terms ≡ true → IsDerivable types terms
derivable types terms e = (checking_is_exact types terms).0 (is_accepted (program_verdict types terms) e)

-- They store a term that has a derivation with its claims.
pub stored : (types : List TypeCell) (terms : List TermCell) → accepts types terms ≡ true → (m : Term Ty) × Stores types terms m × Derives Claimed empty m (claim_of m)
stored types terms e = let s = (checking_is_exact types terms).0 (is_accepted (program_verdict types terms) e) in (s.0, s.1.0, s.1.1.1)

-- One tree, whose root claims a type of whole trees.
pub record Whole (types : List TypeCell) (terms : List TermCell) : Type 0 where
  pub types_stand : TypesStand types
  pub few_types : length types ≤ 256
  pub one_term : ends arity 1 terms 0 ≡ Some (length terms)
  pub few_terms : length terms ≤ 512
  pub root_within : root_claim terms < length types

some_cell : (terms : List TermCell) → ends arity 1 terms 0 ≡ Some (length terms) → 0 < length terms
some_cell [] e = let z : ◌≡◌ {A = ℕ} 0 1 = cc in omega arith
some_cell (c ∷ cs) e = omega arith

claim_within : (n : ℕ) (terms : List TermCell) → 0 < length terms → T (every (claim_in n) terms) → root_claim terms < n
claim_within n [] l e = absurd (omega arith)
claim_within n (c ∷ cs) l e = ltb-true c.claim n (T_true _ (both (claim_in n c) (every (claim_in n) cs) e).0)

pub whole_tables : (types : List TypeCell) (terms : List TermCell) → accepts types terms ≡ true → Whole types terms
whole_tables types terms e =
    let s = (stored types terms e).1 in
    let one = one_tree_ends s.placed terms s.cells in
    record {
      types_stand = s.types_stand;
      few_types = s.few_types;
      one_term = one;
      few_terms = s.few_terms;
      root_within = claim_within (length types) terms (some_cell terms one) s.claims;
    }
