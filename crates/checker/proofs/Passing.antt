-- What tables have that passed their tests, and which tables pass them.
use Rattle.std.proofs.Common.{◌≡◌, ℕ, ◌+◌, ◌≤◌, not, T, eqb, leb, List, [], ◌∷◌, length, Some, None, Option, sym, refl, ap, ◌∙◌, subst, arith, leb→le}
use Rattle.std.proofs.lemmas.Bool.{le-leb, and_from}
use Rattle.std.proofs.lemmas.List.{append-nil}
use Rattle.trees.specs.Failing.{first_failing, none_at}
use Rattle.trees.specs.Reach.{ends, not_one_tree}
use Rattle.trees.specs.Whole.{height, whole}
use Rattle.trees.proofs.One.{one_whole, ends_one}
use Rattle.calculus.specs.declared.cells.TypeCell.{TypeCell}
use Rattle.calculus.specs.declared.cells.TermCell.{TermCell}
use Rattle.calculus.specs.Letters.{allowed, arity, kind_arity}
use Rattle.calculus.specs.Cells.{placed_cells}
use Rattle.calculus.specs.Reading.{every}
use Rattle.calculus.specs.Terms.{Term, size}
use Rattle.calculus.proofs.Failing.{all_pass, none_fails}
use Rattle.calculus.proofs.Reaching.{reaches}
use Rattle.calculus.proofs.Reading.{T_true, both}
use Rattle.calculus.proofs.ReadTerms.{cells_counted}
use Rattle.checker.specs.Tested.{Tested}
use Rattle.checker.specs.Tables.{known_kind, storable, claim_in, tables_tested}
use Rattle.verdict.specs.Faults.{Verdict, accepted, fault}
use Rattle.verdict.specs.declared.faults.CheckFault.{CheckFault}
use Rattle.verdict.specs.declared.faults.CheckReason.TheVariants.{TooManyCells, BadCell, NotWhole, ClaimOutside}
use Rattle.verdict.proofs.Accepting.{not_refused, must_accepted}

pub none_at_accepted : (f : ℕ → CheckFault) (o : Option ℕ) (v : Verdict) → none_at f o v ≡ accepted → (o ≡ None) × (v ≡ accepted)
none_at_accepted f None v h = (refl, h)
none_at_accepted f (Some k) v h = absurd (not_refused (f k) h)

pub record Passed (types : List TypeCell) (terms : List TermCell) : Type 0 where
  pub tested : Tested types terms
  pub one : height arity terms ≡ 1

pub allowed_all : (cs : List TermCell) → T (every storable cs) → T (every allowed cs)
allowed_all [] h = tt
allowed_all (c ∷ cs) h =
    let p = both (storable c) (every storable cs) h in
    subst T (sym (and_from (allowed c) (every allowed cs) (T_true _ (both (allowed c) (not (eqb c.op 113)) p.0).0) (T_true _ (allowed_all cs p.1)))) tt

pub passed : (types : List TypeCell) (terms : List TermCell) → tables_tested types terms ≡ accepted → Passed types terms
passed types terms h =
    let a = (must_accepted (leb (length types) 256) (fault TooManyCells 256) _).0 h in
    let b = (must_accepted (leb (length terms) 512) (fault TooManyCells 512) _).0 a.1 in
    let c = none_at_accepted (fault BadCell) (first_failing known_kind types 0) _ b.1 in
    let d = none_at_accepted (fault BadCell) (first_failing storable terms 0) _ c.1 in
    let e = (must_accepted (whole kind_arity types) (fault NotWhole 0) _).0 d.1 in
    let f = none_at_accepted (fault NotWhole) (not_one_tree arity terms) _ e.1 in
    let g = none_at_accepted (fault ClaimOutside) (first_failing (claim_in (length types)) terms 0) accepted f.1 in
    let s = all_pass storable terms 0 d.0 in
    let w = one_whole arity terms f.0 in
    record {
      tested = record {
        types_stand = (all_pass known_kind types 0 c.0, e.0);
        few_types = leb→le _ _ a.0;
        terms_stand = (allowed_all terms s, w.0);
        few_terms = leb→le _ _ b.0;
        stored = s;
        claims = all_pass (claim_in (length types)) terms 0 g.0;
      };
      one = w.1;
    }

-- a term's cells are one tree
pub one_tree_ends : (m : Term ℕ) (terms : List TermCell) → terms ≡ placed_cells m → ends arity 1 terms 0 ≡ Some (length terms)
one_tree_ends m terms e =
    let z : 0 + size m ≡ length terms = omega (arith, ap length e, cells_counted m) in
    ap (λ cs. ends arity 1 cs 0) (e ∙ sym (append-nil (placed_cells m))) ∙ reaches m [] 0 0 ∙ ap Some z

-- what tables pass their tests
pub passes : (types : List TypeCell) (terms : List TermCell) → T (every known_kind types) → T (whole kind_arity types) → length types ≤ 256 → length terms ≤ 512 → T (every storable terms) → T (every (claim_in (length types)) terms)
    → ends arity 1 terms 0 ≡ Some (length terms) → tables_tested types terms ≡ accepted
passes types terms k w a b s c e =
    simp (
      le-leb (length types) 256 a,
      le-leb (length terms) 512 b,
      none_fails known_kind types 0 k,
      none_fails storable terms 0 s,
      T_true (whole kind_arity types) w,
      ends_one arity terms e,
      none_fails (claim_in (length types)) terms 0 c,
    )
