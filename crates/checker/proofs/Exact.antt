-- Tables are accepted just where they store a term that has a derivation with its claims.
use Rattle.std.proofs.lemmas.Bool.{false≢true}
use Rattle.std.proofs.Common.{◌≡◌, ◌↔◌, true, is_ok, Ok, Err, Result, ℕ, List, [], ◌∷◌, length, sym, refl, ap, ◌∙◌, arith}
use Rattle.std.specs.List.{flat_map}
use Rattle.std.proofs.lemmas.List.{append-nil}
use Rattle.calculus.specs.declared.cells.TypeCell.{TypeCell}
use Rattle.calculus.specs.declared.cells.TermCell.{TermCell}
use Rattle.calculus.specs.Cells.{placed_cells}
use Rattle.calculus.specs.Reading.{top, no_term, type_at, terms_of, term_at}
use Rattle.calculus.specs.Terms.{Term, reclaimed}
use Rattle.calculus.specs.Types.{Ty}
use Rattle.calculus.proofs.ReadTerms.{written, read_back}
use Rattle.checker.specs.Accepting.{Stores, CheckingIsExact, IsDerivable, program_verdict}
use Rattle.checker.specs.Judging.{verdict_of}
use Rattle.verdict.specs.declared.faults.CheckFault.{CheckFault}
use Rattle.checker.specs.Meaning.{meaning}
use Rattle.checker.specs.Tables.{tables_tested}
use Rattle.checker.proofs.Passing.{Passed, passed, passes, one_tree_ends}
use Rattle.verdict.specs.Judging.{verdict}
use Rattle.verdict.proofs.Accepting.{then_accepted}
use Rattle.verdict.proofs.Exact.{derivable}

pub alone : (ms : List (Term ℕ)) → length ms ≡ 1 → flat_map placed_cells ms ≡ placed_cells (top no_term ms)
alone [] e = absurd (omega arith)
alone (m ∷ []) e = append-nil (placed_cells m)
alone (m ∷ n ∷ ms) e = absurd (omega arith)

pub stores : (types : List TypeCell) (terms : List TermCell) → Passed types terms → Stores types terms (meaning types terms 0)
stores types terms p =
    let t = p.tested in
    let w = written terms t.terms_stand in
    record {
      types_stand = t.types_stand;
      few_types = t.few_types;
      few_terms = t.few_terms;
      stored = t.stored;
      claims = t.claims;
      placed = term_at terms 0;
      cells = w.0 ∙ alone (terms_of terms) (w.1 ∙ p.one);
      means = refl;
    }

pub meant_by : (types : List TypeCell) (terms : List TermCell) (m : Term Ty) → Stores types terms m → meaning types terms 0 ≡ m
meant_by types terms m s =
    let e : term_at terms 0 ≡ s.placed = ap (λ cs. top no_term (terms_of cs)) (s.cells ∙ sym (append-nil (placed_cells s.placed))) ∙ ap (top no_term) (read_back s.placed []) in
    ap (reclaimed (type_at types)) e ∙ sym s.means

pub checking_is_exact : CheckingIsExact
checking_is_exact types terms = (
  λ h.
      let p = (then_accepted (tables_tested types terms) (verdict (meaning types terms 0))).0 h in
      (meaning types terms 0, (stores types terms (passed types terms p.0), (derivable (meaning types terms 0)).0 p.1)),
  λ h.
      let s = h.1.0 in
      let tables = passes types terms s.types_stand.0 s.types_stand.1 s.few_types s.few_terms s.stored s.claims (one_tree_ends s.placed terms s.cells) in
      let term = ap verdict (meant_by types terms h.0 s) ∙ (derivable h.0).1 h.1.1 in
      (then_accepted (tables_tested types terms) (verdict (meaning types terms 0))).1 (tables, term),
)

-- what a check answers tells whether its tables store what is derivable
pub told_exactly : {A : Type 0} (types : List TypeCell) (terms : List TermCell) (r : Result A CheckFault) → verdict_of r ≡ program_verdict types terms → (is_ok r ≡ true) ↔ IsDerivable types terms
told_exactly types terms (Ok a) e = ((λ q. (checking_is_exact types terms).0 (sym e)), (λ d. refl))
told_exactly types terms (Err f) e = ((λ q. absurd (false≢true q)), (λ d. let v = (checking_is_exact types terms).1 d in cc))
