-- How rows are shown: what a row says of the calculus follows from what it says of the definitions.
use Rattle.std.proofs.Common.{◌≡◌, ℕ, Bool, true, Err, List, [], ◌∷◌, map, ap, ◌∙◌, subst, nat_le}
use Rattle.std.specs.List.{flat_map}
use Rattle.std.proofs.lemmas.Bool.{leb-true}
use Rattle.calculus.specs.Cells.{running_cells}
use Rattle.calculus.specs.Reading.{top, rest}
use Rattle.calculus.specs.Terms.{Term, Running, const}
use Rattle.calculus.specs.Types.{Ty}
use Rattle.checker.specs.Accepting.{Stores}
use Rattle.checker.specs.Meaning.{meaning}
use Rattle.checker.specs.Tables.{tables_tested}
use Rattle.checker.proofs.Exact.{stores}
use Rattle.checker.proofs.Passing.{passed}
use Rattle.finder.specs.Faults.{fault as find_fault}
use Rattle.finder.specs.Finding.{answer}
use Rattle.finder.specs.Laws.{Means}
use Rattle.finder.specs.declared.faults.FindReason.TheVariants.{NoRule}
use Rattle.finder.proofs.Reduction.{search_is_reduction}
use Rattle.verdict.specs.Faults.{Verdict, accepted, ◌then◌, number_of, fault}
use Rattle.verdict.specs.Judging.{verdict}
use Rattle.verdict.specs.Uses.{nested}
use Rattle.verdict.specs.declared.faults.CheckReason.{CheckReason}
use Rattle.verdict.specs.declared.faults.CheckReason.TheVariants.{WrongClaim}
use Rattle.verdict.proofs.Exact.{derivable}
use Rattle.worked.specs.Rows.{Passes, Fails, Stuck, AllHold, no_more, ◌also◌, verdict_on, refusal, find_refusal}
use Rattle.worked.specs.Worked.{AtTypes, at_types, three_rows}
use Rattle.worked.specs.Written.{type_table, term_table}

-- The tests of a term's tables, the term that they mean, its verdict, and whether few binders nest.
abbrev pub Tested : Type 0
Tested = Verdict × (Term Ty × (Verdict × Bool))

abbrev pub tested : Term Ty → Tested
tested m = (tables_tested (type_table m) (term_table m), (meaning (type_table m) (term_table m) 0, (verdict m, nat_le (nested m) 32)))

-- the same where the tables are in order and mean the term, whose verdict is v
abbrev pub tests_of : Term Ty → Verdict → Tested
tests_of m v = (accepted, (m, (v, true)))

module _ (m : Term Ty) (v : Verdict) (e : tested m ≡ tests_of m v) where
  tests : tables_tested (type_table m) (term_table m) ≡ accepted
  tests = ap (λ p. p.0) e

  means : meaning (type_table m) (term_table m) 0 ≡ m
  means = ap (λ p. p.1.0) e

  is_stored : Stores (type_table m) (term_table m) m
  is_stored = subst (Stores (type_table m) (term_table m)) means (stores (type_table m) (term_table m) (passed (type_table m) (term_table m) tests))

  judged : verdict m ≡ v
  judged = ap (λ p. p.1.1.0) e

  judged_on : verdict_on m ≡ v
  judged_on = ap (λ w. w then verdict (meaning (type_table m) (term_table m) 0)) tests ∙ ap verdict means ∙ judged

pub passes_by : {m : Term Ty} → tested m ≡ tests_of m accepted → Passes m
passes_by {m} e = record { verdict = judged_on m _ e; stored = is_stored m _ e; derivation = ((derivable m).0 (judged m _ e)).1 }

pub fails_by : {m : Term Ty} {k : ℕ} (r : CheckReason) → tested m ≡ tests_of m (Err (fault r k)) → Fails m (number_of r) k
fails_by {m} r e = record {
  verdict = ap refusal (judged_on m _ e);
  stored = is_stored m _ e;
  no_derivation = λ d. let a : verdict m ≡ accepted = (derivable m).1 (leb-true (nested m) 32 (ap (λ p. p.1.1.1) e), d) in let b = judged m _ e in absurd (cc);
}

-- what the tests of a constant at its three types come to, and what they should
abbrev pub tested_at : AtTypes → Tested × (Tested × Tested)
tested_at (at_types k own greater another) = (tested (const own k), (tested (const greater k), tested (const another k)))

abbrev pub wanted_at : AtTypes → Tested × (Tested × Tested)
wanted_at (at_types k own greater another) = (tests_of (const own k) accepted, (tests_of (const greater k) accepted, tests_of (const another k) (Err (fault WrongClaim 0))))

pub constants_hold : (cs : List AtTypes) → map tested_at cs ≡ map wanted_at cs → AllHold (flat_map three_rows cs)
constants_hold [] e = no_more
constants_hold (at_types k own greater another ∷ cs) e =
    let h = ap (top (wanted_at (at_types k own greater another))) e in
    passes_by (ap (λ p. p.0) h) also passes_by (ap (λ p. p.1.0) h) also fails_by WrongClaim (ap (λ p. p.1.1) h) also constants_hold cs (ap rest e)

pub stuck_by : (m : Running) (k : ℕ) → Means (running_cells m) m → answer (running_cells m) ≡ Err (find_fault NoRule k) → Stuck m 36 k
stuck_by m k means e =
    let h = (search_is_reduction.nowhere (running_cells m) m means).0 (k, e) in
    record { finds = ap find_refusal e; no_value = h.0; no_step = h.1 }
