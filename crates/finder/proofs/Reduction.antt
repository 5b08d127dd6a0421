-- The finder's search is the calculus's reduction.
use Rattle.std.proofs.Common.{◌≡◌, ℕ, ◌+◌, ◌<◌, ◌↔◌, List, length, Some, None, Ok, Err, sym, refl, ap, ◌∙◌, subst, ap₂, arith}
use Rattle.calculus.specs.declared.cells.TermCell.{TermCell}
use Rattle.calculus.specs.Terms.{Running}
use Rattle.calculus.specs.Reduction.{Value, Effect, Reduces}
use Rattle.finder.specs.Due.{Due}
use Rattle.finder.specs.Faults.{fault}
use Rattle.finder.specs.Finding.{answer, told}
use Rattle.finder.specs.Laws.{Means, SearchIsReduction}
use Rattle.finder.specs.Search.{Found, found}
use Rattle.finder.specs.Steps.{step_rule, step_cell}
use Rattle.finder.specs.declared.rules.Rule.{Rule}
use Rattle.finder.specs.declared.faults.FindFault.{FindFault}
use Rattle.finder.specs.declared.faults.FindReason.TheVariants.{NoRule}
use Rattle.finder.proofs.Asking.{asks}
use Rattle.finder.proofs.Meaning.{as_many, claims, meant, passes, answered, answered_passes}
use Rattle.finder.proofs.Places.{redex, stands, due_within}
use Rattle.finder.proofs.Search.{due, same_due, Rests, Right, right, due_found, step_found, value_found}

-- an answer tells what it is the answer for
told_value : (w : Found) → told w ≡ Ok None → w ≡ None
told_value None e = refl
told_value (Some (k, Some r)) e = cc
told_value (Some (k, None)) e = cc

told_rule : (w : Found) (r : Rule) (k : ℕ) → told w ≡ Ok (Some (r, k)) → w ≡ due k (Some r)
told_rule None r k e = cc
told_rule (Some (j, Some s)) r k e = let p : ◌≡◌ {A = Rule × ℕ} (s, j) (r, k) = cc in ap (λ t. due t.1 (Some t.0)) p
told_rule (Some (j, None)) r k e = cc

told_stuck : (w : Found) (k : ℕ) → told w ≡ Err (fault NoRule k) → w ≡ due k None
told_stuck None k e = cc
told_stuck (Some (j, Some r)) k e = cc
told_stuck (Some (j, None)) k e = let p : fault NoRule j ≡ fault NoRule k = cc in ap (λ (f : FindFault). due f.cell None) p

module _ (cs : List TermCell) (m : Running) (h : Means cs m) where
  is_value : (answer cs ≡ Ok None) ↔ Value m
  is_value = (
    λ e. subst (Right m 0) (told_value (found 0 m) (sym (answered cs m h) ∙ e)) (right m 0),
    λ v. answered cs m h ∙ ap told (value_found v 0),
  )

  is_step : (r : Rule) (k : ℕ) → (answer cs ≡ Ok (Some (r, k))) ↔ ((e : Effect) × (n : Running) × (d : Reduces m e n) × (step_rule d ≡ r) × (step_cell d ≡ k))
  is_step r k = (there, back)
    where
      there : answer cs ≡ Ok (Some (r, k)) → (e : Effect) × (n : Running) × (d : Reduces m e n) × (step_rule d ≡ r) × (step_cell d ≡ k)
      there f =
          let (e, n, d, p, q) = subst (Right m 0) (told_rule (found 0 m) r k (sym (answered cs m h) ∙ f)) (right m 0) in
          (e, n, d, p, omega arith)

      back : (e : Effect) × (n : Running) × (d : Reduces m e n) × (step_rule d ≡ r) × (step_cell d ≡ k) → answer cs ≡ Ok (Some (r, k))
      back (e, n, d, p, q) =
          let z : 0 + step_cell d ≡ k = omega arith in
          answered cs m h ∙ ap told (step_found d 0) ∙ ap₂ (λ (s : Rule) (j : ℕ). Ok (Some (s, j))) p z

  is_stuck : (k : ℕ) → (answer cs ≡ Err (fault NoRule k)) ↔ ((p : Running) × Due m k p × Rests p)
  is_stuck k = (there, back)
    where
      there : answer cs ≡ Err (fault NoRule k) → (p : Running) × Due m k p × Rests p
      there f =
          let (j, p, d, s, q) = subst (Right m 0) (told_stuck (found 0 m) k (sym (answered cs m h) ∙ f)) (right m 0) in
          let z : j ≡ k = omega arith in
          (p, subst (λ i. Due m i p) z d, s)

      back : (p : Running) × Due m k p × Rests p → answer cs ≡ Err (fault NoRule k)
      back (p, d, s) =
          let z : 0 + k ≡ k = omega arith in
          answered cs m h ∙ ap told (due_found d s 0) ∙ ap (λ (j : ℕ). Err (fault NoRule j)) z

  goes_nowhere : ((k : ℕ) × (answer cs ≡ Err (fault NoRule k))) ↔ ((Value m → ⊥) × Rests m)
  goes_nowhere = (there, λ g. back (found 0 m) refl g)
    where
      there : (k : ℕ) × (answer cs ≡ Err (fault NoRule k)) → (Value m → ⊥) × Rests m
      there (k, f) = (no_value, no_step)
        where
          no_value : Value m → ⊥
          no_value v = let g = is_value.1 v in let z : ◌≡◌ {A = ℕ} 0 1 = cc in omega arith

          no_step : Rests m
          no_step e n d = let g = (is_step (step_rule d) (step_cell d)).1 (e, n, d, refl, refl) in let z : ◌≡◌ {A = ℕ} 0 1 = cc in omega arith

      back : (w : Found) → found 0 m ≡ w → (Value m → ⊥) × Rests m → (k : ℕ) × (answer cs ≡ Err (fault NoRule k))
      back None p (f, g) = absurd (f (is_value.0 (answered cs m h ∙ ap told p)))
      back (Some (k, Some r)) p (f, g) = let (e, n, d, q, t) = (is_step r k).0 (answered cs m h ∙ ap told p) in absurd (g e n d)
      back (Some (k, None)) p (f, g) = (k, answered cs m h ∙ ap told p)

one : (m n n' : Running) (e e' : Effect) (d : Reduces m e n) (d' : Reduces m e' n') → (step_rule d ≡ step_rule d') × (step_cell d ≡ step_cell d')
one m n n' e e' d d' =
    let (q, p) = same_due (sym (step_found d 0) ∙ step_found d' 0) in
    (cc, omega arith)

within : (cs : List TermCell) (r : Rule) (k : ℕ) → answer cs ≡ Ok (Some (r, k)) → k < length cs
within cs r k f =
    let (m, h) = meant cs (answered_passes cs (Some (r, k)) f) in
    let (e, n, d, p, q) = (is_step cs m h r k).0 f in
    let (o, o', s, u, v, w) = redex d in
    let l = sym (as_many cs) ∙ ap length h.written in
    omega (arith, due_within m o (step_cell d) u)

pub search_is_reduction : SearchIsReduction
search_is_reduction = record {
  claims = claims;
  passes = λ cs. (meant cs, λ (m, h). passes cs m h);
  value = is_value;
  step = λ cs m r k h. is_step cs m h r k;
  within = within;
  redex = λ m n e d. redex d;
  one = one;
  stands = stands;
  asks = asks;
  stuck = λ cs m k h. is_stuck cs m h k;
  nowhere = goes_nowhere;
}
