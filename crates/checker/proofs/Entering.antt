-- The tests of a cell as the tests of the node that it means.
use Rattle.std.proofs.Common.{◌≡◌, ℕ, zero, suc, ◌+◌, ◌<◌, Bool, true, false, not, cond, eqb, ltb, leb, List, [], ◌∷◌, length, is_some, Err, sym, refl, ap, ◌∙◌, subst, ap₂, inl, inr, arith}
use Rattle.std.specs.List.{slice_get}
use Rattle.std.proofs.lemmas.Bool.{lt-ltb, le-ltb, cases_lt}
use Rattle.calculus.specs.declared.cells.TermCell.{TermCell}
use Rattle.calculus.specs.Letters.{Letter, at_v, at_q, at_g, at_0, at_1, at_m, at_n, at_s, at_l, at_a, at_p, at_d, at_i, other, letter, arguments_of}
use Rattle.calculus.specs.Reading.{top, no_term, read_term, type_at}
use Rattle.calculus.specs.Terms.{Term, bound, reclaimed}
use Rattle.calculus.specs.Types.{Ty}
use Rattle.calculus.proofs.ReadTerms.{code, Coded, coded}
use Rattle.checker.specs.Judging.{types_of, terms_of, cell_of, term_of}
use Rattle.checker.specs.Scoping.{in_scope, depth, depth_tested}
use Rattle.checker.specs.Scoping.{binders_of as letter_binders}
use Rattle.checker.specs.declared.program.Node.{Node}
use Rattle.checker.specs.declared.scope.Scope.{Scope}
use Rattle.checker.proofs.Showing.{depth_is}
use Rattle.checker.proofs.Nodes.{not_qubit, read, argument_allowed}
use Rattle.checker.proofs.Trees.{trees}
use Rattle.verdict.specs.Claims.{claims_fit}
use Rattle.verdict.specs.Faults.{Verdict, accepted, must, ◌then◌, fault}
use Rattle.verdict.specs.Judging.{binders_of, is_stored, is_bound, entering, verdict_from}
use Rattle.verdict.specs.Uses.{uses}
use Rattle.verdict.specs.declared.faults.CheckFault.{CheckFault}
use Rattle.verdict.specs.declared.faults.CheckReason.TheVariants.{BadCell, TooDeep, NoBinder, WrongClaim}

has_place : (bs : List Ty) (i : ℕ) → is_some (slice_get bs i) ≡ ltb i (length bs)
has_place [] i = sym (le-ltb i 0 (omega arith))
has_place (b ∷ bs) zero = sym (lt-ltb 0 (length (b ∷ bs)) (omega arith))
has_place (b ∷ bs) (suc i) = has_place bs i ∙ elim (cases_lt i (length bs)) [
  | inl l ↦ lt-ltb i (length bs) l ∙ sym (lt-ltb (suc i) (length (b ∷ bs)) (omega arith))
  | inr l ↦ le-ltb i (length bs) l ∙ sym (le-ltb (suc i) (length (b ∷ bs)) (omega arith))
]

-- what a node is asked for but its claims
record Asked (bs : List Ty) (op x : ℕ) (m : Term Ty) : Type 0 where
  stored : is_stored m ≡ true
  binders : binders_of m ≡ letter_binders op
  has_binder : is_bound bs m ≡ cond (eqb op 118) (ltb x (length bs)) true

asked_by : (f : ℕ → Ty) (bs : List Ty) (l : Letter) (x c : ℕ) (ms : List (Term ℕ)) → x < arguments_of l → (code l ≡ 113 → ⊥) → Asked bs (code l) x (reclaimed f (top no_term (read_term l x c ms)))
asked_by f bs at_v x c ms a n = record { stored = refl; binders = refl; has_binder = has_place bs x }
asked_by f bs at_q x c ms a n = absurd (n refl)
asked_by f bs at_g x c ms a n = record { stored = refl; binders = refl; has_binder = refl }
asked_by f bs at_0 x c ms a n = record { stored = refl; binders = refl; has_binder = refl }
asked_by f bs at_1 x c ms a n = record { stored = refl; binders = refl; has_binder = refl }
asked_by f bs at_m x c ms a n = record { stored = refl; binders = refl; has_binder = refl }
asked_by f bs at_n x c ms a n = record { stored = refl; binders = refl; has_binder = refl }
asked_by f bs at_s x c ms a n = record { stored = refl; binders = refl; has_binder = refl }
asked_by f bs at_l x c ms a n = record { stored = refl; binders = refl; has_binder = refl }
asked_by f bs at_a x c ms a n = record { stored = refl; binders = refl; has_binder = refl }
asked_by f bs at_p x c ms a n = record { stored = refl; binders = refl; has_binder = refl }
asked_by f bs at_d x c ms a n = record { stored = refl; binders = refl; has_binder = refl }
asked_by f bs at_i x c ms a n = record { stored = refl; binders = refl; has_binder = refl }
asked_by f bs other x c ms a n = absurd (omega arith)

-- a letter that is one has its code
its_code : (op : ℕ) (l : Letter) (x : ℕ) → Coded op l → x < arguments_of l → op ≡ code l
its_code op l x (inl e) a = absurd (omega (arith, ap arguments_of e))
its_code op l x (inr e) a = e

split_cond : (a b : Bool) (f g : CheckFault) (v : Verdict) → must a f (must b g v) ≡ (must a f (must b g accepted) then v)
split_cond true true f g v = refl
split_cond true false f g v = refl
split_cond false b f g v = refl

refused_unless : (b : Bool) (f : CheckFault) → cond (not b) (Err f) accepted ≡ must b f accepted
refused_unless true f = refl
refused_unless false f = refl

module _ (n : Node) (s : Scope) where
  asked : Asked (in_scope s) (cell_of n).op (cell_of n).argument (term_of n)
  asked =
      let c = cell_of n in
      let l = letter c.op in
      let e = its_code c.op l c.argument (coded c.op) (argument_allowed n) in
      let r = asked_by (type_at (types_of n)) (in_scope s) l c.argument c.claim (trees (terms_of n) (n.at + 1)) (argument_allowed n) (λ z. not_qubit n (e ∙ z)) in
      subst (λ m. Asked (in_scope s) c.op c.argument m) (sym (ap (reclaimed (type_at (types_of n))) (read n))) (subst (λ o. Asked (in_scope s) o c.argument (reclaimed (type_at (types_of n)) (top no_term (read_term l c.argument c.claim (trees (terms_of n) (n.at + 1)))))) (sym e) r)

  -- the tests of the binders, then of the claims
  pub entering_is : entering n.at (in_scope s) (term_of n) ≡ (depth_tested n.at (cell_of n).op (cell_of n).argument (depth s) then must (claims_fit (in_scope s) (term_of n)) (fault WrongClaim n.at) accepted)
  entering_is =
      let c = cell_of n in
      let bs = in_scope s in
      let d = depth_is s in
      let claims = must (claims_fit bs (term_of n)) (fault WrongClaim n.at) accepted in
      ap (λ b. must b (fault BadCell n.at) (must (leb (length bs + binders_of (term_of n)) 32) (fault TooDeep n.at) (must (is_bound bs (term_of n)) (fault NoBinder n.at) claims))) asked.stored
      ∙ ap₂ (λ a b. must (leb a 32) (fault TooDeep n.at) (must b (fault NoBinder n.at) claims)) (ap₂ ◌+◌ d asked.binders) (asked.has_binder ∙ ap (λ d. cond (eqb c.op 118) (ltb c.argument d) true) d)
      ∙ split_cond (leb (depth s + letter_binders c.op) 32) (cond (eqb c.op 118) (ltb c.argument (depth s)) true) (fault TooDeep n.at) (fault NoBinder n.at) claims

  pub depth_refused : (f : CheckFault) (c : TermCell) (d : ℕ) → c ≡ cell_of n → d ≡ depth s → Err f ≡ depth_tested n.at c.op c.argument d → Err f ≡ entering n.at (in_scope s) (term_of n)
  depth_refused f c d e q h = ap (λ v. v then must (claims_fit (in_scope s) (term_of n)) (fault WrongClaim n.at) accepted) (h ∙ ap₂ (λ (c : TermCell) d. depth_tested n.at c.op c.argument d) e q) ∙ sym entering_is

  pub claims_tested : (b : Bool) (c : TermCell) (d : ℕ) → c ≡ cell_of n → d ≡ depth s → accepted ≡ depth_tested n.at c.op c.argument d → b ≡ claims_fit (in_scope s) (term_of n) → cond (not b) (Err (fault WrongClaim n.at)) accepted ≡ entering n.at (in_scope s) (term_of n)
  claims_tested b c d q r h e =
      refused_unless b (fault WrongClaim n.at)
      ∙ ap (λ b. must b (fault WrongClaim n.at) accepted) e ∙ ap (λ v. v then must (claims_fit (in_scope s) (term_of n)) (fault WrongClaim n.at) accepted) (h ∙ ap₂ (λ (c : TermCell) d. depth_tested n.at c.op c.argument d) q r) ∙ sym entering_is

-- A term that has no parts and is no variable of a binder: it is tested on entering it alone.
pub record Leaf (m : Term Ty) : Type 0 where
  pub unused : (i : ℕ) → uses m (bound i) ≡ false
  pub tested : (k : ℕ) (bs : List Ty) → verdict_from k bs m ≡ entering k bs m

-- a cell of none of these letters is one
leaf_read : (f : ℕ → Ty) (op : ℕ) (l : Letter) (x c : ℕ) (ms : List (Term ℕ)) → Coded op l → (op ≡ 118 → ⊥) → (op ≡ 108 → ⊥) → (op ≡ 97 → ⊥) → (op ≡ 112 → ⊥) → (op ≡ 100 → ⊥) → (op ≡ 105 → ⊥)
    → Leaf (reclaimed f (top no_term (read_term l x c ms)))
leaf_read f op at_v x c ms (inl e) nv nl na np nd ni = absurd (omega (arith, ap arguments_of e))
leaf_read f op at_v x c ms (inr e) nv nl na np nd ni = absurd (nv e)
leaf_read f op at_q x c ms e nv nl na np nd ni = record { unused = λ i. refl; tested = λ k bs. refl }
leaf_read f op at_g x c ms e nv nl na np nd ni = record { unused = λ i. refl; tested = λ k bs. refl }
leaf_read f op at_0 x c ms e nv nl na np nd ni = record { unused = λ i. refl; tested = λ k bs. refl }
leaf_read f op at_1 x c ms e nv nl na np nd ni = record { unused = λ i. refl; tested = λ k bs. refl }
leaf_read f op at_m x c ms e nv nl na np nd ni = record { unused = λ i. refl; tested = λ k bs. refl }
leaf_read f op at_n x c ms e nv nl na np nd ni = record { unused = λ i. refl; tested = λ k bs. refl }
leaf_read f op at_s x c ms e nv nl na np nd ni = record { unused = λ i. refl; tested = λ k bs. refl }
leaf_read f op at_l x c ms (inl e) nv nl na np nd ni = absurd (omega (arith, ap arguments_of e))
leaf_read f op at_l x c ms (inr e) nv nl na np nd ni = absurd (nl e)
leaf_read f op at_a x c ms (inl e) nv nl na np nd ni = absurd (omega (arith, ap arguments_of e))
leaf_read f op at_a x c ms (inr e) nv nl na np nd ni = absurd (na e)
leaf_read f op at_p x c ms (inl e) nv nl na np nd ni = absurd (omega (arith, ap arguments_of e))
leaf_read f op at_p x c ms (inr e) nv nl na np nd ni = absurd (np e)
leaf_read f op at_d x c ms (inl e) nv nl na np nd ni = absurd (omega (arith, ap arguments_of e))
leaf_read f op at_d x c ms (inr e) nv nl na np nd ni = absurd (nd e)
leaf_read f op at_i x c ms (inl e) nv nl na np nd ni = absurd (omega (arith, ap arguments_of e))
leaf_read f op at_i x c ms (inr e) nv nl na np nd ni = absurd (ni e)
leaf_read f op other x c ms e nv nl na np nd ni = record { unused = λ i. refl; tested = λ k bs. refl }

pub leaf : (n : Node) (c : TermCell) → c ≡ cell_of n → (c.op ≡ 118 → ⊥) → (c.op ≡ 108 → ⊥) → (c.op ≡ 97 → ⊥) → (c.op ≡ 112 → ⊥) → (c.op ≡ 100 → ⊥) → (c.op ≡ 105 → ⊥) → Leaf (term_of n)
leaf n c e nv nl na np nd ni =
    let f = type_at (types_of n) in
    let ms = trees (terms_of n) (n.at + 1) in
    let k = read n ∙ ap (λ (c : TermCell). top no_term (read_term (letter c.op) c.argument c.claim ms)) (sym e) in
    subst (λ m. Leaf (reclaimed f m)) (sym k) (leaf_read f c.op (letter c.op) c.argument c.claim ms (coded c.op) nv nl na np nd ni)
