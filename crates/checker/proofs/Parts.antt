-- The verdict on a node by the answers for its parts.
use Rattle.std.proofs.Common.{◌≡◌, ℕ, zero, suc, ◌+◌, ◌-◌, ◌<◌, Bool, true, ◌||◌, T, ◌⊎◌, List, [], ◌∷◌, length, map, reverse, ◌==◌, is_some, Err, Result, sym, refl, ap, ◌∙◌, subst, ap₂, inl, inr, arith}
use Rattle.std.proofs.lemmas.Bool.{eq-eqb, ne_eqb, both_ways}
use Rattle.std.proofs.lemmas.Result.{err_from_is_err_and}
use Rattle.std.specs.Result.{IsErrAnd}
use Rattle.std.specs.List.{slice_get}
use Rattle.calculus.specs.declared.cells.TermCell.{TermCell}
use Rattle.calculus.specs.declared.cells.TypeCell.{TypeCell}
use Rattle.calculus.specs.Reading.{type_at, term_at}
use Rattle.calculus.specs.Stripping.{marks, first, is_tensor, left_of, right_of}
use Rattle.calculus.specs.Terms.{Var, bound, under, Term, var, const, star, lam, app, pair, if_then_else, let_pair, claim_of, size}
use Rattle.calculus.specs.Types.{Ty}
use Rattle.calculus.proofs.Reaching.{size_reclaimed}
use Rattle.calculus.proofs.Reading.{T_true, both}
use Rattle.checker.specs.Judging.{types_of, terms_of, cell_of, term_near, term_of, PartOf, verdict_of, with_binders}
use Rattle.checker.specs.Scoping.{UsesOf, depth, has, in_scope, used_below}
use Rattle.checker.specs.Meaning.{meaning}
use Rattle.checker.specs.declared.program.Node.{Node}
use Rattle.checker.specs.declared.program.Program.{Program}
use Rattle.checker.specs.declared.scope.Scope.{Scope}
use Rattle.checker.specs.declared.used.Used.{Used}
use Rattle.checker.proofs.Fits.{function_none}
use Rattle.checker.proofs.Nodes.{second_at, third_at, lam_here, app_here, pair_here, let_here, if_here, var_here, part_term}
use Rattle.checker.proofs.Showing.{Shows, shows_only, shows_either, apart_shows, depth_is}
use Rattle.subtyping.specs.Meaning.{meant}
use Rattle.subtyping.specs.Parting.{Apart, Components}
use Rattle.subtyping.specs.declared.parting.Core.{Core}
use Rattle.subtyping.specs.declared.parting.Core.TheVariants.{Arrow}
use Rattle.subtyping.specs.declared.placed.TypeAt.{TypeAt}
use Rattle.verdict.specs.Claims.{function_fits}
use Rattle.verdict.specs.Faults.{Verdict, accepted, ◌then◌}
use Rattle.verdict.specs.Judging.{entering, verdict, verdict_from}
use Rattle.verdict.specs.Sharing.{apart, uncaptured}
use Rattle.verdict.specs.Uses.{uses}
use Rattle.verdict.specs.declared.faults.CheckFault.{CheckFault}
use Rattle.verdict.proofs.Accepting.{Entered, entered}

pub then_go : (v w : Verdict) → accepted ≡ v → (v then w) ≡ w
then_go v w e = ap (λ v. v then w) (sym e)

pub then_refused : (f : CheckFault) (v w : Verdict) → Err f ≡ v → Err f ≡ (v then w)
then_refused f v w e = ap (λ v. v then w) e

-- a node that is entered has the verdict on what is inside it
goes_inside : (k : ℕ) (bs : List Ty) (m n : Term Ty) (w : Verdict) → m ≡ n → verdict_from k bs n ≡ (entering k bs n then w) → accepted ≡ entering k bs m → verdict_from k bs m ≡ w
goes_inside k bs m n w e v h = ap (verdict_from k bs) e ∙ v ∙ then_go (entering k bs n) w (h ∙ ap (entering k bs) e)

-- a node that is refused on entering it has that verdict
pub enter_refused : (k : ℕ) (bs : List Ty) (m : Term Ty) (f : CheckFault) → Err f ≡ entering k bs m → Err f ≡ verdict_from k bs m
enter_refused k bs (var c x) f h = h
enter_refused k bs (const c q) f h = h
enter_refused k bs (star c) f h = h
enter_refused k bs (lam c m) f h = then_refused f _ _ h
enter_refused k bs (app c m n) f h = then_refused f _ _ h
enter_refused k bs (pair c m n) f h = then_refused f _ _ h
enter_refused k bs (if_then_else c p m n) f h = then_refused f _ _ h
enter_refused k bs (let_pair c m n) f h = then_refused f _ _ h

-- the verdict of an answer that hands a fault on
pub told : {A : Type 0} (f : CheckFault) (r : Result A CheckFault) → IsErrAnd r (λ e. e ≡ f) → verdict_of r ≡ Err f
told f r h = let p = err_from_is_err_and r h in ap verdict_of (p.1 ∙ ap Err p.2)

-- the verdict and the variables of a term that was judged in a scope which is the other one again
pub verdict_in : (n : Node) (s t : Scope) (v : Verdict) → t ≡ s → v ≡ verdict_from n.at (in_scope t) (term_of n) → v ≡ verdict_from n.at (in_scope s) (term_of n)
verdict_in n s t v e h = h ∙ ap (λ s. verdict_from n.at (in_scope s) (term_of n)) e

pub uses_in : (n : Node) (s t : Scope) (u : Used) → t ≡ s → UsesOf u (depth t) (term_of n) → UsesOf u (depth s) (term_of n)
uses_in n s t u e h = subst (λ s. UsesOf u (depth s) (term_of n)) e h

-- A node n of two parts, the second below binders with the types cs, where the parts use what f and g say.
pub record Twofold (n a b : Node) (bs cs : List Ty) (f g : Var → Bool) : Type 0 where
  pub verdict : verdict_from n.at bs (term_of n) ≡ (verdict_from a.at bs (term_of a) then verdict_from b.at cs (term_of b) then apart n.at bs f g)
  pub uses_is : (x : Var) → uses (term_of n) x ≡ (f x || g x)

-- its verdict, where the first part is accepted
module _ (n a b : Node) (bs cs : List Ty) (f g : Var → Bool) (t : Twofold n a b bs cs f g) where
  pub second_refused : (e : CheckFault) → accepted ≡ verdict_from a.at bs (term_of a) → Err e ≡ verdict_from b.at cs (term_of b) → Err e ≡ verdict_from n.at bs (term_of n)
  second_refused e p h = then_refused e _ (apart n.at bs f g) h ∙ sym (then_go (verdict_from a.at bs (term_of a)) _ p) ∙ sym t.verdict

  pub two_shows : (u l r : Used) (d : ℕ) → Shows l d f → Shows r d g → ((k : ℕ) → has u k ≡ (has l k || has r k)) → UsesOf u d (term_of n)
  two_shows u l r d p q e = shows_either u l r d f g (uses (term_of n)) t.uses_is p q e

  two_done : (v : Verdict) → accepted ≡ verdict_from a.at bs (term_of a) → accepted ≡ verdict_from b.at cs (term_of b) → v ≡ apart n.at bs f g → v ≡ verdict_from n.at bs (term_of n)
  two_done v p q h = h ∙ sym (then_go (verdict_from b.at cs (term_of b)) (apart n.at bs f g) q) ∙ sym (then_go (verdict_from a.at bs (term_of a)) _ p) ∙ sym t.verdict

-- its verdict, where both parts are accepted, by the sets of what they use
pub two_left : (n a b : Node) (s x : Scope) (cs : List Ty) (f g : Var → Bool) (t : Twofold n a b (in_scope s) cs f g) (l r : Used) (v : Verdict) → x ≡ s
    → Shows l (depth s) f → Shows r (depth s) g → accepted ≡ verdict_from a.at (in_scope s) (term_of a) → accepted ≡ verdict_from b.at cs (term_of b)
    → v ≡ apart n.at (in_scope x) (used_below l (depth x)) (used_below r (depth x)) → v ≡ verdict_from n.at (in_scope s) (term_of n)
two_left n a b s x cs f g t l r v k p q c d e =
    two_done n a b (in_scope s) cs f g t v c d (e ∙ ap (λ s. apart n.at (in_scope s) (used_below l (depth s)) (used_below r (depth s))) k ∙ apart_shows s n.at l r f g p q)

-- what both branches use together
abbrev pub branch_uses : Node → Node → Var → Bool
branch_uses b d x = uses (term_of b) x || uses (term_of d) x

-- A condition and its two branches.
pub record Threefold (n a b d : Node) (bs : List Ty) : Type 0 where
  pub verdict : verdict_from n.at bs (term_of n) ≡ (verdict_from a.at bs (term_of a) then verdict_from b.at bs (term_of b) then verdict_from d.at bs (term_of d) then apart n.at bs (uses (term_of a)) (branch_uses b d))
  pub uses_is : (x : Var) → uses (term_of n) x ≡ (uses (term_of a) x || branch_uses b d x)

module _ (n a b d : Node) (bs : List Ty) (t : Threefold n a b d bs) where
  leaving : Verdict
  leaving = apart n.at bs (uses (term_of a)) (branch_uses b d)

  pub else_branch_refused : (e : CheckFault) → accepted ≡ verdict_from a.at bs (term_of a) → accepted ≡ verdict_from b.at bs (term_of b) → Err e ≡ verdict_from d.at bs (term_of d) → Err e ≡ verdict_from n.at bs (term_of n)
  else_branch_refused e p q h = then_refused e (verdict_from d.at bs (term_of d)) _ h ∙ sym (then_go (verdict_from b.at bs (term_of b)) _ q) ∙ sym (then_go (verdict_from a.at bs (term_of a)) _ p) ∙ sym t.verdict

  pub branches_show : (u l r : Used) (e : ℕ) → UsesOf l e (term_of b) → UsesOf r e (term_of d) → ((k : ℕ) → has u k ≡ (has l k || has r k)) → Shows u e (branch_uses b d)
  branches_show u l r e p q h = shows_either u l r e (uses (term_of b)) (uses (term_of d)) (branch_uses b d) (λ x. refl) p q h

  pub three_shows : (u l r : Used) (e : ℕ) → UsesOf l e (term_of a) → Shows r e (branch_uses b d) → ((k : ℕ) → has u k ≡ (has l k || has r k)) → UsesOf u e (term_of n)
  three_shows u l r e p q h = shows_either u l r e (uses (term_of a)) (branch_uses b d) (uses (term_of n)) t.uses_is p q h

  three_done : (v : Verdict) → accepted ≡ verdict_from a.at bs (term_of a) → accepted ≡ verdict_from b.at bs (term_of b) → accepted ≡ verdict_from d.at bs (term_of d) → v ≡ apart n.at bs (uses (term_of a)) (branch_uses b d) → v ≡ verdict_from n.at bs (term_of n)
  three_done v p q r h =
      h ∙ sym (then_go (verdict_from d.at bs (term_of d)) _ r) ∙ sym (then_go (verdict_from b.at bs (term_of b)) _ q) ∙ sym (then_go (verdict_from a.at bs (term_of a)) _ p) ∙ sym t.verdict

pub three_left : (n a b d : Node) (s x : Scope) (t : Threefold n a b d (in_scope s)) (l r : Used) (v : Verdict) → x ≡ s
    → UsesOf l (depth s) (term_of a) → Shows r (depth s) (branch_uses b d)
    → accepted ≡ verdict_from a.at (in_scope s) (term_of a) → accepted ≡ verdict_from b.at (in_scope s) (term_of b) → accepted ≡ verdict_from d.at (in_scope s) (term_of d)
    → v ≡ apart n.at (in_scope x) (used_below l (depth x)) (used_below r (depth x)) → v ≡ verdict_from n.at (in_scope s) (term_of n)
three_left n a b d s x t l r v k p q c e f h =
    three_done n a b d (in_scope s) t v c e f (h ∙ ap (λ s. apart n.at (in_scope s) (used_below l (depth s)) (used_below r (depth s))) k ∙ apart_shows s n.at l r (uses (term_of a)) (branch_uses b d) p q)

-- the types in scope under the components of a pair
pub let_binders : (a u v : TypeAt) (c : Ty) (s t : Scope) → Components a u v → meant a ≡ c → t ≡ s → with_binders (u ∷ v ∷ []) (in_scope t) ≡ right_of c ∷ left_of c ∷ in_scope s
let_binders a u v c s t p e k = ap₂ (λ b bs. b ∷ bs) (p.right_is ∙ ap right_of e) (ap₂ (λ b s. b ∷ in_scope s) (p.left_is ∙ ap left_of e) k)

module _ (n : Node) (s : Scope) (h : accepted ≡ entering n.at (in_scope s) (term_of n)) where
  entered_here : Entered (in_scope s) (term_of n)
  entered_here = (entered n.at (in_scope s) (term_of n)).0 (sym h)

  -- l
  module _ (k : (cell_of n).op ≡ 108) (m : Node) (p : PartOf n 0 m) where
    lam_is : term_of n ≡ lam (claim_of (term_of n)) (term_of m)
    lam_is = lam_here n k ∙ ap (lam (claim_of (term_of n))) (sym (part_term n 0 m p))

    pub lam_verdict : verdict_from n.at (in_scope s) (term_of n)
        ≡ (verdict_from m.at (first (claim_of (term_of n)) ∷ in_scope s) (term_of m) then uncaptured n.at (in_scope s) (marks (claim_of (term_of n))) (λ x. uses (term_of m) (under x)))
    lam_verdict =
        let c = claim_of (term_of n) in
        goes_inside n.at (in_scope s) _ _ _ lam_is refl h
        ∙ ap (λ q. verdict_from q (first c ∷ in_scope s) (term_of m) then uncaptured n.at (in_scope s) (marks c) (λ x. uses (term_of m) (under x))) (sym p.same_place)

    pub lam_uses : (x : Var) → uses (term_of n) x ≡ uses (term_of m) (under x)
    lam_uses x = ap (λ m. uses m x) lam_is

  -- a function claims an arrow
  pub not_no_arrow : (k : (cell_of n).op ≡ 108) (b : TypeAt) (x : ℕ × Core) → Apart b x → meant b ≡ claim_of (term_of n) → ((u v : TypeAt) → x.1 ≡ Arrow u v → ⊥) → ⊥
  not_no_arrow k b x t e f =
      let l = subst (Entered (in_scope s)) (lam_here n k) entered_here in
      let c = claim_of (term_near n (n.at + 1)) in
      both_ways _ (sym (function_none b x t f c ∙ ap (λ d. function_fits d c) e)) (T_true _ l.fits)

  -- a fault of the first part is that of the node
  module _ (a : Node) (p : PartOf n 0 a) (f : CheckFault) (r : Err f ≡ verdict_from a.at (in_scope s) (term_of a)) where
    begins : (w : Verdict) → verdict_from n.at (in_scope s) (term_of n) ≡ (verdict_from (n.at + 1) (in_scope s) (term_near n (n.at + 1)) then w) → Err f ≡ verdict_from n.at (in_scope s) (term_of n)
    begins w e = then_refused f _ w r ∙ ap₂ (λ i m. verdict_from i (in_scope s) m then w) p.same_place (part_term n 0 a p) ∙ sym e

    pub left_refused : ((cell_of n).op ≡ 97) ⊎ ((cell_of n).op ≡ 112) → Err f ≡ verdict_from n.at (in_scope s) (term_of n)
    left_refused (inl k) = begins _ (goes_inside n.at (in_scope s) _ _ _ (app_here n k) refl h)
    left_refused (inr k) = begins _ (goes_inside n.at (in_scope s) _ _ _ (pair_here n k) refl h)

    pub given_refused : (cell_of n).op ≡ 100 → Err f ≡ verdict_from n.at (in_scope s) (term_of n)
    given_refused k = begins _ (goes_inside n.at (in_scope s) _ _ _ (let_here n k) refl h)

    pub condition_refused : (cell_of n).op ≡ 105 → Err f ≡ verdict_from n.at (in_scope s) (term_of n)
    condition_refused k = begins _ (goes_inside n.at (in_scope s) _ _ _ (if_here n k) refl h)

  -- the places and terms of two parts
  module _ (a b : Node) (p : PartOf n 0 a) (q : PartOf n 1 b) where
    second_place : n.at + 1 + size (term_near n (n.at + 1)) ≡ second_at n
    second_place = ap (λ i. n.at + 1 + i) (size_reclaimed (type_at (types_of n)) (term_at (terms_of n) (n.at + 1)))

    moved : {A : Type 0} (f : ℕ → ℕ → Term Ty → Term Ty → A) → f (n.at + 1) (n.at + 1 + size (term_near n (n.at + 1))) (term_near n (n.at + 1)) (term_near n (second_at n)) ≡ f a.at b.at (term_of a) (term_of b)
    moved f =
        ap (λ i. f (n.at + 1) i (term_near n (n.at + 1)) (term_near n (second_at n))) second_place
        ∙ ap₂ (λ i j. f i j (term_near n (n.at + 1)) (term_near n (second_at n))) (sym p.same_place) (sym q.same_place)
        ∙ ap₂ (f a.at b.at) (sym (part_term n 0 a p)) (sym (part_term n 1 b q))

    -- a and p
    pub two_parts : ((cell_of n).op ≡ 97) ⊎ ((cell_of n).op ≡ 112) → Twofold n a b (in_scope s) (in_scope s) (uses (term_of a)) (uses (term_of b))
    two_parts (inl k) = record {
      verdict = goes_inside n.at (in_scope s) _ _ _ (app_here n k) refl h ∙ moved (λ i j x y. verdict_from i (in_scope s) x then verdict_from j (in_scope s) y then apart n.at (in_scope s) (uses x) (uses y));
      uses_is = λ v. ap (λ m. uses m v) (app_here n k) ∙ moved (λ i j x y. uses x v || uses y v);
    }
    two_parts (inr k) = record {
      verdict = goes_inside n.at (in_scope s) _ _ _ (pair_here n k) refl h ∙ moved (λ i j x y. verdict_from i (in_scope s) x then verdict_from j (in_scope s) y then apart n.at (in_scope s) (uses x) (uses y));
      uses_is = λ v. ap (λ m. uses m v) (pair_here n k) ∙ moved (λ i j x y. uses x v || uses y v);
    }

    -- d
    module _ (k : (cell_of n).op ≡ 100) where
      pub let_parts : Twofold n a b (in_scope s) (right_of (claim_of (term_of a)) ∷ left_of (claim_of (term_of a)) ∷ in_scope s) (uses (term_of a)) (λ x. uses (term_of b) (under (under x)))
      let_parts = record {
        verdict = goes_inside n.at (in_scope s) _ _ _ (let_here n k) refl h
            ∙ moved (λ i j x y. verdict_from i (in_scope s) x then verdict_from j (right_of (claim_of x) ∷ left_of (claim_of x) ∷ in_scope s) y then apart n.at (in_scope s) (uses x) (λ v. uses y (under (under v))));
        uses_is = λ v. ap (λ m. uses m v) (let_here n k) ∙ moved (λ i j x y. uses x v || uses y (under (under v)));
      }

  -- the pair that is given claims a pair
  pub given_pair : (k : (cell_of n).op ≡ 100) (a : Node) → PartOf n 0 a → (b : TypeAt) → meant b ≡ claim_of (term_of a) → is_tensor (meant b) ≡ true
  given_pair k a p b e =
      let l = subst (Entered (in_scope s)) (let_here n k) entered_here in
      ap is_tensor (e ∙ ap claim_of (part_term n 0 a p)) ∙ T_true _ (both _ _ l.fits).0

  -- i
  module _ (a b : Node) (p : PartOf n 0 a) (q : PartOf n 1 b) (k : (cell_of n).op ≡ 105) where
    -- what is tested after the second part
    abbrev last_tests : Verdict
    last_tests = verdict_from (b.at + size (term_of b)) (in_scope s) (term_near n (third_at n)) then apart n.at (in_scope s) (uses (term_of a)) (λ v. uses (term_of b) v || uses (term_near n (third_at n)) v)

    branching : verdict_from n.at (in_scope s) (term_of n) ≡ (verdict_from a.at (in_scope s) (term_of a) then verdict_from b.at (in_scope s) (term_of b) then last_tests)
    branching =
        goes_inside n.at (in_scope s) _ _ _ (if_here n k) refl h
        ∙ moved a b p q (λ i j x y. verdict_from i (in_scope s) x then verdict_from j (in_scope s) y then verdict_from (j + size y) (in_scope s) (term_near n (third_at n)) then apart n.at (in_scope s) (uses x) (λ v. uses y v || uses (term_near n (third_at n)) v))

    pub then_branch_refused : (e : CheckFault) → accepted ≡ verdict_from a.at (in_scope s) (term_of a) → Err e ≡ verdict_from b.at (in_scope s) (term_of b) → Err e ≡ verdict_from n.at (in_scope s) (term_of n)
    then_branch_refused e x y = then_refused e (verdict_from b.at (in_scope s) (term_of b)) last_tests y ∙ sym (then_go (verdict_from a.at (in_scope s) (term_of a)) _ x) ∙ sym branching

    pub if_parts : (d : Node) → PartOf n 2 d → Threefold n a b d (in_scope s)
    if_parts d r =
        let e : b.at + size (term_of b) ≡ d.at = ap₂ (λ i m. i + size m) q.same_place (part_term n 1 b q) ∙ ap (λ i. second_at n + i) (size_reclaimed (type_at (types_of n)) (term_at (terms_of n) (second_at n))) ∙ sym r.same_place in
        let z = sym (part_term n 2 d r) in
        record {
          verdict = branching ∙ ap₂ (λ i m. verdict_from a.at (in_scope s) (term_of a) then verdict_from b.at (in_scope s) (term_of b) then verdict_from i (in_scope s) m then apart n.at (in_scope s) (uses (term_of a)) (λ v. uses (term_of b) v || uses m v)) e z;
          uses_is = λ v. ap (λ m. uses m v) (if_here n k) ∙ moved a b p q (λ i j x y. uses x v || (uses y v || uses (term_near n (third_at n)) v)) ∙ ap (λ m. uses (term_of a) v || (uses (term_of b) v || uses m v)) z;
        }

  -- v
  module _ (k : (cell_of n).op ≡ 118) where
    pub var_accepted : accepted ≡ verdict_from n.at (in_scope s) (term_of n)
    var_accepted = h ∙ ap (entering n.at (in_scope s)) (var_here n k) ∙ sym (ap (verdict_from n.at (in_scope s)) (var_here n k))

    pub var_bound : (cell_of n).argument < depth s
    var_bound =
        let e = subst (Entered (in_scope s)) (var_here n k) entered_here in
        omega (arith, has_place (in_scope s) (cell_of n).argument e.has_binder, depth_is s)
      where
        has_place : (bs : List Ty) (i : ℕ) → T (is_some (slice_get bs i)) → i < length bs
        has_place [] i t = absurd t
        has_place (b ∷ bs) zero t = omega arith
        has_place (b ∷ bs) (suc i) t = let r = has_place bs i t in omega arith

    pub var_shows : (u : Used) → ((k : ℕ) → has u k ≡ (k == (depth s - 1 - (cell_of n).argument))) → UsesOf u (depth s) (term_of n)
    var_shows u e =
        let x = (cell_of n).argument in
        shows_only u (depth s) x (uses (term_of n)) var_bound e (ap (λ m. uses m (bound x)) (var_here n k) ∙ eq-eqb x x refl) (λ i l. ap (λ m. uses m (bound i)) (var_here n k) ∙ ne_eqb i x l)

-- the verdict on the term at the first place, under no binder
pub whole_verdict : (types : List TypeCell) (terms : List TermCell) (p : Program) (n : Node) (s : Scope) (v : Verdict) → p.types.now ≡ types → p.terms.now ≡ terms → n.program.now ≡ p → n.at ≡ 0 → s.binders.items ≡ []
    → v ≡ verdict_from n.at (in_scope s) (term_of n) → v ≡ verdict (meaning types terms 0)
whole_verdict types terms p n s v t u e f g h =
    h ∙ ap (λ bs. verdict_from n.at (reverse (map meant bs)) (term_of n)) g
    ∙ ap₂ (λ types terms. verdict_from n.at [] (meaning types terms n.at)) (ap (λ (p : Program). p.types.now) e ∙ t) (ap (λ (p : Program). p.terms.now) e ∙ u)
    ∙ ap (λ k. verdict_from k [] (meaning types terms k)) f
