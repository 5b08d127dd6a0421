-- What a duplicable function may use of a context: the variables of duplicable types.
use Rattle.std.proofs.Common.{◌≡◌, ℕ, suc, Some, None, Option}
use Rattle.calculus.specs.Types.{Duplicable, Ty, bang, arrow, bangs}
use Rattle.calculus.specs.Terms.{Var, bound, held, lam, Running, Free, free_lam}
use Rattle.calculus.specs.Contexts.{Context, extended, DuplicableAt}
use Rattle.calculus.specs.Typing.{Derives, Unclaimed, rule_duplicable_function}
use Rattle.calculus.proofs.Subtyping.{Marking, a_bang, no_bang, marking, sub_refl, sub_trans}
use Rattle.calculus.proofs.Narrowing.{AtLeast, no_less, at_sub, at_least_refl, at_least_duplicable, narrower_under, carry}
use Rattle.calculus.proofs.Values.{Present, free_present}

pub at_least_trans : {a b c : Option Ty} → AtLeast a b → AtLeast b c → AtLeast a c
at_least_trans p no_less = no_less
at_least_trans (at_sub p) (at_sub q) = at_sub (sub_trans p q)

abbrev pub kept_type : (t : Ty) → Marking t → Option Ty
kept_type t a_bang = Some t
kept_type t (no_bang n) = None

abbrev pub keep : Option Ty → Option Ty
keep None = None
keep (Some t) = kept_type t (marking t)

abbrev pub kept : Context → Context
kept γ x = keep (γ x)

kept_at_most : (t : Ty) (v : Marking t) → AtLeast (Some t) (kept_type t v)
kept_at_most t a_bang = at_least_refl _
kept_at_most t (no_bang n) = no_less

kept_duplicable : (t : Ty) (v : Marking t) → Duplicable t → AtLeast (kept_type t v) (Some t)
kept_duplicable t a_bang d = at_least_refl _
kept_duplicable t (no_bang n) d = absurd (n d)

kept_present : (t : Ty) (v : Marking t) → Present (kept_type t v) → DuplicableAt (kept_type t v)
kept_present t a_bang p = tt
kept_present t (no_bang n) p = elim p [ ]

pub at_least_keep : (o : Option Ty) → AtLeast o (keep o)
at_least_keep None = no_less
at_least_keep (Some t) = kept_at_most t (marking t)

pub keep_duplicable : (o : Option Ty) → DuplicableAt o → AtLeast (keep o) o
keep_duplicable None d = no_less
keep_duplicable (Some t) d = kept_duplicable t (marking t) d

present_keep : (o : Option Ty) → Present (keep o) → DuplicableAt (keep o)
present_keep None p = elim p [ ]
present_keep (Some t) p = kept_present t (marking t) p

-- what is kept of less is kept of more
keep_below_bang : {w : Option Ty} {a : Ty} → AtLeast w (Some (bang a)) → AtLeast (keep w) (Some (bang a))
keep_below_bang {w} p = at_least_trans (keep_duplicable w (at_least_duplicable p tt)) p

keep_type_below : {w : Option Ty} (t : Ty) (v : Marking t) → AtLeast w (Some t) → AtLeast (keep w) (kept_type t v)
keep_type_below t a_bang p = keep_below_bang p
keep_type_below t (no_bang n) p = no_less

pub keep_below : {w : Option Ty} (o : Option Ty) → AtLeast w o → AtLeast (keep w) (keep o)
keep_below None p = no_less
keep_below (Some t) p = keep_type_below t (marking t) p

pub lam_kept : (n : ℕ) (w : Context) {a b t : Ty} {c : Unit {0}} {m : Running} → t ≡ bangs (suc n) (arrow a b)
    → Derives Unclaimed (extended a (kept w)) m b → Derives Unclaimed w (lam c m) t
lam_kept n w {c = c} {m = m} e r =
    rule_duplicable_function n tt e only (carry r (sub_refl _) (narrower_under (λ x. Free x m) (sub_refl _) (λ x f. at_least_keep (w x))))
  where
    only : (x : Var) → Free x (lam c m) → DuplicableAt (w x)
    only (bound i) (free_lam f) = at_least_duplicable (at_least_keep (w (bound i))) (present_keep (w (bound i)) (free_present r f))
    only (held h) (free_lam f) = at_least_duplicable (at_least_keep (w (held h))) (present_keep (w (held h)) (free_present r f))
