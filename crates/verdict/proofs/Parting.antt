-- How a context is parted between two parts by what each uses, and what a derivation needs of its context.
use Rattle.std.proofs.Common.{◌≡◌, ℕ, zero, suc, Bool, true, false, not, ◌&&◌, ◌||◌, T, ◌↔◌, List, [], ◌∷◌, Some, None, Option, sym, refl, ◌∙◌, subst}
use mathlib.Core.Logic.Iff
use Rattle.std.specs.List.{slice_get}
use Rattle.calculus.specs.Types.{Ty, bit, qbit, unit, bang, arrow, tensor, bangs, Duplicable}
use Rattle.calculus.specs.Terms.{Var, bound, held, under, Term, Free, free_var, free_lam, free_fun, free_arg, free_left, free_right, free_test, free_then, free_else, free_pair, free_body}
use Rattle.calculus.specs.Contexts.{Context, extended, Shared, to_left, to_right, to_both, Split, DuplicableAt}
use Rattle.calculus.specs.Typing.{Derives, rule_variable, rule_constant, rule_unit, rule_function, rule_duplicable_function, rule_application, rule_pair, rule_condition, rule_let}
use Rattle.calculus.specs.Stripping.{duplicable}
use Rattle.verdict.specs.Claims.{context_of}
use Rattle.verdict.specs.Sharing.{all_duplicable}
use Rattle.calculus.proofs.Stripping.{T_and}
use Rattle.verdict.proofs.Uses.{in_left, in_right}

-- the context has a type there
abbrev pub Has : Option Ty → Type 0
Has None = ⊥
Has (Some a) = Unit {0}

pub has_left : {o l r : Option Ty} → Shared o l r → Has l → Has o
has_left to_left h = h
has_left to_right h = absurd h
has_left to_both h = h

pub has_right : {o l r : Option Ty} → Shared o l r → Has r → Has o
has_right to_left h = absurd h
has_right to_right h = h
has_right to_both h = h

pub has_twice : {o l r : Option Ty} → Shared o l r → Has l → Has r → DuplicableAt o
has_twice to_left h k = absurd k
has_twice to_right h k = absurd h
has_twice to_both h k = tt

pub has_outside : (a : Ty) (γ : Context) (x : Var) → Has (extended a γ (under x)) → Has (γ x)
has_outside a γ (bound i) h = h
has_outside a γ (held j) h = h

-- A derivation's context has a type for every free variable of its term.
module _ {C : Type 0} (Claims : C → Ty → Type 0) where
  pub in_domain : {γ : Context} {m : Term C} {t : Ty} (x : Var) → Derives Claims γ m t → Free x m → Has (γ x)
  in_domain x (rule_variable p e s) free_var = subst Has (sym e) tt
  in_domain x (rule_constant p s) f = elim f [ ]
  in_domain x (rule_unit n p e) f = elim f [ ]
  in_domain x (rule_function {γ = γ} {a = a} p e d) (free_lam f) = has_outside a γ x (in_domain (under x) d f)
  in_domain x (rule_duplicable_function {γ = γ} {a = a} n p e u d) (free_lam f) = has_outside a γ x (in_domain (under x) d f)
  in_domain x (rule_application p s d e) (free_fun f) = has_left (s x) (in_domain x d f)
  in_domain x (rule_application p s d e) (free_arg f) = has_right (s x) (in_domain x e f)
  in_domain x (rule_pair k a b p s q d e) (free_left f) = has_left (s x) (in_domain x d f)
  in_domain x (rule_pair k a b p s q d e) (free_right f) = has_right (s x) (in_domain x e f)
  in_domain x (rule_condition p s d e g) (free_test f) = has_left (s x) (in_domain x d f)
  in_domain x (rule_condition p s d e g) (free_then f) = has_right (s x) (in_domain x e f)
  in_domain x (rule_condition p s d e g) (free_else f) = has_right (s x) (in_domain x g f)
  in_domain x (rule_let k a b p s d e) (free_pair f) = has_left (s x) (in_domain x d f)
  in_domain x (rule_let {γ₂ = γ₂} k a b p s d e) (free_body f) =
      has_right (s x) (has_outside (bangs k a) γ₂ x (has_outside (bangs k b) (extended (bangs k a) γ₂) (under x) (in_domain (under (under x)) e f)))

-- The share of each part: what it uses, and the left part has what neither uses.
abbrev pub left_share : Bool → Bool → Option Ty → Option Ty
left_share true r o = o
left_share false true o = None
left_share false false o = o

abbrev pub right_share : Bool → Option Ty → Option Ty
right_share true o = o
right_share false o = None

-- Two parts may share what the context has there.
abbrev pub Copyable : Option Ty → Type 0
Copyable None = Unit {0}
Copyable (Some a) = Duplicable a

shared_both : (o : Option Ty) → Copyable o → Shared o o o
shared_both None d = to_left
shared_both (Some bit) d = absurd d
shared_both (Some qbit) d = absurd d
shared_both (Some unit) d = absurd d
shared_both (Some (bang a)) d = to_both
shared_both (Some (arrow a b)) d = absurd d
shared_both (Some (tensor a b)) d = absurd d

shared_by_use : (l r : Bool) (o : Option Ty) → (T l → T r → Copyable o) → Shared o (left_share l r o) (right_share r o)
shared_by_use true true o d = shared_both o (d tt tt)
shared_by_use true false o d = to_left
shared_by_use false true o d = to_right
shared_by_use false false o d = to_left

pub copyable_duplicable : (o : Option Ty) → Has o → Copyable o → DuplicableAt o
copyable_duplicable None h d = h
copyable_duplicable (Some a) h d = d

pub duplicable_exact : (a : Ty) → T (duplicable a) ↔ Duplicable a
duplicable_exact bit = Iff.rfl
duplicable_exact qbit = Iff.rfl
duplicable_exact unit = Iff.rfl
duplicable_exact (bang a) = Iff.rfl
duplicable_exact (arrow a b) = Iff.rfl
duplicable_exact (tensor a b) = Iff.rfl

pub implied : (a b : Bool) → T (not a || b) → T a → T b
implied true b h k = h
implied false b h k = absurd k

pub implies : (a b : Bool) → (T a → T b) → T (not a || b)
implies true b h = h tt
implies false b h = tt

pub copyable_bound : (bs : List Ty) (f : Var → Bool) → T (all_duplicable bs f) → (i : ℕ) → T (f (bound i)) → Copyable (slice_get bs i)
copyable_bound [] f h i u = tt
copyable_bound (b ∷ bs) f h zero u = (duplicable_exact b).0 (implied (f (bound 0)) (duplicable b) ((T_and _ _).0 h).0 u)
copyable_bound (b ∷ bs) f h (suc i) u = copyable_bound bs (λ x. f (under x)) ((T_and _ _).0 h).1 i u

pub all_copyable : (bs : List Ty) (f : Var → Bool) → ((i : ℕ) → T (f (bound i)) → Copyable (slice_get bs i)) → T (all_duplicable bs f)
all_copyable [] f h = tt
all_copyable (b ∷ bs) f h = (T_and _ _).1 (implies (f (bound 0)) (duplicable b) (λ u. (duplicable_exact b).1 (h 0 u)), all_copyable bs (λ x. f (under x)) (λ i. h (suc i)))

pub copyable : (bs : List Ty) (f : Var → Bool) → T (all_duplicable bs f) → (x : Var) → T (f x) → Copyable (context_of bs x)
copyable bs f h (bound i) u = copyable_bound bs f h i u
copyable bs f h (held k) u = tt

-- The context γ is as the binders say at each variable that is used.
abbrev pub Agrees : Context → List Ty → (Var → Bool) → Type 0
Agrees γ bs f = (x : Var) → T (f x) → γ x ≡ context_of bs x

pub agrees_inside : (γ : Context) (bs : List Ty) (a : Ty) (f : Var → Bool) → Agrees γ bs (λ x. f (under x)) → Agrees (extended a γ) (a ∷ bs) f
agrees_inside γ bs a f g (bound zero) u = refl
agrees_inside γ bs a f g (bound (suc i)) u = g (bound i) u
agrees_inside γ bs a f g (held h) u = g (held h) u

left_kept : (l r : Bool) (o : Option Ty) → T l → left_share l r o ≡ o
left_kept true r o h = refl
left_kept false r o h = elim h [ ]

right_kept : (r : Bool) (o : Option Ty) → T r → right_share r o ≡ o
right_kept true o h = refl
right_kept false o h = elim h [ ]

-- Two parts that use what f and g say, and the context parted between them.
module _ (γ : Context) (bs : List Ty) (f g : Var → Bool) (agrees : Agrees γ bs (λ x. f x || g x)) where
  pub parted : T (all_duplicable bs (λ x. f x && g x)) → Split γ (λ x. left_share (f x) (g x) (γ x)) (λ x. right_share (g x) (γ x))
  parted h x = shared_by_use (f x) (g x) (γ x) (λ u v. rw (agrees x (in_left (f x) (g x) u)) (copyable bs (λ y. f y && g y) h x ((T_and _ _).1 (u, v))))

  pub left_agrees : Agrees (λ x. left_share (f x) (g x) (γ x)) bs f
  left_agrees x u = left_kept (f x) (g x) (γ x) u ∙ agrees x (in_left (f x) (g x) u)

  pub right_agrees : Agrees (λ x. right_share (g x) (γ x)) bs g
  right_agrees x u = right_kept (g x) (γ x) u ∙ agrees x (in_right (f x) (g x) u)
