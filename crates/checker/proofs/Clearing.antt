-- Which binders of a set have duplicable types, level by level, and the types of binders counted outward from the nearest.
use Rattle.std.proofs.Common.{◌≡◌, ℕ, suc, ◌+◌, ◌-◌, ◌<◌, Bool, not, ◌&&◌, ◌||◌, List, [], ◌∷◌, ◌++◌, length, map, reverse, Some, None, Option, Bor, sym, refl, ap, ◌∙◌, arith}
use Rattle.std.proofs.Math.Bool.{and-true, and_assoc, and_comm}
use Rattle.std.proofs.lemmas.List.{map-append, reverse-append, length-map, length-reverse}
use Rattle.std.specs.List.{list_all, slice_get, enumerate_from}
use Rattle.std.specs.Option.{option_map}
use Rattle.std.proofs.lemmas.Option.{slice_get-map}
use Rattle.calculus.specs.Stripping.{duplicable}
use Rattle.calculus.specs.Terms.{Var, bound, under}
use Rattle.calculus.specs.Types.{Ty}
use Rattle.checker.specs.Scoping.{has, used_below}
use Rattle.checker.specs.declared.used.Used.{Used}
use Rattle.subtyping.specs.Meaning.{meant}
use Rattle.subtyping.specs.declared.placed.TypeAt.{TypeAt}
use Rattle.verdict.specs.Sharing.{all_duplicable}

-- what is tested is which binders are used
pub alike : (bs : List Ty) (f g : Var → Bool) → ((i : ℕ) → i < length bs → f (bound i) ≡ g (bound i)) → all_duplicable bs f ≡ all_duplicable bs g
alike [] f g h = refl
alike (b ∷ bs) f g h = simp (h 0 (omega arith), alike bs (λ x. f (under x)) (λ x. g (under x)) (λ i l. h (suc i) (omega arith)))

-- binders counted from the nearest, and their types
pub nearest_first : (bs : List TypeAt) → reverse (map meant bs) ≡ map meant (reverse bs)
nearest_first [] = refl
nearest_first (b ∷ bs) =
    reverse-append (meant b ∷ []) (map meant bs)
    ∙ ap (λ ts. ts ++ meant b ∷ []) (nearest_first bs)
    ∙ sym (ap (map meant) (reverse-append (b ∷ []) bs) ∙ map-append meant (reverse bs) (b ∷ []))

-- the binder at a place, counted from the nearest, and its type
pub nearest : (bs : List TypeAt) (o : Option (Bor TypeAt)) (n : ℕ) → option_map (λ x. x.now) o ≡ slice_get (reverse bs) n → option_map (λ x. meant x.now) o ≡ slice_get (reverse (map meant bs)) n
nearest bs o n e = meant_of o ∙ ap (option_map meant) e ∙ sym (slice_get-map meant (reverse bs) n) ∙ ap (λ ts. slice_get ts n) (sym (nearest_first bs))
  where
    meant_of : (o : Option (Bor TypeAt)) → option_map (λ x. meant x.now) o ≡ option_map meant (option_map (λ x. x.now) o)
    meant_of None = refl
    meant_of (Some x) = refl

-- a binder with its level: it is not in the set, or it has a duplicable type
abbrev pub may_stay : Used → ℕ × TypeAt → Bool
may_stay u p = not (has u p.0) || duplicable (meant p.1)

outermost : (ts : List Ty) (t : Ty) (f : Var → Bool) → all_duplicable (ts ++ t ∷ []) f ≡ (all_duplicable ts f && (not (f (bound (length ts))) || duplicable t))
outermost [] t f = and-true _
outermost (s ∷ ts) t f = ap (λ z. (not (f (bound 0)) || duplicable s) && z) (outermost ts t (λ x. f (under x))) ∙ sym (and_assoc (not (f (bound 0)) || duplicable s) _ _)

-- each binder from a level on that is in the set has a duplicable type, tested level by level
pub by_levels : (n d : ℕ) (bs : List TypeAt) (u : Used) → d ≡ n + length bs → list_all (may_stay u) (enumerate_from n bs) ≡ all_duplicable (reverse (map meant bs)) (used_below u d)
by_levels n d [] u e = refl
by_levels n d (b ∷ bs) u e =
    let ts = reverse (map meant bs) in
    let level : n ≡ d - 1 - length ts = omega (arith, e, length-reverse (map meant bs), length-map bs meant) in
    ap (λ z. may_stay u (n, b) && z) (by_levels (n + 1) d bs u (omega (arith, e)))
    ∙ and_comm (may_stay u (n, b)) _
    ∙ ap (λ k. all_duplicable ts (used_below u d) && may_stay u (k, b)) level
    ∙ sym (outermost ts (meant b) (used_below u d))
    ∙ ap (λ ts. all_duplicable ts (used_below u d)) (sym (reverse-append (meant b ∷ []) (map meant bs)))
