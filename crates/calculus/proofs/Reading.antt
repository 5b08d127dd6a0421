-- Tables read from their last cell to their first, for cells of any kind.
use Rattle.std.proofs.Common.{◌≡◌, ℕ, zero, suc, ◌+◌, ◌-◌, ◌<◌, ◌≤◌, Bool, true, false, ◌&&◌, T, leb, List, [], ◌∷◌, ◌++◌, length, drop, sym, refl, ap, ◌∙◌, arith}
use Rattle.std.specs.List.{flat_map}
use Rattle.std.proofs.lemmas.Bool.{leb-true}
use Rattle.std.proofs.lemmas.List.{length-drop, drop-drop, drop_at}
use Rattle.trees.specs.Whole.{whole, height}
use Rattle.calculus.specs.Reading.{top, rest, every}

pub T_true : (b : Bool) → T b → b ≡ true
T_true true h = refl
T_true false h = elim h [ ]

pub both : (a b : Bool) → T (a && b) → T a × T b
both true b h = (tt, h)
both false b h = absurd h

pub leb_T : (a b : ℕ) → T (leb a b) → a ≤ b
leb_T a b h = leb-true a b (T_true _ h)

-- what follows cells that stand at a place
pub after : {X : Type 0} (cs ys zs : List X) (p n : ℕ) → drop p cs ≡ ys ++ zs → length ys ≡ n → drop (p + n) cs ≡ zs
after cs ys zs p n e l = sym (drop-drop n p cs) ∙ ap (drop n) e ∙ drop_at ys zs n l

module _ {X : Type 0} (test : X → Bool) (arity : X → ℕ) where
  abbrev pub Stand : List X → Type 0
  Stand cs = T (every test cs) × T (whole arity cs)

  pub stand_next : (c : X) (cs : List X) → Stand (c ∷ cs) → T (test c) × (arity c ≤ height arity cs) × Stand cs
  stand_next c cs (k, w) =
      let k2 = both (test c) (every test cs) k in
      let w2 = both (leb (arity c) (height arity cs)) (whole arity cs) w in
      (k2.0, leb_T (arity c) (height arity cs) w2.0, (k2.1, w2.1))

  pub stand_from : (p : ℕ) (cs : List X) → Stand cs → Stand (drop p cs)
  stand_from zero cs h = h
  stand_from (suc p) [] h = h
  stand_from (suc p) (c ∷ cs) h = stand_from p cs (stand_next c cs h).2

  some_height : (cs : List X) → 0 < length cs → 0 < height arity cs
  some_height [] h = absurd (omega arith)
  some_height (c ∷ cs) h = omega arith

  module _ {A : Type 0} (write : A → List X) (read : X → List A → List A) (all : List X → List A)
      (none : all [] ≡ []) (next : (c : X) (cs : List X) → all (c ∷ cs) ≡ read c (all cs))
      (more : (c : X) (ts : List A) → T (test c) → arity c ≤ length ts → (c ∷ flat_map write ts ≡ flat_map write (read c ts)) × (length (read c ts) ≡ length ts - arity c + 1)) where
    -- whole cells are those of what they mean, and mean as much as there are trees
    pub written : (cs : List X) → Stand cs → (cs ≡ flat_map write (all cs)) × (length (all cs) ≡ height arity cs)
    written [] h = (ap (flat_map write) (sym none), ap length none)
    written (c ∷ cs) h =
        let s = stand_next c cs h in
        let e = written cs s.2 in
        let m = more c (all cs) s.0 (omega (arith, s.1, e.1)) in
        (ap (λ ds. c ∷ ds) e.0 ∙ m.0 ∙ ap (flat_map write) (sym (next c cs)), ap length (next c cs) ∙ m.1 ∙ ap (λ n. n - arity c + 1) e.1)

    some : (d : A) (ts : List A) → 0 < length ts → flat_map write ts ≡ write (top d ts) ++ flat_map write (rest ts)
    some d [] h = absurd (omega arith)
    some d (a ∷ ts) h = refl

    -- at every place of a whole table stand the cells of what the place means
    pub placed : (d : A) (cs : List X) (p : ℕ) → Stand cs → p < length cs → (ds : List X) × (drop p cs ≡ write (top d (all (drop p cs))) ++ ds)
    placed d cs p h l =
        let w = written (drop p cs) (stand_from p cs h) in
        let n = length-drop p cs in
        let k = some_height (drop p cs) (omega arith) in
        (flat_map write (rest (all (drop p cs))), w.0 ∙ some d (all (drop p cs)) (omega (arith, w.1)))
