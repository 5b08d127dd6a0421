-- Controllers with the same shot and the same register are the same.
use Rattle.std.proofs.Common.{◌≡◌, Ok, Err, Result, MatchResult, sym, ap, subst}
use Rattle.std.proofs.Math.Logic.{∥∥₁_prop}
use Rattle.registers.specs.declared.register.Register.{Ghosts}
use Rattle.controller.specs.declared.control.Controller.{Controller}
use Rattle.controller.specs.declared.shot.Shot.{Shot}
use Rattle.controller.specs.Keeping.{Kept}
use Rattle.controller.specs.Shots.{held}

module _ {R : Type 0} (kind : Ghosts R) where
  abbrev Reached : Shot → R → Type 0
  Reached s r = ∥ Kept kind.changes (held s) (kind.meaning r) ∥₁

  abbrev of : (s : Shot) (r : R) → Reached s r → Controller R kind
  of s r p = record { shot = s; register = r; reached = p }

  pub same : (c c' : Controller R kind) → c'.shot ≡ c.shot → c'.register ≡ c.register → c' ≡ c
  same c c' e f = at_shot c'.shot (sym e) c'.register (sym f) c'.reached
    where
      at_register : (r : R) → c.register ≡ r → (p : Reached c.shot r) → of c.shot r p ≡ c
      at_register r f = subst (λ y. (p : Reached c.shot y) → of c.shot y p ≡ c) f (λ p. ap (of c.shot c.register) (∥∥₁_prop p c.reached))

      at_shot : (s : Shot) → c.shot ≡ s → (r : R) → c.register ≡ r → (p : Reached s r) → of s r p ≡ c
      at_shot s e = subst (λ y. (r : R) → c.register ≡ r → (p : Reached y r) → of y r p ≡ c) e at_register

-- What is known of both answers of a call, told otherwise.
pub told_otherwise : {A B : Type 0} {P P' : A → Type 0} {Q Q' : B → Type 0} (x : Result A B) → MatchResult x P Q → ((a : A) → P a → P' a) → ((b : B) → Q b → Q' b) → MatchResult x P' Q'
told_otherwise (Ok a) m f g = f a m
told_otherwise (Err b) m f g = g b m
