-- Claims may be forgotten: what is derived with claims is derived without them.
use Rattle.calculus.specs.Types.{Ty}
use Rattle.calculus.specs.Terms.{Term, erased}
use Rattle.calculus.specs.Contexts.{Context, empty}
use Rattle.calculus.specs.Typing.{Derives, Claimed, Unclaimed}
use Rattle.calculus.specs.Names.{WellTyped}

pub record ErasureLaws : Type 0 where
  -- a term that claims nothing has every type that its claimed form has
  pub derives : (γ : Context) (m : Term Ty) (a : Ty) → Derives Claimed γ m a
      → Derives Unclaimed γ (erased m) a
  -- so a program with a derivation starts as a well-typed running term
  pub starts : (m : Term Ty) (a : Ty) → Derives Claimed empty m a → WellTyped (erased m) a
