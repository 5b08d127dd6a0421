-- Accepted are just the terms that have a derivation with their claims.
use Rattle.std.proofs.Common.{[], refl, arith}
use Rattle.calculus.specs.Terms.{bound, held}
use Rattle.calculus.specs.Contexts.{empty}
use Rattle.verdict.specs.Judging.{AcceptanceIsDerivability, AcceptanceIsDerivabilityBelow}
use Rattle.verdict.proofs.Sound.{sound, sound_nested}
use Rattle.verdict.proofs.Complete.{complete, not_some}
use Rattle.verdict.specs.Claims.{context_of}

pub derivable_below : AcceptanceIsDerivabilityBelow
derivable_below k bs m l =
    (λ h. (sound_nested k bs m h l, sound k bs m (context_of bs) h (λ x u. refl)), λ h. complete h.1 k bs h.0 (λ x a e. e))

pub derivable : AcceptanceIsDerivability
derivable m = (
  λ h. let l = sound_nested 0 [] m h (omega arith) in (omega arith, sound 0 [] m empty h (elim [ bound i ↦ λ u. refl | held k ↦ λ u. refl ])),
  λ h. complete h.1 0 [] (omega arith) (λ x a e. absurd (not_some a e)),
)
