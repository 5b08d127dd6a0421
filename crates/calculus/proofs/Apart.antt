-- A gate step of a well-typed term is the one that progress finds, and so has distinct qubits.
use Rattle.std.proofs.Common.{ℕ, false, List}
use Rattle.calculus.specs.declared.gates.Gate.{Gate}
use Rattle.calculus.specs.Terms.{Running}
use Rattle.calculus.specs.Reduction.{applies, Reduces}
use Rattle.calculus.specs.Names.{Distinct}
use Rattle.calculus.specs.Safety.{Goes, goes_silent, goes_prepare, goes_read, goes_gate, Alike, alike_applies, GatesAreApart}
use Rattle.calculus.proofs.Canonical.{progress}
use Rattle.calculus.proofs.Determinism.{rests}
use Rattle.calculus.proofs.Requests.{one}

same_qubits : {u w : Gate} {hs ks : List ℕ} → Alike (applies u hs) (applies w ks) → Distinct ks → Distinct hs
same_qubits alike_applies d = d

apart : {m n : Running} {u : Gate} {hs : List ℕ} → Reduces m (applies u hs) n → Goes m → Distinct hs
apart r (goes_silent s) = elim (one r s).0 [ ]
apart r (goes_prepare b s) = elim (one r (s 0).1).0 [ ]
apart r (goes_read h i s) = elim (one r (s false).1).0 [ ]
apart r (goes_gate w ks d i s) = same_qubits (one r s).0 d

pub gates_are_apart : GatesAreApart
gates_are_apart m n u hs a t r = apart r (progress m a t (λ v. rests v r))
