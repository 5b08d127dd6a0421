-- A context that has what two others have together, and who owns it where a rule parts the first of the two.
use Rattle.std.proofs.Common.{Some, None, Option}
use Rattle.calculus.specs.Types.{Ty, bang}
use Rattle.calculus.specs.Contexts.{Shared, to_left, to_right, to_both}
use Rattle.calculus.proofs.Subtyping.{Marking, a_bang, no_bang, marking}
use Rattle.calculus.proofs.Narrowing.{AtLeast, at_least_duplicable, part_at}
use Rattle.calculus.proofs.Values.{at_left, at_right}
use Rattle.calculus.proofs.Keeping.{at_least_trans, kept_type, keep, keep_below}

-- w has what g and u have together.
abbrev pub Covers : Option Ty → Option Ty → Option Ty → Type 0
Covers w g u = (s : Option Ty) × Shared s g u × AtLeast w s

pub covers_left : {w g u : Option Ty} → Covers w g u → AtLeast w g
covers_left c = at_least_trans c.2 (at_left c.1)

pub covers_right : {w g u : Option Ty} → Covers w g u → AtLeast w u
covers_right c = at_least_trans c.2 (at_right c.1)

pub covers_alone : {w g : Option Ty} → AtLeast w g → Covers w g None
covers_alone a = (_, to_left, a)

pub swapped : {g g₁ g₂ : Option Ty} → Shared g g₁ g₂ → Shared g g₂ g₁
swapped to_left = to_right
swapped to_right = to_left
swapped to_both = to_both

pub regrouped : {s g u g₁ g₂ : Option Ty} → Shared s g u → Shared g g₁ g₂ → (s₁ : Option Ty) × Shared s s₁ g₂ × Shared s₁ g₁ u
regrouped to_left q = (_, q, to_left)
regrouped to_right to_left = (_, to_left, to_right)
regrouped to_right to_right = (_, to_left, to_right)
regrouped to_both to_left = (_, to_left, to_both)
regrouped to_both to_right = (_, to_both, to_right)
regrouped to_both to_both = (_, to_both, to_both)

same_kept : (t : Ty) (v : Marking t) → Shared (kept_type t v) (kept_type t v) (kept_type t v)
same_kept t a_bang = to_both
same_kept t (no_bang n) = to_left

pub covers_keep : {w : Option Ty} (g u : Option Ty) → Covers w g u → Covers (keep w) (keep g) (keep u)
covers_keep g u (s, to_left, p) = (_, to_left, keep_below s p)
covers_keep g u (s, to_right, p) = (_, to_right, keep_below s p)
covers_keep g u (Some t, to_both, p) = (_, same_kept t (marking t), keep_below (Some t) p)

-- What the owners of a context's part and of the value's part get.
abbrev pub Dealt : Option Ty → Option Ty → Option Ty → Option Ty → Option Ty → Type 0
Dealt w g₁ g₂ u₁ u₂ = (w₁ : Option Ty) × (w₂ : Option Ty) × Shared w w₁ w₂ × Covers w₁ g₁ u₁ × Covers w₂ g₂ u₂

pub deal_left : (w : Option Ty) {g g₁ g₂ u : Option Ty} → Shared g g₁ g₂ → Covers w g u → Dealt w g₁ g₂ u None
deal_left w q c =
    let r = regrouped c.1 q in
    let p = part_at {F = Unit {0}} {G = Unit {0}} w r.1 (λ _. c.2) (λ _. c.2) in
    (p.0, p.1, p.2, (r.0, r.2, p.3 tt), covers_alone (p.4 tt))

pub deal_right : (w : Option Ty) {g g₁ g₂ u : Option Ty} → Shared g g₁ g₂ → Covers w g u → Dealt w g₁ g₂ None u
deal_right w q c = let d = deal_left w (swapped q) c in (d.1, d.0, swapped d.2, d.4, d.3)

-- a duplicable type goes to both
to_both_marked : {g₁ g₂ : Option Ty} {a : Ty} (t : Ty) → Marking t → AtLeast (Some t) (Some (bang a)) → Covers (Some t) g₁ (Some (bang a)) → Covers (Some t) g₂ (Some (bang a))
    → Dealt (Some t) g₁ g₂ (Some (bang a)) (Some (bang a))
to_both_marked t a_bang p c d = (_, _, to_both, c, d)
to_both_marked t (no_bang n) p c d = absurd (n (at_least_duplicable p tt))

all_duplicable : {g₁ g₂ : Option Ty} {a : Ty} (w : Option Ty) → AtLeast w (Some (bang a)) → Covers w g₁ (Some (bang a)) → Covers w g₂ (Some (bang a))
    → Dealt w g₁ g₂ (Some (bang a)) (Some (bang a))
all_duplicable (Some t) p c d = to_both_marked t (marking t) p c d
all_duplicable None p c d = elim p [ ]

deal_bang : {g g₁ g₂ : Option Ty} {a : Ty} (w : Option Ty) → Shared g g₁ g₂ → Covers w g (Some (bang a)) → Dealt w g₁ g₂ (Some (bang a)) (Some (bang a))
deal_bang w to_left (s, to_both, p) = all_duplicable w p (s, to_both, p) (s, to_right, p)
deal_bang w to_left (s, to_right, p) = all_duplicable w p (s, to_right, p) (s, to_right, p)
deal_bang w to_right (s, to_both, p) = all_duplicable w p (s, to_right, p) (s, to_both, p)
deal_bang w to_right (s, to_right, p) = all_duplicable w p (s, to_right, p) (s, to_right, p)
deal_bang w to_both (s, to_both, p) = all_duplicable w p (s, to_both, p) (s, to_both, p)

deal_type : {g g₁ g₂ : Option Ty} (w : Option Ty) (t : Ty) (v : Marking t) → Shared g g₁ g₂ → Covers w g (Some t) → Dealt w g₁ g₂ (kept_type t v) (kept_type t v)
deal_type w t a_bang q c = deal_bang w q c
deal_type w t (no_bang n) q c = deal_left w q (covers_alone (covers_left c))

pub deal_kept : (w : Option Ty) {g g₁ g₂ : Option Ty} (u : Option Ty) → Shared g g₁ g₂ → Covers w g u → Dealt w g₁ g₂ (keep u) (keep u)
deal_kept w None q c = deal_left w q c
deal_kept w (Some t) q c = deal_type w t (marking t) q c
