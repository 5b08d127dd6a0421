-- What the typing rules ask of a node, by the claims of its parts.
use Rattle.std.proofs.Common.{◌≡◌, ◌+◌, Bool, List, sym, ap, ap₂, ◌∙◌}
use Rattle.calculus.specs.Terms.{Term, claim_of}
use Rattle.calculus.specs.Types.{Ty}
use Rattle.checker.specs.Judging.{term_of, term_near, PartOf}
use Rattle.checker.specs.declared.program.Node.{Node}
use Rattle.checker.proofs.Nodes.{IsTwo, part_term, if_here, second_at, third_at}
use Rattle.checker.specs.Judging.{cell_of}
use Rattle.verdict.specs.Claims.{condition_fits, claims_fit}

-- a node of two parts
pub two_claimed : (n a b : Node) (join : Ty → Term Ty → Term Ty → Term Ty) (bs : List Ty) (test : Ty → Ty → Ty → Bool) → ((c : Ty) (x y : Term Ty) → claims_fit bs (join c x y) ≡ test c (claim_of x) (claim_of y))
    → IsTwo n join → PartOf n 0 a → PartOf n 1 b → (c x y : Ty) → c ≡ claim_of (term_of n) → x ≡ claim_of (term_of a) → y ≡ claim_of (term_of b) → test c x y ≡ claims_fit bs (term_of n)
two_claimed n a b join bs test f t pa pb c x y e g h =
    ap₂ (test c) (g ∙ ap claim_of (part_term n 0 a pa)) (h ∙ ap claim_of (part_term n 1 b pb))
    ∙ ap (λ c. test c (claim_of (term_near n (n.at + 1))) (claim_of (term_near n (second_at n)))) e
    ∙ sym (f (claim_of (term_of n)) (term_near n (n.at + 1)) (term_near n (second_at n)))
    ∙ sym (ap (claims_fit bs) t)

pub three_claimed : (n a b d : Node) (bs : List Ty) → (cell_of n).op ≡ 105 → PartOf n 0 a → PartOf n 1 b → PartOf n 2 d → (c x y z : Ty) → c ≡ claim_of (term_of n) → x ≡ claim_of (term_of a) → y ≡ claim_of (term_of b) → z ≡ claim_of (term_of d)
    → condition_fits c x y z ≡ claims_fit bs (term_of n)
three_claimed n a b d bs k pa pb pd c x y z e g h i =
    ap₂ (condition_fits c x) (h ∙ ap claim_of (part_term n 1 b pb)) (i ∙ ap claim_of (part_term n 2 d pd))
    ∙ ap₂ (λ c x. condition_fits c x (claim_of (term_near n (second_at n))) (claim_of (term_near n (third_at n)))) e (g ∙ ap claim_of (part_term n 0 a pa))
    ∙ sym (ap (claims_fit bs) (if_here n k))
