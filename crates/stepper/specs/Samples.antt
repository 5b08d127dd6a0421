-- Short running terms before and after a step, by the letters of their ops and the arguments of
-- their first cells. The other arguments are 0.
use Rattle.std.specs.Prelude.{◌≡◌, ℕ, true, List, [], ◌∷◌, map, codes}
use Rattle.calculus.specs.declared.cells.TermCell.{TermCell}
use Rattle.calculus.specs.Cells.{cell_of}
use Rattle.finder.specs.declared.rules.Rule.{Rule}
use Rattle.finder.specs.declared.rules.Rule.TheVariants.{Function, Pair, Then, Else}
use Rattle.finder.specs.declared.rules.Rule.TheVariants.{Prepare, Read, Gates}
use Rattle.stepper.specs.declared.writing.Answer.{Answer}
use Rattle.stepper.specs.declared.writing.Answer.TheVariants.{Nothing, Handle, Outcome}
use Rattle.stepper.specs.Naming.{names, dropped}
use Rattle.stepper.specs.Next.{next_cells}

abbrev written : List ℕ → List ℕ → List TermCell
written [] arguments = []
written (op ∷ ops) [] = cell_of op 0 0 ∷ written ops []
written (op ∷ ops) (i ∷ arguments) = cell_of op i 0 ∷ written ops arguments

pub record Sample : Type 0 where
  pub before : List TermCell
  pub rule : Rule
  pub at : ℕ
  pub answer : Answer
  pub after : List TermCell
  pub drops : List ℕ

abbrev sample : List TermCell → Rule → ℕ → Answer → List TermCell → List ℕ → Sample
sample before rule at a after drops = record {
  before = before;
  rule = rule;
  at = at;
  answer = a;
  after = after;
  drops = drops;
}

abbrev samples : List Sample
samples =
    -- (fun x. 0) (new 0), and what is left of it
    sample (written (codes "al0an0") []) Prepare 3 (Handle 5)
    (written (codes "al0q") (0 ∷ 0 ∷ 0 ∷ 5 ∷ [])) []
    ∷ sample (written (codes "al0q") (0 ∷ 0 ∷ 0 ∷ 5 ∷ [])) Function 0 Nothing
    (written (codes "0") []) (5 ∷ [])
    -- a value is copied, and goes under a binder, whose own variable stays
    ∷ sample (written (codes "alpvvp01") []) Function 0 Nothing (written (codes "pp01p01") []) []
    ∷ sample (written (codes "allpvvq") (0 ∷ 0 ∷ 0 ∷ 0 ∷ 1 ∷ 0 ∷ 5 ∷ [])) Function 0 Nothing
    (written (codes "lpqv") (0 ∷ 0 ∷ 5 ∷ [])) []
    -- a let's right value is the nearer
    ∷ sample (written (codes "dp01pvv") (0 ∷ 0 ∷ 0 ∷ 0 ∷ 0 ∷ 0 ∷ 1 ∷ [])) Pair 0 Nothing
    (written (codes "p10") []) []
    ∷ sample (written (codes "dp01lpvv") (0 ∷ 0 ∷ 0 ∷ 0 ∷ 0 ∷ 0 ∷ 1 ∷ 2 ∷ [])) Pair 0 Nothing
    (written (codes "lp10") []) []
    ∷ sample (written (codes "dpqq0") (0 ∷ 0 ∷ 4 ∷ 2 ∷ [])) Pair 0 Nothing
    (written (codes "0") []) (2 ∷ 4 ∷ [])
    -- a variable further out is seen from outside the binders
    ∷ sample (written (codes "alv0") (0 ∷ 0 ∷ 3 ∷ [])) Function 0 Nothing
    (written (codes "v") (2 ∷ [])) []
    ∷ sample (written (codes "dp01v") (0 ∷ 0 ∷ 0 ∷ 0 ∷ 3 ∷ [])) Pair 0 Nothing
    (written (codes "v") (1 ∷ [])) []
    -- the cells around a redex stay
    ∷ sample (written (codes "i101") []) Then 0 Nothing (written (codes "0") []) []
    ∷ sample (written (codes "pqi0q1") (0 ∷ 7 ∷ 0 ∷ 0 ∷ 7 ∷ [])) Else 2 Nothing
    (written (codes "pq1") (0 ∷ 7 ∷ [])) []
    ∷ sample (written (codes "pamqs") (0 ∷ 0 ∷ 0 ∷ 3 ∷ [])) Read 1 (Outcome true)
    (written (codes "p1s") []) (3 ∷ [])
    ∷ sample (written (codes "agpqq") (0 ∷ 6 ∷ 0 ∷ 1 ∷ 2 ∷ [])) Gates 0 Nothing
    (written (codes "pqq") (0 ∷ 1 ∷ 2 ∷ [])) []
    ∷ []

pub record SamplesHold : Type 0 where
  pub next : map (λ s. next_cells s.before s.rule s.at s.answer) samples
      ≡ map (λ s. s.after) samples
  pub drops : map (λ s. dropped (names s.before) (names s.after)) samples
      ≡ map (λ s. s.drops) samples
