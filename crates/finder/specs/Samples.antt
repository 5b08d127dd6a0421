-- Short running terms, each by the letters of its ops, with the answers that they get. Every
-- argument is 0.
use Rattle.std.specs.Prelude.{◌≡◌, ℕ, List, [], ◌∷◌, map, replicate, codes}
use Rattle.std.specs.Prelude.{Some, None, Ok, Err, Option, Result}
use Rattle.calculus.specs.declared.cells.TermCell.{TermCell}
use Rattle.calculus.specs.Cells.{cell_of}
use Rattle.finder.specs.Faults.{fault}
use Rattle.finder.specs.Finding.{answer}
use Rattle.finder.specs.declared.rules.Rule.{Rule}
use Rattle.finder.specs.declared.rules.Rule.TheVariants.{Function, Pair, Then, Else}
use Rattle.finder.specs.declared.rules.Rule.TheVariants.{Prepare, Read, Gates}
use Rattle.finder.specs.declared.faults.FindReason.{FindReason}
use Rattle.finder.specs.declared.faults.FindFault.{FindFault}
use Rattle.finder.specs.declared.faults.FindReason.TheVariants.{TooManyCells, BadCell, NotWhole}
use Rattle.finder.specs.declared.faults.FindReason.TheVariants.{NoRule}

abbrev lettered : List ℕ → List TermCell
lettered ops = map (λ op. cell_of op 0 0) ops

pub record Sample : Type 0 where
  pub ops : List ℕ
  pub gets : Result (Option (Rule × ℕ)) FindFault

abbrev value : List ℕ → Sample
value ops = record { ops = ops; gets = Ok None }

abbrev step : List ℕ → Rule → ℕ → Sample
step ops r k = record { ops = ops; gets = Ok (Some (r, k)) }

abbrev refused : List ℕ → FindReason → ℕ → Sample
refused ops r k = record { ops = ops; gets = Err (fault r k) }

abbrev samples : List Sample
samples =
    value (codes "0")
    ∷ value (codes "pqq")
    ∷ value (codes "p0lan0")
    ∷ step (codes "alv0") Function 0
    ∷ step (codes "dp01v") Pair 0
    ∷ step (codes "i101") Then 0
    ∷ step (codes "i001") Else 0
    ∷ step (codes "an1") Prepare 0
    ∷ step (codes "amq") Read 0
    ∷ step (codes "agq") Gates 0
    -- the argument before the function, the left before the right, the pair and the condition
    -- before the rest
    ∷ step (codes "aalv0an0") Prepare 5
    ∷ step (codes "aa01an0") Prepare 4
    ∷ step (codes "aalv00") Function 1
    ∷ step (codes "pan0amq") Prepare 1
    ∷ step (codes "p0amq") Read 2
    ∷ step (codes "dpan01amq") Prepare 2
    ∷ step (codes "iamqan00") Read 1
    -- no rule
    ∷ refused (codes "a01") NoRule 0
    ∷ refused (codes "anq") NoRule 0
    ∷ refused (codes "am0") NoRule 0
    ∷ refused (codes "agpqq") NoRule 0
    ∷ refused (codes "d0v") NoRule 0
    ∷ refused (codes "iq01") NoRule 0
    ∷ refused (codes "p0a01") NoRule 2
    ∷ refused (codes "pa01an0") NoRule 1
    -- no running term
    ∷ refused (codes "") NotWhole 0
    ∷ refused (codes "an") NotWhole 0
    ∷ refused (codes "01") NotWhole 1
    ∷ refused (codes "0x") BadCell 1
    ∷ []

pub record SamplesHold : Type 0 where
  pub each : map (λ s. answer (lettered s.ops)) samples ≡ map (λ s. s.gets) samples
  -- an argument that no op allows, a gate on two qubits, and a cell too many
  pub bad_handle : answer (cell_of 113 32 0 ∷ []) ≡ Err (fault BadCell 0)
  pub swap :
      answer (cell_of 97 0 0 ∷ cell_of 103 6 0
      ∷ cell_of 112 0 0 ∷ cell_of 113 3 0 ∷ cell_of 113 5 0 ∷ [])
      ≡ Ok (Some (Gates, 0))
  pub too_many : answer (replicate 1025 (cell_of 120 0 0)) ≡ Err (fault TooManyCells 1024)
