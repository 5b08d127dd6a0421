-- What verdicts add up to.
use Rattle.std.specs.Prelude.{ℕ, ◌+◌, ◌-◌, ◌*◌, ◌^◌, min}
use Rattle.numbers.specs.declared.answers.Verdict.{Verdict}

-- the largest sum; one that would be larger is this
abbrev pub largest : ℕ
largest = 2 ^ 64 - 1

-- one for the call, and the numbers of its verdict
abbrev pub total_of : Verdict → ℕ
total_of v = 1 + v.number + v.rule + v.place + v.steps + v.type_cells + v.term_cells

-- the sum of so many verdicts that are all the same
abbrev pub sum_of : ℕ → Verdict → ℕ
sum_of times v = min (times * total_of v) largest
