use Rattle.std.proofs.Common.{◌≡◌, ◌+◌, ◌-◌, length, drop, ap, ◌∙◌, arith}
use Rattle.std.proofs.lemmas.List.{take_all, length-drop, drop-drop}
use Rattle.stepper.proofs.writing.split_redex.Goals as goal

pub returns-in-len2-up-clause-trees : goal.returns-in-len2-up-clause-trees
returns-in-len2-up-clause-trees c =
    let cs = c.args.cells.now in
    let ds = c.split_at.result.1.now in
    let all : c.min.result ≡ c.args.at = omega (arith, ap length c.split_at.ensures.back, length-drop c.min.result cs) in
    take_all (length ds - 2) (drop 2 ds) (omega (arith, length-drop 2 ds)) ∙ ap (drop 2) c.split_at.ensures.back ∙ drop-drop 2 c.min.result cs ∙ ap (λ k. drop (k + 2) cs) all
