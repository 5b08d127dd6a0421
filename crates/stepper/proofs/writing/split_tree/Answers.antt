use Rattle.std.proofs.Common.{◌≡◌, length, ap, ◌∙◌, arith}
use Rattle.std.specs.Option.{unwrap_or}
use Rattle.stepper.specs.Parts.{taken}
use Rattle.stepper.proofs.Parts.{tree_ends, taken_within, front_taken, back_after}
use Rattle.stepper.proofs.writing.split_tree.Goals as goal

pub split_at-requires : goal.split_at-requires
split_at-requires c =
    let e : c.unwrap_or-len.result ≡ length (taken 1 c.args.cells.now) = c.unwrap_or-len.ensures ∙ ap (λ o. unwrap_or o (length c.args.cells.now)) c.reach.ensures ∙ tree_ends c.args.cells.now in
    omega (arith, taken_within 1 c.args.cells.now)

pub returns : goal.returns
returns c =
    let e : c.unwrap_or-len.result ≡ length (taken 1 c.args.cells.now) = c.unwrap_or-len.ensures ∙ ap (λ o. unwrap_or o (length c.args.cells.now)) c.reach.ensures ∙ tree_ends c.args.cells.now in
    record {
      tree = c.split_at.ensures.front ∙ front_taken 1 c.unwrap_or-len.result c.args.cells.now e;
      rest = c.split_at.ensures.back ∙ back_after 1 c.unwrap_or-len.result c.args.cells.now e;
    }
