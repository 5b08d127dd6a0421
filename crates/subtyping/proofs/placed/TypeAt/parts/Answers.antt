use Rattle.std.proofs.Common.{◌∙◌, ap₂}
use Rattle.subtyping.specs.Placing.{type_end}
use Rattle.subtyping.proofs.Places.{first_within, second_within}
use Rattle.subtyping.proofs.placed.TypeAt.parts.Goals as goal

pub next-first-requires : goal.next-first-requires
next-first-requires c = first_within c.args.self c.requires

pub at-requires : goal.at-requires
at-requires c =
    let b = c.next-first.ensures in
    rw (c.past.ensures ∙ ap₂ type_end b.same_table b.same_place) (second_within c.args.self c.requires)
