use Rattle.std.proofs.Common.{◌≡◌, Some, sym, ◌∙◌, rules}
use Rattle.subtyping.specs.Meaning.{past}
use Rattle.subtyping.proofs.Reaching.{reaches}
use Rattle.subtyping.proofs.placed.TypeAt.past.Goals as goal

pub unwrap-requires : goal.unwrap-requires
unwrap-requires c =
    let a = c.args.self in
    rw (c.reach.ensures ∙ reaches a.types.now a.place a.placed.stands a.placed.within) (search rules)

pub returns : goal.returns
returns c =
    let a = c.args.self in
    let e : Some c.unwrap.result ≡ Some (past a) = sym c.unwrap.ensures ∙ c.reach.ensures ∙ reaches a.types.now a.place a.placed.stands a.placed.within in
    cc
