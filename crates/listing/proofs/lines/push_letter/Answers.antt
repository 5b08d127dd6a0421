use Rattle.std.proofs.Common.{arith}
use Rattle.std.proofs.lemmas.Grind.{common_steps}
use Rattle.listing.proofs.Room.{encoded_short}
use Rattle.listing.proofs.lines.push_letter.Goals as goal

pub push-requires-2 : goal.push-requires-2
push-requires-2 c =
    let short = encoded_short c.args.letter in
    grind (arith, common_steps, short, c.push.ensures.bytes, c.requires)

pub returns-clause-short : goal.returns-clause-short
returns-clause-short c =
    let short = encoded_short c.args.letter in
    grind (arith, common_steps, short, c.push.ensures.bytes, c.push-2.ensures.bytes)
