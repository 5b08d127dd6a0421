use Rattle.std.proofs.Common.{ap, subst, ◌+◌, arith}
use Rattle.subtyping.specs.Meaning.{Bare}
use Rattle.subtyping.proofs.placed.TypeAt.strip.Goals as goal

pub returns : goal.returns
returns c =
    let a = c.args.self in
    let n = c.standing_marks-marks.ensures in
    record {
      count = ap (λ n. a.marks + n) n.count;
      few = omega (arith, n.within, a.placed.few);
      left_over = subst (λ n. Bare a.types.now (a.place + n) c.at.result) n.count c.at.ensures;
    }
