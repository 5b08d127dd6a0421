use Rattle.std.proofs.Common.{◌≡◌, sym, ap, ◌∙◌, arith}
use Rattle.calculus.specs.Types.{bangs}
use Rattle.subtyping.specs.Letters.{kind_of}
use Rattle.subtyping.specs.Meaning.{standing}
use Rattle.subtyping.proofs.Places.{kind_here, marked_kind}
use Rattle.subtyping.proofs.placed.TypeAt.kind.Goals as goal

pub returns-then-self-gt0 : goal.returns-then-self-gt0
returns-then-self-gt0 c = marked_kind c.args.self.marks (standing c.args.self) c.if-self-gt0.true

pub returns : goal.returns
returns c =
    let a = c.args.self in
    let n : a.marks ≡ 0 = omega arith in
    kind_here _ a.place _ a.placed.stands a.placed.within ∙ ap (λ n. kind_of (bangs n (standing a))) (sym n)
