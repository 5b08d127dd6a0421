use Rattle.subtyping.specs.Meaning.{standing}
use Rattle.subtyping.proofs.Places.{bangs_more}
use Rattle.subtyping.proofs.placed.TypeAt.marked.Goals as goal

pub returns-clause-meant : goal.returns-clause-meant
returns-clause-meant c = bangs_more c.args.self.marks c.args.marks (standing c.args.self)
