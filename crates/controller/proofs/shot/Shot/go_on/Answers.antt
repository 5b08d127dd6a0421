use Rattle.std.proofs.Common.{◌≡◌, rules, take, get_or, false, ap, ◌∙◌}
use Rattle.stepper.specs.Naming.{names}
use Rattle.stepper.specs.Next.{next_cells}
use Rattle.controller.specs.Letting.{released_all}
use Rattle.controller.specs.Shots.{held}
use Rattle.controller.proofs.Advancing.{same_dropped}
use Rattle.controller.proofs.shot.Shot.go_on.Goals as goal

pub returns-clause-register : goal.returns-clause-register
returns-clause-register g c =
    let a = c.args in
    let cs = (held a.self.now).cells in
    let ds = next_cells cs a.rule a.at a.answer in
    let front : take c.write_next-len.result c.write_next-len.new.work ≡ ds = search rules in
    let running : c.deref.result.now ≡ cs = search rules in
    c.let_go_unnamed.ensures
    ∙ ap (λ hs. released_all g.R.Register.changes hs (g.R.Register.meaning a.register.now))
    (same_dropped (λ h. get_or c.named-before.result h false) (names cs) (λ h. get_or c.named.result h false) (names ds)
    (λ h l. c.named-before.ensures h l ∙ ap (λ xs. names xs h) running) (λ h l. c.named.ensures h l ∙ ap (λ xs. names xs h) front))
