use Rattle.std.proofs.Common.{◌≡◌, get_or, false, true, cond, Some, sym, refl, ap, ◌∙◌, arith, length-set}
use Rattle.std.proofs.lemmas.List.{drop_all, get_or-replicate}
use Rattle.calculus.specs.Cells.{blank}
use Rattle.stepper.specs.Naming.{name_of, names}
use Rattle.stepper.proofs.Names.{name_below, named_all, none_more, name_more}
use Rattle.stepper.proofs.naming.named.Goals as goal
use Rattle.stepper.proofs.naming.named.Goals.{in-Some, in_default}

pub loop-cell-init : goal.loop-cell-init
loop-cell-init c = record { handles = refl; so_far = λ h l. ap (λ b. cond b true (names c.args.cells.now h)) (get_or-replicate 32 h false false l) }

pub loop-cell-preserved : goal.loop-cell-preserved
loop-cell-preserved c =
    let cs = c.args.cells.now in
    let i = c.loop-cell.cell-index in
    elim c.match-name_of.branch [
      | in-Some w ↦
          let e : Some w.in-Some.handle ≡ name_of (get_or cs i blank) = w.in-Some.ensures in
          let below = name_below (get_or cs i blank) w.in-Some.handle e in
          rw w.named-is
          (record {
            handles = length-set c.loop-cell.named w.in-Some.handle true ∙ c.loop-cell.invariant.handles;
            so_far = λ h l. name_more cs i h c.loop-cell-test.true c.loop-cell.named w.in-Some.handle (omega (arith, c.loop-cell.invariant.handles)) e (c.loop-cell.invariant.so_far h l);
          })
      | in_default w ↦
          rw w.named-is
          (record {
            handles = c.loop-cell.invariant.handles;
            so_far = λ h l. none_more cs i h c.loop-cell-test.true (get_or c.loop-cell.named h false) w.in_default.ensures (c.loop-cell.invariant.so_far h l);
          })
    ]

pub returns : goal.returns
returns c = λ h l.
    let none = drop_all c.loop-cell.cell-index c.args.cells.now c.loop-cell-test.false in
    sym (named_all (get_or c.loop-cell.named h false)) ∙ ap (λ ds. cond (get_or c.loop-cell.named h false) true (names ds h)) (sym none) ∙ c.loop-cell.invariant.so_far h l
