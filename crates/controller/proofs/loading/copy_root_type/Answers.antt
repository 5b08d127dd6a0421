use Rattle.std.proofs.Common.{rules, ◌≡◌, length, take, ap, sym, ◌∙◌, unwrap_or}
use Rattle.controller.specs.Shots.{root_cells}
use Rattle.controller.proofs.Rooted.{RootCopied, root_copied}
use Rattle.controller.proofs.loading.copy_root_type.Goals as goal

copied : (c : goal.After-table-1) → RootCopied c.args.program.now.types.now c.args.program.now.terms.now c.copy.result c.copy.new.to
copied c =
    let p = c.args.program.now in
    root_copied p.types.now c.types.result.now p.terms.now c.terms.result.now c.root_claim.result c.args.table.now c.copy.new.to c.copy.result
    p.checked c.types.ensures c.terms.ensures c.root_claim.ensures c.requires c.copy.ensures.answer c.copy.ensures.table

pub unwrap-requires : goal.unwrap-requires
unwrap-requires c = let e = (copied c).count in search (rules, e)

pub returns-clause-cells : goal.returns-clause-cells
returns-clause-cells c =
    let e = copied c.before in
    let n : c.unwrap.result ≡ length (root_cells c.args.program.now.types.now c.args.program.now.terms.now) = ap (λ o. unwrap_or o 0) (sym c.unwrap.ensures ∙ e.count) in
    ap (λ n. take n c.copy.new.to) n ∙ e.front
