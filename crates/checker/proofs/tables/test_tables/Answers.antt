use Rattle.std.proofs.Common.{rules, length}
use Rattle.checker.specs.Tables.{known_kind, storable, claim_in}
use Rattle.checker.proofs.tables.test_tables.Goals as goal

pub returns-in_err-refuse_at-3 : goal.returns-in_err-refuse_at-3
returns-in_err-refuse_at-3 c =
    let kinds = c.first_failing.ensures known_kind (λ x r k. search rules) in
    let stored = c.first_failing-2.ensures storable (λ x r k. search rules) in
    search (rules, kinds, stored)

pub returns : goal.returns
returns c =
    let kinds = c.first_failing.ensures known_kind (λ x r k. search rules) in
    let stored = c.first_failing-2.ensures storable (λ x r k. search rules) in
    let claims = c.first_failing-3.ensures (claim_in (length c.args.types.now)) (λ x r k. search rules) in
    search (rules, kinds, stored, claims)
