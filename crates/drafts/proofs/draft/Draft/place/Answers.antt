use Rattle.std.proofs.Common.{◌≡◌, true, false, List, ◌++◌, refl, ap, ◌∙◌, rules, tests, arith}
use Rattle.calculus.specs.declared.cells.TypeCell.{TypeCell}
use Rattle.calculus.specs.Cells.{type_cells}
use Rattle.kinds.specs.Kinds.{kind_type}
use Rattle.std.proofs.lemmas.Iterator.{first_from_Range}
use Rattle.drafts.specs.Cells.{stands}
use Rattle.drafts.proofs.Places.{found_place, added_place}
use Rattle.drafts.proofs.draft.Draft.place.Goals as goal

pub returns-in-Some-clause-place : goal.returns-in-Some-clause-place
returns-in-Some-clause-place c =
    found_place _ c.args.self.now.types.items c.write_kind.new.cells.items 0 c.len.result (c.in_ok-write_kind.ensures ∙ ap (λ (cs : List TypeCell). cs ++ type_cells (kind_type c.args.kind.now)) c.new-code.ensures.items) refl c.find.result c.in-Some.place c.as_claim.result
    (first_from_Range _ _ _ c.find.result (λ k. stands c.write_kind.new.cells.items c.args.self.now.types.items k ≡ true) (λ k. stands c.write_kind.new.cells.items c.args.self.now.types.items k ≡ false)
    c.find.ensures.ran (λ x q k. search (rules, tests)) (λ x q k. search (rules, tests))) c.in-Some.is c.as_claim.ensures

pub returns-clause-place : goal.returns-clause-place
returns-clause-place c =
    added_place _ c.args.self.now.types.items c.write_kind.new.cells.items 0 c.len.result (c.in_ok-write_kind.ensures ∙ ap (λ (cs : List TypeCell). cs ++ type_cells (kind_type c.args.kind.now)) c.new-code.ensures.items) refl c.find.result c.new_place.result _ _
    (first_from_Range _ _ _ c.find.result (λ k. stands c.write_kind.new.cells.items c.args.self.now.types.items k ≡ true) (λ k. stands c.write_kind.new.cells.items c.args.self.now.types.items k ≡ false)
    c.find.ensures.ran (λ x q k. search (rules, tests)) (λ x q k. search (rules, tests))) c.in-None.is c.len.ensures (omega (arith, c.args.self.now.types.ok.0)) c.new_place.ensures.place c.new_place.ensures.types
