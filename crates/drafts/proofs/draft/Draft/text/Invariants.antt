use Rattle.std.proofs.Common.{◌≡◌, ◌++◌, take}
use Rattle.std.specs.List.{flat_map}
use Rattle.std.specs.Prelude.{string_bytes}
use Rattle.drafts.specs.Text.{first_line, type_line, term_line}
use Rattle.drafts.proofs.draft.Draft.text.Given as goal

abbrev pub invariant-loop-cell : goal.invariant-loop-cell
invariant-loop-cell l = string_bytes l.text ≡ first_line ++ flat_map type_line (take l.cell-index l.self.types.items)

abbrev pub invariant-loop-cell-2 : goal.invariant-loop-cell-2
invariant-loop-cell-2 l = string_bytes l.text ≡ (first_line ++ flat_map type_line l.self.types.items) ++ flat_map term_line (take l.cell-index l.self.terms.items)
