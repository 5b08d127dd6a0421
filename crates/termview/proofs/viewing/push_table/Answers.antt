use Rattle.std.proofs.Common.{◌≡◌, ◌<◌, ◌++◌, ℕ, List, length, string_bytes, arith}
use Rattle.notation.specs.Terms.{term_trees}
use Rattle.termview.specs.Layout.{TermsLaid}
use Rattle.termview.proofs.Joins.{on_push, table_shown}
use Rattle.termview.proofs.viewing.push_table.Goals as goal

pub returns : goal.returns
returns c =
    let some : 0 < length c.args.cells.terms.now = grind (arith, c.is_empty.ensures, c.if-is_empty.false) in
    let laid : (x : List ℕ) × (TermsLaid (term_trees c.args.cells.terms.now) x × (string_bytes c.push_terms.new.out ≡ string_bytes c.push_str.new.self ++ x)) = c.in_ok-push_terms.ensures in
    on_push c.push_str-4.result _ _ _ c.push_str-4.ensures.bytes
    (λ last. table_shown c.args.cells.types.now c.args.cells.terms.now c.args.marked _ _ _ _ _ _ _ laid.0 some c.in_ok-push_str.ensures.bytes laid.1.1 c.in_ok-push_str-2.ensures.bytes c.in_ok-push_str-3.ensures.bytes c.in_ok-push_rows.ensures last laid.1.0)
