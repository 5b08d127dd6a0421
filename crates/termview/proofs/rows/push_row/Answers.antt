use Rattle.std.proofs.Common.{◌++◌, string_bytes, ap, ◌∙◌}
use Rattle.std.proofs.lemmas.List.{take_rest}
use Rattle.termview.specs.Bytes.{cut}
use Rattle.termview.specs.Rows.{place_text, term_shown}
use Rattle.termview.proofs.Joins.{on_push, six}
use Rattle.termview.proofs.rows.push_row.Goals as goal

pub returns : goal.returns
returns c =
    let at = c.args.at in
    let terms = c.args.cells.terms.now in
    let place = c.in_ok-push_place.ensures ∙ ap (λ line. string_bytes c.args.out.now ++ place_text at line c.args.is_marked) c.line.ensures in
    let term = c.in_ok-push_term_column.ensures ∙ ap (λ cells. string_bytes c.push_letter_column.new.out ++ cut 46 (term_shown cells c.args.binders)) (take_rest terms at) in
    on_push c.push_str.result _ _ _ c.push_str.ensures.bytes
    (λ last. six _ _ _ _ _ _ _ _ _ _ _ _ _ place c.in_ok-push_letter_column.ensures term c.in_ok-push_blanks.ensures c.in_ok-push_claim.ensures last)
