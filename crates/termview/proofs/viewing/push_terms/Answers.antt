use Rattle.std.proofs.Common.{◌≡◌, ◌<◌, ◌++◌, ℕ, List, length, string_bytes, ap, sym, ◌∙◌, arith}
use Rattle.calculus.specs.Reading.{top}
use Rattle.notation.specs.Terms.{no_term, term_text, term_trees}
use Rattle.notation.specs.declared.brackets.Around.TheVariants.{Open}
use Rattle.termview.specs.Layout.{LaidAs}
use Rattle.termview.proofs.Laying.{all_terms_laid, term_laid}
use Rattle.termview.proofs.viewing.push_terms.Goals as goal

pub loop-rest-preserved : goal.loop-rest-preserved
loop-rest-preserved c =
    let some : 0 < length c.loop-rest.rest.now = grind (arith, c.is_empty.ensures, c.loop-rest-test.true) in
    let laid : (x : List ℕ) × ((string_bytes c.push_laid.new.out ≡ string_bytes c.loop-rest.out ++ x) × LaidAs c.as_bytes.result.now x) = c.in_ok-push_laid.ensures in
    let term = c.as_bytes.ensures.value ∙ c.in_ok-rest.ensures.text ∙ ap (λ xs. xs ++ term_text 0 Open (top no_term (term_trees c.loop-rest.rest.now))) c.new-term.ensures.bytes in (
      omega (arith, c.in_ok-rest.ensures.shorter, c.loop-rest.invariant.0),
      term_laid c.args.cells.now c.loop-rest.rest.now c.in_ok-rest.rest.now _ _ _ laid.0 c.as_bytes.result.now some c.loop-rest.invariant.1 (sym c.in_ok-rest.ensures.rest) term laid.1.0 laid.1.1,
    )

pub returns : goal.returns
returns c = all_terms_laid c.args.cells.now c.loop-rest.rest.now _ _ (grind (arith, c.is_empty.ensures, c.loop-rest-test.false)) c.loop-rest.invariant.1
