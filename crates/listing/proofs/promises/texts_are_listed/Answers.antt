use Rattle.std.proofs.Common.{◌≡◌, [], ◌∷◌, take, codes, refl, ap, ◌∙◌}
use Rattle.std.specs.Char.{encode_utf8}
use Rattle.std.specs.Fmt.{digits}
use Rattle.registers.specs.Journal.{tape_changes}
use Rattle.registers.specs.Telling.{tape_tells}
use Rattle.controller.specs.Settled.{run_from, run_of}
use Rattle.listing.specs.Lines.{text_of}
use Rattle.listing.specs.Listed.{listing_of, start_of_run, lines_of_run, lines_of_text}
use Rattle.reader.specs.Reading.{reading_of}
use Rattle.listing.specs.Shots.{flips}
use Rattle.listing.specs.Written.{stored, printed}
use Rattle.listing.proofs.Budget.{spent_lines}
use Rattle.listing.proofs.promises.texts_are_listed.Goals as goal

flips_listed : listing_of (stored flips) ≡ printed (codes "S 1000 1/" ∷ [])
unfolding digits
flips_listed =
    let r = reading_of (stored flips) in
    let types = take 14 r.types in
    let terms = take 71 r.terms in
    let runs : lines_of_text (stored flips) ≡ lines_of_run (run_of tape_changes tape_tells 1000 (start_of_run types terms)) = refl in
    ap text_of (runs ∙ spent_lines types terms refl)

pub returns : goal.returns
unfolding digits encode_utf8 run_from
returns c = record {
  of_coin = refl;
  of_empty = refl;
  of_other_format = refl;
  of_type_after_term = refl;
  of_leading_zero = refl;
  of_too_many_types = refl;
  of_no_such_gate = refl;
  of_gate_on_a_bit = refl;
  of_ninth_qubit = refl;
  of_flips = flips_listed;
}
