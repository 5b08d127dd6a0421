-- The text of lines, one line more, and of lines in a row.
use Rattle.std.proofs.Common.{◌≡◌, ℕ, ◌+◌, ◌<◌, List, [], ◌∷◌, ◌++◌, length, take, get_or, ◌∙◌, arith}
use Rattle.std.specs.List.{enumerate_from}
use Rattle.std.proofs.lemmas.Grind.{common_steps, flat_map-append}
use Rattle.std.proofs.lemmas.List.{length-map}
use Rattle.std.proofs.lemmas.List.FromFn.{length-enumerate_from}
use Rattle.registers.specs.declared.journal.Entry.{Entry}
use Rattle.listing.specs.Lines.{line_text, text_of}
use Rattle.listing.specs.Listing.{pulse_line, pulse_lines}
use Rattle.listing.proofs.Counted.{counted_more}

pub text_append : (xs ys : List (List (List ℕ))) → text_of (xs ++ ys) ≡ text_of xs ++ text_of ys
text_append xs ys = flat_map-append line_text xs ys

pub pulses_more : (xs : List Entry) (k : ℕ) (d : Entry) → k < length xs → text_of (pulse_lines (take (k + 1) xs)) ≡ text_of (pulse_lines (take k xs)) ++ line_text (pulse_line k (get_or xs k d))
pulses_more xs k d within =
    let c = counted_more xs k d within in
    let a = text_append (pulse_lines (take k xs)) (pulse_line k (get_or xs k d) ∷ []) in
    grind (arith, common_steps, c, a)

-- a line for each pulse
pub length-pulse_lines : (xs : List Entry) → length (pulse_lines xs) ≡ length xs
length-pulse_lines xs = length-map (enumerate_from 0 xs) (λ p. pulse_line p.0 p.1) ∙ length-enumerate_from 0 xs
