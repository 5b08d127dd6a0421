-- What appending lines makes of a text that has room for them.
use Rattle.std.specs.Prelude.{◌≡◌, ℕ, ◌+◌, ◌*◌, ◌≤◌, List, ◌++◌, length}
use Rattle.arrayvec.specs.ArrayString.{ArrayString, array_string_len}
use Rattle.listing.specs.Lines.{text_of}
use Rattle.listing.specs.declared.lines.TheConstants.{LINE_BYTES, MOST_LISTING_BYTES}

-- so many lines more fit, as long as a line may be
abbrev pub RoomFor : ℕ → ArrayString → Type 0
RoomFor lines text = array_string_len text + LINE_BYTES * lines ≤ MOST_LISTING_BYTES

-- the lines stand behind what there was, and none is longer than a line may be
pub record Appends (old new : ArrayString) (lines : List (List (List ℕ))) : Type 0 where
  pub text : new.bytes ≡ old.bytes ++ text_of lines
  pub short : array_string_len new ≤ array_string_len old + LINE_BYTES * length lines
