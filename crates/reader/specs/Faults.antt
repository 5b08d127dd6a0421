-- The numbers of the reader's faults.
use Rattle.std.specs.Prelude.{ℕ}
use Rattle.reader.specs.declared.faults.ReadReason.{ReadReason}
use Rattle.reader.specs.declared.faults.ReadReason.TheVariants.{Header, Line, Number, Full, End}

abbrev pub number_of : ReadReason → ℕ
number_of Header = 11
number_of Line = 12
number_of Number = 13
number_of Full = 14
number_of End = 15
