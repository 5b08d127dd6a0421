-- The front of a table.
use Rattle.std.specs.Prelude.{List, ◌++◌, length, drop}

-- a table that begins with some cells, and whose rest is as it was
abbrev pub begun_with : {A : Type 0} → List A → List A → List A
begun_with xs table = xs ++ drop (length xs) table
