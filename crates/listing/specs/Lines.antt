-- A listing is lines of fields: a blank parts the fields of a line, and byte 10 ends it.
use Rattle.std.specs.Prelude.{ℕ, List, [], ◌∷◌, ◌++◌}
use Rattle.std.specs.List.{flat_map}

-- what stands after a line's first field
abbrev pub after_field : List (List ℕ) → List ℕ
after_field [] = 10 ∷ []
after_field (f ∷ fs) = 32 ∷ (f ++ after_field fs)

abbrev pub line_text : List (List ℕ) → List ℕ
line_text [] = 10 ∷ []
line_text (f ∷ fs) = f ++ after_field fs

abbrev pub text_of : List (List (List ℕ)) → List ℕ
text_of ls = flat_map line_text ls
