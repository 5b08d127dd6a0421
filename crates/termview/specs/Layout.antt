-- A text on lines of a page's width.
use Rattle.std.specs.Prelude.{◌≡◌, ℕ, ◌+◌, ◌≤◌, ◌⊎◌, List, [], ◌∷◌, ◌++◌, codes, length, replicate}
use Rattle.std.specs.List.{flat_map}
use Rattle.notation.specs.Terms.{TermTree, term_text}
use Rattle.notation.specs.declared.brackets.Around.TheVariants.{Open}
use Rattle.termview.specs.Bytes.{shown_byte}
use Rattle.termview.specs.declared.layout.TheConstants.{WIDTH}

-- a line, and byte 10 after it
abbrev pub laid_line : ℕ → List ℕ → List ℕ
laid_line indent line = replicate indent 32 ++ (flat_map shown_byte line ++ codes "\n")

-- what is left where a line ends: all, or what stands after a blank
abbrev pub Behind : List ℕ → List ℕ → Type 0
Behind text rest = (text ≡ rest) ⊎ (text ≡ 32 ∷ rest)

-- The text stands on lines, each of at most 100 bytes with what it stands in by. Nothing of it is
-- lost but a blank where a line ends.
pub data LaidAs : List ℕ → List ℕ → Type 0 where
  last : (indent : ℕ) (line : List ℕ) → indent + length line ≤ WIDTH
      → LaidAs line (laid_line indent line)
  more : (indent : ℕ) (line text rest laid : List ℕ) → indent + length line ≤ WIDTH
      → Behind text rest → LaidAs rest laid
      → LaidAs (line ++ text) (laid_line indent line ++ laid)

-- Terms stand on lines, one after the other.
abbrev pub TermsLaid : List TermTree → List ℕ → Type 0
TermsLaid [] laid = laid ≡ []
TermsLaid (t ∷ ts) laid =
    (first : List ℕ) × ((others : List ℕ)
    × ((laid ≡ first ++ others) × (LaidAs (term_text 0 Open t) first × TermsLaid ts others)))
