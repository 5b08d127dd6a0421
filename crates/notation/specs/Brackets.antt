-- Brackets, by what stands around a part.
use Rattle.std.specs.Prelude.{ℕ, Bool, true, false, List, [], ◌++◌, codes}
use Rattle.notation.specs.declared.brackets.Around.{Around}
use Rattle.notation.specs.declared.brackets.Around.TheVariants.{Open, Head, Tight}

-- what reaches as far right as it can needs brackets
abbrev pub wide : Around → Bool
wide Open = false
wide Head = true
wide Tight = true

-- an application and a pair of types need brackets
abbrev pub tight : Around → Bool
tight Open = false
tight Head = false
tight Tight = true

abbrev pub opening : Bool → List ℕ
opening true = codes "("
opening false = []

abbrev pub closing : Bool → List ℕ
closing true = codes ")"
closing false = []

-- the text, in brackets if they are needed
abbrev pub bracketed : Bool → List ℕ → List ℕ
bracketed needed text = opening needed ++ (text ++ closing needed)
