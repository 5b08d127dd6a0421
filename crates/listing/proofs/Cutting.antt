-- Lines whose fields have no blank and no byte 10 are had back from their text.
use Rattle.std.proofs.Common.{◌≡◌, ℕ, List, [], ◌∷◌, ◌++◌, map, refl, sym, ap, ◌∙◌, append_assoc, arith}
use Rattle.std.specs.List.{AllByRecursion}
use Rattle.reader.specs.Pieces.{pieces}
use Rattle.reader.specs.Stored.{text_of as ended}
use Rattle.reader.proofs.Marks.{Lacks, glued, lone, cut_off, line_pieces}
use Rattle.listing.specs.Back.{cut}
use Rattle.listing.specs.Lines.{after_field, text_of}

abbrev pub PlainField : List ℕ → Type 0
PlainField f = Lacks 32 f × Lacks 10 f

-- a line has a field
abbrev pub PlainLine : List (List ℕ) → Type 0
PlainLine [] = ⊥
PlainLine (f ∷ fs) = AllByRecursion PlainField (f ∷ fs)

lacks_append : (mark : ℕ) (xs ys : List ℕ) → Lacks mark xs → Lacks mark ys → Lacks mark (xs ++ ys)
lacks_append mark [] ys h k = k
lacks_append mark (x ∷ xs) ys h k = (h.0, lacks_append mark xs ys h.1 k)

-- one line: its fields with blanks between, and byte 10
followed_is : (f : List ℕ) (fs : List (List ℕ)) → f ++ after_field fs ≡ glued 32 (f ∷ fs) ++ (10 ∷ [])
followed_is f [] = refl
followed_is f (g ∷ fs) = ap (λ bs. f ++ (32 ∷ bs)) (followed_is g fs) ∙ sym (append_assoc f (32 ∷ glued 32 (g ∷ fs)) (10 ∷ []))

line_lacks : (f : List ℕ) (fs : List (List ℕ)) → AllByRecursion PlainField (f ∷ fs) → Lacks 10 (glued 32 (f ∷ fs))
line_lacks f [] h = h.0.1
line_lacks f (g ∷ fs) h = lacks_append 10 f (32 ∷ glued 32 (g ∷ fs)) h.0.1 (λ e. omega arith, line_lacks g fs h.1)

fields_back : (f : List ℕ) (fs : List (List ℕ)) → AllByRecursion PlainField (f ∷ fs) → pieces 32 (glued 32 (f ∷ fs)) ≡ f ∷ fs
fields_back f [] h = lone 32 f h.0.0
fields_back f (g ∷ fs) h = cut_off 32 f (glued 32 (g ∷ fs)) h.0.0 ∙ ap (λ ps. f ∷ ps) (fields_back g fs h.1)

-- lines in a row
text_is : (ls : List (List (List ℕ))) → AllByRecursion PlainLine ls → text_of ls ≡ ended (map (glued 32) ls)
text_is [] h = refl
text_is ([] ∷ ls) h = absurd h.0
text_is ((f ∷ fs) ∷ ls) h = ap (λ bs. bs ++ text_of ls) (followed_is f fs) ∙ ap (λ bs. (glued 32 (f ∷ fs) ++ (10 ∷ [])) ++ bs) (text_is ls h.1)

lines_lack : (ls : List (List (List ℕ))) → AllByRecursion PlainLine ls → AllByRecursion (Lacks 10) (map (glued 32) ls)
lines_lack [] h = tt
lines_lack ([] ∷ ls) h = absurd h.0
lines_lack ((f ∷ fs) ∷ ls) h = (line_lacks f fs h.0, lines_lack ls h.1)

lines_back : (ls : List (List (List ℕ))) → AllByRecursion PlainLine ls → map (pieces 32) (map (glued 32) ls ++ ([] ∷ [])) ≡ ls ++ (([] ∷ []) ∷ [])
lines_back [] h = refl
lines_back ([] ∷ ls) h = absurd h.0
lines_back ((f ∷ fs) ∷ ls) h = ap (λ p. p ∷ map (pieces 32) (map (glued 32) ls ++ ([] ∷ []))) (fields_back f fs h.0) ∙ ap (λ ps. (f ∷ fs) ∷ ps) (lines_back ls h.1)

pub had_back : (ls : List (List (List ℕ))) → AllByRecursion PlainLine ls → cut (text_of ls) ≡ ls ++ (([] ∷ []) ∷ [])
had_back ls h = ap cut (text_is ls h) ∙ ap (map (pieces 32)) (line_pieces (map (glued 32) ls) (lines_lack ls h)) ∙ lines_back ls h
