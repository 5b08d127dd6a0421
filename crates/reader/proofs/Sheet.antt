-- A text is refused at the first line of the sheet, for the first test there.
use Rattle.std.proofs.Common.{◌≡◌, ℕ, zero, suc, ◌+◌, ◌-◌, ◌<◌, ◌≤◌, Bool, true, false, cond, eqb, ltb, ◌⊎◌, List, [], ◌∷◌, length, take, drop, Some, None, Option, Ok, Err, Result, inl, inr, sym, refl, ap, ap₂, ◌∙◌, subst, arith, ◌≢◌}
use Rattle.std.specs.List.{count_by, slice_get}
use Rattle.std.proofs.lemmas.Bool.{cases_lt, cond_both, cond-true, and_parts, and_cases, both_ways, eqb-true, eqb-false, ltb-true, ltb-false}
use Rattle.std.proofs.lemmas.List.{length-set}
use Rattle.std.proofs.lemmas.List.Sums.{sum_by-cons}
use Rattle.std.proofs.lemmas.Slice.Eq.{bytes_eq-Decides}
use Rattle.calculus.specs.declared.cells.TermCell.{TermCell}
use Rattle.calculus.specs.declared.cells.TypeCell.{TypeCell}
use Rattle.reader.specs.Cells.{is_kind, is_op, letter_in, kind_with, kind_cell, both, two_numbers, op_at, op_with, op_cell, has_room, with_cell}
use Rattle.reader.specs.Lines.{Said, header, kind, term, counts, other, said, header_line, ended, section_after}
use Rattle.reader.specs.Numbers.{number_in}
use Rattle.reader.specs.Pieces.{pieces}
use Rattle.reader.specs.Reading.{Place, Left, Outcome, start, to_kinds, with_kind, to_ops, with_op, allowed_line, line_in, line_read, fault, agreeing, closed, by_answer, reads, reading}
use Rattle.reader.specs.Sheet.{Test, line_end, whole_header, form, numbers, room, agreement, reason_of, order_of, says_kind, says_term, says_counts, Ended, Rest, Earlier, before, Row, not_ended, no_header, line_after_the_end, bytes_after_the_end, no_form, kind_after_term, no_kind, no_op, no_number, no_count, no_room_for_type, no_room_for_term, other_counts, Before, IsFirst, Answers, FirstLineAnswers}
use Rattle.reader.specs.declared.faults.ReadFault.{ReadFault}
use Rattle.reader.specs.declared.faults.ReadReason.{ReadReason}
use Rattle.reader.specs.declared.faults.ReadReason.TheVariants as reason
use Rattle.reader.specs.declared.sections.Section.{Section}
use Rattle.reader.specs.declared.sections.Section.TheVariants as section
use Rattle.reader.proofs.Came.{place}
use Rattle.reader.proofs.Cuts.{some_piece}
use Rattle.reader.proofs.Spellings.{Spelled, spelled}

count_more : {X : Type 0} (f : X → Bool) (xs : List X) (k : ℕ) (x : X) → slice_get xs k ≡ Some x → count_by f (take (suc k) xs) ≡ count_by f (take k xs) + cond (f x) 1 0
count_more f [] k x e = cc
count_more {X = X} f (y ∷ ys) zero x e = let z : y ≡ x = cc in let w : cond {A = ℕ} (f y) 1 0 ≡ cond {A = ℕ} (f x) 1 0 = ap (λ (y : X). cond {A = ℕ} (f y) 1 0) z in omega arith
count_more {X = X} f (y ∷ ys) (suc k) x e =
    let g : X → ℕ = λ x. cond (f x) 1 0 in
    omega (arith, count_more f ys k x e, sum_by-cons g y (take (suc k) ys), sum_by-cons g y (take k ys))

header_said : (l : List ℕ) → l ≡ header_line → said l ≡ header
header_said l e = cond-true _ _ _ ((bytes_eq-Decides l header_line).1 e)

said_header : (l : List ℕ) → said l ≡ header → l ≡ header_line
said_header l e = subst (λ s. Spelled s l) e (spelled l)

some_same : {X : Type 0} {x y : X} {o : Option X} → o ≡ Some x → o ≡ Some y → x ≡ y
some_same e f = cc

some_none : {X : Type 0} {x : X} {o : Option X} → o ≡ Some x → o ≡ None → ⊥
some_none e f = cc

first_same : {x y : ℕ} → x ∷ [] ≡ y ∷ [] → x ≡ y
first_same e = cc

one_letter : (f : List ℕ) (c : ℕ) → letter_in f ≡ Some c → f ≡ c ∷ []
one_letter [] c e = cc
one_letter (b ∷ []) c e = let z : b ≡ c = some_same refl e in ap (λ b. b ∷ []) z
one_letter (a ∷ b ∷ bs) c e = cc

module _ (ls : List (List ℕ)) where
  before_more : (test : Said → Bool) (k : ℕ) (l : List ℕ) → slice_get ls k ≡ Some l → before ls test (k + 1) ≡ before ls test k + cond (test (said l)) 1 0
  before_more test k l e = let z : k + 1 ≡ suc k = omega arith in ap (λ i. before ls test i) z ∙ count_more (λ l. test (said l)) ls k l e

  earlier_less : (test : Said → Bool) (k : ℕ) (l : List ℕ) → slice_get ls k ≡ Some l → test (said l) ≡ false → Earlier ls test (k + 1) → Earlier ls test k
  earlier_less test k l e f h = elim (cases_lt h.0 k) [
    | inl i ↦ (h.0, h.1, i, h.3, h.4)
    | inr i ↦
        let z : h.0 ≡ k = (let b = h.2 in omega arith) in
        let same : h.1 ≡ l = some_same (sym (ap (slice_get ls) z) ∙ h.3) e in
        absurd (both_ways (test (said l)) f (sym (ap (λ l. test (said l)) same) ∙ h.4))
  ]

  -- what the tests of a line pass
  abbrev FormFine : ℕ → Said → Type 0
  FormFine k header = k ≡ 0
  FormFine k (kind f) = (Earlier ls says_term k → ⊥) × ((c : ℕ) × (f ≡ c ∷ []) × (is_kind c ≡ true))
  FormFine k (term f g h) = (c : ℕ) × (f ≡ c ∷ []) × (is_op c ≡ true)
  FormFine k (counts f g) = Unit {0}
  FormFine k other = k ≡ 0

  abbrev NumbersFine : Said → Type 0
  NumbersFine header = Unit {0}
  NumbersFine (kind f) = Unit {0}
  NumbersFine (term f g h) = (m : ℕ) × (n : ℕ) × (number_in g ≡ Some m) × (number_in h ≡ Some n)
  NumbersFine (counts f g) = (m : ℕ) × (n : ℕ) × (number_in f ≡ Some m) × (number_in g ≡ Some n)
  NumbersFine other = Unit {0}

  abbrev RoomFine : ℕ → ℕ → ℕ → Said → Type 0
  RoomFine types terms k header = Unit {0}
  RoomFine types terms k (kind f) = (before ls says_kind k < 256) × (before ls says_kind k < types)
  RoomFine types terms k (term f g h) = (before ls says_term k < 512) × (before ls says_term k < terms)
  RoomFine types terms k (counts f g) = Unit {0}
  RoomFine types terms k other = Unit {0}

  said_same : (k : ℕ) (l m : List ℕ) (s : Said) → slice_get ls k ≡ Some l → slice_get ls k ≡ Some m → said m ≡ s → said l ≡ s
  said_same k l m s e f p = ap said (some_same e f) ∙ p

  -- Of an ended line no test below the n-th refuses it, where it passes those that can.
  none_on : {types terms : ℕ} {t : Test} {k : ℕ} → Row ls types terms t k → (l : List ℕ) → Ended ls k l → (n : ℕ) → n ≤ 5 → (1 < n → k ≡ 0 → l ≡ header_line)
      → (2 < n → (Earlier ls says_counts k → ⊥) × FormFine k (said l)) → (3 < n → NumbersFine (said l)) → (4 < n → RoomFine types terms k (said l)) → order_of t < n → ⊥
  none_on (not_ended m r e) l d n small a b c i o = let x = r.1 in let y = d.1 in omega arith
  none_on (no_header m r e) l d n small a b c i o = e (some_same r.0 d.0 ∙ a o refl)
  none_on (line_after_the_end m r e) l d n small a b c i o = (b o).0 e
  none_on (bytes_after_the_end m r e f) l d n small a b c i o = let x = r.1 in let y = d.1 in omega arith
  none_on {k = k} (no_form m r z u) l d n small a b c i o = elim u [
    | inl e ↦ (let x : k ≡ 0 = subst (FormFine k) (said_same k l m header d.0 r.0 e) (b o).1 in omega arith)
    | inr e ↦ (let x : k ≡ 0 = subst (FormFine k) (said_same k l m other d.0 r.0 e) (b o).1 in omega arith)
  ]
  none_on {k = k} (kind_after_term m f r s e) l d n small a b c i o = (subst (FormFine k) (said_same k l m (kind f) d.0 r.0 s) (b o).1).0 e
  none_on {k = k} (no_kind m f r s u) l d n small a b c i o = let x = (subst (FormFine k) (said_same k l m (kind f) d.0 r.0 s) (b o).1).1 in u x.0 x.1 x.2
  none_on {k = k} (no_op m f g h r s u) l d n small a b c i o = let x = subst (FormFine k) (said_same k l m (term f g h) d.0 r.0 s) (b o).1 in u x.0 x.1 x.2
  none_on {k = k} (no_number m f g h r s u) l d n small a b c i o =
      let x = subst NumbersFine (said_same k l m (term f g h) d.0 r.0 s) (c o) in elim u [ inl e ↦ some_none x.2 e | inr e ↦ some_none x.3 e ]
  none_on {k = k} (no_count m f g r s u) l d n small a b c i o =
      let x = subst NumbersFine (said_same k l m (counts f g) d.0 r.0 s) (c o) in elim u [ inl e ↦ some_none x.2 e | inr e ↦ some_none x.3 e ]
  none_on {types = types} {terms = terms} {k = k} (no_room_for_type m f r s u) l d n small a b c i o =
      let x = subst (RoomFine types terms k) (said_same k l m (kind f) d.0 r.0 s) (i o) in elim u [ inl e ↦ (let y = x.0 in omega arith) | inr e ↦ (let y = x.1 in omega arith) ]
  none_on {types = types} {terms = terms} {k = k} (no_room_for_term m f g h r s u) l d n small a b c i o =
      let x = subst (RoomFine types terms k) (said_same k l m (term f g h) d.0 r.0 s) (i o) in elim u [ inl e ↦ (let y = x.0 in omega arith) | inr e ↦ (let y = x.1 in omega arith) ]
  none_on (other_counts m f g i₁ j₁ r s p q z u) l d n small a b c i o = omega arith

  -- the counts are tested where the text ends with the end line
  last_row : {types terms : ℕ} {t : Test} {k : ℕ} → Row ls types terms t k → 5 ≤ order_of t
      → Rest ls (k + 1) [] × ((l f g : List ℕ) (m n : ℕ) → slice_get ls k ≡ Some l → said l ≡ counts f g → number_in f ≡ Some m → number_in g ≡ Some n → (m ≢ before ls says_kind k) ⊎ (n ≢ before ls says_term k))
      × Earlier ls says_counts (k + 1)
  last_row (not_ended m r e) o = absurd (omega arith)
  last_row (no_header m r e) o = absurd (omega arith)
  last_row (line_after_the_end m r e) o = absurd (omega arith)
  last_row (bytes_after_the_end m r e f) o = absurd (omega arith)
  last_row (no_form m r z u) o = absurd (omega arith)
  last_row (kind_after_term m f r s e) o = absurd (omega arith)
  last_row (no_kind m f r s u) o = absurd (omega arith)
  last_row (no_op m f g h r s u) o = absurd (omega arith)
  last_row (no_number m f g h r s u) o = absurd (omega arith)
  last_row (no_count m f g r s u) o = absurd (omega arith)
  last_row (no_room_for_type m f r s u) o = absurd (omega arith)
  last_row (no_room_for_term m f g h r s u) o = absurd (omega arith)
  last_row {k = k} (other_counts l f g m n r s p q z u) o = (
    z,
    λ l' f' g' m' n' e' s' p' q'.
        let t : counts f g ≡ counts f' g' = sym s ∙ ap said (some_same r.0 e') ∙ s' in
        let x : f ≡ f' = cc in
        let y : g ≡ g' = cc in
        let a : m ≡ m' = some_same p (ap number_in x ∙ p') in
        let b : n ≡ n' = some_same q (ap number_in y ∙ q') in
        elim u [ inl h ↦ inl (λ i. h (a ∙ i)) | inr h ↦ inr (λ i. h (b ∙ i)) ],
    (k, l, omega arith, r.0, ap says_counts s),
  )

  -- a row is of a line, or of what stands after the last
  row_within : {types terms : ℕ} {t : Test} {k : ℕ} → Row ls types terms t k → k < length ls
  row_within (not_ended m r e) = let x = r.1 in omega arith
  row_within (no_header m r e) = let x = r.1 in omega arith
  row_within (line_after_the_end m r e) = let x = r.1 in omega arith
  row_within (bytes_after_the_end m r e f) = let x = r.1 in omega arith
  row_within (no_form m r z u) = let x = r.1 in omega arith
  row_within (kind_after_term m f r s e) = let x = r.1 in omega arith
  row_within (no_kind m f r s u) = let x = r.1 in omega arith
  row_within (no_op m f g h r s u) = let x = r.1 in omega arith
  row_within (no_number m f g h r s u) = let x = r.1 in omega arith
  row_within (no_count m f g r s u) = let x = r.1 in omega arith
  row_within (no_room_for_type m f r s u) = let x = r.1 in omega arith
  row_within (no_room_for_term m f g h r s u) = let x = r.1 in omega arith
  row_within (other_counts l f g m n r s p q z u) = let x = r.1 in omega arith

  -- what refuses the bytes after the last line
  rest_row : {types terms : ℕ} {t : Test} {k : ℕ} → Row ls types terms t k → k + 1 ≡ length ls → ((t ≡ line_end) × (Earlier ls says_counts k → ⊥)) ⊎ ((t ≡ form) × ((l : List ℕ) × (l ≢ []) × (slice_get ls k ≡ Some l)))
  rest_row (not_ended m r e) z = inl (refl, e)
  rest_row (no_header m r e) z = absurd (let x = r.1 in omega arith)
  rest_row (line_after_the_end m r e) z = absurd (let x = r.1 in omega arith)
  rest_row (bytes_after_the_end m r e f) z = inr (refl, (m, e, r.0))
  rest_row (no_form m r y u) z = absurd (let x = r.1 in omega arith)
  rest_row (kind_after_term m f r s e) z = absurd (let x = r.1 in omega arith)
  rest_row (no_kind m f r s u) z = absurd (let x = r.1 in omega arith)
  rest_row (no_op m f g h r s u) z = absurd (let x = r.1 in omega arith)
  rest_row (no_number m f g h r s u) z = absurd (let x = r.1 in omega arith)
  rest_row (no_count m f g r s u) z = absurd (let x = r.1 in omega arith)
  rest_row (no_room_for_type m f r s u) z = absurd (let x = r.1 in omega arith)
  rest_row (no_room_for_term m f g h r s u) z = absurd (let x = r.1 in omega arith)
  rest_row (other_counts l f g m n r s p q y u) z = absurd (let x = r.1 in omega arith)

-- Where the reading of a text stands before the line k.
module _ (ls : List (List ℕ)) (types terms : ℕ) where
  abbrev Line : Test → ℕ → Type 0
  Line = Row ls types terms

  abbrev InSection : ℕ → Section → Type 0
  InSection k section.Header = k ≡ 0
  InSection k section.Types = (0 < k) × (Earlier ls says_term k → ⊥) × (Earlier ls says_counts k → ⊥)
  InSection k section.Terms = (0 < k) × Earlier ls says_term k × (Earlier ls says_counts k → ⊥)
  InSection k (section.End m n) =
      (j : ℕ) × (l : List ℕ) × (f : List ℕ) × (g : List ℕ) × (k ≡ j + 1) × (slice_get ls j ≡ Some l) × (said l ≡ counts f g) × (number_in f ≡ Some m) × (number_in g ≡ Some n)

  -- no line before is refused, but for its counts
  abbrev Clear : ℕ → Type 0
  Clear k = (t : Test) (j : ℕ) → Line t j → j < k → order_of t < 5 → ⊥

  record Stands (k : ℕ) (p : Place) : Type 0 where
    pub kinds : p.kinds ≡ before ls says_kind k
    pub ops : p.ops ≡ before ls says_term k
    pub within : InSection k p.section
    pub clear : Clear k

  -- the line k is refused for this reason, and none before
  abbrev FirstAt : ReadReason → ℕ → Type 0
  FirstAt e k = (t : Test) × (reason_of t ≡ e) × Line t k × ((u : Test) (j : ℕ) → Line u j → Before u j t k → ⊥)

  abbrev StepTo : ℕ → Result Place ReadReason → Type 0
  StepTo k (Err e) = FirstAt e k
  StepTo k (Ok p) = Stands (k + 1) p

  -- An ended line.
  module _ (k : ℕ) (l : List ℕ) (d : Ended ls k l) where
    refused_by : Clear k → (t : Test) → order_of t ≤ 4 → Line t k → (1 < order_of t → k ≡ 0 → l ≡ header_line) → (2 < order_of t → (Earlier ls says_counts k → ⊥) × FormFine ls k (said l))
        → (3 < order_of t → NumbersFine ls (said l)) → FirstAt (reason_of t) k
    refused_by clear t low row a b c = (t, refl, row, none)
      where
        none : (u : Test) (j : ℕ) → Line u j → Before u j t k → ⊥
        none u j r (inl i) = elim (cases_lt (order_of u) 5) [
          | inl o ↦ clear u j r i o
          | inr o ↦ (let x = (last_row ls r o).0.1 in let y = d.1 in omega arith)
        ]
        none u j r (inr i) = none_on ls (subst (Line u) i.0 r) l d (order_of t) (omega arith) a b c (λ h. absurd (omega arith)) i.1

    passes : Clear k → (k ≡ 0 → l ≡ header_line) → (Earlier ls says_counts k → ⊥) → FormFine ls k (said l) → NumbersFine ls (said l) → RoomFine ls types terms k (said l) → Clear (k + 1)
    passes clear a b c e f u j r i o = elim (cases_lt j k) [
      | inl h ↦ clear u j r h o
      | inr h ↦ none_on ls (subst (Line u) (let z : j ≡ k = omega arith in z) r) l d 5 (omega arith) (λ _. a) (λ _. (b, c)) (λ _. e) (λ _. f) o
    ]

    -- by its form
    module _ (s : Said) (e : said l ≡ s) where
      abbrev Fine : Type 0
      Fine = (k ≡ 0 → s ≡ header) × (Earlier ls says_counts k → ⊥) × FormFine ls k s × NumbersFine ls s × RoomFine ls types terms k s

      -- the reading goes on, with the counts of the lines
      goes_on : (p q : Place) → Stands k p → Fine → q.kinds ≡ p.kinds + cond (says_kind s) 1 0 → q.ops ≡ p.ops + cond (says_term s) 1 0 → InSection (k + 1) q.section → Stands (k + 1) q
      goes_on p q h f a b w = record {
        kinds = a ∙ ap₂ ◌+◌ h.kinds (ap (λ s. cond (says_kind s) 1 0) (sym e)) ∙ sym (before_more ls says_kind k l d.0);
        ops = b ∙ ap₂ ◌+◌ h.ops (ap (λ s. cond (says_term s) 1 0) (sym e)) ∙ sym (before_more ls says_term k l d.0);
        within = w;
        clear = passes h.clear (λ z. said_header l (e ∙ f.0 z)) f.1 (subst (FormFine ls k) (sym e) f.2) (subst (NumbersFine ls) (sym e) f.3) (subst (RoomFine ls types terms k) (sym e) f.4);
      }

      not_before : (test : Said → Bool) → test s ≡ false → (Earlier ls test k → ⊥) → Earlier ls test (k + 1) → ⊥
      not_before test f none h = none (earlier_less ls test k l d.0 (ap test e ∙ f) h)

      here : (test : Said → Bool) → test s ≡ true → Earlier ls test (k + 1)
      here test f = (k, l, omega arith, d.0, ap test e ∙ f)

      still : (test : Said → Bool) → Earlier ls test k → Earlier ls test (k + 1)
      still test h = (h.0, h.1, (let b = h.2 in omega arith), h.3, h.4)

      -- a refusal by the form, by the numbers, or for want of room
      by_form : (p : Place) → Stands k p → 0 < k → Line form k → FirstAt reason.Line k
      by_form p h z r = refused_by h.clear form (omega arith) r (λ _ y. absurd (omega arith)) (λ y. absurd (omega arith)) (λ y. absurd (omega arith))

      by_numbers : (p : Place) → Stands k p → 0 < k → (Earlier ls says_counts k → ⊥) → FormFine ls k s → Line numbers k → FirstAt reason.Number k
      by_numbers p h z c b r = refused_by h.clear numbers (omega arith) r (λ _ y. absurd (omega arith)) (λ _. (c, subst (FormFine ls k) (sym e) b)) (λ y. absurd (omega arith))

      by_room : (p : Place) → Stands k p → 0 < k → (Earlier ls says_counts k → ⊥) → FormFine ls k s → NumbersFine ls s → Line room k → FirstAt reason.Full k
      by_room p h z c b n r = refused_by h.clear room (omega arith) r (λ _ y. absurd (omega arith)) (λ _. (c, subst (FormFine ls k) (sym e) b)) (λ _. subst (NumbersFine ls) (sym e) n)

    module _ (ts : List TypeCell) (ms : List TermCell) (tl : length ts ≡ types) (ml : length ms ≡ terms) where
      -- a line of a type, in the section of types
      kind_step : (n o : ℕ) (f : List ℕ) → said l ≡ kind f → Stands k (place section.Types n o) → StepTo k (with_kind (place section.Types n o) (kind_cell f) ts ms).answer
      kind_step n o f e h = by_letter (letter_in f) refl
        where
          z : 0 < k
          z = h.within.0

          to_room : (c : ℕ) → f ≡ c ∷ [] → is_kind c ≡ true → (b : Bool) → has_room 256 ts n ≡ b → StepTo k (to_kinds (place section.Types n o) (cond b (Ok (n + 1)) (Err reason.Full)))
          to_room c q i true r =
              let x = and_parts (ltb n 256) (ltb n (length ts)) r in
              goes_on (kind f) e (place section.Types n o) (place section.Types (n + 1) o) h
              ((λ y. absurd (omega arith)), h.within.2, (h.within.1, (c, q, i)), tt, (let a = ltb-true n 256 x.0 in let b = ltb-true n (length ts) x.1 in let y = h.kinds in (omega arith, omega arith)))
              refl (omega arith)
              (omega arith, not_before (kind f) e says_term refl h.within.1, not_before (kind f) e says_counts refl h.within.2)
          to_room c q i false r = by_room (kind f) e (place section.Types n o) h z h.within.2 (h.within.1, (c, q, i)) tt
              (no_room_for_type l f d e (elim (and_cases (ltb n 256) (ltb n (length ts)) r) [ inl a ↦ inl (let b = ltb-false n 256 a in let y = h.kinds in omega arith) | inr a ↦ inr (let b = ltb-false n (length ts) a in let y = h.kinds in omega arith) ]))

          to_kind : (c : ℕ) → f ≡ c ∷ [] → (b : Bool) → is_kind c ≡ b → StepTo k (with_kind (place section.Types n o) (cond b (Ok (record { kind = c })) (Err reason.Line)) ts ms).answer
          to_kind c q true i = to_room c q i (has_room 256 ts n) refl
          to_kind c q false i = by_form (kind f) e (place section.Types n o) h z (no_kind l f d e (λ x w j. let y : c ≡ x = first_same (sym q ∙ w) in both_ways (is_kind c) i (ap is_kind y ∙ j)))

          by_letter : (m : Option ℕ) → letter_in f ≡ m → StepTo k (with_kind (place section.Types n o) (kind_with m) ts ms).answer
          by_letter None q = by_form (kind f) e (place section.Types n o) h z (no_kind l f d e (λ c w i. some_none (ap letter_in w) q))
          by_letter (Some c) q = to_kind c (one_letter f c q) (is_kind c) refl

      -- a line of a term, in the section of types or of terms
      op_step : (sec : Section) (n o : ℕ) (f g h : List ℕ) → said l ≡ term f g h → Stands k (place sec n o) → 0 < k → (Earlier ls says_counts k → ⊥)
          → StepTo k (with_op (place section.Terms n o) (op_cell f g h) ts ms).answer
      op_step sec n o f g h e st z c = by_letter (letter_in f) refl
        where
          to_room : (x : ℕ) → f ≡ x ∷ [] → is_op x ≡ true → (a b : ℕ) → number_in g ≡ Some a → number_in h ≡ Some b
              → (v : Bool) → has_room 512 ms o ≡ v → StepTo k (to_ops (place section.Terms n o) (cond v (Ok (o + 1)) (Err reason.Full)))
          to_room x q i a b p r true w =
              let y = and_parts (ltb o 512) (ltb o (length ms)) w in
              goes_on (term f g h) e (place sec n o) (place section.Terms n (o + 1)) st
              ((λ y. absurd (omega arith)), c, (x, q, i), (a, b, p, r), (let s = ltb-true o 512 y.0 in let t = ltb-true o (length ms) y.1 in let u = st.ops in (omega arith, omega arith)))
              (omega arith) refl
              (omega arith, here (term f g h) e says_term refl, not_before (term f g h) e says_counts refl c)
          to_room x q i a b p r false w = by_room (term f g h) e (place sec n o) st z c (x, q, i) (a, b, p, r)
              (no_room_for_term l f g h d e (elim (and_cases (ltb o 512) (ltb o (length ms)) w) [ inl s ↦ inl (let t = ltb-false o 512 s in let u = st.ops in omega arith) | inr s ↦ inr (let t = ltb-false o (length ms) s in let u = st.ops in omega arith) ]))

          to_numbers : (x : ℕ) → f ≡ x ∷ [] → is_op x ≡ true → (a b : Option ℕ) → number_in g ≡ a → number_in h ≡ b
              → StepTo k (with_op (place section.Terms n o) (op_at x (both a b)) ts ms).answer
          to_numbers x q i None b p r = by_numbers (term f g h) e (place sec n o) st z c (x, q, i) (no_number l f g h d e (inl p))
          to_numbers x q i (Some a) None p r = by_numbers (term f g h) e (place sec n o) st z c (x, q, i) (no_number l f g h d e (inr r))
          to_numbers x q i (Some a) (Some b) p r = to_room x q i a b p r (has_room 512 ms o) refl

          to_op : (x : ℕ) → f ≡ x ∷ [] → (b : Bool) → is_op x ≡ b → StepTo k (with_op (place section.Terms n o) (cond b (op_at x (two_numbers g h)) (Err reason.Line)) ts ms).answer
          to_op x q true i = to_numbers x q i (number_in g) (number_in h) refl refl
          to_op x q false i = by_form (term f g h) e (place sec n o) st z (no_op l f g h d e (λ y w j. let u : x ≡ y = first_same (sym q ∙ w) in both_ways (is_op x) i (ap is_op u ∙ j)))

          by_letter : (m : Option ℕ) → letter_in f ≡ m → StepTo k (with_op (place section.Terms n o) (op_with m (two_numbers g h)) ts ms).answer
          by_letter None q = by_form (term f g h) e (place sec n o) st z (no_op l f g h d e (λ x w i. some_none (ap letter_in w) q))
          by_letter (Some x) q = to_op x (one_letter f x q) (is_op x) refl

      -- an end line
      counts_step : (sec : Section) (n o : ℕ) (f g : List ℕ) → said l ≡ counts f g → Stands k (place sec n o) → 0 < k → (Earlier ls says_counts k → ⊥)
          → StepTo k (line_in (place sec n o) (ended (two_numbers f g)) (counts f g) ts ms).answer
      counts_step sec n o f g e st z c = to_numbers (number_in f) (number_in g) refl refl
        where
          to_numbers : (a b : Option ℕ) → number_in f ≡ a → number_in g ≡ b → StepTo k (line_in (place sec n o) (ended (both a b)) (counts f g) ts ms).answer
          to_numbers None b p r = by_numbers (counts f g) e (place sec n o) st z c tt (no_count l f g d e (inl p))
          to_numbers (Some a) None p r = by_numbers (counts f g) e (place sec n o) st z c tt (no_count l f g d e (inr r))
          to_numbers (Some a) (Some b) p r =
              goes_on (counts f g) e (place sec n o) (place (section.End a b) n o) st ((λ y. absurd (omega arith)), c, tt, (a, b, p, r), tt) (omega arith) (omega arith)
              (k, l, f, g, refl, d.0, e, p, r)

      other_header : (s : Said) → said l ≡ s → (s ≡ header → ⊥) → k ≡ 0 → Clear k → FirstAt reason.Header k
      other_header s e not z clear =
          refused_by clear whole_header (omega arith)
          (subst (Line whole_header) (sym z) (no_header l (subst (λ k. Ended ls k l) z d) (λ q. not (sym e ∙ header_said l q))))
          (λ y. absurd (omega arith)) (λ y. absurd (omega arith)) (λ y. absurd (omega arith))

      no_earlier : (test : Said → Bool) → k ≡ 0 → Earlier ls test k → ⊥
      no_earlier test z h = let b = h.2 in omega arith

      -- a line in each section
      line_step : (s : Said) → said l ≡ s → (sec : Section) (n o : ℕ) → Stands k (place sec n o) → StepTo k (line_read (place sec n o) s ts ms).answer
      line_step header e section.Header n o st =
          let z = st.within in
          goes_on header e (place section.Header n o) (place section.Types n o) st ((λ _. refl), no_earlier says_counts z, z, tt, tt) (omega arith) (omega arith)
          (omega arith, not_before header e says_term refl (no_earlier says_term z), not_before header e says_counts refl (no_earlier says_counts z))
      line_step (kind f) e section.Header n o st = other_header (kind f) e (λ q. cc) st.within st.clear
      line_step (term f g h) e section.Header n o st = other_header (term f g h) e (λ q. cc) st.within st.clear
      line_step (counts f g) e section.Header n o st = other_header (counts f g) e (λ q. cc) st.within st.clear
      line_step other e section.Header n o st = other_header other e (λ q. cc) st.within st.clear
      line_step header e section.Types n o st = by_form header e (place section.Types n o) st st.within.0 (no_form l d st.within.0 (inl e))
      line_step (kind f) e section.Types n o st = kind_step n o f e st
      line_step (term f g h) e section.Types n o st = op_step section.Types n o f g h e st st.within.0 st.within.2
      line_step (counts f g) e section.Types n o st = counts_step section.Types n o f g e st st.within.0 st.within.2
      line_step other e section.Types n o st = by_form other e (place section.Types n o) st st.within.0 (no_form l d st.within.0 (inr e))
      line_step header e section.Terms n o st = by_form header e (place section.Terms n o) st st.within.0 (no_form l d st.within.0 (inl e))
      line_step (kind f) e section.Terms n o st = by_form (kind f) e (place section.Terms n o) st st.within.0 (kind_after_term l f d e st.within.1)
      line_step (term f g h) e section.Terms n o st = op_step section.Terms n o f g h e st st.within.0 st.within.2
      line_step (counts f g) e section.Terms n o st = counts_step section.Terms n o f g e st st.within.0 st.within.2
      line_step other e section.Terms n o st = by_form other e (place section.Terms n o) st st.within.0 (no_form l d st.within.0 (inr e))
      line_step s e (section.End a b) n o st =
          let w = st.within in
          let q = w.4 in
          by_form s e (place (section.End a b) n o) st (omega arith) (line_after_the_end l d (w.0, w.1, omega arith, w.5, ap says_counts w.6))

  abbrev Answered : Result (ℕ × ℕ) ReadFault → Type 0
  Answered = Answers ls types terms

  -- What stands after the last byte 10.
  module _ (k : ℕ) (l : List ℕ) (r : Rest ls k l) where
    still_open : (sec : Section) (n o : ℕ) → Stands k (place sec n o) → (Earlier ls says_counts k → ⊥) → Answered (fault reason.End (k + 1))
    still_open sec n o st c = (line_end, k, not_ended l r c, refl, none)
      where
        none : (u : Test) (j : ℕ) → Line u j → Before u j line_end k → ⊥
        none u j x (inl i) = elim (cases_lt (order_of u) 5) [
          | inl q ↦ st.clear u j x i q
          | inr q ↦
              let y = last_row ls x q in
              let a = y.0.1 in
              let b = r.1 in
              c (subst (Earlier ls says_counts) (let z : j + 1 ≡ k = omega arith in z) y.2)
        ]
        none u j x (inr i) = let a = i.1 in omega arith

    -- a byte after the end line
    byte_left : (b : ℕ) (bs : List ℕ) → l ≡ b ∷ bs → (sec : Section) (n o : ℕ) → Stands k (place sec n o) → Earlier ls says_counts k → Answered (fault reason.Line (k + 1))
    byte_left b bs e sec n o st c = (form, k, bytes_after_the_end l r not_empty c, refl, none)
      where
        not_empty : l ≢ []
        not_empty q = cc

        none : (u : Test) (j : ℕ) → Line u j → Before u j form k → ⊥
        none u j x (inl i) = elim (cases_lt (order_of u) 5) [
          | inl q ↦ st.clear u j x i q
          | inr q ↦
              let y = last_row ls x q in
              let a = y.0.1 in
              let h = r.1 in
              let z : j + 1 ≡ k = omega arith in
              not_empty (some_same r.0 (sym (ap (slice_get ls) z) ∙ y.0.0))
        ]
        none u j x (inr i) = elim (rest_row ls (subst (Line u) i.0 x) (let a = r.1 in omega arith)) [
          | inl q ↦ q.1 c
          | inr q ↦ (let a = i.1 in let b : order_of u ≡ 2 = ap order_of q.0 in omega arith)
        ]

    -- nothing after the end line, which is the line j: its counts decide
    module _ (empty : l ≡ []) (a b n o : ℕ) (st : Stands k (place (section.End a b) n o)) where
      counts_before : (j : ℕ) (m f g : List ℕ) → k ≡ j + 1 → slice_get ls j ≡ Some m → said m ≡ counts f g → (n ≡ before ls says_kind j) × (o ≡ before ls says_term j)
      counts_before j m f g z e s =
          let x = st.kinds in
          let y = st.ops in
          let c : before ls says_kind k ≡ before ls says_kind j + 0 = ap (before ls says_kind) z ∙ before_more ls says_kind j m e ∙ ap (λ s. before ls says_kind j + cond (says_kind s) 1 0) s in
          let d : before ls says_term k ≡ before ls says_term j + 0 = ap (before ls says_term) z ∙ before_more ls says_term j m e ∙ ap (λ s. before ls says_term j + cond (says_term s) 1 0) s in
          (omega arith, omega arith)

      agreed : agreeing a b (place (section.End a b) n o) ≡ true → Answered (Ok (n, o))
      agreed v u i x =
          let (j, m, f, g, z, e, s, p, q) = st.within in
          let c = counts_before j m f g z e s in
          let w = and_parts (eqb a n) (eqb b o) v in
          elim (cases_lt i k) [
            | inl h ↦ elim (cases_lt (order_of u) 5) [
              | inl y ↦ st.clear u i x h y
              | inr y ↦
                  let h1 = (last_row ls x y).0.1 in
                  let h2 = r.1 in
                  let same : i ≡ j = omega arith in
                  elim ((last_row ls (subst (Line u) same x) y).1 m f g a b e s p q) [
                    | inl t ↦ t (eqb-true a n w.0 ∙ c.0)
                    | inr t ↦ t (eqb-true b o w.1 ∙ c.1)
                  ]
            ]
            | inr h ↦
                let h1 = row_within ls x in
                let h2 = r.1 in
                let same : i ≡ k = omega arith in
                elim (rest_row ls (subst (Line u) same x) (let h3 = r.1 in omega arith)) [
                  | inl t ↦ t.1 (j, m, omega arith, e, ap says_counts s)
                  | inr t ↦ t.1.1 (some_same t.1.2 r.0 ∙ empty)
                ]
          ]

      differing : agreeing a b (place (section.End a b) n o) ≡ false → Answered (fault reason.End (k + 1 - 1))
      differing v =
          let (j, m, f, g, z, e, s, p, q) = st.within in
          let c = counts_before j m f g z e s in
          let h1 = r.1 in (
            agreement,
            j,
            other_counts m f g a b (e, omega arith) s p q (ap (slice_get ls) (sym z) ∙ r.0 ∙ ap Some empty, omega arith)
                (elim (and_cases (eqb a n) (eqb b o) v) [ inl t ↦ inl (λ y. eqb-false a n t (y ∙ sym c.0)) | inr t ↦ inr (λ y. eqb-false b o t (y ∙ sym c.1)) ]),
            ap (λ (i : ℕ). record { reason = reason.End; line = i }) (let y : k + 1 - 1 ≡ j + 1 = omega arith in y),
            λ u i x h. elim h [
              | inl y ↦ elim (cases_lt (order_of u) 5) [
                | inl w ↦ st.clear u i x (omega arith) w
                | inr w ↦ (let h2 = (last_row ls x w).0.1 in let h3 = r.1 in omega arith)
              ]
              | inr y ↦ st.clear u i x (let h2 = y.0 in omega arith) y.1
            ],
          )

    close_step : (sec : Section) (n o : ℕ) → Stands k (place sec n o) → Answered (closed l (k + 1) (place sec n o))
    close_step section.Header n o st = still_open section.Header n o st (λ h. let z = st.within in let b = h.2 in omega arith)
    close_step section.Types n o st = still_open section.Types n o st st.within.2
    close_step section.Terms n o st = still_open section.Terms n o st st.within.2
    close_step (section.End a b) n o st = go l refl
      where
        is_end : Earlier ls says_counts k
        is_end = let w = st.within in let q = w.4 in (w.0, w.1, omega arith, w.5, ap says_counts w.6)

        go : (m : List ℕ) → l ≡ m → Answered (closed m (k + 1) (place (section.End a b) n o))
        go [] e = cond_both (agreeing a b (place (section.End a b) n o)) _ _ Answered (λ v. agreed e a b n o st v) (λ v. differing e a b n o st v)
        go (c ∷ cs) e = byte_left c cs e (section.End a b) n o st is_end

-- A line keeps the lengths of both tables.
put_length : {X : Type 0} (most : ℕ) (table : List X) (at : ℕ) (c : X) → length (with_cell most table at c) ≡ length table
put_length most table at c = cond_both (has_room most table at) _ _ (λ t. length t ≡ length table) (λ e. length-set table at c) (λ e. refl)

abbrev Kept : List TypeCell → List TermCell → Left (Result Place ReadReason) → Type 0
Kept ts ms l = (length l.types ≡ length ts) × (length l.terms ≡ length ms)

kind_kept : (p : Place) (r : Result TypeCell ReadReason) (ts : List TypeCell) (ms : List TermCell) → Kept ts ms (with_kind p r ts ms)
kind_kept p (Err e) ts ms = (refl, refl)
kind_kept p (Ok c) ts ms = (put_length 256 ts p.kinds c, refl)

op_kept : (p : Place) (r : Result TermCell ReadReason) (ts : List TypeCell) (ms : List TermCell) → Kept ts ms (with_op p r ts ms)
op_kept p (Err e) ts ms = (refl, refl)
op_kept p (Ok c) ts ms = (refl, put_length 512 ms p.ops c)

allowed_kept : (p : Place) (s : Said) (ts : List TypeCell) (ms : List TermCell) → Kept ts ms (allowed_line p s ts ms)
allowed_kept p header ts ms = (refl, refl)
allowed_kept p (kind f) ts ms = kind_kept p (kind_cell f) ts ms
allowed_kept p (term f g h) ts ms = op_kept p (op_cell f g h) ts ms
allowed_kept p (counts f g) ts ms = (refl, refl)
allowed_kept p other ts ms = (refl, refl)

line_kept : (p : Place) (r : Result Section ReadReason) (s : Said) (ts : List TypeCell) (ms : List TermCell) → Kept ts ms (line_in p r s ts ms)
line_kept p (Err e) s ts ms = (refl, refl)
line_kept p (Ok sec) s ts ms = allowed_kept (place sec p.kinds p.ops) s ts ms

got : (xs : List (List ℕ)) (k : ℕ) (x : List ℕ) (rest : List (List ℕ)) → drop k xs ≡ x ∷ rest → (slice_get xs k ≡ Some x) × (drop (suc k) xs ≡ rest) × (length xs ≡ k + suc (length rest))
got xs zero x rest e = (ap (λ xs. slice_get xs 0) e, ap (drop 1) e, omega (arith, ap length e))
got [] (suc k) x rest e = cc
got (y ∷ ys) (suc k) x rest e = let r = got ys k x rest e in (r.0, r.1, let z = r.2 in omega arith)

module _ (ls : List (List ℕ)) (types terms : ℕ) where
  by_line : (k : ℕ) (a : Result Place ReadReason) (us : List TypeCell) (ns : List TermCell) (more : Place → List TypeCell → List TermCell → Outcome) → StepTo ls types terms k a
      → ((q : Place) → Stands ls types terms (k + 1) q → Answered ls types terms (more q us ns).answer) → Answered ls types terms (by_answer (k + 1) a us ns more).answer
  by_line k (Err f) us ns more s next = (s.0, k, s.2, ap (λ (e : ReadReason). record { reason = e; line = k + 1 }) (sym s.1), s.3)
  by_line k (Ok q) us ns more s next = next q s

  read_from : (rest : List (List ℕ)) (k : ℕ) (p : Place) (ts : List TypeCell) (ms : List TermCell) → drop k ls ≡ rest → 0 < length rest → Stands ls types terms k p
      → length ts ≡ types → length ms ≡ terms → Answered ls types terms (reads rest (k + 1) p ts ms).answer
  read_from [] k p ts ms e some st tl ml = absurd (omega arith)
  read_from (l ∷ []) k p ts ms e some st tl ml = let x = got ls k l [] e in close_step ls types terms k l (x.0, let z = x.2 in omega arith) p.section p.kinds p.ops st
  read_from (l ∷ next ∷ more) k p ts ms e some st tl ml =
      let x = got ls k l (next ∷ more) e in
      let r = line_read p (said l) ts ms in
      let kept = line_kept p (section_after p.section (said l)) (said l) ts ms in
      let after : drop (k + 1) ls ≡ next ∷ more = (let z : k + 1 ≡ suc k = omega arith in ap (λ i. drop i ls) z ∙ x.1) in
      by_line k r.answer r.types r.terms (reads (next ∷ more) (k + 1 + 1))
      (line_step ls types terms k l (x.0, let z = x.2 in omega arith) ts ms tl ml (said l) refl p.section p.kinds p.ops st)
      (λ q s. read_from (next ∷ more) (k + 1) q r.types r.terms after (omega arith) s (kept.0 ∙ tl) (kept.1 ∙ ml))

  begun : Stands ls types terms 0 start
  begun = record {
    kinds = refl;
    ops = refl;
    within = refl;
    clear = λ t j r i o. omega arith;
  }

abbrev by_order : ℕ → ReadReason
by_order n = cond (eqb n 1) reason.Header (cond (eqb n 2) reason.Line (cond (eqb n 3) reason.Number (cond (eqb n 4) reason.Full reason.End)))

found_by_order : (t : Test) → by_order (order_of t) ≡ reason_of t
found_by_order line_end = refl
found_by_order whole_header = refl
found_by_order form = refl
found_by_order numbers = refl
found_by_order room = refl
found_by_order agreement = refl

-- a text has one first line and test
one_first : (ls : List (List ℕ)) (types terms : ℕ) (f g : ReadFault) → IsFirst ls types terms f → IsFirst ls types terms g → f ≡ g
one_first ls types terms f g (t, k, r, e, none) (u, j, s, h, none₂) =
    let z : k ≡ j = elim (cases_lt k j) [
      | inl l ↦ absurd (none₂ t k r (inl l))
      | inr l ↦ elim (cases_lt j k) [ inl m ↦ absurd (none u j s (inl m)) | inr m ↦ omega arith ]
    ] in
    let o : order_of t ≡ order_of u = elim (cases_lt (order_of t) (order_of u)) [
      | inl l ↦ absurd (none₂ t k r (inr (z, l)))
      | inr l ↦ elim (cases_lt (order_of u) (order_of t)) [ inl m ↦ absurd (none u j s (inr (sym z, m))) | inr m ↦ omega arith ]
    ] in
    let q : reason_of t ≡ reason_of u = sym (found_by_order t) ∙ ap by_order o ∙ found_by_order u in
    e ∙ ap₂ (λ (r : ReadReason) (i : ℕ). record { reason = r; line = i + 1 }) q z ∙ sym h

module _ (text : List ℕ) (ts : List TypeCell) (ms : List TermCell) where
  text_answered : Answered (pieces 10 text) (length ts) (length ms) (reading text ts ms).answer
  text_answered =
      let (q, qs, e) = some_piece 10 text in
      read_from (pieces 10 text) (length ts) (length ms) (pieces 10 text) 0 start ts ms refl (omega (arith, ap length e)) (begun (pieces 10 text) (length ts) (length ms)) refl refl

  is_answer : (f : ReadFault) → IsFirst (pieces 10 text) (length ts) (length ms) f → (reading text ts ms).answer ≡ Err f
  is_answer f a = go (reading text ts ms).answer text_answered
    where
      go : (x : Result (ℕ × ℕ) ReadFault) → Answered (pieces 10 text) (length ts) (length ms) x → x ≡ Err f
      go (Ok n) h = absurd (h a.0 a.1 a.2)
      go (Err g) h = ap Err (one_first (pieces 10 text) (length ts) (length ms) g f h a)

  some_answer : ((t : Test) (k : ℕ) → Row (pieces 10 text) (length ts) (length ms) t k → ⊥) → (n : ℕ × ℕ) × ((reading text ts ms).answer ≡ Ok n)
  some_answer none = go (reading text ts ms).answer text_answered
    where
      go : (x : Result (ℕ × ℕ) ReadFault) → Answered (pieces 10 text) (length ts) (length ms) x → (n : ℕ × ℕ) × (x ≡ Ok n)
      go (Ok n) h = (n, refl)
      go (Err f) h = absurd (none h.0 h.1 h.2)

pub first_line_answers : FirstLineAnswers
first_line_answers = record {
  refused = λ text ts ms f. (is_answer text ts ms f, λ e. subst (Answered (pieces 10 text) (length ts) (length ms)) e (text_answered text ts ms));
  accepted = λ text ts ms. (some_answer text ts ms, λ (n, e). subst (Answered (pieces 10 text) (length ts) (length ms)) e (text_answered text ts ms));
}

-- an answer that is the reading's is the sheet's
pub first_line_is : (text : List ℕ) (ts : List TypeCell) (ms : List TermCell) (x : Result (ℕ × ℕ) ReadFault) → x ≡ (reading text ts ms).answer → Answers (pieces 10 text) (length ts) (length ms) x
first_line_is text ts ms x e = subst (Answers (pieces 10 text) (length ts) (length ms)) (sym e) (text_answered text ts ms)
