-- What the lines were, whatever the reading of them leaves.
use Rattle.std.proofs.Common.{◌≡◌, ℕ, ◌+◌, ◌-◌, ◌≤◌, Bool, true, false, cond, eqb, ◌⊎◌, List, [], ◌∷◌, ◌++◌, map, length, set, Ok, Err, Result, refl, ap, ◌∙◌, subst, inl, inr, arith}
use Rattle.std.specs.List.{AllByRecursion}
use Rattle.std.proofs.lemmas.List.{length-set}
use Rattle.std.proofs.lemmas.Bool.{and_parts, eqb-true}
use Rattle.calculus.specs.declared.cells.TermCell.{TermCell}
use Rattle.calculus.specs.declared.cells.TypeCell.{TypeCell}
use Rattle.reader.specs.declared.faults.ReadFault.{ReadFault}
use Rattle.reader.specs.declared.faults.ReadReason.{ReadReason}
use Rattle.reader.specs.declared.faults.ReadReason.TheVariants as reason
use Rattle.reader.specs.declared.sections.Section.{Section}
use Rattle.reader.specs.declared.sections.Section.TheVariants as section
use Rattle.reader.specs.Cells.{kind_cell, op_cell, two_numbers, has_room}
use Rattle.reader.specs.Lines.{Said, header, kind, term, counts, other, said, ended}
use Rattle.reader.specs.Reading.{Place, Left, Outcome, left, fault, agreeing, with_kind, to_kinds, with_op, to_ops, line_in, line_read, after_line, reads}
use Rattle.reader.specs.Stored.{kind_line, op_line, end_line, KindKnown, OpKnown}
use Rattle.reader.proofs.Spellings.{Spelled, spelled, kind_is, op_is, end_is}
use Rattle.reader.proofs.Tables.{puts, room_is}

abbrev pub place : Section → ℕ → ℕ → Place
place sec k o = record { section = sec; kinds = k; ops = o }

-- the line of the verdict, and the lines from the end line on
abbrev pub Verdict : Result (ℕ × ℕ) ReadFault → ℕ → ℕ → ℕ → List (List ℕ) → Type 0
Verdict (Ok n) at k o tail = (n ≡ (k, o)) × (tail ≡ end_line k o ∷ [] ∷ [])
Verdict (Err f) at k o tail = (f.line ≡ at) ⊎ ((i : ℕ) × (j : ℕ) × (rest : List (List ℕ)) × (f.line ≡ at + 1) × (tail ≡ end_line i j ∷ rest))

pub record Within (k o : ℕ) (ts : List TypeCell) (ms : List TermCell) : Type 0 where
  pub kinds : (k ≤ 256) × (k ≤ length ts)
  pub ops : (o ≤ 512) × (o ≤ length ms)

pub record Came (ls : List (List ℕ)) (due : ℕ) (sec : Section) (k o : ℕ) (ts : List TypeCell) (ms : List TermCell) (out : Outcome) : Type 0 where
  pub ks : List TypeCell
  pub os : List TermCell
  pub tail : List (List ℕ)
  pub lines_are : ls ≡ map kind_line ks ++ (map op_line os ++ tail)
  pub kinds_known : AllByRecursion KindKnown ks
  pub ops_known : AllByRecursion OpKnown os
  pub within : Within (k + length ks) (o + length os) ts ms
  pub ordered : sec ≡ section.Terms → ks ≡ []
  pub types_are : out.types ≡ puts k ks ts
  pub terms_are : out.terms ≡ puts o os ms
  pub verdict : Verdict out.answer (due + length ks + length os) (k + length ks) (o + length os) tail

moved : (r : Result (ℕ × ℕ) ReadFault) (i j k l o p : ℕ) (tail : List (List ℕ)) → i ≡ j → k ≡ l → o ≡ p → Verdict r i k o tail → Verdict r j l p tail
moved r i j k l o p tail a b c v = subst (λ x. Verdict r x l p tail) a (subst (λ x. Verdict r i x p tail) b (subst (λ x. Verdict r i k x tail) c v))

module _ (due k o : ℕ) (ts : List TypeCell) (ms : List TermCell) (w : Within k o ts ms) where
  here : Within (k + 0) (o + 0) ts ms
  here = record { kinds = omega arith; ops = omega arith }

  -- no line says a cell
  bare : (ls : List (List ℕ)) (sec : Section) (r : Result (ℕ × ℕ) ReadFault) → Verdict r (due + 0 + 0) (k + 0) (o + 0) ls → Came ls due sec k o ts ms (left r ts ms)
  bare ls sec r v = record {
    ks = [];
    os = [];
    tail = ls;
    lines_are = refl;
    kinds_known = tt;
    ops_known = tt;
    within = here;
    ordered = λ _. refl;
    types_are = refl;
    terms_are = refl;
    verdict = v;
  }

  -- the first line is at fault
  pub stop : (ls : List (List ℕ)) (sec : Section) (e : ReadReason) → Came ls due sec k o ts ms (left (fault e due) ts ms)
  stop ls sec e = bare ls sec (fault e due) (inl (omega arith))

  -- the first line is an end line
  module _ (line : List ℕ) (sec : Section) (i j : ℕ) (is : line ≡ end_line i j) where
    past : (rest : List (List ℕ)) → Came (line ∷ rest) due sec k o ts ms (left (fault reason.Line (due + 1)) ts ms)
    past rest = bare (line ∷ rest) sec (fault reason.Line (due + 1)) (inr (i, j, rest, omega arith, ap (λ l. l ∷ rest) is))

    same : (eqb i k ≡ true) × (eqb j o ≡ true) → end_line i j ≡ end_line k o
    same p = ap (λ x. end_line x j) (eqb-true i k p.0) ∙ ap (end_line k) (eqb-true j o p.1)

    last : (a : Bool) → agreeing i j (place (section.End i j) k o) ≡ a
        → Came (line ∷ [] ∷ []) due sec k o ts ms (left (cond a (Ok (k, o)) (fault reason.End (due + 1 - 1))) ts ms)
    last true e =
        bare (line ∷ [] ∷ []) sec (Ok (k, o))
        (moved (Ok (k, o)) due (due + 0 + 0) k (k + 0) o (o + 0) (line ∷ [] ∷ []) (omega arith) (omega arith) (omega arith)
        (refl, ap (λ l. l ∷ [] ∷ []) (is ∙ same (and_parts (eqb i k) (eqb j o) e))))
    last false e = bare (line ∷ [] ∷ []) sec (fault reason.End (due + 1 - 1)) (inl (omega arith))

    pub closing : (next : List ℕ) (lines : List (List ℕ)) → Came (line ∷ next ∷ lines) due sec k o ts ms (reads (next ∷ lines) (due + 1) (place (section.End i j) k o) ts ms)
    closing [] [] = last (agreeing i j (place (section.End i j) k o)) refl
    closing (b ∷ bs) [] = past ((b ∷ bs) ∷ [])
    closing next (l ∷ lines) = past (next ∷ l ∷ lines)

  -- the first line says a cell
  pub one_kind : (line : List ℕ) (ls : List (List ℕ)) (c : TypeCell) (out : Outcome) → line ≡ kind_line c → KindKnown c
      → Came ls (due + 1) section.Types (k + 1) o (set ts k c) ms out → Came (line ∷ ls) due section.Types k o ts ms out
  one_kind line ls c out e h m = record {
    ks = c ∷ m.ks;
    os = m.os;
    tail = m.tail;
    lines_are = ap (λ l. l ∷ ls) e ∙ ap (λ xs. kind_line c ∷ xs) m.lines_are;
    kinds_known = (h, m.kinds_known);
    ops_known = m.ops_known;
    within = record { kinds = omega (arith, length-set ts k c, m.within.kinds); ops = m.within.ops };
    ordered = λ t. let z : ◌≡◌ {A = ℕ} 0 1 = cc in absurd (omega arith);
    types_are = m.types_are;
    terms_are = m.terms_are;
    verdict = moved out.answer _ _ _ _ _ _ m.tail (omega arith) (omega arith) refl m.verdict;
  }

  pub one_op : (line : List ℕ) (ls : List (List ℕ)) (sec : Section) (c : TermCell) (out : Outcome) → line ≡ op_line c → OpKnown c
      → Came ls (due + 1) section.Terms k (o + 1) ts (set ms o c) out → Came (line ∷ ls) due sec k o ts ms out
  one_op line ls sec c out e h m = let none = m.ordered refl in let n = ap length none in record {
    ks = [];
    os = c ∷ m.os;
    tail = m.tail;
    lines_are = ap (λ l. l ∷ ls) e ∙ ap (λ xs. op_line c ∷ xs) (m.lines_are ∙ ap (λ xs. map kind_line xs ++ (map op_line m.os ++ m.tail)) none);
    kinds_known = tt;
    ops_known = (h, m.ops_known);
    within = record { kinds = omega (arith, w.kinds); ops = omega (arith, length-set ms o c, m.within.ops) };
    ordered = λ _. refl;
    types_are = m.types_are ∙ ap (λ xs. puts k xs ts) none;
    terms_are = m.terms_are;
    verdict = moved out.answer _ _ _ _ _ _ m.tail (omega (arith, n)) (omega (arith, n)) (omega arith) m.verdict;
  }

abbrev pub InBody : Section → Type 0
InBody section.Header = ⊥
InBody section.Types = Unit {0}
InBody section.Terms = Unit {0}
InBody (section.End i j) = ⊥

-- what is shown of the lines after the first
abbrev Later : List (List ℕ) → Type 0
Later ls =
    (due : ℕ) (sec : Section) (k o : ℕ) (ts : List TypeCell) (ms : List TermCell) → InBody sec → Within k o ts ms → Came ls due sec k o ts ms (reads ls due (place sec k o) ts ms)

module _ (line next : List ℕ) (lines : List (List ℕ)) (more : Later (next ∷ lines)) (due k o : ℕ) (ts : List TypeCell) (ms : List TermCell) (w : Within k o ts ms) where
  -- what is left once the first line's step is done
  abbrev then_reads : Left (Result Place ReadReason) → Outcome
  then_reads l = after_line due l (reads (next ∷ lines) (due + 1))

  abbrev Goes : Section → Left (Result Place ReadReason) → Type 0
  Goes sec l = Came (line ∷ next ∷ lines) due sec k o ts ms (then_reads l)

  put_kind : (c : TypeCell) (b : Bool) → has_room 256 ts k ≡ b → line ≡ kind_line c → KindKnown c
      → Goes section.Types (left (to_kinds (place section.Types k o) (cond b (Ok (k + 1)) (Err reason.Full))) (cond b (set ts k c) ts) ms)
  put_kind c true r e h =
      let room = room_is 256 ts k r in
      let w' : Within (k + 1) o (set ts k c) ms = record { kinds = omega (arith, length-set ts k c); ops = w.ops } in
      one_kind due k o ts ms w line (next ∷ lines) c _ e h (more (due + 1) section.Types (k + 1) o (set ts k c) ms tt w')
  put_kind c false r e h = stop due k o ts ms w (line ∷ next ∷ lines) section.Types reason.Full

  kind_step : (f : List ℕ) (r : Result TypeCell ReadReason) → kind_cell f ≡ r → Spelled (kind f) line → Goes section.Types (with_kind (place section.Types k o) r ts ms)
  kind_step f (Err e) h s = stop due k o ts ms w (line ∷ next ∷ lines) section.Types e
  kind_step f (Ok c) h s = let p = kind_is line f c s h in put_kind c (has_room 256 ts k) refl p.0 p.1

  put_op : (sec : Section) (c : TermCell) (b : Bool) → has_room 512 ms o ≡ b → line ≡ op_line c → OpKnown c
      → Goes sec (left (to_ops (place section.Terms k o) (cond b (Ok (o + 1)) (Err reason.Full))) ts (cond b (set ms o c) ms))
  put_op sec c true r e h =
      let room = room_is 512 ms o r in
      let w' : Within k (o + 1) ts (set ms o c) = record { kinds = w.kinds; ops = omega (arith, length-set ms o c) } in
      one_op due k o ts ms w line (next ∷ lines) sec c _ e h (more (due + 1) section.Terms k (o + 1) ts (set ms o c) tt w')
  put_op sec c false r e h = stop due k o ts ms w (line ∷ next ∷ lines) sec reason.Full

  op_step : (sec : Section) (f g h : List ℕ) (r : Result TermCell ReadReason) → op_cell f g h ≡ r → Spelled (term f g h) line → Goes sec (with_op (place section.Terms k o) r ts ms)
  op_step sec f g h (Err e) m s = stop due k o ts ms w (line ∷ next ∷ lines) sec e
  op_step sec f g h (Ok c) m s = let p = op_is line f g h c s m in put_op sec c (has_room 512 ms o) refl p.0 p.1

  end_step : (sec : Section) (f g : List ℕ) (r : Result (ℕ × ℕ) ReadReason) → two_numbers f g ≡ r → Spelled (counts f g) line
      → Goes sec (line_in (place sec k o) (ended r) (counts f g) ts ms)
  end_step sec f g (Err e) h s = stop due k o ts ms w (line ∷ next ∷ lines) sec e
  end_step sec f g (Ok n) h s = closing due k o ts ms w line sec n.0 n.1 (end_is line f g n s h) next lines

  step : (sec : Section) (s : Said) → InBody sec → Spelled s line → Goes sec (line_read (place sec k o) s ts ms)
  step section.Header s b p = absurd b
  step section.Types header b p = stop due k o ts ms w (line ∷ next ∷ lines) section.Types reason.Line
  step section.Types (kind f) b p = kind_step f (kind_cell f) refl p
  step section.Types (term f g h) b p = op_step section.Types f g h (op_cell f g h) refl p
  step section.Types (counts f g) b p = end_step section.Types f g (two_numbers f g) refl p
  step section.Types other b p = stop due k o ts ms w (line ∷ next ∷ lines) section.Types reason.Line
  step section.Terms header b p = stop due k o ts ms w (line ∷ next ∷ lines) section.Terms reason.Line
  step section.Terms (kind f) b p = stop due k o ts ms w (line ∷ next ∷ lines) section.Terms reason.Line
  step section.Terms (term f g h) b p = op_step section.Terms f g h (op_cell f g h) refl p
  step section.Terms (counts f g) b p = end_step section.Terms f g (two_numbers f g) refl p
  step section.Terms other b p = stop due k o ts ms w (line ∷ next ∷ lines) section.Terms reason.Line
  step (section.End i j) s b p = absurd b

unended : (ls : List (List ℕ)) (rest : List ℕ) (due : ℕ) (sec : Section) (k o : ℕ) (ts : List TypeCell) (ms : List TermCell) → InBody sec
    → Within k o ts ms → Came ls due sec k o ts ms (reads (rest ∷ []) due (place sec k o) ts ms)
unended ls rest due section.Header k o ts ms b w = absurd b
unended ls rest due section.Types k o ts ms b w = stop due k o ts ms w ls section.Types reason.End
unended ls rest due section.Terms k o ts ms b w = stop due k o ts ms w ls section.Terms reason.End
unended ls rest due (section.End i j) k o ts ms b w = absurd b

pub came : (ls : List (List ℕ)) → Later ls
came [] due sec k o ts ms b w = unended [] [] due sec k o ts ms b w
came (rest ∷ []) due sec k o ts ms b w = unended (rest ∷ []) rest due sec k o ts ms b w
came (line ∷ next ∷ lines) due sec k o ts ms b w = step line next lines (came (next ∷ lines)) due k o ts ms w sec (said line) b (spelled line)
