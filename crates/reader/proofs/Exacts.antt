-- Reading is exact: what is accepted, what is read back, what a refused read leaves.
use Rattle.std.proofs.Common.{◌≡◌, ℕ, ◌+◌, ◌-◌, ◌≤◌, ◌⊎◌, List, [], ◌∷◌, ◌++◌, map, length, take, Ok, Err, decimal, Result, sym, refl, ap, ◌∙◌, subst, inl, inr, zero-add, arith}
use Rattle.std.specs.List.{AllByRecursion}
use Rattle.std.proofs.ByRecursion.{All-append}
use Rattle.std.proofs.lemmas.List.{append_assoc, length-append, length-map, take_at}
use Rattle.calculus.specs.declared.cells.TermCell.{TermCell}
use Rattle.calculus.specs.declared.cells.TypeCell.{TypeCell}
use Rattle.reader.specs.declared.faults.ReadFault.{ReadFault}
use Rattle.reader.specs.declared.faults.ReadReason.{ReadReason}
use Rattle.reader.specs.declared.faults.ReadReason.TheVariants as reason
use Rattle.reader.specs.declared.sections.Section.TheVariants as section
use Rattle.reader.specs.Cells.{is_kind, is_op}
use Rattle.reader.specs.Lines.{Said, header, kind, term, counts, other, header_line, said}
use Rattle.reader.specs.Pieces.{pieces}
use Rattle.reader.specs.Reading.{Outcome, left, fault, start, line_read, after_line, reads, reading}
use Rattle.reader.specs.Sheet.{Answers}
use Rattle.reader.specs.Stored.{kind_line, op_line, end_line, cell_lines, written, KindKnown, OpKnown, Fitting, fronted, holding, Begins, Done, Bounded, Exact}
use Rattle.reader.proofs.Back.{kinds_back}
use Rattle.reader.proofs.Came.{place, Within, Came, Verdict, came}
use Rattle.reader.proofs.Decimals.{number_is, decimal_number, decimal_lacks}
use Rattle.reader.proofs.Sheet.{first_line_is}
use Rattle.reader.proofs.Marks.{Lacks, glued, glue, glue_lines, line_pieces}
use Rattle.reader.proofs.Spellings.{Spelled, spelled, no_ok, differs}
use Rattle.reader.proofs.Tables.{puts, puts_front}
use Rattle.reader.proofs.Turns.{next_line}

-- line 1 is refused, or it is the header
abbrev First : List (List ℕ) → List TypeCell → List TermCell → Outcome → Type 0
First ls ts ms out =
    ((e : ReadReason) × (out ≡ left (fault e 1) ts ms))
    ⊎ ((rest : List (List ℕ)) × (ls ≡ header_line ∷ rest) × (out ≡ reads rest 2 (place section.Types 0 0) ts ms))

module _ (ts : List TypeCell) (ms : List TermCell) where
  first_said : (line next : List ℕ) (lines : List (List ℕ)) (s : Said) → Spelled s line → First (line ∷ next ∷ lines) ts ms (after_line 1 (line_read start s ts ms) (reads (next ∷ lines) 2))
  first_said line next lines header p = inr (next ∷ lines, ap (λ l. l ∷ next ∷ lines) p, refl)
  first_said line next lines (kind f) p = inl (reason.Header, refl)
  first_said line next lines (term f g h) p = inl (reason.Header, refl)
  first_said line next lines (counts f g) p = inl (reason.Header, refl)
  first_said line next lines other p = inl (reason.Header, refl)

  first : (ls : List (List ℕ)) → First ls ts ms (reads ls 1 start ts ms)
  first [] = inl (reason.End, refl)
  first (rest ∷ []) = inl (reason.End, refl)
  first (line ∷ next ∷ lines) = first_said line next lines (said line) (spelled line)

  none_yet : Within 0 0 ts ms
  none_yet = record { kinds = omega arith; ops = omega arith }

  later : (rest : List (List ℕ)) → Came rest 2 section.Types 0 0 ts ms (reads rest 2 (place section.Types 0 0) ts ms)
  later rest = came rest 2 section.Types 0 0 ts ms tt none_yet

  fits : (rest : List (List ℕ)) (out : Outcome) (m : Came rest 2 section.Types 0 0 ts ms out) → Fitting m.ks m.os ts ms
  fits rest out m = record {
    kinds_known = m.kinds_known;
    ops_known = m.ops_known;
    kinds_within = omega (arith, m.within.kinds);
    ops_within = omega (arith, m.within.ops);
  }

  -- the outcome, from its answer
  with_answer : (rest : List (List ℕ)) (out : Outcome) (m : Came rest 2 section.Types 0 0 ts ms out) (r : Result (ℕ × ℕ) ReadFault) → out.answer ≡ r
      → out ≡ left r (fronted m.ks ts) (fronted m.os ms)
  with_answer rest out m r e =
      let f = fits rest out m in
      ap (λ x. left x out.types out.terms) e
      ∙ ap (λ xs. left r xs out.terms) (m.types_are ∙ puts_front m.ks ts f.kinds_within.1)
      ∙ ap (λ xs. left r (fronted m.ks ts) xs) (m.terms_are ∙ puts_front m.os ms f.ops_within.1)

regroup : (ks : List TypeCell) (os : List TermCell) (more : List (List ℕ)) → header_line ∷ (map kind_line ks ++ (map op_line os ++ more)) ≡ cell_lines ks os ++ more
regroup ks os more = ap (λ ls. header_line ∷ ls) (sym (append_assoc (map kind_line ks) (map op_line os) more))

-- the text of a program, from its pieces
text_is : (text : List ℕ) (ks : List TypeCell) (os : List TermCell)
    → pieces 10 text ≡ header_line ∷ (map kind_line ks ++ (map op_line os ++ (end_line (length ks) (length os) ∷ [] ∷ []))) → text ≡ written ks os
text_is text ks os e =
    let ended = end_line (length ks) (length os) ∷ [] in
    sym (glue 10 text)
    ∙ ap (glued 10) (e ∙ regroup ks os (ended ++ ([] ∷ [])) ∙ sym (append_assoc (cell_lines ks os) ended ([] ∷ [])))
    ∙ glue_lines (cell_lines ks os ++ ended)

abbrev Accepted : List ℕ → List TypeCell → List TermCell → Type 0
Accepted text ts ms = (ks : List TypeCell) × (os : List TermCell) × (text ≡ written ks os) × Fitting ks os ts ms × (reading text ts ms ≡ holding ks os ts ms)

module _ (text : List ℕ) (ts : List TypeCell) (ms : List TermCell) where
  -- the end line is the last, and counts the cells
  whole : (rest : List (List ℕ)) (out : Outcome) (m : Came rest 2 section.Types 0 0 ts ms out) (n : ℕ × ℕ) → pieces 10 text ≡ header_line ∷ rest
      → reading text ts ms ≡ out → Verdict (Ok n) (2 + length m.ks + length m.os) (0 + length m.ks) (0 + length m.os) m.tail → out.answer ≡ Ok n
      → Accepted text ts ms
  whole rest out m n p q v e =
      let k = zero-add (length m.ks) in
      let o = zero-add (length m.os) in
      let counted = v.0 ∙ ap (λ i. (i, 0 + length m.os)) k ∙ ap (λ i. (length m.ks, i)) o in
      let tail = v.1 ∙ ap (λ i. end_line i (0 + length m.os) ∷ [] ∷ []) k ∙ ap (λ i. end_line (length m.ks) i ∷ [] ∷ []) o in
      let lines = p ∙ ap (λ ls. header_line ∷ ls) (m.lines_are ∙ ap (λ ls. map kind_line m.ks ++ (map op_line m.os ++ ls)) tail) in
      (m.ks, m.os, text_is text m.ks m.os lines, fits ts ms rest out m, q ∙ with_answer ts ms rest out m (Ok (length m.ks, length m.os)) (e ∙ ap Ok counted))

  accepted_by : (n : ℕ × ℕ) → (reading text ts ms).answer ≡ Ok n → First (pieces 10 text) ts ms (reading text ts ms) → Accepted text ts ms
  accepted_by n e (inl (r, q)) = no_ok (sym (ap (λ (o : Outcome). o.answer) q) ∙ e)
  accepted_by n e (inr (rest, p, q)) =
      let m = later ts ms rest in
      let a = sym (ap (λ (o : Outcome). o.answer) q) ∙ e in
      let v = subst (λ r. Verdict r (2 + length m.ks + length m.os) (0 + length m.ks) (0 + length m.os) m.tail) a m.verdict in
      whole rest (reads rest 2 (place section.Types 0 0) ts ms) m n p q v a

  pub accepted : (n : ℕ × ℕ) → (reading text ts ms).answer ≡ Ok n → Accepted text ts ms
  accepted n e = accepted_by n e (first ts ms (pieces 10 text))

abbrev Refused : List ℕ → List TypeCell → List TermCell → ReadFault → Type 0
Refused text ts ms f =
    (ks : List TypeCell) × (os : List TermCell) × Begins (take (f.line - 1) (pieces 10 text)) ks os × Fitting ks os ts ms
    × (reading text ts ms ≡ left (Err f) (fronted ks ts) (fronted os ms))

length_cell_lines : (ks : List TypeCell) (os : List TermCell) → length (cell_lines ks os) ≡ 1 + length ks + length os
length_cell_lines ks os = omega (arith, length-append (map kind_line ks) (map op_line os), length-map ks kind_line, length-map os op_line)

-- the lines before the one at fault
module _ (ls : List (List ℕ)) (ks : List TypeCell) (os : List TermCell) (at : ℕ) where
  before : (more : List (List ℕ)) → ls ≡ cell_lines ks os ++ more → at ≡ 2 + length ks + length os → take (at - 1) ls ≡ cell_lines ks os
  before more e h = ap (take (at - 1)) e ∙ take_at (cell_lines ks os) more (at - 1) (omega (arith, length_cell_lines ks os))

  after : (i j : ℕ) (more : List (List ℕ)) → ls ≡ cell_lines ks os ++ (end_line i j ∷ more) → at ≡ 2 + length ks + length os + 1 → take (at - 1) ls ≡ cell_lines ks os ++ (end_line i j ∷ [])
  after i j more e h =
      let ended = end_line i j ∷ [] in
      ap (take (at - 1)) (e ∙ sym (append_assoc (cell_lines ks os) ended more))
      ∙ take_at (cell_lines ks os ++ ended) more (at - 1) (omega (arith, length-append (cell_lines ks os) ended, length_cell_lines ks os))

module _ (text : List ℕ) (ts : List TypeCell) (ms : List TermCell) (f : ReadFault) where
  begins : (rest : List (List ℕ)) (out : Outcome) (m : Came rest 2 section.Types 0 0 ts ms out) → pieces 10 text ≡ cell_lines m.ks m.os ++ m.tail
      → Verdict (Err f) (2 + length m.ks + length m.os) (0 + length m.ks) (0 + length m.os) m.tail
      → Begins (take (f.line - 1) (pieces 10 text)) m.ks m.os
  begins rest out m e (inl h) = inr (inl (before (pieces 10 text) m.ks m.os f.line m.tail e h))
  begins rest out m e (inr (i, j, more, h, t)) = inr (inr (i, j, after (pieces 10 text) m.ks m.os f.line i j more (e ∙ ap (λ ls. cell_lines m.ks m.os ++ ls) t) h))

  refused_by : (reading text ts ms).answer ≡ Err f → First (pieces 10 text) ts ms (reading text ts ms) → Refused text ts ms f
  refused_by e (inl (r, q)) =
      let same : record { reason = r; line = 1 } ≡ f = cc (sym (ap (λ (o : Outcome). o.answer) q) ∙ e) in
      let none = ap (λ (g : ReadFault). take (g.line - 1) (pieces 10 text)) (sym same) in
      let fit : Fitting [] [] ts ms = record { kinds_known = tt; ops_known = tt; kinds_within = omega arith; ops_within = omega arith } in
      ([], [], inl (none, refl, refl), fit, q ∙ ap (λ (g : ReadFault). left (Err g) ts ms) same)
  refused_by e (inr (rest, p, q)) =
      let m = later ts ms rest in
      let out = reads rest 2 (place section.Types 0 0) ts ms in
      let a = sym (ap (λ (o : Outcome). o.answer) q) ∙ e in
      let v = subst (λ r. Verdict r (2 + length m.ks + length m.os) (0 + length m.ks) (0 + length m.os) m.tail) a m.verdict in
      let lines = p ∙ ap (λ ls. header_line ∷ ls) m.lines_are ∙ regroup m.ks m.os m.tail in
      (m.ks, m.os, begins rest out m lines v, fits ts ms rest out m, q ∙ with_answer ts ms rest out m (Err f) a)

  pub refused : (reading text ts ms).answer ≡ Err f → Refused text ts ms f
  refused e = refused_by e (first ts ms (pieces 10 text))

-- no line of a program has a byte 10
numbers_lack : (j k : ℕ) → j ≤ 65535 → k ≤ 65535 → Lacks 10 (decimal j ++ (9 ∷ decimal k))
numbers_lack j k h i =
    All-append (λ b. b ≡ 10 → ⊥) (decimal j) (9 ∷ decimal k) (decimal_lacks 10 j (omega arith) (omega arith)) ((λ e. omega arith), decimal_lacks 10 k (omega arith) (omega arith))

kinds_lack : (ks : List TypeCell) → AllByRecursion KindKnown ks → AllByRecursion (Lacks 10) (map kind_line ks)
kinds_lack [] h = tt
kinds_lack (c ∷ ks) h = (((λ e. omega arith), ((λ e. omega arith), (differs is_kind c.kind 10 h.0 refl, tt))), kinds_lack ks h.1)

ops_lack : (os : List TermCell) → AllByRecursion OpKnown os → AllByRecursion (Lacks 10) (map op_line os)
ops_lack [] h = tt
ops_lack (c ∷ os) h =
    let k = h.0 in
    (((λ e. omega arith), ((λ e. omega arith), (differs is_op c.op 10 k.0 refl, ((λ e. omega arith), numbers_lack c.argument c.claim k.1 k.2)))), ops_lack os h.1)

all_lack : (ks : List TypeCell) (os : List TermCell) → AllByRecursion KindKnown ks → AllByRecursion OpKnown os → length ks ≤ 65535 → length os ≤ 65535
    → AllByRecursion (Lacks 10) (cell_lines ks os ++ (end_line (length ks) (length os) ∷ []))
all_lack ks os h i m n =
    All-append (Lacks 10) (cell_lines ks os) (end_line (length ks) (length os) ∷ [])
    (((λ e. omega arith), ((λ e. omega arith), ((λ e. omega arith), ((λ e. omega arith), tt)))), All-append (Lacks 10) (map kind_line ks) (map op_line os) (kinds_lack ks h) (ops_lack os i))
    (((λ e. omega arith), ((λ e. omega arith), numbers_lack (length ks) (length os) m n)), tt)

pub read_back : (ks : List TypeCell) (os : List TermCell) (ts : List TypeCell) (ms : List TermCell) → Fitting ks os ts ms → reading (written ks os) ts ms ≡ holding ks os ts ms
read_back ks os ts ms f =
    let ended = end_line (length ks) (length os) ∷ [] in
    let lack = all_lack ks os f.kinds_known f.ops_known (omega (arith, f.kinds_within)) (omega (arith, f.ops_within)) in
    let lines = line_pieces (cell_lines ks os ++ ended) lack ∙ append_assoc (cell_lines ks os) ended ([] ∷ []) ∙ sym (regroup ks os (ended ++ ([] ∷ []))) in
    let within : Within (length ks) (length os) ts ms = record { kinds = f.kinds_within; ops = f.ops_within } in
    ap (λ ls. reads ls 1 start ts ms) lines
    ∙ next_line header_line (map kind_line ks ++ (map op_line os ++ (ended ++ ([] ∷ [])))) 1 start ts ms (simp (length-append) (omega arith))
    ∙ kinds_back ks os 2 0 ts ms (length ks) (length os) (omega arith) refl f.kinds_known f.ops_known within
    ∙ ap (λ xs. left (Ok (length ks, length os)) xs (puts 0 os ms)) (puts_front ks ts f.kinds_within.1)
    ∙ ap (λ xs. left (Ok (length ks, length os)) (fronted ks ts) xs) (puts_front os ms f.ops_within.1)

-- what a read has done, by cases on its answer
done : (text : List ℕ) (ts : List TypeCell) (ms : List TermCell) (r : Result (ℕ × ℕ) ReadFault) (us : List TypeCell) (ns : List TermCell)
    → left r us ns ≡ reading text ts ms → Done text ts ms r us ns
done text ts ms (Ok n) us ns e =
    let (ks, os, is, fit, all) = accepted text ts ms n (sym (ap (λ (o : Outcome). o.answer) e)) in
    let same = e ∙ all in
    let counted : n ≡ (length ks, length os) = cc (ap (λ (o : Outcome). o.answer) same) in
    (ks, os, is, fit, counted, ap (λ (o : Outcome). o.types) same, ap (λ (o : Outcome). o.terms) same)
done text ts ms (Err f) us ns e =
    let (ks, os, lines, fit, all) = refused text ts ms f (sym (ap (λ (o : Outcome). o.answer) e)) in
    let same = e ∙ all in (
      (λ ks os fit is. no_ok (ap (λ (o : Outcome). o.answer) (e ∙ ap (λ t. reading t ts ms) is ∙ read_back ks os ts ms fit))),
      (ks, os, lines, ap (λ (o : Outcome). o.types) same, ap (λ (o : Outcome). o.terms) same),
    )

bounded : (text : List ℕ) (ts : List TypeCell) (ms : List TermCell) (r : Result (ℕ × ℕ) ReadFault) (us : List TypeCell) (ns : List TermCell)
    → left r us ns ≡ reading text ts ms → Bounded r ts ms
bounded text ts ms (Ok n) us ns e =
    let (ks, os, is, fit, counted, u, v) = done text ts ms (Ok n) us ns e in
    let k = ap (λ (m : ℕ × ℕ). m.0) counted in
    let o = ap (λ (m : ℕ × ℕ). m.1) counted in
    omega (arith, k, o, fit.kinds_within, fit.ops_within)
bounded text ts ms (Err f) us ns e = tt

-- what `read` ensures, from what it leaves and what then stands in the tables
pub ensured : (text : List ℕ) (ts : List TypeCell) (ms : List TermCell) {r : Result (ℕ × ℕ) ReadFault} {us vs : List TypeCell} {ns os : List TermCell}
    → left r us ns ≡ reading text ts ms → vs ≡ us → os ≡ ns
    → record { answer : r ≡ (reading text ts ms).answer; types : vs ≡ (reading text ts ms).types; terms : os ≡ (reading text ts ms).terms; stored : Done text ts ms r vs os; within : Bounded r ts ms; first : Answers (pieces 10 text) (length ts) (length ms) r }
ensured text ts ms {r} {us} {vs} {ns} {os} e u n =
    let f = ap (λ xs. left r xs os) u ∙ ap (left r us) n ∙ e in
    record {
      answer = ap (λ (o : Outcome). o.answer) f;
      types = ap (λ (o : Outcome). o.types) f;
      terms = ap (λ (o : Outcome). o.terms) f;
      stored = done text ts ms r vs os f;
      within = bounded text ts ms r vs os f;
      first = first_line_is text ts ms r (ap (λ (o : Outcome). o.answer) f);
    }

pub exact : Exact
exact = record {
  done = λ text ts ms. done text ts ms _ _ _ refl;
  read_back = read_back;
  numbers = number_is;
  numbers_back = decimal_number;
}
