-- The lines of a program are read back to its cells.
use Rattle.std.proofs.Common.{◌≡◌, ℕ, ◌+◌, ◌<◌, ◌≤◌, true, cond, eqb, List, [], ◌∷◌, ◌++◌, map, length, set, Ok, Err, decimal, Result, sym, refl, ap, ◌∙◌, arith}
use Rattle.std.specs.List.{AllByRecursion}
use Rattle.std.proofs.lemmas.List.{length-set, length-append}
use Rattle.std.proofs.lemmas.Bool.{and_from, cond-true, eq-eqb}
use Rattle.calculus.specs.declared.cells.TermCell.{TermCell}
use Rattle.calculus.specs.declared.cells.TypeCell.{TypeCell}
use Rattle.reader.specs.declared.faults.ReadReason.{ReadReason}
use Rattle.reader.specs.declared.faults.ReadReason.TheVariants as reason
use Rattle.reader.specs.declared.sections.Section.{Section}
use Rattle.reader.specs.declared.sections.Section.TheVariants as section
use Rattle.reader.specs.Cells.{two_numbers, has_room}
use Rattle.reader.specs.Lines.{Said, term, counts, said, ended}
use Rattle.reader.specs.Reading.{Place, Outcome, left, with_kind, to_kinds, with_op, to_ops, line_in, line_read, by_answer, after_line, closed, reads}
use Rattle.reader.specs.Stored.{kind_line, op_line, end_line, KindKnown, OpKnown}
use Rattle.reader.proofs.Came.{place, InBody, Within}
use Rattle.reader.proofs.Spellings.{said_kind, kind_back, said_op, op_back, said_end, numbers_back}
use Rattle.reader.proofs.Tables.{puts, room_has}
use Rattle.reader.proofs.Turns.{next_line}

module _ (due k o : ℕ) (ts : List TypeCell) (ms : List TermCell) (more : Place → List TypeCell → List TermCell → Outcome) where
  abbrev then_more : Place → Said → Outcome
  then_more p s = after_line due (line_read p s ts ms) more

  kind_turn : (c : TypeCell) → KindKnown c → has_room 256 ts k ≡ true → then_more (place section.Types k o) (said (kind_line c)) ≡ more (place section.Types (k + 1) o) (set ts k c) ms
  kind_turn c h room =
      let p = place section.Types k o in
      ap (then_more p) (said_kind c h)
      ∙ ap (λ (r : Result TypeCell ReadReason). after_line due (with_kind p r ts ms) more) (kind_back c h)
      ∙ ap (λ b. by_answer due (to_kinds p (cond b (Ok (k + 1)) (Err reason.Full))) (cond b (set ts k c) ts) ms more) room

  op_turn : (sec : Section) (c : TermCell) → InBody sec → OpKnown c → has_room 512 ms o ≡ true
      → then_more (place sec k o) (said (op_line c)) ≡ more (place section.Terms k (o + 1)) ts (set ms o c)
  op_turn sec c b h room =
      let p = place section.Terms k o in
      ap (then_more (place sec k o)) (said_op c h) ∙ in_terms sec b
      ∙ ap (λ (r : Result TermCell ReadReason). after_line due (with_op p r ts ms) more) (op_back c h)
      ∙ ap (λ b. by_answer due (to_ops p (cond b (Ok (o + 1)) (Err reason.Full))) ts (cond b (set ms o c) ms) more) room
    where
      in_terms : (sec : Section) → InBody sec
          → then_more (place sec k o) (term (c.op ∷ []) (decimal c.argument) (decimal c.claim))
          ≡ then_more (place section.Terms k o) (term (c.op ∷ []) (decimal c.argument) (decimal c.claim))
      in_terms section.Header b = absurd b
      in_terms section.Types b = refl
      in_terms section.Terms b = refl
      in_terms (section.End i j) b = absurd b

  end_turn : (sec : Section) → InBody sec → k ≤ 65535 → o ≤ 65535 → then_more (place sec k o) (said (end_line k o)) ≡ more (place (section.End k o) k o) ts ms
  end_turn sec b h i =
      ap (then_more (place sec k o)) (said_end k o h i) ∙ to_end sec b
      ∙ ap (λ (r : Result (ℕ × ℕ) ReadReason). after_line due (line_in (place sec k o) (ended r) (counts (decimal k) (decimal o)) ts ms) more) (numbers_back k o h i)
    where
      to_end : (sec : Section) → InBody sec → then_more (place sec k o) (counts (decimal k) (decimal o))
          ≡ after_line due (line_in (place sec k o) (ended (two_numbers (decimal k) (decimal o))) (counts (decimal k) (decimal o)) ts ms) more
      to_end section.Header b = absurd b
      to_end section.Types b = refl
      to_end section.Terms b = refl
      to_end (section.End i j) b = absurd b

-- counts that are those of the cells
agree_back : (k o due : ℕ) → closed [] due (place (section.End k o) k o) ≡ Ok (k, o)
agree_back k o due = cond-true _ _ _ (and_from (eqb k k) (eqb o o) (eq-eqb k k refl) (eq-eqb o o refl))

some_end : {X : Type 0} (xs ys : List X) → 0 < length ys → 0 < length (xs ++ ys)
some_end xs ys h = simp length-append (omega arith)

pub ops_back : (os : List TermCell) (due : ℕ) (sec : Section) (k o : ℕ) (ts : List TypeCell) (ms : List TermCell) (n : ℕ)
    → n ≡ o + length os → InBody sec → AllByRecursion OpKnown os → Within k n ts ms
    → reads (map op_line os ++ (end_line k n ∷ [] ∷ [])) due (place sec k o) ts ms ≡ left (Ok (k, n)) ts (puts o os ms)
ops_back [] due sec k o ts ms n e b h w =
    ap (λ i. reads (end_line k i ∷ [] ∷ []) due (place sec k o) ts ms) is
    ∙ end_turn due k o ts ms (reads ([] ∷ []) (due + 1)) sec b (omega (arith, w.kinds)) (omega (arith, w.ops))
    ∙ ap (λ r. left r ts ms) (agree_back k o (due + 1)) ∙ ap (λ i. left (Ok (k, i)) ts ms) (sym is)
  where
    is : n ≡ o
    is = omega arith
ops_back (c ∷ os) due sec k o ts ms n e b h w =
    let rest = map op_line os ++ (end_line k n ∷ [] ∷ []) in
    next_line (op_line c) rest due (place sec k o) ts ms (some_end (map op_line os) (end_line k n ∷ [] ∷ []) (omega arith))
    ∙ op_turn due k o ts ms (reads rest (due + 1)) sec c b h.0 (room_has 512 ms o (omega (arith, w.ops)) (omega (arith, w.ops)))
    ∙ ops_back os (due + 1) section.Terms k (o + 1) ts (set ms o c) n (omega arith) tt h.1 (record { kinds = w.kinds; ops = omega (arith, w.ops, length-set ms o c) })

pub kinds_back : (ks : List TypeCell) (os : List TermCell) (due k : ℕ) (ts : List TypeCell) (ms : List TermCell) (m n : ℕ)
    → m ≡ k + length ks → n ≡ length os → AllByRecursion KindKnown ks → AllByRecursion OpKnown os → Within m n ts ms
    → reads (map kind_line ks ++ (map op_line os ++ (end_line m n ∷ [] ∷ []))) due (place section.Types k 0) ts ms ≡ left (Ok (m, n)) (puts k ks ts) (puts 0 os ms)
kinds_back [] os due k ts ms m n e f h i w =
    ap (λ j. reads (map op_line os ++ (end_line j n ∷ [] ∷ [])) due (place section.Types k 0) ts ms) is
    ∙ ops_back os due section.Types k 0 ts ms n (omega arith) tt i (record { kinds = omega (arith, w.kinds); ops = w.ops })
    ∙ ap (λ j. left (Ok (j, n)) ts (puts 0 os ms)) (sym is)
  where
    is : m ≡ k
    is = omega arith
kinds_back (c ∷ ks) os due k ts ms m n e f h i w =
    let rest = map kind_line ks ++ (map op_line os ++ (end_line m n ∷ [] ∷ [])) in
    let some = some_end (map kind_line ks) (map op_line os ++ (end_line m n ∷ [] ∷ [])) (some_end (map op_line os) (end_line m n ∷ [] ∷ []) (omega arith)) in
    next_line (kind_line c) rest due (place section.Types k 0) ts ms some
    ∙ kind_turn due k 0 ts ms (reads rest (due + 1)) c h.0 (room_has 256 ts k (omega (arith, w.kinds)) (omega (arith, w.kinds)))
    ∙ kinds_back ks os (due + 1) (k + 1) (set ts k c) ms m n (omega arith) f h.1 i (record { kinds = omega (arith, w.kinds, length-set ts k c); ops = w.ops })
