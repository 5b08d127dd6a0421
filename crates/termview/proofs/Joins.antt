-- Texts that are appended one after the other.
use Rattle.std.proofs.Common.{◌<◌, [], ◌∷◌, length, codes, arith, ◌≡◌, ℕ, ◌+◌, Bool, cond, List, ◌++◌, Option, Ok, Err, Result, OnOk, is_ok, get_or, append_assoc, add-one, sym, ap, ◌∙◌}
use Rattle.calculus.specs.declared.cells.TermCell.{TermCell}
use Rattle.calculus.specs.declared.cells.TypeCell.{TypeCell}
use Rattle.notation.specs.Terms.{term_trees}
use Rattle.termview.specs.Layout.{TermsLaid}
use Rattle.termview.specs.View.{TableOf}
use Rattle.termview.specs.Rows.{rows_text, depths, is_marked, row_text, rows_before}

-- what follows where all went well
pub on_ok : {A E : Type 0} {P Q : Type 0} (r : Result A E) → (P → Q) → OnOk r P → OnOk r Q
on_ok (Ok x) f h = f h
on_ok (Err e) f h = h

-- what follows of a text that was appended
pub on_push : {A E : Type 0} {P : Type 0} (r : Result A E) (x y z : List ℕ) → x ≡ cond (is_ok r) y z → (x ≡ y → P) → OnOk r P
on_push (Ok v) x y z e f = f e
on_push (Err v) x y z e f = tt

-- six texts in a row
pub six : (o o1 o2 o3 o4 o5 o6 p l t s k n : List ℕ) → o1 ≡ o ++ p → o2 ≡ o1 ++ l → o3 ≡ o2 ++ t → o4 ≡ o3 ++ s → o5 ≡ o4 ++ k → o6 ≡ o5 ++ n
    → o6 ≡ o ++ (p ++ (l ++ (t ++ (s ++ (k ++ n)))))
six o o1 o2 o3 o4 o5 o6 p l t s k n e1 e2 e3 e4 e5 e6 =
    e6 ∙ ap (λ x. x ++ n) (e5 ∙ ap (λ x. x ++ k) (e4 ∙ ap (λ x. x ++ s) (e3 ∙ ap (λ x. x ++ t) (e2 ∙ ap (λ x. x ++ l) e1))))
    ∙ append_assoc ((((o ++ p) ++ l) ++ t) ++ s) k n
    ∙ append_assoc (((o ++ p) ++ l) ++ t) s (k ++ n)
    ∙ append_assoc ((o ++ p) ++ l) t (s ++ (k ++ n))
    ∙ append_assoc (o ++ p) l (t ++ (s ++ (k ++ n)))
    ∙ append_assoc o p (l ++ (t ++ (s ++ (k ++ n))))

-- a row more
pub row_more : (types : List TypeCell) (terms : List TermCell) (marked : Option ℕ) (at b : ℕ) (m : Bool) (old new newer : List ℕ)
    → b ≡ get_or (depths types terms) at 0 → m ≡ is_marked marked at
    → new ≡ old ++ rows_before types terms at marked → newer ≡ new ++ row_text types terms at b m
    → newer ≡ old ++ rows_before types terms (at + 1) marked
row_more types terms marked at b m old new newer e f g h =
    h ∙ ap (λ x. x ++ row_text types terms at b m) g
    ∙ append_assoc old (rows_before types terms at marked) (row_text types terms at b m)
    ∙ ap (λ x. old ++ (rows_before types terms at marked ++ x)) (ap (λ k. row_text types terms at k m) e ∙ ap (row_text types terms at (get_or (depths types terms) at 0)) f)
    ∙ ap (λ k. old ++ rows_before types terms k marked) (sym (add-one at))

-- a table in its parts
pub table_shown : (types : List TypeCell) (terms : List TermCell) (marked : Option ℕ) (o o1 o2 o3 o4 o5 o6 laid : List ℕ)
    → 0 < length terms → o1 ≡ o ++ codes "term\n" → o2 ≡ o1 ++ laid → o3 ≡ o2 ++ codes "\n    cell  line  letter  term"
    → o4 ≡ o3 ++ codes "                                            claims\n" → o5 ≡ o4 ++ rows_text types terms marked → o6 ≡ o5 ++ codes "\n"
    → TermsLaid (term_trees terms) laid → TableOf types terms marked o o6
table_shown types [] marked o o1 o2 o3 o4 o5 o6 laid n e1 e2 e3 e4 e5 e6 h = absurd (omega (arith, n))
table_shown types (c ∷ cs) marked o o1 o2 o3 o4 o5 o6 laid n e1 e2 e3 e4 e5 e6 h = record {
  laid = laid;
  lines = h;
  text =
      six o o1 o2 o3 o4 o5 o6 (codes "term\n") laid (codes "\n    cell  line  letter  term") (codes "                                            claims\n") (rows_text types (c ∷ cs) marked) (codes "\n") e1 e2 e3 e4 e5 e6
      ∙ ap (λ x. o ++ (codes "term\n" ++ (laid ++ x)))
      (sym (append_assoc (codes "\n    cell  line  letter  term") (codes "                                            claims\n") (rows_text types (c ∷ cs) marked ++ codes "\n")));
}
