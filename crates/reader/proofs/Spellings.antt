-- The bytes of a line, from what it says, and back.
use Rattle.std.proofs.Common.{◌≡◌, ℕ, ◌≤◌, Bool, true, false, cond, List, [], ◌∷◌, ◌++◌, Some, None, Ok, Err, decimal, Option, Result, sym, refl, ap, ◌∙◌, subst, arith}
use Rattle.std.specs.Str.{bytes_eq}
use Rattle.std.proofs.lemmas.Slice.Eq.{bytes_eq-Decides}
use Rattle.std.proofs.lemmas.Bool.{cond_both, cond-true, false≢true}
use Rattle.calculus.specs.declared.cells.TermCell.{TermCell}
use Rattle.calculus.specs.declared.cells.TypeCell.{TypeCell}
use Rattle.reader.specs.declared.faults.ReadReason.{ReadReason}
use Rattle.reader.specs.declared.faults.ReadReason.TheVariants.{Line}
use Rattle.reader.specs.Cells.{is_kind, is_op, kind_cell, op_cell, op_at, two_numbers, both}
use Rattle.reader.specs.Lines.{Said, header, kind, term, counts, other, header_line, said, said_fields}
use Rattle.reader.specs.Numbers.{number_in}
use Rattle.reader.specs.Pieces.{pieces}
use Rattle.reader.specs.Stored.{kind_line, op_line, end_line, KindKnown, OpKnown}
use Rattle.reader.proofs.Cuts.{at_other, then_cut}
use Rattle.reader.proofs.Decimals.{number_is, decimal_number, decimal_lacks}
use Rattle.reader.proofs.Marks.{glued, glue, lone, cut_off}

-- the bytes of a line that says this
abbrev pub Spelled : Said → List ℕ → Type 0
Spelled header l = l ≡ header_line
Spelled (kind f) l = l ≡ 84 ∷ 9 ∷ f
Spelled (term f g h) l = l ≡ 77 ∷ 9 ∷ (f ++ (9 ∷ (g ++ (9 ∷ h))))
Spelled (counts f g) l = l ≡ 69 ∷ 9 ∷ (f ++ (9 ∷ g))
Spelled other l = Unit {0}

by_letter : (a letter : List ℕ) (s : Said) (l : List ℕ) → (a ≡ letter → Spelled s l) → Spelled (cond (bytes_eq a letter) s other) l
by_letter a letter s l h = cond_both (bytes_eq a letter) s other (λ t. Spelled t l) (λ e. h ((bytes_eq-Decides a letter).0 e)) (λ e. tt)

by_pieces : (l : List ℕ) (ps : List (List ℕ)) → glued 9 ps ≡ l → Spelled (said_fields ps) l
by_pieces l [] e = tt
by_pieces l (a ∷ []) e = tt
by_pieces l (a ∷ f ∷ []) e = by_letter a (84 ∷ []) (kind f) l (λ s. sym e ∙ ap (λ x. x ++ (9 ∷ f)) s)
by_pieces l (a ∷ f ∷ g ∷ []) e = by_letter a (69 ∷ []) (counts f g) l (λ s. sym e ∙ ap (λ x. x ++ (9 ∷ (f ++ (9 ∷ g)))) s)
by_pieces l (a ∷ f ∷ g ∷ h ∷ []) e = by_letter a (77 ∷ []) (term f g h) l (λ s. sym e ∙ ap (λ x. x ++ (9 ∷ (f ++ (9 ∷ (g ++ (9 ∷ h)))))) s)
by_pieces l (a ∷ f ∷ g ∷ h ∷ i ∷ ps) e = tt

pub spelled : (l : List ℕ) → Spelled (said l) l
spelled l = cond_both (bytes_eq l header_line) header (said_fields (pieces 9 l)) (λ s. Spelled s l) (λ e. (bytes_eq-Decides l header_line).0 e) (λ e. by_pieces l (pieces 9 l) (glue 9 l))

-- from fields to cells
pub no_ok : {X Y : Type 0} {P : Type 0} {e : Y} {x : X} → Err e ≡ Ok x → P
no_ok h = let z : ◌≡◌ {A = ℕ} 0 1 = cc in absurd (omega arith)

if_ok : {X Y : Type 0} (b : Bool) (r : Result X Y) (e : Y) (x : X) → cond b r (Err e) ≡ Ok x → (b ≡ true) × (r ≡ Ok x)
if_ok true r e x h = (refl, h)
if_ok false r e x h = no_ok h

pub kind_is : (l f : List ℕ) (c : TypeCell) → Spelled (kind f) l → kind_cell f ≡ Ok c → (l ≡ kind_line c) × KindKnown c
kind_is l [] c s h = no_ok h
kind_is l (k ∷ []) c s h =
    let p = if_ok (is_kind k) (Ok (record { kind = k })) Line c h in
    let e : record { kind = k } ≡ c = cc p.1 in
    (s ∙ ap kind_line e, subst KindKnown e p.0)
kind_is l (k ∷ j ∷ f) c s h = no_ok h

both_are : (x y : Option ℕ) (n : ℕ × ℕ) → both x y ≡ Ok n → (x ≡ Some n.0) × (y ≡ Some n.1)
both_are None y n h = no_ok h
both_are (Some j) None n h = no_ok h
both_are (Some j) (Some k) n h = let e : (j, k) ≡ n = cc in (ap (λ (m : ℕ × ℕ). Some m.0) e, ap (λ (m : ℕ × ℕ). Some m.1) e)

numbers_are : (f g : List ℕ) (n : ℕ × ℕ) → two_numbers f g ≡ Ok n → (f ≡ decimal n.0) × (g ≡ decimal n.1) × (n.0 ≤ 65535) × (n.1 ≤ 65535)
numbers_are f g n h =
    let b = both_are (number_in f) (number_in g) n h in
    let j = number_is f n.0 b.0 in
    let k = number_is g n.1 b.1 in
    (j.0, k.0, j.1, k.1)

pub end_is : (l f g : List ℕ) (n : ℕ × ℕ) → Spelled (counts f g) l → two_numbers f g ≡ Ok n → l ≡ end_line n.0 n.1
end_is l f g n s h = let p = numbers_are f g n h in s ∙ ap (λ x. 69 ∷ 9 ∷ (x ++ (9 ∷ g))) p.0 ∙ ap (λ x. 69 ∷ 9 ∷ (decimal n.0 ++ (9 ∷ x))) p.1

op_made : (o : ℕ) (g h : List ℕ) (r : Result (ℕ × ℕ) ReadReason) (c : TermCell) → is_op o ≡ true → two_numbers g h ≡ r → op_at o r ≡ Ok c
    → (77 ∷ 9 ∷ o ∷ 9 ∷ (g ++ (9 ∷ h)) ≡ op_line c) × OpKnown c
op_made o g h (Err e) c k t m = no_ok m
op_made o g h (Ok n) c k t m =
    let p = numbers_are g h n t in
    let e : record { op = o; argument = n.0; claim = n.1 } ≡ c = cc in (
      ap (λ x. 77 ∷ 9 ∷ o ∷ 9 ∷ (x ++ (9 ∷ h))) p.0 ∙ ap (λ x. 77 ∷ 9 ∷ o ∷ 9 ∷ (decimal n.0 ++ (9 ∷ x))) p.1 ∙ ap op_line e,
      subst OpKnown e (k, p.2, p.3),
    )

pub op_is : (l f g h : List ℕ) (c : TermCell) → Spelled (term f g h) l → op_cell f g h ≡ Ok c → (l ≡ op_line c) × OpKnown c
op_is l [] g h c s m = no_ok m
op_is l (o ∷ []) g h c s m =
    let p = if_ok (is_op o) (op_at o (two_numbers g h)) Line c m in
    let q = op_made o g h (two_numbers g h) c p.0 refl p.1 in
    (s ∙ q.0, q.1)
op_is l (o ∷ j ∷ f) g h c s m = no_ok m

-- from cells to fields
pub differs : (test : ℕ → Bool) (k m : ℕ) → test k ≡ true → test m ≡ false → k ≡ m → ⊥
differs test k m h n e = false≢true (sym n ∙ subst (λ x. test x ≡ true) e h)

one_byte : (b mark : ℕ) → (b ≡ mark → ⊥) → pieces mark (b ∷ []) ≡ (b ∷ []) ∷ []
one_byte b mark n = at_other mark b [] n

pub said_kind : (c : TypeCell) → KindKnown c → said (kind_line c) ≡ kind (c.kind ∷ [])
said_kind c k = ap (λ ps. said_fields ((84 ∷ []) ∷ ps)) (one_byte c.kind 9 (differs is_kind c.kind 9 k refl))

pub kind_back : (c : TypeCell) → KindKnown c → kind_cell (c.kind ∷ []) ≡ Ok c
kind_back c k = cond-true (is_kind c.kind) (Ok c) (Err Line) k

two_pieces : (j k : ℕ) → j ≤ 65535 → k ≤ 65535 → pieces 9 (decimal j ++ (9 ∷ decimal k)) ≡ decimal j ∷ decimal k ∷ []
two_pieces j k h i = then_cut (cut_off 9 (decimal j) (decimal k) (decimal_lacks 9 j (omega arith) (omega arith))) (lone 9 (decimal k) (decimal_lacks 9 k (omega arith) (omega arith)))

pub numbers_back : (j k : ℕ) → j ≤ 65535 → k ≤ 65535 → two_numbers (decimal j) (decimal k) ≡ Ok (j, k)
numbers_back j k h i = simp (decimal_number j h, decimal_number k i)

pub said_end : (j k : ℕ) → j ≤ 65535 → k ≤ 65535 → said (end_line j k) ≡ counts (decimal j) (decimal k)
said_end j k h i = ap (λ ps. said_fields ((69 ∷ []) ∷ ps)) (two_pieces j k h i)

pub said_op : (c : TermCell) → OpKnown c → said (op_line c) ≡ term (c.op ∷ []) (decimal c.argument) (decimal c.claim)
said_op c k =
    ap (λ ps. said_fields ((77 ∷ []) ∷ ps)) (at_other 9 c.op (9 ∷ (decimal c.argument ++ (9 ∷ decimal c.claim))) (differs is_op c.op 9 k.0 refl))
    ∙ ap (λ ps. said_fields ((77 ∷ []) ∷ (c.op ∷ []) ∷ ps)) (two_pieces c.argument c.claim k.1 k.2)

pub op_back : (c : TermCell) → OpKnown c → op_cell (c.op ∷ []) (decimal c.argument) (decimal c.claim) ≡ Ok c
op_back c k = cond-true (is_op c.op) _ (Err Line) k.0 ∙ ap (op_at c.op) (numbers_back c.argument c.claim k.1 k.2)
