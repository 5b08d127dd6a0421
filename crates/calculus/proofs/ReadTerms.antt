-- Terms read back from their cells.
use Rattle.std.proofs.Common.{◌≡◌, ℕ, zero, suc, ◌+◌, ◌-◌, ◌<◌, ◌≤◌, Bool, true, false, cond, T, eqb, ◌⊎◌, List, [], ◌∷◌, ◌++◌, length, drop, sym, refl, ap, ◌∙◌, ap₂, inl, inr, arith}
use Rattle.std.specs.List.{flat_map}
use Rattle.std.proofs.lemmas.Bool.{eqb-true, ltb-true}
use Rattle.std.proofs.lemmas.List.{append_assoc, length-append}
use Rattle.trees.specs.Whole.{height}
use Rattle.calculus.specs.declared.cells.TermCell.{TermCell}
use Rattle.calculus.specs.declared.gates.Gate.{Gate}
use Rattle.calculus.specs.declared.gates.Gate.TheVariants.{H, X, Z, S, Cnot, Swap, Toffoli}
use Rattle.calculus.specs.declared.gates.Gate.TheVariants.{T as gate_t}
use Rattle.calculus.specs.Gates.{number_of, gate_of}
use Rattle.calculus.specs.Letters.{Letter, at_v, at_q, at_g, at_0, at_1, at_m, at_n, at_s, at_l, at_a, at_p, at_d, at_i, other, letter, parts_of, arguments_of, allowed, arity}
use Rattle.calculus.specs.Terms.{bit_of, meas, new, gate, bound, held, Term, var, const, star, lam, app, pair, if_then_else, let_pair, size}
use Rattle.calculus.specs.Cells.{cell_of, placed_cells}
use Rattle.calculus.specs.Reading.{top, or_toffoli, no_term, read_term, terms_of, term_at, TermsStand}
use Rattle.calculus.proofs.Reading as reading

gate_back : (u : Gate) → or_toffoli (gate_of (number_of u)) ≡ u
gate_back H = refl
gate_back X = refl
gate_back Z = refl
gate_back S = refl
gate_back gate_t = refl
gate_back Cnot = refl
gate_back Swap = refl
gate_back Toffoli = refl

-- the cells of a term, read
pub read_back : (m : Term ℕ) (cs : List TermCell) → terms_of (placed_cells m ++ cs) ≡ m ∷ terms_of cs
read_back (var c (bound i)) cs = refl
read_back (var c (held h)) cs = refl
read_back (const c (bit_of false)) cs = refl
read_back (const c (bit_of true)) cs = refl
read_back (const c meas) cs = refl
read_back (const c new) cs = refl
read_back (const c (gate u)) cs = ap (λ u. const c (gate u) ∷ terms_of cs) (gate_back u)
read_back (star c) cs = refl
read_back (lam c m) cs = simp (read_back m cs)
read_back (app c m n) cs = simp (append_assoc, read_back m (placed_cells n ++ cs), read_back n cs)
read_back (pair c m n) cs = simp (append_assoc, read_back m (placed_cells n ++ cs), read_back n cs)
read_back (if_then_else c p m n) cs = simp (append_assoc, read_back p (placed_cells m ++ (placed_cells n ++ cs)), read_back m (placed_cells n ++ cs), read_back n cs)
read_back (let_pair c m n) cs = simp (append_assoc, read_back m (placed_cells n ++ cs), read_back n cs)

pub terms_read : (ms : List (Term ℕ)) → terms_of (flat_map placed_cells ms) ≡ ms
terms_read [] = refl
terms_read (m ∷ ms) = read_back m (flat_map placed_cells ms) ∙ ap (λ ns. m ∷ ns) (terms_read ms)

abbrev pub code : Letter → ℕ
code at_v = 118
code at_q = 113
code at_g = 103
code at_0 = 48
code at_1 = 49
code at_m = 109
code at_n = 110
code at_s = 115
code at_l = 108
code at_a = 97
code at_p = 112
code at_d = 100
code at_i = 105
code other = 0

-- the code of a known letter
abbrev pub Coded : ℕ → Letter → Type 0
Coded op l = (l ≡ other) ⊎ (op ≡ code l)

-- one test after the other
tested : (op k : ℕ) (l m : Letter) → k ≡ code l → Coded op m → Coded op (cond (eqb op k) l m)
tested op k l m e f = go (eqb op k) refl
  where
    go : (b : Bool) → eqb op k ≡ b → Coded op (cond b l m)
    go true t = inr (eqb-true op k t ∙ e)
    go false t = f

pub coded : (op : ℕ) → Coded op (letter op)
coded op =
    tested op 118 at_v _ refl
    (tested op 113 at_q _ refl
    (tested op 103 at_g _ refl
    (tested op 48 at_0 _ refl
    (tested op 49 at_1 _ refl
    (tested op 109 at_m _ refl
    (tested op 110 at_n _ refl
    (tested op 115 at_s _ refl
    (tested op 108 at_l _ refl
    (tested op 97 at_a _ refl
    (tested op 112 at_p _ refl
    (tested op 100 at_d _ refl
    (tested op 105 at_i other refl (inl refl)))))))))))))

gate_written : (x : ℕ) → x < 8 → number_of (or_toffoli (gate_of x)) ≡ x
gate_written zero h = refl
gate_written (suc zero) h = refl
gate_written (suc (suc zero)) h = refl
gate_written (suc (suc (suc zero))) h = refl
gate_written (suc (suc (suc (suc zero)))) h = refl
gate_written (suc (suc (suc (suc (suc zero))))) h = refl
gate_written (suc (suc (suc (suc (suc (suc zero)))))) h = refl
gate_written (suc (suc (suc (suc (suc (suc (suc zero))))))) h = refl
gate_written (suc (suc (suc (suc (suc (suc (suc (suc x)))))))) h = absurd (omega arith)

-- one cell more in front of what is read
abbrev More : Letter → ℕ → ℕ → List (Term ℕ) → Type 0
More l x c ms = (cell_of (code l) x c ∷ flat_map placed_cells ms ≡ flat_map placed_cells (read_term l x c ms)) × (length (read_term l x c ms) ≡ length ms - parts_of l + 1)

leaf : (l : Letter) (x c : ℕ) (ms : List (Term ℕ)) → x < 1 → More l 0 c ms → More l x c ms
leaf l zero c ms h m = m
leaf l (suc x) c ms h m = absurd (omega arith)

one_part : (c : ℕ) (ms : List (Term ℕ)) → 1 ≤ length ms → More at_l 0 c ms
one_part c [] h = absurd (omega arith)
one_part c (m ∷ ms) h = (refl, omega arith)

two_parts : (c : ℕ) (ms : List (Term ℕ)) → 2 ≤ length ms → More at_a 0 c ms × More at_p 0 c ms × More at_d 0 c ms
two_parts c [] h = absurd (omega arith)
two_parts c (m ∷ []) h = absurd (omega arith)
two_parts c (m ∷ n ∷ ms) h =
    let e = sym (append_assoc (placed_cells m) (placed_cells n) (flat_map placed_cells ms)) in
    ((ap (λ cs. cell_of 97 0 c ∷ cs) e, omega arith), (ap (λ cs. cell_of 112 0 c ∷ cs) e, omega arith), (ap (λ cs. cell_of 100 0 c ∷ cs) e, omega arith))

three_parts : (c : ℕ) (ms : List (Term ℕ)) → 3 ≤ length ms → More at_i 0 c ms
three_parts c [] h = absurd (omega arith)
three_parts c (p ∷ []) h = absurd (omega arith)
three_parts c (p ∷ m ∷ []) h = absurd (omega arith)
three_parts c (p ∷ m ∷ n ∷ ms) h =
    (ap (λ cs. cell_of 105 0 c ∷ cs) (ap (λ cs. placed_cells p ++ cs) (sym (append_assoc (placed_cells m) (placed_cells n) _)) ∙ sym (append_assoc (placed_cells p) (placed_cells m ++ placed_cells n) _)), omega arith)

more_at : (l : Letter) (x c : ℕ) (ms : List (Term ℕ)) → x < arguments_of l → parts_of l ≤ length ms → More l x c ms
more_at at_v x c ms a h = (refl, omega arith)
more_at at_q x c ms a h = (refl, omega arith)
more_at at_g x c ms a h = (ap (λ y. cell_of 103 y c ∷ flat_map placed_cells ms) (sym (gate_written x a)), omega arith)
more_at at_0 x c ms a h = leaf at_0 x c ms a (refl, omega arith)
more_at at_1 x c ms a h = leaf at_1 x c ms a (refl, omega arith)
more_at at_m x c ms a h = leaf at_m x c ms a (refl, omega arith)
more_at at_n x c ms a h = leaf at_n x c ms a (refl, omega arith)
more_at at_s x c ms a h = leaf at_s x c ms a (refl, omega arith)
more_at at_l x c ms a h = leaf at_l x c ms a (one_part c ms h)
more_at at_a x c ms a h = leaf at_a x c ms a (two_parts c ms h).0
more_at at_p x c ms a h = leaf at_p x c ms a (two_parts c ms h).1
more_at at_d x c ms a h = leaf at_d x c ms a (two_parts c ms h).2
more_at at_i x c ms a h = leaf at_i x c ms a (three_parts c ms h)
more_at other x c ms a h = absurd (omega arith)

abbrev read_cell : TermCell → List (Term ℕ) → List (Term ℕ)
read_cell c ms = read_term (letter c.op) c.argument c.claim ms

more : (c : TermCell) (ms : List (Term ℕ)) → T (allowed c) → arity c ≤ length ms → (c ∷ flat_map placed_cells ms ≡ flat_map placed_cells (read_cell c ms)) × (length (read_cell c ms) ≡ length ms - arity c + 1)
more c ms k h = go (letter c.op) (coded c.op) (ltb-true c.argument (arguments_of (letter c.op)) (reading.T_true _ k)) h
  where
    go : (l : Letter) → Coded c.op l → c.argument < arguments_of l → parts_of l ≤ length ms
        → (c ∷ flat_map placed_cells ms ≡ flat_map placed_cells (read_term l c.argument c.claim ms)) × (length (read_term l c.argument c.claim ms) ≡ length ms - parts_of l + 1)
    go l (inl e) a h = absurd (omega (arith, ap arguments_of e))
    go l (inr e) a h =
        let m = more_at l c.argument c.claim ms a h in
        (ap (λ op. cell_of op c.argument c.claim ∷ flat_map placed_cells ms) e ∙ m.0, m.1)

pub written : (cs : List TermCell) → TermsStand cs → (cs ≡ flat_map placed_cells (terms_of cs)) × (length (terms_of cs) ≡ height arity cs)
written = reading.written allowed arity placed_cells read_cell terms_of refl (λ c cs. refl) more

-- The cells of the term m stand at the place p.
abbrev pub At : List TermCell → ℕ → Term ℕ → Type 0
At cs p m = (ds : List TermCell) × (drop p cs ≡ placed_cells m ++ ds)

pub at_place : (cs : List TermCell) (p : ℕ) → TermsStand cs → p < length cs → At cs p (term_at cs p)
at_place = reading.placed allowed arity placed_cells read_cell terms_of refl (λ c cs. refl) more no_term

pub at_is : (cs : List TermCell) (p : ℕ) (m : Term ℕ) → At cs p m → term_at cs p ≡ m
at_is cs p m (ds, e) = ap (λ xs. top no_term (terms_of xs)) e ∙ ap (top no_term) (read_back m ds)

pub cells_counted : (m : Term ℕ) → length (placed_cells m) ≡ size m
cells_counted (var c x) = refl
cells_counted (const c k) = refl
cells_counted (star c) = refl
cells_counted (lam c m) = ap suc (cells_counted m)
cells_counted (app c m n) = ap suc (length-append (placed_cells m) (placed_cells n) ∙ ap₂ ◌+◌ (cells_counted m) (cells_counted n))
cells_counted (pair c m n) = ap suc (length-append (placed_cells m) (placed_cells n) ∙ ap₂ ◌+◌ (cells_counted m) (cells_counted n))
cells_counted (if_then_else c p m n) =
    ap suc (length-append (placed_cells p) (placed_cells m ++ placed_cells n) ∙ ap₂ ◌+◌ (cells_counted p) (length-append (placed_cells m) (placed_cells n) ∙ ap₂ ◌+◌ (cells_counted m) (cells_counted n)))
cells_counted (let_pair c m n) = ap suc (length-append (placed_cells m) (placed_cells n) ∙ ap₂ ◌+◌ (cells_counted m) (cells_counted n))
