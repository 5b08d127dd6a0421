-- The types and the terms of programs that spend pulses, hold qubits or run long; each node claims
-- a place of the type table.
use Rattle.std.specs.Prelude.{ℕ, zero, suc, ◌+◌, ◌-◌, ◌*◌, true, false, List, [], ◌∷◌, ◌++◌}
use Rattle.calculus.specs.Alphabet.{op_application, op_pair}
use Rattle.calculus.specs.declared.cells.TermCell.{TermCell}
use Rattle.calculus.specs.declared.gates.Gate.{Gate}
use Rattle.calculus.specs.declared.gates.Gate.TheVariants.{H}
use Rattle.calculus.specs.Types.{Ty, bit, qbit, unit, bang, arrow, tensor}
use Rattle.calculus.specs.Terms.{bit_of, meas, new, gate, bound}
use Rattle.calculus.specs.Terms.{Term, var, const, star, lam, app, pair, if_then_else, let_pair}
use Rattle.calculus.specs.Cells.{cell_of, placed_cells}
use Rattle.drafts.specs.Limits.{common_types, zero_bit, wrapped}

-- a function, applied so many times over to a term; each application claims a place c
abbrev pub applied : ℕ → ℕ → Term ℕ → Term ℕ → Term ℕ
applied zero c f m = m
applied (suc n) c f m = app c f (applied n c f m)

-- what is written before that term
abbrev pub applications : ℕ → ℕ → Term ℕ → List TermCell
applications zero c f = []
applications (suc n) c f = applications n c f ++ (cell_of op_application 0 c ∷ placed_cells f)

-- q at 0, q>q at 1, b>q at 4, and b at 7
abbrev pub pulse_types : List Ty
pulse_types = qbit ∷ arrow qbit qbit ∷ arrow bit qbit ∷ bit ∷ []

-- a new qubit, through so many gates less the pulse that makes it: H each time
abbrev pub pulsed : ℕ → Term ℕ
pulsed n = applied (n - 1) 0 (const 1 (gate H)) (app 0 (const 4 new) (const 7 (bit_of false)))

-- so many qubits, each the first of a pair with what follows, and a bit at the end
abbrev pub held_type : ℕ → Ty
held_type zero = bit
held_type (suc n) = tensor qbit (held_type n)

-- These at 0, with the bit at twice the count; and behind it, so far from it, b>q at 1, q>b at 4,
-- b>b at 7, and q at 10.
abbrev pub round_types : ℕ → List Ty
round_types n = held_type n ∷ arrow bit qbit ∷ arrow qbit bit ∷ arrow bit bit ∷ qbit ∷ []

-- a qubit that is made of a bit, where the bit's type is at a place b
abbrev pub made : ℕ → Term ℕ → Term ℕ
made b m = app (b + 10) (const (b + 1) new) m

-- such qubits in pairs from a place on, around a term
abbrev pub holding : ℕ → ℕ → ℕ → Term ℕ → Term ℕ
holding b p zero m = m
holding b p (suc n) m =
    pair p (made b (const b (bit_of true))) (holding b (p + 2) n m)

-- what is written before that term, where the first pair's place is 0
abbrev pub held_qubits : ℕ → ℕ → List TermCell
held_qubits b zero = []
held_qubits b (suc n) = held_qubits b n ++ (cell_of op_pair 0 (2 * n)
    ∷ placed_cells (made b (const b (bit_of true))))

-- a bit that so many times is made a qubit and read
abbrev pub reread_bit : ℕ → ℕ → Term ℕ
reread_bit b n = applied n b (lam (b + 7) (app b (const (b + 4) meas) (made b (var b (bound 0)))))
    (const b (bit_of false))

-- such a bit, behind so many held qubits
abbrev pub rounds_term : ℕ → ℕ → Term ℕ
rounds_term h n = holding (2 * h) 0 h (reread_bit (2 * h) n)

-- The shared types, and !(!(b>b)>!(b>b)) at 17, !(b>b)>(b>b) at 27, and !(!(b>b)>!(b>b))>b at 35.
abbrev pub doubling_types : List Ty
doubling_types = common_types ++ (bang (arrow (bang (arrow bit bit)) (bang (arrow bit bit)))
    ∷ arrow (bang (arrow bit bit)) (arrow bit bit)
    ∷ arrow (bang (arrow (bang (arrow bit bit)) (bang (arrow bit bit)))) bit ∷ [])

-- the identity, which the nearest variable doubles so many times, once at least
abbrev pub doubled_identity : ℕ → Term ℕ
doubled_identity n = app 1 (var 27 (bound 0))
    (applied (n - 1) 7 (var 18 (bound 0)) (lam 7 (var 0 (bound 0))))

-- a function of a function, which applies it twice
abbrev pub doubling_function : Term ℕ
doubling_function =
    lam 17 (lam 7 (app 0 (var 1 (bound 1)) (app 0 (var 1 (bound 1)) (var 0 (bound 0)))))

-- so many uses of it, around so many identities around a bit
abbrev pub doublings_term : ℕ → ℕ → ℕ → Term ℕ
doublings_term n d k =
    app 0 (lam 35 (applied n 0 (doubled_identity d) (wrapped k zero_bit))) doubling_function

-- a bit that may be copied, and a function of such bits that may be copied
abbrev pub free_bit : Ty
free_bit = bang bit

abbrev pub free_function : Ty
free_function = bang (arrow free_bit free_bit)

-- These at 0 and 7, their function at 2, a pair of these bits at 13, the copied function of copied
-- functions at 18, that with one function at the other's end at 32, and that of a turn at 44.
abbrev pub turn_types : List Ty
turn_types = free_bit ∷ arrow free_bit free_bit ∷ free_function ∷ tensor free_bit free_bit
    ∷ bang (arrow free_function free_function)
    ∷ arrow free_function (arrow free_bit free_bit)
    ∷ arrow (bang (arrow free_function free_function)) free_bit ∷ []

-- the negation of the nearest variable
abbrev pub negated : Term ℕ
negated = if_then_else 0 (var 1 (bound 0)) zero_bit (const 0 (bit_of true))

-- a function by which a function is made one that splits a pair and calls it once or twice
abbrev pub turning_function : Term ℕ
turning_function = lam 18 (lam 7 (let_pair 0 (pair 13 negated (var 0 (bound 0)))
    (if_then_else 0 (var 1 (bound 0))
    (app 0 (var 2 (bound 3)) (app 0 (var 2 (bound 3)) (var 0 (bound 1))))
    (app 0 (var 2 (bound 3)) (var 0 (bound 1))))))

-- the function that negates, which the nearest variable turns so many times less one
abbrev pub turned_negation : ℕ → Term ℕ
turned_negation n = applied (n - 1) 7 (var 19 (bound 0)) (lam 7 negated)

-- that function, turned once more and called with a bit
abbrev pub turns_term : ℕ → Term ℕ
turns_term n =
    app 0 (lam 44 (app 0 (app 2 (var 32 (bound 0)) (turned_negation n)) zero_bit)) turning_function

-- b*b at 0, (u>b)*(u>b) at 3, q*q at 10, q*q>q*q at 13, q>q at 20, b>q at 23, q>b at 26, u at 29
abbrev pub entangled_types : List Ty
entangled_types = tensor bit bit ∷ tensor (arrow unit bit) (arrow unit bit) ∷ tensor qbit qbit
    ∷ arrow (tensor qbit qbit) (tensor qbit qbit) ∷ arrow qbit qbit ∷ arrow bit qbit
    ∷ arrow qbit bit ∷ unit ∷ []

-- two new qubits, of which the first goes through a gate of its own, through a gate
abbrev pub entangled_qubits : Gate → Term ℕ
entangled_qubits u = app 10 (const 13 (gate u))
    (pair 10 (app 11 (const 20 (gate H)) (app 11 (const 23 new) (const 1 (bit_of false))))
    (app 11 (const 23 new) (const 1 (bit_of true))))

-- a function that reads the qubit that a variable is
abbrev pub reader : ℕ → Term ℕ
reader i = lam 4 (app 1 (const 26 meas) (var 11 (bound i)))

-- those qubits, a function that reads either, and a call of each
abbrev pub entangled_term : Gate → Term ℕ
entangled_term u =
    let_pair 0 (let_pair 3 (entangled_qubits u) (pair 3 (reader 2) (reader 1)))
    (pair 0 (app 1 (var 4 (bound 1)) (star 29)) (app 1 (var 4 (bound 0)) (star 29)))
