-- What the step of a term asks of the register stands in the cells from its redex on, as the controller reads them.
use Rattle.std.proofs.Common.{◌≡◌, ℕ, ◌<◌, Bool, true, false, List, [], ◌∷◌, ◌++◌, cond, Ok, Err, Result, refl, ap, ◌∙◌, ap₂, inl, inr, ◌==◌, arith}
use Rattle.calculus.specs.declared.cells.TermCell.{TermCell}
use Rattle.calculus.specs.declared.gates.Gate.{Gate}
use Rattle.calculus.specs.declared.gates.Gate.TheVariants.{H, X, Z, S, Cnot, Swap, Toffoli}
use Rattle.calculus.specs.declared.gates.Gate.TheVariants.{T as gate_t}
use Rattle.calculus.specs.Terms.{gate, bit_of, Running, const, app}
use Rattle.calculus.specs.Cells.{cell_of, const_argument, const_op, running_cells}
use Rattle.calculus.specs.Gates.{gate_of}
use Rattle.std.specs.Option.{ok_or}
use Rattle.std.proofs.lemmas.Bool.{lt-ltb}
use Rattle.calculus.specs.Names.{In}
use Rattle.calculus.specs.Reduction.{Operands, on_h, on_x, on_z, on_s, on_t, on_cnot, on_swap, on_toffoli, Effect, silent, prepares, reads, applies, Reduces, apply_function, open_pair, take_then, take_else, prepare_qubit, read_qubit, apply_gate, in_argument, in_function, in_left, in_right, in_condition, in_pair}
use Rattle.finder.specs.Steps.{step_rule, step_cell}
use Rattle.registers.specs.Meaning.{Meaning, Changes, after_prepare, after_gate, after_read}
use Rattle.registers.specs.Answers.{prepare_answer, gate_answer, read_answer}
use Rattle.stepper.specs.declared.writing.Answer.{Answer}
use Rattle.stepper.specs.declared.writing.Answer.TheVariants.{Nothing, Handle, Outcome}
use Rattle.controller.specs.declared.faults.ControllerFault.{ControllerFault}
use Rattle.controller.specs.declared.faults.ControllerFault.TheVariants.{NoRule}
use Rattle.registers.specs.Telling.{Told}
use Rattle.controller.specs.Asking.{on_ok, if_ok, handle_in, qubit_places, qubits_at, bit_asked, qubit_asked, gate_asked, request, passed, asked, after_asked}

-- the handles of an effect are those of qubits
abbrev pub Within : Effect → Type 0
Within silent = Unit {0}
Within (prepares b h) = Unit {0}
Within (reads h b) = h < 32
Within (applies u hs) = (h : ℕ) → In h hs → h < 32

-- what the controller reads of an effect in the cells from a redex on
abbrev pub Reads : List TermCell → Effect → Type 0
Reads cs silent = Unit {0}
Reads cs (prepares b h) = bit_asked cs ≡ Ok b
Reads cs (reads h b) = qubit_asked cs ≡ Ok h
Reads cs (applies u hs) = request cs ≡ Ok (u, hs)

handle_is : (h : ℕ) → h < 32 → handle_in (cell_of 113 h 0) ≡ Ok h
handle_is h l = ap (λ b. cond b (Ok h) (Err NoRule)) (lt-ltb h 32 l)

bit_is : (b : Bool) → (cell_of (const_op (bit_of b)) 0 0).op == 49 ≡ b
bit_is true = refl
bit_is false = refl

gate_is : (u : Gate) → ok_or (gate_of (const_argument (gate u))) NoRule ≡ Ok u
gate_is H = refl
gate_is X = refl
gate_is Z = refl
gate_is S = refl
gate_is gate_t = refl
gate_is Cnot = refl
gate_is Swap = refl
gate_is Toffoli = refl

-- qubits that are read one after the other
abbrev then_qubits : Result ℕ ControllerFault → Result (List ℕ) ControllerFault → Result (List ℕ) ControllerFault
then_qubits q r = on_ok q (λ h. on_ok r (λ hs. Ok (h ∷ hs)))

one_is : (h : ℕ) → h < 32 → then_qubits (handle_in (cell_of 113 h 0)) (Ok []) ≡ Ok (h ∷ [])
one_is h l = ap (λ q. then_qubits q (Ok [])) (handle_is h l)

two_are : (h k : ℕ) → h < 32 → k < 32 → then_qubits (handle_in (cell_of 113 h 0)) (then_qubits (handle_in (cell_of 113 k 0)) (Ok [])) ≡ Ok (h ∷ k ∷ [])
two_are h k l m = ap₂ then_qubits (handle_is h l) (one_is k m)

three_are : (h j k : ℕ) → h < 32 → j < 32 → k < 32
    → then_qubits (handle_in (cell_of 113 h 0)) (then_qubits (handle_in (cell_of 113 j 0)) (then_qubits (handle_in (cell_of 113 k 0)) (Ok []))) ≡ Ok (h ∷ j ∷ k ∷ [])
three_are h j k l m n = ap₂ then_qubits (handle_is h l) (two_are j k m n)

operands_are : {u : Gate} {hs : List ℕ} {m : Running} {c d : Unit {0}} → Operands u hs m → (rest : List TermCell) → ((h : ℕ) → In h hs → h < 32)
    → qubits_at (running_cells (app c (const d (gate u)) m) ++ rest) (qubit_places u) ≡ Ok hs
operands_are (on_h {h = h}) rest l = one_is h (l h (inl refl))
operands_are (on_x {h = h}) rest l = one_is h (l h (inl refl))
operands_are (on_z {h = h}) rest l = one_is h (l h (inl refl))
operands_are (on_s {h = h}) rest l = one_is h (l h (inl refl))
operands_are (on_t {h = h}) rest l = one_is h (l h (inl refl))
operands_are (on_cnot {h = h} {k = k}) rest l = two_are h k (l h (inl refl)) (l k (inr (inl refl)))
operands_are (on_swap {h = h} {k = k}) rest l = two_are h k (l h (inl refl)) (l k (inr (inl refl)))
operands_are (on_toffoli {h = h} {j = j} {k = k}) rest l = three_are h j k (l h (inl refl)) (l j (inr (inl refl))) (l k (inr (inr (inl refl))))

-- a gate with its qubits, where both are read
requested : (cs : List TermCell) (u : Gate) (hs : List ℕ) → gate_asked cs ≡ Ok u → qubits_at cs (qubit_places u) ≡ Ok hs → request cs ≡ Ok (u, hs)
requested cs u hs q w =
    ap (λ g. on_ok g (λ v. on_ok (qubits_at cs (qubit_places v)) (λ ks. Ok (v, ks)))) q
    ∙ ap (λ ks. on_ok ks (λ ks. Ok (u, ks))) w

-- A redex begins with what its rule asks for.
pub redex_reads : {p q : Running} {e : Effect} (r : Reduces p e q) → step_cell r ≡ 0 → (rest : List TermCell) → Within e → Reads (running_cells p ++ rest) e
redex_reads (apply_function v) z rest l = tt
redex_reads (open_pair v w) z rest l = tt
redex_reads take_then z rest l = tt
redex_reads take_else z rest l = tt
redex_reads (prepare_qubit {b = b}) z rest l = ap Ok (bit_is b)
redex_reads (read_qubit {h = h}) z rest l = handle_is h l
redex_reads (apply_gate {c = c} {d = d} {u = u} {hs = hs} {a = a} o) z rest l =
    requested (running_cells (app c (const d (gate u)) a) ++ rest) u hs (gate_is u) (operands_are o rest l)
redex_reads (in_argument d) z rest l = absurd (omega arith)
redex_reads (in_function v d) z rest l = absurd (omega arith)
redex_reads (in_left d) z rest l = absurd (omega arith)
redex_reads (in_right v d) z rest l = absurd (omega arith)
redex_reads (in_condition d) z rest l = absurd (omega arith)
redex_reads (in_pair d) z rest l = absurd (omega arith)

-- what the register answers to an effect, and what it is then
module _ {C : Type 0} (t : Told C) where
  abbrev pub asked_by : Effect → Result Answer ControllerFault
  asked_by silent = Ok Nothing
  asked_by (prepares b h) = passed Handle (prepare_answer t.meaning t.depth t.fresh)
  asked_by (reads h b) = passed Outcome (read_answer t.meaning t.depth h (t.outcome h))
  asked_by (applies u hs) = passed (λ x. Nothing) (gate_answer t.meaning t.depth u hs)

  abbrev pub after_by : Changes C → Effect → Meaning C
  after_by changes silent = t.meaning
  after_by changes (prepares b h) = after_prepare changes t.meaning t.fresh b
  after_by changes (reads h b) = after_read changes t.meaning h (t.outcome h)
  after_by changes (applies u hs) = after_gate changes t.meaning u hs

  pub rule_asks : {p q : Running} {e : Effect} (r : Reduces p e q) (cs : List TermCell) → Reads cs e → asked t cs (step_rule r) ≡ asked_by e
  rule_asks (apply_function v) cs x = refl
  rule_asks (open_pair v w) cs x = refl
  rule_asks take_then cs x = refl
  rule_asks take_else cs x = refl
  rule_asks prepare_qubit cs x = ap (λ r. on_ok r (λ b. passed Handle (prepare_answer t.meaning t.depth t.fresh))) x
  rule_asks read_qubit cs x = ap (λ r. on_ok r (λ h. passed Outcome (read_answer t.meaning t.depth h (t.outcome h)))) x
  rule_asks (apply_gate o) cs x = ap (λ r. on_ok r (λ g. passed (λ y. Nothing) (gate_answer t.meaning t.depth g.0 g.1))) x
  rule_asks (in_argument d) cs x = rule_asks d cs x
  rule_asks (in_function v d) cs x = rule_asks d cs x
  rule_asks (in_left d) cs x = rule_asks d cs x
  rule_asks (in_right v d) cs x = rule_asks d cs x
  rule_asks (in_condition d) cs x = rule_asks d cs x
  rule_asks (in_pair d) cs x = rule_asks d cs x

  pub rule_makes : (changes : Changes C) {p q : Running} {e : Effect} (r : Reduces p e q) (cs : List TermCell) → Reads cs e → after_asked t cs changes (step_rule r) ≡ after_by changes e
  rule_makes changes (apply_function v) cs x = refl
  rule_makes changes (open_pair v w) cs x = refl
  rule_makes changes take_then cs x = refl
  rule_makes changes take_else cs x = refl
  rule_makes changes prepare_qubit cs x = ap (λ r. if_ok r t.meaning (after_prepare changes t.meaning t.fresh)) x
  rule_makes changes read_qubit cs x = ap (λ r. if_ok r t.meaning (λ h. after_read changes t.meaning h (t.outcome h))) x
  rule_makes changes (apply_gate o) cs x = ap (λ r. if_ok r t.meaning (λ g. after_gate changes t.meaning g.0 g.1)) x
  rule_makes changes (in_argument d) cs x = rule_makes changes d cs x
  rule_makes changes (in_function v d) cs x = rule_makes changes d cs x
  rule_makes changes (in_left d) cs x = rule_makes changes d cs x
  rule_makes changes (in_right v d) cs x = rule_makes changes d cs x
  rule_makes changes (in_condition d) cs x = rule_makes changes d cs x
  rule_makes changes (in_pair d) cs x = rule_makes changes d cs x
