-- The lines of a listing have no blank and no byte 10 in their fields.
use Rattle.std.proofs.Common.{◌≡◌, ℕ, ◌+◌, ◌-◌, ◌/◌, ◌%◌, ◌<◌, Bool, true, false, cond, ltb, zero, suc, List, [], ◌∷◌, ◌++◌, map, length, take, replicate, refl, arith}
use Rattle.std.specs.Char.{encode_utf8}
use Rattle.std.specs.Fmt.{decimal}
use Rattle.std.specs.List.{AllByRecursion, enumerate_from}
use Rattle.calculus.specs.Gates.{number_of, operands_of}
use Rattle.calculus.specs.declared.cells.TermCell.{TermCell}
use Rattle.calculus.specs.declared.cells.TypeCell.{TypeCell}
use Rattle.calculus.specs.declared.gates.Gate.{Gate as AGate}
use Rattle.calculus.specs.declared.gates.Gate.TheVariants.{H, X, Z, S, T, Cnot, Swap, Toffoli}
use Rattle.controller.specs.Faults.{fault_number}
use Rattle.controller.specs.declared.faults.ControllerFault.{ControllerFault}
use Rattle.controller.specs.declared.faults.ControllerFault.TheVariants.{NothingLoaded, AlreadyLoaded, GateNotMade as NotMade, ShortTable, AtValue, NoRule, TooLong, NoValue, ShortTables, Register}
use Rattle.controller.specs.declared.faults.Stop.{Stop}
use Rattle.controller.specs.declared.faults.Stop.TheVariants.{Value, Budget, Refused}
use Rattle.reader.specs.Cells.{is_kind, is_op}
use Rattle.reader.specs.Stored.{KindKnown, OpKnown}
use Rattle.reader.proofs.Decimals.{decimal_lacks}
use Rattle.reader.proofs.Marks.{Lacks}
use Rattle.reader.proofs.Spellings.{differs}
use Rattle.registers.specs.Answers.{number_of as reason_number}
use Rattle.registers.specs.declared.fault.RegisterReason.{RegisterReason}
use Rattle.registers.specs.declared.fault.RegisterReason.TheVariants.{NoPulses, Full, GateNotMade, WrongCount, NotLive, GivenTwice}
use Rattle.registers.specs.declared.journal.Entry.{Entry}
use Rattle.registers.specs.declared.journal.Entry.TheVariants.{Empty, Prepare, Gate, Read}
use Rattle.listing.specs.Back.{Small, EntrySmall, StopSmall, Spelled}
use Rattle.listing.specs.Listing.{code_of, digit_of, steps_line, kind_line, op_line, refusal_line, call, pulse_line, pulse_lines, stop_lines, run_lines}
use Rattle.listing.proofs.Cutting.{PlainField, PlainLine}

module _ {X : Type 0} (P : X → Type 0) where
  all_append : (xs ys : List X) → AllByRecursion P xs → AllByRecursion P ys → AllByRecursion P (xs ++ ys)
  all_append [] ys h k = k
  all_append (x ∷ xs) ys h k = (h.0, all_append xs ys h.1 k)

  all_take : (n : ℕ) (xs : List X) → AllByRecursion P xs → AllByRecursion P (take n xs)
  all_take zero xs h = tt
  all_take (suc n) [] h = tt
  all_take (suc n) (x ∷ xs) h = (h.0, all_take n xs h.1)

  all_replicate : (n : ℕ) (x : X) → P x → AllByRecursion P (replicate n x)
  all_replicate zero x h = tt
  all_replicate (suc n) x h = (h, all_replicate n x h)

  all_map : {Y : Type 0} (Q : Y → Type 0) (f : Y → X) → ((y : Y) → Q y → P (f y)) → (ys : List Y) → AllByRecursion Q ys → AllByRecursion P (map f ys)
  all_map Q f g [] h = tt
  all_map Q f g (y ∷ ys) h = (g y h.0, all_map Q f g ys h.1)

-- fields
plain_letter : (b : ℕ) → 32 < b → PlainField (b ∷ [])
plain_letter b h = ((λ e. omega arith, tt), (λ e. omega arith, tt))

plain_number : (n : ℕ) → Small n → PlainField (decimal n)
plain_number n h = (decimal_lacks 32 n (omega arith) h, decimal_lacks 10 n (omega arith) h)

encoded_lacks : (mark c : ℕ) → mark < 128 → (c ≡ mark → ⊥) → (x y z : Bool)
    → Lacks mark (cond x (c ∷ []) (cond y ((192 + c / 64) ∷ (128 + c % 64) ∷ []) (cond z ((224 + c / 4096) ∷ (128 + c / 64 % 64) ∷ (128 + c % 64) ∷ []) ((240 + c / 262144) ∷ (128 + c / 4096 % 64) ∷ (128 + c / 64 % 64) ∷ (128 + c % 64) ∷ []))))
encoded_lacks mark c low other true y z = (other, tt)
encoded_lacks mark c low other false true z = (λ e. omega arith, (λ e. omega arith, tt))
encoded_lacks mark c low other false false true = (λ e. omega arith, (λ e. omega arith, (λ e. omega arith, tt)))
encoded_lacks mark c low other false false false = (λ e. omega arith, (λ e. omega arith, (λ e. omega arith, (λ e. omega arith, tt))))

plain_char : (test : ℕ → Bool) (c : ℕ) → test c ≡ true → test 32 ≡ false → test 10 ≡ false → PlainField (encode_utf8 c)
unfolding encode_utf8
plain_char test c h no_blank no_end = (
  encoded_lacks 32 c (omega arith) (differs test c 32 h no_blank) (ltb c 128) (ltb c 2048) (ltb c 65536),
  encoded_lacks 10 c (omega arith) (differs test c 10 h no_end) (ltb c 128) (ltb c 2048) (ltb c 65536),
)

-- lines
code_small : (stop : Stop) → Small (code_of stop)
code_small Value = omega arith
code_small Budget = omega arith
code_small (Refused fault steps) = omega arith

plain_steps : (steps : ℕ) (stop : Stop) → Small steps → PlainLine (steps_line steps stop)
plain_steps steps stop h = (plain_letter 83 (omega arith), (plain_number steps h, (plain_number (code_of stop) (code_small stop), tt)))

plain_kind : (c : TypeCell) → KindKnown c → PlainLine (kind_line c)
plain_kind c h = (plain_letter 84 (omega arith), (plain_char is_kind c.kind h refl refl, tt))

plain_op : (c : TermCell) → OpKnown c → PlainLine (op_line c)
plain_op c h = (plain_letter 77 (omega arith), (plain_char is_op c.op h.0 refl refl, (plain_number c.argument (omega (arith, h.1)), tt)))

pub plain_refusal : (number place : ℕ) → Small number → Small place → PlainLine (refusal_line number place)
plain_refusal number place h k = (plain_letter 88 (omega arith), (plain_number number h, (plain_number place k, tt)))

digit_small : (b : Bool) → Small (digit_of b)
digit_small true = omega arith
digit_small false = omega arith

gate_small : (g : AGate) → Small (number_of g)
gate_small H = omega arith
gate_small X = omega arith
gate_small Z = omega arith
gate_small S = omega arith
gate_small T = omega arith
gate_small Cnot = omega arith
gate_small Swap = omega arith
gate_small Toffoli = omega arith

reason_small : (r : RegisterReason) → Small (reason_number r)
reason_small NoPulses = omega arith
reason_small Full = omega arith
reason_small GateNotMade = omega arith
reason_small WrongCount = omega arith
reason_small NotLive = omega arith
reason_small GivenTwice = omega arith

fault_small : (f : ControllerFault) → Small (fault_number f)
fault_small NothingLoaded = omega arith
fault_small AlreadyLoaded = omega arith
fault_small NotMade = omega arith
fault_small ShortTable = omega arith
fault_small AtValue = omega arith
fault_small NoRule = omega arith
fault_small TooLong = omega arith
fault_small NoValue = omega arith
fault_small ShortTables = omega arith
fault_small (Register f) = reason_small f.reason

plain_call : (e : Entry) → EntrySmall e → AllByRecursion PlainField (call e)
plain_call Empty h = tt
plain_call (Prepare handle bit) h = (plain_letter 80 (omega arith), (plain_number handle h, (plain_number (digit_of bit) (digit_small bit), tt)))
plain_call (Gate gate on) h =
    (plain_letter 71 (omega arith), (plain_number (number_of gate) (gate_small gate), all_map PlainField Small decimal plain_number (take (operands_of gate) on) (all_take Small (operands_of gate) on h)))
plain_call (Read handle outcome) h = (plain_letter 82 (omega arith), (plain_number handle h, (plain_number (digit_of outcome) (digit_small outcome), tt)))

plain_pulse : (pulse : ℕ) (e : Entry) → Small pulse → EntrySmall e → PlainLine (pulse_line pulse e)
plain_pulse pulse e h k =
    (plain_letter 74 (omega arith), (plain_number pulse h, all_append PlainField (call e) (replicate (5 - length (call e)) (45 ∷ [])) (plain_call e k) (all_replicate PlainField (5 - length (call e)) (45 ∷ []) (plain_letter 45 (omega arith)))))

plain_pulses : (n : ℕ) (entries : List Entry) → Small (n + length entries) → AllByRecursion EntrySmall entries → AllByRecursion PlainLine (map (λ p. pulse_line p.0 p.1) (enumerate_from n entries))
plain_pulses n [] h k = tt
plain_pulses n (e ∷ es) h k = (plain_pulse n e (omega arith) k.0, plain_pulses (n + 1) es (omega arith) k.1)

plain_stop : (stop : Stop) → StopSmall stop → AllByRecursion PlainLine (stop_lines stop)
plain_stop Value h = tt
plain_stop Budget h = tt
plain_stop (Refused fault steps) h = (plain_refusal (fault_number fault) steps (fault_small fault) h, tt)

pub plain_run : (steps : ℕ) (stop : Stop) (kinds : List TypeCell) (value : List TermCell) (journal : List Entry) → Spelled steps stop kinds value journal → AllByRecursion PlainLine (run_lines steps stop kinds value journal)
plain_run steps stop kinds value journal h = (
  plain_steps steps stop h.steps_small,
  all_append PlainLine (map kind_line kinds) (map op_line value ++ (pulse_lines journal ++ stop_lines stop)) (all_map PlainLine KindKnown kind_line plain_kind kinds h.kinds_known)
      (all_append PlainLine (map op_line value) (pulse_lines journal ++ stop_lines stop) (all_map PlainLine OpKnown op_line plain_op value h.value_known)
      (all_append PlainLine (pulse_lines journal) (stop_lines stop) (plain_pulses 0 journal (omega (arith, h.pulses_small)) h.entries_small) (plain_stop stop h.stop_small))),
)
