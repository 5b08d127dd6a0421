-- What a run on a new tape comes to, and what is handed back of it.
use Rattle.std.proofs.Common.{◌≡◌, ℕ, replicate, List, Ok, Err, Result, MatchResult, ap, ap₂, ◌∙◌}
use Rattle.calculus.specs.Cells.{kind_cell}
use Rattle.calculus.specs.declared.cells.TermCell.{TermCell}
use Rattle.calculus.specs.declared.cells.TypeCell.{TypeCell}
use Rattle.registers.specs.declared.register.Register.{Ghosts}
use Rattle.registers.specs.Journal.{Reel}
use Rattle.controller.specs.declared.faults.Refusal.{Refusal}
use Rattle.controller.specs.declared.faults.Stop.{Stop}
use Rattle.controller.specs.declared.shot.Shot.{Shot}
use Rattle.controller.specs.Loading.{load_answer}
use Rattle.controller.specs.Meant.{Standing, standing}
use Rattle.controller.specs.Settled.{run_of, RunIsSettled}
use Rattle.controller.specs.Shots.{held, program_held}
use Rattle.controller.specs.Tables.{begun_with}
use Rattle.numbers.specs.Cells.{node_of, number_of_kind, pulse_of, handed}
use Rattle.numbers.specs.Runs.{runs_if_loaded, LoadsAndRuns, collected, Tables, tables, tables_after, value_in, type_in}

-- the tables as collecting leaves them
left : (b : Standing Reel) (root : TypeCell) → root.kind ≡ 0 → (x : Result (ℕ × ℕ) Refusal) (value : List TermCell) (kinds : List TypeCell)
    → MatchResult x (λ _. (value ≡ begun_with b.shot.cells b.work) × (kinds ≡ begun_with b.shot.kinds (replicate 256 root))) (λ _. (value ≡ b.work) × (kinds ≡ replicate 256 root))
    → (value ≡ value_in b x) × (kinds ≡ type_in b x)
left b root e (Ok n) value kinds m = (m.0, m.1 ∙ ap (λ n. begun_with b.shot.kinds (replicate 256 (kind_cell n))) e)
left b root e (Err f) value kinds m = (m.0, m.1 ∙ ap (λ n. replicate 256 (kind_cell n)) e)

pub handed_back : (b : Standing Reel) (root : TypeCell) → root.kind ≡ 0 → (x : Result (ℕ × ℕ) Refusal) → x ≡ collected b → (value : List TermCell) (kinds : List TypeCell)
    → MatchResult x (λ _. (value ≡ begun_with b.shot.cells b.work) × (kinds ≡ begun_with b.shot.kinds (replicate 256 root))) (λ _. (value ≡ b.work) × (kinds ≡ replicate 256 root))
    → (t : Tables) → tables (handed node_of value t.value) (handed number_of_kind kinds t.kinds) (handed pulse_of b.register.content.entries t.pulses) ≡ tables_after b t
handed_back b root e x q value kinds m t =
    let both = left b root e x value kinds m in
    ap₂ (λ v k. tables (handed node_of v t.value) (handed number_of_kind k t.kinds) (handed pulse_of b.register.content.entries t.pulses)) both.0 both.1
    ∙ ap (λ y. tables (handed node_of (value_in b y) t.value) (handed number_of_kind (type_in b y) t.kinds) (handed pulse_of b.register.content.entries t.pulses)) q

-- a load that is made, and the run after it
pub loads_and_runs : {R : Type 0} (kind : Ghosts R) (types : List TypeCell) (terms : List TermCell) (budget n : ℕ) (s s' : Shot) (r r' : R) (w : List TermCell) (b : Standing kind.Content) (answer : Result (ℕ × Stop) Refusal)
    → Ok n ≡ load_answer (kind.meaning r).makes (held s) terms → held s' ≡ program_held types terms → r' ≡ r → RunIsSettled kind budget (standing kind s' r' w) b answer
    → LoadsAndRuns kind types terms budget (standing kind s r w) b answer
loads_and_runs kind types terms budget n s s' r r' w b answer l e f q tells h =
    let start : standing kind s' r' w ≡ record { shot = program_held types terms; register = kind.meaning r; work = w } = ap₂ (λ h m. record { shot = h; register = m; work = w }) e (ap kind.meaning f) in
    q tells h ∙ ap (λ a. run_of kind.changes tells budget a) start ∙ ap (runs_if_loaded kind.changes tells types terms budget (standing kind s r w)) l

-- a load that is refused
pub load_refused : {R : Type 0} (kind : Ghosts R) (types : List TypeCell) (terms : List TermCell) (budget : ℕ) (s s' : Shot) (r r' : R) (w : List TermCell) (f : Refusal) (answer : Result (ℕ × Stop) Refusal)
    → Err f ≡ load_answer (kind.meaning r).makes (held s) terms → held s' ≡ held s → r' ≡ r → answer ≡ Err f
    → LoadsAndRuns kind types terms budget (standing kind s r w) (standing kind s' r' w) answer
load_refused kind types terms budget s s' r r' w f answer l e g q tells h =
    ap₂ (λ y b. (y, b)) q (ap₂ (λ h m. record { shot = h; register = m; work = w }) e (ap kind.meaning g)) ∙ ap (runs_if_loaded kind.changes tells types terms budget (standing kind s r w)) l
