-- On a settled kind of register, a row that is played is a function of where it starts.
use Rattle.std.proofs.Common.{◌≡◌, ℕ, ◌∷◌, ◌++◌, map, min, List, length, take, drop, Some, Ok, Err, Option, Result, OnErr, refl, sym, ap, ap₂, ◌∙◌}
use Rattle.std.proofs.lemmas.List.{take-append-drop}
use Rattle.calculus.specs.declared.cells.TermCell.{TermCell}
use Rattle.calculus.specs.declared.cells.TypeCell.{TypeCell}
use Rattle.verdict.specs.Faults.{Verdict}
use Rattle.checker.specs.Accepting.{program_verdict}
use Rattle.registers.specs.declared.register.Register.{Ghosts}
use Rattle.registers.specs.Meaning.{Meaning}
use Rattle.registers.specs.Telling.{Told, told, SettledBy}
use Rattle.rows.specs.Members.{Member}
use Rattle.rows.specs.Places.{Place}
use Rattle.controller.specs.declared.faults.ControllerFault.{ControllerFault}
use Rattle.controller.specs.declared.faults.Refusal.{Refusal}
use Rattle.controller.specs.declared.faults.Stop.{Stop}
use Rattle.controller.specs.Meant.{Standing}
use Rattle.controller.specs.Loading.{load_answer}
use Rattle.controller.specs.Shots.{nothing_held}
use Rattle.controller.specs.Stepping.{Made, count_made, held_after, placed, step_made}
use Rattle.controller.specs.Tables.{begun_with}
use Rattle.controller.specs.Unloading.{abandon_answer, collect_answer}
use Rattle.controller.proofs.Meant.{meant}
use Rattle.controller.proofs.Settled.{run_settled}
use Rattle.player.specs.declared.turns.Turn.{Turn}
use Rattle.player.specs.declared.turns.Turn.TheVariants.{Load, Step, Run, Collect, Abandon}
use Rattle.player.specs.declared.turns.Done.TheVariants.{Loaded, Stepped}
use Rattle.player.specs.Stages.{Reply, Stage, stage, desk_of, replied, as_run, after_load, load_made, StepLeads, StepMakes, RunMakes, Unloads, CollectLeads, AbandonLeads, TurnMakes}
use Rattle.player.specs.Turns.{Rooms}
use Rattle.player.specs.Playing.{Played, none_played, not_accepted, one_played, RowPlayed}
use Rattle.player.specs.Settled.{meant_stage, load_turn, after_made, after_run, unloaded, after_collect, after_abandon, turn_of, before_rest, turns_of, RowIsSettled}

module _ {R : Type 0} (kind : Ghosts R) (tells : Meaning kind.Content → Told kind.Content) (h : SettledBy kind tells) where
  abbrev at : Stage R → Stage (Meaning kind.Content)
  at a = meant_stage kind a

  loaded : (types : List TypeCell) (terms : List TermCell) (a : Stage R) (x : Result ℕ Refusal) → at (after_load types terms a x) ≡ after_load types terms (at a) x
  loaded types terms a (Ok n) = refl
  loaded types terms a (Err f) = refl

  load_settled : (types : List TypeCell) (terms : List TermCell) (a b : Stage R) (y : Reply) (v : Verdict) → (y, b) ≡ load_made kind types terms a v → (y, at b) ≡ load_turn kind.changes tells types terms (at a) v
  load_settled types terms a b y (Ok u) e =
      let x = load_answer (kind.meaning a.register).makes a.shot terms in
      ap (λ (p : Reply × Stage R). (p.0, at p.1)) e ∙ ap (λ s. (replied Loaded x, s)) (loaded types terms a x)
  load_settled types terms a b y (Err f) e = ap (λ (p : Reply × Stage R). (p.0, at p.1)) e

  step_leads : (a b : Stage R) (x : Result (Made kind.Content) ControllerFault) → StepLeads kind x a b → at b ≡ after_made kind.changes tells (at a) x
  step_leads a b (Ok t) p = ap at p.1 ∙ ap (λ m. stage (held_after a.shot t) m (begun_with t.cells a.work) a.value a.kinds) p.0
  step_leads a b (Err f) p = ap at p

  step_settled : (room : ℕ) (a b : Stage R) (y : Reply) → StepMakes kind room a b y → (y, at b) ≡ turn_of kind.changes tells (Step room) (at a)
  step_settled room a b y p =
      let x = step_made kind.changes (told kind a.register) a.shot (min room (length a.work)) in
      ap₂ (λ y s. (y, s)) p.0 (step_leads a b x p.1)
      ∙ ap (λ (t : Told kind.Content). let x = step_made kind.changes t a.shot (min room (length a.work)) in (replied Stepped (placed a.shot.steps (count_made x)), after_made kind.changes tells (at a) x)) (h a.register)

  run_stays : (room : ℕ) (a b : Stage R) (x : Result (ℕ × Stop) Refusal) → OnErr x (b ≡ a) → OnErr x (meant kind (desk_of room b) ≡ meant kind (desk_of room a))
  run_stays room a b (Ok n) o = tt
  run_stays room a b (Err f) o = ap (λ s. meant kind (desk_of room s)) o

  run_ends : (budget room : ℕ) (a b : Stage R) (y : Reply) → RunMakes kind budget room a b y → (y, at b) ≡ turn_of kind.changes tells (Run budget room) (at a)
  run_ends budget room a b y p =
      let e = run_settled kind tells h budget (desk_of room a) (desk_of room b) p.answer p.runs (run_stays room a b p.answer p.refused) in
      let w : b.work ≡ take room b.work ++ drop room a.work = sym (take-append-drop room b.work) ∙ ap (λ z. take room b.work ++ z) p.rest in
      let s : at b ≡ after_run kind.changes tells room (at a) (meant kind (desk_of room b)) =
      ap (λ z. stage b.shot (kind.meaning b.register) z b.value b.kinds) w ∙ ap₂ (λ v k. stage b.shot (kind.meaning b.register) (take room b.work ++ drop room a.work) v k) p.others.0 p.others.1 in
      ap₂ (λ y s. (y, s)) p.reply s
      ∙ ap (λ (z : Result (ℕ × Stop) Refusal × Standing kind.Content). (replied as_run z.0, after_run kind.changes tells room (at a) z.1)) e

  unloads : (a b : Stage R) (value : List TermCell) (kinds : List TypeCell) → Unloads kind a b value kinds → at b ≡ unloaded kind.changes tells (at a) value kinds
  unloads a b value kinds p = ap at p.1 ∙ ap (λ m. stage nothing_held m a.work value kinds) p.0

  collect_leads : (a b : Stage R) (x : Result (ℕ × ℕ) Refusal) → CollectLeads kind x a b → at b ≡ after_collect kind.changes tells (at a) x
  collect_leads a b (Ok n) p = unloads a b _ _ p
  collect_leads a b (Err f) p = ap at p

  abandon_leads : (a b : Stage R) (x : Result (Unit {0}) Refusal) → AbandonLeads kind x a b → at b ≡ after_abandon kind.changes tells (at a) x
  abandon_leads a b (Ok u) p = unloads a b _ _ p
  abandon_leads a b (Err f) p = ap at p

  turn_settled : (t : Turn) (a b : Stage R) (y : Reply) → TurnMakes kind t a b y → (y, at b) ≡ turn_of kind.changes tells t (at a)
  turn_settled (Load types terms) a b y p = load_settled types.now terms.now a b y (program_verdict types.now terms.now) p
  turn_settled (Step room) a b y p = step_settled room a b y p
  turn_settled (Run budget room) a b y p = run_ends budget room a b y p
  turn_settled (Collect room kind_room) a b y p = ap₂ (λ y s. (y, s)) p.0 (collect_leads a b (collect_answer a.shot (min room (length a.value)) (min kind_room (length a.kinds))) p.1)
  turn_settled Abandon a b y p = ap₂ (λ y s. (y, s)) p.0 (abandon_leads a b (abandon_answer a.shot) p.1)

  one_more : (t : Turn) (ts : List Turn) (a b c : Stage R) (y : Reply) (ys : List Reply) → TurnMakes kind t a b y → (ys, at c) ≡ turns_of kind.changes tells ts (at b)
      → (y ∷ ys, at c) ≡ turns_of kind.changes tells (t ∷ ts) (at a)
  one_more t ts a b c y ys p e =
      ap (λ (z : List Reply × Stage (Meaning kind.Content)). (y ∷ z.0, z.1)) e
      ∙ ap (λ (x : Reply × Stage (Meaning kind.Content)). before_rest kind.changes tells x (turns_of kind.changes tells ts)) (turn_settled t a b y p)

  turns_settled : {r : Rooms} {a b : Stage R} {p q : Place kind.Content} {ts : List Turn} {ys : List Reply} {xs : List Member} {ps : List (Place kind.Content)}
      → Played kind r a p ts ys xs ps b q → (ys, at b) ≡ turns_of kind.changes tells ts (at a)
  turns_settled none_played = refl
  turns_settled {a = a} {b = c} (not_accepted {b = b} {t = t} {ts = ts} {y = y} {ys = ys} n v k) = one_more t ts a b c y ys v (turns_settled k)
  turns_settled {a = a} {b = c} (one_played {b = b} {t = t} {ts = ts} {y = y} {ys = ys} i v d z f k) = one_more t ts a b c y ys v (turns_settled k)

pub row_settled : {R : Type 0} (kind : Ghosts R) (start : Stage R) (row : List Turn) (old new : List (Option Reply)) (end : Stage R) → RowPlayed kind start row old new end → RowIsSettled kind start row old new end
row_settled kind start row old new end p tells h =
    let begin = λ (m : Meaning kind.Content). stage start.shot m start.work start.value start.kinds in
    let e = turns_settled kind tells h p.played ∙ ap (λ m. turns_of kind.changes tells row (begin m)) p.is_cleared in
    (p.told ∙ ap (λ (x : List Reply × Stage (Meaning kind.Content)). map Some x.0 ++ drop (length x.0) old) e, ap (λ (x : List Reply × Stage (Meaning kind.Content)). x.1) e)
