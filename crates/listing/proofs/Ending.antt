-- What a run comes to, and what is then collected.
use Rattle.std.proofs.Common.{◌≡◌, ℕ, zero, suc, ◌+◌, ◌<◌, ◌≤◌, min, Bool, true, false, not, ◌||◌, cond, ltb, List, [], ◌∷◌, length, Some, None, Ok, Err, Option, Result, refl, sym, ap, ◌∙◌, arith}
use Rattle.std.proofs.lemmas.Bool.{false≢true, lt-ltb, le-ltb}
use Rattle.std.proofs.lemmas.List.{length-append, length-drop}
use Rattle.calculus.specs.Reduction.{Value}
use Rattle.calculus.specs.Terms.{Running}
use Rattle.calculus.specs.declared.cells.TermCell.{TermCell}
use Rattle.calculus.specs.declared.cells.TypeCell.{TypeCell}
use Rattle.calculus.proofs.ReadTypes.{at_place}
use Rattle.checker.specs.Accepting.{accepts}
use Rattle.finder.specs.Finding.{answer, tested, past_tests}
use Rattle.finder.specs.Laws.{Means}
use Rattle.finder.specs.declared.faults.FindFault.{FindFault}
use Rattle.finder.specs.declared.rules.Rule.{Rule}
use Rattle.finder.proofs.Reduction.{search_is_reduction}
use Rattle.registers.specs.Journal.{Reel, tape_changes}
use Rattle.registers.specs.Telling.{tape_tells}
use Rattle.controller.specs.declared.faults.ControllerFault.{ControllerFault}
use Rattle.controller.specs.declared.faults.ControllerFault.TheVariants.{NothingLoaded, NoValue, ShortTables}
use Rattle.controller.specs.declared.faults.Refusal.{Refusal}
use Rattle.controller.specs.declared.faults.Stop.{Stop}
use Rattle.controller.specs.declared.faults.Stop.TheVariants.{Value as AtValue, Budget, Refused}
use Rattle.controller.specs.Faults.{ready_answer, refused}
use Rattle.controller.specs.Meant.{Standing, after_step}
use Rattle.controller.specs.Settled.{Ended, ended, after, goes_on, step_due, run_from, run_if_ready, run_of}
use Rattle.controller.specs.Shots.{Held, is_loaded, root_cells, root_claim}
use Rattle.controller.specs.Stepping.{Made}
use Rattle.controller.specs.Unloading.{collect_answer, is_value}
use Rattle.controller.proofs.Accepted.{whole_tables}

-- the finder answers nothing only for cells that mean a value
answered : (x : Result (Option (Rule × ℕ)) FindFault) → is_value x ≡ true → x ≡ Ok None
answered (Ok None) e = refl
answered (Ok (Some x)) e = absurd (false≢true e)
answered (Err f) e = absurd (false≢true e)

pub value_meant : (cs : List TermCell) → is_value (answer cs) ≡ true → (v : Running) × Means cs v × Value v
value_meant cs e = by (tested cs) refl e
  where
    by : (t : Result (Unit {0}) FindFault) → tested cs ≡ t → is_value (past_tests cs t) ≡ true → (v : Running) × Means cs v × Value v
    by (Ok u) q e =
        let (v, means) = (search_is_reduction.passes cs).0 q in
        (v, means, (search_is_reduction.value cs v means).0 (ap (past_tests cs) q ∙ answered (past_tests cs (Ok u)) e))
    by (Err f) q e = absurd (false≢true e)

-- how a run ends that may make so many steps
abbrev pub EndsBy : ℕ → Standing Reel → Ended Reel → Stop → Type 0
EndsBy left a e AtValue = is_value (answer e.last.shot.cells) ≡ true
EndsBy left a e Budget = (is_value (answer e.last.shot.cells) ≡ false) × (e.made ≡ left)
EndsBy left a e (Refused f steps) = (is_value (answer e.last.shot.cells) ≡ false) × (steps ≡ e.last.shot.steps)

pub record Ends (left : ℕ) (a : Standing Reel) (e : Ended Reel) : Type 0 where
  pub by : EndsBy left a e e.stop
  pub few : e.made ≤ left
  pub kinds : e.last.shot.kinds ≡ a.shot.kinds
  pub steps : a.shot.steps + left < 18446744073709551615 → e.last.shot.steps ≡ a.shot.steps + e.made

one_step_more : (left : ℕ) (a b : Standing Reel) (e : Ended Reel) → b.shot.kinds ≡ a.shot.kinds → b.shot.steps ≡ min (a.shot.steps + 1) 18446744073709551615 → Ends left b e → Ends (suc left) a (after 1 e)
one_step_more left a b e k s h = record {
  by = stopped e.stop h.by;
  few = let f = h.few in omega arith;
  kinds = h.kinds ∙ k;
  steps = λ small. let f = h.steps (omega arith) in omega arith;
}
  where
    stopped : (stop : Stop) → EndsBy left b e stop → EndsBy (suc left) a (after 1 e) stop
    stopped AtValue h = h
    stopped Budget h = (h.0, omega (arith, h.1))
    stopped (Refused f steps) h = h

pub run_ends : (left : ℕ) (a : Standing Reel) → Ends left a (run_from tape_changes tape_tells left a)
unfolding run_from
run_ends zero a = by (is_value (answer a.shot.cells)) refl
  where
    by : (b : Bool) → is_value (answer a.shot.cells) ≡ b → Ends zero a (cond b (ended AtValue a) (ended Budget a))
    by true q = record { by = q; few = omega arith; kinds = refl; steps = λ small. omega arith }
    by false q = record { by = (q, refl); few = omega arith; kinds = refl; steps = λ small. omega arith }
run_ends (suc left) a = by (run_ends left) (is_value (answer a.shot.cells)) refl (step_due tape_changes tape_tells a)
  where
    by : ((b : Standing Reel) → Ends left b (run_from tape_changes tape_tells left b)) → (b : Bool) → is_value (answer a.shot.cells) ≡ b → (x : Result (Made Reel) ControllerFault)
        → Ends (suc left) a (cond b (ended AtValue a) (goes_on tape_changes tape_tells (run_from tape_changes tape_tells left) a x))
    by rest true q x = record { by = q; few = omega arith; kinds = refl; steps = λ small. omega arith }
    by rest false q (Ok t) = one_step_more left a (after_step tape_changes a t) _ refl refl (rest (after_step tape_changes a t))
    by rest false q (Err f) = record { by = (q, refl); few = omega arith; kinds = refl; steps = λ small. omega arith }

-- what is collected of a value, whose type is not too long
some_cell : (cs : List TermCell) → is_value (answer cs) ≡ true → 0 < length cs
some_cell [] e = absurd (false≢true e)
some_cell (c ∷ cs) e = omega arith

abbrev collected_by : Held → Bool → Bool → Bool → Result (ℕ × ℕ) Refusal
collected_by h loaded value short = cond (not loaded) (refused NothingLoaded h.steps) (cond (not value) (refused NoValue h.steps) (cond short (refused ShortTables h.steps) (Ok (length h.cells, length h.kinds))))

value_collected : (h : Held) → is_value (answer h.cells) ≡ true → length h.kinds ≤ 256 → collect_answer h 1024 256 ≡ Ok (length h.cells, length h.kinds)
value_collected h e few =
    let (v, means, is) = value_meant h.cells e in
    by (is_loaded h) (is_value (answer h.cells)) (ltb 1024 (length h.cells)) (ltb 256 (length h.kinds)) (lt-ltb 0 (length h.cells) (some_cell h.cells e)) e
    (le-ltb 1024 (length h.cells) means.few) (le-ltb 256 (length h.kinds) few)
  where
    by : (a b c d : Bool) → a ≡ true → b ≡ true → c ≡ false → d ≡ false → collected_by h a b (c || d) ≡ Ok (length h.cells, length h.kinds)
    by false b c d p q r s = absurd (false≢true p)
    by true false c d p q r s = absurd (false≢true q)
    by true true true d p q r s = absurd (false≢true (sym r))
    by true true false true p q r s = absurd (false≢true (sym s))
    by true true false false p q r s = refl

pub none_collected : (h : Held) → is_value (answer h.cells) ≡ false → (f : Refusal) × (collect_answer h 1024 256 ≡ Err f)
none_collected h e = by (is_loaded h) (is_value (answer h.cells)) (ltb 1024 (length h.cells) || ltb 256 (length h.kinds)) e
  where
    by : (a b c : Bool) → b ≡ false → (f : Refusal) × (collected_by h a b c ≡ Err f)
    by false b c q = (record { fault = NothingLoaded; place = h.steps }, refl)
    by true false c q = (record { fault = NoValue; place = h.steps }, refl)
    by true true c q = absurd (false≢true (sym q))

-- what is collected after a run: of a value its cells and those of its type, and else none
abbrev pub CollectedSo : Result (ℕ × Stop) Refusal × Standing Reel → Type 0
CollectedSo (Ok (steps, AtValue), last) = collect_answer last.shot 1024 256 ≡ Ok (length last.shot.cells, length last.shot.kinds)
CollectedSo (Ok (steps, Budget), last) = (f : Refusal) × (collect_answer last.shot 1024 256 ≡ Err f)
CollectedSo (Ok (steps, Refused fault place), last) = (f : Refusal) × (collect_answer last.shot 1024 256 ≡ Err f)
CollectedSo (Err f, last) = Unit {0}

pub collected_so : (budget : ℕ) (a : Standing Reel) → length a.shot.kinds ≤ 256 → CollectedSo (run_of tape_changes tape_tells budget a)
collected_so budget a few = of_ready (ready_answer (length a.shot.cells) (length a.work))
  where
    by_stop : (e : Ended Reel) → Ends budget a e → (stop : Stop) → EndsBy budget a e stop → CollectedSo (Ok (e.made, stop), e.last)
    by_stop e h AtValue q = value_collected e.last.shot q (let l = ap length h.kinds in omega (arith, l, few))
    by_stop e h Budget q = none_collected e.last.shot q.0
    by_stop e h (Refused f place) q = none_collected e.last.shot q.0

    of_ready : (x : Result (Unit {0}) ControllerFault) → CollectedSo (run_if_ready tape_changes tape_tells budget a x)
    of_ready (Ok u) = let h = run_ends budget a in by_stop (run_from tape_changes tape_tells budget a) h (run_from tape_changes tape_tells budget a).stop h.by
    of_ready (Err f) = tt

-- the type of an accepted program's root fits its table
pub few_root : (types : List TypeCell) (terms : List TermCell) → accepts types terms ≡ true → length (root_cells types terms) ≤ 256
few_root types terms a =
    let t = whole_tables types terms a in
    let (others, q) = at_place types (root_claim terms) t.types_stand t.root_within in
    let l = ap length q in
    let m = length-append (root_cells types terms) others in
    let d = length-drop (root_claim terms) types in
    let f = t.few_types in
    omega arith
