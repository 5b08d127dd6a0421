-- Steps that ask the register for nothing, of a term that names no qubit.
use Rattle.std.proofs.Common.{◌≡◌, ℕ, zero, suc, ◌+◌, ◌-◌, Bool, true, false, not, cond, ◌&&◌, ◌==◌, nat_lt, nat_le, List, [], ◌∷◌, length, drop, filter, Some, None, Ok, Err, Option, Result, refl, sym, ap, ◌∙◌, subst, arith}
use Rattle.std.proofs.lemmas.Bool.{false≢true, ltb-true, leb-true, lt-leb, le-ltb}
use Rattle.std.proofs.lemmas.Option.{none-some}
use Rattle.std.specs.List.{range_with_len}
use Rattle.calculus.specs.Reading.{every}
use Rattle.calculus.specs.declared.cells.TermCell.{TermCell}
use Rattle.finder.specs.Finding.{answer}
use Rattle.finder.specs.declared.rules.Rule.{Rule}
use Rattle.finder.specs.declared.rules.Rule.TheVariants.{Function, Pair, Then, Else, Prepare, Read, Gates}
use Rattle.finder.specs.declared.faults.FindFault.{FindFault}
use Rattle.registers.specs.Journal.{Reel, tape_changes}
use Rattle.registers.specs.Telling.{Told, tape_tells}
use Rattle.stepper.specs.Naming.{dropped, is_name, names}
use Rattle.stepper.specs.Next.{next_cells}
use Rattle.stepper.specs.declared.writing.Answer.TheVariants.{Nothing}
use Rattle.controller.specs.declared.faults.ControllerFault.TheVariants.{NoRule, TooLong}
use Rattle.controller.specs.declared.faults.Stop.TheVariants.{Value}
use Rattle.controller.specs.Asking.{after_asked, asked}
use Rattle.controller.specs.Letting.{released_all}
use Rattle.controller.specs.Meant.{Standing, after_step}
use Rattle.controller.specs.Settled.{Ended, ended, after, goes_on, run_from}
use Rattle.controller.specs.Stepping.{Made, made, made_or_fault, advanced, taken}
use Rattle.controller.specs.Unloading.{is_value}

abbrev pub names_none : TermCell → Bool
names_none c = not (c.op == 113)

abbrev pub is_silent : Rule → Bool
is_silent Function = true
is_silent Pair = true
is_silent Then = true
is_silent Else = true
is_silent Prepare = false
is_silent Read = false
is_silent Gates = false

abbrev pub stepped_to : List TermCell → Rule → ℕ → List TermCell → Option (List TermCell)
stepped_to cs rule at ds = cond (is_silent rule && (nat_lt at (length cs) && (nat_le (length ds) 1024 && every names_none cs))) (Some ds) None

abbrev pub next_of : List TermCell → Result (Option (Rule × ℕ)) FindFault → Option (List TermCell)
next_of cs (Ok (Some (rule, at))) = stepped_to cs rule at (next_cells cs rule at Nothing)
next_of cs (Ok None) = None
next_of cs (Err f) = None

abbrev pub then_on : (List TermCell → Option (List TermCell)) → Option (List TermCell) → Option (List TermCell)
then_on f None = None
then_on f (Some cs) = f cs

abbrev pub silent_steps : ℕ → List TermCell → Option (List TermCell)
silent_steps zero cs = Some cs
silent_steps (suc n) cs = then_on (silent_steps n) (next_of cs (answer cs))

-- a run makes so many steps from one standing to another, none of which asks the register
pub record RunsTo (n : ℕ) (a b : Standing Reel) : Type 0 where
  pub kinds : b.shot.kinds ≡ a.shot.kinds
  pub register : b.register ≡ a.register
  pub runs : (left : ℕ) → run_from tape_changes tape_tells (n + left) a ≡ after n (run_from tape_changes tape_tells left b)

after_after : (m n : ℕ) (e : Ended Reel) → after m (after n e) ≡ after (m + n) e
after_after m n e = let count : m + (n + e.made) ≡ m + n + e.made = omega arith in ap (λ k. record { made = k; stop = e.stop; last = e.last }) count

pub and_on : (m n : ℕ) {a b c : Standing Reel} → RunsTo m a b → RunsTo n b c → RunsTo (m + n) a c
and_on m n {a = a} {c = c} h k = record {
  kinds = k.kinds ∙ h.kinds;
  register = k.register ∙ h.register;
  runs = λ left.
      let count : m + n + left ≡ m + (n + left) = omega arith in
      ap (λ j. run_from tape_changes tape_tells j a) count ∙ h.runs (n + left) ∙ ap (after m) (k.runs left) ∙ after_after m n (run_from tape_changes tape_tells left c);
}

-- nothing is dropped where nothing was named
names_nothing : (cs : List TermCell) (h : ℕ) → every names_none cs ≡ true → names cs h ≡ false
names_nothing [] h e = refl
names_nothing (c ∷ cs) h e = by (c.op == 113) (nat_lt c.argument 32) (names_nothing cs h) e
  where
    by : (q small : Bool) → (every names_none cs ≡ true → names cs h ≡ false) → (not q && every names_none cs) ≡ true
        → cond (is_name (cond (q && small) (Some c.argument) None) h) true (names cs h) ≡ false
    by true small rest e = absurd (false≢true e)
    by false small rest e = rest e

none_pass : (f : ℕ → Bool) (xs : List ℕ) → ((x : ℕ) → f x ≡ false) → filter f xs ≡ []
none_pass f [] h = refl
none_pass f (x ∷ xs) h = by (f x) (h x) (none_pass f xs h)
  where
    by : (b : Bool) → b ≡ false → filter f xs ≡ [] → cond b (x ∷ filter f xs) (filter f xs) ≡ []
    by true e rest = absurd (false≢true (sym e))
    by false e rest = rest

none_dropped : (cs ds : List TermCell) → every names_none cs ≡ true → dropped (names cs) (names ds) ≡ []
none_dropped cs ds e = none_pass (λ h. names cs h && not (names ds h)) (range_with_len 0 32) (λ h. ap (λ b. b && not (names ds h)) (names_nothing cs h e))

-- the parts of a test that holds
record Passed (cs : List TermCell) (rule : Rule) (at : ℕ) (nx ds : List TermCell) : Type 0 where
  silent : is_silent rule ≡ true
  within : nat_lt at (length cs) ≡ true
  few : nat_le (length nx) 1024 ≡ true
  no_names : every names_none cs ≡ true
  same : nx ≡ ds

passed : (cs : List TermCell) (rule : Rule) (at : ℕ) (nx ds : List TermCell) → stepped_to cs rule at nx ≡ Some ds → Passed cs rule at nx ds
passed cs rule at nx ds e = by (is_silent rule) (nat_lt at (length cs)) (nat_le (length nx) 1024) (every names_none cs) refl refl refl refl e
  where
    by : (p q r s : Bool) → is_silent rule ≡ p → nat_lt at (length cs) ≡ q → nat_le (length nx) 1024 ≡ r → every names_none cs ≡ s
        → cond (p && (q && (r && s))) (Some nx) None ≡ Some ds → Passed cs rule at nx ds
    by true true true true p q r s e = record { silent = p; within = q; few = r; no_names = s; same = cc }
    by true true true false p q r s e = absurd (none-some ds e)
    by true true false z p q r s e = absurd (none-some ds e)
    by true false y z p q r s e = absurd (none-some ds e)
    by false x y z p q r s e = absurd (none-some ds e)

asked_same : (r : Told Reel) (cs : List TermCell) (rule : Rule) → is_silent rule ≡ true → (asked r cs rule ≡ Ok Nothing) × (after_asked r cs tape_changes rule ≡ r.meaning)
asked_same r cs Function e = (refl, refl)
asked_same r cs Pair e = (refl, refl)
asked_same r cs Then e = (refl, refl)
asked_same r cs Else e = (refl, refl)
asked_same r cs Prepare e = absurd (false≢true e)
asked_same r cs Read e = absurd (false≢true e)
asked_same r cs Gates e = absurd (false≢true e)

steps_on : (left : ℕ) (a : Standing Reel) (rule : Rule) (at : ℕ) (t : Made Reel) → answer a.shot.cells ≡ Ok (Some (rule, at)) → advanced tape_changes (tape_tells a.register) a.shot.cells rule at ≡ Ok t
    → run_from tape_changes tape_tells (suc left) a ≡ after 1 (run_from tape_changes tape_tells left (after_step tape_changes a t))
unfolding run_from
steps_on left a rule at t q e =
    ap (λ x. cond (is_value x) (ended Value a) (goes_on tape_changes tape_tells (run_from tape_changes tape_tells left) a (taken tape_changes (tape_tells a.register) a.shot.cells x))) q
    ∙ ap (goes_on tape_changes tape_tells (run_from tape_changes tape_tells left) a) e

silent_step : (a : Standing Reel) (ds : List TermCell) → next_of a.shot.cells (answer a.shot.cells) ≡ Some ds → (b : Standing Reel) × (b.shot.cells ≡ ds) × RunsTo 1 a b
silent_step a ds e = by (answer a.shot.cells) refl e
  where
    by : (x : Result (Option (Rule × ℕ)) FindFault) → answer a.shot.cells ≡ x → next_of a.shot.cells x ≡ Some ds → (b : Standing Reel) × (b.shot.cells ≡ ds) × RunsTo 1 a b
    by (Ok (Some (rule, at))) q e =
        let cs = a.shot.cells in
        let r = tape_tells a.register in
        let nx = next_cells cs rule at Nothing in
        let t : Made Reel = made tape_changes r cs rule at Nothing in
        let p = passed cs rule at nx ds e in
        let same = asked_same r (drop at cs) rule p.silent in
        let kept : t.register ≡ a.register =
        ap (λ hs. released_all tape_changes hs (after_asked r (drop at cs) tape_changes rule)) (none_dropped cs nx p.no_names) ∙ same.1 in
        let inside = lt-leb (length cs) at (ltb-true at (length cs) p.within) in
        let fits = le-ltb 1024 (length nx) (leb-true (length nx) 1024 p.few) in
        let advances : advanced tape_changes r cs rule at ≡ Ok t =
        ap (λ b. cond b (Err NoRule) (cond (nat_lt 1024 (length nx)) (Err TooLong) (made_or_fault tape_changes r cs rule at (asked r (drop at cs) rule)))) inside
        ∙ ap (λ b. cond b (Err TooLong) (made_or_fault tape_changes r cs rule at (asked r (drop at cs) rule))) fits
        ∙ ap (made_or_fault tape_changes r cs rule at) same.0 in (
          after_step tape_changes a t,
          p.same,
          record {
            kinds = refl;
            register = kept;
            runs = λ left.
                let one : 1 + left ≡ suc left = omega arith in
                ap (λ k. run_from tape_changes tape_tells k a) one ∙ steps_on left a rule at t q advances;
          },
        )
    by (Ok None) q e = absurd (none-some ds e)
    by (Err f) q e = absurd (none-some ds e)

none_run : (a : Standing Reel) → RunsTo 0 a a
none_run a = record {
  kinds = refl;
  register = refl;
  runs = λ left.
      let none : 0 + left ≡ left = omega arith in
      let e = run_from tape_changes tape_tells left a in
      let count : e.made ≡ 0 + e.made = omega arith in
      ap (λ k. run_from tape_changes tape_tells k a) none ∙ ap (λ k. record { made = k; stop = e.stop; last = e.last }) count;
}

pub silent_run : (n : ℕ) (a : Standing Reel) (cs ds : List TermCell) → a.shot.cells ≡ cs → silent_steps n cs ≡ Some ds → (b : Standing Reel) × (b.shot.cells ≡ ds) × RunsTo n a b
silent_run zero a cs ds q e = (a, q ∙ cc, none_run a)
silent_run (suc n) a cs ds q e = by (silent_run n) (next_of cs (answer cs)) refl e
  where
    by : ((a : Standing Reel) (cs ds : List TermCell) → a.shot.cells ≡ cs → silent_steps n cs ≡ Some ds → (b : Standing Reel) × (b.shot.cells ≡ ds) × RunsTo n a b) → (x : Option (List TermCell)) → next_of cs (answer cs) ≡ x → then_on (silent_steps n) x ≡ Some ds → (b : Standing Reel) × (b.shot.cells ≡ ds) × RunsTo (suc n) a b
    by rest None p e = absurd (none-some ds e)
    by rest (Some es) p e =
        let (b, is, one) = silent_step a es (ap (λ cs. next_of cs (answer cs)) q ∙ p) in
        let (c, is', others) = rest b es ds is e in
        let count : 1 + n ≡ suc n = omega arith in
        (c, is', subst (λ k. RunsTo k a c) count (and_on 1 n one others))

-- a term by the letters of its cells, each followed by its argument
abbrev pub lettered : List ℕ → List TermCell
lettered [] = []
lettered (op ∷ []) = []
lettered (op ∷ digit ∷ rest) = record { op = op; argument = digit - 48; claim = 0 } ∷ lettered rest
