-- The entry of a pulse stands behind those of the pulses before it.
use Rattle.std.proofs.Common.{◌≡◌, ℕ, ◌+◌, ◌%◌, ◌<◌, eqb, List, [], ◌∷◌, ◌++◌, length, get_or, take, drop, set, sym, ap, ◌∙◌, subst, arith, append_assoc}
use Rattle.std.proofs.lemmas.List.{take-append-drop, take_more_set, drop-set-lt}
use Rattle.registers.specs.declared.journal.Entry.{Entry}
use Rattle.registers.specs.declared.journal.Entry.TheVariants.{Prepare, Gate as Gated, Read}
use Rattle.registers.specs.declared.register.Register.{Ghosts}
use Rattle.registers.specs.declared.tape.Tape.{Tape}
use Rattle.registers.specs.Deeds.{Deed, prepares, applies, reads, lets_go, clears, DoesAll}
use Rattle.registers.specs.Depth.{nothing_passed_up}
use Rattle.registers.specs.Free.{handles_owed}
use Rattle.registers.specs.Handles.{next_handle}
use Rattle.registers.specs.Journal.{Reel, filled, padded, pulses_left, outcome_next, tape_changes, tape_makes, tape_meaning, tape_reel}
use Rattle.registers.specs.Pulses.{entries_of, EachPulseIsWritten}
use Rattle.registers.proofs.Accepted.{prepare_accepted, gate_accepted, read_accepted}

-- a tape, as a kind of register
abbrev pub tape_kind : Ghosts Tape
tape_kind = record {
  Content = Reel;
  changes = tape_changes;
  meaning = tape_meaning;
  fresh = λ s. next_handle s.handles;
  outcome = λ s _. outcome_next (tape_reel s);
  passed_up = λ _. nothing_passed_up;
  lent = λ s. s.journal.ghost_name ∷ [];
  owed = λ s. handles_owed s.handles tape_makes (pulses_left (tape_reel s)) (tape_reel s);
}

-- what some entries make of a reel: they stand from the pulses spent on, and the rest stays
pub record Written (c d : Reel) (es : List Entry) : Type 0 where
  pub outcomes : d.outcomes ≡ c.outcomes
  pub spent : d.spent ≡ c.spent + length es
  pub entries : d.entries ≡ take c.spent c.entries ++ (es ++ drop (c.spent + length es) c.entries)

none_written : (c d : Reel) → d ≡ c → Written c d []
none_written c d e = record {
  outcomes = ap (λ r. r.outcomes) e;
  spent = ap (λ r. r.spent) e ∙ omega arith;
  entries = ap (λ r. r.entries) e ∙ sym (take-append-drop c.spent c.entries) ∙ ap (λ n. take c.spent c.entries ++ drop n c.entries) (omega arith);
}

one_written : (c d : Reel) (e : Entry) (next : ℕ) (es : List Entry) → 0 < pulses_left c → Written (filled c e next) d es → Written c d (e ∷ es)
one_written c d e next es left w =
    let n = c.spent in
    let rest = drop (n + 1 + length es) (set c.entries n e) in
    record {
      outcomes = w.outcomes;
      spent = let s = w.spent in omega arith;
      entries = w.entries
          ∙ ap (λ front. front ++ (es ++ rest)) (take_more_set c.entries n e (omega arith))
          ∙ append_assoc (take n c.entries) (e ∷ []) (es ++ rest)
          ∙ ap (λ back. take n c.entries ++ (e ∷ (es ++ back))) (drop-set-lt (n + 1 + length es) c.entries n e (omega arith) ∙ ap (λ k. drop k c.entries) (omega arith));
    }

reels : (r s : Tape) (ds : List Deed) → DoesAll tape_kind r ds s → Written (tape_reel r) (tape_reel s) (entries_of ds)
reels r s [] e = none_written (tape_reel r) (tape_reel s) (ap tape_reel (sym e))
reels r s (prepares h bit ∷ ds) (q, (e, after), rest) =
    let a = prepare_accepted (tape_meaning r) (λ _. 0) (next_handle r.handles) h e in
    one_written (tape_reel r) (tape_reel s) (Prepare h bit) (h + 1) (entries_of ds) a.1 (subst (λ c. Written c (tape_reel s) (entries_of ds)) (ap (λ m. m.content) after) (reels q s ds rest))
reels r s (applies gate on ∷ ds) (q, (e, after), rest) =
    one_written (tape_reel r) (tape_reel s) (Gated gate (padded on)) (tape_reel r).next (entries_of ds) (gate_accepted (tape_meaning r) (λ _. 0) gate on e).0 (subst (λ c. Written c (tape_reel s) (entries_of ds)) (ap (λ m. m.content) after) (reels q s ds rest))
reels r s (reads h outcome ∷ ds) (q, (e, after), rest) =
    let a = read_accepted (tape_meaning r) (λ _. 0) h (outcome_next (tape_reel r)) outcome e in
    one_written (tape_reel r) (tape_reel s) (Read h outcome) (tape_reel r).next (entries_of ds) a.1 (subst (λ c. Written c (tape_reel s) (entries_of ds)) (ap (λ m. m.content) after) (reels q s ds rest))
reels r s (lets_go h ∷ ds) (q, (e, after), rest) = subst (λ c. Written c (tape_reel s) (entries_of ds)) (ap (λ m. m.content) after) (reels q s ds rest)
reels r s (clears ∷ ds) (q, after, rest) = subst (λ c. Written c (tape_reel s) (entries_of ds)) (ap (λ m. m.content) after) (reels q s ds rest)

pub each_pulse_is_written : EachPulseIsWritten tape_kind
each_pulse_is_written = record {
  spent = λ r s ds all. (reels r s ds all).spent;
  written = λ r s ds all. (reels r s ds all).entries;
  answered = λ r s t ds h outcome all does.
      let w = reels r s ds all in
      (read_accepted (tape_meaning s) (λ _. 0) h (outcome_next (tape_reel s)) outcome does.0).0
      ∙ ap (λ os. eqb (get_or os (tape_reel s).spent 0 % 2) 1) w.outcomes ∙ ap (λ n. eqb (get_or (tape_reel r).outcomes n 0 % 2) 1) w.spent;
}
