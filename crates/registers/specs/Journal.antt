-- A tape: its content, how each pulse fills the journal, and what it means.
use Rattle.std.specs.Prelude.{ℕ, ◌+◌, ◌-◌, ◌%◌, min, Bool, true, List, [], ◌∷◌, length, ◌==◌}
use Rattle.std.specs.Prelude.{slice_index, slice_set}
use Rattle.registers.specs.declared.tape.Tape.{Tape}
use Rattle.calculus.specs.declared.gates.Gate.{Gate}
use Rattle.registers.specs.declared.journal.Entry.{Entry}
use Rattle.registers.specs.declared.journal.Entry.TheVariants.{Prepare, Gate as Gated, Read}
use Rattle.registers.specs.Meaning.{Meaning, Changes}
use Rattle.registers.specs.Handles.{shown, unused}

-- The content of a tape.
pub record Reel : Type 0 where
  pub outcomes : List ℕ  -- what it was handed to answer, one for each pulse
  pub entries : List Entry  -- the journal
  pub spent : ℕ  -- how many pulses are spent
  pub next : ℕ  -- where the search for the next handle begins

-- A pulse is spent: it fills the journal's entry of its number, and no other.
abbrev pub filled : Reel → Entry → ℕ → Reel
filled c entry next = record c {
  entries = slice_set c.entries c.spent entry;
  spent = c.spent + 1;
  next = next;
}

-- three operands, with 0 after the last
abbrev pub padded : List ℕ → List ℕ
padded on = slice_index on 0 ∷ slice_index on 1 ∷ slice_index on 2 ∷ []

-- what each accepted call makes of the content
abbrev pub tape_changes : Changes Reel
tape_changes = record {
  prepared = λ c h bit. filled c (Prepare h bit) (h + 1);
  gated = λ c gate on. filled c (Gated gate (padded on)) c.next;
  was_read = λ c h outcome. filled c (Read h outcome) c.next;
  let_go = λ c h. c;
  cleared = λ c. c;
}

-- as many pulses as the shorter of outcomes and journal, less those spent
abbrev pub pulses_left : Reel → ℕ
pulses_left c = min (length c.outcomes) (length c.entries) - c.spent

-- the outcome of the next pulse: an odd number is 1
abbrev pub outcome_next : Reel → Bool
outcome_next c = slice_index c.outcomes c.spent % 2 == 1

abbrev pub tape_reel : Tape → Reel
tape_reel s = record {
  outcomes = s.outcomes.now;
  entries = s.journal.now;
  spent = s.spent;
  next = s.handles.next;
}

-- a tape makes every gate
abbrev pub tape_makes : Gate → Bool
tape_makes _ = true

abbrev pub tape_meaning : Tape → Meaning Reel
tape_meaning s = shown s.handles tape_makes (pulses_left (tape_reel s)) (tape_reel s)

-- a tape as it is made: as many pulses as the shorter of outcomes and journal
abbrev pub new_tape : ℕ → List ℕ → List Entry → Meaning Reel
new_tape capacity outcomes entries =
    unused capacity tape_makes (min (length outcomes) (length entries))
    (record { outcomes = outcomes; entries = entries; spent = 0; next = 0 })
