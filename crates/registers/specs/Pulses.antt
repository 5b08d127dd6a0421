-- What the accepted calls of a tape write down: an entry for each pulse, in order, no more.
use Rattle.std.specs.Prelude.{◌≡◌, ℕ, ◌+◌, ◌%◌, Bool, List, [], ◌∷◌, ◌++◌}
use Rattle.std.specs.Prelude.{length, take, drop, ◌==◌, slice_index}
use Rattle.registers.specs.declared.journal.Entry.{Entry}
use Rattle.registers.specs.declared.journal.Entry.TheVariants.{Prepare, Gate as Gated, Read}
use Rattle.registers.specs.declared.register.Register.{Ghosts}
use Rattle.registers.specs.declared.tape.Tape.{Tape}
use Rattle.registers.specs.Deeds.{Deed, prepares, applies, reads, lets_go, clears, Does, DoesAll}
use Rattle.registers.specs.Journal.{padded, tape_reel}

-- the entries of the pulses among some calls
abbrev pub entries_of : List Deed → List Entry
entries_of [] = []
entries_of (prepares h bit ∷ ds) = Prepare h bit ∷ entries_of ds
entries_of (applies gate on ∷ ds) = Gated gate (padded on) ∷ entries_of ds
entries_of (reads h outcome ∷ ds) = Read h outcome ∷ entries_of ds
entries_of (lets_go h ∷ ds) = entries_of ds
entries_of (clears ∷ ds) = entries_of ds

-- how many pulses a tape has spent after some calls
abbrev pub spent_after : Tape → List Deed → ℕ
spent_after r ds = (tape_reel r).spent + length (entries_of ds)

-- Each pulse writes its own entry, and the entries before and behind stay. A read that is pulse k
-- answers whether outcome k is odd.
pub record EachPulseIsWritten (kind : Ghosts Tape) : Type 0 where
  pub spent : (r s : Tape) (ds : List Deed) → DoesAll kind r ds s
      → (tape_reel s).spent ≡ spent_after r ds
  pub written : (r s : Tape) (ds : List Deed) → DoesAll kind r ds s
      → (tape_reel s).entries
      ≡ take (tape_reel r).spent (tape_reel r).entries
      ++ (entries_of ds ++ drop (spent_after r ds) (tape_reel r).entries)
  pub answered : (r s t : Tape) (ds : List Deed) (h : ℕ) (outcome : Bool)
      → DoesAll kind r ds s → Does kind s (reads h outcome) t
      → outcome ≡ (slice_index (tape_reel r).outcomes (spent_after r ds) % 2 == 1)
