-- What a register tells, and the kinds that tell no more than a function of what they mean.
use Rattle.std.specs.Prelude.{◌≡◌, ℕ, Bool, take}
use Rattle.registers.specs.declared.fault.RegisterReason.{RegisterReason}
use Rattle.registers.specs.declared.register.Register.{Ghosts}
use Rattle.registers.specs.Depth.{depths}
use Rattle.registers.specs.Meaning.{Meaning, counted}
use Rattle.registers.specs.Handles.{next_free, at_top}
use Rattle.registers.specs.Bits.{Bits, bit_of}
use Rattle.registers.specs.Journal.{Reel, outcome_next}
use Rattle.registers.specs.Layers.{Under, cap_passes_up}

-- What a register tells: its meaning, and the answers that are its own.
pub record Told (C : Type 0) : Type 0 where
  pub meaning : Meaning C
  pub depth : RegisterReason → ℕ  -- how deep a refusal for the reason is
  pub fresh : ℕ  -- the handle of the next prepare
  pub outcome : ℕ → Bool  -- what a read of the handle gives

-- what a register of a kind tells
abbrev pub told : {R : Type 0} (kind : Ghosts R) → R → Told kind.Content
told kind r = record {
  meaning = kind.meaning r;
  depth = depths (kind.passed_up r);
  fresh = kind.fresh r;
  outcome = kind.outcome r;
}

-- A function settles a kind of register if it gives what each register tells from what it means.
abbrev pub SettledBy : {R : Type 0} (kind : Ghosts R)
    → (Meaning kind.Content → Told kind.Content) → Type 0
SettledBy {R = R} kind tells = (r : R) → told kind r ≡ tells (kind.meaning r)

-- A tape answers the next outcome, whichever handle is read.
abbrev pub tape_tells : Meaning Reel → Told Reel
tape_tells m = record {
  meaning = m;
  depth = at_top;
  fresh = next_free (take m.capacity m.live) m.content.next;
  outcome = λ h. outcome_next m.content;
}

-- A level answers the bit of the handle.
abbrev pub level_tells : Meaning Bits → Told Bits
level_tells m = record {
  meaning = m;
  depth = at_top;
  fresh = next_free (take m.capacity m.live) m.content.next;
  outcome = bit_of m.content.bits;
}

-- A cap answers as the register below it.
abbrev pub cap_tells : {C : Type 0} → (Meaning C → Told C) → Meaning (Under C) → Told (Under C)
cap_tells tells m =
    let below = tells m.content.below in
    let passed_up = cap_passes_up m.content.limit (counted m.content.below.live) below.depth in
    record { meaning = m; depth = depths passed_up; fresh = below.fresh; outcome = below.outcome }

-- Over a settled kind, a cap is settled.
abbrev pub CapSettles : {R X : Type 0} (kind : Ghosts R) (cap : Ghosts X)
    → ((Meaning kind.Content → Told kind.Content) → Meaning cap.Content → Told cap.Content)
    → Type 0
CapSettles kind cap over =
    (tells : Meaning kind.Content → Told kind.Content)
    → SettledBy kind tells → SettledBy cap (over tells)
