-- A handle that goes live adds one to the live count, and one that is let go adds none.
use Rattle.std.proofs.Common.{ℕ, zero, suc, ◌≤◌, Bool, true, false, List, [], ◌∷◌, set, arith}
use Rattle.registers.specs.declared.register.Register.{Ghosts}
use Rattle.registers.specs.Depth.{depths}
use Rattle.registers.specs.Meaning.{counted}
use Rattle.registers.specs.Deeds.{Deed, prepares, applies, reads, lets_go, clears, Does}
use Rattle.registers.specs.Room.{Within, RoomIsKept}
use Rattle.registers.proofs.Accepted.{prepare_accepted}

pub counted_more : (l : List Bool) (h : ℕ) → counted (set l h true) ≤ suc (counted l)
counted_more [] h = omega arith
counted_more (true ∷ l) zero = omega arith
counted_more (false ∷ l) zero = omega arith
counted_more (true ∷ l) (suc h) = let r = counted_more l h in omega arith
counted_more (false ∷ l) (suc h) = counted_more l h

pub counted_less : (l : List Bool) (h : ℕ) → counted (set l h false) ≤ counted l
counted_less [] h = omega arith
counted_less (true ∷ l) zero = omega arith
counted_less (false ∷ l) zero = omega arith
counted_less (true ∷ l) (suc h) = let r = counted_less l h in omega arith
counted_less (false ∷ l) (suc h) = counted_less l h

module _ {R : Type 0} (kind : Ghosts R) (r s : R) where
  kept : (d : Deed) → Does kind r d s → Within (kind.meaning r) → Within (kind.meaning s)
  kept (prepares h bit) (e, after) within =
      let a = prepare_accepted (kind.meaning r) (depths (kind.passed_up r)) (kind.fresh r) h e in
      let more = counted_more (kind.meaning r).live h in
      rw after (omega arith)
  kept (applies gate on) (e, after) within = rw after within
  kept (reads h outcome) (e, after) within = rw after within
  kept (lets_go h) (e, after) within = let less = counted_less (kind.meaning r).live h in rw after (omega arith)
  kept clears after within = rw after (omega arith)

  cleared : Does kind r clears s → Within (kind.meaning s)
  cleared after = rw after (omega arith)

pub room_is_kept : {R : Type 0} (kind : Ghosts R) → RoomIsKept kind
room_is_kept kind = record { cleared = cleared kind; kept = kept kind }
