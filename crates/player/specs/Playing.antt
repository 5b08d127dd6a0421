-- What playing a row on a new controller comes to.
use Rattle.std.specs.Prelude.{◌≡◌, ◌↔◌, true, List, [], ◌∷◌, ◌++◌}
use Rattle.std.specs.Prelude.{map, length, drop, Some, None, Option}
use Rattle.registers.specs.declared.register.Register.{Ghosts}
use Rattle.registers.specs.Meaning.{Meaning, Changes, after_clear}
use Rattle.rows.specs.Members.{Member}
use Rattle.rows.specs.Places.{Place, New}
use Rattle.rows.specs.Refusing.{Refused}
use Rattle.rows.specs.Doing.{Does}
use Rattle.rows.specs.Rows.{Row, AtEach}
use Rattle.rows.specs.Sound.{Sound}
use Rattle.controller.specs.Keeping.{Stands, place, Kept, place_of}
use Rattle.player.specs.declared.turns.Turn.{Turn}
use Rattle.player.specs.Stages.{Stage, Reply, stage, TurnMakes}
use Rattle.player.specs.Turns.{Rooms, rooms, IsMember, NotPlayed, is_refused}

-- A stage shows a place: it holds what is loaded there, and its register means the place's.
pub record Shows {R : Type 0} (kind : Ghosts R) (a : Stage R) (p : Place kind.Content)
    : Type 0 where
  pub stands : Stands a.shot p.loaded
  pub register : p.register ≡ kind.meaning a.register

module _ {R : Type 0} (kind : Ghosts R) (r : Rooms) where
  -- Turns that are played from one stage and its place to another, with the replies, the members
  -- that they are, and the places that these lead through. A member is replied to as refused
  -- exactly where it is refused.
  pub data Played : Stage R → Place kind.Content → List Turn → List Reply → List Member
      → List (Place kind.Content) → Stage R → Place kind.Content → Type 0 where
    none_played : {a : Stage R} {p : Place kind.Content} → Played a p [] [] [] (p ∷ []) a p
    not_accepted : {a b c : Stage R} {p q : Place kind.Content} {t : Turn} {ts : List Turn}
        {y : Reply} {ys : List Reply} {xs : List Member} {ps : List (Place kind.Content)}
        → NotPlayed t y → TurnMakes kind t a b y → Played b p ts ys xs ps c q
        → Played a p (t ∷ ts) (y ∷ ys) xs ps c q
    one_played : {a b c : Stage R} {p s q : Place kind.Content} {t : Turn} {ts : List Turn}
        {y : Reply} {ys : List Reply} {x : Member} {xs : List Member}
        {ps : List (Place kind.Content)}
        → IsMember r t x → TurnMakes kind t a b y
        → Does kind.changes p x s → Shows kind b s → (is_refused y ≡ true) ↔ Refused p x
        → Played b s ts ys xs ps c q
        → Played a p (t ∷ ts) (y ∷ ys) (x ∷ xs) (p ∷ ps) c q

-- A new controller's place: nothing is loaded, and the register that was given is cleared.
abbrev pub first_place : {C : Type 0} → Changes C → Meaning C → Place C
first_place changes given = place None (after_clear changes given)

-- the lengths of a stage's tables
abbrev pub rooms_of : {R : Type 0} → Stage R → Rooms
rooms_of a = rooms (length a.work) (length a.value) (length a.kinds)

-- A row is played from a stage whose register is then cleared, and a new controller's place, to a
-- stage and the place that it shows, which is kept. Every place that it leads through is sound. The
-- replies are at the front of their table, whose rest is as it was.
pub record RowPlayed {R : Type 0} (kind : Ghosts R) (start : Stage R) (row : List Turn)
    (old new : List (Option Reply)) (end : Stage R) : Type 0 where
  pub cleared : R
  pub is_cleared : kind.meaning cleared ≡ after_clear kind.changes (kind.meaning start.register)
  pub replies : List Reply
  pub members : List Member
  pub places : List (Place kind.Content)
  pub last : Place kind.Content
  pub played : Played kind (rooms_of start)
      (stage start.shot cleared start.work start.value start.kinds)
      (first_place kind.changes (kind.meaning start.register))
      row replies members places end last
  pub kept : Kept kind.changes end.shot (kind.meaning end.register)
  pub at_last : place_of kept ≡ last
  pub is_new : New kind.changes (first_place kind.changes (kind.meaning start.register))
  pub is_row : Row kind.changes
      (first_place kind.changes (kind.meaning start.register)) members places
  pub sound : AtEach Sound places
  pub told : new ≡ map Some replies ++ drop (length replies) old
