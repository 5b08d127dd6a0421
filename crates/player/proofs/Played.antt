-- A row that is played so far, and one turn more.
use Rattle.std.specs.Prelude.{◌≡◌, ◌↔◌, ℕ, zero, suc, ◌+◌, ◌<◌, ◌≤◌, true, List, [], ◌∷◌, ◌++◌, map, length, take, drop, Bool, false, Some, Ok, Err, Option, Result, is_err}
use Rattle.std.specs.Result.{IsErrAnd}
use Rattle.std.proofs.Common.{ap, ◌∙◌, sym, refl, subst, inl, inr, get_or, set, arith}
use Rattle.std.proofs.lemmas.List.{length-take-le, length-drop, take_all, take_more, drop_more}
use Rattle.calculus.specs.declared.cells.TermCell.{TermCell}
use Rattle.calculus.specs.declared.cells.TypeCell.{TypeCell}
use Rattle.registers.specs.declared.register.Register.{Ghosts}
use Rattle.registers.specs.Meaning.{Meaning, after_clear}
use Rattle.rows.specs.Members.{Member}
use Rattle.rows.specs.Places.{Place, New}
use Rattle.rows.specs.Refusing.{Refused}
use Rattle.rows.specs.Doing.{Does}
use Rattle.rows.specs.Rows.{Row, row_end, row_next, Reached, then_does}
use Rattle.rows.proofs.Sound.{every_place_is_sound}
use Rattle.controller.specs.declared.control.Controller.{Controller}
use Rattle.controller.specs.declared.faults.Refusal.{Refusal}
use Rattle.controller.specs.Shots.{Held, held, nothing_held}
use Rattle.controller.proofs.Keeping.{kept_new}
use Rattle.controller.specs.Keeping.{Kept, place_of}
use Rattle.player.specs.declared.turns.Turn.{Turn}
use Rattle.player.specs.declared.turns.TurnFault.{TurnFault}
use Rattle.player.specs.declared.turns.TurnFault.TheVariants.{Refused as RefusedTurn}
use Rattle.player.specs.Stages.{Stage, Reply, stage, TurnMakes}
use Rattle.player.specs.Turns.{Rooms, rooms, IsMember, NotPlayed, is_refused, LoadPlayed, TurnPlayed}
use Rattle.player.specs.Playing.{Shows, Played, none_played, not_accepted, one_played, first_place, rooms_of, RowPlayed}

module _ {R : Type 0} {kind : Ghosts R} {r : Rooms} where
  then_not_accepted : {a b c : Stage R} {p q : Place kind.Content} (t : Turn) {ts : List Turn} (y : Reply) {ys : List Reply} {xs : List Member} {ps : List (Place kind.Content)}
      → Played kind r a p ts ys xs ps b q → NotPlayed t y → TurnMakes kind t b c y → Played kind r a p (ts ++ t ∷ []) (ys ++ y ∷ []) xs ps c q
  then_not_accepted t y none_played n w = not_accepted n w none_played
  then_not_accepted t y (not_accepted m v k) n w = not_accepted m v (then_not_accepted t y k n w)
  then_not_accepted t y (one_played i v d z f k) n w = one_played i v d z f (then_not_accepted t y k n w)

  then_one : {a b c : Stage R} {p q s : Place kind.Content} (t : Turn) {ts : List Turn} (y : Reply) {ys : List Reply} {x : Member} {xs : List Member} {ps : List (Place kind.Content)}
      → Played kind r a p ts ys xs ps b q → IsMember r t x → TurnMakes kind t b c y → Does kind.changes q x s → Shows kind c s → (is_refused y ≡ true) ↔ Refused q x
      → Played kind r a p (ts ++ t ∷ []) (ys ++ y ∷ []) (xs ++ x ∷ []) (ps ++ s ∷ []) c s
  then_one t y none_played i v d z f = one_played i v d z f none_played
  then_one t y (not_accepted m w k) i v d z f = not_accepted m w (then_one t y k i v d z f)
  then_one t y (one_played j w e o g k) i v d z f = one_played j w e o g (then_one t y k i v d z f)

  row_of : {a b : Stage R} {p q : Place kind.Content} {ts : List Turn} {ys : List Reply} {xs : List Member} {ps : List (Place kind.Content)} → Played kind r a p ts ys xs ps b q → Row kind.changes p xs ps
  row_of none_played = row_end
  row_of (not_accepted m v k) = row_of k
  row_of (one_played i v d z f k) = row_next d (row_of k)

  reached_of : {a b : Stage R} {o p q : Place kind.Content} {ts : List Turn} {ys : List Reply} {xs : List Member} {ps : List (Place kind.Content)}
      → Reached kind.changes o p → Played kind r a p ts ys xs ps b q → Reached kind.changes o q
  reached_of c none_played = c
  reached_of c (not_accepted m v k) = reached_of c k
  reached_of c (one_played i v d z f k) = reached_of (then_does c d) k

  as_many : {a b : Stage R} {p q : Place kind.Content} {ts : List Turn} {ys : List Reply} {xs : List Member} {ps : List (Place kind.Content)} → Played kind r a p ts ys xs ps b q → length ys ≡ length ts
  as_many none_played = refl
  as_many (not_accepted m v k) = ap suc (as_many k)
  as_many (one_played i v d z f k) = ap suc (as_many k)

-- the first of the turns that are left is the next
pub next_of : {A : Type 0} (row : List A) (i : ℕ) (x : A) (xs : List A) → drop i row ≡ x ∷ xs → (i < length row) × (get_or row i x ≡ x) × (drop (i + 1) row ≡ xs)
next_of row i x xs e =
    let n : length (drop i row) ≡ suc (length xs) = ap length e in
    let l : i < length row = omega (arith, length-drop i row) in
    let f = sym (drop_more row i x l) ∙ e in
    (l, cc, cc)

-- where no turn is left, or no place for a reply, as many are played as there are places
pub ended : {A X : Type 0} (n at places : ℕ) (row rest : List A) → n + at ≡ places → rest ≡ drop at row → (0 < n → (length rest ≡ 0) × X) → take at row ≡ take places row
ended zero at places row rest e f g = let z : at ≡ places = omega arith in ap (λ k. take k row) z
ended (suc n) at places row rest e f g =
    let z = (g (omega arith)).0 in
    let l = ap length f in
    let all : length row ≤ at = omega (arith, length-drop at row) in
    take_all at row all ∙ sym (take_all places row (omega arith))

-- the next place of a table is written
written : {A : Type 0} (told : List A) (old : List (Option A)) (y : A) → length told < length old
    → set (map Some told ++ drop (length told) old) (length told) (Some y) ≡ map Some (told ++ y ∷ []) ++ drop (length (told ++ y ∷ [])) old
written [] [] y l = absurd (omega arith)
written [] (o ∷ os) y l = refl
written (x ∷ xs) [] y l = absurd (omega arith)
written (x ∷ xs) (o ∷ os) y l = let s : length xs < length os = omega arith in ap (λ zs. Some x ∷ zs) (written xs os y s)

told_more : (n : ℕ) (old new : List (Option Reply)) (told : List Reply) (y : Reply) → length told ≡ n → n < length old → new ≡ map Some told ++ drop (length told) old
    → set new n (Some y) ≡ map Some (told ++ y ∷ []) ++ drop (length (told ++ y ∷ [])) old
told_more n old new told y s l e =
    let t : length told < length old = omega arith in
    ap (λ z. set z n (Some y)) e ∙ ap (λ k. set (map Some told ++ drop (length told) old) k (Some y)) (sym s) ∙ written told old y t

pub same_rooms : (a b c a' b' c' : ℕ) → a ≡ a' → b ≡ b' → c ≡ c' → rooms a b c ≡ rooms a' b' c'
same_rooms a b c a' b' c' e f g = cc

-- a call that is not refused is not replied to so
pub kept_done : {A : Type 0} (K : Bool → Type 0) (answer : Result A Refusal) (x : A) → answer ≡ Ok x → K (is_err answer) → K false
kept_done K answer x e k = subst K (ap is_err e) k

-- a call that is refused is replied to by its refusal
pub kept_refused : {A : Type 0} (K : Bool → Type 0) (answer : Result A Refusal) (f : Refusal) (y : Reply) → IsErrAnd y (λ t. t ≡ RefusedTurn f) → answer ≡ Err f → K (is_err answer) → K (is_refused y)
kept_refused K answer f (Ok d) h e k = absurd h
kept_refused K answer f (Err t) h e k = subst K (ap is_err e ∙ sym (ap (λ (u : TurnFault). is_refused (Err u)) h)) k

module _ {R : Type 0} (kind : Ghosts R) (start : Stage R) where
  -- A row so far, to where the controller and the tables are.
  abbrev pub RowOf : List Turn → List (Option Reply) → List (Option Reply) → Stage R → Type 0
  RowOf row old new a = RowPlayed kind start row old new a

  -- a new controller is kept at its first place
  new_kept : {h : Held} {m : Meaning kind.Content} → h ≡ nothing_held → m ≡ after_clear kind.changes (kind.meaning start.register) → (kind.meaning start.register).capacity ≤ 32
      → (k : Kept kind.changes h m) × (place_of k ≡ first_place kind.changes (kind.meaning start.register))
  new_kept {h = h} {m = m} e f small =
      let first = first_place kind.changes (kind.meaning start.register) in
      subst (λ (z : Held). (k : Kept kind.changes z m) × (place_of k ≡ first)) (sym e)
      (subst (λ (z : Meaning kind.Content). (k : Kept kind.changes nothing_held z) × (place_of k ≡ first)) (sym f) (kept_new kind.changes (kind.meaning start.register) small, refl))

  -- a new controller has played nothing
  pub none_yet : (old : List (Option Reply)) (a : Stage R) → start.shot ≡ nothing_held → (kind.meaning start.register).capacity ≤ 32
      → a ≡ stage start.shot a.register start.work start.value start.kinds → kind.meaning a.register ≡ after_clear kind.changes (kind.meaning start.register) → RowOf [] old old a
  none_yet old a s small e cleared =
      let begins = new_kept s cleared small in
      let is_new : New kind.changes (first_place kind.changes (kind.meaning start.register)) = record { nothing = refl; given = kind.meaning start.register; small = small; cleared = refl } in
      subst (λ z. RowOf [] old old z) (sym e) (record {
        cleared = a.register;
        is_cleared = cleared;
        replies = [];
        members = [];
        places = first_place kind.changes (kind.meaning start.register) ∷ [];
        last = first_place kind.changes (kind.meaning start.register);
        played = none_played;
        kept = begins.0;
        at_last = begins.1;
        is_new = is_new;
        is_row = row_end;
        sound = every_place_is_sound kind.Content kind.changes (first_place kind.changes (kind.meaning start.register)) [] (first_place kind.changes (kind.meaning start.register) ∷ []) is_new row_end;
        told = refl;
      })

  -- a turn that is no member leaves the place
  same_kept : {h h' : Held} {r r' : R} (p : Place kind.Content) → h' ≡ h → r' ≡ r → (k : Kept kind.changes h (kind.meaning r)) → place_of k ≡ p
      → (k' : Kept kind.changes h' (kind.meaning r')) × (place_of k' ≡ p)
  same_kept {h = h} {h' = h'} {r = r} {r' = r'} p e f k q =
      subst (λ z. (k' : Kept kind.changes z (kind.meaning r')) × (place_of k' ≡ p)) (sym e) (subst (λ z. (k' : Kept kind.changes h (kind.meaning z)) × (place_of k' ≡ p)) (sym f) (k, q))

  -- one turn more
  one_more : (n : ℕ) (row : List Turn) (old new : List (Option Reply)) (c c' : Controller R kind) (work work' value value' : List TermCell) (kinds kinds' : List TypeCell) (t : Turn) (y : Reply)
      → RowOf row old new (stage (held c.shot) c.register work value kinds)
      → TurnMakes kind t (stage (held c.shot) c.register work value kinds) (stage (held c'.shot) c'.register work' value' kinds') y
      → TurnPlayed kind (rooms_of start) t c c' y → length row ≡ n → n < length old
      → RowOf (row ++ t ∷ []) old (set new n (Some y)) (stage (held c'.shot) c'.register work' value' kinds')
  one_more n row old new c c' work work' value value' kinds kinds' t y k makes (inl (x, i, keeps)) s l =
      let after = keeps k.kept in
      let does = subst (λ p. Does kind.changes p x (place_of after.after)) k.at_last after.does in
      let refusal = subst (λ p. (is_refused y ≡ true) ↔ Refused p x) k.at_last after.refusal in
      let shows : Shows kind (stage (held c'.shot) c'.register work' value' kinds') (place_of after.after) = record { stands = after.after.stands; register = refl } in
      let played = then_one t y k.played i makes does shows refusal in
      record {
        cleared = k.cleared;
        is_cleared = k.is_cleared;
        replies = k.replies ++ y ∷ [];
        members = k.members ++ x ∷ [];
        places = k.places ++ place_of after.after ∷ [];
        last = place_of after.after;
        played = played;
        kept = after.after;
        at_last = refl;
        is_new = k.is_new;
        is_row = row_of played;
        sound = every_place_is_sound kind.Content kind.changes (first_place kind.changes (kind.meaning start.register)) _ _ k.is_new (row_of played);
        told = told_more n old new k.replies y (as_many k.played ∙ s) l k.told;
      }
  one_more n row old new c c' work work' value value' kinds kinds' t y k makes (inr (not, e, f)) s l = record {
    cleared = k.cleared;
    is_cleared = k.is_cleared;
    replies = k.replies ++ y ∷ [];
    members = k.members;
    places = k.places;
    last = k.last;
    played = then_not_accepted t y k.played not makes;
    kept = (same_kept k.last (ap held e) f k.kept k.at_last).0;
    at_last = (same_kept k.last (ap held e) f k.kept k.at_last).1;
    is_new = k.is_new;
    is_row = k.is_row;
    sound = k.sound;
    told = told_more n old new k.replies y (as_many k.played ∙ s) l k.told;
  }

  -- the next turn of a row
  pub next_turn : (i : ℕ) (row rest : List Turn) (t : Turn) (old new : List (Option Reply)) (c c' : Controller R kind) (work work' value value' : List TermCell) (kinds kinds' : List TypeCell) (y : Reply) (q : Rooms)
      → q ≡ rooms_of start → drop i row ≡ t ∷ rest
      → RowOf (take i row) old new (stage (held c.shot) c.register work value kinds)
      → TurnMakes kind t (stage (held c.shot) c.register work value kinds) (stage (held c'.shot) c'.register work' value' kinds') y
      → TurnPlayed kind q t c c' y → i < length old
      → RowOf (take (i + 1) row) old (set new i (Some y)) (stage (held c'.shot) c'.register work' value' kinds')
  next_turn i row rest t old new c c' work work' value value' kinds kinds' y q e f k makes p m =
      let (l, g, h) = next_of row i t rest f in
      let le : i ≤ length row = omega arith in
      let turn = subst (λ z. TurnPlayed kind z t c c' y) e p in
      subst (λ ts. RowOf ts old (set new i (Some y)) (stage (held c'.shot) c'.register work' value' kinds')) (ap (λ z. take i row ++ z ∷ []) (sym g) ∙ sym (take_more row i t l))
      (one_more i (take i row) old new c c' work work' value value' kinds kinds' t y k makes turn (length-take-le i row le) m)

module _ {R : Type 0} (kind : Ghosts R) where
  -- A load by tables that are those of the turn.
  pub loaded_by : (types types' : List TypeCell) (terms terms' : List TermCell) (c c' : Controller R kind) (y : Reply) → types' ≡ types → terms' ≡ terms
      → LoadPlayed kind types' terms' c c' y → LoadPlayed kind types terms c c' y
  loaded_by types types' terms terms' c c' y e f p = subst (λ z. LoadPlayed kind z terms c c' y) e (subst (λ z. LoadPlayed kind types' z c c' y) f p)

  -- The same turn, as it is matched.
  pub turn_is : (r : Rooms) (t u : Turn) (c c' : Controller R kind) (y : Reply) → t ≡ u → TurnPlayed kind r u c c' y → TurnPlayed kind r t c c' y
  turn_is r t u c c' y e p = subst (λ z. TurnPlayed kind r z c c' y) (sym e) p
