-- A load is the member of a row: it is refused just where something is loaded or a gate is not made, and else the program's term stands.
use Rattle.std.specs.Prelude.{◌≡◌, ℕ, ◌<◌, ◌≤◌, Bool, true, false, cond, ◌&&◌, ◌||◌, T as True, List, [], ◌∷◌, ◌++◌, map, length, Some, None, Ok, Err, Option, Result, MatchResult, is_err, is_some, not, ◌==◌}
use Rattle.std.proofs.lemmas.Bool.{false≢true}
use Rattle.std.proofs.Common.{ap, ap₂, ◌∙◌, sym, refl, subst, inl, inr, ⊎_elim, arith}
use Rattle.std.proofs.lemmas.Option.{none-some, slice_get-map}
use Rattle.calculus.specs.declared.gates.Gate.{Gate}
use Rattle.calculus.specs.declared.gates.Gate.TheVariants.{H, X, Z, S, T, Cnot, Swap, Toffoli}
use Rattle.calculus.specs.declared.cells.TermCell.{TermCell}
use Rattle.calculus.specs.declared.cells.TypeCell.{TypeCell}
use Rattle.calculus.specs.Types.{Ty}
use Rattle.calculus.specs.Terms.{Const, bit_of, meas, new, gate, bound, held, Term, var, const, star, lam, app, pair, if_then_else, let_pair, Running, claim_of, size, reclaimed, erased}
use Rattle.calculus.specs.Cells.{const_op, const_argument, cell_of, type_cells, placed_cells, running_cells, unclaimed}
use Rattle.calculus.specs.Letters.{allowed}
use Rattle.calculus.specs.Reading.{type_at, every}
use Rattle.calculus.proofs.Failing.{all_pass, none_fails, FirstFails, first_fails}
use Rattle.calculus.proofs.Reading.{T_true, both}
use Rattle.calculus.proofs.Stripping.{T_and}
use Rattle.calculus.proofs.ReadTerms.{cells_counted}
use Rattle.finder.proofs.Meaning.{as_many, unclaimed_cells}
use Rattle.calculus.proofs.Reaching.{size_reclaimed}
use Rattle.checker.specs.Accepting.{accepts}
use Rattle.checker.specs.Meaning.{meaning as term_meant}
use Rattle.checker.specs.Tables.{storable}
use Rattle.checker.proofs.Exact.{meant_by}
use Rattle.registers.specs.Meaning.{Meaning, Changes}
use Rattle.rows.specs.Gates.{gate_named, gates_by_cell, UnmadeAt, FirstUnmade}
use Rattle.rows.specs.Members.{NamesGate, gate_here, gate_lam, gate_fun, gate_arg, gate_left, gate_right, gate_test, gate_then, gate_else, gate_pair, gate_body, Program, load}
use Rattle.rows.specs.Refusing.{Refused, already_loaded, gate_not_made, Answers}
use Rattle.rows.specs.Refusing.{Holds as RowHolds}
use Rattle.rows.specs.Places.{Place}
use Rattle.rows.proofs.Sound.{some_none}
use Rattle.controller.specs.Faults.{number_refused}
use Rattle.rows.specs.Doing.{loads}
use Rattle.rows.specs.Rows.{then_does}
use Rattle.rows.proofs.Made.{check, load_taken}
use Rattle.controller.specs.declared.faults.ControllerFault.TheVariants.{AlreadyLoaded}
use Rattle.controller.specs.Faults.{refused}
use Rattle.controller.specs.Loading.{is_made, first_unmade, count_or_unmade, load_answer, LoadPlace}
use Rattle.std.specs.List.{slice_get}
use Rattle.std.specs.Option.{option_map}
use Rattle.std.proofs.lemmas.List.{map-append}
use Rattle.controller.specs.declared.faults.Refusal.{Refusal}
use Rattle.controller.specs.declared.shot.Shot.{Shot}
use Rattle.controller.specs.Shots.{Held, held as held_by, is_loaded, root_claim, program_held}
use Rattle.controller.specs.Keeping.{Holds as HoldsTerm, Stands, Kept, place_of, Keeps, LoadKeptBy}
use Rattle.controller.proofs.Accepted.{stored}
use Rattle.controller.proofs.Keeping.{stays, leads, loaded_stands}

-- Cells that are no gate's pass, and a gate's cell passes if the gate is made.
const_made : {C : Type 0} {d : C} (makes : Gate → Bool) (c : ℕ) (k : Const) → ((u : Gate) → NamesGate u (const d k) → makes u ≡ true) → is_made makes (cell_of (const_op k) (const_argument k) c) ≡ true
const_made makes c (bit_of true) all = refl
const_made makes c (bit_of false) all = refl
const_made makes c meas all = refl
const_made makes c new all = refl
const_made makes c (gate H) all = all H gate_here
const_made makes c (gate X) all = all X gate_here
const_made makes c (gate Z) all = all Z gate_here
const_made makes c (gate S) all = all S gate_here
const_made makes c (gate T) all = all T gate_here
const_made makes c (gate Cnot) all = all Cnot gate_here
const_made makes c (gate Swap) all = all Swap gate_here
const_made makes c (gate Toffoli) all = all Toffoli gate_here

-- Where two lists pass a test, so does the one behind the other, and the other way round.
joined : (f : TermCell → Bool) (cs ds : List TermCell) → True (every f cs) → True (every f ds) → True (every f (cs ++ ds))
joined f [] ds p q = q
joined f (c ∷ cs) ds p q = let r = both (f c) (every f cs) p in (T_and (f c) (every f (cs ++ ds))).1 (r.0, joined f cs ds (r.1) q)

parted : (f : TermCell → Bool) (cs ds : List TermCell) → True (every f (cs ++ ds)) → True (every f cs) × True (every f ds)
parted f [] ds p = (tt, p)
parted f (c ∷ cs) ds p =
    let r = both (f c) (every f (cs ++ ds)) p in
    let s = parted f cs ds (r.1) in
    ((T_and (f c) (every f cs)).1 (r.0, s.0), s.1)

-- The cells of a term pass just where every gate that it names is made, whatever its claims stand for.
cells_pass : (makes : Gate → Bool) (f : ℕ → Ty) (m : Term ℕ) → ((u : Gate) → NamesGate u (reclaimed f m) → makes u ≡ true) → True (every (is_made makes) (placed_cells m))
cells_pass makes f (var c (bound i)) all = tt
cells_pass makes f (var c (held h)) all = tt
cells_pass makes f (const c k) all = subst (λ b. True (b && true)) (sym (const_made makes c k all)) tt
cells_pass makes f (star c) all = tt
cells_pass makes f (lam c m) all = cells_pass makes f m (λ u g. all u (gate_lam g))
cells_pass makes f (app c m n) all = joined (is_made makes) (placed_cells m) (placed_cells n) (cells_pass makes f m (λ u g. all u (gate_fun g))) (cells_pass makes f n (λ u g. all u (gate_arg g)))
cells_pass makes f (pair c m n) all = joined (is_made makes) (placed_cells m) (placed_cells n) (cells_pass makes f m (λ u g. all u (gate_left g))) (cells_pass makes f n (λ u g. all u (gate_right g)))
cells_pass makes f (if_then_else c p m n) all =
    joined (is_made makes) (placed_cells p) (placed_cells m ++ placed_cells n) (cells_pass makes f p (λ u g. all u (gate_test g)))
    (joined (is_made makes) (placed_cells m) (placed_cells n) (cells_pass makes f m (λ u g. all u (gate_then g))) (cells_pass makes f n (λ u g. all u (gate_else g))))
cells_pass makes f (let_pair c m n) all = joined (is_made makes) (placed_cells m) (placed_cells n) (cells_pass makes f m (λ u g. all u (gate_pair g))) (cells_pass makes f n (λ u g. all u (gate_body g)))

gate_passes : (makes : Gate → Bool) (c : ℕ) (u : Gate) → is_made makes (cell_of 103 (const_argument (gate u)) c) ≡ makes u
gate_passes makes c H = refl
gate_passes makes c X = refl
gate_passes makes c Z = refl
gate_passes makes c S = refl
gate_passes makes c T = refl
gate_passes makes c Cnot = refl
gate_passes makes c Swap = refl
gate_passes makes c Toffoli = refl

gates_made : (makes : Gate → Bool) (f : ℕ → Ty) (m : Term ℕ) → True (every (is_made makes) (placed_cells m)) → (u : Gate) → NamesGate u (reclaimed f m) → makes u ≡ true
gates_made makes f (var c x) p u g = elim g [ ]
gates_made makes f (const c k) p u gate_here = sym (gate_passes makes c u) ∙ T_true _ ((both _ true p).0)
gates_made makes f (star c) p u g = elim g [ ]
gates_made makes f (lam c m) p u (gate_lam g) = gates_made makes f m p u g
gates_made makes f (app c m n) p u (gate_fun g) = gates_made makes f m ((parted (is_made makes) (placed_cells m) (placed_cells n) p).0) u g
gates_made makes f (app c m n) p u (gate_arg g) = gates_made makes f n ((parted (is_made makes) (placed_cells m) (placed_cells n) p).1) u g
gates_made makes f (pair c m n) p u (gate_left g) = gates_made makes f m ((parted (is_made makes) (placed_cells m) (placed_cells n) p).0) u g
gates_made makes f (pair c m n) p u (gate_right g) = gates_made makes f n ((parted (is_made makes) (placed_cells m) (placed_cells n) p).1) u g
gates_made makes f (if_then_else c p m n) q u (gate_test g) = gates_made makes f p ((parted (is_made makes) (placed_cells p) (placed_cells m ++ placed_cells n) q).0) u g
gates_made makes f (if_then_else c p m n) q u (gate_then g) =
    gates_made makes f m ((parted (is_made makes) (placed_cells m) (placed_cells n) ((parted (is_made makes) (placed_cells p) (placed_cells m ++ placed_cells n) q).1)).0) u g
gates_made makes f (if_then_else c p m n) q u (gate_else g) =
    gates_made makes f n ((parted (is_made makes) (placed_cells m) (placed_cells n) ((parted (is_made makes) (placed_cells p) (placed_cells m ++ placed_cells n) q).1)).1) u g
gates_made makes f (let_pair c m n) p u (gate_pair g) = gates_made makes f m ((parted (is_made makes) (placed_cells m) (placed_cells n) p).0) u g
gates_made makes f (let_pair c m n) p u (gate_body g) = gates_made makes f n ((parted (is_made makes) (placed_cells m) (placed_cells n) p).1) u g

-- The first cell of the term that names a gate which is not made: none, just where every gate that the term names is made.
pub unmade_none : (makes : Gate → Bool) (m : Term ℕ) (f : ℕ → Ty) → ((u : Gate) → NamesGate u (reclaimed f m) → makes u ≡ true) → first_unmade makes (placed_cells m) ≡ None
unmade_none makes m f all = none_fails (is_made makes) (placed_cells m) 0 (cells_pass makes f m all)

pub unmade_some : (makes : Gate → Bool) (m : Term ℕ) (f : ℕ → Ty) → first_unmade makes (placed_cells m) ≡ None → (u : Gate) → NamesGate u (reclaimed f m) → makes u ≡ true
unmade_some makes m f e u g = gates_made makes f m (all_pass (is_made makes) (placed_cells m) 0 e) u g

-- What runs is the term without its claims, and its type is what its root claims.
allowed_unclaimed : (cs : List TermCell) → every allowed (unclaimed cs) ≡ every allowed cs
allowed_unclaimed [] = refl
allowed_unclaimed (c ∷ cs) = ap (λ b. allowed c && b) (allowed_unclaimed cs)

unclaimed_twice : (cs : List TermCell) → unclaimed (unclaimed cs) ≡ unclaimed cs
unclaimed_twice [] = refl
unclaimed_twice (c ∷ cs) = ap (λ ds. cell_of c.op c.argument 0 ∷ ds) (unclaimed_twice cs)

erased_reclaimed : (f : ℕ → Ty) (m : Term ℕ) → erased (reclaimed f m) ≡ erased m
erased_reclaimed f (var c x) = refl
erased_reclaimed f (const c k) = refl
erased_reclaimed f (star c) = refl
erased_reclaimed f (lam c m) = ap (lam tt) (erased_reclaimed f m)
erased_reclaimed f (app c m n) = ap₂ (app tt) (erased_reclaimed f m) (erased_reclaimed f n)
erased_reclaimed f (pair c m n) = ap₂ (pair tt) (erased_reclaimed f m) (erased_reclaimed f n)
erased_reclaimed f (if_then_else c p m n) = simp (erased_reclaimed f p, erased_reclaimed f m, erased_reclaimed f n)
erased_reclaimed f (let_pair c m n) = ap₂ (let_pair tt) (erased_reclaimed f m) (erased_reclaimed f n)

root_claimed : (f : ℕ → Ty) (m : Term ℕ) → f (root_claim (placed_cells m)) ≡ claim_of (reclaimed f m)
root_claimed f (var c x) = refl
root_claimed f (const c k) = refl
root_claimed f (star c) = refl
root_claimed f (lam c m) = refl
root_claimed f (app c m n) = refl
root_claimed f (pair c m n) = refl
root_claimed f (if_then_else c p m n) = refl
root_claimed f (let_pair c m n) = refl

load_refuses : (makes : Gate → Bool) (h : Held) (terms : List TermCell) {l : Bool} {o : Option ℕ} → is_loaded h ≡ l → first_unmade makes terms ≡ o → is_err (load_answer makes h terms) ≡ (l || is_some o)
load_refuses makes h terms {l} {o} p q = ap₂ (λ y z. is_err (cond y (refused AlreadyLoaded h.steps) (count_or_unmade z (length terms)))) p q ∙ by l o
  where
    by : (l : Bool) (o : Option ℕ) → is_err (cond l (refused AlreadyLoaded h.steps) (count_or_unmade o (length terms))) ≡ (l || is_some o)
    by true o = refl
    by false None = refl
    by false (Some c) = refl

-- no row below 32 holds for a load, and none below 33 where nothing is loaded
lowest_load : {C : Type 0} {p : Place C} {f : ℕ} {x : Program} → RowHolds p f (load x) → (n : ℕ) → f < n → n ≤ 33 → (32 < n → (m : Running) × (a : Ty) × (p.loaded ≡ Some (m, a)) → ⊥) → ⊥
lowest_load (already_loaded {m = m} {a = a} q) n b l g = g b (m, a, q)
lowest_load (gate_not_made u h q) n b l g = omega arith

-- The tables of a program: its term's cells, which claim places of the type table.
module _ (types : List TypeCell) (terms : List TermCell) (x : Program) (placed : Term ℕ)
    (cells : terms ≡ placed_cells placed) (means : x.term ≡ reclaimed (type_at types) placed) (letters : True (every allowed terms)) where
  few_cells : length (unclaimed terms) ≤ 1024
  few_cells =
      let a = as_many terms in
      let b = ap length cells ∙ cells_counted placed in
      let c = ap size means ∙ size_reclaimed (type_at types) placed in
      let d = x.short in
      omega arith

  held_term : HoldsTerm (program_held types terms) (erased x.term) (claim_of x.term)
  held_term = record {
    means = record {
      few = few_cells;
      each_allowed = subst True (sym (allowed_unclaimed terms)) letters;
      written = unclaimed_twice terms ∙ ap unclaimed cells ∙ unclaimed_cells placed ∙ ap running_cells (sym (ap erased means ∙ erased_reclaimed (type_at types) placed));
    };
    claim_nothing = unclaimed_twice terms;
    kinds = ap type_cells (ap (λ cs. type_at types (root_claim cs)) cells ∙ root_claimed (type_at types) placed ∙ sym (ap claim_of means));
  }

  module _ (makes : Gate → Bool) where
    all_made : first_unmade makes terms ≡ None → (u : Gate) → NamesGate u x.term → makes u ≡ true
    all_made e u g = unmade_some makes placed (type_at types) (sym (ap (first_unmade makes) cells) ∙ e) u (subst (NamesGate u) means g)

    none_unmade : ((u : Gate) → NamesGate u x.term → makes u ≡ true) → first_unmade makes terms ≡ None
    none_unmade all = ap (first_unmade makes) cells ∙ unmade_none makes placed (type_at types) (λ u g. all u (subst (NamesGate u) (sym means) g))

  module _ {C : Type 0} {changes : Changes C} {h : Held} {r : Meaning C} (k : Kept changes h r) (h' : Held) (r' : Meaning C) where
    -- the program's term stands, beside the register as it was
    entered : h' ≡ program_held types terms → r' ≡ r → (Refused (place_of k) (load x) → ⊥) → Keeps changes (load x) h r h' r' false k
    entered e f ok = leads (load x) k (record { loaded = Some (erased x.term, claim_of x.term); stands = held_term; start = k.start; is_new = k.is_new; reached = then_does k.reached (loads ok); counts = refl })
        h' r' e f ok (loads ok)

    pub loaded : (b : Bool) → b ≡ is_err (load_answer r.makes h terms)
        → (b ≡ false → (h' ≡ program_held types terms) × (r' ≡ r)) → (b ≡ true → (h' ≡ h) × (r' ≡ r))
        → Keeps changes (load x) h r h' r' b k
    loaded b e done left = by k.loaded refl k.stands
      where
        not_done : b ≡ true → Refused (place_of k) (load x) → Keeps changes (load x) h r h' r' b k
        not_done c why = let now = left c in subst (λ y. Keeps changes (load x) h r h' r' y k) (sym c) (stays (load x) k h' r' (now.0) (now.1) why)

        by : (o : Option (Running × Ty)) → k.loaded ≡ o → Stands h o → Keeps changes (load x) h r h' r' b k
        by (Some (m, a)) q s = not_done (e ∙ load_refuses r.makes h terms (loaded_stands m h (sym s.claim_nothing ∙ s.means.written)) refl) (32, already_loaded q)
        by None q s = by_gates (first_unmade r.makes terms) refl
          where
            by_gates : (o : Option ℕ) → first_unmade r.makes terms ≡ o → Keeps changes (load x) h r h' r' b k
            by_gates None f =
                let c : b ≡ false = e ∙ load_refuses r.makes h terms (ap is_loaded s) f in
                let now = done c in
                subst (λ y. Keeps changes (load x) h r h' r' y k) (sym c) (entered (now.0) (now.1) (λ z. load_taken changes (place_of k) q (all_made r.makes f) z.1))
            by_gates (Some cell) f =
                let c : b ≡ true = e ∙ load_refuses r.makes h terms (ap is_loaded s) f in
                ⊎_elim (λ y. not_done c (33, gate_not_made (y.0) (y.1) (y.2))) (λ all. absurd (none-some cell (sym (none_unmade r.makes all) ∙ f))) (check r.makes x.term)

  module _ {C : Type 0} {changes : Changes C} {h : Held} {r : Meaning C} (k : Kept changes h r) where
    -- a load is refused by the lowest row that holds
    pub loaded_number : Answers (place_of k) (load x) (number_refused (load_answer r.makes h terms))
    loaded_number = by k.loaded refl k.stands
      where
        tested : Bool → Option ℕ → Option ℕ
        tested l o = number_refused (cond l (refused AlreadyLoaded h.steps) (count_or_unmade o (length terms)))

        said : {l : Bool} {o : Option ℕ} → is_loaded h ≡ l → first_unmade r.makes terms ≡ o → Answers (place_of k) (load x) (tested l o) → Answers (place_of k) (load x) (number_refused (load_answer r.makes h terms))
        said p q a = subst (Answers (place_of k) (load x)) (sym (ap₂ tested p q)) a

        by : (o : Option (Running × Ty)) → k.loaded ≡ o → Stands h o → Answers (place_of k) (load x) (number_refused (load_answer r.makes h terms))
        by (Some (m, a)) q s = said (loaded_stands m h (sym s.claim_nothing ∙ s.means.written)) refl (already_loaded q, λ other y b. lowest_load y 32 b (omega arith) (λ z. absurd (omega arith)))
        by None q s = by_gates (first_unmade r.makes terms) refl
          where
            by_gates : (o : Option ℕ) → first_unmade r.makes terms ≡ o → Answers (place_of k) (load x) (number_refused (load_answer r.makes h terms))
            by_gates None f = said (ap is_loaded s) f (λ number z. load_taken changes (place_of k) q (all_made r.makes f) z)
            by_gates (Some cell) f = said (ap is_loaded s) f (⊎_elim
                (λ y. (gate_not_made y.0 y.1 y.2, λ other z b. lowest_load z 33 b (omega arith) (λ _ (m, a, e). some_none e q)))
                (λ all. absurd (none-some cell (sym (none_unmade r.makes all) ∙ f))) (check r.makes x.term))

-- What an accepted program's tables store is a program, of which each cell is allowed.
every_storable : (cs : List TermCell) → True (every storable cs) → True (every allowed cs)
every_storable [] e = tt
every_storable (c ∷ cs) e =
    let p = both (storable c) (every storable cs) e in
    let q = T_true (allowed c) ((both (allowed c) (not (c.op == 113)) p.0).0) in
    subst (λ b. True (b && every allowed cs)) (sym q) (every_storable cs p.1)

record StoresProgram (types : List TypeCell) (terms : List TermCell) : Type 0 where
  pub program : Program
  pub placed : Term ℕ
  pub cells : terms ≡ placed_cells placed
  pub means : program.term ≡ reclaimed (type_at types) placed
  pub letters : True (every allowed terms)
  pub meant : program.term ≡ term_meant types terms 0

accepted_program : (types : List TypeCell) (terms : List TermCell) → accepts types terms ≡ true → StoresProgram types terms
accepted_program types terms e =
    let (m, s, d) = stored types terms e in
    let short : size m ≤ 512 = (
    let a = ap size s.means ∙ size_reclaimed (type_at types) s.placed in
    let b = ap length s.cells ∙ cells_counted s.placed in
    let c = s.few_terms in
    omega arith) in
    record {
      program = record { term = m; accepted = d; short = short };
      placed = s.placed;
      cells = s.cells;
      means = s.means;
      letters = every_storable terms s.stored;
      meant = sym (meant_by types terms m s);
    }

pub load_call : {R C : Type 0} (changes : Changes C) (meaning : R → Meaning C) (types : List TypeCell) (terms : List TermCell) → accepts types terms ≡ true
    → (shot shot' : Shot) (register register' : R) (result : Result ℕ Refusal)
    → result ≡ load_answer (meaning register).makes (held_by shot) terms
    → MatchResult result (λ _. held_by shot' ≡ program_held types terms) (λ _. shot' ≡ shot) → register' ≡ register
    → LoadKeptBy changes meaning types terms shot register shot' register' (is_err result)
load_call changes meaning types terms a shot shot' register register' result e f q =
    let s = accepted_program types terms a in
    (s.program, s.meant, λ k. by s k result (ap is_err e) f)
  where
    by : (s : StoresProgram types terms) (k : Kept changes (held_by shot) (meaning register)) (x : Result ℕ Refusal)
        → is_err x ≡ is_err (load_answer (meaning register).makes (held_by shot) terms) → MatchResult x (λ _. held_by shot' ≡ program_held types terms) (λ _. shot' ≡ shot)
        → Keeps changes (load s.program) (held_by shot) (meaning register) (held_by shot') (meaning register') (is_err x) k
    by s k (Ok y) e f = loaded types terms s.program s.placed s.cells s.means s.letters k (held_by shot') (meaning register') false e (λ _. (f, ap meaning q)) (λ z. absurd (false≢true z))
    by s k (Err y) e f = loaded types terms s.program s.placed s.cells s.means s.letters k (held_by shot') (meaning register') true e (λ z. absurd (false≢true (sym z))) (λ _. (ap held_by f, ap meaning q))

pub load_number : {R C : Type 0} (changes : Changes C) (meaning : R → Meaning C) (types : List TypeCell) (terms : List TermCell) → accepts types terms ≡ true
    → (shot : Shot) (register : R) (result : Result ℕ Refusal) → result ≡ load_answer (meaning register).makes (held_by shot) terms
    → (x : Program) × (x.term ≡ term_meant types terms 0) × ((k : Kept changes (held_by shot) (meaning register)) → Answers (place_of k) (load x) (number_refused result))
load_number changes meaning types terms a shot register result e =
    let s = accepted_program types terms a in
    (s.program, s.meant, λ k. subst (λ y. Answers (place_of k) (load s.program) (number_refused y)) (sym e) (loaded_number types terms s.program s.placed s.cells s.means s.letters k))

-- the test of a cell, by the gate that it names
abbrev gate_passed : (Gate → Bool) → Option Gate → Bool
gate_passed makes None = true
gate_passed makes (Some u) = makes u

const_passed : (makes : Gate → Bool) (c : ℕ) (k : Const)
    → is_made makes (cell_of (const_op k) (const_argument k) c) ≡ gate_passed makes (gate_named k)
const_passed makes c (bit_of true) = refl
const_passed makes c (bit_of false) = refl
const_passed makes c meas = refl
const_passed makes c new = refl
const_passed makes c (gate u) = gate_passes makes c u

both_mapped : {A B : Type 0} (f : A → Bool) (g : B → Bool) (xs ys : List A) (vs ws : List B)
    → map f xs ≡ map g vs → map f ys ≡ map g ws → map f (xs ++ ys) ≡ map g (vs ++ ws)
both_mapped f g xs ys vs ws p q =
    map-append f xs ys ∙ ap₂ (λ is js. is ++ js) p q ∙ sym (map-append g vs ws)

module _ (makes : Gate → Bool) (f : ℕ → Ty) where
  abbrev gates : Term ℕ → List (Option Gate)
  gates m = gates_by_cell (reclaimed f m)

  two_passed : (m n : Term ℕ) → map (is_made makes) (placed_cells m) ≡ map (gate_passed makes) (gates m)
      → map (is_made makes) (placed_cells n) ≡ map (gate_passed makes) (gates n)
      → map (is_made makes) (placed_cells m ++ placed_cells n) ≡ map (gate_passed makes) (gates m ++ gates n)
  two_passed m n = both_mapped (is_made makes) (gate_passed makes) (placed_cells m) (placed_cells n) (gates m) (gates n)

  -- The cells of a term pass as the gates that they name.
  cells_passed : (m : Term ℕ) → map (is_made makes) (placed_cells m) ≡ map (gate_passed makes) (gates m)
  cells_passed (var c (bound i)) = refl
  cells_passed (var c (held h)) = refl
  cells_passed (const c k) = ap (λ b. b ∷ []) (const_passed makes c k)
  cells_passed (star c) = refl
  cells_passed (lam c m) = ap (λ bs. true ∷ bs) (cells_passed m)
  cells_passed (app c m n) = ap (λ bs. true ∷ bs) (two_passed m n (cells_passed m) (cells_passed n))
  cells_passed (pair c m n) = ap (λ bs. true ∷ bs) (two_passed m n (cells_passed m) (cells_passed n))
  cells_passed (if_then_else c p m n) = ap (λ bs. true ∷ bs)
      (both_mapped (is_made makes) (gate_passed makes) (placed_cells p) (placed_cells m ++ placed_cells n)
      (gates p) (gates m ++ gates n) (cells_passed p) (two_passed m n (cells_passed m) (cells_passed n)))
  cells_passed (let_pair c m n) = ap (λ bs. true ∷ bs) (two_passed m n (cells_passed m) (cells_passed n))

  module _ (m : Term ℕ) where
    same_test : (k : ℕ) → option_map (is_made makes) (slice_get (placed_cells m) k)
        ≡ option_map (gate_passed makes) (slice_get (gates m) k)
    same_test k = sym (slice_get-map (is_made makes) (placed_cells m) k)
        ∙ ap (λ bs. slice_get bs k) (cells_passed m) ∙ slice_get-map (gate_passed makes) (gates m) k

    -- a cell that fails names a gate that is not made, and the other way round
    unmade_found : (k : ℕ) (c : TermCell) → slice_get (placed_cells m) k ≡ Some c → is_made makes c ≡ false
        → UnmadeAt makes (reclaimed f m) k
    unmade_found k c g e = by (slice_get (gates m) k) refl (sym (same_test k) ∙ ap (option_map (is_made makes)) g)
      where
        by : (o : Option (Option Gate)) → slice_get (gates m) k ≡ o
            → option_map (gate_passed makes) o ≡ Some (is_made makes c) → UnmadeAt makes (reclaimed f m) k
        by None q r = absurd (none-some _ r)
        by (Some None) q r = absurd (false≢true (sym e ∙ sym (taken_out r)))
          where
            taken_out : Some true ≡ Some (is_made makes c) → true ≡ is_made makes c
            taken_out r = cc
        by (Some (Some u)) q r = (u, q, taken_out r ∙ e)
          where
            taken_out : Some (makes u) ≡ Some (is_made makes c) → makes u ≡ is_made makes c
            taken_out r = cc

    unmade_fails : (k : ℕ) → UnmadeAt makes (reclaimed f m) k
        → (c : TermCell) × (slice_get (placed_cells m) k ≡ Some c) × (is_made makes c ≡ false)
    unmade_fails k y = by (slice_get (placed_cells m) k) refl (same_test k ∙ ap (option_map (gate_passed makes)) y.1)
      where
        by : (o : Option TermCell) → slice_get (placed_cells m) k ≡ o
            → option_map (is_made makes) o ≡ Some (makes y.0)
            → (c : TermCell) × (slice_get (placed_cells m) k ≡ Some c) × (is_made makes c ≡ false)
        by None q r = absurd (none-some _ r)
        by (Some c) q r = (c, q, taken_out r ∙ y.2)
          where
            taken_out : Some (is_made makes c) ≡ Some (makes y.0) → is_made makes c ≡ makes y.0
            taken_out r = cc

    first_found : (k : ℕ) → FirstFails (is_made makes) (placed_cells m) 0 (Some k)
        → FirstUnmade makes (reclaimed f m) k
    first_found k y = record {
      here = subst (UnmadeAt makes (reclaimed f m)) (sym same) (unmade_found y.0 y.1 y.3 y.4);
      none_before = λ j l u. let (c, g, e) = unmade_fails j u in y.5 j c (let z = y.2 in omega arith) g e;
    }
      where
        same : k ≡ y.0
        same = let z = y.2 in omega arith

pub load_place : (makes : Gate → Bool) (types : List TypeCell) (terms : List TermCell) → accepts types terms ≡ true
    → (h : Held) (result : Result ℕ Refusal) → result ≡ load_answer makes h terms
    → LoadPlace makes h (term_meant types terms 0) result
load_place makes types terms a h result e = subst (LoadPlace makes h (term_meant types terms 0)) (sym e) (by (is_loaded h))
  where
    s : StoresProgram types terms
    s = accepted_program types terms a

    found : (o : Option ℕ) → FirstFails (is_made makes) terms 0 o
        → LoadPlace makes h (term_meant types terms 0) (count_or_unmade o (length terms))
    found None y = tt
    found (Some k) y = inr (
      refl,
      subst (λ m. FirstUnmade makes m k) (sym s.means ∙ s.meant)
          (first_found makes (type_at types) s.placed k (subst (λ cs. FirstFails (is_made makes) cs 0 (Some k)) s.cells y)),
    )

    by : (l : Bool) → LoadPlace makes h (term_meant types terms 0)
        (cond l (refused AlreadyLoaded h.steps) (count_or_unmade (first_unmade makes terms) (length terms)))
    by true = inl (refl, refl)
    by false = found (first_unmade makes terms) (first_fails (is_made makes) terms 0)
