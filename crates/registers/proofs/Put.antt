-- A bit that is put is at its own handle, and the others are as they were.
use Rattle.std.proofs.Common.{◌≡◌, ℕ, zero, suc, ◌<◌, Bool, true, false, cond, not, ◌&&◌, eqb, List, [], ◌∷◌, length, get_or, set, replicate, sym, refl, ap, ◌∙◌, arith}
use Rattle.std.proofs.lemmas.List.{length-set, get_or-set_same, get_or-set_other}
use Rattle.std.proofs.lemmas.Bool.{cond_both, eqb-true, eqb-false}
use Rattle.calculus.specs.Gates.{operands_of}
use Rattle.calculus.specs.declared.gates.Gate.{Gate}
use Rattle.calculus.specs.declared.gates.Gate.TheVariants.{H, X, Z, S, T, Cnot, Swap, Toffoli}
use Rattle.registers.specs.declared.level.Level.{Level}
use Rattle.registers.specs.declared.register.Register.{Ghosts}
use Rattle.registers.specs.Depth.{nothing_passed_up}
use Rattle.registers.specs.Handles.{places, next_handle}
use Rattle.registers.specs.Free.{places_wide, handles_owed}
use Rattle.registers.specs.Bits.{Bits, bit_of, flipped, exchanged, bits_gated, level_makes, level_changes, level_bits, level_outcome, level_meaning}
use Rattle.registers.specs.Deeds.{Deed, prepares, applies, reads, lets_go, clears, Does, DoesAll}
use Rattle.registers.specs.Put.{with_bit, turned, held_after_gate, held_after, put, LevelReadsWhatWasPut}
use Rattle.registers.proofs.Accepted.{prepare_accepted, gate_accepted, read_accepted, let_go_accepted}
use Rattle.registers.proofs.Sheet.{each_live}

pub none_set : (n k : ℕ) → get_or (replicate n false) k false ≡ false
none_set zero k = refl
none_set (suc n) zero = refl
none_set (suc n) (suc k) = none_set n k

-- a handle whose place is true is within the places
live_below : (l : List Bool) (h : ℕ) → get_or l h false ≡ true → h < length l
live_below [] h e = cc
live_below (b ∷ l) zero e = omega arith
live_below (b ∷ l) (suc h) e = let r = live_below l h e in omega arith

module _ (bits : List Bool) where
  set_held : (h : ℕ) (bit : Bool) → h < length bits → (k : ℕ) → bit_of (set bits h bit) k ≡ with_bit (bit_of bits) h bit k
  set_held h bit inside k =
      cond_both (eqb h k) bit (bit_of bits k) (λ b. bit_of (set bits h bit) k ≡ b)
      (λ same. ap (bit_of (set bits h bit)) (sym (eqb-true h k same)) ∙ get_or-set_same bits h bit false inside)
      (λ other. get_or-set_other bits h k bit false (λ same. eqb-false h k other (sym same)))

  kept : (h k : ℕ) → bit_of bits k ≡ with_bit (bit_of bits) h (bit_of bits h) k
  kept h k = cond_both (eqb h k) (bit_of bits h) (bit_of bits k) (λ b. bit_of bits k ≡ b) (λ same. ap (bit_of bits) (sym (eqb-true h k same))) (λ other. refl)

  flipped_held : (test : Bool) (h : ℕ) → h < length bits → (k : ℕ) → bit_of (flipped bits test h) k ≡ turned (bit_of bits) test h k
  flipped_held true h inside k = set_held h (not (bit_of bits h)) inside k
  flipped_held false h inside k = kept h k

exchanged_held : (bits : List Bool) (h j : ℕ) → h < length bits → j < length bits
    → (k : ℕ) → bit_of (exchanged bits h j) k ≡ with_bit (with_bit (bit_of bits) h (bit_of bits j)) j (bit_of bits h) k
exchanged_held bits h j below inside k =
    let once = set bits h (bit_of bits j) in
    set_held once j (bit_of bits h) (let l = length-set bits h (bit_of bits j) in omega arith) k
    ∙ ap (λ b. cond (eqb j k) (bit_of bits h) b) (set_held bits h (bit_of bits j) below k)

gated_held : (bits : List Bool) (gate : Gate) (on : List ℕ) → ((i : ℕ) → i < operands_of gate → get_or on i 0 < length bits)
    → (k : ℕ) → bit_of (bits_gated bits gate on) k ≡ held_after_gate (bit_of bits) gate on k
gated_held bits H on below k = refl
gated_held bits X on below k = flipped_held bits true (get_or on 0 0) (below 0 (omega arith)) k
gated_held bits Z on below k = refl
gated_held bits S on below k = refl
gated_held bits T on below k = refl
gated_held bits Cnot on below k = flipped_held bits (bit_of bits (get_or on 0 0)) (get_or on 1 0) (below 1 (omega arith)) k
gated_held bits Swap on below k = exchanged_held bits (get_or on 0 0) (get_or on 1 0) (below 0 (omega arith)) (below 1 (omega arith)) k
gated_held bits Toffoli on below k = flipped_held bits (bit_of bits (get_or on 0 0) && bit_of bits (get_or on 1 0)) (get_or on 2 0) (below 2 (omega arith)) k

-- a level, as a kind of register
abbrev pub level_kind : Ghosts Level
level_kind = record {
  Content = Bits;
  changes = level_changes;
  meaning = level_meaning;
  fresh = λ s. next_handle s.handles;
  outcome = level_outcome;
  passed_up = λ _. nothing_passed_up;
  lent = λ _. [];
  owed = λ s. handles_owed s.handles level_makes s.pulses (level_bits s);
}

live_here : (s : Level) (h : ℕ) → get_or (places s.handles.live) h false ≡ true → h < length (places s.bits)
live_here s h e = let a = live_below (places s.handles.live) h e in let b = places_wide s.handles.live in let c = places_wide s.bits in omega arith

module _ (r s : Level) where
  same : {c : Bits} → level_bits s ≡ c → (k : ℕ) → level_outcome s k ≡ bit_of c.bits k
  same e k = ap (λ c. bit_of c.bits k) e

  held_is : (d : Deed) → Does level_kind r d s → (k : ℕ) → level_outcome s k ≡ held_after (level_outcome r) d k
  held_is (prepares h bit) (e, after) k =
      let a = prepare_accepted (level_meaning r) (λ _. 0) (next_handle r.handles) h e in
      let f = ((level_kind.owed r).free a.1 a.2).0 in
      same (ap (λ m. m.content) after) k ∙ set_held (places r.bits) h bit (let w = places_wide r.bits in omega arith) k
  held_is (applies gate on) (e, after) k =
      let a = gate_accepted (level_meaning r) (λ _. 0) gate on e in
      same (ap (λ m. m.content) after) k
      ∙ gated_held (places r.bits) gate on (λ i inside. live_here r (get_or on i 0) (each_live (places r.handles.live) on (get_or on i 0) i a.3 (let l = a.2 in omega arith) refl)) k
  held_is (reads h outcome) (e, after) k = same (ap (λ m. m.content) after) k
  held_is (lets_go h) (e, after) k =
      same (ap (λ m. m.content) after) k ∙ set_held (places r.bits) h false (live_here r h (let_go_accepted (level_meaning r) (λ _. 0) h e)) k
  held_is clears after k = same (ap (λ m. m.content) after) k ∙ none_set 32 k

held_are : (r s : Level) (ds : List Deed) → DoesAll level_kind r ds s → (k : ℕ) → level_outcome s k ≡ put (level_outcome r) ds k
held_are r s [] e k = ap (λ x. level_outcome x k) (sym e)
held_are r s (d ∷ ds) (q, does, rest) k =
    let all : level_outcome q ≡ held_after (level_outcome r) d = (λ i j. held_is r q d does j i) in
    held_are q s ds rest k ∙ ap (λ held. put held ds k) all

pub level_reads_what_was_put : LevelReadsWhatWasPut level_kind
level_reads_what_was_put = record {
  held = held_are;
  answered = λ r s t ds h bit all does. (read_accepted (level_meaning s) (λ _. 0) h (level_outcome s h) bit does.0).0 ∙ held_are r s ds all h;
  new = λ s capacity pulses e k. ap (λ m. bit_of m.content.bits k) e ∙ none_set 32 k;
}
