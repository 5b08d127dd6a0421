-- What a register means, and what each accepted call makes of it.
use Rattle.std.specs.Prelude.{◌≡◌, ℕ, suc, ◌-◌, ◌<◌, ◌≤◌, Bool, true, false, List, [], ◌∷◌, length}
use Rattle.std.specs.Prelude.{replicate, slice_index_or, slice_set}
use Rattle.calculus.specs.declared.gates.Gate.{Gate}

-- What a register means. The first two parts never change.
pub record Meaning (Content : Type 0) : Type 0 where
  pub capacity : ℕ  -- how many handles may be live
  pub makes : Gate → Bool  -- the gates that the register has
  pub live : List Bool  -- of each of 32 handles, whether it names a live qubit
  pub pulses : ℕ  -- how many pulses are left
  pub content : Content  -- what the qubits hold

-- How each accepted call changes the content, as a kind of register says.
pub record Changes (Content : Type 0) : Type 0 where
  pub prepared : Content → ℕ → Bool → Content  -- a handle, at a bit
  pub gated : Content → Gate → List ℕ → Content  -- a gate, on handles in their order
  pub was_read : Content → ℕ → Bool → Content  -- a handle, with its outcome
  pub let_go : Content → ℕ → Content  -- a handle
  pub cleared : Content → Content

-- how many handles are live
abbrev pub counted : List Bool → ℕ
counted [] = 0
counted (true ∷ bs) = suc (counted bs)
counted (false ∷ bs) = counted bs

-- a handle is live; from 32 on none is
abbrev pub is_live : List Bool → ℕ → Bool
is_live live h = slice_index_or live h false

abbrev pub none_live : List Bool
none_live = replicate 32 false

abbrev pub Live : {C : Type 0} → Meaning C → ℕ → Type 0
Live m h = is_live m.live h ≡ true

-- The handle of a prepare is each register's own: any that is below 32 and not live, where a pulse
-- is left and there is room.
abbrev pub Fresh : {C : Type 0} → Meaning C → ℕ → Type 0
Fresh m fresh =
    0 < m.pulses → counted m.live < m.capacity
    → (fresh < 32) × (is_live m.live fresh ≡ false)

-- What each register owes in every state.
pub record Owed {C : Type 0} (m : Meaning C) (fresh : ℕ) : Type 0 where
  pub small : m.capacity ≤ 32
  pub wide : length m.live ≡ 32
  pub free : Fresh m fresh

-- What a register means after each accepted call. The parts that are not named stay.
module _ {C : Type 0} (changes : Changes C) (m : Meaning C) where
  abbrev pub after_prepare : ℕ → Bool → Meaning C
  after_prepare h bit = record m {
    live = slice_set m.live h true;
    pulses = m.pulses - 1;
    content = changes.prepared m.content h bit;
  }

  abbrev pub after_gate : Gate → List ℕ → Meaning C
  after_gate gate on = record m {
    pulses = m.pulses - 1;
    content = changes.gated m.content gate on;
  }

  abbrev pub after_read : ℕ → Bool → Meaning C
  after_read h outcome = record m {
    pulses = m.pulses - 1;
    content = changes.was_read m.content h outcome;
  }

  abbrev pub after_let_go : ℕ → Meaning C
  after_let_go h = record m {
    live = slice_set m.live h false;
    content = changes.let_go m.content h;
  }

  abbrev pub after_clear : Meaning C
  after_clear = record m {
    live = none_live;
    content = changes.cleared m.content;
  }
