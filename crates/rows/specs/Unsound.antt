-- Places that are not sound: each claim is missed by one at which the others hold.
use Rattle.std.specs.Prelude.{false, Bool, List, Some, None}
use Rattle.calculus.specs.declared.gates.Gate.TheVariants.{H}
use Rattle.calculus.specs.Types.{Ty, bit, qbit}
use Rattle.calculus.specs.Terms.{bit_of, gate, held, var, const, app, pair, Running}
use Rattle.calculus.specs.Names.{WellTyped}
use Rattle.registers.specs.Meaning.{none_live}
use Rattle.rows.specs.Places.{Place}
use Rattle.rows.specs.Sample.{register_with, place_with, one_live}
use Rattle.rows.specs.Sound.{LiveAreNamed, OnlyWantStops, Sound}

-- a place at which a term of a type runs, over a register of one pulse that makes no gate
abbrev pub runs_at : Running → Ty → List Bool → Place (List Bool)
runs_at m a live = place_with (Some (m, a)) live 1 live

module _ (m : Running) (a : Ty) (live : List Bool) where
  -- the live handles are not those that the term names
  pub record MissesNames : Type 0 where
    pub not_sound : Sound (runs_at m a live) → ⊥
    pub typed : WellTyped m a
    pub stops : OnlyWantStops m (runs_at m a live)

  -- the term does not have the type
  pub record MissesType : Type 0 where
    pub not_sound : Sound (runs_at m a live) → ⊥
    pub names : LiveAreNamed m (register_with live 1 live)
    pub stops : OnlyWantStops m (runs_at m a live)

  -- a step is refused, and not for want
  pub record MissesWant : Type 0 where
    pub not_sound : Sound (runs_at m a live) → ⊥
    pub names : LiveAreNamed m (register_with live 1 live)
    pub typed : WellTyped m a

abbrev pub zero_bit : Running
zero_bit = const tt (bit_of false)

-- the qubit with the handle 0
abbrev pub qubit : Running
qubit = var tt (held 0)

pub record UnsoundPlaces : Type 0 where
  -- nothing is loaded, and a qubit is live
  pub left_live : Sound (place_with None one_live 1 none_live) → ⊥
  pub live_unnamed : MissesNames zero_bit bit one_live
  pub named_dead : MissesNames qubit qbit none_live
  pub another_type : MissesType zero_bit qbit none_live
  pub gate_not_made : MissesWant (app tt (const tt (gate H)) qubit) qbit one_live
  -- a way names a qubit twice; the live handles are those that the term names, and as many
  pub named_twice : LiveAreNamed (pair tt qubit qubit) (register_with one_live 1 one_live) → ⊥
