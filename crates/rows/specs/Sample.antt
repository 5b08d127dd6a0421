-- One row in full. (fun x.0)(new 1) is loaded, prepares a qubit and drops it, and its value is
-- collected.
use Rattle.std.specs.Prelude.{◌≡◌, ℕ, false, true, Bool, List, []}
use Rattle.std.specs.Prelude.{◌∷◌, Some, None, Option, slice_set}
use Rattle.calculus.specs.Types.{Ty, bit, qbit, arrow}
use Rattle.calculus.specs.Terms.{bit_of, new, held, Term, var, const, lam, app, Running}
use Rattle.registers.specs.Meaning.{Meaning, Changes, none_live}
use Rattle.rows.specs.Members.{Program, load, step, collect}
use Rattle.rows.specs.Places.{Place, New}
use Rattle.rows.specs.Rows.{Row}

-- a register of a bit for each handle, that gates leave alone
abbrev pub bits : Changes (List Bool)
bits = record {
  prepared = λ c h b. slice_set c h b;
  gated = λ c u hs. c;
  was_read = λ c h b. c;
  let_go = λ c h. slice_set c h false;
  cleared = λ c. none_live;
}

abbrev pub register_with : List Bool → ℕ → List Bool → Meaning (List Bool)
register_with live pulses content = record {
  capacity = 1;
  makes = λ u. false;
  live = live;
  pulses = pulses;
  content = content;
}

abbrev pub place_with : Option (Running × Ty) → List Bool → ℕ → List Bool → Place (List Bool)
place_with o live pulses content =
    record { loaded = o; register = register_with live pulses content }

abbrev pub dropping : Term Ty
dropping =
    app bit (lam (arrow qbit bit) (const bit (bit_of false)))
    (app qbit (const (arrow bit qbit) new) (const bit (bit_of true)))

abbrev pub function : Running
function = lam tt (const tt (bit_of false))

-- handle 0 alone
abbrev pub one_live : List Bool
one_live = slice_set none_live 0 true

abbrev pub start : Place (List Bool)
start = place_with None none_live 1 none_live

-- no handle, where 0 was live
abbrev pub none_left : List Bool
none_left = slice_set one_live 0 false

-- the running term as it is loaded, with its qubit, and as a value
abbrev pub as_loaded : Running
as_loaded = app tt function (app tt (const tt new) (const tt (bit_of true)))

abbrev pub with_qubit : Running
with_qubit = app tt function (var tt (held 0))

abbrev pub as_value : Running
as_value = const tt (bit_of false)

abbrev pub sample_places : List (Place (List Bool))
sample_places =
    start
    ∷ place_with (Some (as_loaded, bit)) none_live 1 none_live
    ∷ place_with (Some (with_qubit, bit)) one_live 0 one_live
    ∷ place_with (Some (as_value, bit)) none_left 0 none_left
    ∷ place_with None none_live 0 none_live
    ∷ []

pub record SampleRow : Type 0 where
  pub program : Program
  pub its_term : program.term ≡ dropping
  pub is_new : New bits start
  pub row : Row bits start (load program ∷ step 1024 ∷ step 1024 ∷ collect 1 1 ∷ []) sample_places
