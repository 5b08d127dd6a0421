-- What the replies to a shot's load, run and collect report.
use Rattle.std.specs.Prelude.{◌≡◌, ℕ, Some, Ok, Err, Option, Result}
use Rattle.controller.specs.declared.faults.Stop.{Stop}
use Rattle.player.specs.Stages.{Reply}
use Rattle.player.specs.declared.turns.Done.TheVariants.{Loaded, Ran, Collected}
use Rattle.player.specs.declared.turns.TurnFault.{TurnFault}
use Rattle.listing.specs.declared.replies.RunReport.{RunReport}

abbrev pub run_report : ℕ → Stop → ℕ → ℕ → RunReport
run_report steps stop cells kind_cells = record {
  steps = steps;
  stop = stop;
  cells = cells;
  kind_cells = kind_cells;
}

-- A load that is refused, or a run that is, ends the shot. A run that stops at no value is still a
-- run, and no cell of it is collected. There are no other replies to these turns.
abbrev pub Reports : Option Reply → Option Reply → Option Reply → Result RunReport TurnFault
    → Type 0
Reports (Some (Err f)) run collected r = r ≡ Err f
Reports (Some (Ok (Loaded n))) (Some (Err f)) collected r = r ≡ Err f
Reports (Some (Ok (Loaded n))) (Some (Ok (Ran steps stop))) (Some (Err f)) r =
    r ≡ Ok (run_report steps stop 0 0)
Reports (Some (Ok (Loaded n))) (Some (Ok (Ran steps stop))) (Some (Ok (Collected cells kinds))) r =
    r ≡ Ok (run_report steps stop cells kinds)
Reports loaded run collected r = ⊥
