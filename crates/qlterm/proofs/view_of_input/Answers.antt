use Rattle.std.proofs.Common.{ℕ, length, replicate, rules}
use Rattle.listing.specs.Listed.{most_bytes}
use Rattle.qlterm.proofs.Left.{kept_on_error}
use Rattle.qlterm.proofs.view_of_input.Goals as goal

pub returns-in_err-view-clause-no_further : goal.returns-in_err-view-clause-no_further
returns-in_err-view-clause-no_further g c =
    kept_on_error c.from_residual-in_err-view.result (g.R.Read.remaining c.args.input.now) (g.R.Read.remaining c.read_input.new.input) (length {A = ℕ} (replicate 16384 0)) most_bytes (search rules) c.in_ok-len.ensures.rest
