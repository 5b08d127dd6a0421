use Rattle.std.proofs.Common.{[], ◌∷◌}
use Rattle.listing.specs.Listing.{run_lines, refusal_line}
use Rattle.listing.proofs.Cutting.{had_back}
use Rattle.listing.proofs.Plain.{plain_refusal, plain_run}
use Rattle.listing.proofs.promises.listings_are_read_back.Goals as goal

pub returns : goal.returns
returns c = record {
  runs = λ steps stop kinds value journal h. had_back (run_lines steps stop kinds value journal) (plain_run steps stop kinds value journal h);
  refusals = λ number place h k. had_back (refusal_line number place ∷ []) (plain_refusal number place h k, tt);
}
