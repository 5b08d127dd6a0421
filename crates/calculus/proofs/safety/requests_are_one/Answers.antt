use Rattle.calculus.proofs.Requests.{one_request}
use Rattle.calculus.proofs.safety.requests_are_one.Goals as goal

pub returns : goal.returns
returns c = one_request
