use Rattle.std.proofs.Common.{refl}
use Rattle.std.specs.Char.{encode_utf8}
use Rattle.std.specs.Fmt.{digits}
use Rattle.listing.proofs.promises.samples_are_listed.Goals as goal

pub returns : goal.returns
unfolding digits encode_utf8
returns c = record { coin = refl; pair = refl; budget = refl; full = refl; unread = refl }
