use Rattle.rows.proofs.Sound.{every_place_is_sound}
use Rattle.rows.proofs.every_place_is_sound.Goals as goal

pub returns : goal.returns
returns g c = every_place_is_sound _
