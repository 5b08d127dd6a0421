use Rattle.controller.proofs.Sound.{every_controller}
use Rattle.controller.proofs.promises.every_controller_is_sound.Goals as goal

pub returns : goal.returns
returns g c = every_controller g.R.Register
