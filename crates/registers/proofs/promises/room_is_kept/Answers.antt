use Rattle.registers.proofs.Room.{room_is_kept}
use Rattle.registers.proofs.promises.room_is_kept.Goals as goal

pub returns : goal.returns
returns g c = room_is_kept g.R.Register
