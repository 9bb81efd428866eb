use Rattle.xpt_carry.proofs.RoomLaws.{room_enough}
use Rattle.xpt_carry.proofs.laws.room_is_enough.Goals as goal

pub returns : goal.returns
returns c = room_enough
