use Rattle.xpt_carry.proofs.RoomLaws.{few_carried}
use Rattle.xpt_carry.proofs.laws.few_events_are_carried.Goals as goal

pub returns : goal.returns
returns c = few_carried
