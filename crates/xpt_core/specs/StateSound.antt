-- the parts of a transport's working state
use Rattle.xpt_core.specs.PartsSound.{IsCcbs, IsStays}
use Rattle.xpt_core.specs.declared.state.State.TheInside.{Inside}

-- CCBs and stays are by the events of the queues
pub record IsState (k : Inside) : Type 0 where
  pub ccbs : IsCcbs k.queues k.ccbs
  pub stays : IsStays k.queues k.stays
