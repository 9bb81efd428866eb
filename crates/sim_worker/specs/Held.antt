-- a decision that the limit of stays holds up
use Rattle.std.specs.Prelude.{Bool, true, false, ◌&&◌, Option, Some}
use Rattle.sim_worker.specs.Words.{asks_requeue, Requeue, Refusal, StaysFull, Transport, refused, Case}

abbrev pub is_for_stays : Option Refusal → Bool
is_for_stays (Some StaysFull) = true
is_for_stays _ = false

-- the case asks for a requeue, which is refused since as many stays began as may
abbrev pub is_held_up : Transport → Case → Bool
is_held_up t case = asks_requeue case.class && is_for_stays (refused t (Requeue case.ccb))
