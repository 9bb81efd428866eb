-- why a lane is refused
use Rattle.std.specs.Prelude.{ℕ, Option}
use Rattle.xpt_state.specs.Words.{Refusal, Transport}
use Rattle.xpt_state.specs.Sends.{lane_refusal}

-- the first cause that refuses a lane that asks for the next command
abbrev pub lane_refused : Transport → ℕ → Option Refusal
lane_refused t lane = lane_refusal t.rules t.config t.events lane
