use Rattle.std.proofs.Common.{◌∙◌, ap}
use Rattle.xpt_core.specs.Rows.{is_row_in_flight}
use Rattle.xpt_core.proofs.CcbLemmas.{in_flight_in}
use Rattle.xpt_core.proofs.state.State.is_in_flight.Goals as goal

pub returns-in-Some : goal.returns-in-Some
returns-in-Some c = ap is_row_in_flight c.in-Some.ensures ∙ in_flight_in c.self.inside.queues c.self.inside.ccbs c.self.invariant.ccbs c.args.self.now c.self.view_is c.args.ccb

pub returns-in-None : goal.returns-in-None
returns-in-None c = ap is_row_in_flight c.in-None.ensures ∙ in_flight_in c.self.inside.queues c.self.inside.ccbs c.self.invariant.ccbs c.args.self.now c.self.view_is c.args.ccb
