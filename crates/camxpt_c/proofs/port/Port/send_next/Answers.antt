use Rattle.camxpt_c.proofs.PortLemmas.{lane_sound}
use Rattle.camxpt_c.proofs.port.Port.send_next.Goals as goal

pub invariant_of-self : goal.invariant_of-self
invariant_of-self c = lane_sound c.self.inside c.self.invariant c.args.lane c.send_next.new.self c.send_next.result c.send_next.ensures
