use Rattle.camxpt_c.proofs.PortLemmas.{push_sound, user_room}
use Rattle.camxpt_c.proofs.port.Port.take.Goals as goal

pub keep_user-requires : goal.keep_user-requires
keep_user-requires c = user_room c.self.inside c.self.invariant c.args.event c.in_ok-reply.ensures.0.0

pub invariant_of-self-2 : goal.invariant_of-self-2
invariant_of-self-2 c = push_sound c.self.inside _ c.self.invariant c.args.event c.args.user c.in_ok-reply.ensures.0.1 c.keep_user.ensures.items c.keep_user.ensures.capacity
