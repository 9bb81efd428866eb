use Rattle.std.proofs.Common.{sym, subst}
use Rattle.xpt_core.specs.Transport.{Transport}
use Rattle.xpt_core.specs.PartsSound.{IsStays}
use Rattle.xpt_core.proofs.CcbLemmas.{can_update, room_for_case, ccbs-push}
use Rattle.xpt_core.proofs.AppendLemmas.{legal_there}
use Rattle.xpt_core.proofs.state.State.append.Goals as goal

pub update-requires : goal.update-requires
update-requires c = record {
  kept = c.self.invariant.stays;
  legal = legal_there c.self.inside.queues c.args.self.now c.args.event c.self.view_is c.requires.legal;
}

pub update-requires-2-clause-rows : goal.update-requires-2-clause-rows
update-requires-2-clause-rows c = can_update c.self.inside.queues c.self.inside.ccbs c.self.invariant.ccbs c.args.self.now c.self.view_is c.args.event c.requires.legal

pub update-requires-2-clause-room : goal.update-requires-2-clause-room
update-requires-2-clause-room c = room_for_case c.self.inside.queues c.self.inside.ccbs c.self.invariant.ccbs c.args.self.now c.self.view_is

pub append-requires : goal.append-requires
append-requires c = record { legal = legal_there c.self.inside.queues c.args.self.now c.args.event c.self.view_is c.requires.legal }

pub invariant_of-self : goal.invariant_of-self
invariant_of-self c = record {
  ccbs = ccbs-push c.self.inside.queues c.append.new.self c.self.inside.ccbs c.update-2.new.self c.args.event c.self.invariant.ccbs
      (legal_there c.self.inside.queues c.args.self.now c.args.event c.self.view_is c.requires.legal) c.append.ensures
      c.update-2.ensures.rows c.update-2.ensures.cases c.update-2.ensures.capacity;
  stays = subst (λ (t : Transport). IsStays t c.update.new.self) (sym c.append.ensures) c.update.ensures;
}
