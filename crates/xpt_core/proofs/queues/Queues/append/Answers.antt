use Rattle.xpt_core.proofs.AppendLemmas.{legal_there, append-there, append-update, append-half, append-adapters, append-known}
use Rattle.xpt_core.proofs.queues.Queues.append.Goals as goal

pub update-requires : goal.update-requires
update-requires c =
    let allowed = legal_there c.self.inside.devices c.args.self.now c.args.event c.self.view_is c.requires.legal in
    append-update c.self.inside.devices c.append.new.self c.args.event c.append.ensures c.events.ensures.legal allowed
    c.events.result.now c.config.result.now c.self.inside.sims.items c.events.ensures.same c.config.ensures c.self.invariant
    c.events.ensures.short

pub refresh-requires-clause-there : goal.refresh-requires-clause-there
refresh-requires-clause-there c =
    let allowed = legal_there c.self.inside.devices c.args.self.now c.args.event c.self.view_is c.requires.legal in
    append-there c.self.inside.devices c.append.new.self c.args.event c.append.ensures c.events.ensures.legal allowed c.affected_by-affected.result c.affected_by-affected.ensures

pub refresh-requires-clause-adapters : goal.refresh-requires-clause-adapters
refresh-requires-clause-adapters c =
    let allowed = legal_there c.self.inside.devices c.args.self.now c.args.event c.self.view_is c.requires.legal in
    append-adapters c.self.inside.devices c.append.new.self c.args.event c.append.ensures c.events.ensures.legal allowed c.update.new.sims.items
    (append-half c.self.inside.devices c.append.new.self c.args.event c.append.ensures c.events.ensures.legal allowed
    c.events.result.now c.config.result.now c.self.inside.sims.items c.events.ensures.same c.config.ensures c.self.invariant
    c.update.new.sims.items c.update.ensures)

pub invariant_of-self : goal.invariant_of-self
invariant_of-self c =
    let allowed = legal_there c.self.inside.devices c.args.self.now c.args.event c.self.view_is c.requires.legal in
    append-known c.self.inside.devices c.append.new.self c.args.event c.append.ensures c.events.ensures.legal allowed c.affected_by-affected.result c.update.new.sims.items c.refresh.new.sims.items
    c.affected_by-affected.ensures
    (append-half c.self.inside.devices c.append.new.self c.args.event c.append.ensures c.events.ensures.legal allowed
    c.events.result.now c.config.result.now c.self.inside.sims.items c.events.ensures.same c.config.ensures c.self.invariant
    c.update.new.sims.items c.update.ensures)
    c.refresh.ensures
