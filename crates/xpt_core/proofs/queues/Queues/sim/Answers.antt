use Rattle.xpt_core.proofs.SimLemmas.{sim-within, sim-value}
use Rattle.xpt_core.proofs.queues.Queues.sim.Goals as goal

pub index-requires : goal.index-requires
index-requires c =
    sim-within c.self.inside.sims.items _ c.self.inside.devices c.args.self.now c.args.adapter (c.self.inside.sims.ok.0) c.self.invariant c.self.view_is c.requires

pub returns : goal.returns
returns c =
    sim-value c.self.inside.sims.items c.self.inside.devices c.args.self.now c.args.adapter c.index.result.now c.self.invariant c.self.view_is c.requires c.index.ensures
