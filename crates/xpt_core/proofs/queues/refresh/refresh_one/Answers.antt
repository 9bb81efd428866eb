use Rattle.std.proofs.Common.{refl, ap, subst, ◌∙◌}
use Rattle.xpt_core.specs.Words.{IsConfig, with_priority}
use Rattle.xpt_core.specs.AdapterUpdates.{with_ready}
use Rattle.xpt_core.specs.Places.{at_place}
use Rattle.xpt_core.proofs.PlaceLemmas.{written_at}
use Rattle.xpt_core.proofs.ReadyLemmas.{adapter_read, bus_within, named-at}
use Rattle.xpt_core.proofs.queues.refresh.refresh_one.Goals as goal

pub index_mut-sim-requires : goal.index_mut-sim-requires
index_mut-sim-requires c =
    let config = c.args.devices.now.config in
    let bus = adapter_read config c.config.result.now c.args.device c.unwrap-adapter.result c.device_adapter.result c.config.ensures c.device_adapter.ensures.same c.unwrap-adapter.ensures in
    bus_within config c.args.sims.now.items c.args.device _ c.unwrap-adapter.result (subst IsConfig c.config.ensures c.device_adapter.ensures.kept) c.requires.there bus c.args.sims.now.ok.0 c.requires.adapters

pub set_ready-requires : goal.set_ready-requires
set_ready-requires c =
    let config = c.args.devices.now.config in
    let bus = adapter_read config c.config.result.now c.args.device c.unwrap-adapter.result c.device_adapter.result c.config.ensures c.device_adapter.ensures.same c.unwrap-adapter.ensures in
    named-at config c.args.sims.now.items c.args.device c.unwrap-adapter.result c.index_mut-sim.result.now (subst IsConfig c.config.ensures c.device_adapter.ensures.kept) c.requires.there bus c.requires.adapters c.index_mut-sim.ensures.value

pub returns : goal.returns
returns c =
    let config = c.args.devices.now.config in
    let sims = c.args.sims.now.items in
    let bus = adapter_read config c.config.result.now c.args.device c.unwrap-adapter.result c.device_adapter.result c.config.ensures c.device_adapter.ensures.same c.unwrap-adapter.ensures in
    let change = with_ready config c.args.devices.now.events c.args.device in
    let within = bus_within config sims c.args.device _ c.unwrap-adapter.result (subst IsConfig c.config.ensures c.device_adapter.ensures.kept) c.requires.there bus refl c.requires.adapters in
    written_at change sims c.unwrap-adapter.result c.index_mut-sim.result.now c.set_ready.new.self within c.index_mut-sim.ensures.value
    (c.set_ready.ensures ∙ ap (λ p. record c.index_mut-sim.result.now { rows = with_priority c.args.device p c.index_mut-sim.result.now.rows }) c.ready_priority-priority.ensures)
    ∙ ap (λ n. at_place n change sims) bus
