use Rattle.std.proofs.Common.{◌≡◌, Some, None, ap, sym, ◌∙◌, arith, length}
use Rattle.std.specs.List.{range_with_len}
use Rattle.cam_types.specs.Topology.{Topology, config_fault}
use Rattle.cam_types.proofs.ConfigLemmas.{few_links, few_adapters, few_devices}
use Rattle.conversions.specs.RecordingScript.{link_at, adapter_at, device_at}
use Rattle.conversions.proofs.ConfigLemmas.{config_kept}
use Rattle.conversions.proofs.GreatestLemmas.{as_many, config_is, fault_is}
use Rattle.conversions.proofs.ScriptLemmas.{is_fault}
use Rattle.conversions.proofs.openings.config_of.Goals as goal

pub openings_fault-requires-clause-links : goal.openings_fault-requires-clause-links
openings_fault-requires-clause-links c =
    let r = c.args.recording.now in
    omega (arith, ap length (c.deref-4.ensures.value ∙ c.in_ok-links.ensures), as_many r (link_at r) r.config.links, few_links r.config (record { kept = c.config-config.ensures.kept.head.config }))

pub openings_fault-requires-clause-adapters : goal.openings_fault-requires-clause-adapters
openings_fault-requires-clause-adapters c =
    let r = c.args.recording.now in
    omega (arith, ap length (c.deref-5.ensures.value ∙ c.in_ok-adapters.ensures), as_many r (adapter_at r) r.config.adapters, few_adapters r.config (record { kept = c.config-config.ensures.kept.head.config }))

pub openings_fault-requires-clause-devices : goal.openings_fault-requires-clause-devices
openings_fault-requires-clause-devices c =
    let r = c.args.recording.now in
    omega (arith, ap length (c.deref-6.ensures.value ∙ c.in_ok-devices.ensures), as_many r (device_at r) r.config.devices, few_devices r.config (record { kept = c.config-config.ensures.kept.head.config }))

pub returns-in-Some-clause-fault : goal.returns-in-Some-clause-fault
returns-in-Some-clause-fault c =
    let known = fault_is c.args.recording.now c.deref-4.result.now c.deref-5.result.now c.deref-6.result.now c.openings_fault.result (c.deref-4.ensures.value ∙ c.in_ok-links.ensures) (c.deref-5.ensures.value ∙ c.in_ok-adapters.ensures) (c.deref-6.ensures.value ∙ c.in_ok-devices.ensures) c.openings_fault.ensures in
    is_fault _ c.in-Some.fault (sym known ∙ c.in-Some.is)

pub numbers-requires : goal.numbers-requires
numbers-requires c =
    let r = c.args.recording.now in
    omega (arith, c.len.ensures, c.deref-5.ensures.len, ap length (c.deref-5.ensures.value ∙ c.in_ok-adapters.ensures), as_many r (adapter_at r) r.config.adapters, few_adapters r.config (record { kept = c.config-config.ensures.kept.head.config }))

pub returns-in-Ok-clause-config : goal.returns-in-Ok-clause-config
returns-in-Ok-clause-config c =
    let is = config_is c.args.recording.now c.weights-weights.result.now c.deref-7.result.now c.deref-8.result.now c.deref-9.result.now c.deref-10.result.now (c.weights-weights.ensures.same ∙ ap (λ (t : Topology). t.weights) c.config-config.ensures.same)
    (c.deref-7.ensures.value ∙ c.in_ok-links.ensures) (c.deref-8.ensures.value ∙ c.in_ok-adapters.ensures) (c.deref-9.ensures.value ∙ c.in_ok-devices.ensures) (c.deref-10.ensures.value ∙ c.in_ok-lanes.ensures ∙ ap (range_with_len 0) (c.len.ensures ∙ sym c.deref-8.ensures.len)) in
    c.in-Ok.ensures.1 ∙ is

pub returns-in-Ok-clause-fault : goal.returns-in-Ok-clause-fault
returns-in-Ok-clause-fault c =
    let known = fault_is c.args.recording.now c.deref-4.result.now c.deref-5.result.now c.deref-6.result.now c.openings_fault.result (c.deref-4.ensures.value ∙ c.in_ok-links.ensures) (c.deref-5.ensures.value ∙ c.in_ok-adapters.ensures) (c.deref-6.ensures.value ∙ c.in_ok-devices.ensures) c.openings_fault.ensures in
    sym known ∙ c.in_default.is

pub unreachable-requires : goal.unreachable-requires
unreachable-requires c =
    let known = fault_is c.args.recording.now c.deref-4.result.now c.deref-5.result.now c.deref-6.result.now c.openings_fault.result (c.deref-4.ensures.value ∙ c.in_ok-links.ensures) (c.deref-5.ensures.value ∙ c.in_ok-adapters.ensures) (c.deref-6.ensures.value ∙ c.in_ok-devices.ensures) c.openings_fault.ensures in
    let is = config_is c.args.recording.now c.weights-weights.result.now c.deref-7.result.now c.deref-8.result.now c.deref-9.result.now c.deref-10.result.now (c.weights-weights.ensures.same ∙ ap (λ (t : Topology). t.weights) c.config-config.ensures.same)
    (c.deref-7.ensures.value ∙ c.in_ok-links.ensures) (c.deref-8.ensures.value ∙ c.in_ok-adapters.ensures) (c.deref-9.ensures.value ∙ c.in_ok-devices.ensures) (c.deref-10.ensures.value ∙ c.in_ok-lanes.ensures ∙ ap (range_with_len 0) (c.len.ensures ∙ sym c.deref-8.ensures.len)) in
    let kept = config_kept c.args.recording.now (record { kept = c.config-config.ensures.kept.head.config }) (sym known ∙ c.in_default.is) in
    let faulty = rw c.in-Err-Fault.field-0-is at c.in-Err-Fault.ensures in
    let clash : None ≡ Some c.in-Err-Fault.field-0-0 = sym kept ∙ sym (ap config_fault is) ∙ faulty in
    absurd cc
