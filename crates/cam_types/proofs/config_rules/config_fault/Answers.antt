use Rattle.cam_types.specs.Lists.{prefixed, first_answer}
use Rattle.cam_types.specs.Topology.{unit_fault, link_fault, device_fault, lane_fault, weight_lack, adapter_lack}
use Rattle.cam_types.specs.Weights.{weight_fault}
use Rattle.cam_types.proofs.TopologyLemmas.{or_in_a_row}
use Rattle.cam_types.proofs.config_rules.config_fault.Goals as goal

pub returns : goal.returns
unfolding unit_fault
returns c = λ list many first.
    let row = or_in_a_row (first_answer weight_fault (prefixed c.args.weights.now)) (weight_lack c.args.weights.now) (first_answer link_fault (prefixed c.args.links.now))
    (adapter_lack c.args.adapters) c.args.adapters_fault (first_answer (device_fault c.args.adapters) (prefixed c.args.devices.now)) (first_answer (lane_fault c.args.adapters) (prefixed c.args.lanes.now)) in
    rw (c.or-6.ensures, c.or-5.ensures, c.or-4.ensures, c.or-3.ensures, c.or-2.ensures, c.or.ensures, c.weights_fault.ensures, c.weight_lack.ensures, c.links_fault.ensures, c.adapter_lack.ensures, c.devices_fault.ensures, c.lanes_fault.ensures)
    (rw (many, first) row)
