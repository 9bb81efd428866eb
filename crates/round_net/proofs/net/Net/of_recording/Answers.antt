use Rattle.std.proofs.Common.{◌≤◌, ◌∙◌, length, ap, refl, arith}
use Rattle.recording_file.specs.declared.limits.TheConstants.{MAX_REQUESTS}
use Rattle.round_net.specs.Words.{MAX_LINKS}
use Rattle.cam_types.proofs.ConfigLemmas.{few_links}
use Rattle.round_net.proofs.RecordedLemmas.{recording_parts, recording_net, recording_admissible}
use Rattle.round_net.proofs.net.Net.of_recording.Goals as goal

pub overflow_cast-result : goal.overflow_cast-result
overflow_cast-result c =
    let few : length c.requests.result.now ≤ MAX_REQUESTS = rw c.requests.ensures.same c.requests.ensures.kept.few in
    omega arith

pub overflow_cast-result-2 : goal.overflow_cast-result-2
overflow_cast-result-2 c =
    let few : length c.links.result.now ≤ MAX_LINKS = rw c.links.ensures.same (few_links c.config-config.result.now c.links.ensures.kept) in
    omega arith

pub returns-clause-net : goal.returns-clause-net
returns-clause-net c =
    let config = c.config-config.ensures.same in
    recording_parts c.args.recording.now c.in_ok-copy.field-0 (length c.requests.result.now) c.rounds-rounds.result (length c.links.result.now) c.in_ok-adapters_of.field-0.items c.in_ok-links_of.field-0.items c.in_ok-request_rows.field-0.items c.in_ok-resource_caps.field-0.items
    (c.in_ok-copy.ensures ∙ config) (ap length c.requests.ensures.same) c.rounds-rounds.ensures.same (ap length c.links.ensures.same ∙ rw config refl) (c.in_ok-adapters_of.ensures ∙ rw (c.devices.ensures.same, config) refl) (c.in_ok-links_of.ensures ∙ rw (c.adapters.ensures.same, config) refl)
    c.in_ok-request_rows.ensures c.in_ok-resource_caps.ensures

pub invariant_of-result : goal.invariant_of-result
invariant_of-result c =
    let config = c.config-config.ensures.same in
    let net =
    recording_parts c.args.recording.now c.in_ok-copy.field-0 (length c.requests.result.now) c.rounds-rounds.result (length c.links.result.now) c.in_ok-adapters_of.field-0.items c.in_ok-links_of.field-0.items c.in_ok-request_rows.field-0.items c.in_ok-resource_caps.field-0.items
    (c.in_ok-copy.ensures ∙ config) (ap length c.requests.ensures.same) c.rounds-rounds.ensures.same (ap length c.links.ensures.same ∙ rw config refl) (c.in_ok-adapters_of.ensures ∙ rw (c.devices.ensures.same, config) refl) (c.in_ok-links_of.ensures ∙ rw (c.adapters.ensures.same, config) refl)
    c.in_ok-request_rows.ensures c.in_ok-resource_caps.ensures in
    rw net (recording_net c.args.recording.now c.rounds-rounds.ensures.kept)

pub returns-clause-live : goal.returns-clause-live
returns-clause-live c = recording_admissible c.args.recording.now c.rounds-rounds.ensures.kept
