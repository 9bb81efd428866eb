use Rattle.std.proofs.Common.{◌≡◌, ◌≤◌, length, sym, ap, ◌∙◌, refl, arith, None}
use Rattle.round_net.specs.Words.{IsConfig, MAX_LINKS, round, Past, unsent}
use Rattle.round_net.specs.Caps.{resource_count, cap}
use Rattle.round_net.specs.Nets.{table}
use Rattle.cam_types.proofs.ConfigLemmas.{few_links}
use Rattle.round_net.proofs.FoundLemmas.{net_found}
use Rattle.round_net.proofs.NetLemmas.{net_is_net, live_admissible, within_history}
use Rattle.round_net.proofs.net.Net.of_rounds.Goals as goal

pub overflow_cast-result : goal.overflow_cast-result
overflow_cast-result c =
    let few : length c.links.result.now ≤ MAX_LINKS = rw c.links.ensures.same (few_links c.config-config.result.now c.links.ensures.kept) in
    omega arith

pub returns-clause-net : goal.returns-clause-net
returns-clause-net c =
    let h = c.args.history.now in
    let config = c.config-config.ensures in
    let rounds = c.round-rounds.ensures.same in
    net_found c.in_ok-copy.field-0 h.config h.events c.commands.result c.round-rounds.result (length c.links.result.now) c.in_ok-adapters_of.field-0.items c.in_ok-links_of.field-0.items c.in_ok-stay_rows.field-0.items c.in_ok-caps.field-0.items
    (c.in_ok-copy.ensures ∙ config) c.commands.ensures rounds (ap length c.links.ensures.same ∙ rw config refl) (c.in_ok-adapters_of.ensures ∙ rw (c.devices.ensures.same, config) refl) (c.in_ok-links_of.ensures ∙ rw (c.adapters.ensures.same, config) refl)
    (c.in_ok-stay_rows.ensures ∙ rw (config, c.stays.ensures) refl)
    (c.in_ok-caps.ensures ∙ ap (λ (t : Past). table (resource_count t.config) (round t.events) (cap t.config t.events)) c.requires)

pub invariant_of-result : goal.invariant_of-result
invariant_of-result c =
    let h = c.args.history.now in
    let config = c.config-config.ensures in
    let rounds = c.round-rounds.ensures.same in
    let net =
    net_found c.in_ok-copy.field-0 h.config h.events c.commands.result c.round-rounds.result (length c.links.result.now) c.in_ok-adapters_of.field-0.items c.in_ok-links_of.field-0.items c.in_ok-stay_rows.field-0.items c.in_ok-caps.field-0.items
    (c.in_ok-copy.ensures ∙ config) c.commands.ensures rounds (ap length c.links.ensures.same ∙ rw config refl) (c.in_ok-adapters_of.ensures ∙ rw (c.devices.ensures.same, config) refl) (c.in_ok-links_of.ensures ∙ rw (c.adapters.ensures.same, config) refl)
    (c.in_ok-stay_rows.ensures ∙ rw (config, c.stays.ensures) refl)
    (c.in_ok-caps.ensures ∙ ap (λ (t : Past). table (resource_count t.config) (round t.events) (cap t.config t.events)) c.requires) in
    let kept : IsConfig h.config = rw config at c.devices.ensures.kept in
    let complete : unsent h.events ≡ None = sym c.unsent.ensures ∙ c.in_default.is in
    rw net (net_is_net h.config h.events kept c.events-events.ensures.legal complete)

pub returns-clause-live : goal.returns-clause-live
returns-clause-live c =
    let h = c.args.history.now in
    let kept : IsConfig h.config = rw c.config-config.ensures at c.devices.ensures.kept in
    let complete : unsent h.events ≡ None = sym c.unsent.ensures ∙ c.in_default.is in
    live_admissible h.config h.events kept c.events-events.ensures.legal complete

pub returns-clause-small : goal.returns-clause-small
returns-clause-small c =
    let h = c.args.history.now in
    let kept : IsConfig h.config = rw c.config-config.ensures at c.devices.ensures.kept in
    within_history h.config h.events kept c.events-events.ensures.legal
