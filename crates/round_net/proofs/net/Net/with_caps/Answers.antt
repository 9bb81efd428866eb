use Rattle.std.proofs.Common.{◌∙◌}
use Rattle.round_net.specs.Rows.{NetRows}
use Rattle.round_net.proofs.PaceLemmas.{capped_view}
use Rattle.round_net.proofs.net.Net.with_caps.Goals as goal

pub invariant_of-result : goal.invariant_of-result
invariant_of-result c =
    let x = c.self.inside in
    let n : NetRows = record { config = x.config; commands = x.commands; rounds = x.rounds; links = x.links; adapter_of = x.adapter_of.items; link_of = x.link_of.items; stays = x.stays.items; caps = x.caps.items; max_price = x.max_price } in
    rw (c.in_ok-copy.ensures, c.in_ok-from_slice.ensures.items ∙ c.deref.ensures.value, c.in_ok-from_slice-2.ensures.items ∙ c.deref-2.ensures.value, c.in_ok-from_slice-3.ensures.items ∙ c.deref-3.ensures.value)
    (capped_view n c.args.self.now c.args.caps.items c.self.view_is c.self.invariant c.requires.cells c.requires.small c.requires.held)
