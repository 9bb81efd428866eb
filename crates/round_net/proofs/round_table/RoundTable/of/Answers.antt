use Rattle.std.proofs.Common.{◌≡◌, ◌*◌, length, ap, refl, sym, ◌∙◌}
use Rattle.round_net.specs.Words.{round, history_rules, Transport}
use Rattle.round_net.specs.Caps.{resource_count}
use Rattle.round_net.proofs.MarkLemmas.{written_back}
use Rattle.round_net.proofs.round_table.RoundTable.of.Goals as goal

pub invariant_of-result : goal.invariant_of-result
invariant_of-result c =
    let frozen' : length c.walk.new.frozen ≡ c.in_ok-frozen.frozen.len = c.walk.auto.frozen ∙ c.deref_mut.ensures.len in
    let openings' : length c.walk.new.openings ≡ c.in_ok-openings.openings.len = c.walk.auto.openings ∙ c.deref_mut-2.ensures.len in
    let sends' : length c.walk.new.sends ≡ c.in_ok-sends.sends.len = c.walk.auto.sends ∙ c.deref_mut-3.ensures.len in
    let config : c.in_ok-open.field-0.config ≡ c.config-config.result.now = ap (λ (t : Transport). t.config) c.in_ok-open.ensures ∙ c.in_ok-copy.ensures in
    let rounds : c.round-rounds.result ≡ round c.events.result.now = c.round-rounds.ensures.same ∙ sym (ap round c.events.ensures.same) in
    let rows : c.resource_count.result * c.round-rounds.result ≡ resource_count c.in_ok-open.field-0.config * round c.events.result.now = rw (c.resource_count.ensures, config, rounds) refl in
    let end : c.in_ok-end.end ≡ record { config = c.in_ok-open.field-0.config; rules = history_rules; events = c.events.result.now } = c.in_ok-end.ensures.replayed in
    rw (
      end,
      written_back c.walk.new.frozen c.in_ok-frozen.frozen.items c.in_ok-frozen.frozen.len frozen',
      written_back c.walk.new.openings c.in_ok-openings.openings.items c.in_ok-openings.openings.len openings',
      written_back c.walk.new.sends c.in_ok-sends.sends.items c.in_ok-sends.sends.len sends',
    ) (record {
      rules = refl;
      noted = rw rounds at c.in_ok-end.ensures.noted;
      cells = record { marked = frozen' ∙ c.in_ok-frozen.ensures.len ∙ rows; opened = openings' ∙ c.in_ok-openings.ensures.len ∙ rows; sent = sends' ∙ c.in_ok-sends.ensures.len ∙ rows };
      ended = c.in_ok-end.ensures.ended;
    })
