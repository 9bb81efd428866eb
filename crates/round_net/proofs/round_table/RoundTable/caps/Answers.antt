use Rattle.std.proofs.Common.{◌≡◌, subst, IfOk}
use Rattle.std.proofs.lemmas.Result.{IfOk-weaker}
use Rattle.round_net.specs.Words.{round, Past}
use Rattle.event_rules.proofs.LimitLemmas.{round_first}
use Rattle.round_net.specs.Caps.{resource_count, cap}
use Rattle.round_net.specs.Marks.{AreCaps}
use Rattle.round_net.specs.Nets.{table}
use Rattle.round_net.proofs.FoundLemmas.{caps_found}
use Rattle.round_net.proofs.round_table.RoundTable.caps.Goals as goal

pub returns : goal.returns
returns c =
    let x = c.self.inside in
    subst (λ (t : Past). IfOk c.caps.result (λ caps. caps.items ≡ table (resource_count t.config) (round t.events) (cap t.config t.events))) c.self.view_is
    (IfOk-weaker c.caps.result (λ caps. AreCaps x.frozen.items x.sends.items x.openings.items caps.items) (λ caps. caps.items ≡ table (resource_count x.end.config) (round x.end.events) (cap x.end.config x.end.events))
    (λ caps are. caps_found x.end.config x.end.events (round x.end.events) x.frozen.items x.openings.items x.sends.items caps.items (round_first x.end.events) c.self.invariant.noted c.self.invariant.cells are)
    (rw (c.deref.ensures.value, c.deref-2.ensures.value, c.deref-3.ensures.value) at c.caps.ensures))
