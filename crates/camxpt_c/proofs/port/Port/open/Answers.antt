use Rattle.std.proofs.Common.{ap, sym, ◌∙◌}
use Rattle.event_rules.specs.Counts.{commands}
use Rattle.xpt_core.specs.Transport.{Transport}
use Rattle.camxpt_c.proofs.PortLemmas.{no_commands}
use Rattle.camxpt_c.proofs.port.Port.open.Goals as goal

pub of-requires : goal.of-requires
of-requires c = sym no_commands ∙ ap (λ (t : Transport). commands t.events) (sym c.in_ok-xpt.ensures)
