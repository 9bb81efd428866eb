-- whose turn it is
use Rattle.event_rules.specs.declared.passage.Passage.{Passage}
pub use Rattle.xpt_core.specs.declared.queues.next.Next.{Next}

-- a stay as the one that is next
abbrev pub next_of : Passage → Next
next_of p = record { ccb = p.ccb; device = p.device; priority = p.priority }
