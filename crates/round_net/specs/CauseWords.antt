-- the words of each cause
use Rattle.std.specs.Prelude.{ℕ, List, codes}
use Rattle.round_net.specs.declared.cause.WaitCause.{WaitCause}
use Rattle.round_net.specs.declared.cause.WaitCause.TheVariants as cause

-- a cause as pages and drawings give it
abbrev pub cause_words : WaitCause → List ℕ
cause_words cause.Error = codes "held by an error"
cause_words cause.Caller = codes "frozen by a caller"
cause_words cause.AdapterFrozen = codes "adapter frozen"
cause_words cause.DeviceStopped = codes "device stopped"
cause_words cause.AdapterStopped = codes "adapter stopped"
cause_words cause.LinkStopped = codes "link stopped"
cause_words cause.DeviceFull = codes "device full"
cause_words cause.AdapterFull = codes "adapter full"
cause_words cause.LinkFull = codes "link full"
cause_words cause.NotAsked = codes "not asked"
