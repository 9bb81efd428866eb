use Rattle.std.proofs.Common.{◌∙◌, sym}
use Rattle.what_if.specs.Below.{carried}
use Rattle.what_if.proofs.below.carried.Goals as goal

pub returns-then-never_limits : goal.returns-then-never_limits
unfolding carried
returns-then-never_limits c = rw (sym c.never_limits.ensures ∙ c.if-never_limits.true) c.in_ok-below.ensures

pub returns-else-never_limits : goal.returns-else-never_limits
unfolding carried
returns-else-never_limits c = rw (sym c.never_limits.ensures ∙ c.if-never_limits.false) c.new.ensures.items
