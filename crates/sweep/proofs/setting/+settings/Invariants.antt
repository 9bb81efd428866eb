use Rattle.std.proofs.Common.{length}
use Rattle.sweep.proofs.setting.+settings.Given as goal

abbrev pub decreases-settings : goal.decreases-settings
decreases-settings l = length l.choices.now
