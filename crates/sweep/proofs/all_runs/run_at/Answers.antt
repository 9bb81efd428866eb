use Rattle.std.proofs.Common.{◌<◌, ◌/◌, length, arith}
use Rattle.std.proofs.lemmas.Nat.{div_below}
use Rattle.sweep.proofs.RunLemmas.{setting_open}
use Rattle.sweep.proofs.all_runs.run_at.Goals as goal

pub changed_script-requires : goal.changed_script-requires
changed_script-requires g c =
    let lt : c.args.at / c.args.seeds < length c.args.settings.now = div_below c.args.at c.args.seeds (length c.args.settings.now) (omega (arith, c.requires.seeds)) c.requires.at in
    rw c.deref.ensures.value (setting_open c.args.settings.now (c.args.at / c.args.seeds) c.index-settings-setting.result lt c.requires.open)
