use Rattle.sweep.proofs.ScriptLemmas.{script_kept}
use Rattle.sweep.proofs.script.changed_script.Goals as goal

pub unreachable-requires : goal.unreachable-requires
unreachable-requires c =
    c.in-None.ensures.refused
    (rw (c.in_ok-config.ensures, c.config.ensures, c.limits.ensures, c.in_ok-drivers.ensures, c.drivers.ensures.same, c.in_ok-answers.ensures, c.answers.ensures.same)
    (script_kept c.args.script.now c.args.changes.now c.drivers.ensures.kept))
