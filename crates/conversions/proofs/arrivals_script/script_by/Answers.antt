use Rattle.std.proofs.Common.{length, ap, sym, ◌∙◌}
use Rattle.std.proofs.lemmas.Bool.{le-leb}
use Rattle.trace_file.proofs.ScriptRules.{rules_kept}
use Rattle.conversions.proofs.ScriptLemmas.{eight_vectors, each_few, drivers_ruled, count_is, too_many_is, not_too_many, none_is}
use Rattle.conversions.proofs.arrivals_script.script_by.Goals as goal

pub steps_in-requires-clause-eight : goal.steps_in-requires-clause-eight
steps_in-requires-clause-eight c = ap length c.deref.ensures.value ∙ eight_vectors c.args.all.now c.in_ok-drivers.drivers.items c.in_ok-drivers.ensures

pub steps_in-requires-clause-each : goal.steps_in-requires-clause-each
steps_in-requires-clause-each c =
    rw c.deref.ensures.value (each_few c.args.all.now 65535 c.in_ok-drivers.drivers.items c.requires.short (eight_vectors c.args.all.now c.in_ok-drivers.drivers.items c.in_ok-drivers.ensures) c.in_ok-drivers.ensures)

pub returns-in-Some-too_many_steps-clause-fault : goal.returns-in-Some-too_many_steps-clause-fault
returns-in-Some-too_many_steps-clause-fault c =
    let counted = count_is c.args.all.now c.in_ok-drivers.drivers.items c.steps_in.result (rw c.deref.ensures.value at c.steps_in.ensures) c.in_ok-drivers.ensures in
    too_many_is c.args.all.now c.in-Some-too_many_steps.fault (sym c.driver_fault.ensures ∙ c.in_default.is) (sym counted ∙ sym c.too_many_steps.ensures ∙ c.in-Some-too_many_steps.is)

pub unreachable-requires : goal.unreachable-requires
unreachable-requires c =
    let vs = c.in_ok-drivers.drivers.items in
    let eight' = eight_vectors c.args.all.now vs c.in_ok-drivers.ensures in
    let counted = rw c.deref.ensures.value at c.steps_in.ensures in
    let few = rw counted at (not_too_many c.steps_in.result (sym c.too_many_steps.ensures ∙ c.in_default-too_many_steps.is)) in
    c.in-None.ensures.refused (rules_kept c.args.config _ vs c.args.answers.items eight' c.requires.lanes few (le-leb _ _ c.requires.few) c.requires.answered (drivers_ruled c.args.config c.args.all.now _ c.in_ok-drivers.ensures c.requires.ruled))

pub returns-clause-fault : goal.returns-clause-fault
returns-clause-fault c =
    let counted = count_is c.args.all.now c.in_ok-drivers.drivers.items c.steps_in.result (rw c.deref.ensures.value at c.steps_in.ensures) c.in_ok-drivers.ensures in
    none_is c.args.all.now (sym c.driver_fault.ensures ∙ c.in_default.is) (sym counted ∙ sym c.too_many_steps.ensures ∙ c.in_default-too_many_steps.is)
