use Rattle.trace_file.proofs.script.Script.new.Goals as goal

pub returns-then-not-keep_rules-clause-refused : goal.returns-then-not-keep_rules-clause-refused
returns-then-not-keep_rules-clause-refused c is =
    c.keep_rules.ensures.broken c.args.limits c.if-not-keep_rules.true (rw (c.deref.ensures.value, c.deref-2.ensures.value) is)

pub invariant_of-result : goal.invariant_of-result
invariant_of-result c = rw (← c.deref.ensures.value, ← c.deref-2.ensures.value) (c.keep_rules.ensures.kept c.args.limits c.if-not-keep_rules.false)
