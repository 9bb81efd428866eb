use Rattle.std.proofs.Common.{sym}
use Rattle.record_text.proofs.FrontLemmas.{marked, unmarked}
use Rattle.record_text.proofs.text_front.mark_bytes.Goals as goal

pub returns-then-starts_with-clause-rest : goal.returns-then-starts_with-clause-rest
returns-then-starts_with-clause-rest c = marked c.args.text.now (sym (rw c.if-starts_with.true at c.starts_with.ensures.value))

pub returns-else-starts_with-clause-rest : goal.returns-else-starts_with-clause-rest
returns-else-starts_with-clause-rest c = unmarked c.args.text.now (sym (rw c.if-starts_with.false at c.starts_with.ensures.value))
