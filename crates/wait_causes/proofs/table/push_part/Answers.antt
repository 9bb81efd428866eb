use Rattle.std.proofs.Common.{sym, ◌∙◌}
use Rattle.wait_causes.proofs.TableLemmas.{row_none, row_some}
use Rattle.wait_causes.proofs.table.push_part.Goals as goal

pub returns-then-is_empty : goal.returns-then-is_empty
returns-then-is_empty c = row_none c.args.known c.args.part.now c.args.number c.args.rows.now.items (sym c.is_empty.ensures ∙ c.if-is_empty.true)

pub returns : goal.returns
returns c = row_some c.args.known c.args.part.now c.args.number c.args.rows.now.items c.push.new.self.items c.in_ok-waited.waited c.in_ok-waited.ensures (sym c.is_empty.ensures ∙ c.if-is_empty.false) c.in_ok-push.ensures.items
