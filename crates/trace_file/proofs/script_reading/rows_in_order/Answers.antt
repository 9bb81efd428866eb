use Rattle.trace_file.proofs.ScriptOrder.{answers_in_order, steps_in_order}
use Rattle.trace_file.proofs.script_reading.rows_in_order.Goals as goal

pub returns-clause-drivers : goal.returns-clause-drivers
returns-clause-drivers c = steps_in_order

pub returns-clause-lanes : goal.returns-clause-lanes
returns-clause-lanes c = answers_in_order
