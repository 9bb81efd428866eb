use Rattle.wait_causes.proofs.RowLemmas.{all_rows}
use Rattle.wait_causes.proofs.laws.rows_add_up.Goals as goal

pub returns : goal.returns
returns c = all_rows
