use Rattle.orders.proofs.BestLemmas.{best_where_devices_bind}
use Rattle.orders.proofs.price_laws.best_where_devices_bind.Goals as goal

pub returns : goal.returns
returns c = best_where_devices_bind
