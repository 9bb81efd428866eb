-- a net has the stays of its history
use Rattle.std.proofs.Common.{◌≡◌, List, length}
use Rattle.std.proofs.lemmas.List.{length-map}
use Rattle.wait_causes.specs.Words.{Topology, stays_begun, Event, net_of, stay_row, instance_of_rows}

pub all_stays : (c : Topology) (events : List Event) → (instance_of_rows (net_of c events)).stays ≡ length (stays_begun events)
unfolding instance_of_rows net_of
all_stays c events = length-map (stays_begun events) (stay_row c events)
