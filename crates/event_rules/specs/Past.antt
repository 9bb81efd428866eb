-- a history as its callers see it
use Rattle.std.specs.Prelude.{List}
use Rattle.cam_types.specs.Topology.{Topology}
use Rattle.event_rules.specs.Event.{Event}

-- a configuration, and the events so far
pub record Past : Type 0 where
  pub config : Topology
  pub events : List Event
