-- a transport as its callers see it
use Rattle.std.specs.Prelude.{List}
use Rattle.xpt_core.specs.Words.{Topology, Rules, Event}

-- a configuration, how far the events may go, and the events so far
pub record Transport : Type 0 where
  pub config : Topology
  pub rules : Rules
  pub events : List Event
