-- the parts of a port
use Rattle.std.specs.Prelude.{◌≡◌, ◌≤◌, length, vec_capacity}
use Rattle.event_rules.specs.Counts.{commands}
use Rattle.camxpt_c.specs.declared.port.Port.TheInside.{Inside}

-- each CCB has its pointer, and there is memory for all that may come
pub record IsPort (p : Inside) : Type 0 where
  pub numbered : length p.users.items ≡ commands p.xpt.events
  pub room : p.xpt.rules.stays ≤ vec_capacity p.users
