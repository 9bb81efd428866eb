-- the parts that hold a transport's devices
use Rattle.std.specs.Prelude.{◌≡◌, ◌≤◌, map, IsTrue, vec_capacity}
use Rattle.xpt_core.specs.Words.{submissions, devices, IsWithinHistory, is_legal}
use Rattle.xpt_core.specs.Device.{device_state}
use Rattle.xpt_core.specs.Counted.{counts_of}
use Rattle.xpt_core.specs.declared.devices.Devices.TheInside.{Inside}

-- the events are legal by the rules, all else is by the events, and there is memory for all that may come
pub record IsDevices (d : Inside) : Type 0 where
  pub within : IsWithinHistory d.rules
  pub legal : IsTrue (is_legal d.rules d.config d.events.items)
  pub submissions : d.submissions.items ≡ submissions d.events.items
  pub queues : d.queues.items ≡ map (device_state d.config d.rules.stays d.events.items) (devices d.config)
  pub counts : d.counts ≡ counts_of d.events.items
  pub events_room : d.rules.events ≤ vec_capacity d.events
  pub submissions_room : d.rules.stays ≤ vec_capacity d.submissions
