-- the submit of what is left of a CCB, by what is known of it
use Rattle.std.specs.Prelude.{◌-◌}
use Rattle.event_rules.specs.declared.event.Event.{Event}
use Rattle.xpt_core.specs.declared.ccbs.ccb.Ccb.{Ccb}
use Rattle.event_rules.specs.declared.event.Event.TheVariants.{Submit}

abbrev pub submit_by : Ccb → Event
submit_by row =
    Submit row.submission.driver row.submission.device row.submission.priority (row.submission.retries - row.counted) row.submission.flags
