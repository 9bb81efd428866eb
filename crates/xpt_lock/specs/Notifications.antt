-- how often each wait event was notified
use Rattle.std.specs.Prelude.{ℕ, ◌+◌, ◌%◌, ◌^◌, Bool, if◌then◌else◌}
use Rattle.xpt_lock.specs.declared.wait_event.WaitEvent.{WaitEvent}
use Rattle.xpt_lock.specs.declared.wait_event.WaitEvent.TheVariants.{Round, Work, Case, Rest}
use Rattle.xpt_lock.specs.declared.notifications.Notifications.{Notifications}

abbrev pub no_notifications : Notifications
no_notifications = record { round = 0; work = 0; case = 0; rest = 0 }

abbrev pub notifications_of : Notifications → WaitEvent → ℕ
notifications_of r Round = r.round
notifications_of r Work = r.work
notifications_of r Case = r.case
notifications_of r Rest = r.rest

-- one notification more if it is notified, modulo 2 ^ 64
abbrev pub counted : Bool → ℕ → ℕ
counted is_notified count = if is_notified then (count + 1) % 2 ^ 64 else count

-- each wait event that passes the test was notified once more, and the others weren't
abbrev pub notified_by : (WaitEvent → Bool) → Notifications → Notifications
notified_by test r = record {
  round = counted (test Round) r.round;
  work = counted (test Work) r.work;
  case = counted (test Case) r.case;
  rest = counted (test Rest) r.rest;
}
