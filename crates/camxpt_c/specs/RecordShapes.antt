-- what the structs of a recording say
use Rattle.std.specs.Prelude.{ℕ, ◌==◌, Bool, not, List, Option, Some, None, if◌then◌else◌}
use Rattle.std.specs.List.{list_any}
use Rattle.recording_file.specs.declared.cap.Cap.{Cap}
use Rattle.recording_file.specs.declared.part.PartKind.{PartKind}
use Rattle.recording_file.specs.declared.part.PartKind.TheVariants as kind
use Rattle.recording_file.specs.declared.request.Request.{Request}
use Rattle.recording_file.specs.declared.span.Span.{Span}
use Rattle.recording_file.specs.declared.span.TimeUnit.{TimeUnit}
use Rattle.recording_file.specs.declared.span.TimeUnit.TheVariants as time
use Rattle.camxpt_c.specs.declared.record_shapes.CamxptCap.{CamxptCap}
use Rattle.camxpt_c.specs.declared.record_shapes.CamxptRequest.{CamxptRequest}
use Rattle.camxpt_c.specs.declared.record_shapes.CamxptSpan.{CamxptSpan}
use Rattle.camxpt_c.specs.declared.record_shapes.TheConstants.{NANOSECONDS, MICROSECONDS, MILLISECONDS, CAP_DEVICE, CAP_ADAPTER, NO_LAST, NO_DONE}

-- the unit of time of a number, where SECONDS is the last
abbrev pub time_of : ℕ → TimeUnit
time_of n =
    if n == NANOSECONDS then time.Nanosecond
    else if n == MICROSECONDS then time.Microsecond
    else if n == MILLISECONDS then time.Millisecond
    else time.Second

-- how long a round is, if the count isn't 0
abbrev pub span_of : CamxptSpan → Option Span
span_of s = if s.count == 0 then None else Some (record { count = s.count; unit = time_of s.unit })

-- what a cap of this number is for, where CAP_LINK is the last
abbrev pub kind_of : ℕ → PartKind
kind_of n = if n == CAP_DEVICE then kind.Device else if n == CAP_ADAPTER then kind.Adapter else kind.Link

abbrev pub cap_of : CamxptCap → Cap
cap_of c = record { part = record { kind = kind_of c.kind; number = c.number }; first = c.first; last = c.last; most = c.most }

-- a last round, or none, which stands for the recording's last
abbrev pub last_of : ℕ → Option ℕ
last_of n = if n == NO_LAST then None else Some n

-- the round of a completion, or none where it isn't known
abbrev pub done_of : ℕ → Option ℕ
done_of n = if n == NO_DONE then None else Some n

-- the request that the struct says: its start is the round in which it was sent
abbrev pub request_of : CamxptRequest → Request
request_of q = record {
  driver = q.driver;
  device = q.device;
  priority = q.priority;
  arrival = q.arrival;
  last = last_of q.last;
  sent = q.start;
  done = done_of q.done;
}

-- one of these requests says when it was completed
abbrev pub any_done : List CamxptRequest → Bool
any_done qs = list_any (λ (q : CamxptRequest). not (q.done == NO_DONE)) qs
