use Rattle.std.specs.Prelude.{ℕ, ◌%◌, ◌==◌, Bool, true, false, ◌||◌, if◌then◌else◌, nat_lt, List, [], ◌∷◌, Option, Some, None}
use Rattle.cam_types.specs.declared.outcome.Outcome.{Outcome}
use Rattle.sense_class.specs.Sense.{read_sense, Sense}
use Rattle.sense_class.specs.declared.class.Kind.{Kind}
use Rattle.sense_class.specs.declared.class.Kind.TheVariants.{Good, Free, Counted, Recovered, Other}
use Rattle.sense_class.specs.declared.class.Why.TheVariants as whys
use Rattle.sense_class.specs.declared.class.Class as class
use Rattle.sense_class.specs.declared.class.Class.TheVariants.{Complete, FreeRequeue, CountedRequeue, Fail}

abbrev pub is_one_of : List ℕ → ℕ → Bool
is_one_of [] n = false
is_one_of (x ∷ xs) n = (x == n) || is_one_of xs n

-- the CAM status of a result, without the flags above it
abbrev pub status_of : Outcome → ℕ
status_of o = o.status % 64

-- a check condition without current sense counts; of current sense the keys not ready, medium error, hardware error,
-- unit attention and aborted command do, no sense and recovered error stand for themselves
unfoldable pub sense_kind : Option Sense → Kind
sense_kind None = Counted
sense_kind (Some s) =
    if s.deferred then Counted
    else if is_one_of (2 ∷ 3 ∷ 4 ∷ 6 ∷ 11 ∷ []) s.key then Counted
    else if nat_lt s.key 2 then Recovered
    else Other

-- a SCSI status error: task set full is free, busy counts, and a check condition goes by its sense
unfoldable pub scsi_kind : Outcome → Kind
scsi_kind o =
    if o.scsi == 0x28 then Free
    else if o.scsi == 0x08 then Counted
    else if o.scsi == 0x02 then sense_kind (read_sense o.sense)
    else Other

-- completed; requeue; busy, selection timeout, command timeout, bus reset, parity, unexpected bus free, BDR sent;
-- SCSI status error
unfoldable pub kind_of : Outcome → Kind
kind_of o =
    let s = status_of o in
    if s == 0x01 then Good
    else if s == 0x1b then Free
    else if is_one_of (0x05 ∷ 0x0a ∷ 0x0b ∷ 0x0e ∷ 0x0f ∷ 0x13 ∷ 0x17 ∷ []) s then Counted
    else if s == 0x0c then scsi_kind o
    else Other

-- A result that counts is spent where the CCB has had as many counted requeues as retries.
abbrev pub class_of : ℕ → ℕ → Kind → class.Class
class_of counted retries Good = Complete
class_of counted retries Free = FreeRequeue
class_of counted retries Counted = if counted == retries then Fail whys.Spent else CountedRequeue
class_of counted retries Recovered = Fail whys.Recovered
class_of counted retries Other = Fail whys.Other

-- the class of a result after that many counted requeues of a CCB with that many retries
abbrev pub classify : Outcome → ℕ → ℕ → class.Class
classify outcome counted retries = class_of counted retries (kind_of outcome)

-- whether a class asks for a requeue, or for a finish
abbrev pub asks_requeue : class.Class → Bool
asks_requeue FreeRequeue = true
asks_requeue CountedRequeue = true
asks_requeue _ = false

abbrev pub asks_finish : class.Class → Bool
asks_finish (Fail why) = true
asks_finish _ = false

abbrev pub is_counted : Kind → Bool
is_counted Counted = true
is_counted _ = false
