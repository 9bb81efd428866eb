-- what holds of the pointers of CCBs
use Rattle.std.specs.Prelude.{◌≡◌, ℕ, ◌<◌, length, Some, slice_get}
use Rattle.cam_types.specs.Bounds.{Bounds}
use Rattle.cam_types.specs.declared.flags.Flags.{Flags}
use Rattle.event_rules.specs.declared.event.Event.{Event}
use Rattle.event_rules.specs.declared.event.Event.TheVariants.{Submit}
use Rattle.camxpt_c.specs.Attached.{Attached, attached_after, user_of}
use Rattle.camxpt_c.specs.Carries.{old_numbers, port_gone_on}

-- A submit's CCB, whose number is how many pointers there were, has the pointer that the submit was given.
abbrev pub SubmitsGiveTheirPointer : Type 0
SubmitsGiveTheirPointer =
    (p : Attached) (driver device priority retries : ℕ) (flags : Flags) (user : ℕ)
    → user_of (attached_after p (Submit driver device priority retries flags) user) (length p.users) ≡ user

-- No event changes the pointer of a CCB that is there.
abbrev pub PointersStay : Type 0
PointersStay =
    (p : Attached) (event : Event) (user ccb : ℕ)
    → ccb < length p.users → user_of (attached_after p event user) ccb ≡ user_of p ccb

-- After a carry each CCB has the pointer that the CCB of its old number had.
abbrev pub PointersGoOn : Type 0
PointersGoOn =
    (p : Attached) (bounds : Bounds) (ccb number : ℕ)
    → slice_get (old_numbers p.xpt) ccb ≡ Some number → user_of (port_gone_on p bounds) ccb ≡ user_of p number
