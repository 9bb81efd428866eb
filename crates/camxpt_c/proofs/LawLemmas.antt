-- Pointers stay with their CCBs.
use Rattle.std.proofs.Common.{◌≡◌, ℕ, ◌<◌, ◌∷◌, [], length, refl, ap, ◌∙◌, Some, slice_get, option_map}
use Rattle.std.proofs.Math.Seq.{get_or-append_seam}
use Rattle.std.proofs.lemmas.List.{get_or_append_left}
use Rattle.std.proofs.lemmas.Option.{get_or_from_slice_get, slice_get-map}
use Rattle.cam_types.specs.Bounds.{Bounds}
use Rattle.cam_types.specs.declared.flags.Flags.{Flags}
use Rattle.event_rules.specs.declared.event.Event.{Event}
use Rattle.event_rules.specs.declared.event.Event.TheVariants.{Submit}
use Rattle.camxpt_c.specs.Attached.{Attached, attached_after, user_of}
use Rattle.camxpt_c.specs.Carries.{old_numbers, port_gone_on}

pub submitted_user : (p : Attached) (driver device priority retries : ℕ) (flags : Flags) (user : ℕ) → user_of (attached_after p (Submit driver device priority retries flags) user) (length p.users) ≡ user
submitted_user p driver device priority retries flags user = get_or-append_seam p.users user [] 0

pub user_stays : (p : Attached) (event : Event) (user ccb : ℕ) → ccb < length p.users → user_of (attached_after p event user) ccb ≡ user_of p ccb
user_stays p (Submit driver device priority retries flags) user ccb lt = get_or_append_left p.users (user ∷ []) 0 ccb lt
user_stays p _ user ccb lt = refl

pub user_goes_on : (p : Attached) (bounds : Bounds) (ccb number : ℕ) → slice_get (old_numbers p.xpt) ccb ≡ Some number → user_of (port_gone_on p bounds) ccb ≡ user_of p number
user_goes_on p bounds ccb number is =
    get_or_from_slice_get _ ccb (user_of p number) 0 (slice_get-map (user_of p) (old_numbers p.xpt) ccb ∙ ap (option_map (user_of p)) is)
