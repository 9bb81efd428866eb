-- What is recorded, and when it is a recording.
use Rattle.std.specs.Prelude.{◌≡◌, ℕ, ◌==◌, ◌≤◌, Bool, true, not, nat_lt, nat_le, ◌&&◌, if◌then◌else◌, List, [], ◌∷◌, length, count_by, find, Option, Some, None, option_map, IfSome}
use Rattle.std.specs.List.{AllByRecursion, list_all}
use Rattle.std.specs.Option.{option_or, option_map_or}
use Rattle.cam_types.specs.Lists.{prefixed, first_answer}
use Rattle.cam_types.specs.Topology.{Topology, config_fault}
use Rattle.cam_types.specs.Questions.{names_device, device_adapter, adapter_link, is_on, is_under}
use Rattle.cam_types.specs.declared.device.Device.{Device}
use Rattle.cam_types.specs.declared.limits.TheConstants.{MAX_PRIORITY}
pub use Rattle.recording_file.specs.declared.limits.TheConstants.{MAX_RECORDED_ROUNDS, MAX_REQUESTS, MAX_RECORDING_BYTES}
use Rattle.recording_file.specs.Caps.{Part, Cap, part_of, is_cap, cap_in, PartKind}
use Rattle.recording_file.specs.declared.part.PartKind.TheVariants as kind
pub use Rattle.recording_file.specs.declared.cause.RequestFault.{RequestFault}
pub use Rattle.recording_file.specs.declared.cause.RequestFault.TheVariants.{NoDevice, BadPriority, BadWindow, Early, Late, DeviceFull, AdapterFull, LinkFull}
pub use Rattle.recording_file.specs.declared.request.Request.{Request}
pub use Rattle.recording_file.specs.declared.span.Span.{Span}
use Rattle.recording_file.specs.Counts.{counts_of}
use Rattle.recording_file.specs.Names.{NameValue, is_name}

-- a list has an item
abbrev pub has_items : {X : Type 0} → List X → Bool
has_items xs = not (length xs == 0)

-- how long a round is, if that is known, the last round, what there is, names, caps, the requests in their order, and whether
-- completions are recorded too, where they are known
pub record Recorded : Type 0 where
  pub unit : Option Span
  pub rounds : ℕ
  pub config : Topology
  pub names : List NameValue
  pub caps : List Cap
  pub requests : List Request
  pub completions : Bool

-- a device's requests take of a part: of the device itself, of its adapter and of that one's link
abbrev pub takes_of : Topology → Part → ℕ → Bool
takes_of c p device = by p.kind p.number
  where
    by : PartKind → ℕ → Bool
    by kind.Device n = device == n
    by kind.Adapter n = is_on c n device
    by kind.Link n = is_under c n device

-- how many of these requests a part took in a round
abbrev pub load : Topology → List Request → Part → ℕ → ℕ
load c requests p round = count_by (λ (q : Request). takes_of c p q.device && (q.sent == round)) requests

abbrev pub link_parts : Option ℕ → List Part
link_parts None = []
link_parts (Some l) = part_of kind.Link l ∷ []

-- the parts that a device's requests take of
abbrev pub parts_of : Topology → ℕ → List Part
parts_of c device =
    let adapter = device_adapter c device in
    part_of kind.Device device ∷ part_of kind.Adapter adapter ∷ link_parts (adapter_link c adapter)

-- a part took as many in a round as its cap
abbrev pub is_full : Topology → List Cap → List Request → ℕ → Part → Bool
is_full c caps before round p = nat_le (cap_in c caps p round) (load c before p round)

abbrev pub full_cause : PartKind → RequestFault
full_cause kind.Device = DeviceFull
full_cause kind.Adapter = AdapterFull
full_cause kind.Link = LinkFull

-- the last round in which a request could have been started
abbrev pub last_of : ℕ → Request → ℕ
last_of rounds q = option_map_or (λ n. n) q.last rounds

-- why a request can't have been started in its round, whatever else was
unfoldable pub window_cause : ℕ → Request → Option RequestFault
window_cause rounds q =
    if not (nat_le 1 q.arrival && (nat_le q.arrival (last_of rounds q) && nat_le (last_of rounds q) rounds)) then Some BadWindow
    else if nat_lt q.sent q.arrival then Some Early
    else if nat_lt (last_of rounds q) q.sent then Some Late
    else None

-- why it can't beside the requests before it
unfoldable pub crowd_cause : Topology → List Cap → List Request → Request → Option RequestFault
crowd_cause c caps before q = option_map (λ (p : Part). full_cause p.kind) (find (is_full c caps before q.sent) (parts_of c q.device))

-- why it can't, whatever the other requests are
unfoldable pub plain_cause : ℕ → Topology → Request → Option RequestFault
plain_cause rounds c q =
    if not (names_device c q.device) then Some NoDevice
    else if nat_lt MAX_PRIORITY q.priority then Some BadPriority
    else window_cause rounds q

-- the first cause that a request, beside those before it, can't be one of a recording
unfoldable pub request_cause : ℕ → Topology → List Cap → List Request × Request → Option RequestFault
request_cause rounds c caps m = option_or (plain_cause rounds c m.1) (crowd_cause c caps m.0 m.1)

-- what is recorded of a request's completion is right: it is none, or it isn't before the start, where completions are recorded
abbrev pub is_done_right : Bool → Request → Bool
is_done_right completions q = option_map_or (λ n. completions && nat_le q.sent n) q.done true

-- rules that a recording's head keeps: how long a round is, how many rounds, what there is, names and caps
pub record IsHead (r : Recorded) : Type 0 where
  pub unit : IfSome r.unit (λ (u : Span). 1 ≤ u.count)
  pub some : 1 ≤ r.rounds
  pub rounds : r.rounds ≤ MAX_RECORDED_ROUNDS
  pub config : config_fault r.config ≡ None
  pub lanes : r.config.lanes ≡ []
  pub names : list_all (is_name (counts_of r.config)) (prefixed r.names) ≡ true
  pub caps : list_all (is_cap r.rounds (counts_of r.config)) (prefixed r.caps) ≡ true

-- the rules that a recording keeps
pub record IsKept (r : Recorded) : Type 0 where
  pub head : IsHead r
  pub requests : first_answer (request_cause r.rounds r.config r.caps) (prefixed r.requests) ≡ None
  pub few : length r.requests ≤ MAX_REQUESTS
  pub done : AllByRecursion (λ (q : Request). is_done_right r.completions q ≡ true) r.requests

-- a request's driver and the round of its completion fit their fields
abbrev pub FitsFields : Request → Type 0
FitsFields q = (q.driver ≤ 255) × IfSome q.done (λ n. n ≤ 4294967295)

-- a recording: the rules are kept, and its numbers fit their fields
pub record IsRecording (r : Recorded) : Type 0 where
  pub kept : IsKept r
  pub unit : IfSome r.unit (λ (u : Span). u.count ≤ 4294967295)
  pub targets : AllByRecursion (λ (d : Device). d.target ≤ 65535) r.config.devices
  pub fields : AllByRecursion FitsFields r.requests
