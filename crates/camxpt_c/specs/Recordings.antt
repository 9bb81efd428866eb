-- the recording of what C hands in, and what is wrong with it first
use Rattle.std.specs.Prelude.{ℕ, ℤ, Bool, ◌≡◌, ◌⊎◌, ◌==◌, nat_lt, nat_le, ◌&&◌, ◌||◌, List, [], length, map, Option, Some, None, option_map, if◌then◌else◌, MatchOption}
use Rattle.std.specs.Option.{option_or}
use Rattle.cam_types.specs.Lists.{prefixed, first_answer}
use Rattle.cam_types.specs.Topology.{Topology, config_fault}
use Rattle.cam_types.specs.declared.config_fault.ConfigFault.{ConfigFault}
use Rattle.recording_file.specs.Caps.{is_cap}
use Rattle.recording_file.specs.Counts.{counts_of}
use Rattle.recording_file.specs.Recorded.{Recorded, is_done_right, request_cause}
use Rattle.recording_file.specs.declared.cap.Cap.{Cap}
use Rattle.recording_file.specs.declared.cause.RequestFault.{RequestFault}
use Rattle.recording_file.specs.declared.request.Request.{Request}
use Rattle.recording_file.specs.declared.limits.TheConstants.{MAX_RECORDED_ROUNDS, MAX_REQUESTS}
use Rattle.recording_file.specs.Recordings.{IsRecordingText}
use Rattle.recording_file.specs.Writing.{recording_text}
use Rattle.camxpt_c.specs.Codes.{fault_code, cause_code}
use Rattle.camxpt_c.specs.RecordShapes.{span_of, cap_of, request_of, any_done}
use Rattle.camxpt_c.specs.Tracing.{IsCopy}
use Rattle.camxpt_c.specs.declared.codes.TheConstants.{E_MEMORY, E_UNIT, E_ROUNDS, E_REQUESTS, E_CAP, E_DONE}
use Rattle.camxpt_c.specs.declared.record_shapes.CamxptCap.{CamxptCap}
use Rattle.camxpt_c.specs.declared.record_shapes.CamxptRequest.{CamxptRequest}
use Rattle.camxpt_c.specs.declared.record_shapes.CamxptSpan.{CamxptSpan}
use Rattle.camxpt_c.specs.declared.record_shapes.TheConstants.{SECONDS, CAP_LINK}
pub use Rattle.camxpt_c.specs.declared.record_fault.RecordFault.{RecordFault}
pub use Rattle.camxpt_c.specs.declared.record_fault.RecordFault.TheVariants.{Call, Item, OutOfMemory}

-- what C hands in: what there is, how long a round is, the last round, caps and requests
pub record Handed : Type 0 where
  pub config : Topology
  pub span : CamxptSpan
  pub rounds : ℕ
  pub caps : List CamxptCap
  pub requests : List CamxptRequest

-- the recording of it: all of it, in its order, and no names; completions are recorded if a request says one
abbrev pub recorded_of : Handed → Recorded
recorded_of h = record {
  unit = span_of h.span;
  rounds = h.rounds;
  config = h.config;
  names = [];
  caps = map cap_of h.caps;
  requests = map request_of h.requests;
  completions = any_done h.requests;
}

-- what is wrong with the unit, the rounds or the number of requests
unfoldable pub size_fault : CamxptSpan → ℕ → ℕ → Option RecordFault
size_fault span rounds requests =
    if nat_lt SECONDS span.unit then Some (Call E_UNIT)
    else if (rounds == 0) || nat_lt MAX_RECORDED_ROUNDS rounds then Some (Call E_ROUNDS)
    else if nat_lt MAX_REQUESTS requests then Some (Call E_REQUESTS)
    else None

-- the first rule that the configuration breaks
abbrev pub rule_fault : Option ConfigFault → Option RecordFault
rule_fault broken = option_map (λ rule. Call (fault_code rule)) broken

-- a cap's kind is one, and the cap may come after those before it
abbrev pub is_next : ℕ → Topology → List Cap → CamxptCap → Bool
is_next rounds c before shape = nat_le shape.kind CAP_LINK && is_cap rounds (counts_of c) (before, cap_of shape)

-- what is wrong with a cap, beside those before it: how many these are is its number
unfoldable pub cap_fault : ℕ → Topology → List CamxptCap × CamxptCap → Option RecordFault
cap_fault rounds c m = if is_next rounds c (map cap_of m.0) m.1 then None else Some (Item E_CAP (length m.0))

-- a cause as what is wrong with the request of this number
abbrev pub numbered : ℕ → Option RequestFault → Option RecordFault
numbered number cause = option_map (λ why. Item (cause_code why) number) cause

-- what is wrong with the request of this number, beside those before it: that it was completed before its start, or the first
-- cause that it can't be one of the recording
abbrev pub fault_at : ℕ → Bool → ℕ → Topology → List Cap → List Request × Request → Option RecordFault
fault_at number completions rounds c caps m =
    if is_done_right completions m.1 then numbered number (request_cause rounds c caps m) else Some (Item E_DONE number)

-- what is wrong with a request, beside those before it: how many these are is its number
unfoldable pub request_fault : Bool → ℕ → Topology → List Cap → List CamxptRequest × CamxptRequest → Option RecordFault
request_fault completions rounds c caps m = fault_at (length m.0) completions rounds c caps (map request_of m.0, request_of m.1)

-- what is wrong first with a cap, or else with a request
unfoldable pub item_fault : Handed → Option RecordFault
item_fault h =
    option_or (first_answer (cap_fault h.rounds h.config) (prefixed h.caps))
    (first_answer (request_fault (any_done h.requests) h.rounds h.config (map cap_of h.caps)) (prefixed h.requests))

-- what is wrong first, in this order: with the unit, the rounds or the number of requests, with the configuration, with a cap,
-- with a request
unfoldable pub record_fault : Handed → Option RecordFault
record_fault h =
    option_or (size_fault h.span h.rounds (length h.requests)) (option_or (rule_fault (config_fault h.config)) (item_fault h))

-- what a call gives: the bytes of its buffer, how many it needs, and the number of what is wrong
pub record Given : Type 0 where
  pub buffer : List ℕ
  pub needed : ℕ
  pub wrong : ℕ

-- the answer is the fault's code; the number of a cap or a request is given, and nothing else
abbrev pub IsReported : Given → Given → ℤ → RecordFault → Type 0
IsReported old new code (Call reported) = (code ≡ reported) × (new ≡ old)
IsReported old new code (Item reported number) = (code ≡ reported) × (new ≡ record old { wrong = number })
IsReported old new code OutOfMemory = (code ≡ E_MEMORY) × (new ≡ old)

-- the text is copied if there is room, and its length is given in any case
abbrev pub IsWritten : List ℕ → Given → Given → ℤ → Type 0
IsWritten text old new code = (new.needed ≡ length text) × (new.wrong ≡ old.wrong) × IsCopy text old.buffer new.buffer code

-- The buffer has the text of the recording, which a reader of recordings takes, or what is wrong first is reported; or there is no
-- memory, and all is as it was.
abbrev pub IsRecordingOf : Handed → Given → Given → ℤ → Type 0
IsRecordingOf h old new code =
    MatchOption (record_fault h)
    (IsRecordingText (recording_text (recorded_of h)) (recorded_of h) × IsWritten (recording_text (recorded_of h)) old new code)
    (IsReported old new code)
    ⊎ IsReported old new code OutOfMemory
