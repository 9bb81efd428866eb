-- what a recorder's handle keeps
use Rattle.std.specs.Prelude.{ℕ, ◌+◌, ℤ, List, [], IfSome, Option, None, Some, MatchOption, ◌≡◌, ◌⊎◌, ◌++◌, Bool, true, false, min, length, take, drop}
use Rattle.recording_file.specs.Recordings.{IsRecordingText}
use Rattle.recording_file.specs.Writing.{recording_text}
use Rattle.window_recordings.specs.declared.cut_window.CutWindow.{CutWindow}
use Rattle.recorder.specs.Recorder.{Recorded, nothing_noted}
use Rattle.recorder.specs.Notes.{arrived, change, done_at, started_at, withdrawn, with_arrival, with_change}
use Rattle.recorder.specs.declared.note_fault.NoteFault.{NoteFault}
use Rattle.camxpt_c.specs.Codes.{note_code}
use Rattle.camxpt_c.specs.declared.record_shapes.CamxptWindow.{CamxptWindow}
use Rattle.camxpt_c.specs.declared.codes.TheConstants.{OK, NONE, E_MEMORY, E_LIMIT}

-- what is recorded, and the bytes of a window's recording until they are written
pub record Keeping : Type 0 where
  pub recorded : Recorded
  pub text : Option (List ℕ)

-- the bytes are those of a window's recording, which a reader of recordings takes; there are none if nothing was started in it
abbrev pub IsTextOf : CutWindow → List ℕ → Type 0
IsTextOf w text = MatchOption w.recording (text ≡ []) (λ r. (text ≡ recording_text r) × IsRecordingText (recording_text r) r)

-- bytes that wait are those of the window that was made
abbrev pub IsKeeping : Keeping → Type 0
IsKeeping k = IfSome k.text (λ text. MatchOption k.recorded.window ⊥ (λ w. IsTextOf w text))

-- nothing is noted yet
abbrev pub fresh_keeping : ℕ → Keeping
fresh_keeping room = record { recorded = nothing_noted room; text = None }

-- the window and its bytes were let go of
abbrev pub written : Keeping → Keeping
written k = record { recorded = record k.recorded { window = None }; text = None }

-- what is said of a window with these bytes
abbrev pub said : CutWindow → List ℕ → CamxptWindow
said w text = record {
  number = w.number;
  from_ns = w.from;
  until_ns = w.until;
  requests = w.requests;
  carried = w.carried;
  rounds = w.rounds;
  size = length text;
  offset = 0;
}

-- ---- what the calls make of it

abbrev pub with_recorded : Recorded → Keeping → Keeping
with_recorded r k = record k { recorded = r }

abbrev pub one_device_more : Keeping → Keeping
one_device_more k = record k { recorded = record k.recorded { devices = k.recorded.devices + 1 } }

abbrev pub one_driver_more : Keeping → Keeping
one_driver_more k = record k { recorded = record k.recorded { drivers = k.recorded.drivers + 1 } }

abbrev pub arrival_noted : ℕ → ℕ → ℕ → ℕ → ℕ → Recorded → Recorded
arrival_noted id device driver priority time r = record r { noted = with_arrival id (arrived device driver priority time) r.noted }

abbrev pub start_noted : ℕ → ℕ → Recorded → Recorded
start_noted id time r = record r { noted = with_change id (started_at time) time r.noted }

abbrev pub done_noted : ℕ → ℕ → Recorded → Recorded
done_noted id time r = record r { noted = with_change id (done_at time) time r.noted }

abbrev pub cancel_noted : ℕ → Recorded → Recorded
cancel_noted id r = record r { noted = record r.noted { notes = change id withdrawn r.noted.notes } }

-- ---- what they answer

abbrev pub answer : Option NoteFault → ℤ
answer None = OK
answer (Some why) = note_code why

-- The note is taken, and nothing else changes; or it isn't, for this fault, whose number is the answer, and nothing changes.
unfoldable pub IsNoted : Option NoteFault → Recorded → Keeping → Keeping → ℤ → Type 0
IsNoted fault after old new code = (code ≡ answer fault) × MatchOption fault (new ≡ with_recorded after old) (λ _. new ≡ old)

-- Where there is room for one more, it is added, or there is no memory and nothing changes.
abbrev pub IsAdded : Bool → Keeping → Keeping → Keeping → ℤ → Type 0
IsAdded room after old new code =
    ((code ≡ OK) × (room ≡ true) × (new ≡ after)) ⊎ ((code ≡ E_LIMIT) × (room ≡ false) × (new ≡ old)) ⊎ ((code ≡ E_MEMORY) × (new ≡ old))

-- The bytes of the text from an offset on stand at the start of the buffer, as many as there are and there is room for; or there is no text.
abbrev pub IsRead : Option (List ℕ) → ℕ → List ℕ → ℕ → List ℕ → ℕ → ℤ → Type 0
IsRead text offset old copied_old new copied code =
    MatchOption text
    ((code ≡ NONE) × (new ≡ old) × (copied ≡ copied_old))
    (λ bytes. (code ≡ OK) × (copied ≡ min (length (drop offset bytes)) (length old)) × (new ≡ take copied (drop offset bytes) ++ drop copied old))
