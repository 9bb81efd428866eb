-- what is kept after a window
use Rattle.std.specs.Prelude.{ℕ, ◌&&◌, Bool, List, map, filter}
use Rattle.capture_windows.specs.declared.attempt.Attempt.{Attempt}
use Rattle.capture_windows.specs.declared.time_span.TimeSpan.{TimeSpan}
use Rattle.capture_windows.specs.Attempts.{goes_on}
use Rattle.capture_windows.specs.Devices.{numbered_in}
use Rattle.recorder.specs.Notes.{Note, Noted, attempt_of}
use Rattle.recorder.specs.Places.{notes_of}

-- it wasn't withdrawn
abbrev pub is_kept : Attempt → Bool
is_kept a = a.is_taken

-- it goes on, and wasn't withdrawn
abbrev pub stays : TimeSpan → Attempt → Bool
stays span a = is_kept a && goes_on span a

abbrev pub note_stays : TimeSpan → Note → Bool
note_stays span n = stays span n.attempt

-- with the number that it has at the window's end
abbrev pub numbered_note : TimeSpan → List Attempt → Note → Note
numbered_note span attempts n = record n { attempt = numbered_in span attempts n.attempt }

-- those that stay, each with its id
abbrev pub staying : TimeSpan → List Note → List Note
staying span notes = map (numbered_note span (map attempt_of notes)) (filter (note_stays span) notes)

-- the notes after a window
abbrev pub after_window : TimeSpan → Noted → Noted
after_window span n = record n { notes = staying span n.notes }

-- the ids of those that stay
abbrev pub id_of : Note → ℕ
id_of n = n.id

abbrev pub staying_ids : TimeSpan → List ℕ → List Attempt → List ℕ
staying_ids span ids attempts = map id_of (filter (note_stays span) (notes_of ids attempts))
