-- where the notes are
use Rattle.std.specs.Prelude.{◌≡◌, ℕ, ◌≤◌, true, List, [], ◌∷◌, length, slice_get, slice_set, Some}
use Rattle.capture_windows.specs.declared.attempt.Attempt.{Attempt}
use Rattle.recorder.specs.Ids.{IdList}
use Rattle.recorder.specs.Notes.{AreApart, Note, change, is_open, open_request}

-- each id with its attempt
abbrev pub notes_of : List ℕ → List Attempt → List Note
notes_of [] attempts = []
notes_of (id ∷ ids) [] = []
notes_of (id ∷ ids) (a ∷ attempts) = record { id = id; attempt = a } ∷ notes_of ids attempts

-- the fields of `Notes`
pub record AreNotes (ids : IdList) (attempts : List Attempt) (capacity : ℕ) : Type 0 where
  pub size : length attempts ≡ length ids.ids
  pub within : length ids.ids ≤ ids.room
  pub room : ids.room ≤ capacity
  pub apart : AreApart (notes_of ids.ids attempts)

-- the open request of an id is at a place
pub record IsOpenAt (id : ℕ) (notes : List Note) (place : ℕ) (a : Attempt) : Type 0 where
  pub at : slice_get notes place ≡ Some (record { id = id; attempt = a })
  pub going : is_open a ≡ true
  pub found : open_request id notes ≡ Some a
  pub changed : (f : Attempt → Attempt) → change id f notes ≡ slice_set notes place (record { id = id; attempt = f a })
