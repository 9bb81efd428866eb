-- the windows that are made of what was noted
use Rattle.std.specs.Prelude.{◌≡◌, ◌⊎◌, map, None, MatchOption}
use Rattle.capture_windows.specs.Attempts.{requests_in, waiting_at}
use Rattle.recorder.specs.Notes.{Noted, attempt_of}
use Rattle.recorder.specs.NoteWindows.{after_window}
use Rattle.window_recordings.specs.Recordings.{IsMadeOf}
use Rattle.window_recordings.specs.declared.cut_window.Cut.{Cut}
use Rattle.recorder.specs.Recorder.{Recorded}

-- a window is cut off what was noted: it takes what was started in it and what waits at its end, and just those notes stay that go on
pub record IsCutOff (old : Noted) (cut : Cut) (new : Noted) : Type 0 where
  pub requests : cut.window.taken.requests.items ≡ requests_in cut.window.span (map attempt_of old.notes)
  pub waiting : cut.window.taken.waiting.items ≡ waiting_at cut.window.span.until (map attempt_of old.notes)
  pub rest : new ≡ after_window cut.window.span old

-- the next cut: the one that waits for its recording; if there is none, a window is cut off
abbrev pub IsNextCut : Recorded → Cut → Noted → Type 0
IsNextCut old cut noted = MatchOption old.cut (IsCutOff old.noted cut noted) (λ waits. (cut ≡ waits) × (noted ≡ old.noted))

-- What becomes of a cut: there is the window that is made of it, or it waits again, or it is lost, which is so only if something else holds.
abbrev pub IsKept : Type 0 → Cut → Recorded → Type 0
IsKept Lost cut new = MatchOption new.window (MatchOption new.cut Lost (λ waits. waits ≡ cut)) (λ w. (new.cut ≡ None) × IsMadeOf None cut w)

-- one more window: nothing else changes
pub record IsOneMore (Lost : Type 0) (old new : Recorded) : Type 0 where
  pub cut : Cut
  pub next : IsNextCut old cut new.noted
  pub kept : IsKept Lost cut new
  pub rest : new ≡ record old { noted = new.noted; cut = new.cut; window = new.window }

-- a window that waits to be taken stays; if there is none, the next one is made, or nothing changes
abbrev pub IsMaking : Type 0 → Recorded → Recorded → Type 0
IsMaking Lost old new = MatchOption old.window ((new ≡ old) ⊎ IsOneMore Lost old new) (λ _. new ≡ old)
