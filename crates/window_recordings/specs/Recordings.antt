-- the recording of a window
use Rattle.std.specs.Prelude.{◌≡◌, ℕ, ◌+◌, max, min, All, List, ◌++◌, map, length, Option, None, Some, MatchOption}
use Rattle.capture.specs.Rounds.{Rounded, rounds_from}
use Rattle.capture.specs.declared.timed_request.TimedRequest.{TimedRequest}
use Rattle.capture_windows.specs.Attempts.{before}
use Rattle.capture_windows.specs.declared.windows.TheConstants.{MAX_WINDOW_ROUNDS}
use Rattle.recording_file.specs.Recorded.{Recorded}
use Rattle.recording_file.specs.declared.span.Span.{Span}
use Rattle.window_recordings.specs.Windows.{first_window}
use Rattle.window_recordings.specs.declared.cut_window.Cut.{Cut}
use Rattle.window_recordings.specs.declared.cut_window.CutWindow.{CutWindow}

-- a request's next attempt, if it arrives before the end of what is taken
abbrev pub retried_before : Option ℕ → Option ℕ → Option ℕ
retried_before None retried = retried
retried_before (Some end) retried = before end retried

abbrev pub taken_before : Option ℕ → TimedRequest → TimedRequest
taken_before end q = record q { retried = retried_before end q.retried }

-- a request but for the numbers of its device and driver, which a window numbers anew
abbrev pub unnumbered : TimedRequest → TimedRequest
unnumbered q = record q { device = 0; driver = 0 }

-- the requests of a window, and behind them some that wait at its end, as if they were started then
pub record AreParts (end : Option ℕ) (until : ℕ) (requests parts : List TimedRequest) : Type 0 where
  pub own : List TimedRequest
  pub waiting : List TimedRequest
  pub are : parts ≡ own ++ waiting
  pub times : map unnumbered own ≡ map unnumbered (map (taken_before end) requests)
  pub late : All (λ (q : TimedRequest). q.started ≡ Some until) waiting

-- a recording has the requests of a capture in rounds
pub record HasRounds (c : Rounded) (r : Recorded) : Type 0 where
  pub unit : r.unit ≡ Some c.unit
  pub rounds : r.rounds ≡ c.rounds
  pub requests : r.requests ≡ c.requests

-- how many rounds a window has, and how long one is: at least one, and not too many
abbrev pub few : ℕ → ℕ
few count = min (max count 1) MAX_WINDOW_ROUNDS

abbrev pub some_round : Span → Span
some_round round = record round { count = max round.count 1 }

-- a capture of the window in its rounds, with one more for those that go on waiting
abbrev pub capture_of : Cut → List TimedRequest → Rounded
capture_of cut parts = rounds_from (some_round cut.round) cut.window.rounds.begin (few cut.window.rounds.count + 1) parts

-- what a capture makes of a window's requests, with one round more
pub record IsWholeOf (end : Option ℕ) (cut : Cut) (r : Recorded) : Type 0 where
  pub parts : List TimedRequest
  pub are : AreParts end cut.window.span.until cut.window.taken.requests.items parts
  pub rounds : HasRounds (capture_of cut parts) r

-- the recording of a window is that, up to its last round
pub record IsRecordingOf (end : Option ℕ) (cut : Cut) (r : Recorded) : Type 0 where
  pub whole : Recorded
  pub captured : IsWholeOf end cut whole
  pub is : r ≡ first_window (few cut.window.rounds.count) whole

-- what there is to say of a window
pub record IsMadeOf (end : Option ℕ) (cut : Cut) (w : CutWindow) : Type 0 where
  pub number : w.number ≡ cut.number
  pub from : w.from ≡ cut.window.rounds.begin
  pub until : w.until ≡ cut.window.span.until
  pub round : w.round ≡ cut.round
  pub rounds : w.rounds ≡ cut.window.rounds.count
  pub requests : w.requests ≡ length cut.window.taken.requests.items
  pub recording : MatchOption w.recording (w.requests ≡ 0) (IsRecordingOf end cut)
