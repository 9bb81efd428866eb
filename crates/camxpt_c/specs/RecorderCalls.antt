-- what the calls of a recorder do: what the handle has before and after, and the number that they answer
use Rattle.std.specs.Prelude.{ℕ, ℤ, Option, None, Some, MatchOption, ◌≡◌, ◌⊎◌, ◌==◌, ◌||◌, nat_lt, if◌then◌else◌}
use Rattle.recorder.specs.Windows.{IsMaking}
use Rattle.camxpt_c.specs.Keeping.{Keeping, IsTextOf, fresh_keeping, said}
use Rattle.camxpt_c.specs.declared.codes.TheConstants.{OK, NONE, E_CLOSED, E_OPEN, E_MEMORY, E_LIMIT, E_UNIT, E_WINDOW}
use Rattle.camxpt_c.specs.declared.record_shapes.CamxptSpan.{CamxptSpan}
use Rattle.camxpt_c.specs.declared.record_shapes.CamxptWindow.{CamxptWindow}
use Rattle.camxpt_c.specs.declared.record_shapes.TheConstants.{SECONDS}
use Rattle.camxpt_c.specs.declared.recorder_calls.TheConstants.{MAX_ROOM, BEFORE, LAST_START}
use Rattle.window_recordings.specs.declared.cut_window.Ending.{Ending}
use Rattle.window_recordings.specs.declared.cut_window.Ending.TheVariants as ending

-- why no recorder is opened
unfoldable pub recorder_opening_fault : CamxptSpan → ℕ → ℕ → Option ℤ
recorder_opening_fault span window room =
    if (window == 0) || (room == 0) || nat_lt MAX_ROOM room then Some E_LIMIT
    else if nat_lt SECONDS span.unit then Some E_UNIT
    else None

-- An open handle stays as it is. A closed one is opened, with nothing noted, or isn't for this fault or for want of memory.
abbrev pub IsRecorderOpening : ℕ → Option ℤ → Option Keeping → Option Keeping → ℤ → Type 0
IsRecorderOpening room fault old new code =
    MatchOption old
    (MatchOption fault (((code ≡ OK) × (new ≡ Some (fresh_keeping room))) ⊎ ((code ≡ E_MEMORY) × (new ≡ None))) (λ why. (code ≡ why) × (new ≡ None)))
    (λ k. (code ≡ E_OPEN) × (new ≡ Some k))

-- A closed handle stays closed. An open one stays open, and its recorder does something.
abbrev pub IsRecorderCall : (Keeping → Keeping → ℤ → Type 0) → Option Keeping → Option Keeping → ℤ → Type 0
IsRecorderCall Does old new code =
    MatchOption old ((code ≡ E_CLOSED) × (new ≡ None)) (λ k. MatchOption new ⊥ (λ m. Does k m code))

-- Bytes that wait to be written stay, and nothing changes. If there are none, the next window is made, which is lost only at E_WINDOW, and
-- the bytes of its recording. What there is then is said; if there is nothing, nothing is given.
abbrev pub IsMade : CamxptWindow → CamxptWindow → Keeping → Keeping → ℤ → Type 0
IsMade before after old new code =
    MatchOption old.text (IsMaking (code ≡ E_WINDOW) old.recorded new.recorded) (λ _. new ≡ old)
    × MatchOption new.text
    (((code ≡ NONE) ⊎ (code ≡ E_MEMORY) ⊎ (code ≡ E_WINDOW)) × (after ≡ before))
    (λ text. (code ≡ OK) × MatchOption new.recorded.window ⊥ (λ w. IsTextOf w text × (after ≡ said w text)))

-- a window that waits is due, and so are bytes that wait
abbrev pub IsDueAnswer : Keeping → Keeping → ℤ → Type 0
IsDueAnswer old new code = ((code ≡ OK) ⊎ ((code ≡ NONE) × (old.text ≡ None) × (old.recorded.window ≡ None) × (old.recorded.cut ≡ None))) × (new ≡ old)

-- how a window ends, by its number
abbrev pub ending_of : ℕ → Ending
ending_of n = if n == BEFORE then ending.Before 0 else if n == LAST_START then ending.LastStart else ending.Whole
