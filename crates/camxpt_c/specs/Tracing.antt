-- what is written of a trace
use Rattle.std.specs.Prelude.{ℕ, ℤ, List, ◌≡◌, ◌⊎◌, ◌++◌, ◌<◌, ◌≤◌, length, drop}
use Rattle.event_rules.specs.Past.{Past}
use Rattle.trace_file.specs.Writing.{trace_text}
use Rattle.camxpt_c.specs.declared.codes.TheConstants.{OK, E_MEMORY, E_SPACE}

-- The text stands at the start of the buffer, whose rest is as it was; or it is longer than the buffer, which is as it was.
abbrev pub IsCopy : List ℕ → List ℕ → List ℕ → ℤ → Type 0
IsCopy text old new code =
    ((code ≡ OK) × (length text ≤ length old) × (new ≡ text ++ drop (length text) old))
    ⊎ ((code ≡ E_SPACE) × (length old < length text) × (new ≡ old))

-- The buffer has the trace of the events and `needed` its length; or there is no memory, and both are as they were.
abbrev pub IsTraceOf : Past → List ℕ → ℕ → List ℕ → ℕ → ℤ → Type 0
IsTraceOf past old needed_old new needed code =
    ((needed ≡ length (trace_text past)) × IsCopy (trace_text past) old new code)
    ⊎ ((code ≡ E_MEMORY) × (needed ≡ needed_old) × (new ≡ old))
