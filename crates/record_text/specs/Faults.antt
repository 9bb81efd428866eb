-- The first record that a parser refuses.
use Rattle.std.specs.Prelude.{◌≡◌, ℕ, ◌+◌, ◌++◌, ◌∷◌, [], List, length, Result, Ok, Err}
use Rattle.record_text.specs.Steps.{◌>>=◌, taken}
use Rattle.record_text.specs.Text.{Row}

-- a parser fails at the next record, or at the end if there is none
abbrev pub FailsAt : {S V E : Type 0} → (ℕ → S → Row → Result S E) → (S → Result V E) → ℕ → S → List Row → E → Type 0
FailsAt next end n s [] e = end s ≡ Err e
FailsAt next end n s (row ∷ rest) e = next n s row ≡ Err e

-- where records are parsed from this state on, the first that fails, after those that don't, has this fault
pub record IsFirstFault {S V E : Type 0} (next : ℕ → S → Row → Result S E) (end : S → Result V E) (first : S) (rows : List Row) (e : E) : Type 0 where
  pub exact : (taken next 1 first rows >>= end) ≡ Err e
  pub before : List Row
  pub rest : List Row
  pub reached : S
  pub parts : rows ≡ before ++ rest
  pub good : taken next 1 first before ≡ Ok reached
  pub fails : FailsAt next end (1 + length before) reached rest e
