-- a text that ends in a record of too many fields
use Rattle.std.specs.Prelude.{◌≡◌, ◌<◌, ◌+◌, ℕ, List, fold}
use Rattle.csv.specs.Machine.{step}
use Rattle.csv.specs.Reading.{default_config}
use Rattle.csv.specs.declared.parser.Action.{Action}
use Rattle.csv.specs.declared.parser.Action.TheVariants as act
use Rattle.csv.specs.declared.parser.State.{State}
use Rattle.csv.specs.declared.parser.State.TheVariants as st
use Rattle.record_text.specs.Front.{max_fields}

-- how many fields of the record at hand have ended after an action, of those before it
abbrev pub count_after : Action → ℕ → ℕ
count_after act.EndField n = n + 1
count_after act.EndRecord n = 0
count_after act.Skip n = n
count_after act.Copy n = n

-- the state, and how many fields of the record at hand have ended, after a byte
abbrev pub next : State × ℕ → ℕ → State × ℕ
next (s, n) c = ((step default_config s c).0, count_after (step default_config s c).1 n)

-- read from the start of a record on, the bytes end with a field that has too many before it
pub record CutsOff (bytes : List ℕ) : Type 0 where
  pub fields : ℕ
  pub ends : fold next (st.StartRecord, 0) bytes ≡ (st.StartField, fields)
  pub many : max_fields < fields
