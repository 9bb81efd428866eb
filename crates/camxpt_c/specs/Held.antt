-- what a pointer owns that may be null
use Rattle.std.specs.Prelude.{Option, None, Some}
use mir.Syntax.{Ty}
use base.Fml.{Fml, ftrue}
use denote.RattleType.{RattleType}
use denote.RawPtr.{Ptr}
use Rattle.std.specs.Box.Ownership.{box_owns}

-- the box at the pointer, with its value, if there is one
abbrev pub held : (Ty → Ptr → Fml) → (R : RattleType) → Ptr → Option R.Denot → Fml
held token R at (Some value) = box_owns token R at value
held token R at None = ftrue
