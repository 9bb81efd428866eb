-- places and effects in the words of CSV
use Rattle.csv.specs.declared.parser.Action.{Action}
use Rattle.csv.specs.declared.parser.Action.TheVariants as act
use Rattle.csv.specs.declared.parser.State.{State}
use Rattle.csv.specs.declared.parser.State.TheVariants as st
use Rattle.record_text.specs.declared.effect.Effect.{Effect}
use Rattle.record_text.specs.declared.effect.Effect.TheVariants as effect
use Rattle.record_text.specs.declared.place.Place.{Place}
use Rattle.record_text.specs.declared.place.Place.TheVariants as place

-- the state that a place is
abbrev pub state_of : Place → State
state_of place.RecordStart = st.StartRecord
state_of place.FieldStart = st.StartField
state_of place.Field = st.InField
state_of place.Quoted = st.InQuoted
state_of place.AfterQuote = st.AfterQuote
state_of place.AfterReturn = st.AfterCr

-- what an action ends
abbrev pub effect_of : Action → Effect
effect_of act.Skip = effect.Nothing
effect_of act.Copy = effect.Nothing
effect_of act.EndField = effect.Field
effect_of act.EndRecord = effect.Record
