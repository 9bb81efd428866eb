use Rattle.std.proofs.Common.{◌≡◌, ◌≤◌, fold, take}
use Rattle.csv.specs.declared.parser.State.TheVariants as st
use Rattle.record_text.specs.Cuts.{next}
use Rattle.record_text.specs.Front.{max_fields}
use Rattle.record_text.specs.Places.{state_of}
use Rattle.record_text.proofs.text_front.ninth_field.Given as goal

abbrev pub invariant-loop-at : goal.invariant-loop-at
invariant-loop-at l = (fold next (st.StartRecord, 0) (take l.at l.text) ≡ (state_of l.place, l.fields)) × (l.fields ≤ max_fields) × (l.fields ≤ l.at)
