-- The records of a text by their numbers.
use Rattle.std.proofs.Common.{◌≡◌, ◌-◌, ◌+◌, ◌<◌, ℕ, zero, suc, Bool, false, List, [], ◌∷◌, length, refl, sym, ap, ◌∙◌, arith, Some}
use Rattle.std.specs.Prelude.{slice_get}
use Rattle.csv.specs.Machine.{Read, ends_at_end, next_record}
use Rattle.csv.specs.Reading.{default_config, records, records_from, strip_bom}
use Rattle.csv.specs.declared.parser.State.{State}
use Rattle.csv.specs.declared.parser.State.TheVariants as st
use Rattle.record_text.specs.Text.{Row, records_in}
use Rattle.record_text.proofs.RecordLemmas.{first_left, next_shorter}

-- the record of a number is the one with this many before it of those that are left
pub record IsAhead (text : List ℕ) (number left : ℕ) (state : State) (rest : List ℕ) : Type 0 where
  pub idle : ends_at_end state ≡ false
  pub same : slice_get (records_in text) (number - 1) ≡ slice_get (records_from default_config (length rest + 1) state rest) left

pub ahead_first : (text : List ℕ) (number : ℕ) → IsAhead text number (number - 1) st.StartRecord (strip_bom text)
ahead_first text number = record { idle = refl; same = refl }

get_first : (row : Row) (rows : List Row) (left : ℕ) → left ≡ 0 → slice_get (row ∷ rows) left ≡ Some row
get_first row rows left e = rw e refl

get_next : (row : Row) (rows : List Row) (left : ℕ) → 0 < left → slice_get (row ∷ rows) left ≡ slice_get rows (left - 1)
get_next row rows zero lt = absurd (omega (arith, lt))
get_next row rows (suc n) lt = ap (slice_get rows) (less n)
  where
    less : (n : ℕ) → n ≡ suc n - 1
    less n = omega arith

pub ahead_here : (text : List ℕ) (number left : ℕ) (state : State) (rest : List ℕ) (p : Read) → IsAhead text number left state rest
    → next_record default_config state [] [] rest ≡ Some p → left ≡ 0 → slice_get (records_in text) (number - 1) ≡ Some p.0
ahead_here text number left state rest p k e none =
    k.same ∙ ap (λ (rows : List Row). slice_get rows left) (first_left state rest p k.idle e) ∙ get_first p.0 _ left none

pub ahead_more : (text : List ℕ) (number left : ℕ) (state : State) (rest : List ℕ) (p : Read) → IsAhead text number left state rest
    → next_record default_config state [] [] rest ≡ Some p → 0 < left → IsAhead text number (left - 1) p.1 p.2
ahead_more text number left state rest p k e some = record {
  idle = (next_shorter state rest p k.idle e).0;
  same = k.same ∙ ap (λ (rows : List Row). slice_get rows left) (first_left state rest p k.idle e) ∙ get_next p.0 _ left some;
}
