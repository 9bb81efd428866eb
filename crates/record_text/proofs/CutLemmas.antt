-- The fields of the record at hand are counted byte by byte.
use Rattle.std.proofs.Common.{◌≡◌, ◌<◌, ◌≤◌, ◌+◌, ℕ, List, take, fold, length, get_or, refl, sym, ◌∙◌, arith}
use Rattle.std.proofs.lemmas.Bool.Decides.{nat_tests}
use Rattle.std.proofs.lemmas.List.Sums.{fold_more}
use Rattle.csv.specs.Machine.{step}
use Rattle.csv.specs.Reading.{default_config}
use Rattle.csv.specs.declared.parser.State.{State}
use Rattle.csv.specs.declared.parser.State.TheVariants as st
use Rattle.csv.specs.declared.parser.Action.{Action}
use Rattle.csv.specs.declared.parser.Action.TheVariants as act
use Rattle.record_text.specs.Cuts.{CutsOff, count_after, next}
use Rattle.record_text.specs.Front.{max_fields}
use Rattle.record_text.specs.Places.{effect_of}
use Rattle.record_text.specs.declared.effect.Effect.TheVariants as effect

pub count_nothing : (a : Action) (n : ℕ) → effect_of a ≡ effect.Nothing → count_after a n ≡ n
count_nothing act.Skip n e = refl
count_nothing act.Copy n e = refl
count_nothing _ n e = absurd cc

pub count_field : (a : Action) (n : ℕ) → effect_of a ≡ effect.Field → count_after a n ≡ n + 1
count_field act.EndField n e = refl
count_field _ n e = absurd cc

pub count_record : (a : Action) (n : ℕ) → effect_of a ≡ effect.Record → count_after a n ≡ 0
count_record act.EndRecord n e = refl
count_record _ n e = absurd cc

-- where a field ends that isn't its record's last, the next one starts
abbrev Starts : State × Action → Type 0
Starts x = effect_of x.1 ≡ effect.Field → x.0 ≡ st.StartField

starts : (s : State) (c : ℕ) → Starts (step default_config s c)
starts st.StartRecord c e = grind (arith, nat_tests)
starts st.AfterCr c e = grind (arith, nat_tests)
starts _ c e = grind (arith, nat_tests)

-- one byte more
pub read_more : (text : List ℕ) (i : ℕ) (s t : State) (n m : ℕ) → i < length text → fold next (st.StartRecord, 0) (take i text) ≡ (s, n)
    → t ≡ (step default_config s (get_or text i 0)).0 → count_after (step default_config s (get_or text i 0)).1 n ≡ m
    → fold next (st.StartRecord, 0) (take (i + 1) text) ≡ (t, m)
read_more text i s t n m lt before to count = fold_more next (st.StartRecord, 0) text i 0 lt ∙ rw (before, to, count) refl

pub cuts : (text : List ℕ) (i : ℕ) (s : State) (n : ℕ) → i < length text → fold next (st.StartRecord, 0) (take i text) ≡ (s, n)
    → effect_of (step default_config s (get_or text i 0)).1 ≡ effect.Field → max_fields ≤ n → CutsOff (take (i + 1) text)
cuts text i s n lt before ends many = record {
  fields = n + 1;
  ends = read_more text i s st.StartField n (n + 1) lt before (sym (starts s (get_or text i 0) ends)) (count_field (step default_config s (get_or text i 0)).1 n ends);
  many = omega (arith, many);
}
