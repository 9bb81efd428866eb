-- a map whose keys are the ids of the attempts
use Rattle.std.specs.Prelude.{◌≡◌, ℕ, List, [], ◌∷◌}
use Rattle.std.specs.Ordering.{nat_cmp}
use Rattle.std.specs.BTreeMap.{BTreeMap, IsOrdered}
use Rattle.capture_file.specs.declared.attempt.Attempt.{Attempt}

abbrev pub AreIds : List (ℕ × Attempt) → Type 0
AreIds [] = Unit {0}
AreIds (e ∷ es) = (e.1.id ≡ e.0) × AreIds es

pub record IsById (m : BTreeMap ℕ Attempt) : Type 0 where
  pub ids : AreIds m.entries
  pub ordered : IsOrdered nat_cmp m
