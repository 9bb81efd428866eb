-- attempts, and the places of those that haven't ended
use Rattle.std.specs.Prelude.{◌≡◌, Bool, false, List, Option, Some, None}
use Rattle.std.specs.BTreeSet.{BTreeSet, contains}
use Rattle.capture_file.specs.declared.attempt.Attempt.{Attempt}
use Rattle.capture_file.specs.declared.spot.Spot.{Spot}
use Rattle.capture_file.specs.Attempts.{IsRising, with_id}
use Rattle.capture_file.specs.Spots.{spot_cmp, spot_of, is_at_spot}

abbrev pub is_of : Option Attempt → Spot → Bool
is_of None q = false
is_of (Some a) q = is_at_spot (spot_of a) q

-- a spot is listed exactly if the attempt with its id is there
pub record IsTied (all : List Attempt) (listed : Spot → Bool) : Type 0 where
  pub each : (q : Spot) → listed q ≡ is_of (with_id q.id all) q

pub record IsTable (all : List Attempt) (spots : BTreeSet Spot) : Type 0 where
  pub rising : IsRising all
  pub tied : IsTied all (contains spot_cmp spots)
