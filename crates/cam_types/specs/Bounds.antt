use Rattle.std.specs.Prelude.{ℕ, ◌≤◌, Bool, nat_le, ◌&&◌}
use Rattle.cam_types.specs.Topology.{MAX_CCBS, MAX_ROUNDS, MAX_STAYS, MAX_EVENTS}

-- how many CCBs may be alive at once, and how many rounds, stays and events there may be
pub record Bounds : Type 0 where
  pub ccbs : ℕ
  pub rounds : ℕ
  pub stays : ℕ
  pub events : ℕ

-- the largest that there are
abbrev pub max_bounds : Bounds
max_bounds = record { ccbs = MAX_CCBS; rounds = MAX_ROUNDS; stays = MAX_STAYS; events = MAX_EVENTS }

abbrev pub is_limit : ℕ → ℕ → Bool
is_limit limit most = nat_le 1 limit && nat_le limit most

abbrev pub are_within : Bounds → Bool
are_within b =
    is_limit b.ccbs MAX_CCBS && is_limit b.rounds MAX_ROUNDS && is_limit b.stays MAX_STAYS && is_limit b.events MAX_EVENTS

-- each is at least 1 and at most the most
pub record IsWithin (b : Bounds) : Type 0 where
  pub some_ccb : 1 ≤ b.ccbs
  pub ccbs : b.ccbs ≤ MAX_CCBS
  pub some_round : 1 ≤ b.rounds
  pub rounds : b.rounds ≤ MAX_ROUNDS
  pub some_stay : 1 ≤ b.stays
  pub stays : b.stays ≤ MAX_STAYS
  pub some_event : 1 ≤ b.events
  pub events : b.events ≤ MAX_EVENTS
