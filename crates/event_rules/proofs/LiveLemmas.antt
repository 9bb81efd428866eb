-- the live cost, by whether a stay is without a send
use Rattle.std.proofs.Common.{◌≡◌, Bool, true, false, cond, List, [], ◌∷◌, refl, sym, Some, None, find, sum_by, is_some, ◌||◌, option_map}
use Rattle.std.specs.List.{list_any}
use Rattle.cam_types.specs.Topology.{Topology}
use Rattle.event_rules.specs.Stays.{stays_begun, is_unsent, name_of, unsent}
use Rattle.event_rules.specs.Live.{live_part, live_cost}
use Rattle.event_rules.specs.Event.{Event}

some_cases : {X Y : Type 0} → (f : X → Y) (p : X → Bool) (t : Bool) (x : X) (xs : List X) → is_some (option_map f (find p xs)) ≡ list_any p xs → is_some (option_map f (cond t (Some x) (find p xs))) ≡ (t || list_any p xs)
some_cases f p true x xs e = refl
some_cases f p false x xs e = e

is_some-find : {X Y : Type 0} → (f : X → Y) (p : X → Bool) (xs : List X) → is_some (option_map f (find p xs)) ≡ list_any p xs
is_some-find f p [] = refl
is_some-find f p (x ∷ xs) = some_cases f p (p x) x xs (is_some-find f p xs)

pub any_unsent : (es : List Event) → list_any (is_unsent es) (stays_begun es) ≡ is_some (unsent es)
unfolding unsent
any_unsent es = sym (is_some-find name_of (is_unsent es) (stays_begun es))

pub live_cost_unsent : (c : Topology) (es : List Event) → is_some (unsent es) ≡ true → live_cost c es ≡ None
unfolding live_cost
live_cost_unsent c es e = rw (any_unsent es, e) refl

pub live_cost_sent : (c : Topology) (es : List Event) → is_some (unsent es) ≡ false → live_cost c es ≡ Some (sum_by (live_part c es) (stays_begun es))
unfolding live_cost
live_cost_sent c es e = rw (any_unsent es, e) refl
