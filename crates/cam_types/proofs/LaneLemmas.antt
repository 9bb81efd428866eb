-- the adapter of a lane
use Rattle.std.proofs.Common.{◌≡◌, ℕ, zero, suc, ◌<◌, Bool, true, false, cond, List, [], ◌∷◌, ◌++◌, length, get_or, Option, Some, None, refl, sym, ap, slice_get, ◌∙◌, ◌==◌, nat_le, count_by, leb-false, ltb-true}
use Rattle.std.specs.Option.{option_map_or, option_or}
use Rattle.std.proofs.lemmas.Option.{slice_get-get_or}
use Rattle.cam_types.specs.Lists.{prefixed_after, first_answer}
use Rattle.cam_types.specs.Questions.{names_lane, lane_adapter}
use Rattle.cam_types.specs.Topology.{Topology, IsConfig, lane_fault, TooMany, NoAdapter, MAX_LANES}
use Rattle.cam_types.proofs.ConfigLemmas.{lane_items}

pub lane_named : (c : Topology) (lane : ℕ) → names_lane c lane ≡ true → slice_get c.lanes lane ≡ Some (lane_adapter c lane)
lane_named c lane there =
    let e : slice_get c.lanes lane ≡ Some (get_or c.lanes lane 0) = slice_get-get_or c.lanes lane 0 (ltb-true lane (length c.lanes) there) in
    e ∙ ap Some (sym (ap (λ o. option_map_or (λ a. a) o 0) e))

-- a lane without fault is on one of the adapters
or_none : {F : Type 0} → (o p : Option F) → option_or o p ≡ None → (o ≡ None) × (p ≡ None)
or_none None p h = (refl, h)
or_none (Some f) p h = absurd (cc)

fault_cases : (full past : Bool) → cond full (Some TooMany) (cond past (Some NoAdapter) None) ≡ None → past ≡ false
fault_cases false false h = refl
fault_cases _ _ h = absurd (cc)

without_fault : (n : ℕ) (earlier : List ℕ) (a : ℕ) → lane_fault n (earlier, a) ≡ None → a < n
unfolding lane_fault
without_fault n earlier a h = leb-false n a (fault_cases (nat_le MAX_LANES (count_by (λ x. x == a) earlier)) (nat_le n a) h)

lanes_within : (n : ℕ) (earlier rest : List ℕ) (lane a : ℕ) → first_answer (lane_fault n) (prefixed_after earlier rest) ≡ None → slice_get rest lane ≡ Some a → a < n
lanes_within n earlier [] lane a free is = absurd (cc)
lanes_within n earlier (x ∷ xs) zero a free is =
    let same : x ≡ a = cc in
    rw (← same) (without_fault n earlier x (or_none (lane_fault n (earlier, x)) _ free).0)
lanes_within n earlier (x ∷ xs) (suc lane) a free is = lanes_within n (earlier ++ x ∷ []) xs lane a (or_none (lane_fault n (earlier, x)) _ free).1 is

pub lane_within : (c : Topology) (lane a : ℕ) → IsConfig c → slice_get c.lanes lane ≡ Some a → a < length c.adapters
lane_within c lane a is at = lanes_within (length c.adapters) [] c.lanes lane a (lane_items c is) at

pub lane_adapter_within : (c : Topology) (lane : ℕ) → IsConfig c → names_lane c lane ≡ true → lane_adapter c lane < length c.adapters
lane_adapter_within c lane is there = lane_within c lane (lane_adapter c lane) is (lane_named c lane there)

pub named_lane_within : (c : Topology) (lane a : ℕ) → IsConfig c → a ≡ lane_adapter c lane → names_lane c lane ≡ true → a < length c.adapters
named_lane_within c lane a is at there = rw at (lane_adapter_within c lane is there)
