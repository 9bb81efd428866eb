-- a changed net takes no less than the net, and no more than a net may
use Rattle.std.proofs.Common.{◌≡◌, ℕ, ◌+◌, ◌<◌, ◌≤◌, true, false, cond, List, [], ◌∷◌, get_or, refl, ap, inl, inr, arith, All, max, min, ◌==◌, slice_index, slice_get, le-leb}
use Rattle.std.specs.Option.{option_map_or}
use Rattle.std.proofs.lemmas.Option.{slice_get_cases, slice_get-get_or}
use Rattle.std.proofs.lemmas.List.Elements.{All-head, All-tail, All-filter, All-weaker}
use Rattle.cam_types.specs.Topology.{Topology, IsConfig}
use Rattle.cam_types.specs.declared.limits.TheConstants.{MAX_OPENINGS}
use Rattle.cam_types.specs.declared.adapter.Adapter as adapter
use Rattle.cam_types.specs.declared.device.Device as device
use Rattle.cam_types.proofs.ConfigLemmas.{small_links, small_adapters, small_devices}
use Rattle.round_net.specs.Instance.{Instance, rows}
use Rattle.round_net.specs.Nets.{table}
use Rattle.round_net.specs.Pace.{with_caps}
use Rattle.round_net.specs.Rows.{NetRows, cell, instance_of_rows, live_of_rows}
use Rattle.round_net.specs.Schedules.{IsAdmissible, load, cost}
use Rattle.round_net.specs.Sound.{IsSound, longest_path}
use Rattle.round_net.specs.declared.limits.TheConstants.{MAX_CAP}
use Rattle.round_net.proofs.FilledLemmas.{small_at}
use Rattle.round_net.proofs.TableLemmas.{cell-table, All-table}
use Rattle.what_if.specs.Changes.{Change, Widening, More, Times, AtLeast, NeverStopped, Resource, Device, Adapter, Link, widened, HasNumber, openings_of, IsChangeOf, row_of}
use Rattle.what_if.specs.Below.{is_below, rows_below, is_enough, never_limits, together, carried}
use Rattle.what_if.specs.Caps.{changes_of, widest, changed_cap, changed_net}
use Rattle.what_if.proofs.BelowLemmas.{rows_below-within, together-same, all_rounds, carried-below}
use Rattle.what_if.proofs.CapLemmas.{cap_by_carried}

-- ---- how many openings there are

by_number : {X : Type 0} (part : X → ℕ) (xs : List X) (i : ℕ) → All (λ x. part x ≤ MAX_OPENINGS) xs → option_map_or part (slice_get xs i) 0 ≤ MAX_OPENINGS
by_number part xs i small = elim (slice_get_cases xs i).1 [
  | inl w ↦
      let there : option_map_or part (slice_get xs i) 0 ≡ part (get_or xs i w.0) = ap (λ o. option_map_or part o 0) (slice_get-get_or xs i w.0 w.1) in
      omega (arith, there, small i w.0 w.1)
  | inr v ↦ rw v.1 (omega arith)
]

openings-small : (c : Topology) (resource : Resource) → IsConfig c → openings_of c resource ≤ MAX_OPENINGS
openings-small c (Device d) is = by_number (λ (x : device.Device). x.openings) c.devices d (small_devices c is)
openings-small c (Adapter a) is = by_number (λ (x : adapter.Adapter). x.openings) c.adapters a (small_adapters c is)
openings-small c (Link l) is = by_number (λ n. n) c.links l (small_links c is)

-- ---- what a widening gives

none_or : (most n k : ℕ) → n ≤ k → cond (most == 0) 0 n ≤ k
none_or most n k le = elim (most == 0) as (λ b. cond b 0 n ≤ k) [ true ↦ omega arith | false ↦ le ]

widened-small : (widening : Widening) (openings most : ℕ) → HasNumber widening → openings ≤ MAX_OPENINGS → most ≤ MAX_CAP → widened widening openings most ≤ MAX_CAP
widened-small (More n) openings most number few small = none_or most (min (most + n) MAX_CAP) MAX_CAP (omega arith)
widened-small (Times n) openings most number few small = omega arith
widened-small (AtLeast n) openings most number few small = none_or most (max most n) MAX_CAP (omega (arith, number.1))
widened-small NeverStopped openings most number few small = elim (most == 0) as (λ b. cond b openings most ≤ MAX_CAP) [ true ↦ omega arith | false ↦ small ]

widest-small : (net : Instance) (c : Topology) (own : List Change) (most : ℕ) → IsConfig c → All (IsChangeOf net) own → most ≤ MAX_CAP → widest c own most ≤ MAX_CAP
unfolding widest
widest-small net c [] most config are small = small
widest-small net c (change ∷ own) most config are small =
    let is = All-head (IsChangeOf net) change own are in
    omega (arith, widened-small change.widening (openings_of c change.resource) most is.number (openings-small c change.resource config) small, widest-small net c own most config (All-tail (IsChangeOf net) change own are) small)

widest-least : (c : Topology) (own : List Change) (most : ℕ) → most ≤ widest c own most
unfolding widest
widest-least c [] most = omega arith
widest-least c (change ∷ own) most = omega (arith, widest-least c own most)

-- ---- what a row takes

cap-small : (net : Instance) (live : ℕ → ℕ) (c : Topology) (changes : List Change) (row r : ℕ) → IsSound net live → IsConfig c → All (IsChangeOf net) changes → changed_cap net c changes row r ≤ MAX_CAP
cap-small net live c changes row r sound config are =
    let own = widest-small net c (changes_of net changes row) (net.cap row r) config (All-filter (λ (change : Change). row_of net change.resource == row) (IsChangeOf net) changes are) (sound.small_cap row r) in
    omega (arith, cap_by_carried net live c changes row r sound)

cap-least : (net : Instance) (live : ℕ → ℕ) (c : Topology) (changes : List Change) (row r : ℕ) → IsSound net live → net.cap row r ≤ changed_cap net c changes row r
cap-least net live c changes row r sound = omega (arith, cap_by_carried net live c changes row r sound, widest-least c (changes_of net changes row) (net.cap row r))

-- ---- the net

abbrev pub caps_of : NetRows → List Change → List ℕ
caps_of n changes = table (rows (instance_of_rows n)) (instance_of_rows n).rounds (changed_cap (instance_of_rows n) n.config changes)

pub by_caps : (n : NetRows) (changes : List Change) → with_caps n (caps_of n changes) ≡ changed_net n changes
unfolding changed_net instance_of_rows
by_caps n changes = refl

cap_of : (n : NetRows) (changes : List Change) (row r : ℕ) → row < rows (instance_of_rows n) → 1 ≤ r → r ≤ (instance_of_rows n).rounds → slice_index (caps_of n changes) (cell (instance_of_rows n).rounds row r) ≡ changed_cap (instance_of_rows n) n.config changes row r
cap_of n changes row r within first last = cell-table (rows (instance_of_rows n)) (instance_of_rows n).rounds (changed_cap (instance_of_rows n) n.config changes) row r within first last

pub caps-small : (n : NetRows) (changes : List Change) → IsSound (instance_of_rows n) (live_of_rows n) → IsConfig n.config → All (IsChangeOf (instance_of_rows n)) changes → All (λ cap. cap ≤ MAX_CAP) (caps_of n changes)
caps-small n changes sound config are =
    All-table (λ cap. cap ≤ MAX_CAP) (rows (instance_of_rows n)) (instance_of_rows n).rounds (changed_cap (instance_of_rows n) n.config changes) sound.some_rounds
    (λ row r within first last. cap-small (instance_of_rows n) (live_of_rows n) n.config changes row r sound config are)

-- each row takes at least what it took
caps-least : (n : NetRows) (changes : List Change) (row r : ℕ) → IsSound (instance_of_rows n) (live_of_rows n) → row < rows (instance_of_rows n) → 1 ≤ r → r ≤ (instance_of_rows n).rounds → (instance_of_rows n).cap row r ≤ slice_index (caps_of n changes) (cell (instance_of_rows n).rounds row r)
caps-least n changes row r sound within first last = rw (cap_of n changes row r within first last) (cap-least (instance_of_rows n) (live_of_rows n) n.config changes row r sound)

-- so at least what was sent
pub caps-held : (n : NetRows) (changes : List Change) (row r : ℕ) → IsSound (instance_of_rows n) (live_of_rows n) → row < rows (instance_of_rows n) → 1 ≤ r → r ≤ (instance_of_rows n).rounds →
    load (instance_of_rows n) (live_of_rows n) row r ≤ slice_index (caps_of n changes) (cell (instance_of_rows n).rounds row r)
caps-held n changes row r sound within first last =
    let held = sound.live_admissible.rows_hold row r within first last in
    omega (arith, held, caps-least n changes row r sound within first last)

-- what fits the net fits the changed one, at the same cost
pub admissible-changed : (n : NetRows) (changes : List Change) (f : ℕ → ℕ) → IsSound (instance_of_rows n) (live_of_rows n) → IsAdmissible (instance_of_rows n) f → IsAdmissible (instance_of_rows (changed_net n changes)) f
unfolding changed_net instance_of_rows
admissible-changed n changes f sound is = record {
  not_early = is.not_early;
  not_late = is.not_late;
  rows_hold = λ row r within first last. let few = is.rows_hold row r within first last in omega (arith, few, caps-least n changes row r sound within first last);
}

pub cost-changed : (n : NetRows) (changes : List Change) (f : ℕ → ℕ) → cost (instance_of_rows (changed_net n changes)) f ≡ cost (instance_of_rows n) f
unfolding changed_net instance_of_rows
cost-changed n changes f = refl

-- it is a net too
pub sound-changed : (n : NetRows) (changes : List Change) → IsSound (instance_of_rows n) (live_of_rows n) → IsConfig n.config → All (IsChangeOf (instance_of_rows n)) changes → IsSound (instance_of_rows (changed_net n changes)) (live_of_rows n)
unfolding changed_net instance_of_rows longest_path
sound-changed n changes sound config are = record {
  some_rounds = sound.some_rounds;
  few_rounds = sound.few_rounds;
  few_stays = sound.few_stays;
  few_devices = sound.few_devices;
  few_adapters = sound.few_adapters;
  few_links = sound.few_links;
  on_device = sound.on_device;
  on_adapter = sound.on_adapter;
  on_link = sound.on_link;
  from_first = sound.from_first;
  to_last = sound.to_last;
  some_weight = sound.some_weight;
  small_weight = sound.small_weight;
  small_cap = λ row r. small_at (caps_of n changes) (cell n.rounds row r) MAX_CAP (caps-small n changes sound config are);
  small_price = sound.small_price;
  price_room = sound.price_room;
  live_admissible = record {
    not_early = sound.live_admissible.not_early;
    not_late = sound.live_admissible.not_late;
    rows_hold = λ row r within first last. caps-held n changes row r sound within first last;
  };
}

-- what never limited doesn't limit
enough : (net wide : Instance) (live : ℕ → ℕ) (c : Topology) (changes : List Change) (row r : ℕ) → IsSound net live → row < rows net → never_limits net row ≡ true → ((part : ℕ) → part < rows net → wide.cap part r ≡ changed_cap net c changes part r) → is_enough wide (rows_below net row) row r ≡ true
enough net wide live c changes row r sound within never are =
    let value : ℕ → ℕ = λ part. changed_cap net c changes part r in
    let same : together (λ part. wide.cap part r) (rows_below net row) ≡ together value (rows_below net row) =
    together-same (λ part. wide.cap part r) value (rows_below net row) (All-weaker (λ part. part < rows net) (λ part. wide.cap part r ≡ value part) are (rows_below net row) (rows_below-within net row within)) in
    let least : together value (carried net row) ≤ value row = omega (arith, cap_by_carried net live c changes row r sound) in
    let fits : together value (rows_below net row) ≤ value row = rw (carried-below net row never) at least in
    rw (same, are row within) (le-leb (together value (rows_below net row)) (value row) fits)

pub never_limits-changed : (n : NetRows) (changes : List Change) (row : ℕ) → IsSound (instance_of_rows n) (live_of_rows n) → row < rows (instance_of_rows n) → never_limits (instance_of_rows n) row ≡ true → never_limits (instance_of_rows (changed_net n changes)) row ≡ true
unfolding changed_net instance_of_rows is_below
never_limits-changed n changes row sound within never =
    all_rounds (is_enough (instance_of_rows (changed_net n changes)) (rows_below (instance_of_rows n) row) row) 1 n.rounds
    (λ r first last.
    enough (instance_of_rows n) (instance_of_rows (changed_net n changes)) (live_of_rows n) n.config changes row r sound within never (λ part inside. cap_of n changes part r inside first (omega arith)))
