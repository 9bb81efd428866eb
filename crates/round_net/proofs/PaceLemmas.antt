-- the net at the recorded pace
use Rattle.std.proofs.Common.{◌≡◌, ℕ, ◌+◌, ◌-◌, ◌*◌, ◌/◌, ◌%◌, ◌<◌, ◌≤◌, Bool, true, false, cond, List, length, refl, sym, ap, subst, inl, inr, ◌∙◌, arith, ◌==◌, ◌&&◌, nat_lt, nat_le, All, slice_index, lt-ltb}
use Rattle.std.proofs.lemmas.Bool.{cases_lt}
use Rattle.std.proofs.lemmas.Bool.Decides.{nat_tests}
use Rattle.std.proofs.lemmas.Nat.{div-mul-add, mod-mul-add}
use Rattle.std.proofs.Math.Nat.{mod-lt, mod-eq-sub-div-mul, div-mul-le_self}
use Rattle.round_net.specs.Sums.{sum_below}
use Rattle.round_net.specs.Instance.{Instance, rows, uses}
use Rattle.round_net.specs.Rows.{NetRows, cell, instance_of_rows, live_of_rows}
use Rattle.round_net.specs.Schedules.{IsAdmissible, load, cost}
use Rattle.round_net.specs.Sound.{IsSound, IsNet, longest_path}
use Rattle.round_net.specs.Nets.{table}
use Rattle.round_net.specs.LoadLists.{AreLoads}
use Rattle.round_net.specs.Pace.{waiting, has_room, pace_cap, with_caps, at_pace, instance_at_pace}
use Rattle.round_net.specs.declared.limits.TheConstants.{MAX_CAP}
use Rattle.round_net.proofs.CellLemmas.{cell_within}
use Rattle.round_net.proofs.FilledLemmas.{small_at}
use Rattle.round_net.proofs.LoadListLemmas.{one_at_most}
use Rattle.round_net.proofs.PathLemmas.{uses-device_resource}
use Rattle.round_net.proofs.SumLemmas.{sum_below-same, sum_below-add, sum_below-zero, sum_below-most}
use Rattle.round_net.proofs.TableLemmas.{cell-table, All-table, length-cells, row_of_place, round_of_place, cell_of_place}

-- ---- a net with other caps

-- where the caps are small, and no row takes fewer than were sent, it is a net again
pub capped_net : (n : NetRows) (caps : List ℕ) → IsNet n → length caps ≡ rows (instance_of_rows n) * (instance_of_rows n).rounds → All (λ cap. cap ≤ MAX_CAP) caps
    → ((row r : ℕ) → row < rows (instance_of_rows n) → 1 ≤ r → r ≤ (instance_of_rows n).rounds → load (instance_of_rows n) (live_of_rows n) row r ≤ slice_index caps (cell (instance_of_rows n).rounds row r)) → IsNet (with_caps n caps)
unfolding instance_of_rows live_of_rows longest_path
capped_net n caps is size small held = record {
  cells = size;
  sound = let sound = is.sound in let live = sound.live_admissible in record {
    some_rounds = sound.some_rounds;
    few_rounds = sound.few_rounds;
    few_stays = sound.few_stays;
    few_devices = sound.few_devices;
    few_adapters = sound.few_adapters;
    few_links = sound.few_links;
    on_device = sound.on_device;
    on_adapter = sound.on_adapter;
    on_link = sound.on_link;
    from_first = sound.from_first;
    to_last = sound.to_last;
    some_weight = sound.some_weight;
    small_weight = sound.small_weight;
    small_cap = λ row r. small_at caps (cell n.rounds row r) MAX_CAP small;
    small_price = sound.small_price;
    price_room = sound.price_room;
    live_admissible = record { not_early = live.not_early; not_late = live.not_late; rows_hold = held };
  };
}

-- so it is where the net is seen as its rows
pub capped_view : (m n : NetRows) (caps : List ℕ) → m ≡ n → IsNet m → length caps ≡ rows (instance_of_rows n) * (instance_of_rows n).rounds → All (λ cap. cap ≤ MAX_CAP) caps
    → ((row r : ℕ) → row < rows (instance_of_rows n) → 1 ≤ r → r ≤ (instance_of_rows n).rounds → load (instance_of_rows n) (live_of_rows n) row r ≤ slice_index caps (cell (instance_of_rows n).rounds row r)) → IsNet (with_caps m caps)
capped_view m n caps e is size small held = subst (λ k. IsNet (with_caps k caps)) (sym e) (capped_net n caps (subst IsNet e is) size small held)

-- ---- how many wait

-- a round later: who arrives is added, and who is sent goes
one_later : (own : Bool) (arrival live q : ℕ) → arrival ≤ live →
    ◌≡◌ {A = ℕ} (cond (own && (nat_le arrival (q + 1) && nat_lt (q + 1) live)) 1 0 + cond (own && (live == q + 1)) 1 0) (cond (own && (nat_le arrival q && nat_lt q live)) 1 0 + cond (own && (arrival == q + 1)) 1 0)
one_later false arrival live q le = refl
one_later true arrival live q le = grind (arith, nat_tests)

pub waiting_later : (net : Instance) (live : ℕ → ℕ) (d q : ℕ) → ((s : ℕ) → s < net.stays → net.arrival s ≤ live s) → d < net.devices → waiting net live d (q + 1) + load net live d (q + 1) ≡ waiting net live d q + load net net.arrival d (q + 1)
unfolding waiting
waiting_later net live d q late within =
    let own : ℕ → Bool = λ s. net.device s == d in
    let waits : ℕ → ℕ → ℕ = λ r s. cond (own s && (nat_le (net.arrival s) r && nat_lt r (live s))) 1 0 in
    let sends : ℕ → ℕ = λ s. cond (own s && (live s == q + 1)) 1 0 in
    let comes : ℕ → ℕ = λ s. cond (own s && (net.arrival s == q + 1)) 1 0 in
    let sent : load net live d (q + 1) ≡ sum_below net.stays sends = sum_below-same net.stays (λ s. cond (uses net d s && (live s == q + 1)) 1 0) sends (λ s lt. ap (λ b. cond (b && (live s == q + 1)) 1 0) (uses-device_resource net d s within)) in
    let came : load net net.arrival d (q + 1) ≡ sum_below net.stays comes = sum_below-same net.stays (λ s. cond (uses net d s && (net.arrival s == q + 1)) 1 0) comes (λ s lt. ap (λ b. cond (b && (net.arrival s == q + 1)) 1 0) (uses-device_resource net d s within)) in
    let after = sum_below-add net.stays (waits (q + 1)) sends in
    let before = sum_below-add net.stays (waits q) comes in
    let each : sum_below net.stays (λ s. waits (q + 1) s + sends s) ≡ sum_below net.stays (λ s. waits q s + comes s) = sum_below-same net.stays (λ s. waits (q + 1) s + sends s) (λ s. waits q s + comes s) (λ s lt. one_later (own s) (net.arrival s) (live s) q (late s lt)) in
    omega arith

-- before the first round nothing waits
none_first : (own : Bool) (arrival live : ℕ) → 1 ≤ arrival → ◌≡◌ {A = ℕ} (cond (own && (nat_le arrival 0 && nat_lt 0 live)) 1 0) 0
none_first false arrival live le = refl
none_first true arrival live le = grind (arith, nat_tests)

pub waiting_none : (net : Instance) (live : ℕ → ℕ) (d : ℕ) → ((s : ℕ) → s < net.stays → 1 ≤ net.arrival s) → waiting net live d 0 ≡ 0
unfolding waiting
waiting_none net live d first = sum_below-zero net.stays (λ s. cond ((net.device s == d) && (nat_le (net.arrival s) 0 && nat_lt 0 (live s))) 1 0) (λ s lt. none_first (net.device s == d) (net.arrival s) (live s) (first s lt))

-- what stands where a round begins, and after it
pub waiting_begun : (net : Instance) (live : ℕ → ℕ) (d q count : ℕ) → ((s : ℕ) → s < net.stays → 1 ≤ net.arrival s) → q ≡ 0 → count ≡ 0 → count ≡ waiting net live d q
waiting_begun net live d q count first begins none = rw (begins, none) (sym (waiting_none net live d first))

few_wait : (net : Instance) (live : ℕ → ℕ) (d q : ℕ) → waiting net live d q ≤ net.stays
unfolding waiting
few_wait net live d q = omega (arith, sum_below-most net.stays 1 (λ s. cond ((net.device s == d) && (nat_le (net.arrival s) q && nat_lt q (live s))) 1 0) (λ s lt. one_at_most ((net.device s == d) && (nat_le (net.arrival s) q && nat_lt q (live s)))))

few_sent : (net : Instance) (f : ℕ → ℕ) (row r : ℕ) → load net f row r ≤ net.stays
few_sent net f row r = omega (arith, sum_below-most net.stays 1 (λ s. cond (uses net row s && (f s == r)) 1 0) (λ s lt. one_at_most (uses net row s && (f s == r))))

-- the count after a round, by who came and who went in it
pub record IsNextCount (net : Instance) (live : ℕ → ℕ) (d q count came went : ℕ) : Type 0 where
  pub enough : went ≤ count + came
  pub few : count + came ≤ 2 * net.stays
  pub next : count + came - went ≡ waiting net live d (q + 1)

pub waiting_next : (net : Instance) (live : ℕ → ℕ) (arrived sent : List ℕ) (at count : ℕ) → IsSound net live → AreLoads net net.arrival net.stays arrived → AreLoads net live net.stays sent → at < net.devices * net.rounds → count ≡ waiting net live (at / net.rounds) (at % net.rounds)
    → IsNextCount net live (at / net.rounds) (at % net.rounds) count (slice_index arrived at) (slice_index sent at)
waiting_next net live arrived sent at count sound came went lt is =
    let d : ℕ = at / net.rounds in
    let q : ℕ = at % net.rounds in
    let within : d < net.devices = row_of_place net.devices net.rounds at sound.some_rounds lt in
    let last : q + 1 ≤ net.rounds = round_of_place net.rounds at sound.some_rounds in
    let first : 1 ≤ q + 1 = omega arith in
    let place = cell_of_place net.rounds at in
    let row : d < rows net = omega arith in
    let arrives : slice_index arrived at ≡ load net net.arrival d (q + 1) = ap (slice_index arrived) (sym place) ∙ came.each d (q + 1) row first last in
    let leaves : slice_index sent at ≡ load net live d (q + 1) = ap (slice_index sent) (sym place) ∙ went.each d (q + 1) row first last in
    let later = waiting_later net live d q (λ s less. sound.live_admissible.not_early s less) within in
    let few = few_wait net live d q in
    let few' = few_sent net net.arrival d (q + 1) in
    record { enough = omega arith; few = omega arith; next = omega arith }

-- the place after one in a row is in the row, unless a row begins there
pub next_place : (at rounds : ℕ) → 1 ≤ rounds → 0 < (at + 1) % rounds → ((at + 1) / rounds ≡ at / rounds) × ((at + 1) % rounds ≡ at % rounds + 1)
next_place at rounds some more =
    let q : ℕ = at % rounds in
    let inside : q < rounds = mod-lt at some in
    let whole : at ≡ at / rounds * rounds + q = omega (arith, mod-eq-sub-div-mul at rounds, div-mul-le_self at rounds) in
    elim (cases_lt (q + 1) rounds) [
      | inl lt ↦
          let next : at + 1 ≡ at / rounds * rounds + (q + 1) = omega arith in
          (ap (λ k. k / rounds) next ∙ div-mul-add (at / rounds) rounds (q + 1) lt, ap (λ k. k % rounds) next ∙ mod-mul-add (at / rounds) rounds (q + 1) lt)
      | inr le ↦
          let full : (at / rounds + 1) * rounds ≡ at / rounds * rounds + rounds = omega arith in
          let next : at + 1 ≡ (at / rounds + 1) * rounds + 0 = omega arith in
          let none : (at + 1) % rounds ≡ 0 = ap (λ k. k % rounds) next ∙ mod-mul-add (at / rounds + 1) rounds 0 (omega arith) in
          absurd (omega arith)
    ]

pub first_place : (rounds : ℕ) → 1 ≤ rounds → 0 % rounds ≡ 0
first_place rounds some = let start : 0 ≡ 0 * rounds + 0 = omega arith in ap (λ k. k % rounds) start ∙ mod-mul-add 0 rounds 0 (omega arith)

-- ---- what a row takes

-- a device that has room where a stay waits takes what was sent, and any other row as much as ever
pub pace_sent : (net : Instance) (live : ℕ → ℕ) (row r n : ℕ) → row < net.devices → 0 < waiting net live row r → has_room net live row r ≡ true → n ≡ load net live row r → n ≡ pace_cap net live row r
unfolding pace_cap
pace_sent net live row r n within waits room is = is ∙ rw (lt-ltb row net.devices within, lt-ltb 0 (waiting net live row r) waits, room) refl

pub pace_kept : (net : Instance) (live : ℕ → ℕ) (row r n : ℕ) → (nat_lt row net.devices && (nat_lt 0 (waiting net live row r) && has_room net live row r)) ≡ false → n ≡ net.cap row r → n ≡ pace_cap net live row r
unfolding pace_cap
pace_kept net live row r n other is = is ∙ rw other refl

-- where one of the three fails
pub full_kept : (own waits room : Bool) → room ≡ false → (own && (waits && room)) ≡ false
full_kept true true room e = e
full_kept true false room e = refl
full_kept false waits room e = refl

pub none_kept : (own waits room : Bool) → waits ≡ false → (own && (waits && room)) ≡ false
none_kept true waits room e = rw e refl
none_kept false waits room e = refl

pub other_kept : (own waits room : Bool) → own ≡ false → (own && (waits && room)) ≡ false
other_kept own waits room e = rw e refl

-- what the list of waiting stays has at a round of a device
pub waits_at : (net : Instance) (live : ℕ → ℕ) (waits : List ℕ) (d r at : ℕ) → waits ≡ table net.devices net.rounds (waiting net live) → d < net.devices → 1 ≤ r → r ≤ net.rounds → at ≡ cell net.rounds d r → slice_index waits at ≡ waiting net live d r
waits_at net live waits d r at is within first last place = rw (is, place) (cell-table net.devices net.rounds (waiting net live) d r within first last)

pub waits_inside : (net : Instance) (live : ℕ → ℕ) (waits : List ℕ) (d r at : ℕ) → waits ≡ table net.devices net.rounds (waiting net live) → d < net.devices → 1 ≤ r → r ≤ net.rounds → at ≡ cell net.rounds d r → at < length waits
waits_inside net live waits d r at is within first last place = rw (is, place) (omega (arith, length-cells net.rounds (waiting net live) (net.devices * net.rounds), cell_within net.rounds net.devices d r within first last))

-- no less than was sent, and no more than before
pub pace_most : (net : Instance) (live : ℕ → ℕ) (row r : ℕ) → load net live row r ≤ net.cap row r → pace_cap net live row r ≤ net.cap row r
unfolding pace_cap
pace_most net live row r held =
    elim (nat_lt row net.devices && (nat_lt 0 (waiting net live row r) && has_room net live row r)) as (λ b. cond b (load net live row r) (net.cap row r) ≤ net.cap row r) [ true ↦ held | false ↦ omega arith ]

pub pace_least : (net : Instance) (live : ℕ → ℕ) (row r : ℕ) → load net live row r ≤ net.cap row r → load net live row r ≤ pace_cap net live row r
unfolding pace_cap
pace_least net live row r held =
    elim (nat_lt row net.devices && (nat_lt 0 (waiting net live row r) && has_room net live row r)) as (λ b. load net live row r ≤ cond b (load net live row r) (net.cap row r)) [ true ↦ omega arith | false ↦ held ]

abbrev pub caps_at_pace : NetRows → List ℕ
caps_at_pace n = table (rows (instance_of_rows n)) n.rounds (pace_cap (instance_of_rows n) (live_of_rows n))

-- by the list
pub cap_at_pace : (n : NetRows) (row r : ℕ) → row < rows (instance_of_rows n) → 1 ≤ r → r ≤ (instance_of_rows n).rounds → slice_index (caps_at_pace n) (cell (instance_of_rows n).rounds row r) ≡ pace_cap (instance_of_rows n) (live_of_rows n) row r
unfolding instance_of_rows
cap_at_pace n row r within first last = cell-table (rows (instance_of_rows n)) n.rounds (pace_cap (instance_of_rows n) (live_of_rows n)) row r within first last

pub small_at_pace : (n : NetRows) → IsSound (instance_of_rows n) (live_of_rows n) → All (λ cap. cap ≤ MAX_CAP) (caps_at_pace n)
unfolding instance_of_rows
small_at_pace n sound =
    All-table (λ cap. cap ≤ MAX_CAP) (rows (instance_of_rows n)) n.rounds (pace_cap (instance_of_rows n) (live_of_rows n)) sound.some_rounds (λ row r within first last.
    let held = sound.live_admissible.rows_hold row r within first last in
    omega (arith, pace_most (instance_of_rows n) (live_of_rows n) row r held, sound.small_cap row r))

-- no fewer than were sent, and no more than the net takes
pub held_at_pace : (n : NetRows) (row r : ℕ) → IsSound (instance_of_rows n) (live_of_rows n) → row < rows (instance_of_rows n) → 1 ≤ r → r ≤ (instance_of_rows n).rounds →
    load (instance_of_rows n) (live_of_rows n) row r ≤ slice_index (caps_at_pace n) (cell (instance_of_rows n).rounds row r)
held_at_pace n row r sound within first last = rw (cap_at_pace n row r within first last) (pace_least (instance_of_rows n) (live_of_rows n) row r (sound.live_admissible.rows_hold row r within first last))

within_at_pace : (n : NetRows) (row r : ℕ) → IsSound (instance_of_rows n) (live_of_rows n) → row < rows (instance_of_rows n) → 1 ≤ r → r ≤ (instance_of_rows n).rounds →
    slice_index (caps_at_pace n) (cell (instance_of_rows n).rounds row r) ≤ (instance_of_rows n).cap row r
within_at_pace n row r sound within first last = rw (cap_at_pace n row r within first last) (pace_most (instance_of_rows n) (live_of_rows n) row r (sound.live_admissible.rows_hold row r within first last))

-- ---- what fits it

-- the same net by its caps
pub by_caps : (n : NetRows) (caps : List ℕ) → caps ≡ table (rows (instance_of_rows n)) (instance_of_rows n).rounds (pace_cap (instance_of_rows n) (live_of_rows n)) → with_caps n caps ≡ at_pace n
unfolding at_pace instance_of_rows
by_caps n caps is = ap (with_caps n) is

pub caps_by_rounds : (n : NetRows) (caps : List ℕ) → caps ≡ table (rows (instance_of_rows n)) (instance_of_rows n).rounds (pace_cap (instance_of_rows n) (live_of_rows n)) → caps ≡ caps_at_pace n
unfolding instance_of_rows
caps_by_rounds n caps is = is

pub live_at_pace : (n : NetRows) → IsSound (instance_of_rows n) (live_of_rows n) → IsAdmissible (instance_at_pace n) (live_of_rows n)
unfolding at_pace instance_of_rows
live_at_pace n sound = record {
  not_early = sound.live_admissible.not_early;
  not_late = sound.live_admissible.not_late;
  rows_hold = λ row r within first last. held_at_pace n row r sound within first last;
}

pub sound_at_pace : (n : NetRows) → IsSound (instance_of_rows n) (live_of_rows n) → IsSound (instance_at_pace n) (live_of_rows n)
unfolding at_pace instance_of_rows longest_path
sound_at_pace n sound = record {
  some_rounds = sound.some_rounds;
  few_rounds = sound.few_rounds;
  few_stays = sound.few_stays;
  few_devices = sound.few_devices;
  few_adapters = sound.few_adapters;
  few_links = sound.few_links;
  on_device = sound.on_device;
  on_adapter = sound.on_adapter;
  on_link = sound.on_link;
  from_first = sound.from_first;
  to_last = sound.to_last;
  some_weight = sound.some_weight;
  small_weight = sound.small_weight;
  small_cap = λ row r. small_at (caps_at_pace n) (cell n.rounds row r) MAX_CAP (small_at_pace n sound);
  small_price = sound.small_price;
  price_room = sound.price_room;
  live_admissible = live_at_pace n sound;
}

pub admissible_at_pace : (n : NetRows) (f : ℕ → ℕ) → IsSound (instance_of_rows n) (live_of_rows n) → IsAdmissible (instance_at_pace n) f → IsAdmissible (instance_of_rows n) f
unfolding at_pace instance_of_rows
admissible_at_pace n f sound is = record {
  not_early = is.not_early;
  not_late = is.not_late;
  rows_hold = λ row r within first last. let few = is.rows_hold row r within first last in omega (arith, within_at_pace n row r sound within first last, few);
}

pub cost_at_pace : (n : NetRows) (f : ℕ → ℕ) → cost (instance_at_pace n) f ≡ cost (instance_of_rows n) f
unfolding at_pace instance_of_rows
cost_at_pace n f = refl
