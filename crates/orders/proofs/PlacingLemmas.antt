-- stays that are placed in the order of their keys
use Rattle.std.proofs.Common.{◌≡◌, ◌≢◌, ℕ, ◌+◌, ◌*◌, ◌<◌, ◌≤◌, true, false, cond, List, length, get_or, set, replicate, sym, ap, ◌∙◌, subst, inl, inr, arith, ◌==◌, ◌&&◌, ne_eqb, eqb-true, slice_index, length-set, get_or-set_same, get_or-set_other}
use Rattle.std.proofs.lemmas.Bool.{cases_eq, cases_lt, cases_Bool, and_parts, and_left, and_right, and_cases, ltb-false, le-leb, false≢true}
use Rattle.std.proofs.lemmas.List.{length-replicate}
use Rattle.round_net.specs.Instance.{Instance, rows, uses}
use Rattle.round_net.specs.LoadLists.{AreLoads}
use Rattle.round_net.specs.Rows.{cell}
use Rattle.round_net.specs.Schedules.{load, IsAdmissible}
use Rattle.round_net.specs.Sound.{IsSound}
use Rattle.round_net.proofs.LoadListLemmas.{none_counted}
use Rattle.round_net.proofs.SumLemmas.{sum_below-set, sum_below-zero}
use Rattle.orders.specs.Keys.{AreInOrder}
use Rattle.orders.specs.Orders.{goes_before, load_before, IsHeldUp, IsOrdered, unsent, late}
use Rattle.orders.specs.Room.{has_room, HasNoRoom, AreSkips}
use Rattle.orders.specs.declared.order.Order.{Order}
use Rattle.orders.proofs.CountLemmas.{count_below-same, count_below-none}
use Rattle.orders.proofs.LawLemmas.{row_within}
use Rattle.orders.proofs.OrderLemmas.{goes_before-itself, goes_before-back}
use Rattle.orders.proofs.RoomLemmas.{room_at, full_row, AreSkips-grown}

-- So far the stays before a place of their order are placed; all others are in round 0.
pub record IsPlacing (order : Order) (net : Instance) (stays rounds loads skips : List ℕ) (here : ℕ) : Type 0 where
  pub long : length rounds ≡ net.stays
  pub loads_are : AreLoads net (slice_index rounds) net.stays loads
  pub skips_are : AreSkips net loads skips
  pub waiting : (i : ℕ) → here ≤ i → i < net.stays → get_or rounds (get_or stays i 0) 0 ≡ 0
  pub not_early : (i : ℕ) → i < here → net.arrival (get_or stays i 0) ≤ get_or rounds (get_or stays i 0) 0
  pub ends : (i : ℕ) → i < here → get_or rounds (get_or stays i 0) 0 ≤ net.rounds + 1
  pub rows_hold : (row r : ℕ) → row < rows net → 1 ≤ r → r ≤ net.rounds → load net (slice_index rounds) row r ≤ net.cap row r
  pub held_up : (i r : ℕ) → i < here → net.arrival (get_or stays i 0) ≤ r → r < get_or rounds (get_or stays i 0) 0 → r ≤ net.rounds → IsHeldUp order net (slice_index rounds) (get_or stays i 0) r

-- one stay more in its round
placed_loads : (net : Instance) (rounds loads new : List ℕ) (s round : ℕ) → s < net.stays → length rounds ≡ net.stays → get_or rounds s 0 ≡ 0 → length new ≡ length loads →
    ((row r : ℕ) → row < rows net → 1 ≤ r → r ≤ net.rounds → get_or new (cell net.rounds row r) 0 ≡ get_or loads (cell net.rounds row r) 0 + cond (uses net row s && (round == r)) 1 0) →
    AreLoads net (slice_index rounds) net.stays loads → AreLoads net (slice_index (set rounds s round)) net.stays new
placed_loads net rounds loads new s round less long waits size each are = record {
  cells = size ∙ are.cells;
  each = λ row r within first last.
      let g : ℕ → ℕ → ℕ = λ t q. cond (uses net row t && (q == r)) 1 0 in
      let none : g s (get_or rounds s 0) ≡ 0 = rw waits (ap (λ b. cond {A = ℕ} b 1 0) (and_right (uses net row s) (0 == r) (ne_eqb 0 r (λ e. omega arith)))) in
      omega (arith, each row r within first last, are.each row r within first last, sum_below-set net.stays s round g rounds less (omega arith));
}

placed_hold : (net : Instance) (live : ℕ → ℕ) (f g : ℕ → ℕ) (loads new : List ℕ) (s round row r : ℕ) → row < rows net → 1 ≤ r → r ≤ net.rounds → (round ≤ net.rounds → has_room net loads (net.device s) round ≡ true) →
    get_or new (cell net.rounds row r) 0 ≡ get_or loads (cell net.rounds row r) 0 + cond (uses net row s && (round == r)) 1 0 → AreLoads net f net.stays loads → AreLoads net g net.stays new → load net f row r ≤ net.cap row r → load net g row r ≤ net.cap row r
placed_hold net live f g loads new s round row r within first last room each are become holds =
    let before = are.each row r within first last in
    let after = become.each row r within first last in
    elim (cases_Bool (uses net row s && (round == r))) [
      | inr other ↦ let none : ◌≡◌ {A = ℕ} (cond (uses net row s && (round == r)) 1 0) 0 = ap (λ b. cond b 1 0) other in omega arith
      | inl here ↦
          let parts = and_parts (uses net row s) (round == r) here in
          let at : round ≡ r = eqb-true round r parts.1 in
          let left : get_or loads (cell net.rounds row r) 0 < net.cap row r = room_at net loads s r row (subst (λ q. has_room net loads (net.device s) q ≡ true) at (room (omega arith))) parts.0 in
          let one : ◌≡◌ {A = ℕ} (cond (uses net row s && (round == r)) 1 0) 1 = ap (λ b. cond b 1 0) here in
          omega arith
    ]

-- a stay that doesn't go before another one doesn't hold that up, wherever it is
kept_before : (order : Order) (net : Instance) (f g : ℕ → ℕ) (s u row r : ℕ) → goes_before order net s u ≡ false → ((t : ℕ) → t ≢ s → g t ≡ f t) → load_before order net g u row r ≡ load_before order net f u row r
kept_before order net f g s u row r after same = count_below-same net.stays _ _ (λ t less. elim (cases_eq t s) [
  | inl is ↦
      let not : goes_before order net t u ≡ false = ap (λ (k : ℕ). goes_before order net k u) is ∙ after in
      and_left _ _ not ∙ sym (and_left _ _ not)
  | inr other ↦ ap (λ (q : ℕ). goes_before order net t u && (uses net row t && (q == r))) (same t other)
])

kept_up : (order : Order) (net : Instance) (f g : ℕ → ℕ) (s u r : ℕ) → goes_before order net s u ≡ false → ((t : ℕ) → t ≢ s → g t ≡ f t) → IsHeldUp order net f u r → IsHeldUp order net g u r
kept_up order net f g s u r after same held = record { row = held.row; used = held.used; full = kept_before order net f g s u held.row r after same ∙ held.full }

-- where all that is in a round goes before a stay, a row's load there is that before the stay
all_before : (order : Order) (net : Instance) (f : ℕ → ℕ) (s row r : ℕ) → ((t : ℕ) → t < net.stays → f t ≡ r → goes_before order net t s ≡ true) → load_before order net f s row r ≡ load net f row r
all_before order net f s row r first = count_below-same net.stays _ _ (λ t less. elim (cases_eq (f t) r) [
  | inl at ↦ ap (λ b. b && (uses net row t && (f t == r))) (first t less at)
  | inr other ↦
      let not : (uses net row t && (f t == r)) ≡ false = and_right (uses net row t) (f t == r) (ne_eqb (f t) r other) in
      and_right (goes_before order net t s) _ not ∙ sym not
])

-- the next stay is held up where its device has no room
next_held : (order : Order) (net : Instance) (live : ℕ → ℕ) (stays rounds loads skips : List ℕ) (here r : ℕ) → IsSound net live → AreInOrder order net stays → here < net.stays → 1 ≤ r → r ≤ net.rounds →
    has_room net loads (net.device (get_or stays here 0)) r ≡ false → IsPlacing order net stays rounds loads skips here → IsHeldUp order net (slice_index rounds) (get_or stays here 0) r
next_held order net live stays rounds loads skips here r sound sorted less first last none placing =
    let s = get_or stays here 0 in
    let found = full_row net loads s r none in
    let within : found.row < rows net = row_within net live found.row s sound (sorted.within here less) found.among in
    let load_is = placing.loads_are.each found.row r within first last in
    let holds = placing.rows_hold found.row r within first last in
    let known : (t : ℕ) → t < net.stays → get_or rounds t 0 ≡ r → goes_before order net t s ≡ true = λ t inside at.
    let there = sorted.place t inside in
    elim (cases_lt there.0 here) [
      | inl early ↦ subst (λ (k : ℕ). goes_before order net k s ≡ true) there.2 (sorted.before there.0 here early less)
      | inr later ↦ absurd (omega (arith, ap (λ (k : ℕ). get_or rounds k 0) there.2, placing.waiting there.0 later there.1))
    ] in
    let full : load net (slice_index rounds) found.row r ≡ net.cap found.row r = omega (arith, load_is, holds, found.full) in
    record { row = found.row; used = found.among; full = all_before order net (slice_index rounds) s found.row r known ∙ full }

pub IsPlacing-step : (order : Order) (net : Instance) (live : ℕ → ℕ) (stays rounds loads skips rounds' loads' skips' : List ℕ) (here s round : ℕ) → IsSound net live → AreInOrder order net stays → here < net.stays → s ≡ get_or stays here 0 →
    AreSkips net loads skips' → net.arrival s ≤ round → round ≤ net.rounds + 1 → (round ≤ net.rounds → has_room net loads (net.device s) round ≡ true) → HasNoRoom net loads (net.device s) (net.arrival s) round →
    length loads' ≡ length loads → ((at : ℕ) → get_or loads at 0 ≤ get_or loads' at 0) →
    ((row r : ℕ) → row < rows net → 1 ≤ r → r ≤ net.rounds → get_or loads' (cell net.rounds row r) 0 ≡ get_or loads (cell net.rounds row r) 0 + cond (uses net row s && (round == r)) 1 0) →
    rounds' ≡ set rounds s round → IsPlacing order net stays rounds loads skips here → IsPlacing order net stays rounds' loads' skips' (here + 1)
IsPlacing-step order net live stays rounds loads skips rounds' loads' skips' here s round sound sorted less is passed arrived short room none size grown each made placing =
    let inside : s < net.stays = omega (arith, is, sorted.within here less) in
    let known : s < length rounds = omega (arith, placing.long) in
    let waits : get_or rounds s 0 ≡ 0 = ap (λ (k : ℕ). get_or rounds k 0) is ∙ placing.waiting here (omega arith) less in
    let own : get_or rounds' s 0 ≡ round = ap (λ (xs : List ℕ). get_or xs s 0) made ∙ get_or-set_same rounds s round 0 known in
    let others : (t : ℕ) → t ≢ s → get_or rounds' t 0 ≡ get_or rounds t 0 = λ t apart. ap (λ (xs : List ℕ). get_or xs t 0) made ∙ get_or-set_other rounds s t round 0 apart in
    let become : AreLoads net (slice_index rounds') net.stays loads' = subst (λ xs. AreLoads net (slice_index xs) net.stays loads') (sym made) (placed_loads net rounds loads loads' s round inside placing.long waits size each placing.loads_are) in
    -- the stays at other places of the order are others
    let first : (i : ℕ) → i < here → goes_before order net (get_or stays i 0) s ≡ true = λ i early. subst (λ (k : ℕ). goes_before order net (get_or stays i 0) k ≡ true) (sym is) (sorted.before i here early less) in
    let apart_before : (i : ℕ) → i < here → get_or stays i 0 ≢ s = λ i early e. false≢true (sym (goes_before-itself order net s) ∙ subst (λ (k : ℕ). goes_before order net k s ≡ true) e (first i early)) in
    let apart_after : (i : ℕ) → here < i → i < net.stays → get_or stays i 0 ≢ s = λ i later within e. false≢true (sym (goes_before-itself order net s) ∙ subst (λ (k : ℕ). goes_before order net s k ≡ true) e (subst (λ (k : ℕ). goes_before order net k (get_or stays i 0) ≡ true) (sym is) (sorted.before here i later within))) in
    -- what holds of the stay and of those before it holds of all up to it
    let up_to : (P : ℕ → Type 0) → ((i : ℕ) → i < here → P (get_or stays i 0)) → P s → (i : ℕ) → i < here + 1 → P (get_or stays i 0) = λ P before this i high. elim (cases_lt i here) [
      | inl early ↦ before i early
      | inr late ↦ let at : s ≡ get_or stays i 0 = is ∙ ap (λ (k : ℕ). get_or stays k 0) (let e : here ≡ i = omega arith in e) in subst P at this
    ] in
    record {
      long = ap length made ∙ length-set rounds s round ∙ placing.long;
      loads_are = become;
      skips_are = AreSkips-grown net loads loads' skips' grown passed;
      waiting = λ i late within. others (get_or stays i 0) (apart_after i (omega arith) within) ∙ placing.waiting i (omega arith) within;
      not_early = up_to (λ t. net.arrival t ≤ get_or rounds' t 0) (λ i early. omega (arith, others (get_or stays i 0) (apart_before i early), placing.not_early i early)) (omega arith);
      ends = up_to (λ t. get_or rounds' t 0 ≤ net.rounds + 1) (λ i early. omega (arith, others (get_or stays i 0) (apart_before i early), placing.ends i early)) (omega arith);
      rows_hold = λ row r within low high. placed_hold net live (slice_index rounds) (slice_index rounds') loads loads' s round row r within low high room (each row r within low high) placing.loads_are become (placing.rows_hold row r within low high);
      held_up = λ i r high. up_to (λ t. net.arrival t ≤ r → r < get_or rounds' t 0 → r ≤ net.rounds → IsHeldUp order net (slice_index rounds') t r)
          (λ i early low under last. kept_up order net (slice_index rounds) (slice_index rounds') s (get_or stays i 0) r (goes_before-back order net (get_or stays i 0) s (first i early)) others
          (placing.held_up i r early low (omega (arith, others (get_or stays i 0) (apart_before i early))) last))
          (λ low under last.
          let full : has_room net loads (net.device (get_or stays here 0)) r ≡ false = subst (λ (k : ℕ). has_room net loads (net.device k) r ≡ false) is (none r low (omega arith) last) in
          let held = next_held order net live stays rounds loads skips here r sound sorted less (omega (arith, sound.from_first s inside)) last full placing in
          kept_up order net (slice_index rounds) (slice_index rounds') s s r (goes_before-itself order net s) others (subst (λ (k : ℕ). IsHeldUp order net (slice_index rounds) k r) (sym is) held)) i high;
    }

-- before the first stay is placed
pub IsPlacing-none : (order : Order) (net : Instance) (stays rounds loads skips : List ℕ) (n cells : ℕ) → n ≡ net.stays → cells ≡ rows net * net.rounds → rounds ≡ replicate n 0 → loads ≡ replicate cells 0 → skips ≡ replicate cells 0 → IsPlacing order net stays rounds loads skips 0
IsPlacing-none order net stays rounds loads skips n cells long all rounds_are loads_are skips_are =
    let round : (t : ℕ) → get_or rounds t 0 ≡ 0 = λ t. none_counted rounds n t rounds_are in
    let skip : (at : ℕ) → get_or skips at 0 ≡ 0 = λ at. none_counted skips cells at skips_are in
    let empty : (row r : ℕ) → 1 ≤ r → load net (slice_index rounds) row r ≡ 0 = λ row r first. sum_below-zero net.stays _ (λ t less. ap (λ b. cond {A = ℕ} b 1 0) (and_right (uses net row t) (get_or rounds t 0 == r) (ne_eqb (get_or rounds t 0) r (λ e. omega (arith, round t))))) in
    record {
      long = ap length rounds_are ∙ length-replicate n 0 ∙ long;
      loads_are = record {
        cells = ap length loads_are ∙ length-replicate cells 0 ∙ all;
        each = λ row r within first last. none_counted loads cells (cell net.rounds row r) loads_are ∙ sym (empty row r first);
      };
      skips_are = record {
        cells = ap length skips_are ∙ length-replicate cells 0 ∙ all;
        ends = λ d r inside first last. omega (arith, skip (cell net.rounds d r));
        full = λ d r inside first last. λ q low high within. absurd (omega (arith, skip (cell net.rounds d r)));
      };
      waiting = λ i late within. round (get_or stays i 0);
      not_early = λ i early. absurd (omega arith);
      ends = λ i early. absurd (omega arith);
      rows_hold = λ row r within first last. omega (arith, empty row r first);
      held_up = λ i r early. absurd (omega arith);
    }

-- when all are placed
pub IsOrdered-placed : (order : Order) (net : Instance) (stays rounds loads skips : List ℕ) (here : ℕ) → here ≡ net.stays → AreInOrder order net stays → IsPlacing order net stays rounds loads skips here → IsOrdered order net (slice_index rounds)
IsOrdered-placed order net stays rounds loads skips here all sorted placing =
    let each : (P : ℕ → Type 0) → ((i : ℕ) → i < here → P (get_or stays i 0)) → (s : ℕ) → s < net.stays → P s = λ P holds s less.
    let there = sorted.place s less in
    subst P there.2 (holds there.0 (omega (arith, there.1))) in
    record {
      not_early = each (λ t. net.arrival t ≤ get_or rounds t 0) placing.not_early;
      ends = each (λ t. get_or rounds t 0 ≤ net.rounds + 1) placing.ends;
      rows_hold = placing.rows_hold;
      held_up = λ s r less. each (λ t. net.arrival t ≤ r → r < get_or rounds t 0 → r ≤ net.rounds → IsHeldUp order net (slice_index rounds) t r) (λ i early. placing.held_up i r early) s less;
    }

-- where all are sent in time
pub IsAdmissible-in_time : (order : Order) (net : Instance) (f : ℕ → ℕ) → IsOrdered order net f → unsent net f ≡ 0 → late net f ≡ 0 → IsAdmissible net f
IsAdmissible-in_time order net f by_order none_unsent none_late = record {
  not_early = by_order.not_early;
  not_late = λ s less.
      let sent : f s ≤ net.rounds = ltb-false net.rounds (f s) (count_below-none net.stays _ none_unsent s less) in
      elim (and_cases _ _ (count_below-none net.stays _ none_late s less)) [
        | inl in_time ↦ ltb-false (net.last s) (f s) in_time
        | inr not ↦ absurd (false≢true (sym not ∙ le-leb (f s) net.rounds sent))
      ];
  rows_hold = by_order.rows_hold;
}
