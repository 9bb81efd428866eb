-- the spans of levels, as one change of the lowest one with a gap makes them
use Rattle.std.proofs.Common.{◌≡◌, ℕ, ◌+◌, ◌-◌, ◌/◌, ◌<◌, ◌≤◌, ◌==◌, ◌&&◌, Bool, true, false, cond, min, List, [], ◌++◌, length, slice_index, refl, sym, ap, ◌∙◌, arith, inl, inr, nat_lt, nat_le, append_assoc, length-append}
use Rattle.std.specs.List.{count_by, sum_by, flat_map, range_with_len}
use Rattle.std.proofs.lemmas.Bool.{cases_lt, cases_eq, le-leb, lt-leb, lt-ltb, le-ltb}
use Rattle.std.proofs.lemmas.List.{append-nil}
use Rattle.std.proofs.lemmas.List.Concat.{flat_map-append, length-flat_map}
use Rattle.slots.specs.Gaps.{begins, beginnings, span_end, spare_within, spare_of, round_at}
use Rattle.slots.specs.Changes.{IsOver, spare_by}
use Rattle.slots.specs.Tallies.{Clock, IsTally, MOST_SPARE}
use Rattle.slots.proofs.TallyLemmas.{count-append, length-spaced}
use Rattle.slots.proofs.RangeLemmas.{range-add, sum-same, sum-balance, sum-below, sum-most, sum-within, within, count-flat, count-all}
use Rattle.slots.proofs.SpanLemmas.{weight, begun_sum, gap_of, span_end-is, begins-is, begins-goes_on, begins-none, begun_sum-same, begun_sum-one, div-le}

-- what a level's open span adds
abbrev pub pending : (ℕ → Bool) → ℕ → (ℕ → ℕ) → ℕ → ℕ → List ℕ → ℕ → ℕ
pending p service level last low begun k = cond (nat_le low k) (weight p service (gap_of level k) last (slice_index begun k)) 0

-- up to where the time of a level is counted
abbrev pub reach : ℕ → List ℕ → ℕ → ℕ → ℕ
reach low begun n k = cond (nat_le low k) (slice_index begun k) n

-- All times before one are gone through: the spare starts of the spans that have ended are in the tally, and of the levels from the
-- lowest one on the begins of their spans are known.
pub record IsAt (level : ℕ → ℕ) (clock : Clock) (slots : ℕ) (begun row : List ℕ) (total low n : ℕ) : Type 0 where
  pub times : List ℕ
  pub tally : IsTally clock times row total
  pub few : length times ≤ sum_by (reach low begun n) (range_with_len 1 slots)
  pub now : (t : ℕ) → n ≡ t + 1 → level t ≡ low
  pub start : n ≡ 0 → low ≡ slots + 1
  pub lowest : 1 ≤ low
  pub highest : low ≤ slots + 1
  pub long : length begun ≡ slots + 1
  pub opened : (k t : ℕ) → low ≤ k → k ≤ slots → slice_index begun k ≤ t → t < n → level t ≤ k
  pub began : (k : ℕ) → low ≤ k → k ≤ slots → slice_index begun k < n
  pub sums : (last : ℕ) (p : ℕ → Bool) → IsOver level slots last → count_by p times + sum_by (pending p clock.service level last low begun) (range_with_len 1 slots) ≡ sum_by (λ k. begun_sum p clock.service (gap_of level k) last n) (range_with_len 1 slots)

pub IsAt-start : (level : ℕ → ℕ) (clock : Clock) (slots : ℕ) (begun row : List ℕ) (total low : ℕ) → IsTally clock [] row total → length begun ≡ slots + 1 → low ≡ slots + 1 → IsAt level clock slots begun row total low 0
IsAt-start level clock slots begun row total low tally long none = record {
  times = [];
  tally = tally;
  few = omega arith;
  now = λ t is. absurd (omega arith);
  start = λ _. none;
  lowest = omega arith;
  highest = omega arith;
  long = long;
  opened = λ k t at le _ lt. absurd (omega arith);
  began = λ k at le. absurd (omega arith);
  sums = λ last p over. let same = sum-same (pending p clock.service level last low begun) (λ k. begun_sum p clock.service (gap_of level k) last 0) 1 slots (λ k some less. rw (lt-leb low k (omega arith)) refl) in omega (arith, same);
}

-- ---- one change

-- a number lies in a part that is gone through
part_none : (from to k : ℕ) → to ≤ from → (nat_le from k && nat_lt k to) ≡ false
part_none from to k none = elim (cases_lt k to) [
  | inl below ↦ rw (lt-leb from k (omega arith)) refl
  | inr above ↦ rw (le-ltb k to above) (elim (nat_le from k) as (λ b. b && false ≡ false) [ true ↦ refl | false ↦ refl ])
]

pub in_part_all : (from to at k : ℕ) → to ≤ at → (from ≤ to → at ≤ to) → (to ≤ from → at ≡ from) → (nat_le from k && nat_lt k at) ≡ (nat_le from k && nat_lt k to)
in_part_all from to at k past some none = elim (cases_lt from to) [
  | inl less ↦ let all = some (omega arith) in let same : at ≡ to = omega arith in ap (λ n. nat_le from k && nat_lt k n) same
  | inr empty ↦ let same = none empty in part_none from at k (omega arith) ∙ sym (part_none from to k empty)
]

-- one level more
flat-more : (f : ℕ → List ℕ) (from level : ℕ) → from ≤ level → flat_map f (range_with_len from (level + 1 - from)) ≡ flat_map f (range_with_len from (level - from)) ++ f level
flat-more f from level le =
    let more : level + 1 - from ≡ (level - from) + 1 = omega arith in
    let next : from + (level - from) ≡ level = omega arith in
    ap (λ n. flat_map f (range_with_len from n)) more ∙ ap (flat_map f) (range-add from (level - from) 1) ∙ flat_map-append f (range_with_len from (level - from)) (range_with_len (from + (level - from)) 1) ∙ ap (λ k. flat_map f (range_with_len from (level - from)) ++ flat_map f (range_with_len k 1)) next ∙ ap (λ ts. flat_map f (range_with_len from (level - from)) ++ ts) (append-nil (f level))

pub ended_more : (clock : Clock) (begun : List ℕ) (from level at : ℕ) (times row made : List ℕ) (total more : ℕ) → from ≤ level → IsTally clock (times ++ flat_map (λ k. spare_within clock.service (slice_index begun k) at) (range_with_len from (level - from))) row total → ((ts : List ℕ) → IsTally clock ts row total → IsTally clock (ts ++ spare_within clock.service (slice_index begun level) at) made more) → IsTally clock (times ++ flat_map (λ k. spare_within clock.service (slice_index begun k) at) (range_with_len from (level + 1 - from))) made more
ended_more clock begun from level at times row made total more le h add =
    let f : ℕ → List ℕ = λ k. spare_within clock.service (slice_index begun k) at in
    rw (flat-more f from level le, ← append_assoc times (flat_map f (range_with_len from (level - from))) (f level)) (add (times ++ flat_map f (range_with_len from (level - from))) h)

pub ended_all : (clock : Clock) (begun : List ℕ) (from to level at : ℕ) (times row : List ℕ) (total : ℕ) → to ≤ level → (from ≤ to → level ≤ to) → (to ≤ from → level ≡ from) → IsTally clock (times ++ flat_map (λ k. spare_within clock.service (slice_index begun k) at) (range_with_len from (level - from))) row total → IsTally clock (times ++ flat_map (λ k. spare_within clock.service (slice_index begun k) at) (range_with_len from (to - from))) row total
ended_all clock begun from to level at times row total past some none h =
    let same : to - from ≡ level - from = elim (cases_lt from to) [
      | inl less ↦ let all = some (omega arith) in omega arith
      | inr empty ↦ let is = none empty in omega arith
    ] in
    rw same h

-- what a change does to the begins of spans
abbrev pub begun_after : List ℕ → List ℕ → ℕ → ℕ → ℕ → Type 0
begun_after begun made now low at = (k : ℕ) → slice_index made k ≡ cond (nat_le now k && nat_lt k low) at (slice_index begun k)

begun_kept : (begun made : List ℕ) (now low at k : ℕ) → begun_after begun made now low at → low ≤ k → slice_index made k ≡ slice_index begun k
begun_kept begun made now low at k after above = after k ∙ rw (le-ltb k low above) (elim (nat_le now k) as (λ b. cond (b && false) at (slice_index begun k) ≡ slice_index begun k) [ true ↦ refl | false ↦ refl ])

begun_made : (begun made : List ℕ) (now low at k : ℕ) → begun_after begun made now low at → now ≤ k → k < low → slice_index made k ≡ at
begun_made begun made now low at k after above below = after k ∙ rw (le-leb now k above, lt-ltb k low below) refl

-- what ends at a change, by level
abbrev ended : (ℕ → Bool) → ℕ → List ℕ → ℕ → ℕ → ℕ
ended p service begun at k = count_by p (spare_within service (slice_index begun k) at)

-- What is known of a change: the levels stay as they are up to before it, and it is the level from then on.
pub record IsNext (level : ℕ → ℕ) (slots low now n at : ℕ) : Type 0 where
  pub later : n ≤ at + 1
  pub same : (t : ℕ) → n ≤ t + 1 → t < at → level t ≡ low
  pub own : level at ≡ now
  pub lowest : 1 ≤ now
  pub highest : now ≤ slots + 1

-- at a time that was gone through nothing changes
next_same : (level : ℕ → ℕ) (clock : Clock) (slots : ℕ) (begun row : List ℕ) (total low now n at : ℕ) → IsAt level clock slots begun row total low n → IsNext level slots low now n at → n ≡ at + 1 → now ≡ low
next_same level clock slots begun row total low now n at h next is = sym next.own ∙ h.now at is

-- the gaps of a level before a change and at it
gap_before : (level : ℕ → ℕ) (slots low now n at k t : ℕ) → IsNext level slots low now n at → n ≤ t + 1 → t < at → gap_of level k t ≡ nat_le low k
gap_before level slots low now n at k t next from to = ap (λ l. nat_le l k) (next.same t from to)

gap_at : (level : ℕ → ℕ) (slots low now n at k : ℕ) → IsNext level slots low now n at → gap_of level k at ≡ nat_le now k
gap_at level slots low now n at k next = ap (λ l. nat_le l k) next.own

-- no span of a level begins before a change
none_begins : (level : ℕ → ℕ) (clock : Clock) (slots : ℕ) (begun row : List ℕ) (total low now n at k t : ℕ) → IsAt level clock slots begun row total low n → IsNext level slots low now n at → k ≤ slots → n ≤ t → t < at → begins (gap_of level k) t ≡ false
none_begins level clock slots begun row total low now n at k t h next within' from to = elim (cases_lt k low) [
  | inl below ↦ begins-none (gap_of level k) t (gap_before level slots low now n at k t next (omega arith) to ∙ lt-leb low k below)
  | inr above ↦
      let some : 0 < t = elim (cases_eq n 0) [ inl first ↦ absurd (let none = h.start first in omega arith) | inr later ↦ let l = later in omega arith ] in
      begins-goes_on (gap_of level k) t some (gap_before level slots low now n at k (t - 1) next (omega arith) (omega arith) ∙ le-leb low k above)
]

-- one level at one change
level_step : (level : ℕ → ℕ) (clock : Clock) (slots : ℕ) (begun made row : List ℕ) (total low now n at last k : ℕ) (p : ℕ → Bool) → IsAt level clock slots begun row total low n → IsNext level slots low now n at → begun_after begun made now low at → IsOver level slots last → 1 ≤ k → k ≤ slots → pending p clock.service level last now made k + within low now (ended p clock.service begun at) k + begun_sum p clock.service (gap_of level k) last n ≡ pending p clock.service level last low begun k + begun_sum p clock.service (gap_of level k) last (at + 1)
level_step level clock slots begun made row total low now n at last k p h next after over some within' =
    let gap : ℕ → Bool = gap_of level k in
    let service : ℕ = clock.service in
    let ended_gap : (t : ℕ) → last ≤ t → gap t ≡ false = λ t le. lt-leb (level t) k (let o = over t le in omega arith) in
    elim (cases_lt at n) [
      | inl through ↦
          let is : n ≡ at + 1 = let l = next.later in omega arith in
          let same = next_same level clock slots begun row total low now n at h next is in
          let kept : slice_index made k ≡ slice_index begun k = elim (cases_lt k low) [
            | inr above ↦ begun_kept begun made now low at k after above
            | inl below ↦ after k ∙ rw (lt-leb now k (omega arith)) refl
          ] in
          let none : within low now (ended p service begun at) k ≡ 0 = elim (cases_lt k low) [
            | inl below ↦ rw (lt-leb low k below) refl
            | inr above ↦ rw (le-ltb k now (omega arith)) (elim (nat_le low k) as (λ b. cond (b && false) (ended p service begun at k) 0 ≡ 0) [ true ↦ refl | false ↦ refl ])
          ] in
          let open' : pending p service level last now made k ≡ pending p service level last low begun k = ap (λ l. cond (nat_le l k) (weight p service gap last (slice_index made k)) 0) same ∙ ap (λ b. cond (nat_le low k) (weight p service gap last b) 0) kept in
          let sum' : begun_sum p service gap last n ≡ begun_sum p service gap last (at + 1) = ap (begun_sum p service gap last) is in
          omega (arith, none, open', sum')
      | inr ahead ↦
          let so_far : begun_sum p service gap last at ≡ begun_sum p service gap last n = begun_sum-same p service gap last n at ahead (λ t from to. none_begins level clock slots begun row total low now n at k t h next within' from to) in
          let one = begun_sum-one p service gap last at in
          let here = gap_at level slots low now n at k next in
          elim (cases_lt k low) [
            | inl below ↦ elim (cases_lt k now) [
              | inl shut ↦
                  let b : begins gap at ≡ false = begins-none gap at (here ∙ lt-leb now k shut) in
                  let x : cond (begins gap at) (weight p service gap last at) 0 ≡ 0 = ap (λ v. cond v (weight p service gap last at) 0) b in
                  let y : pending p service level last now made k ≡ 0 = rw (lt-leb now k shut) refl in
                  let z : pending p service level last low begun k ≡ 0 = rw (lt-leb low k below) refl in
                  let w : within low now (ended p service begun at) k ≡ 0 = rw (lt-leb low k below) refl in
                  omega (arith, so_far, one, x, y, z, w)
              | inr opens ↦
                  let b : begins gap at ≡ true = begins-is gap at (here ∙ le-leb now k opens) (λ some'. gap_before level slots low now n at k (at - 1) next (omega arith) (omega arith) ∙ lt-leb low k below) in
                  let x : cond (begins gap at) (weight p service gap last at) 0 ≡ weight p service gap last at = ap (λ v. cond v (weight p service gap last at) 0) b in
                  let y : pending p service level last now made k ≡ weight p service gap last at = rw (le-leb now k opens) (ap (weight p service gap last) (begun_made begun made now low at k after opens below)) in
                  let z : pending p service level last low begun k ≡ 0 = rw (lt-leb low k below) refl in
                  let w : within low now (ended p service begun at) k ≡ 0 = rw (lt-leb low k below) refl in
                  omega (arith, so_far, one, x, y, z, w)
            ]
            | inr open_before ↦
                let began = h.began k open_before within' in
                let all : (t : ℕ) → slice_index begun k ≤ t → t < at → gap t ≡ true = λ t from to. elim (cases_lt t n) [
                  | inl early ↦ le-leb (level t) k (h.opened k t open_before within' from early)
                  | inr late ↦ gap_before level slots low now n at k t next (omega arith) to ∙ le-leb low k open_before
                ] in
                let z : pending p service level last low begun k ≡ weight p service gap last (slice_index begun k) = rw (le-leb low k open_before) refl in
                elim (cases_lt k now) [
                  | inl shut ↦
                      let none : gap at ≡ false = here ∙ lt-leb now k shut in
                      let b : begins gap at ≡ false = begins-none gap at none in
                      let x : cond (begins gap at) (weight p service gap last at) 0 ≡ 0 = ap (λ v. cond v (weight p service gap last at) 0) b in
                      let y : pending p service level last now made k ≡ 0 = rw (lt-leb now k shut) refl in
                      let end' = span_end-is gap last (slice_index begun k) at (omega arith) all none ended_gap in
                      let w : within low now (ended p service begun at) k ≡ weight p service gap last (slice_index begun k) = rw (le-leb low k open_before, lt-ltb k now shut) (ap (λ e. count_by p (spare_within service (slice_index begun k) e)) (sym end')) in
                      omega (arith, so_far, one, x, y, z, w)
                  | inr opens ↦
                      let b : begins gap at ≡ false = begins-goes_on gap at (omega arith) (all (at - 1) (omega arith) (omega arith)) in
                      let x : cond (begins gap at) (weight p service gap last at) 0 ≡ 0 = ap (λ v. cond v (weight p service gap last at) 0) b in
                      let y : pending p service level last now made k ≡ weight p service gap last (slice_index begun k) = rw (le-leb now k opens) (ap (weight p service gap last) (begun_kept begun made now low at k after open_before)) in
                      let w : within low now (ended p service begun at) k ≡ 0 = rw (le-ltb k now opens) (elim (nat_le low k) as (λ v. cond (v && false) (ended p service begun at k) 0 ≡ 0) [ true ↦ refl | false ↦ refl ]) in
                      omega (arith, so_far, one, x, y, z, w)
                ]
          ]
    ]

-- the time that is counted of one level at one change
reach_step : (level : ℕ → ℕ) (clock : Clock) (slots : ℕ) (begun made row : List ℕ) (total low now n at k : ℕ) → IsAt level clock slots begun row total low n → IsNext level slots low now n at → begun_after begun made now low at → 1 ≤ clock.service → 1 ≤ k → k ≤ slots → reach low begun n k + within low now (λ j. length (spare_within clock.service (slice_index begun j) at)) k ≤ reach now made (at + 1) k
reach_step level clock slots begun made row total low now n at k h next after service some within' =
    let f : ℕ → ℕ = λ j. length (spare_within clock.service (slice_index begun j) at) in
    elim (cases_lt at n) [
      | inl through ↦
          let is : n ≡ at + 1 = let l = next.later in omega arith in
          let same = next_same level clock slots begun row total low now n at h next is in
          elim (cases_lt k low) [
            | inl below ↦
                let x : reach low begun n k ≡ n = rw (lt-leb low k below) refl in
                let y : within low now f k ≡ 0 = rw (lt-leb low k below) refl in
                let z : reach now made (at + 1) k ≡ at + 1 = rw (lt-leb now k (omega arith)) refl in
                omega arith
            | inr above ↦
                let x : reach low begun n k ≡ slice_index begun k = rw (le-leb low k above) refl in
                let y : within low now f k ≡ 0 = rw (le-ltb k now (omega arith)) (elim (nat_le low k) as (λ b. cond (b && false) (f k) 0 ≡ 0) [ true ↦ refl | false ↦ refl ]) in
                let z : reach now made (at + 1) k ≡ slice_index made k = rw (le-leb now k (omega arith)) refl in
                let w = begun_kept begun made now low at k after above in
                omega arith
          ]
      | inr ahead ↦ elim (cases_lt k low) [
        | inl below ↦
            let x : reach low begun n k ≡ n = rw (lt-leb low k below) refl in
            let y : within low now f k ≡ 0 = rw (lt-leb low k below) refl in
            elim (cases_lt k now) [
              | inl shut ↦
                  let z : reach now made (at + 1) k ≡ at + 1 = rw (lt-leb now k shut) refl in
                  omega arith
              | inr opens ↦
                  let z : reach now made (at + 1) k ≡ slice_index made k = rw (le-leb now k opens) refl in
                  let w = begun_made begun made now low at k after opens below in
                  omega arith
            ]
        | inr above ↦
            let x : reach low begun n k ≡ slice_index begun k = rw (le-leb low k above) refl in
            let began = h.began k above within' in
            elim (cases_lt k now) [
              | inl shut ↦
                  let z : reach now made (at + 1) k ≡ at + 1 = rw (lt-leb now k shut) refl in
                  let y : within low now f k ≡ f k = rw (le-leb low k above, lt-ltb k now shut) refl in
                  let long = length-spaced clock.service (slice_index begun k) ((at - slice_index begun k) / clock.service) in
                  let few = div-le (at - slice_index begun k) clock.service service in
                  omega (arith, x, y, z, long, few, began, ahead)
              | inr opens ↦
                  let y : within low now f k ≡ 0 = rw (le-ltb k now opens) (elim (nat_le low k) as (λ b. cond (b && false) (f k) 0 ≡ 0) [ true ↦ refl | false ↦ refl ]) in
                  let z : reach now made (at + 1) k ≡ slice_index made k = rw (le-leb now k opens) refl in
                  let w = begun_kept begun made now low at k after above in
                  omega arith
            ]
      ]
    ]

-- the state after a change
pub IsAt-step : (level : ℕ → ℕ) (clock : Clock) (slots : ℕ) (begun made row new_row : List ℕ) (total new_total low now n at : ℕ) → IsAt level clock slots begun row total low n → IsNext level slots low now n at → 1 ≤ clock.service → length made ≡ length begun → begun_after begun made now low at → ((times : List ℕ) → IsTally clock times row total → IsTally clock (times ++ flat_map (λ k. spare_within clock.service (slice_index begun k) at) (range_with_len low (now - low))) new_row new_total) → IsAt level clock slots made new_row new_total now (at + 1)
IsAt-step level clock slots begun made row new_row total new_total low now n at h next service long after add =
    let f : ℕ → List ℕ = λ k. spare_within clock.service (slice_index begun k) at in
    let some = h.lowest in
    let most = next.highest in
    record {
      times = h.times ++ flat_map f (range_with_len low (now - low));
      tally = add h.times h.tally;
      few =
          let whole = length-append h.times (flat_map f (range_with_len low (now - low))) in
          let parts = length-flat_map f (range_with_len low (now - low)) in
          let same = sum-within (λ k. length (f k)) slots low now some most in
          let each = sum-below (reach low begun n) (within low now (λ k. length (f k))) (reach now made (at + 1)) 1 slots (λ k from to. reach_step level clock slots begun made row total low now n at k h next after service from (omega arith)) in
          let before = h.few in
          omega (arith, whole, parts, same, each, before);
      now = λ t is. let same : t ≡ at = omega arith in ap level same ∙ next.own;
      start = λ is. absurd (omega arith);
      lowest = next.lowest;
      highest = next.highest;
      long = long ∙ h.long;
      opened = λ k t above within' from to. elim (cases_lt k low) [
        | inl below ↦
            let is = begun_made begun made now low at k after above below in
            let same : t ≡ at = omega arith in
            let own = ap level same ∙ next.own in
            omega arith
        | inr before ↦
            let is = begun_kept begun made now low at k after before in
            elim (cases_lt t n) [
              | inl early ↦ h.opened k t before within' (omega arith) early
              | inr late ↦ elim (cases_lt t at) [
                | inl still ↦ let same = next.same t (omega arith) still in omega arith
                | inr here ↦ let same : t ≡ at = omega arith in let own = ap level same ∙ next.own in omega arith
              ]
            ]
      ];
      began = λ k above within'. elim (cases_lt k low) [
        | inl below ↦ let is = begun_made begun made now low at k after above below in omega arith
        | inr before ↦ let is = begun_kept begun made now low at k after before in let began = h.began k before within' in let l = next.later in omega arith
      ];
      sums = λ last p over.
          let before = h.sums last p over in
          let whole = count-append p h.times (flat_map f (range_with_len low (now - low))) in
          let parts = count-flat p f (range_with_len low (now - low)) in
          let same = sum-within (ended p clock.service begun at) slots low now some most in
          let each = sum-balance (pending p clock.service level last now made) (within low now (ended p clock.service begun at)) (λ k. begun_sum p clock.service (gap_of level k) last n) (pending p clock.service level last low begun) (λ k. begun_sum p clock.service (gap_of level k) last (at + 1)) 1 slots (λ k from to. level_step level clock slots begun made row total low now n at last k p h next after over from (omega arith)) in
          omega (arith, before, whole, parts, same, each);
    }

-- the state at the end: all spans have ended
pub IsAt-over : (level : ℕ → ℕ) (clock : Clock) (slots : ℕ) (begun row : List ℕ) (total low n last : ℕ) → IsAt level clock slots begun row total low n → ((t : ℕ) → n ≤ t + 1 → level t ≡ low) → IsOver level slots last → IsTally clock (spare_by level slots clock.service last) row total
IsAt-over level clock slots begun row total low n last h rest over =
    let none : slots < low = elim (cases_lt last n) [
      | inl past ↦ let o = over n (omega arith) in let same = rest n (omega arith) in omega arith
      | inr before ↦ let o = over last (omega arith) in let same = rest last (omega arith) in omega arith
    ] in
    let same : (p : ℕ → Bool) → count_by p h.times ≡ count_by p (spare_by level slots clock.service last) = λ p.
    let all = h.sums last p over in
    let zero' = sum-most (pending p clock.service level last low begun) 0 1 slots (λ k from to. let closed : pending p clock.service level last low begun k ≡ 0 = rw (lt-leb low k (omega arith)) refl in omega arith) in
    let ends = sum-same (λ k. begun_sum p clock.service (gap_of level k) last n) (λ k. begun_sum p clock.service (gap_of level k) last last) 1 slots (λ k from to. elim (cases_lt last n) [
      | inl past ↦ begun_sum-same p clock.service (gap_of level k) last last n (omega arith) (λ t le lt. begins-none (gap_of level k) t (lt-leb (level t) k (let o = over t le in omega arith)))
      | inr before ↦ sym (begun_sum-same p clock.service (gap_of level k) last n last before (λ t le lt. begins-none (gap_of level k) t (lt-leb (level t) k (let r = rest t (omega arith) in omega arith))))
    ]) in
    let levels = count-flat p (λ k. spare_of clock.service (gap_of level k) last) (range_with_len 1 slots) in
    let each = sum-same (λ k. count_by p (spare_of clock.service (gap_of level k) last)) (λ k. begun_sum p clock.service (gap_of level k) last last) 1 slots (λ k _ _. count-flat p (λ from. spare_within clock.service from (span_end (gap_of level k) last from)) (beginnings (gap_of level k) last)) in
    omega (arith, all, zero', ends, levels, each) in
    record {
      rows = record { each = λ round less. h.tally.rows.each round less ∙ ap (min MOST_SPARE) (same (λ t. round_at clock.span clock.begin t == round)) };
      all = h.tally.all ∙ sym (count-all h.times) ∙ same (λ _. true) ∙ count-all (spare_by level slots clock.service last);
    }
