-- the spans of levels, as all changes make them in turn
use Rattle.std.proofs.Common.{◌≡◌, ℕ, ◌+◌, ◌-◌, ◌*◌, ◌<◌, ◌≤◌, ◌&&◌, cond, List, [], ◌++◌, length, slice_index, get_or, take, drop, refl, sym, ap, ◌∙◌, arith, inl, inr, nat_lt, nat_le, ◌^◌}
use Rattle.std.specs.List.{flat_map, range_with_len}
use Rattle.std.proofs.lemmas.Bool.{cases_lt, le-leb, lt-leb}
use Rattle.std.proofs.lemmas.List.{get_or_default, drop_more, drop_all, take_at}
use Rattle.slots.specs.Gaps.{spare_within, round_at}
use Rattle.slots.specs.Changes.{Change, lowest_by, level_at, AreLevels, IsOver, spare_by, AreInRounds}
use Rattle.slots.specs.Tallies.{Clock, IsTally}
use Rattle.slots.proofs.RangeLemmas.{sum-most}
use Rattle.slots.proofs.ChangeLemmas.{no_change}
use Rattle.slots.proofs.LevelLemmas.{IsAt, IsAt-start, IsAt-step, IsAt-over, IsNext, begun_after, reach}

-- so far through the changes
pub record IsSweeping (slots : ℕ) (clock : Clock) (changes : List Change) (begun row : List ℕ) (total low place : ℕ) : Type 0 where
  pub n : ℕ
  pub at : IsAt (level_at changes slots) clock slots begun row total low n
  pub small : n ≤ 2 ^ 64
  pub ahead : (k : ℕ) (d : Change) → place ≤ k → k < length changes → n ≤ (get_or changes k d).at + 1
  pub rest : (t : ℕ) → n ≤ t + 1 → level_at changes slots t ≡ lowest_by (drop place changes) low t

pub IsSweeping-start : (slots : ℕ) (clock : Clock) (changes : List Change) (begun row : List ℕ) (total low : ℕ) → IsTally clock [] row total → length begun ≡ slots + 1 → low ≡ slots + 1 → IsSweeping slots clock changes begun row total low 0
IsSweeping-start slots clock changes begun row total low tally long none = record {
  n = 0;
  at = IsAt-start (level_at changes slots) clock slots begun row total low tally long none;
  small = omega arith;
  ahead = λ k d _ _. omega arith;
  rest = λ t _. ap (λ l. lowest_by changes l t) (sym none);
}

-- the next change
pub next_change : (slots : ℕ) (clock : Clock) (changes : List Change) (begun row : List ℕ) (total low place : ℕ) (d : Change) → (h : IsSweeping slots clock changes begun row total low place) → AreLevels slots changes → place < length changes → IsNext (level_at changes slots) slots low (get_or changes place d).lowest h.n (get_or changes place d).at
next_change slots clock changes begun row total low place d h levels less = record {
  later = h.ahead place d (omega arith) less;
  same = λ t from to. h.rest t from ∙ ap (λ cs. lowest_by cs low t) (drop_more changes place d less) ∙ rw (lt-leb (get_or changes place d).at t to) refl;
  own = sym (levels.own place d less);
  lowest = levels.lowest place d less;
  highest = levels.highest place d less;
}

pub IsSweeping-step : (slots : ℕ) (clock : Clock) (changes : List Change) (begun made row new_row : List ℕ) (total new_total low place : ℕ) (d : Change) → IsSweeping slots clock changes begun row total low place → AreLevels slots changes → place < length changes → (get_or changes place d).at < 2 ^ 64 → 1 ≤ clock.service → length made ≡ length begun → begun_after begun made (get_or changes place d).lowest low (get_or changes place d).at → ((times : List ℕ) → IsTally clock times row total → IsTally clock (times ++ flat_map (λ k. spare_within clock.service (slice_index begun k) (get_or changes place d).at) (range_with_len low ((get_or changes place d).lowest - low))) new_row new_total) → IsSweeping slots clock changes made new_row new_total (get_or changes place d).lowest (place + 1)
IsSweeping-step slots clock changes begun made row new_row total new_total low place d h levels less small service long after add =
    let c : Change = get_or changes place d in
    let next = next_change slots clock changes begun row total low place d h levels less in
    record {
      n = c.at + 1;
      at = IsAt-step (level_at changes slots) clock slots begun made row new_row total new_total low c.lowest h.n c.at h.at next service long after add;
      small = omega arith;
      ahead = λ k e from to.
          let order = levels.order place k d (omega arith) to in
          let same = ap (λ (x : Change). x.at) (get_or_default changes k d e to) in
          omega (arith, order, same);
      rest = λ t from.
          let passed : c.at ≤ t = omega arith in
          h.rest t (let l = next.later in omega arith) ∙ ap (λ cs. lowest_by cs low t) (drop_more changes place d less) ∙ rw (le-leb c.at t passed) refl;
    }

-- what the spans that end at the next change need
pub ends_in_rounds : (slots : ℕ) (clock : Clock) (changes : List Change) (begun row : List ℕ) (total low place rounds : ℕ) (d : Change) → IsSweeping slots clock changes begun row total low place → AreLevels slots changes → place < length changes → AreInRounds (level_at changes slots) slots clock rounds → (k : ℕ) → low ≤ k → k < (get_or changes place d).lowest → (clock.begin ≤ slice_index begun k) × (slice_index begun k ≤ (get_or changes place d).at) × (round_at clock.span clock.begin (get_or changes place d).at ≤ rounds)
ends_in_rounds slots clock changes begun row total low place rounds d h levels less in_rounds k above below =
    let c : Change = get_or changes place d in
    let level = level_at changes slots in
    let next = next_change slots clock changes begun row total low place d h levels less in
    let within' : k ≤ slots = let m = next.highest in omega arith in
    let began = h.at.began k above within' in
    let later = next.later in
    let opened = h.at.opened k (slice_index begun k) above within' (omega arith) began in (
      in_rounds.begun (slice_index begun k) (omega arith),
      omega arith,
      elim (cases_lt c.at h.n) [
        | inl through ↦ absurd (let same = h.at.now c.at (omega arith) in let own = next.own in omega arith)
        | inr ahead ↦
            let before = next.same (c.at - 1) (omega arith) (omega arith) in
            let ended' = in_rounds.ended (c.at - 1) (omega arith) in
            let same : c.at - 1 + 1 ≡ c.at = omega arith in
            rw same at ended'
      ],
    )

-- the total fits
pub total_fits : (slots : ℕ) (clock : Clock) (changes : List Change) (begun row : List ℕ) (total low place : ℕ) → IsSweeping slots clock changes begun row total low place → total ≤ slots * 18446744073709551616
total_fits slots clock changes begun row total low place h =
    let small = h.small in
    let few = h.at.few in
    let all = h.at.tally.all in
    let each = sum-most (reach low begun h.n) 18446744073709551616 1 slots (λ k from to. elim (cases_lt k low) [
      | inl below ↦ let x : reach low begun h.n k ≡ h.n = rw (lt-leb low k below) refl in omega arith
      | inr above ↦ let x : reach low begun h.n k ≡ slice_index begun k = rw (le-leb low k above) refl in let began = h.at.began k above (omega arith) in omega arith
    ]) in
    omega (arith, few, all, each)

pub IsSweeping-over : (slots : ℕ) (clock : Clock) (changes : List Change) (begun row : List ℕ) (total low place last : ℕ) → IsSweeping slots clock changes begun row total low place → length changes ≤ place → IsOver (level_at changes slots) slots last → IsTally clock (spare_by (level_at changes slots) slots clock.service last) row total
IsSweeping-over slots clock changes begun row total low place last h all over = IsAt-over (level_at changes slots) clock slots begun row total low h.n last h.at (λ t from. h.rest t from ∙ ap (λ cs. lowest_by cs low t) (drop_all place changes all)) over

-- what a call wrote to all of a list
pub written_back : (old lent new made : List ℕ) (len : ℕ) → len ≡ length old → lent ≡ old → length new ≡ length lent → made ≡ take len (new ++ drop (length new) old) → made ≡ new
written_back old lent new made len long same size is = is ∙ take_at new (drop (length new) old) len (omega (arith, ap length same))

-- one change, by what the calls did to the tally and to the begins of spans
pub IsSweeping-calls : (slots : ℕ) (clock : Clock) (changes : List Change) (begun lent lent_too new made row new_row : List ℕ) (total new_total low place : ℕ) → IsSweeping slots clock changes begun row total low place → AreLevels slots changes → place < length changes → (get_or changes place no_change).at < 2 ^ 64 → 1 ≤ clock.service → lent ≡ begun → lent_too ≡ begun → length new ≡ length lent_too → begun_after lent_too new (get_or changes place no_change).lowest low (get_or changes place no_change).at → made ≡ new → ((times : List ℕ) → IsTally clock times row total → IsTally clock (times ++ flat_map (λ k. spare_within clock.service (slice_index lent k) (get_or changes place no_change).at) (range_with_len low ((get_or changes place no_change).lowest - low))) new_row new_total) → IsSweeping slots clock changes made new_row new_total (get_or changes place no_change).lowest (place + 1)
IsSweeping-calls slots clock changes begun lent lent_too new made row new_row total new_total low place h levels less small service same same_too size after whole add =
    let long : length made ≡ length begun = ap length whole ∙ size ∙ ap length same_too in
    let c : Change = get_or changes place no_change in
    let begins' : begun_after begun made c.lowest low c.at = λ k. ap (λ xs. slice_index xs k) whole ∙ after k ∙ ap (λ xs. cond (nat_le c.lowest k && nat_lt k low) c.at (slice_index xs k)) same_too in
    let adds : (times : List ℕ) → IsTally clock times row total → IsTally clock (times ++ flat_map (λ k. spare_within clock.service (slice_index begun k) c.at) (range_with_len low (c.lowest - low))) new_row new_total = λ times is. rw same at (add times is) in
    IsSweeping-step slots clock changes begun made row new_row total new_total low place no_change h levels less small service long begins' adds

-- the same of a change that is that of its place
pub IsSweeping-known : (slots : ℕ) (clock : Clock) (changes : List Change) (begun lent lent_too new made row new_row : List ℕ) (total new_total low place : ℕ) (change : Change) → change ≡ get_or changes place no_change → IsSweeping slots clock changes begun row total low place → AreLevels slots changes → place < length changes → change.at < 2 ^ 64 → 1 ≤ clock.service → lent ≡ begun → lent_too ≡ begun → length new ≡ length lent_too → begun_after lent_too new change.lowest low change.at → made ≡ new → ((times : List ℕ) → IsTally clock times row total → IsTally clock (times ++ flat_map (λ k. spare_within clock.service (slice_index lent k) change.at) (range_with_len low (change.lowest - low))) new_row new_total) → IsSweeping slots clock changes made new_row new_total change.lowest (place + 1)
IsSweeping-known slots clock changes begun lent lent_too new made row new_row total new_total low place change is h levels less small service same same_too size after whole add =
    rw is (IsSweeping-calls slots clock changes begun lent lent_too new made row new_row total new_total low place h levels less (rw is at small) service same same_too size (rw is at after) whole (rw is at add))
