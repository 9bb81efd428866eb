-- Worths that are filled in from the last round on.
use Rattle.std.proofs.Common.{◌≡◌, ◌≢◌, ℕ, ◌+◌, ◌-◌, ◌*◌, ◌<◌, ◌≤◌, List, length, get_or, set, slice_index, Option, Some, None, refl, sym, ap, ◌∙◌, subst, inl, inr, arith, get_or-set_same, get_or-set_other, mul-le-mul_right}
use Rattle.std.proofs.lemmas.Bool.{cases_eq}
use Rattle.std.proofs.Math.ListN.{length-set}
use Rattle.cam_types.specs.declared.limits.TheConstants.{MAX_WEIGHT}
use Rattle.round_net.specs.Instance.{Instance, rows}
use Rattle.round_net.specs.Rows.{cell}
use Rattle.round_net.specs.Sound.{IsSound}
use Rattle.round_net.proofs.CellLemmas.{cell_in, cell-injective}
use Rattle.orders.specs.ClosedPrices.{IsFirstAfter}
use Rattle.orders.specs.FirstWaiting.{IsFirstOrNobody, AreFirsts}
use Rattle.orders.specs.Worth.{worth_at, IsWorth, IsSmallWorth}

-- so far: in the rounds after one
pub record IsFilling (net : Instance) (f : ℕ → ℕ) (d : ℕ) (firsts : List (Option ℕ)) (old now : List ℕ) (round : ℕ) : Type 0 where
  pub long : length now ≡ length old
  pub within : round ≤ net.rounds
  pub own : (r : ℕ) → round < r → r ≤ net.rounds → IsWorth net f d now r (get_or firsts r None)
  pub most : (r : ℕ) → round < r → r ≤ net.rounds → worth_at net now d r ≤ MAX_WEIGHT * (net.rounds - r)
  pub blank : (r : ℕ) → 1 ≤ r → r ≤ round → worth_at net now d r ≡ 0
  pub others : (row r : ℕ) → row ≢ d → 1 ≤ r → r ≤ net.rounds → worth_at net now row r ≡ worth_at net old row r
  pub small : IsSmallWorth net old → IsSmallWorth net now

pub IsFilling-begun : (net : Instance) (f : ℕ → ℕ) (d : ℕ) (firsts : List (Option ℕ)) (old : List ℕ) (round : ℕ) → round ≡ net.rounds → ((r : ℕ) → 1 ≤ r → r ≤ net.rounds → worth_at net old d r ≡ 0) → IsFilling net f d firsts old old round
IsFilling-begun net f d firsts old round is blank = record {
  long = refl;
  within = omega (arith, is);
  own = λ r low high. absurd (omega arith);
  most = λ r low high. absurd (omega arith);
  blank = λ r low high. blank r low (omega arith);
  others = λ row r apart low high. refl;
  small = λ h. h;
}

-- a round in which nobody waits
pub IsFilling-none : (net : Instance) (f : ℕ → ℕ) (d : ℕ) (firsts : List (Option ℕ)) (old now : List ℕ) (round : ℕ) → 1 ≤ round → get_or firsts round None ≡ None → IsFilling net f d firsts old now round → IsFilling net f d firsts old now (round - 1)
IsFilling-none net f d firsts old now round some none so_far = record {
  long = so_far.long;
  within = omega (arith, so_far.within);
  own = λ r low high. elim (cases_eq r round) [
    | inl same ↦ subst (λ (x : ℕ). IsWorth net f d now x (get_or firsts x None)) (sym same) (subst (IsWorth net f d now round) (sym none) (so_far.blank round some (omega arith)))
    | inr other ↦ so_far.own r (omega arith) high
  ];
  most = λ r low high. elim (cases_eq r round) [
    | inl same ↦ omega (arith, ap (worth_at net now d) same, so_far.blank round some (omega arith))
    | inr other ↦ so_far.most r (omega arith) high
  ];
  blank = λ r low high. so_far.blank r low (omega arith);
  others = so_far.others;
  small = so_far.small;
}

-- the bound of one more
pub room : (weight goes round rounds later : ℕ) → weight ≤ MAX_WEIGHT → round ≤ goes → goes ≤ rounds → later ≤ MAX_WEIGHT * (rounds - goes) → weight * (goes - round) + later ≤ MAX_WEIGHT * (rounds - round)
room weight goes round rounds later light order last most =
    let span = mul-le-mul_right (goes - round) light in
    let e : goes - round + (rounds - goes) ≡ rounds - round = omega arith in
    let product : MAX_WEIGHT * (goes - round + (rounds - goes)) ≡ MAX_WEIGHT * (rounds - round) = ap (λ (n : ℕ). MAX_WEIGHT * n) e in
    omega arith

-- a round in which somebody waits
pub IsFilling-some : (net : Instance) (live f : ℕ → ℕ) (d : ℕ) (firsts : List (Option ℕ)) (old now new : List ℕ) (round h : ℕ) → IsSound net live → d < net.devices → AreFirsts net f d firsts → ((s : ℕ) → s < net.stays → f s ≤ net.rounds) → length old ≡ rows net * net.rounds → 1 ≤ round → get_or firsts round None ≡ Some h → IsFilling net f d firsts old now round →
    new ≡ set now (cell net.rounds d round) (net.weight h * (f h - round) + worth_at net now d (f h)) → IsFilling net f d firsts old new (round - 1)
IsFilling-some net live f d firsts old now new round h sound inside are all_sent cells some is so_far made =
    let first : IsFirstAfter net f d round h = subst (IsFirstOrNobody net f d round) is (are round some so_far.within) in
    let sent : f h ≤ net.rounds = all_sent h first.waits.within in
    let value : ℕ = net.weight h * (f h - round) + worth_at net now d (f h) in
    let goes = first.waits.later in
    let at : ℕ = cell net.rounds d round in
    let known : at < length now = cell_in now net.rounds (rows net) d round (so_far.long ∙ cells) (omega arith) some so_far.within in
    let here : worth_at net new d round ≡ value = ap (λ (xs : List ℕ). slice_index xs at) made ∙ get_or-set_same now at value 0 known in
    let elsewhere : (k : ℕ) → k ≢ at → slice_index new k ≡ slice_index now k = λ k apart. ap (λ (xs : List ℕ). slice_index xs k) made ∙ get_or-set_other now at k value 0 apart in
    let later : (r : ℕ) → 1 ≤ r → r ≤ net.rounds → r ≢ round → worth_at net new d r ≡ worth_at net now d r = λ r low high apart. elsewhere (cell net.rounds d r) (λ e. apart (cell-injective net.rounds d r d round low high some so_far.within e).1) in
    let after : worth_at net new d (f h) ≡ worth_at net now d (f h) = later (f h) (omega arith) sent (omega arith) in
    let bound = room (net.weight h) (f h) round net.rounds (worth_at net now d (f h)) (sound.small_weight h first.waits.within) (omega arith) sent (so_far.most (f h) goes sent) in
    record {
      long = ap length made ∙ length-set now at value ∙ so_far.long;
      within = omega (arith, so_far.within);
      own = λ r low high. elim (cases_eq r round) [
        | inl same ↦ subst (λ (x : ℕ). IsWorth net f d new x (get_or firsts x None)) (sym same) (subst (IsWorth net f d new round) (sym is) (omega (arith, here, after)))
        | inr other ↦
            let same_r = later r (omega arith) high other in
            let go : (o : Option ℕ) → IsFirstOrNobody net f d r o → IsWorth net f d now r o → IsWorth net f d new r o = λ o. elim o as (λ (x : Option ℕ). IsFirstOrNobody net f d r x → IsWorth net f d now r x → IsWorth net f d new r x) [
              | None ↦ λ nobody before. same_r ∙ before
              | Some k ↦ λ one before.
                  let past = one.waits.later in
                  let then_worth = later (f k) (omega arith) (all_sent k one.waits.within) (omega arith) in
                  omega (arith, same_r, before, then_worth)
            ] in
            go (get_or firsts r None) (are r (omega arith) high) (so_far.own r (omega arith) high)
      ];
      most = λ r low high. elim (cases_eq r round) [
        | inl same ↦ omega (arith, ap (worth_at net new d) same, here, bound, ap (λ (x : ℕ). MAX_WEIGHT * (net.rounds - x)) same)
        | inr other ↦ omega (arith, later r (omega arith) high other, so_far.most r (omega arith) high)
      ];
      blank = λ r low high. later r low (omega (arith, so_far.within)) (omega arith) ∙ so_far.blank r low (omega arith);
      others = λ row r apart low high. elsewhere (cell net.rounds row r) (λ e. apart (cell-injective net.rounds row r d round low high some so_far.within e).0) ∙ so_far.others row r apart low high;
      small = λ h0 k. elim (cases_eq k at) [
        | inl same ↦
            let span : MAX_WEIGHT * (net.rounds - round) ≤ MAX_WEIGHT * net.rounds = omega arith in
            omega (arith, ap (slice_index new) same, here, bound, span)
        | inr other ↦ omega (arith, elsewhere k other, so_far.small h0 k)
      ];
    }
