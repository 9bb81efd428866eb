-- Worths of one device after another, and the prices that they are.
use Rattle.std.proofs.Common.{◌≡◌, ℕ, ◌+◌, ◌*◌, ◌<◌, ◌≤◌, List, length, get_or, slice_index, All, Option, Some, None, sym, ◌∙◌, subst, inl, inr, arith}
use Rattle.std.proofs.lemmas.Bool.{cases_eq}
use Rattle.std.proofs.lemmas.List.{get_or_default}
use Rattle.std.proofs.Math.Nat.{le-mul_of_pos_right}
use Rattle.cam_types.specs.declared.limits.TheConstants.{MAX_WEIGHT}
use Rattle.round_net.specs.Instance.{Instance, rows}
use Rattle.round_net.specs.Rows.{cell}
use Rattle.round_net.specs.Sound.{IsSound, longest_path}
use Rattle.orders.specs.ClosedPrices.{IsClosedPrice, AreClosedPrices}
use Rattle.orders.specs.FirstWaiting.{IsFirstOrNobody, AreFirsts}
use Rattle.orders.specs.Worth.{worth_at, IsWorth, IsSmallWorth, IsFilled}

-- the devices before one have their worths, and all other rows have none
pub record AreWorths (net : Instance) (f : ℕ → ℕ) (device : ℕ) (worth : List ℕ) : Type 0 where
  pub cells : length worth ≡ rows net * net.rounds
  pub closed : (d r : ℕ) → d < device → 1 ≤ r → r ≤ net.rounds → IsClosedPrice net f (worth_at net worth) d r
  pub none : (row r : ℕ) → device ≤ row → row < rows net → 1 ≤ r → r ≤ net.rounds → worth_at net worth row r ≡ 0
  pub small : IsSmallWorth net worth

pub AreWorths-none : (net : Instance) (f : ℕ → ℕ) (worth : List ℕ) → length worth ≡ rows net * net.rounds → ((at : ℕ) → slice_index worth at ≡ 0) → AreWorths net f 0 worth
AreWorths-none net f worth cells zero_at = record {
  cells = cells;
  closed = λ d r less. absurd (omega arith);
  none = λ row r low high first last. zero_at (cell net.rounds row r);
  small = λ at. omega (arith, zero_at at);
}

-- a price in closed form by who waits first
IsClosedPrice-of : (net : Instance) (f : ℕ → ℕ) (d r : ℕ) (worth : List ℕ) (o : Option ℕ) → IsFirstOrNobody net f d r o → IsWorth net f d worth r o → IsClosedPrice net f (worth_at net worth) d r
IsClosedPrice-of net f d r worth None nobody is = inl (nobody, is)
IsClosedPrice-of net f d r worth (Some h) first is = inr (h, first, is)

-- a price of another device stays in closed form
IsClosedPrice-kept : (net : Instance) (f : ℕ → ℕ) (d r : ℕ) (old new : List ℕ) → ((q : ℕ) → 1 ≤ q → q ≤ net.rounds → worth_at net new d q ≡ worth_at net old d q) → ((s : ℕ) → s < net.stays → f s ≤ net.rounds) → 1 ≤ r → r ≤ net.rounds → IsClosedPrice net f (worth_at net old) d r → IsClosedPrice net f (worth_at net new) d r
IsClosedPrice-kept net f d r old new same sent first last is = elim is [
  | inl nobody ↦ inl (nobody.0, same r first last ∙ nobody.1)
  | inr found ↦
      let later = found.1.waits.later in
      let there = same (f found.0) (omega arith) (sent found.0 found.1.waits.within) in
      inr (found.0, found.1, omega (arith, same r first last, there, found.2))
]

pub AreWorths-more : (net : Instance) (f : ℕ → ℕ) (device : ℕ) (firsts : List (Option ℕ)) (old new : List ℕ) → ((s : ℕ) → s < net.stays → f s ≤ net.rounds) → AreFirsts net f device firsts → AreWorths net f device old → IsFilled net f device firsts old new → AreWorths net f (device + 1) new
AreWorths-more net f device firsts old new sent are before filled = record {
  cells = filled.long ∙ before.cells;
  closed = λ d r less first last. elim (cases_eq d device) [
    | inl same ↦ subst (λ (x : ℕ). IsClosedPrice net f (worth_at net new) x r) (sym same) (IsClosedPrice-of net f device r new (get_or firsts r None) (are r first last) (filled.own r first last))
    | inr other ↦ IsClosedPrice-kept net f d r old new (λ q low high. filled.others d q other low high) sent first last (before.closed d r (omega arith) first last)
  ];
  none = λ row r low high first last. filled.others row r (omega arith) first last ∙ before.none row r (omega arith) high first last;
  small = filled.small before.small;
}

-- no worth is above the largest price
longest-most : (net : Instance) → MAX_WEIGHT * net.rounds ≤ longest_path net
unfolding longest_path
longest-most net = le-mul_of_pos_right (MAX_WEIGHT * net.rounds) (let some : 0 < rows net * (net.rounds + 1) + 1 = omega arith in some)

pub AreWorths-small : (net : Instance) (live f : ℕ → ℕ) (device : ℕ) (worth : List ℕ) → IsSound net live → AreWorths net f device worth → All (λ price. price ≤ net.max_price) worth
AreWorths-small net live f device worth sound is = λ k d h. omega (arith, get_or_default worth k d 0 h, is.small k, longest-most net, sound.price_room)

pub AreWorths-closed : (net : Instance) (f : ℕ → ℕ) (device : ℕ) (worth : List ℕ) → device ≡ net.devices → AreWorths net f device worth → AreClosedPrices net f (worth_at net worth)
AreWorths-closed net f device worth all is = record {
  devices = λ d r inside first last. is.closed d r (omega (arith, all)) first last;
  others = λ row r past inside first last. is.none row r (omega (arith, all)) inside first last;
}
