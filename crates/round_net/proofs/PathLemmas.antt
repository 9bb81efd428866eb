-- the rows that a stay uses
use Rattle.std.proofs.Common.{◌≡◌, ◌≢◌, ℕ, ◌+◌, ◌*◌, ◌<◌, ◌≤◌, Bool, true, false, List, [], ◌∷◌, Option, Some, None, refl, ap, ◌∙◌, arith, ◌==◌, ◌||◌, sum_by, All, eq-eqb, ne_eqb}
use Rattle.std.specs.List.{list_any}
use Rattle.std.specs.Option.{option_map_or}
use Rattle.std.proofs.lemmas.Bool.Decides.{nat_tests}
use Rattle.std.proofs.lemmas.List.Elements.{All-nil, All-cons}
use Rattle.round_net.specs.Sums.{sum_below, sum_to}
use Rattle.round_net.specs.Instance.{Instance, rows, adapter, link, adapter_resource, link_resource, link_rows, path, uses}
use Rattle.round_net.specs.Schedules.{load}
use Rattle.round_net.specs.Value.{Pricing}
use Rattle.round_net.specs.Sound.{IsSound}
use Rattle.round_net.proofs.ExchangeLemmas.{AreDistinct, exchange}

-- an adapter's link is the net's, if it is on one
abbrev pub IsOnLink : Instance → ℕ → Type 0
IsOnLink net a = (l : ℕ) → net.link_of a ≡ Some l → l < net.links

-- each is a row of the net, if the stay's device, adapter and link are the net's
link-within : (net : Instance) (a : ℕ) → IsOnLink net a → All (λ row. row < rows net) (link_rows net a)
link-within net a on = elim (net.link_of a) as (λ o. ((l : ℕ) → o ≡ Some l → l < net.links) → All (λ row. row < rows net) (option_map_or (λ l. link_resource net l ∷ []) o [])) [
  | None ↦ λ h. All-nil (λ row. row < rows net)
  | Some l ↦ λ h. let lt = h l refl in All-cons (λ row. row < rows net) (link_resource net l) [] (omega arith) (All-nil (λ row. row < rows net))
] on

pub path-within : (net : Instance) (s : ℕ) → net.device s < net.devices → adapter net s < net.adapters → IsOnLink net (adapter net s) → All (λ row. row < rows net) (path net s)
path-within net s device adapter' on =
    let P : ℕ → Type 0 = λ row. row < rows net in
    let links : List ℕ = link_rows net (adapter net s) in
    All-cons P (net.device s) (adapter_resource net (adapter net s) ∷ links) (omega arith) (All-cons P (adapter_resource net (adapter net s)) links (omega arith) (link-within net (adapter net s) on))

pub path-inside : (net : Instance) (live : ℕ → ℕ) (s : ℕ) → IsSound net live → s < net.stays → All (λ row. row < rows net) (path net s)
path-inside net live s sound within =
    let device = sound.on_device s within in
    path-within net s device (sound.on_adapter (net.device s) device) (sound.on_link (adapter net s))

-- a row before those of the links is none of them
before_links : (net : Instance) (a row : ℕ) → row < net.devices + net.adapters → list_any (λ own. own == row) (link_rows net a) ≡ false
before_links net a row before = elim (net.link_of a) as (λ o. list_any (λ own. own == row) (option_map_or (λ l. link_resource net l ∷ []) o []) ≡ false) [
  | None ↦ refl
  | Some l ↦ let apart : link_resource net l ≢ row = (λ e. omega arith) in rw (ne_eqb (link_resource net l) row apart) refl
]

-- none stands on the path twice
links-distinct : (net : Instance) (a : ℕ) → AreDistinct (link_rows net a)
links-distinct net a = elim (net.link_of a) as (λ o. AreDistinct (option_map_or (λ l. link_resource net l ∷ []) o [])) [ None ↦ tt | Some l ↦ (refl, tt) ]

pub path-distinct : (net : Instance) (s : ℕ) → net.device s < net.devices → adapter net s < net.adapters → AreDistinct (path net s)
path-distinct net s device adapter' =
    let apart : adapter_resource net (adapter net s) ≢ net.device s = (λ e. omega arith) in (
      rw (ne_eqb (adapter_resource net (adapter net s)) (net.device s) apart) (before_links net (adapter net s) (net.device s) (omega arith)),
      (before_links net (adapter net s) (adapter_resource net (adapter net s)) (omega arith), links-distinct net (adapter net s)),
    )

-- a stay uses its device's row, its adapter's row, and that of its link, if it has one
or_true : (b : Bool) → (b || true) ≡ true
or_true true = refl
or_true false = refl

or_false : (b : Bool) → (b || false) ≡ b
or_false true = refl
or_false false = refl

pub uses-device : (net : Instance) (s : ℕ) → uses net (net.device s) s ≡ true
uses-device net s = rw (eq-eqb (net.device s) (net.device s) refl) refl

pub uses-adapter : (net : Instance) (s : ℕ) → uses net (adapter_resource net (adapter net s)) s ≡ true
uses-adapter net s = rw (eq-eqb (adapter_resource net (adapter net s)) (adapter_resource net (adapter net s)) refl) (or_true (net.device s == adapter_resource net (adapter net s)))

pub uses-link : (net : Instance) (s l : ℕ) → link net s ≡ Some l → uses net (link_resource net l) s ≡ true
uses-link net s l is =
    rw (is, eq-eqb (link_resource net l) (link_resource net l) refl) (ap (λ b. (net.device s == link_resource net l) || b) (or_true (adapter_resource net (adapter net s) == link_resource net l)) ∙ or_true (net.device s == link_resource net l))

-- and of the devices' rows no other one, of the adapters' rows no other one, and of the links' rows no other one
pub uses-device_resource : (net : Instance) (row s : ℕ) → row < net.devices → uses net row s ≡ (net.device s == row)
uses-device_resource net row s within =
    let apart : adapter_resource net (adapter net s) ≢ row = (λ e. omega arith) in
    rw (ne_eqb (adapter_resource net (adapter net s)) row apart, before_links net (adapter net s) row (omega arith)) (or_false (net.device s == row))

pub uses-adapter_resource : (net : Instance) (a s : ℕ) → net.device s < net.devices → a < net.adapters → uses net (adapter_resource net a) s ≡ (adapter net s == a)
uses-adapter_resource net a s device within =
    let apart : net.device s ≢ adapter_resource net a = (λ e. omega arith) in
    rw (ne_eqb (net.device s) (adapter_resource net a) apart, before_links net (adapter net s) (adapter_resource net a) (omega arith)) (or_false (adapter_resource net (adapter net s) == adapter_resource net a) ∙ same_adapter)
  where
    same_adapter : (adapter_resource net (adapter net s) == adapter_resource net a) ≡ (adapter net s == a)
    same_adapter = grind (arith, nat_tests)

pub uses-link_resource : (net : Instance) (l s : ℕ) → net.device s < net.devices → adapter net s < net.adapters → uses net (link_resource net l) s ≡ option_map_or (λ k. k == l) (link net s) false
uses-link_resource net l s device adapter' =
    let from_device : net.device s ≢ link_resource net l = (λ e. omega arith) in
    let from_adapter : adapter_resource net (adapter net s) ≢ link_resource net l = (λ e. omega arith) in
    rw (ne_eqb (net.device s) (link_resource net l) from_device, ne_eqb (adapter_resource net (adapter net s)) (link_resource net l) from_adapter) (of_links (link net s))
  where
    same_link : (k : ℕ) → (link_resource net k == link_resource net l) ≡ (k == l)
    same_link k = grind (arith, nat_tests)

    of_links : (o : Option ℕ) → list_any (λ own. own == link_resource net l) (option_map_or (λ k. link_resource net k ∷ []) o []) ≡ option_map_or (λ k. k == l) o false
    of_links None = refl
    of_links (Some k) = or_false (link_resource net k == link_resource net l) ∙ same_link k

-- what all stays' rows are worth, each in the stay's round, is over all rows and rounds load times worth
pub exchange_path : (net : Instance) (live f : ℕ → ℕ) (p : Pricing) → IsSound net live → ((s : ℕ) → s < net.stays → (1 ≤ f s) × (f s ≤ net.rounds)) →
    sum_below net.stays (λ s. sum_by (λ row. p row (f s)) (path net s)) ≡ sum_below (rows net) (λ row. sum_to net.rounds (λ r. load net f row r * p row r))
exchange_path net live f p sound inside =
    exchange net.stays (rows net) net.rounds (path net) f p (λ s within.
    let rounds = inside s within in
    (path-inside net live s sound within, distinct s within, rounds.0, rounds.1))
  where
    distinct : (s : ℕ) → s < net.stays → AreDistinct (path net s)
    distinct s within = let device = sound.on_device s within in path-distinct net s device (sound.on_adapter (net.device s) device)
