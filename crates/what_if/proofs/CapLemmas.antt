-- what rows take in a changed net
use Rattle.std.proofs.Common.{◌≡◌, ℕ, ◌+◌, ◌-◌, ◌*◌, ◌/◌, ◌%◌, ◌<◌, ◌≤◌, false, List, [], ◌∷◌, ◌++◌, length, take, get_or, refl, sym, ap, inl, inr, ◌∙◌, arith, zero-add, max, map, All, nat_lt, lt-ltb, slice_index}
use Rattle.std.proofs.lemmas.Bool.{cases_lt}
use Rattle.std.proofs.lemmas.Bool.Decides.{nat_tests}
use Rattle.std.proofs.lemmas.Grind.{take_at_read}
use Rattle.std.proofs.lemmas.List.{map-append}
use Rattle.std.proofs.lemmas.List.Elements.{All-weaker}
use Rattle.std.proofs.lemmas.List.FromFn.{get_or-map-range_with_len}
use Rattle.std.proofs.lemmas.Nat.{div-mul-add, mod-mul-add}
use Rattle.cam_types.specs.Topology.{Topology}
use Rattle.round_net.specs.Instance.{Instance}
use Rattle.round_net.specs.Nets.{cells}
use Rattle.round_net.specs.Rows.{cell}
use Rattle.round_net.specs.Sound.{IsSound}
use Rattle.round_net.proofs.CellLemmas.{cell_within}
use Rattle.round_net.proofs.RecordedLemmas.{cells_more}
use Rattle.what_if.specs.Changes.{Change, widened, openings_of}
use Rattle.what_if.specs.Below.{carried, together}
use Rattle.what_if.specs.Caps.{greatest, widest, own_cap, device_cap, adapter_cap, link_cap, changed_cap}
use Rattle.what_if.proofs.BelowLemmas.{IsBelow, device, adapter, before_above, each_carried, carried-device, together-same}

-- ---- the greatest

greatest-push : (n : ℕ) (xs : List ℕ) (x : ℕ) → greatest n (xs ++ x ∷ []) ≡ max (greatest n xs) x
greatest-push n [] x = omega arith
greatest-push n (y ∷ ys) x = omega (arith, greatest-push n ys x)

-- what one change more makes
pub widest_more : (c : Topology) (own : List Change) (most i cap openings wide : ℕ) (d : Change) → i < length own → cap ≡ widest c (take i own) most → openings ≡ openings_of c (get_or own i d).resource → wide ≡ widened (get_or own i d).widening openings most → max cap wide ≡ widest c (take (i + 1) own) most
unfolding widest
widest_more c own most i cap openings wide d lt so_far has is =
    let by : Change → ℕ = λ (change : Change). widened change.widening (openings_of c change.resource) most in
    let change : Change = get_or own i d in
    let here : wide ≡ by change = is ∙ ap (λ n. widened change.widening n most) has in
    rw (so_far, here) (sym (ap (λ xs. greatest most (map by xs)) (take_at_read own i d lt).1 ∙ ap (greatest most) (map-append by (take i own) (change ∷ [])) ∙ greatest-push most (map by (take i own)) (by change)))

-- ---- by the rows below

-- what a device's row takes, an adapter's, and a link's
changed-device : (net : Instance) (c : Topology) (changes : List Change) (row r : ℕ) → row < net.devices → changed_cap net c changes row r ≡ device_cap net c changes row r
unfolding changed_cap
changed-device net c changes row r lt = rw (lt-ltb row net.devices lt) refl

changed-adapter : (net : Instance) (c : Topology) (changes : List Change) (row r : ℕ) → net.devices ≤ row → row < net.devices + net.adapters → changed_cap net c changes row r ≡ adapter_cap net c changes row r
unfolding changed_cap
changed-adapter net c changes row r from lt =
    let past : nat_lt row net.devices ≡ false = grind (arith, nat_tests) in
    rw (past, lt-ltb row (net.devices + net.adapters) lt) refl

changed-link : (net : Instance) (c : Topology) (changes : List Change) (row r : ℕ) → net.devices + net.adapters ≤ row → changed_cap net c changes row r ≡ link_cap net c changes row r
unfolding changed_cap
changed-link net c changes row r from =
    let le : net.devices ≤ row = omega arith in
    let past : nat_lt row net.devices ≡ false = grind (arith, nat_tests) in
    let past' : nat_lt row (net.devices + net.adapters) ≡ false = grind (arith, nat_tests) in
    rw (past, past') refl

-- a device is below an adapter, and an adapter below a link
from_device : (net : Instance) (c : Topology) (changes : List Change) (row r part : ℕ) → row < net.devices + net.adapters → IsBelow net row part → device_cap net c changes part r ≡ changed_cap net c changes part r
from_device net c changes row r part within (device lt is) = sym (changed-device net c changes part r lt)
from_device net c changes row r part within (adapter l from inside is) = absurd (omega arith)

from_adapter : (net : Instance) (live : ℕ → ℕ) (c : Topology) (changes : List Change) (row r part : ℕ) → IsSound net live → net.devices + net.adapters ≤ row → IsBelow net row part → adapter_cap net c changes part r ≡ changed_cap net c changes part r
from_adapter net live c changes row r part sound past (device lt is) = absurd (omega (arith, sound.on_adapter part lt))
from_adapter net live c changes row r part sound past (adapter l from inside is) = sym (changed-adapter net c changes part r from inside)

-- what a row takes by what those take that it carries
pub cap_by_carried : (net : Instance) (live : ℕ → ℕ) (c : Topology) (changes : List Change) (row r : ℕ) → IsSound net live → changed_cap net c changes row r ≡ max (own_cap net c changes row r) (together (λ part. changed_cap net c changes part r) (carried net row))
unfolding device_cap adapter_cap link_cap
cap_by_carried net live c changes row r sound = elim (cases_lt row net.devices) [
  | inl own ↦ changed-device net c changes row r own ∙ rw (carried-device net row own) (omega arith)
  | inr from ↦ elim (cases_lt row (net.devices + net.adapters)) [
    | inl lt ↦
        let same = together-same (λ part. device_cap net c changes part r) (λ part. changed_cap net c changes part r) (carried net row) (All-weaker (IsBelow net row) _ (λ part. from_device net c changes row r part lt) (carried net row) (each_carried net row)) in
        changed-adapter net c changes row r from lt ∙ ap (max (own_cap net c changes row r)) same
    | inr past ↦
        let same = together-same (λ part. adapter_cap net c changes part r) (λ part. changed_cap net c changes part r) (carried net row) (All-weaker (IsBelow net row) _ (λ part. from_adapter net live c changes row r part sound past) (carried net row) (each_carried net row)) in
        changed-link net c changes row r past ∙ ap (max (own_cap net c changes row r)) same
  ]
]

-- ---- the table so far

-- what stands at a round of a row in a table that isn't done
cell-cells : (rounds : ℕ) (value : ℕ → ℕ → ℕ) (n row r : ℕ) → cell rounds row r < n → 1 ≤ r → r ≤ rounds → slice_index (cells rounds value n) (cell rounds row r) ≡ value row r
unfolding cells
cell-cells rounds value n row r within first last =
    let lt : r - 1 < rounds = omega arith in
    let d : cell rounds row r / rounds ≡ row = div-mul-add row rounds (r - 1) lt in
    let m : cell rounds row r % rounds ≡ r - 1 = mod-mul-add row rounds (r - 1) lt in
    let back : r - 1 + 1 ≡ r = omega arith in
    get_or-map-range_with_len (λ at. value (at / rounds) (at % rounds + 1)) 0 n (cell rounds row r) (cell rounds row r) 0 within (zero-add (cell rounds row r)) ∙ rw (d, m, back) refl

-- the rows that a row carries stand before it there
pub carried_within : (net : Instance) (row r size : ℕ) → row * net.rounds ≤ size → 1 ≤ r → r ≤ net.rounds → All (λ part. cell net.rounds part r < size) (carried net row)
carried_within net row r size all first last =
    All-weaker (IsBelow net row) (λ part. cell net.rounds part r < size) (λ part is. let lt = cell_within net.rounds row part r (before_above net row part is) first last in omega arith) (carried net row) (each_carried net row)

pub together_so_far : (net : Instance) (value : ℕ → ℕ → ℕ) (caps : List ℕ) (row r n : ℕ) → caps ≡ cells net.rounds value n → row * net.rounds ≤ n → 1 ≤ r → r ≤ net.rounds → together (λ part. slice_index caps (cell net.rounds part r)) (carried net row) ≡ together (λ part. value part r) (carried net row)
together_so_far net value caps row r n is all first last =
    together-same (λ part. slice_index caps (cell net.rounds part r)) (λ part. value part r) (carried net row)
    (All-weaker (IsBelow net row) _ (λ part inside.
    let lt = cell_within net.rounds row part r (before_above net row part inside) first last in
    ap (λ xs. slice_index xs (cell net.rounds part r)) is ∙ cell-cells net.rounds value n part r (omega arith) first last) (carried net row) (each_carried net row))

-- a round of a row more
pub cells-next : (rounds : ℕ) (value : ℕ → ℕ → ℕ) (caps : List ℕ) (row before cap : ℕ) → before < rounds → caps ≡ cells rounds value (row * rounds + before) → cap ≡ value row (before + 1) → caps ++ cap ∷ [] ≡ cells rounds value (row * rounds + (before + 1))
cells-next rounds value caps row before cap lt so_far here =
    let at : ℕ = row * rounds + before in
    let d : at / rounds ≡ row = div-mul-add row rounds before lt in
    let m : at % rounds ≡ before = mod-mul-add row rounds before lt in
    let next : at + 1 ≡ row * rounds + (before + 1) = omega arith in
    cells_more rounds value caps at cap so_far (here ∙ rw (d, m) refl) ∙ ap (cells rounds value) next
