use Rattle.std.proofs.Common.{◌<◌, ◌^◌, ◌++◌, ℕ}
use Rattle.std.proofs.lemmas.List.Elements.{All-append}
use Rattle.std.proofs.lemmas.List.Sorted.{All-permutation}
use Rattle.slots.proofs.ListLemmas.{all_fit}
use Rattle.slots.proofs.changes.times_of.Goals as goal

pub returns-clause-fits : goal.returns-clause-fits
returns-clause-fits c =
    let a = c.args in
    let fit : ℕ → Type 0 = λ t. t < 2 ^ 64 in
    let begun = All-append fit a.starts.now a.«ends».now (all_fit _ c.type_inv.starts) (all_fit _ c.type_inv.«ends») in
    let all = All-append fit ((a.starts.now ++ a.«ends».now) ++ a.arrivals.now) a.leaves.now (All-append fit (a.starts.now ++ a.«ends».now) a.arrivals.now begun (all_fit _ c.type_inv.arrivals)) (all_fit _ c.type_inv.leaves) in
    let made = rw (c.in_ok-extend_from_slice-4.ensures.items, c.in_ok-extend_from_slice-3.ensures.items, c.in_ok-extend_from_slice-2.ensures.items, c.in_ok-extend_from_slice.ensures.items, c.new-times.ensures.items) at c.sorted.ensures.moved in
    All-permutation fit _ _ made all
