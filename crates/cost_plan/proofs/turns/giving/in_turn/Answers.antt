use Rattle.std.proofs.Common.{ℕ, ◌<◌, ◌≤◌, List, length, get_or, refl, subst, arith}
use Rattle.std.proofs.lemmas.List.{get_or_read}
use Rattle.cost_plan.specs.Slots.{Skips, IsFree, AreGiven}
use Rattle.cost_plan.proofs.TurnLemmas.{IsGiving-more, HaveSameRounds-permutation}
use Rattle.cost_plan.proofs.turns.giving.in_turn.Goals as goal

pub loop-turn-preserved : goal.loop-turn-preserved
loop-turn-preserved c =
    let giving = c.loop-turn.invariant in
    let turn = c.loop-turn.turn in
    let from = c.first_slot-from.result in
    let slot = c.free_slot-slot.result in
    let arrival = get_or c.args.arrivals.now turn 0 in
    let sorted = c.deref.ensures.value in
    let held = c.deref-in-loop-turn.ensures.value in
    let Before : List ℕ → Type 0 = λ xs. (s : ℕ) → s < from → get_or xs s 0 < arrival in
    let Rest : List ℕ → Type 0 = λ xs. (s : ℕ) → from ≤ s → s < length xs → arrival ≤ get_or xs s 0 in
    let Skip : List ℕ → Type 0 = λ xs. Skips xs turn c.free_slot-slot.new.next.items in
    let Free : List ℕ → Type 0 = λ xs. IsFree xs turn slot in
    let First : List ℕ → Type 0 = λ xs. AreGiven xs turn from slot in
    let free = subst Free held c.free_slot-slot.ensures.free in
    IsGiving-more _ _ _ _ _ _ _ _ _ _ _ turn from slot arrival c.index-other.result.now c.index-own.result.now
    (omega arith) refl
    (subst Before sorted c.first_slot-from.ensures.before) (subst Rest sorted c.first_slot-from.ensures.rest)
    (subst Skip held c.free_slot-slot.ensures.skips) free c.free_slot-slot.ensures.later (subst First held c.free_slot-slot.ensures.first)
    (get_or_read _ slot _ free.0 c.index-other.ensures 0) (get_or_read _ turn _ (omega (arith, giving.held.long_places, giving.long)) c.index-own.ensures 0)
    c.swap.ensures.items c.swap-in-loop-turn.ensures.items c.swap-in-loop-turn-2.ensures.items giving

pub returns-clause-same : goal.returns-clause-same
returns-clause-same c = HaveSameRounds-permutation _ _ c.loop-turn.invariant.permutation
