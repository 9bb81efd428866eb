use Rattle.std.proofs.Common.{◌≡◌, ℕ, ◌+◌, ◌<◌, ◌≤◌, ◌==◌, ◌&&◌, true, cond, ◌∙◌, List, length, refl, ap, subst, arith, replicate, get_or}
use Rattle.round_net.specs.Instance.{rows, uses}
use Rattle.round_net.specs.Rows.{cell, instance_of_rows, live_of_rows}
use Rattle.round_net.proofs.MarkLemmas.{written_back}
use Rattle.orders.specs.Keys.{AreInOrder}
use Rattle.orders.specs.Room.{has_room, HasNoRoom, AreSkips}
use Rattle.orders.proofs.PlacingLemmas.{IsPlacing-none, IsPlacing-step, IsOrdered-placed}
use Rattle.orders.proofs.by_order.rounds_of.Goals as goal

pub loop-stay-init : goal.loop-stay-init
loop-stay-init c =
    let net = instance_of_rows c.args.net.now in
    let rounds : c.in_ok-rounds.rounds.items ≡ replicate c.len.result 0 = c.in_ok-rounds.ensures.items_if_clones_equal (λ y is. is) in
    let loads : c.in_ok-loads.loads.items ≡ replicate c.cells.result 0 = c.in_ok-loads.ensures.items_if_clones_equal (λ y is. is) in
    let skips : c.in_ok-skips.skips.items ≡ replicate c.cells.result 0 = c.in_ok-skips.ensures.items_if_clones_equal (λ y is. is) ∙ rw (c.cells-2.ensures, c.cells.ensures) refl in
    IsPlacing-none c.args.order net c.deref-stay-items.result.now c.in_ok-rounds.rounds.items c.in_ok-loads.loads.items c.in_ok-skips.skips.items c.len.result c.cells.result (omega (arith, c.in_ok-stays.ensures.long)) c.cells.ensures rounds loads skips

pub loop-stay-preserved : goal.loop-stay-preserved
loop-stay-preserved c =
    let net = instance_of_rows c.args.net.now in
    let stays = c.deref-stay-items.result.now in
    let here = c.loop-stay.stay-index in
    let s = get_or stays here 0 in
    let round = c.first_round-round.result in
    let old = c.loop-stay.loads.items in
    let new = c.place.new.loads in
    let first = c.first_round-round.ensures in
    let found : c.deref.result.now ≡ old = c.deref.ensures.value in
    let passed : AreSkips net old c.first_round-round.new.skips = subst (λ (xs : List ℕ). AreSkips net xs c.first_round-round.new.skips) found first.skips in
    let room : round ≤ net.rounds → has_room net old (net.device s) round ≡ true = subst (λ (xs : List ℕ). round ≤ net.rounds → has_room net xs (net.device s) round ≡ true) found first.room in
    let none : HasNoRoom net old (net.device s) (net.arrival s) round = subst (λ (xs : List ℕ). HasNoRoom net xs (net.device s) (net.arrival s) round) found first.first in
    let begun : c.deref_mut-in-loop-stay.result.now ≡ old = c.deref_mut-in-loop-stay.ensures.value in
    let grown : (at : ℕ) → get_or old at 0 ≤ get_or new at 0 = subst (λ (xs : List ℕ). (at : ℕ) → get_or xs at 0 ≤ get_or new at 0) begun c.place.ensures.grows in
    let size : length new ≡ length old = c.place.auto.loads ∙ ap length begun in
    let sorted : AreInOrder c.args.order net stays = rw c.deref-stay-items.ensures.value c.in_ok-stays.ensures in
    let loads = written_back new old c.loop-stay.loads.len (c.place.auto.loads ∙ c.deref_mut-in-loop-stay.ensures.len) in
    let skips = written_back c.first_round-round.new.skips c.loop-stay.skips.items c.loop-stay.skips.len (c.first_round-round.auto.skips ∙ c.deref_mut.ensures.len) in
    let each : (row r : ℕ) → row < rows net → 1 ≤ r → r ≤ net.rounds → get_or new (cell net.rounds row r) 0 ≡ get_or old (cell net.rounds row r) 0 + cond (uses net row s && (round == r)) 1 0 = subst (λ (xs : List ℕ). (row r : ℕ) → row < rows net → 1 ≤ r → r ≤ net.rounds → get_or new (cell net.rounds row r) 0 ≡ get_or xs (cell net.rounds row r) 0 + cond (uses net row s && (round == r)) 1 0) begun c.place.ensures.each in
    rw (loads, skips) (IsPlacing-step c.args.order net (live_of_rows c.args.net.now) stays c.loop-stay.rounds.items old c.loop-stay.skips.items _ new c.first_round-round.new.skips here s round first.sound sorted (omega (arith, sorted.long)) refl passed first.later first.ends room none size grown each refl c.loop-stay.invariant)

pub returns-clause-ordered : goal.returns-clause-ordered
returns-clause-ordered c =
    let net = instance_of_rows c.args.net.now in
    let stays = c.deref-stay-items.result.now in
    let sorted : AreInOrder c.args.order net stays = rw c.deref-stay-items.ensures.value c.in_ok-stays.ensures in
    IsOrdered-placed c.args.order net stays c.loop-stay.rounds.items c.loop-stay.loads.items c.loop-stay.skips.items c.loop-stay.stay-index (omega (arith, sorted.long)) sorted c.loop-stay.invariant
