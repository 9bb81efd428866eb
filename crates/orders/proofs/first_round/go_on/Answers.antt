use Rattle.std.proofs.Common.{◌≡◌, ℕ, ◌+◌, ◌≤◌, get_or, refl, sym, ◌∙◌, subst, arith}
use Rattle.round_net.specs.Rows.{cell, instance_of_rows}
use Rattle.orders.specs.Room.{HasNoRoom}
use Rattle.orders.proofs.SkipLemmas.{AreSkips-set, HasNoRoom-one, HasNoRoom-joined}
use Rattle.orders.proofs.first_round.go_on.Goals as goal

pub returns-then-skip-eq0-clause-skips : goal.returns-then-skip-eq0-clause-skips
returns-then-skip-eq0-clause-skips c =
    let net = instance_of_rows c.args.net.now in
    let at : c.cell-at.result ≡ cell net.rounds c.args.device c.args.round = c.cell-at.ensures ∙ rw c.rounds-rounds.ensures.same refl in
    AreSkips-set net c.args.loads.now c.args.skips.now _ c.args.device c.args.round c.cell-at.result 1 c.requires.device c.requires.first c.requires.last at refl (omega arith) (HasNoRoom-one net c.args.loads.now c.args.device c.args.round (sym c.has_room.ensures ∙ c.if-has_room.false)) c.requires.skips

pub returns-then-later-rounds-clause-skips : goal.returns-then-later-rounds-clause-skips
returns-then-later-rounds-clause-skips c =
    let net = instance_of_rows c.args.net.now in
    let loads = c.args.loads.now in
    let d = c.args.device in
    let r = c.args.round in
    let at : c.cell-at.result ≡ cell net.rounds d r = c.cell-at.ensures ∙ rw c.rounds-rounds.ensures.same refl in
    let skip = get_or c.args.skips.now c.cell-at.result 0 in
    let other : c.cell.result ≡ cell net.rounds d (r + skip) = c.cell.ensures ∙ rw c.rounds-rounds.ensures.same refl in
    let within : r + skip ≤ net.rounds = omega (arith, c.rounds-rounds.ensures.same) in
    let more = get_or c.args.skips.now c.cell.result 0 in
    let own : HasNoRoom net loads d r (r + skip) = rw at (c.requires.skips.full d r c.requires.device c.requires.first c.requires.last) in
    let next : HasNoRoom net loads d (r + skip) (r + skip + more) = rw other (c.requires.skips.full d (r + skip) c.requires.device (omega arith) within) in
    let end : r + skip + more ≤ net.rounds + 1 = rw other (c.requires.skips.ends d (r + skip) c.requires.device (omega arith) within) in
    let sum : r + skip + more ≡ r + (skip + more) = omega arith in
    let both : HasNoRoom net loads d r (r + (skip + more)) = subst (λ (n : ℕ). HasNoRoom net loads d r n) sum (HasNoRoom-joined net loads d r (r + skip) (r + skip + more) own next) in
    AreSkips-set net loads c.args.skips.now _ d r c.cell-at.result (skip + more) c.requires.device c.requires.first c.requires.last at refl (omega arith) both c.requires.skips
