use Rattle.std.proofs.Common.{◌∙◌, sym, ap}
use Rattle.capture_file.specs.declared.spot.Queue.{Queue}
use Rattle.capture_file.specs.Spots.{last_at}
use Rattle.capture_file.proofs.PlaceLemmas.{newest-at, newest_found}
use Rattle.capture_file.proofs.table.Table.newest_at.Goals as goal

pub returns-clause-newest : goal.returns-clause-newest
returns-clause-newest c =
    let all = c.args.self.now in
    let seen = c.last_at-seen.ensures.last ∙ ap (λ (q : Queue). last_at (record { lane = q.lane; size = c.args.sent.size }) all) c.flying.ensures in
    let early = c.last_at-early.ensures.last ∙ ap (λ (q : Queue). last_at (record { lane = q.lane; size = 0 }) all) c.early.ensures in
    c.later_of.ensures ∙ rw (seen, early) (sym (newest-at c.args.place c.args.sent all c.last_at-seen.ensures.rising))

pub returns-clause-at : goal.returns-clause-at
returns-clause-at c = newest_found c.args.place c.args.sent c.args.self.now c.later_of.result c.last_at-seen.ensures.rising (returns-clause-newest c)
