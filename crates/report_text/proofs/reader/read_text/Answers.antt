use Rattle.std.proofs.Common.{◌≡◌, rules}
use Rattle.std.proofs.lemmas.Result.{err_from_is_err_and}
use Rattle.report_text.specs.Claims.{fault_line}
use Rattle.report_text.proofs.EndLemmas.{read_as, end_fails}
use Rattle.report_text.proofs.reader.read_text.Goals as goal

pub returns-in_err-read_end-clause-err : goal.returns-in_err-read_end-clause-err
returns-in_err-read_end-clause-err c =
    let p = err_from_is_err_and c.from_residual-in_err-read_end.result c.from_residual-in_err-read_end.ensures.1 in
    let best = c.in_ok-best.best in
    let excess = c.in_ok-best.excess in
    let stays = c.in_ok-rounds.ensures.ok best excess c.in_ok-best.ensures.ok in
    let prices = c.in_ok-prices.ensures.ok best excess c.in_ok-rounds.rounds.items stays.0 stays.1 in
    rw (p.1, p.2) (λ other.
    end_fails c.args.net.now c.args.text.now best excess c.in_ok-rounds.rounds.items c.in_ok-prices.prices.items c.in_ok-prices.end c.in_ok-best.ensures.sound prices.1 stays.0 prices.0 (fault_line c.in_err-read_end.field-0.0) c.in_err-read_end.ensures.err)

pub returns-clause-ok : goal.returns-clause-ok
returns-clause-ok c =
    let best = c.in_ok-best.best in
    let excess = c.in_ok-best.excess in
    let stays = c.in_ok-rounds.ensures.ok best excess c.in_ok-best.ensures.ok in
    let prices = c.in_ok-prices.ensures.ok best excess c.in_ok-rounds.rounds.items stays.0 stays.1 in
    let read = read_as c.args.net.now c.args.text.now best excess c.in_ok-rounds.rounds.items c.in_ok-prices.prices.items c.in_ok-prices.end c.in_ok-best.ensures.sound prices.1 stays.0 prices.0 in
    let schedule : c.in_ok-new.field-0 ≡ c.in_ok-rounds.rounds.items = search rules in
    rw (schedule, c.listed.ensures) (read c.in_ok-read_end.ensures.ok)
