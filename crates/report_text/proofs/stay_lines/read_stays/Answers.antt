use Rattle.std.proofs.Common.{◌<◌, ℕ, [], ◌∷◌, length, ap, ◌∙◌, arith, length-append}
use Rattle.std.proofs.lemmas.Result.{err_from_is_err_and}
use Rattle.report_text.specs.Words.{instance_of_rows}
use Rattle.report_text.specs.Claims.{fault_line}
use Rattle.report_text.proofs.ReadLemmas.{stay_step, stay_fails}
use Rattle.report_text.proofs.stay_lines.read_stays.Goals as goal

pub returns-in_err-round-clause-err : goal.returns-in_err-round-clause-err
returns-in_err-round-clause-err c =
    let p = err_from_is_err_and c.from_residual-in_err-round.result c.from_residual-in_err-round.ensures.1 in
    let lt : c.loop-stay.stay < (instance_of_rows c.args.net.now).stays = omega arith in
    rw (p.1, p.2) (λ best excess h other.
    let wrong = c.in_err-round.ensures.err other in
    stay_fails c.args.net.now c.args.text.now best excess c.loop-stay.rounds.items c.loop-stay.stay c.loop-stay.next (fault_line c.in_err-round.field-0.0) c.stays.ensures.sound c.loop-stay.invariant.size lt (c.loop-stay.invariant.read best excess h) wrong.0 wrong.1)

pub loop-stay-preserved : goal.loop-stay-preserved
loop-stay-preserved c =
    let lt : c.loop-stay.stay < (instance_of_rows c.args.net.now).stays = omega arith in
    let size = c.loop-stay.invariant.size in
    let longer = ap (length {A = ℕ}) c.in_ok-push.ensures.items ∙ length-append c.loop-stay.rounds.items (c.in_ok-round.round ∷ []) in
    record {
      read = λ best excess h. stay_step c.args.net.now c.args.text.now best excess c.loop-stay.rounds.items c.push.new.self.items c.loop-stay.stay c.in_ok-round.round c.loop-stay.next c.after_line-next.result size lt (c.loop-stay.invariant.read best excess h)
          c.in_ok-round.ensures.ok.0 c.in_ok-round.ensures.ok.1 c.after_line-next.ensures.lines c.after_line-next.ensures.within c.in_ok-push.ensures.items;
      size = omega arith;
      within = c.after_line-next.ensures.within;
    }
