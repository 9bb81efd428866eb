use Rattle.std.proofs.Common.{◌∙◌, ap, arith}
use Rattle.xpt_core.specs.declared.stays.stay_record.StayRecord.{StayRecord}
use Rattle.wait_causes.specs.Stays.{row_by}
use Rattle.wait_causes.proofs.StayLemmas.{zip_push, zip_all}
use Rattle.wait_causes.proofs.listing.list_stays.Goals as goal

pub loop-stay-preserved : goal.loop-stay-preserved
loop-stay-preserved c =
    zip_push (row_by c.args.table.now.config c.args.table.now.events) c.args.records.now c.args.best.now c.loop-stay.stay c.loop-stay.rows.items c.push.new.self.items c.explain.result c.index-records-stay.result c.round.result 0
    c.loop-stay.invariant c.in_ok-push.ensures.items
    (c.explain.ensures ∙ ap (λ (k : StayRecord). row_by c.args.table.now.config c.args.table.now.events (k, c.round.result)) c.index-records-stay.is) c.round.ensures
    c.loop-stay-test.true (omega (arith, c.requires.same, c.loop-stay-test.true))

pub returns : goal.returns
returns c = c.loop-stay.invariant ∙ zip_all (row_by c.args.table.now.config c.args.table.now.events) c.args.records.now c.args.best.now c.loop-stay.stay c.requires.same c.loop-stay-test.false
