use Rattle.std.proofs.Common.{subst, sym, IsTrue}
use Rattle.xpt_core.specs.Ccbs.{is_alive}
use Rattle.xpt_carry.specs.Carry.{submit_of}
use Rattle.xpt_carry.proofs.EventLemmas.{list_more, list_all_done}
use Rattle.xpt_carry.proofs.submits.add_submits.Goals as goal
use Rattle.event_rules.specs.declared.passage.Passage.{Passage}

pub submit_of-requires : goal.submit_of-requires
submit_of-requires c =
    subst (λ (p : Passage). IsTrue (is_alive c.args.state.now.events p.ccb)) (sym c.stay-item.is)
    (c.requires c.loop-stay.stay-index c.stay-item.result c.loop-stay-test.true)

pub loop-stay-preserved : goal.loop-stay-preserved
loop-stay-preserved c =
    list_more (submit_of c.args.state.now.events) c.args.events.now.items c.loop-stay.events.items c.add.new.events.items c.args.stays.now c.loop-stay.stay-index
    c.stay-item.result c.submit_of.result c.loop-stay.invariant c.loop-stay-test.true c.stay-item.is c.submit_of.ensures c.in_ok-add.ensures

pub returns : goal.returns
returns c =
    list_all_done (submit_of c.args.state.now.events) c.args.events.now.items c.loop-stay.events.items c.args.stays.now c.loop-stay.stay-index
    c.loop-stay.invariant c.loop-stay-test.false
