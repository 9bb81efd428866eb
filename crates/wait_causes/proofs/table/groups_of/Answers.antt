use Rattle.std.proofs.Common.{arith, take, get_or}
use Rattle.std.proofs.lemmas.List.{take_more}
use Rattle.wait_causes.specs.Tables.{stays_of}
use Rattle.wait_causes.proofs.CountingLemmas.{blank, lists_length}
use Rattle.wait_causes.proofs.TableLemmas.{group_more}
use Rattle.wait_causes.proofs.table.groups_of.Goals as goal

pub index_mut-requires : goal.index_mut-requires
index_mut-requires c =
    omega (
      arith,
      c.number.ensures,
      c.requires c.loop-stay.stay-index blank c.loop-stay-test.true,
      lists_length (stays_of c.args.by (take c.loop-stay.stay-index c.args.stays.now)) c.args.count c.loop-stay.groups.items c.loop-stay.invariant,
    )

pub loop-stay-preserved : goal.loop-stay-preserved
loop-stay-preserved c =
    rw (take_more c.args.stays.now c.loop-stay.stay-index blank c.loop-stay-test.true)
    (group_more c.args.by c.args.count (take c.loop-stay.stay-index c.args.stays.now) (get_or c.args.stays.now c.loop-stay.stay-index blank) c.loop-stay.groups.items c.push.new.self c.index_mut.result.now c.number.result c.loop-stay.invariant c.number.ensures
    (omega (arith, c.number.ensures, c.requires c.loop-stay.stay-index blank c.loop-stay-test.true)) c.index_mut.ensures.value c.in_ok-push.ensures.items)
