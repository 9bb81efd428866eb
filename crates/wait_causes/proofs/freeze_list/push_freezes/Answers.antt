use Rattle.wait_causes.specs.Words.{MAX_STAYS, cause_in, flag_in, round}
use Rattle.wait_causes.specs.Freezes.{freezes_at, grouping_of}
use Rattle.wait_causes.specs.Tables.{stays_of}
use Rattle.wait_causes.proofs.FreezeLemmas.{numbers_step}
use Rattle.wait_causes.proofs.TableLemmas.{few_of}
use Rattle.wait_causes.proofs.freeze_list.push_freezes.Goals as goal

pub push_number-requires : goal.push_number-requires
push_number-requires c = record { few = rw (c.deref.ensures.value, c.in_ok-there.ensures) (few_of c.grouping_of.result c.args.stays.now c.loop-number.number MAX_STAYS c.requires.few) }

pub loop-number-preserved : goal.loop-number-preserved
loop-number-preserved c =
    numbers_step (λ n. freezes_at c.args.kind n (flag_in c.args.kind c.args.table.now.config c.args.table.now.events n) (round c.args.table.now.events) (cause_in c.args.table.now.config c.args.table.now.events) (stays_of (grouping_of c.args.kind) c.args.stays.now n))
    c.args.freezes.now.items c.loop-number.freezes.items c.push_number.new.freezes.items c.loop-number.number c.loop-number.invariant
    (rw (c.deref.ensures.value, c.in_ok-there.ensures, c.grouping_of.ensures) at c.in_ok-push_number.ensures)
