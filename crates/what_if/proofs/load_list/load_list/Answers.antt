use Rattle.std.proofs.Common.{◌≡◌, ◌<◌, ◌∙◌, length, arith, refl, replicate, slice_index, get_or}
use Rattle.round_net.specs.Rows.{instance_of_rows, live_of_rows}
use Rattle.round_net.proofs.LoadListLemmas.{loads_none, none_counted, loads_more}
use Rattle.round_net.proofs.MarkLemmas.{written_back}
use Rattle.what_if.proofs.load_list.load_list.Goals as goal

pub loop-stay-init : goal.loop-stay-init
loop-stay-init c =
    let items : c.in_ok-counts.counts.items ≡ replicate c.cells.result 0 = c.in_ok-counts.ensures.items_if_clones_equal (λ y is. is) in
    record {
      loads = loads_none (instance_of_rows c.args.net.now) (slice_index c.args.rounds.now) c.in_ok-counts.counts.items c.cells.result c.cells.ensures items;
      few = λ at. omega (arith, none_counted c.in_ok-counts.counts.items c.cells.result at items);
    }

pub loop-stay-preserved : goal.loop-stay-preserved
loop-stay-preserved c =
    let net = instance_of_rows c.args.net.now in
    let s = c.loop-stay.stay in
    let lt : s < net.stays = omega (arith, c.stays-stay-end.ensures.same, c.loop-stay-test.true) in
    let size : length c.add.new.counts ≡ length c.loop-stay.counts.items = rw c.deref_mut.ensures.value at c.add.auto.counts in
    let back = written_back c.add.new.counts c.loop-stay.counts.items c.loop-stay.counts.len (c.add.auto.counts ∙ c.deref_mut.ensures.len) in
    rw back (record {
      loads = loads_more net (live_of_rows c.args.net.now) (slice_index c.args.rounds.now) s (get_or c.args.rounds.now s 0) c.loop-stay.counts.items c.add.new.counts c.stays-stay-end.ensures.sound lt c.requires.within refl c.loop-stay.invariant.loads size (rw c.deref_mut.ensures.value at c.add.ensures.each);
      few = c.add.ensures.few;
    })
