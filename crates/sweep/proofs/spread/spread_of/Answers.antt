use Rattle.std.proofs.Common.{◌≡◌, ◌<◌, length, rules}
use Rattle.std.proofs.lemmas.List.{get_or_read}
use Rattle.std.proofs.lemmas.List.Sorted.{IsNonDecreasingBy-from_sort}
use Rattle.sweep.proofs.RunLemmas.{half_below, last_below}
use Rattle.sweep.proofs.spread.spread_of.Goals as goal

pub returns : goal.returns
returns c =
    let items = c.sort_unstable.new.self.items in
    let some : 0 < length c.sort_unstable.new.self.items = search rules in
    let long : c.len-count.result ≡ length c.sort_unstable.new.self.items = search rules in
    record {
      sorted = items;
      same = c.sort_unstable.ensures.permutation;
      rising = IsNonDecreasingBy-from_sort (λ x. x) items c.sort_unstable.ensures.sorted;
      least_is = get_or_read items 0 c.index.result.now some c.index.ensures 0;
      median_is = get_or_read items _ c.index-2.result.now (half_below (length items) some) (rw long at c.index-2.ensures) 0;
      greatest_is = get_or_read items _ c.index-3.result.now (last_below (length items) some) (rw long at c.index-3.ensures) 0;
    }
