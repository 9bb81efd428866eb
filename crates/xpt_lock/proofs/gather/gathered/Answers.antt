use Rattle.std.proofs.Common.{[], sym, ap, ◌∙◌}
use Rattle.xpt_lock.specs.Receipts.{marks}
use Rattle.xpt_lock.proofs.ConsistentLemmas.{no_marks}
use Rattle.xpt_lock.proofs.gather.gathered.Goals as goal

pub compare-requires-clause-unmarked : goal.compare-requires-clause-unmarked
compare-requires-clause-unmarked g c =
    c.deref_mut.ensures.value ∙ c.in_ok-named.ensures.items_if_clones_equal (λ y is. is) ∙ no_marks _ 0 ∙ ap (λ n. marks n []) (c.len.ensures ∙ sym c.deref.ensures.len)
