use Rattle.std.proofs.Common.{sym, ap, ◌∙◌}
use Rattle.camq_heap.specs.Queue.{has_generation}
use Rattle.camq_heap.proofs.QueueLemmas.{has_generation-in_order}
use Rattle.camq_heap.proofs.camq.Camq.has_generation.Goals as goal

pub returns : goal.returns
returns g c =
    let generation = c.args.generation in
    c.any_generation.ensures ∙ ap (has_generation generation) c.deref.ensures.value ∙ sym (has_generation-in_order generation c.self.inside.entries.items)
    ∙ ap (λ q. has_generation generation q.entries) c.self.view_is
