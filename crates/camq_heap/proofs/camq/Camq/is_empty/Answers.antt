use Rattle.std.proofs.Common.{◌≡◌, ◌==◌, length, ap, arith, ◌∙◌}
use Rattle.camq_heap.specs.Queue.{key}
use Rattle.camq_heap.proofs.OrderLemmas.{length-in_order}
use Rattle.camq_heap.proofs.camq.Camq.is_empty.Goals as goal

pub returns : goal.returns
returns g c =
    let same : c.self.inside.entries.len ≡ length c.args.self.now.entries =
    omega (arith, length-in_order key c.self.inside.entries.items, ap (λ q. length q.entries) c.self.view_is) in
    c.is_empty.ensures ∙ ap (λ n. n == 0) same
