use Rattle.std.proofs.Common.{◌∙◌, ap, map}
use Rattle.orders.specs.declared.key.Key.{Key}
use Rattle.orders.proofs.KeyLemmas.{AreInOrder-made}
use Rattle.orders.proofs.key.in_order.Goals as goal

pub returns : goal.returns
returns c = AreInOrder-made _ _ _ _ _ _ c.in_ok-keys.ensures.sound c.in_ok-keys.ensures.keys c.sort_unstable.ensures.permutation c.sort_unstable.ensures.sorted (c.in_ok-stays.ensures ∙ ap (map (λ (key : Key). key.stay)) c.deref.ensures.value)
