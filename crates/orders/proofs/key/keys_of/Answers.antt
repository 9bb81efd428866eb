use Rattle.orders.proofs.KeyLemmas.{all_keys-more}
use Rattle.orders.proofs.key.keys_of.Goals as goal

pub loop-stay-preserved : goal.loop-stay-preserved
loop-stay-preserved c = all_keys-more _ _ _ _ _ _ c.in_ok-push.ensures.items c.loop-stay.invariant c.key_of.ensures
