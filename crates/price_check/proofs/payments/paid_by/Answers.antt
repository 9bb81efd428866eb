use Rattle.std.proofs.Common.{arith}
use Rattle.round_net.proofs.SoundLemmas.{window}
use Rattle.price_check.proofs.payments.paid_by.Goals as goal

pub share-requires-clause-window : goal.share-requires-clause-window
share-requires-clause-window c = window _ _ c.stays-stay-end.ensures.sound c.loop-stay.stay (omega arith)
