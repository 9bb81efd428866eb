use Rattle.std.proofs.Common.{◌∙◌, sym, length}
use Rattle.round_net.specs.Ends.{cause_at, is_frozen_at, numbers, Error, Caller, Adapter}
use Rattle.round_net.proofs.EndLemmas.{at_ends-none}
use Rattle.round_net.proofs.round_ends.RoundEnds.none.Goals as goal

pub returns : goal.returns
returns c = λ t. record {
  causes = c.new.ensures.items ∙ sym (at_ends-none (cause_at t) (length t.devices));
  errors = c.new-2.ensures.items ∙ sym (at_ends-none (is_frozen_at Error) (numbers Error t));
  callers = c.new-3.ensures.items ∙ sym (at_ends-none (is_frozen_at Caller) (numbers Caller t));
  adapters = c.new-4.ensures.items ∙ sym (at_ends-none (is_frozen_at Adapter) (numbers Adapter t));
}
