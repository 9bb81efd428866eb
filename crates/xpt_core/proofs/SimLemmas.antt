-- one adapter's queue, read by its number
use Rattle.std.proofs.Common.{◌≡◌, ℕ, ◌<◌, List, length, get_or, ap, ◌∙◌, arith}
use Rattle.std.proofs.lemmas.List.{length-map}
use Rattle.std.proofs.lemmas.List.FromFn.{length-range_with_len}
use Rattle.sim_queue.specs.Adapter.{Adapter}
use Rattle.xpt_core.specs.Transport.{Transport}
use Rattle.xpt_core.specs.Known.{known, adapter_of, adapters_of, adapters}
use Rattle.xpt_core.proofs.PlaceLemmas.{value_at}

-- what the queues of a transport's adapters are
abbrev pub queues_of : Transport → List Adapter
queues_of t = adapters_of t.config (known t.config t.events)

pub sim-within : (ss : List Adapter) (n : ℕ) (d t : Transport) (a : ℕ) → n ≡ length ss → ss ≡ queues_of d → d ≡ t → a < length t.config.adapters → a < n
sim-within ss n d t a len is same lt =
    omega (arith, len, ap length (is ∙ ap queues_of same), length-map (adapters t.config) (adapter_of t.config (known t.config t.events)), length-range_with_len 0 (length t.config.adapters))

pub sim-value : (ss : List Adapter) (d t : Transport) (a : ℕ) (s : Adapter) → ss ≡ queues_of d → d ≡ t → a < length t.config.adapters → s ≡ get_or ss a s → s ≡ adapter_of t.config (known t.config t.events) a
sim-value ss d t a s is same lt read =
    value_at (adapter_of t.config (known t.config t.events)) (length t.config.adapters) a s lt (read ∙ ap (λ xs. get_or xs a s) (is ∙ ap queues_of same))
