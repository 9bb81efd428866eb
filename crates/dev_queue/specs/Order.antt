-- A device's queue as a `Camq` whose generations rise with each entry.
use Rattle.std.specs.Prelude.{ℕ, ◌<◌, List, map, All}
use Rattle.camq_heap.specs.declared.entry.Entry.{Entry}
use Rattle.dev_queue.specs.Device.{Waiting}

-- the CCBs that wait, in order
abbrev pub waiting_of : List (Entry ℕ) → List Waiting
waiting_of xs = map (λ e. record { ccb = e.item; priority = e.priority }) xs

-- each entry came before this generation
abbrev pub AllBefore : ℕ → List (Entry ℕ) → Type 0
AllBefore generation xs = All (λ e. e.generation < generation) xs
