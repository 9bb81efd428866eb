-- the first fault of a schedule
use Rattle.std.specs.Prelude.{◌≡◌, ℕ, ◌+◌, ◌==◌, ◌<◌, Bool, ◌&&◌, nat_lt, if◌then◌else◌, Option, Some, None}
use Rattle.std.specs.List.{list_any}
use Rattle.price_check.specs.Words.{count_below, Instance, adapter, adapter_resource, link_rows, uses}
pub use Rattle.price_check.specs.declared.verdict.Cause.{Cause}
pub use Rattle.price_check.specs.declared.verdict.Cause.TheVariants.{Early, Late, DeviceFull, AdapterFull, LinkFull}

-- how many stays, up to and including this one, use a row in its round
abbrev pub at_row : Instance → (ℕ → ℕ) → ℕ → ℕ → ℕ
at_row net f row s = count_below (s + 1) (λ t. uses net row t && (f t == f s))

-- of the stays up to this one, more use a row in its round than the cap
abbrev pub is_over : Instance → (ℕ → ℕ) → ℕ → ℕ → Bool
is_over net f row s = nat_lt (net.cap row (f s)) (at_row net f row s)

-- the row of the stay's link is over the cap, if its adapter is on one
abbrev pub is_link_over : Instance → (ℕ → ℕ) → ℕ → Bool
is_link_over net f s = list_any (λ row. is_over net f row s) (link_rows net (adapter net s))

-- what is wrong with a stay's place: it lies outside of its window, or the row of its device, its adapter or its link is over
-- the cap
unfoldable pub fault_at : Instance → (ℕ → ℕ) → ℕ → Option Cause
fault_at net f s =
    if nat_lt (f s) (net.arrival s) then Some Early
    else if nat_lt (net.last s) (f s) then Some Late
    else if is_over net f (net.device s) s then Some DeviceFull
    else if is_over net f (adapter_resource net (adapter net s)) s then Some AdapterFull
    else if is_link_over net f s then Some LinkFull
    else None

-- nothing is wrong with the stays before this one
abbrev pub IsFaultlessBelow : Instance → (ℕ → ℕ) → ℕ → Type 0
IsFaultlessBelow net f s = (t : ℕ) → t < s → fault_at net f t ≡ None

-- the first stay, in creation order, with whose place something is wrong
pub record IsFirstFault (net : Instance) (f : ℕ → ℕ) (s : ℕ) (cause : Cause) : Type 0 where
  pub within : s < net.stays
  pub here : fault_at net f s ≡ Some cause
  pub before : IsFaultlessBelow net f s
