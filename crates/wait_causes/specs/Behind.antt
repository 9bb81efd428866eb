-- what a stay waited behind in the rounds in which a row was full
use Rattle.std.specs.Prelude.{ℕ, ◌+◌, ◌-◌, ◌==◌, Bool, true, false, ◌&&◌, if◌then◌else◌, nat_lt, List, count_by, Option, Some, None, option_map}
use Rattle.std.specs.Option.{option_map_or}
use Rattle.round_net.specs.Sums.{count_below}
use Rattle.round_net.specs.Instance.{Instance, adapter_resource, link_resource, uses}
use Rattle.wait_causes.specs.Words.{WaitCause, DeviceFull, AdapterFull, LinkFull}
pub use Rattle.wait_causes.specs.declared.behind.Behind.{Behind}
pub use Rattle.wait_causes.specs.declared.behind.Behind.TheVariants.{LessUrgent, Equal, MoreUrgent}
pub use Rattle.wait_causes.specs.declared.behind.FullBehind.{FullBehind}

-- the causes by which a row was full
abbrev pub is_full : WaitCause → Bool
is_full DeviceFull = true
is_full AdapterFull = true
is_full LinkFull = true
is_full _ = false

-- the row that was full: that of the device, of its adapter, or of the adapter's link
abbrev pub full_row : Instance → ℕ → WaitCause → Option ℕ
full_row net d DeviceFull = Some d
full_row net d AdapterFull = Some (adapter_resource net (net.adapter_of d))
full_row net d LinkFull = option_map (link_resource net) (net.link_of (net.adapter_of d))
full_row net d _ = None

-- a row sent a stay in a round whose weight passes a test
abbrev pub sent_one : Instance → (ℕ → ℕ) → ℕ → ℕ → (ℕ → Bool) → Bool
sent_one net live row r test = nat_lt 0 (count_below net.stays (λ s. (uses net row s && (live s == r)) && test (net.weight s)))

-- what a stay of a weight waits behind where a row is full in a round: less urgent ones, else equal ones, else more urgent ones
unfoldable pub behind_row : Instance → (ℕ → ℕ) → ℕ → ℕ → ℕ → Behind
behind_row net live w r row =
    if sent_one net live row r (λ v. nat_lt v w) then LessUrgent
    else if sent_one net live row r (λ v. v == w) then Equal
    else MoreUrgent

-- what a stay of a weight on a device waits behind in a round, by the round's cause: nothing where no row was full
abbrev pub behind_in : Instance → (ℕ → ℕ) → (ℕ → ℕ → WaitCause) → ℕ → ℕ → ℕ → Option Behind
behind_in net live causes d w r =
    if is_full (causes d r) then Some (option_map_or (behind_row net live w r) (full_row net d (causes d r)) MoreUrgent) else None

-- it waits behind this in a round
abbrev pub is_behind : Behind → Option Behind → Bool
is_behind LessUrgent (Some LessUrgent) = true
is_behind Equal (Some Equal) = true
is_behind MoreUrgent (Some MoreUrgent) = true
is_behind _ _ = false

-- how many of some rounds it waits behind each
abbrev pub behind_by : List (Option Behind) → FullBehind
behind_by rounds = record {
  less_urgent = count_by (is_behind LessUrgent) rounds;
  equal = count_by (is_behind Equal) rounds;
  more_urgent = count_by (is_behind MoreUrgent) rounds;
}

-- all of them together
abbrev pub all_behind : FullBehind → ℕ
all_behind n = n.less_urgent + n.equal + n.more_urgent

-- no rounds, one more, and those that aren't among earlier ones
abbrev pub no_behind : FullBehind
no_behind = record { less_urgent = 0; equal = 0; more_urgent = 0 }

abbrev pub with_behind : FullBehind → Option Behind → FullBehind
with_behind n None = n
with_behind n (Some LessUrgent) = record n { less_urgent = n.less_urgent + 1 }
with_behind n (Some Equal) = record n { equal = n.equal + 1 }
with_behind n (Some MoreUrgent) = record n { more_urgent = n.more_urgent + 1 }

abbrev pub behind_since : FullBehind → FullBehind → FullBehind
behind_since n before = record {
  less_urgent = n.less_urgent - before.less_urgent;
  equal = n.equal - before.equal;
  more_urgent = n.more_urgent - before.more_urgent;
}
