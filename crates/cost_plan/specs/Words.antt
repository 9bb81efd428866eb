-- The words of the crates below that most clauses and proofs cite, passed on from one place. Declares nothing.
pub use Rattle.cam_types.specs.declared.limits.TheConstants.{MAX_ADAPTERS, MAX_DEVICES, MAX_LINKS, MAX_WEIGHT}
pub use Rattle.negative_cycle.specs.PotentialTable.{IsSettled, PotentialTable, potential_of, limit, needed, settles}
unfoldable pub use Rattle.negative_cycle.specs.PotentialTable.{raised, relaxed}
pub use Rattle.negative_cycle.specs.Walks.{AllCameBy, IsGainingCycle, came_by}
pub use Rattle.negative_cycle.specs.declared.arc.Arc.{Arc}
pub use Rattle.round_net.specs.Instance.{Instance, adapter, adapter_resource, link_resource, link_rows, path, rows, uses}
pub use Rattle.round_net.specs.PriceRows.{IsPricingFor, IsSameSize, PriceRows, SetsPrice, pricing_of_rows}
pub use Rattle.round_net.specs.Rows.{instance_of_rows, live_of_rows}
pub use Rattle.round_net.specs.Schedules.{IsAdmissible, cost, load}
pub use Rattle.round_net.specs.Sound.{IsSound}
unfoldable pub use Rattle.round_net.specs.Sound.{longest_path}
pub use Rattle.round_net.specs.Sums.{count_below, least, sum_below}
pub use Rattle.round_net.specs.declared.limits.TheConstants.{MAX_NET_ROUNDS, MAX_NET_STAYS}
pub use Rattle.round_net.specs.Value.{Pricing, ProvesBest, allowed, is_open, offered, paid, priced}
