-- The words of the crates below that most clauses and proofs cite, passed on from one place. Declares nothing.
pub use Rattle.cam_types.specs.declared.limits.TheConstants.{MAX_WEIGHT}
pub use Rattle.event_rules.specs.declared.stay.Stay.{Stay}
pub use Rattle.round_net.specs.Instance.{Instance, adapter, adapter_resource, link, link_resource, link_rows, path, path_of, rows, uses}
pub use Rattle.round_net.specs.PriceRows.{IsPricingFor}
unfoldable pub use Rattle.round_net.specs.PriceRows.{pricing_of_rows}
pub use Rattle.round_net.specs.Rows.{cell, live_of_rows}
unfoldable pub use Rattle.round_net.specs.Rows.{instance_of_rows, names_of_rows}
pub use Rattle.round_net.specs.Schedules.{IsAdmissible, cost, load}
pub use Rattle.round_net.specs.Sound.{IsSound}
pub use Rattle.round_net.specs.Sums.{count_below, least, sum_below, sum_to}
pub use Rattle.round_net.specs.Value.{Pricing, ProvesBest, allowed, is_open, offered, paid, priced}
pub use Rattle.round_net.specs.declared.limits.TheConstants.{MAX_CAP, MAX_NET_ROUNDS}
pub use Rattle.round_net.specs.declared.price_range.TheConstants.{MAX_NET_PRICE}
