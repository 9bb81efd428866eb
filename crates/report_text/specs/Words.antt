-- The words of the crates below that most clauses and proofs cite, passed on from one place. Declares nothing.
pub use Rattle.cam_path.specs.Paths.{Fits, address_of}
unfoldable pub use Rattle.cam_path.specs.Paths.{spelled}
pub use Rattle.cam_path.specs.declared.path.CamPath.{CamPath}
pub use Rattle.cam_types.specs.Lists.{first_answer, prefixed_after}
pub use Rattle.cam_types.specs.Topology.{IsConfig, Topology, are_openings, config_fault, is_same_address}
unfoldable pub use Rattle.cam_types.specs.Topology.{address_fault, device_fault}
pub use Rattle.cam_types.specs.Watched.{device_of, has_failed}
pub use Rattle.cam_types.specs.Whole.{IsLongerThan, IsWholeWithin}
pub use Rattle.cam_types.specs.declared.device.Device.{Device}
pub use Rattle.cam_types.specs.declared.limits.TheConstants.{MAX_BYTES, MAX_DEVICES}
pub use Rattle.event_rules.specs.declared.stay.Stay.{Stay}
pub use Rattle.round_net.specs.Instance.{Instance, rows}
unfoldable pub use Rattle.round_net.specs.Nets.{net_of}
pub use Rattle.round_net.specs.PriceRows.{IsPriced, IsPricingFor, PriceRows}
unfoldable pub use Rattle.round_net.specs.PriceRows.{pricing_of_rows}
pub use Rattle.round_net.specs.Rows.{NetRows, cell, live_of_rows}
unfoldable pub use Rattle.round_net.specs.Rows.{instance_of_rows, names_of_rows}
pub use Rattle.round_net.specs.Schedules.{cost}
pub use Rattle.round_net.specs.Sound.{IsSound}
pub use Rattle.round_net.specs.Value.{Pricing}
pub use Rattle.round_net.specs.declared.limits.TheConstants.{MAX_NET_ROUNDS}
pub use Rattle.round_net.specs.declared.price_range.TheConstants.{MAX_NET_PRICE, MAX_PRICE}
