-- The words of the crates below that most clauses and proofs cite, passed on from one place. Declares nothing.
pub use Rattle.cam_types.specs.Priority.{run_level}
pub use Rattle.cam_types.specs.Questions.{device_adapter, weight}
pub use Rattle.cam_types.specs.Topology.{IsConfig, Topology}
pub use Rattle.cam_types.specs.declared.limits.TheConstants.{MAX_ROUNDS, MAX_STAYS}
pub use Rattle.event_rules.specs.Counts.{round, submission}
pub use Rattle.event_rules.specs.Laws.{is_stay_in_range}
pub use Rattle.event_rules.specs.Legal.{Rules, history_rules, is_legal}
pub use Rattle.event_rules.specs.Live.{live_cost, live_round}
unfoldable pub use Rattle.event_rules.specs.Live.{live_part}
pub use Rattle.event_rules.specs.Stays.{is_unsent, stays_begun, unsent}
pub use Rattle.event_rules.specs.declared.event.Event.{Event}
pub use Rattle.event_rules.specs.declared.passage.Passage.{Passage}
pub use Rattle.event_rules.specs.declared.submission.Submission.{Submission}
pub use Rattle.round_net.specs.Ends.{cause_in, cause_table, flag_in, flag_table, is_cause, is_frozen_at, numbers, round_ends}
unfoldable pub use Rattle.round_net.specs.Ends.{cause_at}
unfoldable pub use Rattle.round_net.specs.Nets.{net_of, stay_row}
pub use Rattle.round_net.specs.Instance.{Instance}
pub use Rattle.round_net.specs.Rows.{NetRows}
unfoldable pub use Rattle.round_net.specs.Rows.{instance_of_rows, live_of_rows}
pub use Rattle.round_net.specs.Sound.{IsSound}
pub use Rattle.round_net.specs.declared.limits.TheConstants.{MAX_NET_ROUNDS, MAX_NET_STAYS}
pub use Rattle.round_net.specs.declared.cause.WaitCause.{WaitCause}
pub use Rattle.round_net.specs.declared.cause.WaitCause.TheVariants.{AdapterFrozen, AdapterFull, AdapterStopped, Caller, DeviceFull, DeviceStopped, Error, LinkFull, LinkStopped, NotAsked}
pub use Rattle.round_net.specs.declared.freeze_kind.FreezeKind.{FreezeKind}
pub use Rattle.xpt_core.specs.Records.{record_of}
unfoldable pub use Rattle.xpt_core.specs.Records.{records}
pub use Rattle.xpt_core.specs.Transport.{Transport}
pub use Rattle.xpt_core.specs.declared.stays.stay_record.StayRecord.{StayRecord}
