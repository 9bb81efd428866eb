-- The words of the crates below that most clauses and proofs cite, passed on from one place. Declares nothing.
pub use Rattle.cam_types.specs.Lists.{prefixed}
pub use Rattle.cam_types.specs.Questions.{adapter_link, adapter_openings, device_adapter, device_openings, is_on, is_under, lane_adapter, link_openings, names_device, names_lane, weight}
pub use Rattle.cam_types.specs.Topology.{IsConfig, Topology, are_openings, names_link}
pub use Rattle.cam_types.specs.declared.adapter.Adapter.{Adapter}
pub use Rattle.cam_types.specs.declared.device.Device.{Device}
pub use Rattle.cam_types.specs.declared.limits.TheConstants.{MAX_LINKS, MAX_OPENINGS, MAX_ROUNDS}
pub use Rattle.event_rules.specs.Counts.{adapter_freezes, caller_count, commands, error_count, freeze_count, last, sending_of, submission, submissions}
unfoldable pub use Rattle.event_rules.specs.Counts.{round, sendings}
pub use Rattle.event_rules.specs.Event.{adjusts_to, is_adjust_of, is_send_of, is_some_and, is_tick}
pub use Rattle.event_rules.specs.Head.{goes_now_over_link, goes_now_to, goes_now_to_adapter}
unfoldable pub use Rattle.event_rules.specs.Head.{adapter_has_opening, has_opening, link_has_opening, openings}
pub use Rattle.event_rules.specs.Laws.{is_in_range, is_stay_in_range, is_stay_of}
pub use Rattle.event_rules.specs.Legal.{Rules, history_rules, is_legal_event, is_next, names_ccb}
unfoldable pub use Rattle.event_rules.specs.Legal.{is_legal}
pub use Rattle.event_rules.specs.Live.{live_round}
unfoldable pub use Rattle.event_rules.specs.Live.{send_place}
pub use Rattle.event_rules.specs.Past.{Past}
pub use Rattle.event_rules.specs.Refusals.{device_of}
pub use Rattle.event_rules.specs.Stays.{has_arrived, is_unsent, name_of, stay_begun}
unfoldable pub use Rattle.event_rules.specs.Stays.{has_queued, stays_begun, unsent, waiting}
pub use Rattle.event_rules.specs.declared.event.Event.{Event}
pub use Rattle.event_rules.specs.declared.event.Event.TheVariants.{Adjust, Requeue, Send, Submit}
pub use Rattle.event_rules.specs.declared.passage.Passage.{Passage}
pub use Rattle.event_rules.specs.declared.sending.Sending.{Sending}
pub use Rattle.event_rules.specs.declared.submission.Submission.{Submission}
pub use Rattle.xpt_core.specs.Records.{follows, next_stay, record_of}
unfoldable pub use Rattle.xpt_core.specs.Records.{records}
pub use Rattle.xpt_core.specs.Transport.{Transport}
pub use Rattle.xpt_core.specs.declared.stays.stay_record.StayRecord.{StayRecord}
