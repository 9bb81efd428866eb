-- The words of the crates below that most clauses and proofs cite, passed on from one place. Declares nothing.
pub use Rattle.cam_event.specs.declared.history.PushFault.{PushFault}
pub use Rattle.cam_event.specs.declared.history.PushFault.TheVariants.{Refused}
pub use Rattle.cam_types.specs.Lists.{first_answer, least_by, prefixed_after}
pub use Rattle.cam_types.specs.Questions.{devices, is_on, lane_adapter, names_lane}
pub use Rattle.cam_types.specs.Topology.{IsConfig, Topology, lane_fault}
pub use Rattle.cam_types.specs.declared.command.Command.{Command}
pub use Rattle.cam_types.specs.declared.config_fault.ConfigFault.TheVariants.{NoAdapter, TooMany}
pub use Rattle.cam_types.specs.declared.limits.TheConstants.{MAX_LANES}
pub use Rattle.cam_types.specs.declared.outcome.Outcome.{Outcome}
pub use Rattle.event_rules.specs.Counts.{adapter_freezes, ccbs, commands, counted_requeues, freeze_count, is_in_flight, is_recovering, retries_of, round, submission, submissions}
pub use Rattle.event_rules.specs.Event.{is_erring, is_requeue_of, is_some_and}
pub use Rattle.event_rules.specs.Head.{has_opening, link_has_opening, may_send, turn_key}
unfoldable pub use Rattle.event_rules.specs.Head.{adapter_has_opening, head, is_ready, next, turn}
pub use Rattle.event_rules.specs.Laws.{is_stay_of, last_class}
pub use Rattle.event_rules.specs.Legal.{Rules, history_rules, is_legal, names_ccb}
unfoldable pub use Rattle.event_rules.specs.Legal.{is_legal_event, is_next}
pub use Rattle.event_rules.specs.Past.{Past}
pub use Rattle.event_rules.specs.Refusals.{device_of, first_cause, turn_causes}
unfoldable pub use Rattle.event_rules.specs.Refusals.{refusal}
pub use Rattle.event_rules.specs.Stays.{has_arrived, has_queued, is_unsent, stays_begun}
unfoldable pub use Rattle.event_rules.specs.Stays.{first, queue, waiting}
pub use Rattle.event_rules.specs.declared.event.Event.{Event}
pub use Rattle.event_rules.specs.declared.event.Event.TheVariants.{Done, Send, Submit, Tick}
pub use Rattle.event_rules.specs.declared.passage.Passage.{Passage}
pub use Rattle.event_rules.specs.declared.refusal.Refusal.{Refusal}
pub use Rattle.event_rules.specs.declared.refusal.Refusal.TheVariants.{HistoryFull, NoCcb, NoLane, NotQueued}
pub use Rattle.event_rules.specs.declared.submission.Submission.{Submission}
pub use Rattle.sense_class.specs.Classes.{classify, status_of}
pub use Rattle.sense_class.specs.Sense.{read_sense}
pub use Rattle.xpt_core.specs.Cases.{cases}
pub use Rattle.xpt_core.specs.Ccbs.{ccb_by, is_alive}
unfoldable pub use Rattle.xpt_core.specs.Ccbs.{alive_ccb}
pub use Rattle.xpt_core.specs.Next.{next_of}
pub use Rattle.xpt_core.specs.Takes.{IsRefused, IsTaken, refused}
pub use Rattle.xpt_core.specs.Transport.{Transport}
pub use Rattle.xpt_core.specs.declared.ccbs.ccb.Ccb.{Ccb}
pub use Rattle.xpt_core.specs.declared.queues.next.Next.{Next}
