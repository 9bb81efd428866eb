-- The words of the crates below that most clauses and proofs cite, passed on from one place. Declares nothing.
pub use Rattle.cam_types.specs.Bounds.{Bounds}
pub use Rattle.cam_types.specs.Lists.{prefixed}
pub use Rattle.cam_types.specs.Questions.{lane_adapter, names_lane}
pub use Rattle.cam_types.specs.Topology.{Topology}
pub use Rattle.cam_types.specs.declared.adapter.Adapter.{Adapter}
pub use Rattle.cam_types.specs.declared.command.Command.{Command}
pub use Rattle.cam_types.specs.declared.device.Device.{Device}
pub use Rattle.cam_types.specs.declared.outcome.Outcome.{Outcome}
pub use Rattle.cam_types.specs.declared.weight_row.WeightRow.{WeightRow}
unfoldable pub use Rattle.event_rules.specs.Counts.{counted_requeues, has_in_flight, is_in_flight, is_recovering, last_result, round}
pub use Rattle.event_rules.specs.Counts.{ccbs, last, retries_of}
pub use Rattle.event_rules.specs.Event.{concerns, is_done_of, is_erring, is_send_of, is_send_or_done_of, is_some_and, is_tick, outcome_of}
unfoldable pub use Rattle.event_rules.specs.Head.{head, next}
pub use Rattle.event_rules.specs.Laws.{last_class}
unfoldable pub use Rattle.event_rules.specs.Legal.{is_legal, is_legal_event}
pub use Rattle.event_rules.specs.Legal.{Rules, is_allowed, rules_of}
pub use Rattle.event_rules.specs.Past.{Past}
unfoldable pub use Rattle.event_rules.specs.Refusals.{refusal}
pub use Rattle.event_rules.specs.Refusals.{are_stays_full, causes, first_cause}
unfoldable pub use Rattle.event_rules.specs.Stays.{stays_begun, waiting}
pub use Rattle.event_rules.specs.declared.event.Event.{Event}
pub use Rattle.event_rules.specs.declared.event.Event.TheVariants.{Adjust, Done, Finish, FreezeDev, FreezeSim, ReleaseDev, ReleaseSim, Requeue, Send, Submit, Tick}
pub use Rattle.event_rules.specs.declared.refusal.Refusal.{Refusal}
pub use Rattle.event_rules.specs.declared.refusal.Refusal.TheVariants.{HistoryFull, InFlight, RoundsFull, StaysFull}
unfoldable pub use Rattle.sense_class.specs.Classes.{kind_of, scsi_kind, sense_kind}
pub use Rattle.sense_class.specs.Classes.{asks_finish, asks_requeue, class_of, classify, is_one_of, status_of}
unfoldable pub use Rattle.sense_class.specs.Sense.{read_sense}
pub use Rattle.sense_class.specs.declared.class.Class.TheVariants.{CountedRequeue, Fail}
pub use Rattle.sense_class.specs.declared.class.Kind.{Kind}
pub use Rattle.sense_class.specs.declared.sense.Sense.{Sense}
pub use Rattle.trace_file.specs.Scenarios.{IsScenario, Scenario, is_answer, is_ruled}
pub use Rattle.trace_file.specs.declared.step.Step.{Step}
pub use Rattle.trace_file.specs.declared.step.Step.TheVariants.{Act, Pause}
unfoldable pub use Rattle.xpt_core.specs.Cases.{cases}
pub use Rattle.xpt_core.specs.Laws.{is_for_room}
pub use Rattle.xpt_core.specs.Takes.{IsTaken, refused}
pub use Rattle.xpt_core.specs.Transport.{Transport}
pub use Rattle.xpt_lock.specs.Gathers.{IsPast, due_of}
pub use Rattle.xpt_lock.specs.Receipts.{AreInterleaved, is_rising}
pub use Rattle.xpt_lock.specs.Seats.{Held}
pub use Rattle.xpt_lock.specs.declared.receipt.Receipt.{Receipt}
pub use Rattle.xpt_lock.specs.declared.seat.SeatName.{SeatName}
pub use Rattle.xpt_lock.specs.declared.seat.SeatName.TheVariants.{Driver, Keeper, Lane, Recovery}
pub use Rattle.xpt_state.specs.Calls.{lane_refused}
pub use Rattle.xpt_state.specs.Idle.{idle}
pub use Rattle.xpt_state.specs.Looks.{case_of, has_head, look, next_case}
pub use Rattle.xpt_state.specs.Steps.{IsSent}
pub use Rattle.xpt_state.specs.declared.idle.Idle.{Idle}
pub use Rattle.xpt_state.specs.declared.look.Case.{Case}
pub use Rattle.xpt_state.specs.declared.look.Look.{Look}
pub use Rattle.xpt_state.specs.declared.reply.Reply.{Reply}
