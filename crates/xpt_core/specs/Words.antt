-- The words of the crates below that most clauses and proofs cite, passed on from one place. Declares nothing.
pub use Rattle.cam_ccb.specs.Table.{Table, Updates, find, held_count}
pub use Rattle.cam_ccb.specs.declared.handle.Handle.{Handle}
pub use Rattle.cam_types.specs.Lists.{is_less, least_by, prefixed, prefixed_after}
pub use Rattle.cam_types.specs.Questions.{adapter_link, adapter_openings, device_adapter, device_openings, devices, is_on, is_under, lane_adapter, names_adapter, names_device, names_lane, weight}
pub use Rattle.cam_types.specs.Topology.{IsConfig, Topology, are_openings}
pub use Rattle.cam_types.specs.declared.flags.Flags.{Flags}
pub use Rattle.cam_types.specs.declared.limits.TheConstants.{MAX_EVENTS, MAX_FREEZES, MAX_PRIORITY, MAX_RETRIES, MAX_STAYS}
pub use Rattle.cam_types.specs.declared.outcome.Outcome.{Outcome}
pub use Rattle.dev_queue.specs.Device.{Device, enter, enter_all}
pub use Rattle.dev_queue.specs.declared.waiting.Waiting.{Waiting}
pub use Rattle.event_rules.specs.Counts.{ccbs, commands, freeze_count, goes_to, last, retries_of, round, sending_of, submission}
unfoldable pub use Rattle.event_rules.specs.Counts.{adapter_freezes, alive, caller_count, counted_requeues, error_count, has_in_flight, is_in_flight, is_recovering, last_result, sendings, submissions, wants_finish, wants_requeue}
pub use Rattle.event_rules.specs.Event.{adjusts_to, ccb_of, concerns, ends, is_adjust_of, is_done_of, is_erring, is_requeue_of, is_send_of, is_send_or_done_of, is_some_and, is_tick, outcome_of, submission_of}
pub use Rattle.event_rules.specs.Head.{goes_now, goes_now_over_link, goes_now_to, goes_now_to_adapter, link_has_opening, may_send, turn_key}
unfoldable pub use Rattle.event_rules.specs.Head.{adapter_has_opening, has_opening, head, is_ready, last_sent, next, openings, turn}
pub use Rattle.event_rules.specs.Laws.{is_in_range, is_stay_of, last_class}
pub use Rattle.event_rules.specs.Legal.{IsWithinHistory, Rules, has_ccb, has_stay, is_count, is_legal_event, max_alive, names_ccb}
unfoldable pub use Rattle.event_rules.specs.Legal.{is_legal, is_next}
pub use Rattle.event_rules.specs.Live.{live_round}
unfoldable pub use Rattle.event_rules.specs.Live.{live_cost, live_part, send_place}
pub use Rattle.event_rules.specs.Refusals.{adjust_causes, are_ccbs_full, are_stays_full, causes, device_of, done_causes, finish_causes, first_cause, freeze_dev_causes, freeze_sim_causes, have_openings, is_other_next, release_dev_causes, release_sim_causes, requeue_causes, send_causes, submit_causes, tick_causes, turn_causes}
unfoldable pub use Rattle.event_rules.specs.Refusals.{refusal}
pub use Rattle.event_rules.specs.Sorted.{insert_by, sorted_by}
pub use Rattle.event_rules.specs.Stays.{earlier_key, has_arrived, is_at, is_unsent, name_of, queue_key, stay_begun}
unfoldable pub use Rattle.event_rules.specs.Stays.{first, has_queued, queue, stays_begun, unsent, waiting}
pub use Rattle.event_rules.specs.declared.event.Event.{Event}
pub use Rattle.event_rules.specs.declared.event.Event.TheVariants.{Adjust, Done, Finish, FreezeDev, FreezeSim, ReleaseDev, ReleaseSim, Requeue, Send, Submit, Tick}
pub use Rattle.event_rules.specs.declared.passage.Passage.{Passage}
pub use Rattle.event_rules.specs.declared.refusal.Refusal.{Refusal}
pub use Rattle.event_rules.specs.declared.refusal.Refusal.TheVariants.{HistoryFull, NoCcb, NotRecovering, StaysFull, WrongDecision}
pub use Rattle.event_rules.specs.declared.sending.Sending.{Sending}
pub use Rattle.event_rules.specs.declared.stay.Stay.{Stay}
pub use Rattle.event_rules.specs.declared.submission.Submission.{Submission}
pub use Rattle.sense_class.specs.Classes.{asks_finish, asks_requeue, classify, is_counted, kind_of}
pub use Rattle.sim_queue.specs.Adapter.{Adapter, best_ready, is_named, new_row, prioritized, sent_at, with_priority, with_send}
pub use Rattle.sim_queue.specs.declared.row.Row.{Row}
