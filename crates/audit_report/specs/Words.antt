-- The words of the crates below that most clauses and proofs cite, passed on from one place. Declares nothing.
pub use Rattle.cam_types.specs.Lists.{prefixed}
pub use Rattle.cam_types.specs.Topology.{Topology}
pub use Rattle.cam_types.specs.Watched.{device_of, has_failed, is_flushed}
pub use Rattle.cam_types.specs.Whole.{AppendsFront}
pub use Rattle.cam_types.specs.declared.limits.TheConstants.{MAX_ADAPTERS, MAX_BYTES, MAX_DEVICES, MAX_LINKS, MAX_ROUNDS, MAX_STAYS, MAX_WEIGHT}
pub use Rattle.event_rules.specs.Counts.{commands, round}
pub use Rattle.event_rules.specs.Laws.{stands_free}
pub use Rattle.event_rules.specs.Legal.{history_rules, is_legal}
pub use Rattle.event_rules.specs.Live.{live_cost}
unfoldable pub use Rattle.event_rules.specs.Live.{live_part}
pub use Rattle.event_rules.specs.Past.{Past}
pub use Rattle.event_rules.specs.Stays.{stays_begun, unsent}
pub use Rattle.event_rules.specs.declared.event.Event.{Event}
pub use Rattle.event_rules.specs.declared.passage.Passage.{Passage}
pub use Rattle.event_rules.specs.declared.stay.Stay.{Stay}
pub use Rattle.report_text.specs.Claims.{IsClaim}
unfoldable pub use Rattle.report_text.specs.Claims.{report_text}
pub use Rattle.report_text.specs.Limits.{max_bytes}
pub use Rattle.report_text.specs.Lines.{line}
pub use Rattle.report_text.specs.Report.{live_cost_of, number_text, plan_text, summary_text}
pub use Rattle.price_check.specs.Verdicts.{IsBest, IsGap, IsRefused}
pub use Rattle.report_text.specs.declared.claim.Claim.{Claim}
pub use Rattle.report_text.specs.declared.report_fault.ReportFault.{ReportFault}
pub use Rattle.price_check.specs.declared.verdict.Cause.{Cause}
pub use Rattle.price_check.specs.declared.verdict.Cause.TheVariants.{AdapterFull, DeviceFull, Early, Late, LinkFull}
pub use Rattle.recording_file.specs.Recorded.{IsRecording}
pub use Rattle.recording_file.specs.Recordings.{IsRecordingText}
pub use Rattle.recording_file.specs.Whole.{IsLongWhole}
pub use Rattle.recording_file.specs.Writing.{recording_text}
pub use Rattle.round_net.specs.Instance.{Instance, rows}
pub use Rattle.round_net.specs.Nets.{instance_of, live_of}
unfoldable pub use Rattle.round_net.specs.Nets.{net_of, stay_row}
unfoldable pub use Rattle.round_net.specs.RecordedNets.{net_of_recording}
pub use Rattle.round_net.specs.PriceRows.{IsPriced, IsPricingFor, pricing_of_rows}
pub use Rattle.round_net.specs.Rows.{NetRows, names_of_rows, of_stay}
unfoldable pub use Rattle.round_net.specs.Rows.{instance_of_rows, live_of_rows}
pub use Rattle.round_net.specs.Schedules.{IsAdmissible, cost}
pub use Rattle.round_net.specs.Sound.{IsSound}
pub use Rattle.round_net.specs.Sums.{sum_below}
pub use Rattle.round_net.specs.Value.{ProvesBest}
pub use Rattle.round_net.specs.declared.limits.TheConstants.{MAX_NET_ROUNDS, MAX_NET_STAYS}
pub use Rattle.round_net.specs.declared.stay_row.StayRow.{StayRow}
pub use Rattle.trace_file.specs.Trace.{Explains, IsHistory, IsTrace, WasTrace}
pub use Rattle.trace_file.specs.Writing.{migrated_text}
pub use Rattle.conversions.specs.Recorded.{recorded_of}
