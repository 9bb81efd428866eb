-- The counts of a device, by its state.
use Rattle.std.proofs.Common.{◌≡◌, ℕ, ◌+◌, ◌≤◌, List, [], length, map, ap, ◌∙◌, arith, zero-add}
use Rattle.std.proofs.lemmas.List.{length-map}
use Rattle.cam_types.specs.Topology.{Topology}
use Rattle.event_rules.specs.Stays.{queue}
use Rattle.event_rules.specs.declared.event.Event.{Event}
use Rattle.event_rules.proofs.PushLaws.{few_stays}
use Rattle.xpt_core.specs.Device.{device_state, entry, in_order, later}
use Rattle.xpt_core.specs.Words.{Device}
use Rattle.xpt_core.proofs.RoomLemmas.{held-few, length-fold}
use Rattle.camxpt_c.specs.Shapes.{device_counts}
use Rattle.camxpt_c.specs.declared.shapes.CamxptDeviceCounts.{CamxptDeviceCounts}

-- the counts of what a device holds
abbrev pub counts_of : Device → CamxptDeviceCounts
counts_of q = record {
  queued = length q.waiting;
  requeued = length q.later;
  in_flight = q.in_flight;
  openings = q.openings;
  next_openings = q.next_openings;
  callers = q.callers;
  errors = q.errors;
}

pub counts_by_state : (c : Topology) (n : ℕ) (es : List Event) (d : ℕ) → counts_of (device_state c n es d) ≡ device_counts c es d
unfolding device_state
counts_by_state c n es d =
    let queued : length (map entry (in_order es d)) ≡ length (queue es d) = length-map (in_order es d) entry ∙ length-fold [] (queue es d) ∙ zero-add (length (queue es d)) in
    let waits : length (map entry (later es d)) ≡ length (later es d) = length-map (later es d) entry in
    ap (λ m. record (counts_of (device_state c n es d)) { queued = m }) queued ∙ ap (λ m. record (device_counts c es d) { requeued = m }) waits

-- a device holds no more than there are events
pub few_held : (c : Topology) (n : ℕ) (es : List Event) (d : ℕ) → length (device_state c n es d).waiting + length (device_state c n es d).later ≤ length es
few_held c n es d = omega (arith, held-few c n es d, few_stays es)
