-- the definitions at one history: a driver submits a CCB, and a lane sends it and completes it
use Rattle.std.specs.Prelude.{◌≡◌, true, false, List, [], ◌∷◌, map, Some, slice_get, refl}
use Rattle.cam_types.specs.Topology.{Topology, unlinked}
use Rattle.cam_types.specs.Weights.{standard_weights}
use Rattle.cam_types.specs.declared.outcome.Outcome.{Outcome}
use Rattle.event_rules.specs.declared.event.Event.{Event}
use Rattle.event_rules.specs.declared.event.Event.TheVariants.{Submit, Send, Done, Tick}
use Rattle.event_rules.specs.Counts.{submissions, round, sendings, caller_count, error_count, adapter_freezes, counted_requeues, is_recovering}
use Rattle.event_rules.specs.Head.{openings, has_opening, adapter_has_opening, link_has_opening, is_ready, last_sent, turn, head, next}
use Rattle.event_rules.specs.Stays.{stays_begun, waiting, has_queued, queue, first}
use Rattle.sense_class.specs.Classes.{kind_of, scsi_kind, sense_kind}
use Rattle.sense_class.specs.Sense.{read_sense, fixed_sense, descriptor_sense}
use Rattle.sense_class.specs.declared.class.Class.TheVariants.{Complete}
use Rattle.xpt_state.specs.declared.reply.Reply.TheVariants as replies
use Rattle.xpt_lock.specs.Receipts.{receipts_of, all_receipts, naming, is_rising, marks, Receipt}
use Rattle.xpt_lock.specs.Seats.{Held}
use Rattle.xpt_lock.specs.declared.seat.SeatName.TheVariants as names

-- one adapter, one device and one lane, each of one opening
abbrev frame : Topology
frame = record { weights = standard_weights; links = []; adapters = unlinked 1 ∷ []; devices = record { bus = 0; target = 1; lun = 0; openings = 1 } ∷ []; lanes = 0 ∷ [] }

abbrev submit : Event
submit = Submit 0 0 1152 4 (record { qfreeze = false; qfrzdis = false })

abbrev good : Outcome
good = record { status = 1; scsi = 0; sense = [] }

abbrev submitted : Receipt
submitted = record { at = 0; event = submit; reply = replies.Ccb 0 }

abbrev sent : Receipt
sent = record {
  at = 1;
  event = Send 0 0;
  reply = replies.Command (record { ccb = 0; attempt = 0; driver = 0; device = 0; priority = 1152 });
}

abbrev completed : Receipt
completed = record { at = 2; event = Done 0 good; reply = replies.Done (record { class = Complete; value = 1 }) }

-- the two seats, the lane's first
abbrev seats : List Held
seats = record { name = names.Lane 0; receipts = sent ∷ completed ∷ [] } ∷ record { name = names.Driver 0; receipts = submitted ∷ [] } ∷ []

-- what one thread would get for the submit and a tick
abbrev ticked : Receipt
ticked = record { at = 1; event = Tick; reply = replies.Round 2 }

two_receipts : receipts_of frame (submit ∷ Tick ∷ []) ≡ submitted ∷ ticked ∷ []
unfolding submissions round
two_receipts = refl

-- what it would get for the three events: the CCB's number, the command whose turn it is, and what the completion comes to
abbrev due : List Receipt
due = submitted ∷ sent ∷ completed ∷ []

three_receipts : receipts_of frame (submit ∷ Send 0 0 ∷ Done 0 good ∷ []) ≡ due
unfolding submissions round stays_begun waiting has_queued queue first openings has_opening adapter_has_opening link_has_opening is_ready last_sent turn head next sendings caller_count error_count adapter_freezes counted_requeues is_recovering kind_of scsi_kind sense_kind read_sense fixed_sense descriptor_sense
three_receipts = refl

-- each receipt fits: it stands in the history at the place that it names
each_fits : map (λ (r : Receipt). slice_get due r.at) (all_receipts seats) ≡ map Some (all_receipts seats)
each_fits = refl

-- each place is named once, and the lane's places rise
each_once : marks 3 (all_receipts seats) ≡ true ∷ true ∷ true ∷ []
each_once = refl

one_of_the_send : naming 1 (all_receipts seats) ≡ 1
one_of_the_send = refl

lanes_places_rise : is_rising (sent ∷ completed ∷ []) ≡ true
lanes_places_rise = refl

-- turned round they don't
turned_places_fall : is_rising (completed ∷ sent ∷ []) ≡ false
turned_places_fall = refl
