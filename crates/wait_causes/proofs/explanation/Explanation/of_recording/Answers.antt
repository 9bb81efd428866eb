use Rattle.std.proofs.Common.{◌≡◌, ◌∙◌, ap, sym, subst, refl, length, map, zip, List}
use Rattle.cam_types.specs.Lists.{prefixed}
use Rattle.recording_file.specs.Recorded.{Recorded}
use Rattle.round_net.specs.RecordedNets.{net_of_recording}
use Rattle.wait_causes.specs.Words.{instance_of_rows, NetRows, IsSound}
use Rattle.wait_causes.specs.Counting.{AreWithin}
use Rattle.wait_causes.specs.Origins.{instance_in, live_in}
use Rattle.wait_causes.specs.Stays.{counted, request_by, ExplainedStay}
use Rattle.wait_causes.specs.declared.origin.Origin.TheVariants as origin
use Rattle.wait_causes.proofs.ExplainedLemmas.{recording_within, recording_found, recording_explained, recording_stays}
use Rattle.wait_causes.proofs.explanation.Explanation.of_recording.Goals as goal

pub list_requests-requires : goal.list_requests-requires
list_requests-requires c =
    let stays = ap (λ (n : NetRows). (instance_of_rows n).stays) c.requires.net ∙ recording_stays c.args.recording in
    record { pace = c.requires.pace ∙ stays; best = c.requires.stays ∙ stays }

pub count_waits-requires-clause-within : goal.count_waits-requires-clause-within
count_waits-requires-clause-within c =
    let r = c.in_ok-rounds.rounds in
    let net_is : c.args.net.now ≡ net_of_recording r = c.requires.net ∙ ap net_of_recording (sym c.in_ok-rounds.ensures) in
    let sound : IsSound (instance_in (origin.Recording r)) (live_in (origin.Recording r)) = rw net_is at c.rounds-rounds.ensures.sound in
    let is : c.in_ok-listed.listed.items ≡ map (request_by r.config) (zip (prefixed r.requests) (zip c.args.pace.now c.args.best.now)) =
    c.in_ok-listed.ensures ∙ ap (λ (q : Recorded). map (request_by q.config) (zip (prefixed q.requests) (zip c.args.pace.now c.args.best.now))) (sym c.in_ok-rounds.ensures) in
    subst (AreWithin (instance_in (origin.Recording r))) (sym (c.deref-3.ensures.value ∙ is)) (recording_within r (zip c.args.pace.now c.args.best.now) sound)

pub invariant_of-result : goal.invariant_of-result
invariant_of-result c =
    let r = c.in_ok-rounds.rounds in
    let net_is : c.args.net.now ≡ net_of_recording r = c.requires.net ∙ ap net_of_recording (sym c.in_ok-rounds.ensures) in
    let sound : IsSound (instance_in (origin.Recording r)) (live_in (origin.Recording r)) = rw net_is at c.rounds-rounds.ensures.sound in
    let is : c.in_ok-listed.listed.items ≡ map (request_by r.config) (zip (prefixed r.requests) (zip c.args.pace.now c.args.best.now)) =
    c.in_ok-listed.ensures ∙ ap (λ (q : Recorded). map (request_by q.config) (zip (prefixed q.requests) (zip c.args.pace.now c.args.best.now))) (sym c.in_ok-rounds.ensures) in
    let count : c.in_ok-stays.stays.items ≡ map (counted (origin.Recording r)) c.in_ok-listed.listed.items = c.in_ok-stays.ensures ∙ ap (λ (xs : List ExplainedStay). map (counted (origin.Recording r)) xs) c.deref-3.ensures.value in
    let paced : length c.args.pace.now ≡ (instance_in (origin.Recording r)).stays = c.requires.pace ∙ ap (λ (n : NetRows). (instance_of_rows n).stays) net_is in
    let all : length c.args.best.now ≡ (instance_in (origin.Recording r)).stays = c.requires.stays ∙ ap (λ (n : NetRows). (instance_of_rows n).stays) net_is in
    (recording_explained r c.args.pace.now c.args.best.now c.in_ok-listed.listed.items c.in_ok-stays.stays.items sound is count paced all, c.in_ok-runs.ensures)

pub returns : goal.returns
returns c =
    let r = c.in_ok-rounds.rounds in
    let net_is : c.args.net.now ≡ net_of_recording r = c.requires.net ∙ ap net_of_recording (sym c.in_ok-rounds.ensures) in
    let sound : IsSound (instance_in (origin.Recording r)) (live_in (origin.Recording r)) = rw net_is at c.rounds-rounds.ensures.sound in
    let is : c.in_ok-listed.listed.items ≡ map (request_by r.config) (zip (prefixed r.requests) (zip c.args.pace.now c.args.best.now)) =
    c.in_ok-listed.ensures ∙ ap (λ (q : Recorded). map (request_by q.config) (zip (prefixed q.requests) (zip c.args.pace.now c.args.best.now))) (sym c.in_ok-rounds.ensures) in
    let count : c.in_ok-stays.stays.items ≡ map (counted (origin.Recording r)) c.in_ok-listed.listed.items = c.in_ok-stays.ensures ∙ ap (λ (xs : List ExplainedStay). map (counted (origin.Recording r)) xs) c.deref-3.ensures.value in
    let paced : length c.args.pace.now ≡ (instance_in (origin.Recording r)).stays = c.requires.pace ∙ ap (λ (n : NetRows). (instance_of_rows n).stays) net_is in
    let all : length c.args.best.now ≡ (instance_in (origin.Recording r)).stays = c.requires.stays ∙ ap (λ (n : NetRows). (instance_of_rows n).stays) net_is in
    let found = recording_found r c.args.pace.now c.args.best.now c.in_ok-listed.listed.items c.in_ok-stays.stays.items is count (paced ∙ recording_stays r) (all ∙ recording_stays r) in
    rw (c.in_ok-rounds.ensures, found.pace_is, found.best_is) refl
