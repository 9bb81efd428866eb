-- causes by the table of rounds of a history, and by the list of a recording
use Rattle.std.proofs.Common.{◌≡◌, ℕ, ◌+◌, ◌-◌, ◌*◌, ◌/◌, ◌%◌, ◌<◌, ◌≤◌, List, [], ◌∷◌, ◌++◌, map, length, get_or, refl, sym, ap, subst, ◌∙◌, arith, zero-add, slice_get, unwrap_or}
use Rattle.std.proofs.lemmas.List.{length-map}
use Rattle.std.proofs.lemmas.List.FromFn.{get_or-map-range_with_len, map-range_with_len_more}
use Rattle.std.proofs.lemmas.Nat.{div-mul-add, mod-mul-add}
use Rattle.std.proofs.lemmas.Option.{unwrap_or-slice_get}
use Rattle.std.specs.List.{range_with_len}
use Rattle.cam_types.specs.declared.device.Device.{Device}
use Rattle.event_rules.specs.Past.{Past}
use Rattle.recording_file.specs.Recorded.{Recorded}
use Rattle.round_net.specs.RecordedNets.{instance_of_recording, live_of_recording}
use Rattle.round_net.specs.Rows.{cell}
use Rattle.round_net.proofs.CellLemmas.{cell_within}
use Rattle.round_net.proofs.RecordedLemmas.{recorded_counts}
use Rattle.wait_causes.specs.Words.{cause_in, net_of, instance_of_rows, WaitCause, NotAsked}
use Rattle.wait_causes.specs.Origins.{Origin, instance_in, cause_of}
use Rattle.wait_causes.specs.RecordedCauses.{recorded_cause}
use Rattle.wait_causes.specs.RecordedRounds.{causes_by, AreRecordedCauses}
use Rattle.wait_causes.specs.declared.origin.Origin.TheVariants as origin
use Rattle.wait_causes.proofs.CauseLemmas.{cause_in-table}

pub trace_devices : (past : Past) → (instance_in (origin.Trace past)).devices ≡ length past.config.devices
unfolding instance_of_rows net_of
trace_devices past = length-map past.config.devices (λ (device : Device). device.bus)

pub trace_cause : (past : Past) (o : Origin) (d r : ℕ) → o ≡ origin.Trace past → d < (instance_in o).devices → cause_in past.config past.events d r ≡ cause_of o d r
trace_cause past o d r is lt =
    let there : d < (instance_in (origin.Trace past)).devices = subst (λ (x : Origin). d < (instance_in x).devices) is lt in
    let within : d < length past.config.devices = omega (arith, there, trace_devices past) in
    cause_in-table past.config past.events d r within ∙ sym (ap (λ (x : Origin). cause_of x d r) is)

-- the list by device and round
causes_at : (devices rounds : ℕ) (cause : ℕ → ℕ → WaitCause) (d r : ℕ) (x : WaitCause) → d < devices → 1 ≤ r → r ≤ rounds → get_or (causes_by devices rounds cause) (cell rounds d r) x ≡ cause d r
unfolding causes_by
causes_at devices rounds cause d r x within first last =
    let lt : r - 1 < rounds = omega arith in
    let row : cell rounds d r / rounds ≡ d = div-mul-add d rounds (r - 1) lt in
    let round : cell rounds d r % rounds ≡ r - 1 = mod-mul-add d rounds (r - 1) lt in
    let back : r - 1 + 1 ≡ r = omega arith in
    get_or-map-range_with_len (λ at. cause (at / rounds) (at % rounds + 1)) 0 (devices * rounds) (cell rounds d r) (cell rounds d r) x (cell_within rounds devices d r within first last) (zero-add (cell rounds d r))
    ∙ rw (row, round, back) refl

pub cause_found : (r : Recorded) (causes : List WaitCause) (d round at rounds : ℕ) → AreRecordedCauses r causes → d < (instance_of_recording r).devices → 1 ≤ round → round ≤ (instance_of_recording r).rounds → rounds ≡ r.rounds → at ≡ cell rounds d round →
    unwrap_or (slice_get causes at) NotAsked ≡ recorded_cause (instance_of_recording r) (live_of_recording r) d round
cause_found r causes d round at rounds are device first last long is =
    let same : at ≡ cell (instance_of_recording r).rounds d round = is ∙ ap (λ n. cell n d round) (long ∙ sym (recorded_counts r).2) in
    unwrap_or-slice_get causes at NotAsked
    ∙ ap (λ (xs : List WaitCause). get_or xs at NotAsked) are
    ∙ ap (λ k. get_or (causes_by (instance_of_recording r).devices (instance_of_recording r).rounds (recorded_cause (instance_of_recording r) (live_of_recording r))) k NotAsked) same
    ∙ causes_at (instance_of_recording r).devices (instance_of_recording r).rounds (recorded_cause (instance_of_recording r) (live_of_recording r)) d round NotAsked device first last

-- one place more
pub place_more : (f : ℕ → WaitCause) (n : ℕ) (old new : List WaitCause) (x : WaitCause) → old ≡ map f (range_with_len 0 n) → new ≡ old ++ x ∷ [] → x ≡ f n → new ≡ map f (range_with_len 0 (n + 1))
place_more f n old new x was is here = is ∙ rw (was, here) (sym (map-range_with_len_more f 0 n n (zero-add n)))
