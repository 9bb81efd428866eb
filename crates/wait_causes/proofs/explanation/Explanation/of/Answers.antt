use Rattle.std.proofs.Common.{◌≡◌, ◌∙◌, ap, sym, subst, refl, length, arith, map, zip, List, true}
use Rattle.event_rules.specs.Past.{Past}
use Rattle.event_rules.proofs.LimitLemmas.{stays_most}
use Rattle.wait_causes.specs.Words.{stays_begun, instance_of_rows, net_of, NetRows, IsSound, records, StayRecord, history_rules, is_legal}
use Rattle.wait_causes.specs.Counting.{AreWithin}
use Rattle.wait_causes.specs.Origins.{instance_in, live_in}
use Rattle.wait_causes.specs.Stays.{counted, row_by, ExplainedStay}
use Rattle.wait_causes.specs.declared.origin.Origin.TheVariants as origin
use Rattle.wait_causes.proofs.ExplainedLemmas.{trace_within, trace_found, trace_explained}
use Rattle.wait_causes.proofs.NetLemmas.{all_stays}
use Rattle.wait_causes.proofs.StayLemmas.{length-records}
use Rattle.wait_causes.proofs.explanation.Explanation.of.Goals as goal

pub list_stays-requires-clause-same : goal.list_stays-requires-clause-same
list_stays-requires-clause-same c =
    let h = c.args.history.now in
    let all : length c.args.best.now ≡ length (stays_begun h.events) = c.requires.stays ∙ ap (λ (n : NetRows). (instance_of_rows n).stays) c.requires.net ∙ all_stays h.config h.events in
    all ∙ sym (ap length c.stays.ensures ∙ length-records h.events)

pub list_stays-requires-clause-few : goal.list_stays-requires-clause-few
list_stays-requires-clause-few c =
    let few = stays_most c.args.history.now.config c.args.history.now.events c.events-events.ensures.legal in
    omega (arith, ap length c.stays.ensures, length-records c.args.history.now.events)

pub count_waits-requires-clause-net : goal.count_waits-requires-clause-net
count_waits-requires-clause-net c = c.requires.net ∙ ap (λ (p : Past). net_of p.config p.events) (sym c.requires.table)

pub count_waits-requires-clause-sends : goal.count_waits-requires-clause-sends
count_waits-requires-clause-sends c =
    let past = c.args.table in
    let net_is : c.args.net.now ≡ net_of past.config past.events = c.requires.net ∙ ap (λ (p : Past). net_of p.config p.events) (sym c.requires.table) in
    rw c.deref.ensures.value (rw net_is at c.in_ok-sends.ensures)

pub count_waits-requires-clause-within : goal.count_waits-requires-clause-within
count_waits-requires-clause-within c =
    let past = c.args.table in
    let net_is : c.args.net.now ≡ net_of past.config past.events = c.requires.net ∙ ap (λ (p : Past). net_of p.config p.events) (sym c.requires.table) in
    let sound : IsSound (instance_in (origin.Trace past)) (live_in (origin.Trace past)) = rw net_is at c.rounds-rounds.ensures.sound in
    let is : c.in_ok-listed.listed.items ≡ map (row_by past.config past.events) (zip (records past.events) c.args.best.now) =
    c.in_ok-listed.ensures ∙ ap (λ (ks : List StayRecord). map (row_by past.config past.events) (zip ks c.args.best.now)) (c.stays.ensures ∙ ap (λ (p : Past). records p.events) (sym c.requires.table)) in
    subst (AreWithin (instance_in (origin.Trace past))) (sym (c.deref-2.ensures.value ∙ is)) (trace_within past c.args.best.now sound)

pub invariant_of-result : goal.invariant_of-result
invariant_of-result c =
    let past = c.args.table in
    let net_is : c.args.net.now ≡ net_of past.config past.events = c.requires.net ∙ ap (λ (p : Past). net_of p.config p.events) (sym c.requires.table) in
    let sound : IsSound (instance_in (origin.Trace past)) (live_in (origin.Trace past)) = rw net_is at c.rounds-rounds.ensures.sound in
    let is : c.in_ok-listed.listed.items ≡ map (row_by past.config past.events) (zip (records past.events) c.args.best.now) =
    c.in_ok-listed.ensures ∙ ap (λ (ks : List StayRecord). map (row_by past.config past.events) (zip ks c.args.best.now)) (c.stays.ensures ∙ ap (λ (p : Past). records p.events) (sym c.requires.table)) in
    let count : c.in_ok-stays.stays.items ≡ map (counted (origin.Trace past)) c.in_ok-listed.listed.items = c.in_ok-stays.ensures ∙ ap (λ (xs : List ExplainedStay). map (counted (origin.Trace past)) xs) c.deref-2.ensures.value in
    let all : length c.args.best.now ≡ (instance_in (origin.Trace past)).stays = c.requires.stays ∙ ap (λ (n : NetRows). (instance_of_rows n).stays) net_is in
    let legal : is_legal history_rules past.config past.events ≡ true = subst (λ (p : Past). is_legal history_rules p.config p.events ≡ true) (sym c.requires.table) c.events-events.ensures.legal in
    (trace_explained past c.args.best.now c.in_ok-listed.listed.items c.in_ok-stays.stays.items legal sound is count all, c.in_ok-runs.ensures)

pub returns : goal.returns
returns c =
    let past = c.args.table in
    let net_is : c.args.net.now ≡ net_of past.config past.events = c.requires.net ∙ ap (λ (p : Past). net_of p.config p.events) (sym c.requires.table) in
    let is : c.in_ok-listed.listed.items ≡ map (row_by past.config past.events) (zip (records past.events) c.args.best.now) =
    c.in_ok-listed.ensures ∙ ap (λ (ks : List StayRecord). map (row_by past.config past.events) (zip ks c.args.best.now)) (c.stays.ensures ∙ ap (λ (p : Past). records p.events) (sym c.requires.table)) in
    let count : c.in_ok-stays.stays.items ≡ map (counted (origin.Trace past)) c.in_ok-listed.listed.items = c.in_ok-stays.ensures ∙ ap (λ (xs : List ExplainedStay). map (counted (origin.Trace past)) xs) c.deref-2.ensures.value in
    let all : length c.args.best.now ≡ (instance_in (origin.Trace past)).stays = c.requires.stays ∙ ap (λ (n : NetRows). (instance_of_rows n).stays) net_is in
    let found = trace_found past c.args.best.now c.in_ok-listed.listed.items c.in_ok-stays.stays.items is count (all ∙ all_stays past.config past.events) in
    rw (c.requires.table, found.pace_is, found.best_is) refl
