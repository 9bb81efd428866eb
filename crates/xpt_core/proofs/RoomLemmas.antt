-- what the devices' queues have room for, and what they hold
use Rattle.std.proofs.Common.{◌≡◌, ℕ, ◌+◌, ◌<◌, ◌≤◌, Bool, true, false, cond, List, [], ◌∷◌, length, refl, ap, ◌∙◌, arith, Some, inl, inr, map, not, ◌==◌, ◌&&◌, nat_lt, nat_le, filter, fold, count_by, slice_get, is_some}
use Rattle.std.specs.List.{list_any}
use Rattle.std.proofs.lemmas.Bool.Decides.{nat_tests}
use Rattle.std.proofs.lemmas.List.{length-map}
use Rattle.std.proofs.lemmas.List.Sums.{sum_by-cons, length-filter, count_by-le-length}
use Rattle.std.proofs.lemmas.Option.{slice_get_cases}
use Rattle.std.proofs.lemmas.Bool.{or_parts}
use Rattle.xpt_core.specs.Words.{is_less, Topology, is_some_and, round, commands, ccbs, submission, submissions, is_in_flight, freeze_count, has_in_flight, stays_begun, waiting, is_at, queue, queue_key, first, insert_by, is_ready, has_opening, openings, Event, Submission, Passage}
use Rattle.event_rules.proofs.QueueLaws.{first-in_order}
use Rattle.dev_queue.specs.Device.{Device, held_count}
use Rattle.dev_queue.specs.Device as dev
use Rattle.event_rules.proofs.TotalLaws.{few_waiting}
use Rattle.xpt_core.specs.Device.{entry, in_order, is_later, later, device_state}
use Rattle.xpt_core.proofs.FieldLaws.{is_stay_at, sent_now}

-- how many stays wait
length_cases : (y x : Passage) (ys rest : List Passage) (b : Bool) → length rest ≡ length ys + 1 → length (cond b (x ∷ y ∷ ys) (y ∷ rest)) ≡ length (y ∷ ys) + 1
length_cases y x ys rest true e = omega arith
length_cases y x ys rest false e = omega (arith, e)

length-insert : (ys : List Passage) (x : Passage) → length (insert_by queue_key ys x) ≡ length ys + 1
length-insert [] x = omega arith
length-insert (y ∷ ys) x = length_cases y x ys (insert_by queue_key ys x) (is_less (queue_key x) (queue_key y)) (length-insert ys x)

pub length-fold : (ys xs : List Passage) → length (fold (insert_by queue_key) ys xs) ≡ length ys + length xs
length-fold ys [] = omega arith
length-fold ys (x ∷ xs) = omega (arith, length-fold (insert_by queue_key ys x) xs, length-insert ys x)

not_both : (same : Bool) (a r : ℕ) → cond {A = ℕ} (same && nat_le a r) 1 0 + cond {A = ℕ} (same && nat_lt r a) 1 0 ≤ 1
not_both true a r = grind (arith, nat_tests)
not_both false a r = omega arith

held_few : (d r : ℕ) (ps : List Passage) → count_by (is_at d r) ps + count_by (is_later d r) ps ≤ length ps
held_few d r [] = omega arith
held_few d r (p ∷ ps) =
    omega (arith, not_both (p.device == d) p.arrival r, held_few d r ps, sum_by-cons (λ (x : Passage). cond (is_at d r x) 1 0) p ps, sum_by-cons (λ (x : Passage). cond (is_later d r x) 1 0) p ps)

held-stays_begun : (es : List Event) (d : ℕ) → length (in_order es d) + length (later es d) ≤ length (stays_begun es)
unfolding queue
held-stays_begun es d =
    omega (arith, length-fold [] (filter (is_at d (round es)) (waiting es)), length-filter (is_at d (round es)) (waiting es), length-filter (is_later d (round es)) (waiting es), held_few d (round es) (waiting es), few_waiting es)

pub held-few : (c : Topology) (n : ℕ) (es : List Event) (d : ℕ) → held_count (device_state c n es d) ≤ length (stays_begun es)
unfolding device_state
held-few c n es d = omega (arith, held-stays_begun es d, length-map (in_order es d) entry, length-map (later es d) entry)

pub entered-few : (c : Topology) (n : ℕ) (es : List Event) (d : ℕ) → (device_state c n es d).entered ≤ length (stays_begun es)
unfolding device_state
entered-few c n es d = count_by-le-length (is_stay_at d) (stays_begun es)

-- none counts where none is in flight
none_any : (p q : ℕ → Bool) (xs : List ℕ) → list_any p xs ≡ false → count_by (λ x. p x && q x) xs ≡ 0
none_any p q [] h = refl
none_any p q (x ∷ xs) h =
    let parts = or_parts (p x) (list_any p xs) h in
    let here : ◌≡◌ {A = ℕ} (cond (p x && q x) 1 0) 0 = ap (λ b. cond {A = ℕ} (b && q x) 1 0) parts.0 in
    omega (arith, here, none_any p q xs parts.1, sum_by-cons (λ y. cond (p y && q y) 1 0) x xs)

pub none-flying : (c : Topology) (n : ℕ) (es : List Event) (d : ℕ) → has_in_flight es ≡ false → (device_state c n es d).in_flight ≡ 0
unfolding device_state has_in_flight
none-flying c n es d h = none_any (is_in_flight es) (λ ccb. is_some_and (λ (s : Submission). s.device == d) (submission es ccb)) (ccbs es) h

-- what was submitted
pub submitted : (es : List Event) (ccb : ℕ) → ccb < commands es → (s : Submission) × (submission es ccb ≡ Some s)
submitted es ccb lt = elim (slice_get_cases (submissions es) ccb).1 [
  | inl w ↦ (w.0, w.2)
  | inr v ↦ absurd (omega (arith, v.0))
]

-- a device is ready where its queue is
some_first : (ps : List Passage) → not (length (map entry ps) == 0) ≡ is_some (slice_get ps 0)
some_first [] = refl
some_first (p ∷ ps) = grind (arith, nat_tests)

ready_cases : (a b c : Bool) (n : ℕ) → (n == 0) ≡ b → (a && (not (not (n == 0)) && c)) ≡ ((a && b) && c)
ready_cases true true c n e = rw e refl
ready_cases true false c n e = rw e refl
ready_cases false b c n e = refl

pub ready-state : (c : Topology) (n : ℕ) (es : List Event) (d : ℕ) → dev.is_ready (device_state c n es d) ≡ is_ready c es d
unfolding device_state is_ready has_opening
ready-state c n es d =
    ap (λ b. b && (not (not (freeze_count es d == 0)) && nat_lt (sent_now es d) (openings c es d))) (some_first (in_order es d) ∙ ap is_some (first-in_order es d))
    ∙ ready_cases (is_some (first es d)) (freeze_count es d == 0) (nat_lt (sent_now es d) (openings c es d)) (freeze_count es d) refl
