-- what a lane's log says, a send and a completion at a time
use Rattle.std.proofs.Common.{◌≡◌, ℕ, zero, suc, ◌+◌, ◌*◌, ◌/◌, ◌%◌, ◌≤◌, Bool, true, false, List, [], ◌∷◌, ◌++◌, length, map, get_or, refl, sym, ap, ◌∙◌, subst, arith, Some, None, inl, inr, append-nil, append_assoc, take, drop, slice_get, flat_map, add-one, length-append}
use Rattle.std.proofs.lemmas.List.{map-append, length-map}
use Rattle.std.proofs.lemmas.List.Concat.{flat_map-append}
use Rattle.sim_worker.specs.Words.{Event, Send, Done, Receipt}
use Rattle.sim_worker.specs.Logs.{IsLaneLog, calls_for, command_of, commands_for, events_of}
use Rattle.sim_worker.specs.Walks.{ArePairs, EachPair, IsDone, IsLaneLength, IsSent}
use Rattle.sim_worker.specs.Ports.{Served}
use Rattle.sim_worker.proofs.RunListFacts.{some_is, take_front, take_one, take_whole}

events_push : (log : List Receipt) (r : Receipt) → events_of (log ++ r ∷ []) ≡ events_of log ++ r.event ∷ []
events_push log r = map-append (λ (x : Receipt). x.event) log (r ∷ [])

calls_push : (lane : ℕ) (served : List Served) (one : Served) → flat_map (calls_for lane) (served ++ one ∷ []) ≡ flat_map (calls_for lane) served ++ calls_for lane one
calls_push lane served one = flat_map-append (calls_for lane) served (one ∷ []) ∙ ap (λ back. flat_map (calls_for lane) served ++ back) (append-nil (calls_for lane one))

commands_push : (served : List Served) (one : Served) → flat_map commands_for (served ++ one ∷ []) ≡ flat_map commands_for served ++ commands_for one
commands_push served one = flat_map-append commands_for served (one ∷ []) ∙ ap (λ back. flat_map commands_for served ++ back) (append-nil (commands_for one))

-- one item more, with its send and its completion
pair_more : (lane : ℕ) (log : List Receipt) (served : List Served) (a b : Receipt) (one : Served) → IsSent lane a one → IsDone b one → ArePairs lane log served → ArePairs lane (log ++ a ∷ b ∷ []) (served ++ one ∷ [])
pair_more lane log served a b one sent done h =
    let split : log ++ a ∷ b ∷ [] ≡ (log ++ a ∷ []) ++ b ∷ [] = sym (append_assoc log (a ∷ []) (b ∷ [])) in
    record {
      events =
          ap events_of split ∙ events_push (log ++ a ∷ []) b ∙ ap (λ es. es ++ b.event ∷ []) (events_push log a) ∙ append_assoc (events_of log) (a.event ∷ []) (b.event ∷ [])
          ∙ ap (λ e. events_of log ++ e ∷ b.event ∷ []) sent.event ∙ ap (λ e. events_of log ++ Send lane one.command.ccb ∷ e ∷ []) done.event
          ∙ ap (λ front. front ++ calls_for lane one) h.events ∙ sym (calls_push lane served one);
      commands =
          map-append command_of log (a ∷ b ∷ []) ∙ ap (λ o. map command_of log ++ o ∷ command_of b ∷ []) sent.reply ∙ ap (λ o. map command_of log ++ Some one.command ∷ o ∷ []) done.reply
          ∙ ap (λ front. front ++ commands_for one) h.commands ∙ sym (commands_push served one);
    }

pub pairs_more : (lane : ℕ) (log : List Receipt) (served : List Served) (k : ℕ) (a b : Receipt) (one : Served) → slice_get log (k * 2) ≡ Some a → slice_get log (k * 2 + 1) ≡ Some b → slice_get served k ≡ Some one → IsSent lane a one → IsDone b one →
    ArePairs lane (take (k * 2) log) (take k served) → ArePairs lane (take ((k + 1) * 2) log) (take (k + 1) served)
pairs_more lane log served k a b one at_a at_b at_one sent done h =
    let two : (k + 1) * 2 ≡ k * 2 + 1 + 1 = omega arith in
    let first = take_one log (k * 2) a at_a in
    let second = take_one log (k * 2 + 1) b at_b in
    let front : take ((k + 1) * 2) log ≡ take (k * 2) log ++ a ∷ b ∷ [] =
    ap (λ n. take n log) two ∙ second.1 ∙ ap (λ xs. xs ++ b ∷ []) first.1 ∙ append_assoc (take (k * 2) log) (a ∷ []) (b ∷ []) in
    let items = take_one served k one at_one in
    subst (λ xs. ArePairs lane xs (take (k + 1) served)) (sym front) (subst (ArePairs lane (take (k * 2) log ++ a ∷ b ∷ [])) (sym items.1) (pair_more lane (take (k * 2) log) (take k served) a b one sent done h))

pub no_pairs : (lane : ℕ) → ArePairs lane [] []
no_pairs lane = record { events = refl; commands = refl }

-- the first of a list with more after it
first_of : {X : Type 0} → (all xs ys : List X) (n : ℕ) → all ≡ xs → length all ≡ n → take n (xs ++ ys) ≡ xs
first_of all xs ys n is len = take_front xs ys n (omega (arith, ap length is, len)) ∙ take_whole xs n (omega (arith, ap length is, len))

-- a log of pairs alone
pub whole_log : (lane : ℕ) (full : Bool) (n : ℕ) (log : List Receipt) (served : List Served) → length log ≡ n * 2 → length served ≡ n → ArePairs lane (take (n * 2) log) (take n served) → IsLaneLog lane full log served
whole_log lane full n log served size items h =
    let logs : take (n * 2) log ≡ log = take_whole log (n * 2) (omega arith) in
    let all : take n served ≡ served = take_whole served n (omega arith) in
    let events : events_of log ≡ flat_map (calls_for lane) served = ap events_of (sym logs) ∙ h.events ∙ ap (flat_map (calls_for lane)) all in
    let commands : map command_of log ≡ flat_map commands_for served = ap (map command_of) (sym logs) ∙ h.commands ∙ ap (flat_map commands_for) all in
    record {
      lacking = [];
      events = append-nil (events_of log) ∙ events;
      few = omega arith;
      whole = λ e. refl;
      commands = commands ∙ sym (take_whole (flat_map commands_for served) (length log) (omega (arith, ap length commands, length-map log command_of)));
    }

-- a log of a send more
pub half_log : (lane n : ℕ) (log : List Receipt) (served : List Served) (a : Receipt) (one : Served) → slice_get log (n * 2) ≡ Some a → slice_get served n ≡ Some one → length log ≤ n * 2 + 1 → length served ≤ n + 1 → IsSent lane a one →
    ArePairs lane (take (n * 2) log) (take n served) → IsLaneLog lane true log served
half_log lane n log served a one at_a at_one few items sent h =
    let logs : log ≡ take (n * 2) log ++ a ∷ [] = sym (take_whole log (n * 2 + 1) few) ∙ (take_one log (n * 2) a at_a).1 in
    let all : take n served ++ one ∷ [] ≡ served = sym (take_one served n one at_one).1 ∙ take_whole served (n + 1) items in
    record {
      lacking = Done one.command.ccb one.outcome ∷ [];
      events =
          ap (λ xs. events_of xs ++ Done one.command.ccb one.outcome ∷ []) logs ∙ ap (λ es. es ++ Done one.command.ccb one.outcome ∷ []) (events_push (take (n * 2) log) a)
          ∙ append_assoc (events_of (take (n * 2) log)) (a.event ∷ []) (Done one.command.ccb one.outcome ∷ [])
          ∙ ap (λ e. events_of (take (n * 2) log) ++ e ∷ Done one.command.ccb one.outcome ∷ []) sent.event
          ∙ ap (λ front. front ++ calls_for lane one) h.events ∙ sym (calls_push lane (take n served) one) ∙ ap (flat_map (calls_for lane)) all;
      few = omega arith;
      whole = λ e. absurd (no e);
      commands =
          let front = take n served in
          let own : map command_of log ≡ flat_map commands_for front ++ Some one.command ∷ [] =
          ap (map command_of) logs ∙ map-append command_of (take (n * 2) log) (a ∷ []) ∙ ap (λ o. map command_of (take (n * 2) log) ++ o ∷ []) sent.reply ∙ ap (λ os. os ++ Some one.command ∷ []) h.commands in
          let due : flat_map commands_for served ≡ (flat_map commands_for front ++ Some one.command ∷ []) ++ None ∷ [] =
          ap (flat_map commands_for) (sym all) ∙ commands_push front one ∙ sym (append_assoc (flat_map commands_for front) (Some one.command ∷ []) (None ∷ [])) in
          own ∙ sym (first_of (map command_of log) (flat_map commands_for front ++ Some one.command ∷ []) (None ∷ []) (length log) own (length-map log command_of)) ∙ ap (take (length log)) (sym due);
    }
  where
    no : true ≡ false → ⊥
    no e = cc

-- ---- what such a log has to be

-- the first item's send and completion, and the rest
sent_first : (lane : ℕ) (r : Receipt) (log : List Receipt) (lacking : List Event) (x : Served) (served : List Served) → events_of (r ∷ log) ++ lacking ≡ flat_map (calls_for lane) (x ∷ served) → map command_of (r ∷ log) ≡ take (length (r ∷ log)) (flat_map commands_for (x ∷ served)) → IsSent lane r x
sent_first lane r log lacking x served events commands = record { event = ap (λ es. get_or es 0 r.event) events; reply = ap (λ os. get_or os 0 None) commands }

-- the sends and the completions of a lane's log, pair by pair
pair_at : (lane : ℕ) (served : List Served) (log : List Receipt) (lacking : List Event) (k n : ℕ) (a : Receipt) (one : Served) → n ≡ k * 2 → events_of log ++ lacking ≡ flat_map (calls_for lane) served → map command_of log ≡ take (length log) (flat_map commands_for served) →
    slice_get log n ≡ Some a → slice_get served k ≡ Some one → IsSent lane a one × ((b : Receipt) → slice_get log (suc n) ≡ Some b → IsDone b one)
pair_at lane [] log lacking k n a one is events commands at_a at_one = absurd (cc)
pair_at lane (x ∷ xs) [] lacking k n a one is events commands at_a at_one = absurd (cc)
pair_at lane (x ∷ xs) (r ∷ rs) lacking zero (suc n) a one is events commands at_a at_one = absurd (omega arith)
pair_at lane (x ∷ xs) (r ∷ rs) lacking (suc k) zero a one is events commands at_a at_one = absurd (omega arith)
pair_at lane (x ∷ xs) (r ∷ rs) lacking (suc k) (suc zero) a one is events commands at_a at_one = absurd (omega arith)
pair_at lane (x ∷ xs) (r ∷ []) lacking (suc k) (suc (suc n)) a one is events commands at_a at_one = absurd (cc)
pair_at lane (x ∷ xs) (r ∷ q ∷ rs) lacking (suc k) (suc (suc n)) a one is events commands at_a at_one =
    pair_at lane xs rs lacking k n a one (omega arith) (ap (drop 2) events) (ap (drop 2) commands) at_a at_one
pair_at lane (x ∷ xs) (r ∷ []) lacking zero zero a one is events commands at_a at_one = (
  subst (λ y. IsSent lane y one) (some_is r a at_a) (subst (IsSent lane r) (some_is x one at_one) (sent_first lane r [] lacking x xs events commands)),
  λ b at_b. absurd (cc),
)
pair_at lane (x ∷ xs) (r ∷ q ∷ rs) lacking zero zero a one is events commands at_a at_one = (
  subst (λ y. IsSent lane y one) (some_is r a at_a) (subst (IsSent lane r) (some_is x one at_one) (sent_first lane r (q ∷ rs) lacking x xs events commands)),
  λ b at_b. subst (λ y. IsDone y one) (some_is q b at_b) (subst (IsDone q) (some_is x one at_one) (record { event = ap (λ es. get_or es 1 q.event) events; reply = ap (λ os. get_or os 1 (command_of q)) commands })),
)

pub log_pairs : (lane : ℕ) (full : Bool) (log : List Receipt) (served : List Served) (count : ℕ) → IsLaneLog lane full log served → EachPair lane log served count
log_pairs lane full log served count h k a b one lt at_a at_b at_one =
    let both = pair_at lane served log h.lacking k (k * 2) a one refl h.events h.commands at_a at_one in
    (both.0, both.1 b (ap (slice_get log) (sym (add-one (k * 2))) ∙ at_b))

pub log_half : (lane : ℕ) (full : Bool) (log : List Receipt) (served : List Served) (k n : ℕ) (a : Receipt) (one : Served) → IsLaneLog lane full log served → n ≡ k * 2 → slice_get log n ≡ Some a → slice_get served k ≡ Some one → IsSent lane a one
log_half lane full log served k n a one h is at_a at_one = (pair_at lane served log h.lacking k n a one is h.events h.commands at_a at_one).0

two_each : (lane : ℕ) (served : List Served) → length (flat_map (calls_for lane) served) ≡ length served * 2
two_each lane [] = refl
two_each lane (x ∷ xs) = omega (arith, two_each lane xs)

pub log_length : (lane : ℕ) (full : Bool) (log : List Receipt) (served : List Served) → IsLaneLog lane full log served → IsLaneLength full (length log) (length served)
log_length lane full log served h =
    let size : length log + length h.lacking ≡ length served * 2 = omega (arith, ap length h.events, length-append (events_of log) h.lacking, length-map log (λ (r : Receipt). r.event), two_each lane served) in
    by_lacking full h.lacking h.few h.whole size
  where
    by_lacking : (b : Bool) (lacking : List Event) → length lacking ≤ 1 → (b ≡ false → lacking ≡ []) → length log + length lacking ≡ length served * 2 → IsLaneLength b (length log) (length served)
    by_lacking b [] few whole size = inl (omega arith)
    by_lacking true (e ∷ []) few whole size = inr (refl, size)
    by_lacking false (e ∷ []) few whole size = absurd (let none = whole refl in cc)
    by_lacking b (e ∷ f ∷ rest) few whole size = absurd (omega arith)

-- what the length of such a log says of the number of items
pub even_length : (full : Bool) (log served : ℕ) → IsLaneLength full log served → log % 2 ≡ 0 → served ≡ log / 2
even_length full log served (inl whole) even = omega (arith, whole, even)
even_length full log served (inr half) even = absurd (omega (arith, half.1, even))

pub odd_length : (full : Bool) (log served : ℕ) → IsLaneLength full log served → (log % 2 ≡ 0 → ⊥) → (full ≡ true) × (served ≡ log / 2 + 1)
odd_length full log served (inl whole) odd = absurd (odd (omega (arith, whole)))
odd_length full log served (inr half) odd = (half.0, omega (arith, half.1))
