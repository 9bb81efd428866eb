-- what held where rounds ended, so far and after one event more
use Rattle.std.proofs.Common.{◌≡◌, ℕ, zero, suc, ◌+◌, ◌-◌, ◌*◌, ◌^◌, ◌<◌, ◌≤◌, Bool, true, false, cond, List, [], ◌∷◌, ◌++◌, map, length, get_or, refl, sym, ap, ◌∙◌, arith, append_assoc, append-nil, Some, None, filter, flat_map, slice_get}
use Rattle.std.specs.List.{range_with_len}
use Rattle.std.specs.Option.{option_map, option_map_or}
use Rattle.std.proofs.lemmas.Grind.{flat_map-append}
use Rattle.std.proofs.lemmas.List.{map-append, get_or_append_left, get_or-append_right}
use Rattle.std.proofs.lemmas.List.Elements.{filter-append}
use Rattle.std.proofs.lemmas.List.FromFn.{length-map-range_with_len, get_or-map-range_with_len}
use Rattle.std.proofs.lemmas.Nat.{mul-le}
use Rattle.std.proofs.lemmas.Option.{slice_get_within}
use Rattle.round_net.specs.Words.{prefixed, Topology, IsConfig, device_adapter, Device, is_tick, Event}
use Rattle.cam_types.proofs.ConfigLemmas.{bus-there}
use Rattle.cam_types.proofs.ListLemmas.{prefixed-push}
use Rattle.event_rules.proofs.ListFacts.{range_with_len-push}
use Rattle.round_net.specs.Ends.{round_ends, at_ends}

-- a device's adapter is one of the configuration
pub bus_in : (c : Topology) (d a : ℕ) → IsConfig c → Some a ≡ option_map (λ (device : Device). device.bus) (slice_get c.devices d) → a < length c.adapters
bus_in c d a kept is = elim (slice_get c.devices d) as (λ o. slice_get c.devices d ≡ o → Some a ≡ option_map (λ (device : Device). device.bus) o → a < length c.adapters) [
  | None ↦ λ at e. absurd cc
  | Some device ↦ λ at e.
      let same : device_adapter c d ≡ device.bus = ap (λ o. option_map_or (λ (device : Device). device.bus) o 0) at in
      let bus : a ≡ device.bus = cc in
      let lt = bus-there c d kept (slice_get_within c.devices d device at) in
      omega arith
] refl is

-- a place in a table of rounds fits
pub place_fits : (r n : ℕ) → r < 2 ^ 32 → n < 2 ^ 32 → r * n ≤ 18446744065119617025
place_fits r n rs ns =
    let few : r ≤ 4294967295 = omega arith in
    let small : n ≤ 4294967295 = omega arith in
    let h = mul-le r n 4294967295 4294967295 few small in
    omega arith

-- one device or adapter more
pub number_step : {X : Type 0} (f : ℕ → X) (old xs new : List X) (n : ℕ) (x : X) → xs ≡ old ++ map f (range_with_len 0 n) → new ≡ xs ++ x ∷ [] → x ≡ f n → new ≡ old ++ map f (range_with_len 0 (n + 1))
number_step f old xs new n x was is here =
    let plain : 0 + n ≡ n = omega arith in
    is ∙ rw (was, here) (append_assoc old (map f (range_with_len 0 n)) (f n ∷ []))
    ∙ ap (λ ys. old ++ ys) (sym (ap (map f) (range_with_len-push 0 n) ∙ map-append f (range_with_len 0 n) ((0 + n) ∷ []) ∙ ap (λ k. map f (range_with_len 0 n) ++ f k ∷ []) plain))

ended : (es : List Event) (e : Event) (b : Bool) → map (λ (m : List Event × Event). m.0) (cond b ((es, e) ∷ []) []) ≡ cond b (es ∷ []) []
ended es e true = refl
ended es e false = refl

round_ends-push : (es : List Event) (e : Event) → round_ends (es ++ e ∷ []) ≡ round_ends es ++ cond (is_tick e) (es ∷ []) []
unfolding round_ends
round_ends-push es e =
    ap (λ ms. map (λ (m : List Event × Event). m.0) (filter (λ (m : List Event × Event). is_tick m.1) ms)) (prefixed-push es e)
    ∙ ap (map (λ (m : List Event × Event). m.0)) (filter-append (λ (m : List Event × Event). is_tick m.1) (prefixed es) ((es, e) ∷ []))
    ∙ map-append (λ (m : List Event × Event). m.0) (filter (λ (m : List Event × Event). is_tick m.1) (prefixed es)) (filter (λ (m : List Event × Event). is_tick m.1) ((es, e) ∷ []))
    ∙ ap (λ xs. round_ends es ++ xs) (ended es e (is_tick e))

pub at_ends-none : {X : Type 0} (held : List Event → ℕ → X) (n : ℕ) → at_ends held n [] ≡ []
unfolding at_ends round_ends
at_ends-none held n = refl

row_or_none : {X Y : Type 0} (f : Y → List X) (y : Y) (b : Bool) → flat_map f (cond b (y ∷ []) []) ≡ cond b (f y) []
row_or_none f y true = append-nil (f y)
row_or_none f y false = refl

at_ends-push : {X : Type 0} (held : List Event → ℕ → X) (n : ℕ) (es : List Event) (e : Event) → at_ends held n (es ++ e ∷ []) ≡ at_ends held n es ++ cond (is_tick e) (map (held es) (range_with_len 0 n)) []
unfolding at_ends
at_ends-push held n es e =
    ap (flat_map (λ before. map (held before) (range_with_len 0 n))) (round_ends-push es e)
    ∙ flat_map-append (λ before. map (held before) (range_with_len 0 n)) (round_ends es) (cond (is_tick e) (es ∷ []) [])
    ∙ ap (λ xs. at_ends held n es ++ xs) (row_or_none (λ before. map (held before) (range_with_len 0 n)) es (is_tick e))

-- a tick ends a round, and no other event does
pub at_ends-tick : {X : Type 0} (held : List Event → ℕ → X) (n : ℕ) (es : List Event) (e : Event) (old new : List X) → is_tick e ≡ true → old ≡ at_ends held n es → new ≡ old ++ map (held es) (range_with_len 0 n) → new ≡ at_ends held n (es ++ e ∷ [])
at_ends-tick held n es e old new ticks was is = is ∙ rw was (sym (at_ends-push held n es e ∙ ap (λ b. at_ends held n es ++ cond b (map (held es) (range_with_len 0 n)) []) ticks))

pub at_ends-still : {X : Type 0} (held : List Event → ℕ → X) (n : ℕ) (es : List Event) (e : Event) (old : List X) → is_tick e ≡ false → old ≡ at_ends held n es → old ≡ at_ends held n (es ++ e ∷ [])
at_ends-still held n es e old still was =
    was ∙ sym (at_ends-push held n es e ∙ ap (λ b. at_ends held n es ++ cond b (map (held es) (range_with_len 0 n)) []) still ∙ append-nil (at_ends held n es))

-- a place in rows of one length
row_at : {X Y : Type 0} (g : Y → ℕ → X) (n : ℕ) (ys : List Y) (k d : ℕ) (x : X) → d < n → get_or (flat_map (λ y. map (g y) (range_with_len 0 n)) ys) (k * n + d) x ≡ option_map_or (λ y. g y d) (slice_get ys k) x
row_at g n [] k d x lt = refl
row_at g n (y ∷ ys) zero d x lt =
    let here : d < length (map (g y) (range_with_len 0 n)) = rw (length-map-range_with_len (g y) 0 n) lt in
    let plain : zero * n + d ≡ d = omega arith in
    ap (λ i. get_or (flat_map (λ y. map (g y) (range_with_len 0 n)) (y ∷ ys)) i x) plain
    ∙ get_or_append_left (map (g y) (range_with_len 0 n)) (flat_map (λ y. map (g y) (range_with_len 0 n)) ys) x d here
    ∙ get_or-map-range_with_len (g y) 0 n d d x lt (omega arith)
row_at g n (y ∷ ys) (suc k) d x lt =
    let le : n ≤ suc k * n + d = omega arith in
    let less : suc k * n + d - n ≡ k * n + d = omega arith in
    get_or-append_right (map (g y) (range_with_len 0 n)) (flat_map (λ y. map (g y) (range_with_len 0 n)) ys) n (suc k * n + d) x (length-map-range_with_len (g y) 0 n) le
    ∙ ap (λ i. get_or (flat_map (λ y. map (g y) (range_with_len 0 n)) ys) i x) less
    ∙ row_at g n ys k d x lt

pub at_ends-at : {X : Type 0} (held : List Event → ℕ → X) (n : ℕ) (es : List Event) (k d : ℕ) (x : X) → d < n → get_or (at_ends held n es) (k * n + d) x ≡ option_map_or (λ before. held before d) (slice_get (round_ends es) k) x
unfolding at_ends
at_ends-at held n es k d x lt = row_at held n (round_ends es) k d x lt
