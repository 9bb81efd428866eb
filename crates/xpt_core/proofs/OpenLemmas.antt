-- the adapters' queues before any event
use Rattle.std.proofs.Common.{◌≡◌, ℕ, ◌+◌, ◌<◌, Bool, true, false, cond, List, [], ◌∷◌, ◌++◌, length, get_or, refl, sym, ap, ◌∙◌, arith, map, append-nil, zero-add, ◌==◌, filter, slice_get}
use Rattle.std.specs.List.{range_with_len}
use Rattle.std.specs.Option.{option_map_or}
use Rattle.std.proofs.lemmas.Bool.Decides.{nat_tests}
use Rattle.std.proofs.lemmas.List.{map-append}
use Rattle.std.proofs.lemmas.List.Elements.{filter-append}
use Rattle.std.proofs.lemmas.Option.{slice_get-get_or}
use Rattle.xpt_core.specs.Words.{Topology, sendings, adapter_freezes, first, queue, waiting, stays_begun, is_on, adapter_openings, is_ready, last_sent, Adapter, new_row}
use Rattle.cam_types.specs.declared.adapter.Adapter as cam
use Rattle.cam_types.specs.declared.device.Device.{Device}
use Rattle.event_rules.proofs.ListFacts.{range_with_len-push}
use Rattle.event_rules.proofs.StateLaws.{map-range_same}
use Rattle.xpt_core.specs.Known.{known, nothing, devices_on, adapter_of, adapters_of}
use Rattle.xpt_core.proofs.RowLemmas.{adapter, known-same}

-- one device more
more_cases : (p : ℕ → Bool) (n : ℕ) (b : Bool) → p n ≡ b → filter p (n ∷ []) ≡ cond b (n ∷ []) []
more_cases p n b e = ap (λ t. cond t (n ∷ []) []) e

filter-range_more : (p : ℕ → Bool) (n : ℕ) → filter p (range_with_len 0 (n + 1)) ≡ filter p (range_with_len 0 n) ++ filter p (n ∷ [])
filter-range_more p n =
    ap (filter p) (range_with_len-push 0 n ∙ ap (λ k. range_with_len 0 n ++ k ∷ []) (zero-add n)) ∙ filter-append p (range_with_len 0 n) (n ∷ [])

bus_is : (c : Topology) (a n : ℕ) (ds : List Device) (d : Device) → ds ≡ c.devices → n < length ds → is_on c a n ≡ ((get_or ds n d).bus == a)
bus_is c a n ds d same lt =
    ap (λ xs. option_map_or (λ (x : Device). x.bus == a) (slice_get xs n) false) (sym same) ∙ ap (λ o. option_map_or (λ (x : Device). x.bus == a) o false) (slice_get-get_or ds n d lt)

same_number : (a b : ℕ) → a ≡ b → (a == b) ≡ true
same_number a b e = grind (arith, nat_tests)

module _ (c : Topology) (a n : ℕ) (ds : List Device) (d : Device) (same : ds ≡ c.devices) (lt : n < length ds) (xs : List ℕ) (so_far : xs ≡ filter (is_on c a) (range_with_len 0 n)) where
  pub one_more : (bus : ℕ) → bus ≡ (get_or ds n d).bus → bus ≡ a → xs ++ n ∷ [] ≡ filter (is_on c a) (range_with_len 0 (n + 1))
  one_more bus is at =
      ap (λ l. l ++ n ∷ []) so_far
      ∙ sym (filter-range_more (is_on c a) n ∙ ap (λ l. filter (is_on c a) (range_with_len 0 n) ++ l) (more_cases (is_on c a) n true (bus_is c a n ds d same lt ∙ same_number _ a (sym is ∙ at))))

  pub none_more : (bus : ℕ) → bus ≡ (get_or ds n d).bus → (bus == a) ≡ false → xs ≡ filter (is_on c a) (range_with_len 0 (n + 1))
  none_more bus is off =
      so_far
      ∙ sym (filter-range_more (is_on c a) n ∙ ap (λ l. filter (is_on c a) (range_with_len 0 n) ++ l) (more_cases (is_on c a) n false (bus_is c a n ds d same lt ∙ ap (λ b. b == a) (sym is) ∙ off))
      ∙ append-nil (filter (is_on c a) (range_with_len 0 n)))

-- one adapter more
pub adapter_more : (c : Topology) (n : ℕ) (given : List cam.Adapter) (ds : List ℕ) (d : cam.Adapter) (ss : List Adapter) → given ≡ c.adapters → n < length given → ds ≡ devices_on c n →
    ss ≡ map (adapter_of c nothing) (range_with_len 0 n) →
    ss ++ record { rows = map new_row ds; openings = (get_or given n d).openings; sent = 0; callers = 0 } ∷ [] ≡ map (adapter_of c nothing) (range_with_len 0 (n + 1))
adapter_more c n given ds d ss same lt on so_far =
    let takes : (get_or given n d).openings ≡ adapter_openings c n =
    sym (ap (λ xs. option_map_or (λ (k : cam.Adapter). k.openings) (slice_get xs n) 0) (sym same) ∙ ap (λ o. option_map_or (λ (k : cam.Adapter). k.openings) o 0) (slice_get-get_or given n d lt)) in
    let made : adapter (map new_row ds) (get_or given n d).openings 0 0 ≡ adapter_of c nothing n =
    ap (λ o. adapter (map new_row ds) o 0 0) takes ∙ ap (λ xs. adapter (map new_row xs) (adapter_openings c n) 0 0) on in
    ap (λ s. ss ++ s ∷ []) made ∙ ap (λ xs. xs ++ adapter_of c nothing n ∷ []) so_far
    ∙ sym (ap (map (adapter_of c nothing)) (range_with_len-push 0 n ∙ ap (λ k. range_with_len 0 n ++ k ∷ []) (zero-add n)) ∙ map-append (adapter_of c nothing) (range_with_len 0 n) (n ∷ []))

-- nothing is known before any event
pub known-nothing : (c : Topology) → adapters_of c nothing ≡ adapters_of c (known c [])
unfolding known last_sent sendings adapter_freezes is_ready first queue waiting stays_begun
known-nothing c =
    sym (map-range_same (adapter_of c nothing) (adapter_of c (known c [])) 0 (length c.adapters) (λ a low lt. known-same c nothing (known c []) a (λ x. refl) (λ x. refl) refl refl))
