-- the openings of a transport that goes on
use Rattle.std.proofs.Common.{◌≡◌, ℕ, zero, suc, ◌+◌, ◌≤◌, Bool, true, false, cond, List, [], ◌∷◌, ◌++◌, refl, sym, ap, ◌∙◌, arith, append_assoc, append-nil, zero-add, Option, Some, None, inl, inr, not, ◌==◌, nat_lt, filter_map, option_to_list}
use Rattle.std.specs.List.{list_all, range_with_len, before_last}
use Rattle.std.specs.Option.{option_map_or}
use Rattle.std.proofs.lemmas.Bool.{and_parts, cases_eq, cases_lt, eq-eqb, ne_eqb, eqb-true, le-ltb, lt-ltb, not-true}
use Rattle.cam_types.specs.Questions.{device_openings, devices, names_device}
use Rattle.cam_types.specs.Topology.{Topology}
use Rattle.event_rules.specs.Counts.{last}
use Rattle.event_rules.specs.Event.{is_tick, is_adjust_of, adjusts_to}
use Rattle.event_rules.specs.Head.{openings}
use Rattle.event_rules.proofs.ListFacts.{filter_map-push, range_with_len-push}
use Rattle.event_rules.proofs.OpeningLaws.{before_last-push}
use Rattle.event_rules.proofs.StateLaws.{last-push}
use Rattle.xpt_core.specs.Device.{next_openings}
use Rattle.xpt_carry.specs.Carry.{adjust_of, device_freeze, adapter_freeze, submit_of, carried, carrying}
use Rattle.xpt_carry.proofs.IdleLemmas.{all_made, of_device, of_adapter, of_submit, carrying_is, adjusts, device_freezes, sim_freezes, submits, front}
use Rattle.event_rules.specs.declared.event.Event.{Event}
use Rattle.event_rules.specs.declared.event.Event.TheVariants.{Adjust, Tick}

-- what follows without a tick
before_quiet : (ys xs : List Event) → list_all (λ e. not (is_tick e)) ys ≡ true → before_last is_tick (xs ++ ys) ≡ before_last is_tick xs
before_quiet [] xs h = ap (before_last is_tick) (append-nil xs)
before_quiet (y ∷ ys) xs h =
    let parts = and_parts (not (is_tick y)) (list_all (λ e. not (is_tick e)) ys) h in
    ap (before_last is_tick) (sym (append_assoc xs (y ∷ []) ys)) ∙ before_quiet ys (xs ++ y ∷ []) parts.1
    ∙ before_last-push is_tick xs y ∙ ap (λ b. cond b xs (before_last is_tick xs)) (not-true (is_tick y) parts.0)

-- a device's openings by these events, and else so many
abbrev openings_in : List Event → ℕ → ℕ → ℕ
openings_in es d n = option_map_or adjusts_to (last (is_adjust_of d) es) n

last_cases : (b : Bool) (e : Event) (o : Option Event) (n : ℕ) → option_map_or adjusts_to (cond b (Some e) o) n ≡ cond b (adjusts_to e) (option_map_or adjusts_to o n)
last_cases true e o n = refl
last_cases false e o n = refl

last_more : (xs : List Event) (o : Option Event) (d n : ℕ) →
    openings_in (xs ++ option_to_list o) d n ≡ option_map_or (λ e. cond (is_adjust_of d e) (adjusts_to e) (openings_in xs d n)) o (openings_in xs d n)
last_more xs None d n = ap (λ es. openings_in es d n) (append-nil xs)
last_more xs (Some e) d n =
    ap (λ o. option_map_or adjusts_to o n) (last-push (is_adjust_of d) xs e) ∙ last_cases (is_adjust_of d e) e (last (is_adjust_of d) xs) n

-- one number more: the device's own, or another's
own_step : (a b v n d : ℕ) (t : Bool) → (a == b) ≡ t → n ≡ d → v ≡ b → option_map_or (λ e. cond (is_adjust_of d e) (adjusts_to e) v) (cond t None (Some (Adjust n a))) v ≡ a
own_step a b v n d true is same before = before ∙ sym (eqb-true a b is)
own_step a b v n d false is same before = rw (eq-eqb n d same) refl

other_step : (a v n d : ℕ) (t : Bool) → (n ≡ d → ⊥) → option_map_or (λ e. cond (is_adjust_of d e) (adjusts_to e) v) (cond t None (Some (Adjust n a))) v ≡ v
other_step a v n d true ne = refl
other_step a v n d false ne = rw (ne_eqb n d ne) refl

module _ (c : Topology) (es : List Event) (d : ℕ) where
  abbrev next : ℕ → ℕ
  next n = next_openings c es n

  abbrev configured : ℕ → ℕ
  configured n = device_openings c n

  abbrev so_far : ℕ → ℕ
  so_far n = openings_in (filter_map (adjust_of c es) (range_with_len 0 n)) d (configured d)

  so_far_more : (n : ℕ) → so_far (n + 1) ≡ option_map_or (λ e. cond (is_adjust_of d e) (adjusts_to e) (so_far n)) (adjust_of c es n) (so_far n)
  so_far_more n =
      let all : filter_map (adjust_of c es) (range_with_len 0 (n + 1)) ≡ filter_map (adjust_of c es) (range_with_len 0 n) ++ option_to_list (adjust_of c es n) =
      ap (filter_map (adjust_of c es)) (range_with_len-push 0 n) ∙ filter_map-push (adjust_of c es) (range_with_len 0 n) (0 + n)
      ∙ ap (λ k. filter_map (adjust_of c es) (range_with_len 0 n) ++ option_to_list (adjust_of c es k)) (zero-add n) in
      ap (λ xs. openings_in xs d (configured d)) all ∙ last_more (filter_map (adjust_of c es) (range_with_len 0 n)) (adjust_of c es n) d (configured d)

  here : (n : ℕ) → n ≡ d → so_far n ≡ configured n → so_far (n + 1) ≡ next n
  unfolding adjust_of
  here n same before = so_far_more n ∙ own_step (next n) (configured n) (so_far n) n d (next n == configured n) refl same before

  there : (n : ℕ) → (n ≡ d → ⊥) → so_far (n + 1) ≡ so_far n
  unfolding adjust_of
  there n ne = so_far_more n ∙ other_step (next n) (so_far n) n d (next n == configured n) ne

  -- up to the device's number those of the configuration, and after it its own
  numbered : (n : ℕ) → so_far n ≡ cond (nat_lt d n) (next d) (configured d)
  numbered zero = rw (le-ltb d 0 (omega arith)) refl
  numbered (suc n) =
      let one : suc n ≡ n + 1 = omega arith in
      let ih = numbered n in
      elim (cases_eq n d) [
        | inl same ↦
            let past : nat_lt d n ≡ false = le-ltb d n (omega arith) in
            let before : so_far n ≡ configured n = ih ∙ ap (λ b. cond b (next d) (configured d)) past ∙ ap configured (sym same) in
            let now : nat_lt d (suc n) ≡ true = lt-ltb d (suc n) (omega arith) in
            ap so_far one ∙ here n same before ∙ ap next same ∙ sym (ap (λ b. cond b (next d) (configured d)) now)
        | inr ne ↦ ap so_far one ∙ there n ne ∙ ih ∙ ap (λ b. cond b (next d) (configured d)) (next_lt d n (λ e. ne (sym e)))
      ]
    where
      next_lt : (k m : ℕ) → (k ≡ m → ⊥) → nat_lt k m ≡ nat_lt k (suc m)
      next_lt k m ne = elim (cases_lt k m) [
        | inl lt ↦ lt-ltb k m lt ∙ sym (lt-ltb k (suc m) (omega arith))
        | inr le ↦ le-ltb k m le ∙ sym (le-ltb k (suc m) (more le ne))
      ]
        where
          more : m ≤ k → (k ≡ m → ⊥) → suc m ≤ k
          more le ne = omega arith

  before_fresh : before_last is_tick (carrying c es) ≡ adjusts c es
  before_fresh =
      let still : Event → Bool = λ e. not (is_tick e) in
      ap (before_last is_tick) (carrying_is c es)
      ∙ before_quiet (submits c es) (front c es) (all_made still (submit_of es) (of_submit c es still (λ s. refl)) (carried es))
      ∙ before_quiet (sim_freezes c es) (adjusts c es ++ Tick ∷ [] ++ device_freezes c es) (all_made still (adapter_freeze es) (of_adapter c es still (λ a n. refl)) _)
      ∙ before_quiet (device_freezes c es) (adjusts c es ++ Tick ∷ []) (all_made still (device_freeze es) (of_device c es still (λ a n. refl)) (devices c))
      ∙ before_last-push is_tick (adjusts c es) Tick

  pub openings_kept : names_device c d ≡ true → openings c (carrying c es) d ≡ openings c (es ++ Tick ∷ []) d
  unfolding openings
  openings_kept named =
      ap (λ xs. openings_in xs d (configured d)) before_fresh ∙ numbered _ ∙ ap (λ b. cond b (next d) (configured d)) named
      ∙ sym (ap (λ xs. openings_in xs d (configured d)) (before_last-push is_tick es Tick))
