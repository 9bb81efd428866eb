-- how many wait at the end of a round
use Rattle.std.proofs.Common.{◌≡◌, ℕ, ◌+◌, ◌-◌, ◌<◌, ◌≤◌, ◌==◌, Bool, true, false, List, [], ◌∷◌, length, refl, arith, inl, inr, ◌&&◌, nat_lt, nat_le, count_by, All, slice_index, set, sym, ap, ◌∙◌}
use Rattle.std.proofs.lemmas.Grind.{get_or-set_at}
use Rattle.std.proofs.lemmas.List.{get_or-set_other}
use Rattle.std.proofs.lemmas.Bool.{cases_eq, cases_order, cases_lt, lt-ltb, le-ltb, le-leb, lt-leb, eq-eqb, ne_eqb}
use Rattle.std.proofs.lemmas.List.Sums.{count_by-le-length}
use Rattle.recording_file.specs.declared.request.Request.{Request}
use Rattle.capture.specs.Faults.{IsInRounds}
use Rattle.capture.specs.Loads.{arrivals_in, sends_in, waiting}
use Rattle.capture.proofs.CountLemmas.{one, count_by-cons, count_split}

-- how many of a device's requests arrive before a round, and are started before it
abbrev pub come : List Request → ℕ → ℕ → ℕ
come qs device round = count_by (λ (q : Request). (q.device == device) && nat_lt q.arrival round) qs

abbrev pub gone : List Request → ℕ → ℕ → ℕ
gone qs device round = count_by (λ (q : Request). (q.device == device) && nat_lt q.sent round) qs

-- before the next round, or in this one
one_more : (x r : ℕ) → one (nat_lt x (r + 1)) ≡ one (nat_lt x r) + one (x == r)
one_more x r = elim (cases_order x r) [
  | inl same ↦ rw (lt-ltb x (r + 1) (omega arith), le-ltb x r (omega arith), eq-eqb x r same) refl
  | inr other ↦ elim other [
    | inl before ↦ rw (lt-ltb x (r + 1) (omega arith), lt-ltb x r before, ne_eqb x r (λ same. absurd (omega arith))) refl
    | inr after ↦ rw (le-ltb x (r + 1) (omega arith), le-ltb x r (omega arith), ne_eqb x r (λ same. absurd (omega arith))) refl
  ]
]

more_by : (b : Bool) (x r : ℕ) → one (b && nat_lt x (r + 1)) ≡ one (b && nat_lt x r) + one (b && (x == r))
more_by true x r = one_more x r
more_by false x r = refl

come_more : (qs : List Request) (device r : ℕ) → come qs device (r + 1) ≡ come qs device r + arrivals_in qs device r
come_more qs device r = count_split (λ (q : Request). (q.device == device) && nat_lt q.arrival (r + 1)) (λ (q : Request). (q.device == device) && nat_lt q.arrival r) (λ (q : Request). (q.device == device) && (q.arrival == r)) qs (λ k d lt. more_by _ _ r)

gone_more : (qs : List Request) (device r : ℕ) → gone qs device (r + 1) ≡ gone qs device r + sends_in qs device r
gone_more qs device r = count_split (λ (q : Request). (q.device == device) && nat_lt q.sent (r + 1)) (λ (q : Request). (q.device == device) && nat_lt q.sent r) (λ (q : Request). (q.device == device) && (q.sent == r)) qs (λ k d lt. more_by _ _ r)

-- who came by the end of a round waits or is gone
one_waits : (x y r : ℕ) → x ≤ y → one (nat_lt x (r + 1)) ≡ one (nat_le x r && nat_lt r y) + one (nat_lt y (r + 1))
one_waits x y r le = elim (cases_lt r y) [
  | inl waits ↦ elim (cases_lt r x) [
    | inl later ↦ rw (le-ltb x (r + 1) (omega arith), lt-leb x r later, le-ltb y (r + 1) (omega arith)) refl
    | inr came ↦ rw (lt-ltb x (r + 1) (omega arith), le-leb x r came, lt-ltb r y waits, le-ltb y (r + 1) (omega arith)) refl
  ]
  | inr over ↦ rw (lt-ltb x (r + 1) (omega arith), le-leb x r (omega arith), le-ltb r y over, lt-ltb y (r + 1) (omega arith)) refl
]

waits_by : (b : Bool) (x y r : ℕ) → x ≤ y → one (b && nat_lt x (r + 1)) ≡ one (b && (nat_le x r && nat_lt r y)) + one (b && nat_lt y (r + 1))
waits_by true x y r le = one_waits x y r le
waits_by false x y r le = refl

come_waits : (last : ℕ) (qs : List Request) (device r : ℕ) → All (IsInRounds last) qs → come qs device (r + 1) ≡ waiting qs device r + gone qs device (r + 1)
come_waits last qs device r h = count_split (λ (q : Request). (q.device == device) && nat_lt q.arrival (r + 1)) (λ (q : Request). (q.device == device) && (nat_le q.arrival r && nat_lt r q.sent)) (λ (q : Request). (q.device == device) && nat_lt q.sent (r + 1)) qs (λ k d lt. let is = h k d lt in waits_by _ _ _ r is.arrived)

-- what the next round makes of those that wait
pub record WaitStep (qs : List Request) (device r before a s : ℕ) : Type 0 where
  pub enough : s ≤ before + a
  pub few : before + a ≤ length qs
  pub next : before + a - s + gone qs device (r + 1) ≡ come qs device (r + 1)
  pub is : before + a - s ≡ waiting qs device r

pub wait_step : (last : ℕ) (qs : List Request) (device r before a s : ℕ) → All (IsInRounds last) qs → before + gone qs device r ≡ come qs device r → a ≡ arrivals_in qs device r → s ≡ sends_in qs device r → WaitStep qs device r before a s
wait_step last qs device r before a s h so_far arrived sent =
    let c = come_more qs device r in
    let g = gone_more qs device r in
    let w = come_waits last qs device r h in
    let most : come qs device (r + 1) ≤ length qs = count_by-le-length (λ (q : Request). (q.device == device) && nat_lt q.arrival (r + 1)) qs in
    record { enough = omega arith; few = omega arith; next = omega arith; is = omega arith }

-- the rows after a round
pub behind_more : (row : List ℕ) (r v : ℕ) (number : ℕ → ℕ) → r < length row → v ≡ number r → ((k : ℕ) → k < r → slice_index row k ≡ number k) → (k : ℕ) → k < r + 1 → slice_index (set row r v) k ≡ number k
behind_more row r v number lt is behind k low = elim (cases_eq r k) [
  | inl same ↦ get_or-set_at row r k v 0 (sym same) lt ∙ is ∙ ap number same
  | inr other ↦ get_or-set_other row r k v 0 (λ e. other (sym e)) ∙ behind k (let ne = other in omega arith)
]

pub ahead_more : (row : List ℕ) (r v last : ℕ) (number : ℕ → ℕ) → ((k : ℕ) → r ≤ k → k ≤ last → slice_index row k ≡ number k) → (k : ℕ) → r + 1 ≤ k → k ≤ last → slice_index (set row r v) k ≡ number k
ahead_more row r v last number ahead k low high = get_or-set_other row r k v 0 (λ e. absurd (omega arith)) ∙ ahead k (omega arith) high

-- before round 0 nothing comes and nothing is gone
none_before : {X : Type 0} (t : X → Bool) (f : X → ℕ) (xs : List X) → ◌≡◌ {A = ℕ} (count_by (λ x. t x && nat_lt (f x) 0) xs) 0
none_before t f [] = refl
none_before t f (x ∷ xs) =
    let none : ◌≡◌ {A = ℕ} (one (t x && nat_lt (f x) 0)) 0 = elim (t x) as (λ b. ◌≡◌ {A = ℕ} (one (b && nat_lt (f x) 0)) 0) [ true ↦ rw (le-ltb (f x) 0 (omega arith)) refl | false ↦ refl ] in
    omega (arith, none, count_by-cons (λ y. t y && nat_lt (f y) 0) x xs, none_before t f xs)

pub none_come : (qs : List Request) (device : ℕ) → 0 + gone qs device 0 ≡ come qs device 0
none_come qs device = omega (arith, none_before (λ (q : Request). q.device == device) (λ (q : Request). q.arrival) qs, none_before (λ (q : Request). q.device == device) (λ (q : Request). q.sent) qs)
