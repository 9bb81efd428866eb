-- the device whose turn it is by an adapter's rows is the one by the events
use Rattle.std.proofs.Common.{◌≡◌, ℕ, Bool, true, false, cond, List, [], ◌∷◌, refl, sym, ap, ◌∙◌, Option, Some, None, map, not, ◌&&◌, ◌==◌, filter, find, is_some, unwrap_or, All}
use Rattle.std.specs.List.{list_all}
use Rattle.std.specs.Option.{option_map, option_map_or}
use Rattle.std.proofs.lemmas.List.Elements.{All-nil, All-cons, All-head, All-tail, All-weaker}
use Rattle.xpt_core.specs.Words.{is_less, least_by, Topology, freeze_count, adapter_freezes, first, is_on, devices, is_ready, has_opening, adapter_has_opening, turn_key, may_send, turn, head, link_has_opening, Event, Passage, Row}
use Rattle.event_rules.proofs.ListFacts.{filter-both, filter-same}
use Rattle.sim_queue.specs.Adapter as sim
use Rattle.xpt_core.specs.Ready.{ready_priority}
use Rattle.xpt_core.specs.Known.{known, devices_on, row_of, adapter_of}

-- the least of a function's values, by keys that are those of the arguments
module _ {X Y : Type 0} (f : X → Y) where
  find-map : (p : Y → Bool) (q : X → Bool) (xs : List X) → All (λ x. p (f x) ≡ q x) xs → find p (map f xs) ≡ option_map f (find q xs)
  find-map p q [] h = refl
  find-map p q (x ∷ xs) h = find_cases (p (f x)) (q x) (All-head (λ y. p (f y) ≡ q y) x xs h) (find-map p q xs (All-tail (λ y. p (f y) ≡ q y) x xs h))
    where
      find_cases : (a b : Bool) → a ≡ b → find p (map f xs) ≡ option_map f (find q xs) → cond a (Some (f x)) (find p (map f xs)) ≡ option_map f (cond b (Some x) (find q xs))
      find_cases true true e rest = refl
      find_cases false false e rest = rest
      find_cases true false e rest = absurd (cc)
      find_cases false true e rest = absurd (cc)

  filter-map : (p : Y → Bool) (xs : List X) → filter p (map f xs) ≡ map f (filter (λ x. p (f x)) xs)
  filter-map p [] = refl
  filter-map p (x ∷ xs) = filter_cases (p (f x)) (filter-map p xs)
    where
      filter_cases : (b : Bool) → filter p (map f xs) ≡ map f (filter (λ y. p (f y)) xs) →
          cond b (f x ∷ filter p (map f xs)) (filter p (map f xs)) ≡ map f (cond b (x ∷ filter (λ y. p (f y)) xs) (filter (λ y. p (f y)) xs))
      filter_cases true rest = ap (λ ys. f x ∷ ys) rest
      filter_cases false rest = rest

  module _ (key : Y → List ℕ) (own : X → List ℕ) where
    abbrev SameKey : X → Type 0
    SameKey x = key (f x) ≡ own x

    all-map : (x : X) → SameKey x → (xs : List X) → All SameKey xs → list_all (λ y. not (is_less (key y) (key (f x)))) (map f xs) ≡ list_all (λ y. not (is_less (own y) (own x))) xs
    all-map x e [] h = refl
    all-map x e (y ∷ ys) h =
        ap (λ l. not (is_less l (key (f x))) && list_all (λ z. not (is_less (key z) (key (f x)))) (map f ys)) (All-head SameKey y ys h)
        ∙ ap (λ l. not (is_less (own y) l) && list_all (λ z. not (is_less (key z) (key (f x)))) (map f ys)) e
        ∙ ap (λ b. not (is_less (own y) (own x)) && b) (all-map x e ys (All-tail SameKey y ys h))

    pub least_by-map : (xs : List X) → All SameKey xs → least_by key (map f xs) ≡ option_map f (least_by own xs)
    least_by-map xs h =
        find-map (λ y. list_all (λ z. not (is_less (key z) (key y))) (map f xs)) (λ x. list_all (λ z. not (is_less (own z) (own x))) xs) xs
        (All-weaker SameKey _ (λ x e. all-map x e xs h) xs h)

All-filter : {X : Type 0} → (P : X → Type 0) (p : X → Bool) → ((x : X) → p x ≡ true → P x) → (xs : List X) → All P (filter p xs)
All-filter P p h [] = All-nil P
All-filter P p h (x ∷ xs) = part (p x) refl (All-filter P p h xs)
  where
    part : (b : Bool) → p x ≡ b → All P (filter p xs) → All P (cond b (x ∷ filter p xs) (filter p xs))
    part true e rest = All-cons P x (filter p xs) (h x e) rest
    part false e rest = rest

All-each : {X : Type 0} → (P : X → Type 0) → ((x : X) → P x) → (xs : List X) → All P xs
All-each P h [] = All-nil P
All-each P h (x ∷ xs) = All-cons P x xs (h x) (All-each P h xs)

-- a device has a ready priority where it is ready
some_cases : (o : Option Passage) (a b : Bool) → is_some (cond (is_some o && a && b) (option_map (λ (p : Passage). p.priority) o) None) ≡ (is_some o && a && b)
some_cases None a b = refl
some_cases (Some p) true true = refl
some_cases (Some p) true false = refl
some_cases (Some p) false true = refl
some_cases (Some p) false false = refl

some-ready : (c : Topology) (es : List Event) (d : ℕ) → is_some (ready_priority c es d) ≡ is_ready c es d
unfolding is_ready
some-ready c es d = some_cases (first es d) (freeze_count es d == 0) (has_opening c es d)

value_cases : (o : Option Passage) → unwrap_or (option_map (λ (p : Passage). p.priority) o) 0 ≡ option_map_or (λ (p : Passage). p.priority) o 0
value_cases None = refl
value_cases (Some p) = refl

same_key : (c : Topology) (es : List Event) (d : ℕ) → is_ready c es d ≡ true → sim.turn_key (row_of (known c es) d) ≡ turn_key es d
unfolding known
same_key c es d ready =
    let value : unwrap_or (ready_priority c es d) 0 ≡ option_map_or (λ (p : Passage). p.priority) (first es d) 0 =
    ap (λ b. unwrap_or (cond b (option_map (λ (p : Passage). p.priority) (first es d)) None) 0) ready ∙ value_cases (first es d) in
    ap (λ n. n ∷ (row_of (known c es) d).turn ∷ d ∷ []) value

device_cases : (k : _) (o : Option ℕ) → option_map (λ (r : Row). r.device) (option_map (row_of k) o) ≡ o
device_cases k None = refl
device_cases k (Some d) = refl

head-rows : (c : Topology) (es : List Event) (a : ℕ) → sim.head (map (row_of (known c es)) (devices_on c a)) ≡ least_by (turn_key es) (filter (may_send c es a) (devices c))
unfolding known
head-rows c es a =
    let k = known c es in
    let ready : filter (λ d. is_some (ready_priority c es d)) (devices_on c a) ≡ filter (is_ready c es) (devices_on c a) =
    filter-same _ (is_ready c es) (devices_on c a) (All-each _ (some-ready c es) (devices_on c a)) in
    ap (λ rs. option_map (λ (r : Row). r.device) (least_by sim.turn_key rs))
    (filter-map (row_of k) (λ (r : Row). is_some r.priority) (devices_on c a) ∙ ap (map (row_of k)) ready)
    ∙ ap (option_map (λ (r : Row). r.device))
    (least_by-map (row_of k) sim.turn_key (turn_key es) (filter (is_ready c es) (devices_on c a)) (All-filter _ (is_ready c es) (same_key c es) (devices_on c a)))
    ∙ device_cases k (least_by (turn_key es) (filter (is_ready c es) (devices_on c a)))
    ∙ ap (least_by (turn_key es)) (sym (filter-both (is_on c a) (is_ready c es) (devices c)))

pub best_ready-turn : (c : Topology) (es : List Event) (a : ℕ) → sim.best_ready (adapter_of c (known c es) a) ≡ turn c es a
unfolding known turn adapter_has_opening
best_ready-turn c es a = ap (λ o. cond ((adapter_freezes es a == 0) && adapter_has_opening c es a) o None) (head-rows c es a)

-- the head is the device whose turn it is where the adapter's link has an opening, and there is none elsewhere
pub head-open : (c : Topology) (es : List Event) (a : ℕ) → link_has_opening c es a ≡ true → head c es a ≡ turn c es a
unfolding head
head-open c es a clear = ap (λ (b : Bool). cond b (turn c es a) None) clear

pub head-closed : (c : Topology) (es : List Event) (a : ℕ) → link_has_opening c es a ≡ false → head c es a ≡ None
unfolding head
head-closed c es a shut = ap (λ (b : Bool). cond b (turn c es a) None) shut
