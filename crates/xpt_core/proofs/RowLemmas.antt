-- what a change of one device's row makes of the adapters' queues
use Rattle.std.proofs.Common.{◌≡◌, ℕ, ◌+◌, ◌<◌, Bool, true, false, cond, List, [], ◌∷◌, length, refl, sym, ap, ◌∙◌, arith, Option, Some, None, inl, inr, map, ◌==◌, filter, slice_get}
use Rattle.std.specs.Option.{option_map_or}
use Rattle.std.proofs.lemmas.Option.{slice_get_within, slice_get_cases}
use Rattle.std.proofs.lemmas.Bool.{eqb-true, false≢true}
use Rattle.std.proofs.lemmas.Bool.Decides.{nat_tests}
use Rattle.xpt_core.specs.Words.{Topology, is_on, device_adapter, adapter_openings, devices, Adapter, prioritized, sent_at, Row}
use Rattle.cam_types.specs.declared.device.Device.{Device}
use Rattle.xpt_core.specs.Known.{Known, devices_on, row_of, adapter_of}

-- a row by its parts
abbrev pub row : ℕ → ℕ → Option ℕ → Row
row d t p = record { device = d; turn = t; priority = p }

pub row-same : (d t t' : ℕ) (p p' : Option ℕ) → t ≡ t' → p ≡ p' → row d t p ≡ row d t' p'
row-same d t t' p p' e e' = ap (λ n. row d n p) e ∙ ap (λ o. row d t' o) e'

flip : (a b : ℕ) → (a == b) ≡ (b == a)
flip a b = grind (arith, nat_tests)

-- another turn, or another priority, where it is the device's
turn_cases : (x t n : ℕ) (p : Option ℕ) (b : Bool) → row x (cond b n t) p ≡ cond b (row x n p) (row x t p)
turn_cases x t n p true = refl
turn_cases x t n p false = refl

priority_cases : (x t : ℕ) (q p : Option ℕ) (b : Bool) → row x t (cond b q p) ≡ cond b (row x t q) (row x t p)
priority_cases x t q p true = refl
priority_cases x t q p false = refl

pub row-sent : (k k' : Known) (d n : ℕ) → ((x : ℕ) → k'.turn x ≡ cond (d == x) (n + 1) (k.turn x)) → ((x : ℕ) → k'.ready x ≡ k.ready x) → (x : ℕ) → row_of k' x ≡ sent_at d n (row_of k x)
row-sent k k' d n turn ready x =
    row-same x _ _ _ _ (turn x ∙ ap (λ b. cond b (n + 1) (k.turn x)) (flip d x)) (ready x) ∙ turn_cases x (k.turn x) (n + 1) (k.ready x) (x == d)

pub row-ready : (k k' : Known) (d : ℕ) (p : Option ℕ) → ((x : ℕ) → k'.turn x ≡ k.turn x) → ((x : ℕ) → k'.ready x ≡ cond (d == x) p (k.ready x)) → (x : ℕ) → row_of k' x ≡ prioritized d p (row_of k x)
row-ready k k' d p turn ready x =
    row-same x _ _ _ _ (turn x) (ready x ∙ ap (λ b. cond b p (k.ready x)) (flip d x)) ∙ priority_cases x (k.turn x) p (k.ready x) (x == d)

module _ (k k' : Known) where
  pub rows_all : (change : Row → Row) → ((x : ℕ) → row_of k' x ≡ change (row_of k x)) → (ds : List ℕ) → map (row_of k') ds ≡ map change (map (row_of k) ds)
  rows_all change h [] = refl
  rows_all change h (d ∷ ds) = ap (λ r. r ∷ map (row_of k') ds) (h d) ∙ ap (λ rs. change (row_of k d) ∷ rs) (rows_all change h ds)

  pub rows_where : (p : ℕ → Bool) → ((x : ℕ) → p x ≡ true → row_of k' x ≡ row_of k x) → (ds : List ℕ) → map (row_of k') (filter p ds) ≡ map (row_of k) (filter p ds)
  rows_where p h [] = refl
  rows_where p h (d ∷ ds) = part (p d) refl (rows_where p h ds)
    where
      part : (b : Bool) → p d ≡ b → map (row_of k') (filter p ds) ≡ map (row_of k) (filter p ds) → map (row_of k') (cond b (d ∷ filter p ds) (filter p ds)) ≡ map (row_of k) (cond b (d ∷ filter p ds) (filter p ds))
      part true e rest = ap (λ r. r ∷ map (row_of k') (filter p ds)) (h d e) ∙ ap (λ rs. row_of k d ∷ rs) rest
      part false e rest = rest

-- a device is on its own adapter alone
pub on-bus : (c : Topology) (d : ℕ) → d < length c.devices → (a : ℕ) → is_on c a d ≡ (device_adapter c d == a)
on-bus c d lt a = elim (slice_get_cases c.devices d).1 [
  | inl w ↦ ap (λ o. option_map_or (λ (x : Device). x.bus == a) o false) w.2 ∙ sym (ap (λ o. option_map_or (λ (x : Device). x.bus) o 0 == a) w.2)
  | inr v ↦ absurd (omega (arith, v.0))
]

-- a device is there that is on an adapter
pub on-there : (c : Topology) (a d : ℕ) → is_on c a d ≡ true → d < length c.devices
on-there c a d on = elim (slice_get c.devices d) as (λ o. slice_get c.devices d ≡ o → option_map_or (λ (x : Device). x.bus == a) o false ≡ true → d < length c.devices) [
  | None ↦ λ e g. absurd (cc)
  | Some x ↦ λ e g. slice_get_within c.devices d x e
] refl on

-- the rows of an adapter where those of one device change
module _ (c : Topology) (k k' : Known) (d bus : ℕ) (on : (a : ℕ) → is_on c a d ≡ (bus == a)) (change : Row → Row) (all : (x : ℕ) → row_of k' x ≡ change (row_of k x)) (other : (x : ℕ) → (d == x) ≡ false → row_of k' x ≡ row_of k x) where
  elsewhere : (a x : ℕ) → (bus == a) ≡ false → is_on c a x ≡ true → (d == x) ≡ false
  elsewhere a x far at = part (d == x) refl
    where
      part : (b : Bool) → (d == x) ≡ b → b ≡ false
      part true e = let same : d ≡ x = eqb-true d x e in absurd (false≢true (sym far ∙ sym (on a) ∙ ap (is_on c a) same ∙ at))
      part false e = refl

  pub rows_change : (a : ℕ) (b : Bool) → (bus == a) ≡ b → map (row_of k') (devices_on c a) ≡ cond b (map change (map (row_of k) (devices_on c a))) (map (row_of k) (devices_on c a))
  rows_change a true e = rows_all k k' change all (devices_on c a)
  rows_change a false e = rows_where k k' (is_on c a) (λ x at. other x (elsewhere a x e at)) (devices c)

-- an adapter by its parts
abbrev pub adapter : List Row → ℕ → ℕ → ℕ → Adapter
adapter rows o s f = record { rows = rows; openings = o; sent = s; callers = f }

pub adapter-same : (rows rows' : List Row) (o s s' f f' : ℕ) → rows' ≡ rows → s' ≡ s → f' ≡ f → adapter rows' o s' f' ≡ adapter rows o s f
adapter-same rows rows' o s s' f f' er es ef = ap (λ r. adapter r o s' f') er ∙ ap (λ n. adapter rows o n f') es ∙ ap (λ n. adapter rows o s n) ef

-- an adapter of which as much is known
pub known-same : (c : Topology) (k k' : Known) (a : ℕ) → ((x : ℕ) → k'.turn x ≡ k.turn x) → ((x : ℕ) → k'.ready x ≡ k.ready x) → k'.sent a ≡ k.sent a → k'.callers a ≡ k.callers a → adapter_of c k' a ≡ adapter_of c k a
known-same c k k' a turn ready sent callers =
    adapter-same _ _ (adapter_openings c a) _ _ _ _ (rows_where k k' (is_on c a) (λ x at. row-same x _ _ _ _ (turn x) (ready x)) (devices c)) sent callers
