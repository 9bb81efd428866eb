-- equal configurations
use Rattle.std.proofs.Common.{◌≡◌, ℕ, Bool, true, false, List, [], ◌∷◌, refl, ap, subst, ◌==◌, ◌&&◌, nat_eq, Option, Some, None}
use Rattle.std.specs.Option.{option_eq}
use lib.Dec.{eqb}
use Rattle.std.proofs.lemmas.Bool.{and_parts, eqb-true}
use lib.Pointwise.{pointwise}
use Rattle.sim_worker.specs.Words.{Topology, Adapter, Device, WeightRow}
use Rattle.cam_types.specs.contracts.adapter.AdapterPartialEq.TheImpl as adapters
use Rattle.cam_types.specs.contracts.device.DevicePartialEq.TheImpl as devices
use Rattle.cam_types.specs.contracts.weight_row.WeightRowPartialEq.TheImpl as rows
use Rattle.cam_types.proofs.ListLemmas.{same_lists}
use Rattle.cam_types.proofs.WeightLemmas.{same_row}
use Rattle.event_rules.proofs.ShareLaws.{same_number}

device_from : (a b : Device) → a.bus ≡ b.bus → a.target ≡ b.target → a.lun ≡ b.lun → a.openings ≡ b.openings → a ≡ b
device_from a b e f g h =
    let made : ℕ → ℕ → ℕ → ℕ → Device = λ w x y z. record { bus = w; target = x; lun = y; openings = z } in
    let whole : made a.bus a.target a.lun a.openings ≡ made b.bus b.target b.lun b.openings = rw (e, f, g, h) refl in
    whole

pub same_device : (a b : Device) → devices.ghosts.eq a b ≡ true → a ≡ b
same_device a b h =
    let p = and_parts (a.bus == b.bus) ((a.target == b.target) && ((a.lun == b.lun) && (a.openings == b.openings))) h in
    let q = and_parts (a.target == b.target) ((a.lun == b.lun) && (a.openings == b.openings)) p.1 in
    let r = and_parts (a.lun == b.lun) (a.openings == b.openings) q.1 in
    device_from a b (eqb-true _ _ p.0) (eqb-true _ _ q.0) (eqb-true _ _ r.0) (eqb-true _ _ r.1)

same_link : (a b : Option ℕ) → option_eq eqb a b ≡ true → a ≡ b
same_link None None h = refl
same_link None (Some y) h = absurd cc
same_link (Some x) None h = absurd cc
same_link (Some x) (Some y) h = ap Some (eqb-true x y h)

pub same_adapter : (a b : Adapter) → adapters.ghosts.eq a b ≡ true → a ≡ b
same_adapter a b h =
    let p = and_parts (a.openings == b.openings) (option_eq eqb a.link b.link) h in
    let made : ℕ → Option ℕ → Adapter = λ n l. record { openings = n; link = l } in
    let whole : made a.openings a.link ≡ made b.openings b.link = rw (eqb-true _ _ p.0, same_link a.link b.link p.1) refl in
    whole

pub same_numbers : (xs ys : List ℕ) → pointwise nat_eq xs ys ≡ true → xs ≡ ys
same_numbers xs ys h = same_lists nat_eq xs ys (λ x y e. eqb-true x y e) h

pub same_rows : (xs ys : List WeightRow) → pointwise rows.ghosts.eq xs ys ≡ true → xs ≡ ys
same_rows xs ys h = same_lists rows.ghosts.eq xs ys same_row h

pub same_config : (a b : Topology) → a.weights ≡ b.weights → a.links ≡ b.links → a.adapters ≡ b.adapters → a.devices ≡ b.devices → a.lanes ≡ b.lanes → b ≡ a
same_config a b w k e f g =
    let made : List WeightRow → List ℕ → List Adapter → List Device → List ℕ → Topology = λ v u x y z. record { weights = v; links = u; adapters = x; devices = y; lanes = z } in
    let whole : made b.weights b.links b.adapters b.devices b.lanes ≡ made a.weights a.links a.adapters a.devices a.lanes = rw (w, k, e, f, g) refl in
    whole

-- ---- each is equal to itself

own_row : (a : WeightRow) → rows.ghosts.eq a a ≡ true
own_row a = rw (same_number a.last, same_number a.weight) refl

own_link : (a : Option ℕ) → option_eq eqb a a ≡ true
own_link None = refl
own_link (Some x) = same_number x

own_adapter : (a : Adapter) → adapters.ghosts.eq a a ≡ true
own_adapter a = rw (same_number a.openings, own_link a.link) refl

own_device : (a : Device) → devices.ghosts.eq a a ≡ true
own_device a = rw (same_number a.bus, same_number a.target, same_number a.lun, same_number a.openings) refl

own_list : {X : Type 0} → (e : X → X → Bool) → ((x : X) → e x x ≡ true) → (xs : List X) → pointwise e xs xs ≡ true
own_list e own [] = refl
own_list e own (x ∷ xs) = rw (own x, own_list e own xs) refl

differ : {X : Type 0} → (e : X → X → Bool) → ((x : X) → e x x ≡ true) → (xs ys : List X) → pointwise e xs ys ≡ false → xs ≡ ys → ⊥
differ e own xs ys other same =
    let equal : pointwise e xs ys ≡ true = subst (λ zs. pointwise e xs zs ≡ true) same (own_list e own xs) in
    cc

pub differ_numbers : (xs ys : List ℕ) → pointwise nat_eq xs ys ≡ false → xs ≡ ys → ⊥
differ_numbers xs ys other same = differ nat_eq same_number xs ys other same

pub differ_rows : (xs ys : List WeightRow) → pointwise rows.ghosts.eq xs ys ≡ false → xs ≡ ys → ⊥
differ_rows xs ys other same = differ rows.ghosts.eq own_row xs ys other same

pub differ_adapters : (xs ys : List Adapter) → pointwise adapters.ghosts.eq xs ys ≡ false → xs ≡ ys → ⊥
differ_adapters xs ys other same = differ adapters.ghosts.eq own_adapter xs ys other same

pub differ_devices : (xs ys : List Device) → pointwise devices.ghosts.eq xs ys ≡ false → xs ≡ ys → ⊥
differ_devices xs ys other same = differ devices.ghosts.eq own_device xs ys other same
