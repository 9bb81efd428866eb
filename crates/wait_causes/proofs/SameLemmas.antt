-- what the tests of equality say of rows of weights, adapters and devices
use lib.Pointwise.{pointwise}
use Rattle.std.proofs.Common.{◌≡◌, ℕ, Bool, true, false, not, List, refl, sym, ap, subst, ◌∙◌, nat_eq, ◌&&◌, eqb-true, eq-eqb, None, Some}
use Rattle.std.specs.Prelude.{Decides, Option}
use Rattle.std.specs.Option.{option_eq}
use Rattle.std.proofs.lemmas.Bool.{and_parts}
use Rattle.std.proofs.lemmas.Slice.Eq.{slice_eq-Decides}
use Rattle.cam_types.specs.declared.adapter.Adapter.{Adapter}
use Rattle.cam_types.specs.contracts.adapter.AdapterPartialEq.TheImpl as adapters
use Rattle.cam_types.specs.declared.device.Device.{Device}
use Rattle.cam_types.specs.contracts.device.DevicePartialEq.TheImpl as devices
use Rattle.cam_types.specs.declared.weight_row.WeightRow.{WeightRow}
use Rattle.cam_types.specs.contracts.weight_row.WeightRowPartialEq.TheImpl as weights
use Rattle.wait_causes.specs.Terms.{Tells}

never : false ≡ true → ⊥
never e = cc

-- a test that decides tells
tells : {X : Type 0} (x y : X) (stated r : Bool) → stated ≡ not r → Decides r (x ≡ y) → Tells stated x y
tells x y stated true is d = ((λ t. absurd (never (sym is ∙ t))), (λ f. d.0 refl))
tells x y stated false is d = ((λ t e. never (d.1 e)), (λ f. absurd (never (sym f ∙ is))))

itself : (n : ℕ) → nat_eq n n ≡ true
itself n = eq-eqb n n refl

weight_from : (a b : WeightRow) → a.last ≡ b.last → a.weight ≡ b.weight → a ≡ b
weight_from a b e f = ap (λ (x : ℕ). let r : WeightRow = record { last = x; weight = a.weight } in r) e ∙ ap (λ (x : ℕ). let r : WeightRow = record { last = b.last; weight = x } in r) f

weight_decides : (a b : WeightRow) → Decides (weights.ghosts.eq a b) (a ≡ b)
weight_decides a b = (
  (λ h. let p = and_parts (nat_eq a.last b.last) (nat_eq a.weight b.weight) h in weight_from a b (eqb-true _ _ p.0) (eqb-true _ _ p.1)),
  (λ e. subst (λ x. weights.ghosts.eq a x ≡ true) e (rw (itself a.last, itself a.weight) refl)),
)

pub weights_tell : (xs ys : List WeightRow) (stated : Bool) → stated ≡ not (pointwise weights.ghosts.eq xs ys) → Tells stated xs ys
weights_tell xs ys stated is = tells xs ys stated (pointwise weights.ghosts.eq xs ys) is (slice_eq-Decides weight_decides xs ys (pointwise weights.ghosts.eq xs ys) refl)

same_link : (x y : Option ℕ) → option_eq nat_eq x y ≡ true → x ≡ y
same_link None None h = refl
same_link None (Some y) h = absurd (never h)
same_link (Some x) None h = absurd (never h)
same_link (Some x) (Some y) h = ap Some (eqb-true x y h)

link_itself : (x : Option ℕ) → option_eq nat_eq x x ≡ true
link_itself None = refl
link_itself (Some x) = itself x

adapter_from : (a b : Adapter) → a.openings ≡ b.openings → a.link ≡ b.link → a ≡ b
adapter_from a b e f = ap (λ (x : ℕ). let r : Adapter = record { openings = x; link = a.link } in r) e ∙ ap (λ (x : Option ℕ). let r : Adapter = record { openings = b.openings; link = x } in r) f

adapter_decides : (a b : Adapter) → Decides (adapters.ghosts.eq a b) (a ≡ b)
adapter_decides a b = (
  (λ h. let p = and_parts (nat_eq a.openings b.openings) (option_eq nat_eq a.link b.link) h in adapter_from a b (eqb-true _ _ p.0) (same_link _ _ p.1)),
  (λ e. subst (λ x. adapters.ghosts.eq a x ≡ true) e (rw (itself a.openings, link_itself a.link) refl)),
)

pub adapters_tell : (xs ys : List Adapter) (stated : Bool) → stated ≡ not (pointwise adapters.ghosts.eq xs ys) → Tells stated xs ys
adapters_tell xs ys stated is = tells xs ys stated (pointwise adapters.ghosts.eq xs ys) is (slice_eq-Decides adapter_decides xs ys (pointwise adapters.ghosts.eq xs ys) refl)

device_from : (a b : Device) → a.bus ≡ b.bus → a.target ≡ b.target → a.lun ≡ b.lun → a.openings ≡ b.openings → a ≡ b
device_from a b e f g h =
    ap (λ (x : ℕ). let r : Device = record { bus = x; target = a.target; lun = a.lun; openings = a.openings } in r) e
    ∙ ap (λ (x : ℕ). let r : Device = record { bus = b.bus; target = x; lun = a.lun; openings = a.openings } in r) f
    ∙ ap (λ (x : ℕ). let r : Device = record { bus = b.bus; target = b.target; lun = x; openings = a.openings } in r) g
    ∙ ap (λ (x : ℕ). let r : Device = record { bus = b.bus; target = b.target; lun = b.lun; openings = x } in r) h

device_decides : (a b : Device) → Decides (devices.ghosts.eq a b) (a ≡ b)
device_decides a b = (
  (λ h.
      let p = and_parts (nat_eq a.bus b.bus) (nat_eq a.target b.target && (nat_eq a.lun b.lun && nat_eq a.openings b.openings)) h in
      let q = and_parts (nat_eq a.target b.target) (nat_eq a.lun b.lun && nat_eq a.openings b.openings) p.1 in
      let r = and_parts (nat_eq a.lun b.lun) (nat_eq a.openings b.openings) q.1 in
      device_from a b (eqb-true _ _ p.0) (eqb-true _ _ q.0) (eqb-true _ _ r.0) (eqb-true _ _ r.1)),
  (λ e. subst (λ x. devices.ghosts.eq a x ≡ true) e (rw (itself a.bus, itself a.target, itself a.lun, itself a.openings) refl)),
)

pub devices_tell : (xs ys : List Device) (stated : Bool) → stated ≡ not (pointwise devices.ghosts.eq xs ys) → Tells stated xs ys
devices_tell xs ys stated is = tells xs ys stated (pointwise devices.ghosts.eq xs ys) is (slice_eq-Decides device_decides xs ys (pointwise devices.ghosts.eq xs ys) refl)
