-- what a row has, its owner has
use Rattle.std.proofs.Common.{◌≡◌, ℕ, ◌+◌, ◌-◌, true, false, length, refl, arith, nat_lt}
use Rattle.std.proofs.lemmas.Bool.Decides.{nat_tests}
use Rattle.cam_types.specs.Topology.{Topology}
use Rattle.round_net.specs.Caps.{by_row, IsResourceOf}
use Rattle.round_net.specs.declared.resource_state.Resource.TheVariants.{Device, Adapter, Link}

pub by_resource_device : {A : Type 0} (c : Topology) (f g h : ℕ → A) (row d : ℕ) → IsResourceOf c row (Device d) → by_row c f g h row ≡ f d
by_resource_device c f g h row d is =
    let before : nat_lt d (length c.devices) ≡ true = grind (arith, nat_tests, is.1) in
    rw (is.0, before) refl

pub by_resource_adapter : {A : Type 0} (c : Topology) (f g h : ℕ → A) (row a : ℕ) → IsResourceOf c row (Adapter a) → by_row c f g h row ≡ g a
by_resource_adapter c f g h row a is =
    let n : ℕ = length c.devices in
    let past : nat_lt (n + a) n ≡ false = grind (arith, nat_tests) in
    let before : nat_lt (n + a) (n + length c.adapters) ≡ true = grind (arith, nat_tests, is.1) in
    let at : n + a - n ≡ a = omega arith in
    rw (is.0, past, before, at) refl

pub by_resource_link : {A : Type 0} (c : Topology) (f g h : ℕ → A) (row l : ℕ) → IsResourceOf c row (Link l) → by_row c f g h row ≡ h l
by_resource_link c f g h row l is =
    let n : ℕ = length c.devices in
    let m : ℕ = n + length c.adapters in
    let past : nat_lt (m + l) n ≡ false = grind (arith, nat_tests) in
    let beyond : nat_lt (m + l) m ≡ false = grind (arith, nat_tests) in
    let at : m + l - m ≡ l = omega arith in
    rw (is.0, past, beyond, at) refl
