-- which of two stays goes before the other
use Rattle.std.proofs.Common.{◌≡◌, ℕ, ◌<◌, ◌⊎◌, true, false, sym, ◌∙◌, inl, inr, arith}
use Rattle.std.specs.Bool.{Decides}
use Rattle.std.proofs.lemmas.Bool.{false_from_ne_true, false≢true}
use Rattle.std.proofs.lemmas.Bool.Decides.{Decides-and, Decides-or, Decides-eqb, Decides-ltb}
use Rattle.round_net.specs.Instance.{Instance}
use Rattle.orders.specs.Orders.{came_before, goes_before}
use Rattle.orders.specs.declared.order.Order.{Order}
use Rattle.orders.specs.declared.order.Order.TheVariants.{FirstCome, ByWeight}

-- a stay came before another one, and it goes before it
abbrev pub Came : Instance → ℕ → ℕ → Type 0
Came net s t = (net.arrival s < net.arrival t) ⊎ ((net.arrival s ≡ net.arrival t) × (s < t))

abbrev pub Goes : Order → Instance → ℕ → ℕ → Type 0
Goes FirstCome net s t = Came net s t
Goes ByWeight net s t = (net.weight t < net.weight s) ⊎ ((net.weight s ≡ net.weight t) × Came net s t)

Came-decided : (net : Instance) (s t : ℕ) → Decides (came_before net s t) (Came net s t)
Came-decided net s t = Decides-or _ _ (Decides-ltb (net.arrival s) (net.arrival t)) (Decides-and _ _ (Decides-eqb (net.arrival s) (net.arrival t)) (Decides-ltb s t))

pub Goes-decided : (order : Order) (net : Instance) (s t : ℕ) → Decides (goes_before order net s t) (Goes order net s t)
Goes-decided FirstCome net s t = Came-decided net s t
Goes-decided ByWeight net s t = Decides-or _ _ (Decides-ltb (net.weight t) (net.weight s)) (Decides-and _ _ (Decides-eqb (net.weight s) (net.weight t)) (Came-decided net s t))

-- no stay came before itself, and of three that came one after the other the first came before the last
Came-irreflexive : (net : Instance) (s : ℕ) → Came net s s → ⊥
Came-irreflexive net s came = elim came [ inl less ↦ omega arith | inr same ↦ omega (arith, same.1) ]

Came-transitive : (net : Instance) (s t u : ℕ) → Came net s t → Came net t u → Came net s u
Came-transitive net s t u first second = elim first [
  | inl less ↦ elim second [ inl more ↦ inl (omega arith) | inr same ↦ inl (omega (arith, same.0)) ]
  | inr tied ↦ elim second [ inl more ↦ inl (omega (arith, tied.0)) | inr same ↦ inr (omega (arith, tied.0, same.0), omega (arith, tied.1, same.1)) ]
]

Goes-irreflexive : (order : Order) (net : Instance) (s : ℕ) → Goes order net s s → ⊥
Goes-irreflexive FirstCome net s goes = Came-irreflexive net s goes
Goes-irreflexive ByWeight net s goes = elim goes [ inl less ↦ omega arith | inr same ↦ Came-irreflexive net s same.1 ]

Goes-transitive : (order : Order) (net : Instance) (s t u : ℕ) → Goes order net s t → Goes order net t u → Goes order net s u
Goes-transitive FirstCome net s t u first second = Came-transitive net s t u first second
Goes-transitive ByWeight net s t u first second = elim first [
  | inl less ↦ elim second [ inl more ↦ inl (omega arith) | inr same ↦ inl (omega (arith, same.0)) ]
  | inr tied ↦ elim second [
    | inl more ↦ inl (omega (arith, tied.0))
    | inr same ↦ inr (omega (arith, tied.0, same.0), Came-transitive net s t u tied.1 same.1)
  ]
]

-- the same by the test
pub goes_before-itself : (order : Order) (net : Instance) (s : ℕ) → goes_before order net s s ≡ false
goes_before-itself order net s = false_from_ne_true _ (λ goes. Goes-irreflexive order net s ((Goes-decided order net s s).0 goes))

pub goes_before-transitive : (order : Order) (net : Instance) (s t u : ℕ) → goes_before order net s t ≡ true → goes_before order net t u ≡ true → goes_before order net s u ≡ true
goes_before-transitive order net s t u first second = (Goes-decided order net s u).1 (Goes-transitive order net s t u ((Goes-decided order net s t).0 first) ((Goes-decided order net t u).0 second))

pub goes_before-back : (order : Order) (net : Instance) (s t : ℕ) → goes_before order net s t ≡ true → goes_before order net t s ≡ false
goes_before-back order net s t first = false_from_ne_true _ (λ back. false≢true (sym (goes_before-itself order net s) ∙ goes_before-transitive order net s t s first back))
