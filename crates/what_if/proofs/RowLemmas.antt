-- Rows that were all made.
use Rattle.std.proofs.Common.{◌≡◌, ℕ, ◌<◌, List, Vec, Global, length, get_or, map, Option, Some, Result, Ok, Err, sym, ap, ◌∙◌, subst}
use Rattle.std.specs.Option.{IfSome}
use Rattle.std.specs.Result.{IfOk, result_ok}
use Rattle.std.proofs.Math.ListN.{get_or-map}
use Rattle.std.proofs.lemmas.List.{length-map}
use Rattle.what_if.specs.declared.change.Change.{Change}
use Rattle.round_net.specs.Rows.{NetRows}
use Rattle.what_if.specs.Costs.{Costs, IsRowAt, AreRowsOf}

-- rows of which each is that of its list, where there is one
pub AreRowsOf-made : (n : NetRows) (lists : List (Vec Change Global)) (made : List (Option Costs)) (rows : List Costs) → map Some rows ≡ made → length made ≡ length lists → ((i : ℕ) (d : Option Costs) → i < length lists → IfSome (get_or made i d) (IsRowAt n lists i)) → AreRowsOf n lists rows
AreRowsOf-made n lists made rows all long each = record {
  long = sym (length-map rows Some) ∙ ap (λ (xs : List (Option Costs)). length xs) all ∙ long;
  each = λ i c less.
      let is : get_or made i (Some c) ≡ Some (get_or rows i c) = ap (λ (xs : List (Option Costs)). get_or xs i (Some c)) (sym all) ∙ get_or-map Some rows i c in
      subst (λ (o : Option Costs). IfSome o (IsRowAt n lists i)) is (each i (Some c) less);
}

-- what a call gave is what it promises
pub from_ok : {E : Type 0} (P : Costs → Type 0) (r : Result Costs E) (c : Costs) → result_ok r ≡ Some c → IfOk r P → P c
from_ok P (Ok x) c is holds = let same : x ≡ c = cc in subst P same holds
from_ok P (Err e) c is holds = let never : ⊥ = cc in absurd never

pub all_from : {V : Type 0} {P Q : V → Type 0} {E : Type 0} (r : Result V E) → IfOk r P → ((v : V) → P v → Q v) → IfOk r Q
all_from (Ok v) holds more = more v holds
all_from (Err e) holds more = holds
