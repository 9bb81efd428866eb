-- what tables of weights say
use Rattle.std.proofs.Common.{◌≡◌, ℕ, true, List, ap, ◌∙◌, ◌==◌}
use Rattle.std.proofs.lemmas.Bool.{and_parts, eqb-true}
use Rattle.cam_types.specs.Weights.{are_standard, is_same_row, row_to, standard_weights, WeightRow}
use Rattle.cam_types.proofs.ListLemmas.{same_lists}

pub same_row : (a b : WeightRow) → is_same_row a b ≡ true → a ≡ b
same_row a b h =
    let p = and_parts (a.last == b.last) (a.weight == b.weight) h in
    ap (λ (l : ℕ). row_to l a.weight) (eqb-true _ _ p.0) ∙ ap (λ (w : ℕ). row_to b.last w) (eqb-true _ _ p.1)

-- a table that is the standard one row by row is the standard one
pub standard_is : (rows : List WeightRow) → are_standard rows ≡ true → rows ≡ standard_weights
standard_is rows h = same_lists is_same_row rows standard_weights same_row h
