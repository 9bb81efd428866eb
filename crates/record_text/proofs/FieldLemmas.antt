-- Fields of a record.
use Rattle.std.proofs.Common.{◌≡◌, ◌≢◌, ◌<◌, ◌+◌, ℕ, zero, suc, [], ◌∷◌, length, drop, refl, ap, ◌∙◌, arith, add-one, Err, eq-eqb, ne_eqb}
use Rattle.csv.specs.Records.{field_at}
use Rattle.record_text.specs.Fields.{field_of, unused}
use Rattle.record_text.specs.Text.{Row}

-- the fields from a place on are the field there and those after it
pub drop_field : (row : Row) (at : ℕ) → at < length row → drop at row ≡ field_of row at ∷ drop (at + 1) row
unfolding field_at
drop_field [] at h = absurd (omega arith)
drop_field (f ∷ fs) zero h = refl
drop_field (f ∷ fs) (suc at) h = rw (add-one (suc at)) (drop_field fs at (omega arith) ∙ rw (add-one at) refl)

pub unused_step : (row : Row) (at : ℕ) → at < length row → length (field_of row at) ≡ 0 → unused (at + 1) (drop at row) ≡ unused (at + 1 + 1) (drop (at + 1) row)
unused_step row at h e = ap (unused (at + 1)) (drop_field row at h) ∙ rw (eq-eqb _ _ e) refl

pub unused_found : (row : Row) (at : ℕ) → at < length row → length (field_of row at) ≢ 0 → unused (at + 1) (drop at row) ≡ Err (at + 1)
unused_found row at h e = ap (unused (at + 1)) (drop_field row at h) ∙ rw (ne_eqb _ _ e) refl
