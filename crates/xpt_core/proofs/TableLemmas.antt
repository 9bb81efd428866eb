-- what a table of rows holds after a change
use Rattle.std.proofs.Common.{◌≡◌, ◌≢◌, ℕ, ◌+◌, ◌-◌, ◌^◌, ◌<◌, ◌≤◌, Bool, true, false, cond, List, [], ◌∷◌, ◌++◌, length, set, get_or, refl, sym, ap, subst, ◌∙◌, arith, Option, Some, None, is_some, inl, inr, option_map, add-zero, length-set, unwrap_or, option_and_then, count_by, slice_get, All}
use Rattle.std.specs.Option.{option_map_or}
use Rattle.std.proofs.lemmas.Bool.{cases_lt}
use Rattle.std.proofs.lemmas.Option.{slice_get_within, get_or_from_slice_get, slice_get-map, unwrap_or-slice_get}
use Rattle.std.proofs.lemmas.List.{length-map, get_or-map, get_or_append_left, get_or_push, map-append, length_push}
use Rattle.std.proofs.lemmas.List.Elements.{All-get_or}
use Rattle.std.proofs.lemmas.List.Sums.{sum_by-set, sum_by_push, sum_by_more_le, count_by-le-length}
use Rattle.xpt_core.specs.Words.{Handle, Table, find, held_count, Updates, Event}
use Rattle.xpt_core.specs.Change.{next_row, updated_at, IsSmall, Ccb}
use Rattle.xpt_core.specs.Rows.{rows_in, is_row_in_flight, IsTable}
use Rattle.xpt_core.proofs.ListFacts.{map-same, map-but}

abbrev bit : Bool → ℕ
bit b = cond b 1 0

module _ (slots slots' : Table Ccb) (handles : List Handle) (room flying : ℕ) (handle : Handle) (row : Option Ccb)
    (sound : IsTable slots handles room flying) (updates : Updates slots slots' handle row) where
  -- a handle of another number finds what it found
  other_number : (h : Handle) → h.number ≢ handle.number → find slots' h ≡ find slots h
  other_number h ne = updates.others h (λ same. ne (ap (λ (x : Handle). x.number) same))

  -- a new handle
  module _ (number : handle.number ≡ slots.taken) where
    pub rows-taken : rows_in slots' (handles ++ handle ∷ []) ≡ rows_in slots handles ++ row ∷ []
    rows-taken =
        map-append (find slots') handles (handle ∷ [])
        ∙ ap (λ rs. rs ++ find slots' handle ∷ []) (map-same (find slots) (find slots') handles (λ k d lt. other_number (get_or handles k d) (λ same. absurd (omega (arith, same, sound.numbered k d lt, sound.taken, number)))))
        ∙ ap (λ r. rows_in slots handles ++ r ∷ []) updates.changed

    numbered_all : (k : ℕ) (d : Handle) → k < length (handles ++ handle ∷ []) → (get_or (handles ++ handle ∷ []) k d).number ≡ k
    numbered_all k d lt = elim (cases_lt k (length handles)) [
      | inl less ↦ ap (λ (h : Handle). h.number) (get_or_append_left handles (handle ∷ []) d k less) ∙ sound.numbered k d less
      | inr le ↦
          let same : k ≡ length handles = omega (arith, length_push handles handle) in
          ap (λ (h : Handle). h.number) (get_or_push handles handle d k (sym same)) ∙ number ∙ sound.taken ∙ sym same
    ]

    pub table-taken : is_some row ≡ true → is_row_in_flight row ≡ false → held_count slots' ≡ held_count slots + 1 → slots'.taken ≡ slots.taken + 1 → length handles < room → IsTable slots' (handles ++ handle ∷ []) room flying
    table-taken some grounded held taken lt = record {
      numbered = numbered_all;
      taken = taken ∙ omega (arith, sound.taken, length_push handles handle);
      held = held ∙ ap (λ n. n + 1) sound.held ∙ sym (ap (count_by is_some) rows-taken ∙ sum_by_push (λ r. bit (is_some r)) (rows_in slots handles) row ∙ ap (λ b. count_by is_some (rows_in slots handles) + bit b) some);
      counted = sound.counted ∙ sym (ap (count_by is_row_in_flight) rows-taken ∙ sum_by_push (λ r. bit (is_row_in_flight r)) (rows_in slots handles) row ∙ ap (λ b. count_by is_row_in_flight (rows_in slots handles) + bit b) grounded ∙ add-zero (count_by is_row_in_flight (rows_in slots handles)));
      few = omega (arith, length_push handles handle);
      range = sound.range;
    }

  -- a change under the handle at a place
  module _ (n : ℕ) (at : slice_get handles n ≡ Some handle) where
    inside : n < length handles
    inside = slice_get_within handles n handle at

    there : (d : Handle) → get_or handles n d ≡ handle
    there d = get_or_from_slice_get handles n handle d at

    pub rows-changed : rows_in slots' handles ≡ set (rows_in slots handles) n row
    rows-changed =
        map-but (find slots) (find slots') handles n handle inside
        (λ k d lt ne. other_number (get_or handles k d) (λ same. ne (omega (arith, same, sound.numbered k d lt, ap (λ (h : Handle). h.number) (there d), sound.numbered n d inside))))
        ∙ ap (λ h. set (rows_in slots handles) n (find slots' h)) (there handle)
        ∙ ap (set (rows_in slots handles) n) updates.changed

    old_row : (d : Option Ccb) → get_or (rows_in slots handles) n d ≡ find slots handle
    old_row d = get_or-map (find slots) handles n handle d inside ∙ ap (find slots) (there handle)

    count_changed : (p : Option Ccb → Bool) → count_by p (rows_in slots' handles) + bit (p (find slots handle)) ≡ count_by p (rows_in slots handles) + bit (p row)
    count_changed p =
        ap (λ m. m + bit (p (find slots handle))) (ap (count_by p) rows-changed)
        ∙ ap (λ r. count_by p (set (rows_in slots handles) n row) + bit (p r)) (sym (old_row None))
        ∙ sum_by-set (λ r. bit (p r)) (rows_in slots handles) n row None (omega (arith, inside, length-map handles (find slots)))

    pub table-changed : (flying' : ℕ) → held_count slots' + bit (is_some (find slots handle)) ≡ held_count slots + bit (is_some row) → slots'.taken ≡ slots.taken → flying' + bit (is_row_in_flight (find slots handle)) ≡ flying + bit (is_row_in_flight row) → IsTable slots' handles room flying'
    table-changed flying' held taken flew = record {
      numbered = sound.numbered;
      taken = taken ∙ sound.taken;
      held = omega (arith, held, sound.held, count_changed is_some);
      counted = omega (arith, flew, sound.counted, count_changed is_row_in_flight);
      few = sound.few;
      range = sound.range;
    }

-- what stands under the handle at a place is a row
pub row_at : (slots : Table Ccb) (handles : List Handle) (n : ℕ) (handle : Handle) → slice_get handles n ≡ Some handle → slice_get (rows_in slots handles) n ≡ Some (find slots handle)
row_at slots handles n handle at = slice_get-map (find slots) handles n ∙ ap (option_map (find slots)) at

-- a row is counted if its CCB is in flight, and there are no more of these than CCBs
counted_at : (p : Option Ccb → Bool) (rs : List (Option Ccb)) (n : ℕ) (r : Option Ccb) → slice_get rs n ≡ Some r → bit (p r) ≤ count_by p rs
counted_at p rs n r at =
    let lt = slice_get_within rs n r at in
    let is = get_or_from_slice_get rs n r r at in
    omega (arith, sum_by_more_le (λ x. bit (p x)) rs n r lt, ap (λ x. bit (p x)) is)

pub flying_at : (rs : List (Option Ccb)) (n : ℕ) (r : Option Ccb) → slice_get rs n ≡ Some r → bit (is_row_in_flight r) ≤ count_by is_row_in_flight rs
flying_at rs n r at = counted_at is_row_in_flight rs n r at

pub row_under : (slots : Table Ccb) (handles : List Handle) (n : ℕ) → get_or (rows_in slots handles) n None ≡ option_and_then (find slots) (slice_get handles n)
row_under slots handles n = sym (unwrap_or-slice_get (rows_in slots handles) n None) ∙ ap (λ o. unwrap_or o None) (slice_get-map (find slots) handles n) ∙ joined (slice_get handles n)
  where
    joined : (o : Option Handle) → unwrap_or (option_map (find slots) o) None ≡ option_and_then (find slots) o
    joined None = refl
    joined (Some h) = refl

pub small_at : (slots : Table Ccb) (handles : List Handle) (n : ℕ) (handle : Handle) → All IsSmall (rows_in slots handles) → slice_get handles n ≡ Some handle → IsSmall (find slots handle)
small_at slots handles n handle small at =
    let row = row_at slots handles n handle at in
    let lt = slice_get_within (rows_in slots handles) n (find slots handle) row in
    subst IsSmall (get_or_from_slice_get (rows_in slots handles) n (find slots handle) None row) (All-get_or IsSmall (rows_in slots handles) n None lt small)

-- the change of a row by an event
pub rows-event : (slots slots' : Table Ccb) (handles : List Handle) (room flying : ℕ) (handle : Handle) (old new : Option Ccb) (n : ℕ) (e : Event) →
    IsTable slots handles room flying → Updates slots slots' handle new → slice_get handles n ≡ Some handle → old ≡ find slots handle → new ≡ next_row n e old →
    rows_in slots' handles ≡ updated_at e (rows_in slots handles) n
rows-event slots slots' handles room flying handle old new n e sound updates at was is =
    rows-changed slots slots' handles room flying handle new sound updates n at
    ∙ ap (set (rows_in slots handles) n) (is ∙ ap (next_row n e) was)
    ∙ sym (ap (λ o. option_map_or (λ r. set (rows_in slots handles) n (next_row n e r)) o (rows_in slots handles)) (row_at slots handles n handle at))

pub sound-event : (slots slots' : Table Ccb) (handles : List Handle) (room flying flew flies : ℕ) (handle : Handle) (old new : Option Ccb) (n : ℕ) →
    IsTable slots handles room flying → Updates slots slots' handle new → slice_get handles n ≡ Some handle → old ≡ find slots handle →
    held_count slots' + cond (is_some (find slots handle)) 1 0 ≡ held_count slots + cond (is_some new) 1 0 → slots' ≡ record slots { slots = slots'.slots } →
    flew ≡ cond (is_row_in_flight old) 1 0 → flies ≡ cond (is_row_in_flight new) 1 0 → flew ≤ flying →
    IsTable slots' handles room (flying - flew + flies)
sound-event slots slots' handles room flying flew flies handle old new n sound updates at was held rest flew_is flies_is le =
    let was_flying : bit (is_row_in_flight old) ≡ bit (is_row_in_flight (find slots handle)) = ap (λ r. bit (is_row_in_flight r)) was in
    table-changed slots slots' handles room flying handle new sound updates n at (flying - flew + flies) held
    (ap (λ (t : Table Ccb). t.taken) rest) (omega (arith, was_flying, flew_is, flies_is, le))

-- no more are in flight than there are rows, also after a change of one
pub flying-fits : (slots : Table Ccb) (handles : List Handle) (room flying flew flies n : ℕ) (old new : Option Ccb) → IsTable slots handles room flying → slice_get (rows_in slots handles) n ≡ Some old →
    flew ≡ bit (is_row_in_flight old) → flies ≡ bit (is_row_in_flight new) → flying - flew + flies < 2 ^ 32
flying-fits slots handles room flying flew flies n old new is at flew_is flies_is =
    let rs = rows_in slots handles in
    let lt = slice_get_within rs n old at in
    let was = get_or_from_slice_get rs n old old at in
    omega (
      arith,
      flew_is,
      flies_is,
      is.counted,
      is.few,
      is.range,
      length-map handles (find slots),
      ap (λ r. bit (is_row_in_flight r)) was,
      flying_at rs n old at,
      sum_by-set (λ r. bit (is_row_in_flight r)) rs n new old lt,
      count_by-le-length is_row_in_flight (set rs n new),
      length-set rs n new,
    )
