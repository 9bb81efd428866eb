-- What a write through `get_mut` does to the map.
use Rattle.std.proofs.Common.{◌≡◌, ◌≢◌, ℕ, ◌<◌, ◌==◌, Option, Some, None, IsSome, length, get_or, inl, inr, ap, sym, refl, subst, ◌∙◌, set}
use Rattle.std.proofs.lemmas.Bool.{cases_lt, cases_eq, eq-eqb, ne_eqb, cond-true, cond-false, false≢true}
use Rattle.std.proofs.lemmas.List.{get_or_past, get_or-set_same, get_or-set_other}
use Rattle.cam_ccb.specs.Table.{Table, value_numbered, find, with_value, Updates, Handle}
use Rattle.cam_ccb.specs.declared.table.Held.{Held}

-- a slot and a number make one handle
same_handle : (a b : Handle) → a.slot ≡ b.slot → a.number ≡ b.number → a ≡ b
same_handle a b slot number =
    ap (λ s. let h : Handle = record { slot = s; number = a.number } in h) slot
    ∙ ap (λ n. let h : Handle = record { slot = b.slot; number = n } in h) number

module _ {T : Type 0} where
  -- a slot that shows a value under a number holds that number, and shows nothing under others
  value_numbered-other : (number other : ℕ) (slot : Option (Held T)) → IsSome (value_numbered number slot) → other ≢ number → value_numbered other slot ≡ None
  value_numbered-other number other None some differ = refl
  value_numbered-other number other (Some held) some differ = elim (cases_eq held.number number) [
    | inl same ↦ cond-false (held.number == other) (Some held.value) None (ne_eqb held.number other (λ e. differ (sym e ∙ same)))
    | inr ne ↦ absurd (cc (cond-false (held.number == number) (Some held.value) None (ne_eqb held.number number ne)))
  ]

  -- the slot of a handle with a value is one of the table's
  slot_in_range : (t : Table T) (handle : Handle) → IsSome (find t handle) → handle.slot < length t.slots
  slot_in_range t handle some =
      elim (cases_lt handle.slot (length t.slots)) [
        | inl inside ↦ inside
        | inr past ↦
            absurd (false≢true (subst (λ slot. IsSome (value_numbered handle.number slot)) (get_or_past t.slots handle.slot None past) some))
      ]

  -- a handle that has a value finds what was written, and each other what it found before
  pub Updates-with_value : (t : Table T) (handle : Handle) (value : T) → IsSome (find t handle) → Updates t (with_value t handle value) handle (Some value)
  Updates-with_value t handle value some =
      let held : Held T = record { number = handle.number; value = value } in
      let inside = slot_in_range t handle some in
      record {
        changed = rw (get_or-set_same t.slots handle.slot (Some held) None inside) (cond-true (handle.number == handle.number) (Some value) None (eq-eqb handle.number handle.number refl));
        others = λ other differ. elim (cases_eq other.slot handle.slot) [
          | inl same ↦
              let ne : other.number ≢ handle.number = λ e. differ (same_handle other handle same e) in
              ap (λ s. value_numbered other.number (get_or (set t.slots handle.slot (Some held)) s None)) same
              ∙ ap (value_numbered other.number) (get_or-set_same t.slots handle.slot (Some held) None inside)
              ∙ cond-false (handle.number == other.number) (Some value) None (ne_eqb handle.number other.number (λ e. ne (sym e)))
              ∙ sym (ap (λ s. value_numbered other.number (get_or t.slots s None)) same
              ∙ value_numbered-other handle.number other.number (get_or t.slots handle.slot None) some ne)
          | inr apart ↦ ap (value_numbered other.number) (get_or-set_other t.slots handle.slot other.slot (Some held) None apart)
        ];
      }
