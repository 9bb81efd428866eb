-- a stay is of a CCB that was submitted, and at that CCB's device
use Rattle.std.proofs.Common.{length-append, ◌≡◌, ℕ, Bool, true, List, [], ◌∷◌, ◌++◌, length, refl, sym, ap, ◌∙◌, arith, append_assoc, Option, Some, None, slice_get}
use Rattle.std.specs.List.{list_all, filter_map}
use Rattle.std.specs.Option.{option_map_or}
use Rattle.std.proofs.lemmas.List.Elements.{filter_map-append}
use Rattle.std.specs.List.{cons_option}
use Rattle.std.proofs.Math.ListN.{get_or-append}
use Rattle.std.proofs.Math.Seq.{get_or-append_seam}
use Rattle.std.proofs.lemmas.Option.{slice_get_within, slice_get-get_or, get_or_from_slice_get}
use Rattle.std.proofs.lemmas.Bool.{and_from, eq-eqb}
use Rattle.cam_types.specs.Lists.{prefixed_after}
use Rattle.event_rules.specs.Event.{is_some_and, submission_of, Event, Submit, Requeue}
use Rattle.event_rules.specs.Counts.{submissions, submission, commands, Submission}
use Rattle.event_rules.specs.Stays.{stays_begun, stay_begun, Passage}
use Rattle.event_rules.specs.Laws.{is_stay_of}

-- the stay's CCB was submitted with the stay's device and priority
abbrev pub is_of_its_ccb : List Event → Passage → Bool
is_of_its_ccb events p = is_some_and (is_stay_of p) (submission events p.ccb)

pub submissions-append : (xs ys : List Event) → submissions (xs ++ ys) ≡ submissions xs ++ submissions ys
unfolding submissions
submissions-append xs ys = filter_map-append submission_of xs ys

-- an element stays at its place in a longer list
slice_get-append : {X : Type 0} → (xs ys : List X) (i : ℕ) (x : X) → slice_get xs i ≡ Some x → slice_get (xs ++ ys) i ≡ Some x
slice_get-append xs ys i x h =
    let within = slice_get_within xs i x h in
    slice_get-get_or (xs ++ ys) i x (omega (arith, within, length-append xs ys)) ∙ ap Some (get_or-append xs ys x i within ∙ get_or_from_slice_get xs i x x h)

-- an element stands after those before it
slice_get-seam : {X : Type 0} → (xs ys : List X) (x : X) → slice_get (xs ++ x ∷ ys) (length xs) ≡ Some x
slice_get-seam xs ys x =
    slice_get-get_or (xs ++ x ∷ ys) (length xs) x (omega (arith, length-append xs (x ∷ ys))) ∙ ap Some (get_or-append_seam xs x ys x)

-- what was submitted stays so
pub submission-append : (xs ys : List Event) (ccb : ℕ) (s : Submission) → submission xs ccb ≡ Some s → submission (xs ++ ys) ccb ≡ Some s
submission-append xs ys ccb s h = rw submissions-append (slice_get-append (submissions xs) (submissions ys) ccb s h)

-- what an event submits is the CCB of the next number
submission-seam : (before after : List Event) (event : Event) (s : Submission) → submission_of event ≡ Some s → submission (before ++ event ∷ after) (commands before) ≡ Some s
unfolding submissions
submission-seam before after event s e =
    rw filter_map-append (rw e (slice_get-seam (submissions before) (submissions after) s))

of_its_ccb-from : (events : List Event) (p : Passage) (ccb : ℕ) (s : Submission) → submission events ccb ≡ Some s → p.ccb ≡ ccb → p.device ≡ s.device → p.priority ≡ s.priority → is_of_its_ccb events p ≡ true
of_its_ccb-from events p ccb s e same_ccb same_device same_priority =
    rw (same_ccb, e) (and_from _ _ (eq-eqb s.device p.device (sym same_device)) (eq-eqb s.priority p.priority (sym same_priority)))

abbrev ccb_of : Option Passage → ℕ
ccb_of o = option_map_or (λ (p : Passage). p.ccb) o 0

abbrev device_at : Option Passage → ℕ
device_at o = option_map_or (λ (p : Passage). p.device) o 0

abbrev priority_of : Option Passage → ℕ
priority_of o = option_map_or (λ (p : Passage). p.priority) o 0

-- the stay that an event begins
of_its_ccb-stay_begun : (before after : List Event) (event : Event) (p : Passage) → stay_begun (before, event) ≡ Some p → is_of_its_ccb (before ++ event ∷ after) p ≡ true
of_its_ccb-stay_begun before after (Submit driver device priority retries flags) p h =
    let s : Submission = record { driver = driver; device = device; priority = priority; retries = retries; flags = flags } in
    let e = submission-seam before after (Submit driver device priority retries flags) s refl in
    of_its_ccb-from _ p (commands before) s e (sym (ap ccb_of h)) (sym (ap device_at h)) (sym (ap priority_of h))
of_its_ccb-stay_begun before after (Requeue ccb) p h =
    elim (submission before ccb) as (λ o. submission before ccb ≡ o → is_of_its_ccb (before ++ Requeue ccb ∷ after) p ≡ true) [
      | None ↦ λ e. let g = rw e at h in absurd cc
      | Some s ↦ λ e. let g = rw e at h in
          of_its_ccb-from _ p ccb s (submission-append before (Requeue ccb ∷ after) ccb s e) (sym (ap ccb_of g)) (sym (ap device_at g)) (sym (ap priority_of g))
    ] refl
of_its_ccb-stay_begun before after _ p h = absurd cc

-- the stays that events begin after others
of_its_ccb-after : (before after : List Event) → list_all (is_of_its_ccb (before ++ after)) (filter_map stay_begun (prefixed_after before after)) ≡ true
of_its_ccb-after before [] = refl
of_its_ccb-after before (event ∷ after) =
    let rest : list_all (is_of_its_ccb (before ++ event ∷ after)) (filter_map stay_begun (prefixed_after (before ++ event ∷ []) after)) ≡ true =
    rw append_assoc at (of_its_ccb-after (before ++ event ∷ []) after) in
    elim (stay_begun (before, event)) as (λ o. stay_begun (before, event) ≡ o → list_all (is_of_its_ccb (before ++ event ∷ after)) (cons_option o (filter_map stay_begun (prefixed_after (before ++ event ∷ []) after))) ≡ true) [
      | None ↦ λ _. rest
      | Some p ↦ λ e. and_from _ _ (of_its_ccb-stay_begun before after event p e) rest
    ] refl

pub of_its_ccb-stays_begun : (events : List Event) → list_all (is_of_its_ccb events) (stays_begun events) ≡ true
unfolding stays_begun
of_its_ccb-stays_begun events = of_its_ccb-after [] events
