-- the open request of an id
use Rattle.std.proofs.Common.{nat_le, nat_lt, ◌≡◌, ℕ, ◌+◌, ◌<◌, ◌==◌, ◌&&◌, Bool, true, false, cond, List, [], ◌∷◌, ◌++◌, length, map, find, get_or, set, slice_get, Option, Some, None, refl, sym, ap, subst, ◌∙◌, arith, zero, suc, length-append}
use Rattle.std.specs.List.{AllByRecursion, count_by}
use Rattle.std.specs.Option.{IsSomeAnd, is_some, option_map}
use Rattle.std.proofs.lemmas.Bool.{leb-false, ne_eqb, eq-eqb, eqb-true, false≢true}
use Rattle.std.proofs.lemmas.List.{length-set}
use Rattle.std.proofs.lemmas.List.Sums.{sum_by-cons}
use Rattle.std.proofs.lemmas.Option.{slice_get_within}
use Rattle.capture_windows.specs.declared.attempt.Attempt.{Attempt}
use Rattle.recorder.specs.Ids.{IdList, IsAbsent, IsPlace}
use Rattle.recorder.specs.Notes.{AreApart, Note, Noted, attempt_of, change, is_open, is_open_of, open_request}
use Rattle.recorder.specs.Faults.{arrival_fault, falls}
use Rattle.recorder.specs.declared.note_fault.NoteFault.{NoteFault}
use Rattle.recorder.specs.declared.note_fault.NoteFault.TheVariants.{NoDevice, NoDriver, NoPriority, TimeFalls, AlreadyOpen, Full}
use Rattle.cam_types.specs.declared.limits.TheConstants.{MAX_PRIORITY}
use Rattle.recorder.specs.Places.{AreNotes, IsOpenAt, notes_of}
use Rattle.recorder.proofs.KeepLemmas.{no_attempt, notes_push}

abbrev note : ℕ → Attempt → Note
note id a = record { id = id; attempt = a }

-- ---- ids and attempts

pub attempts_back : (ids : List ℕ) (attempts : List Attempt) → length attempts ≡ length ids → map attempt_of (notes_of ids attempts) ≡ attempts
attempts_back [] [] same = refl
attempts_back [] (a ∷ attempts) same = absurd (omega arith)
attempts_back (x ∷ ids) [] same = absurd (omega arith)
attempts_back (x ∷ ids) (a ∷ attempts) same = ap (λ (rest : List Attempt). a ∷ rest) (attempts_back ids attempts (omega arith))

pub notes_length : (ids : List ℕ) (attempts : List Attempt) → length attempts ≡ length ids → length (notes_of ids attempts) ≡ length ids
notes_length [] attempts same = refl
notes_length (x ∷ ids) [] same = absurd (omega arith)
notes_length (x ∷ ids) (a ∷ attempts) same = ap suc (notes_length ids attempts (omega arith))

pub note_at : (ids : List ℕ) (attempts : List Attempt) (place : ℕ) → length attempts ≡ length ids → place < length ids → slice_get (notes_of ids attempts) place ≡ Some (note (get_or ids place 0) (get_or attempts place no_attempt))
note_at [] attempts place same lt = absurd (omega arith)
note_at (x ∷ ids) [] place same lt = absurd (omega arith)
note_at (x ∷ ids) (a ∷ attempts) zero same lt = refl
note_at (x ∷ ids) (a ∷ attempts) (suc place) same lt = note_at ids attempts place (omega arith) (omega arith)

pub notes_set : (ids : List ℕ) (attempts : List Attempt) (place : ℕ) (a : Attempt) → length attempts ≡ length ids → place < length ids → notes_of ids (set attempts place a) ≡ set (notes_of ids attempts) place (note (get_or ids place 0) a)
notes_set [] attempts place a same lt = absurd (omega arith)
notes_set (x ∷ ids) [] place a same lt = absurd (omega arith)
notes_set (x ∷ ids) (b ∷ attempts) zero a same lt = refl
notes_set (x ∷ ids) (b ∷ attempts) (suc place) a same lt = ap (λ (ns : List Note). note x b ∷ ns) (notes_set ids attempts place a (omega arith) (omega arith))

-- ---- no request of an id

tail_absent : (id x : ℕ) (ids : List ℕ) → IsAbsent id (x ∷ ids) → IsAbsent id ids
tail_absent id x ids h = λ j lt. h (suc j) (omega arith)

other_id : (id x : ℕ) (ids : List ℕ) (a : Attempt) → IsAbsent id (x ∷ ids) → is_open_of id (note x a) ≡ false
other_id id x ids a h = ap (λ b. b && is_open a) (ne_eqb x id (h 0 (omega arith)))

absent_find : (id : ℕ) (ids : List ℕ) (attempts : List Attempt) → IsAbsent id ids → find (is_open_of id) (notes_of ids attempts) ≡ None
absent_find id [] attempts h = refl
absent_find id (x ∷ ids) [] h = refl
absent_find id (x ∷ ids) (a ∷ attempts) h = rw (other_id id x ids a h) (absent_find id ids attempts (tail_absent id x ids h))

absent_change : (id : ℕ) (f : Attempt → Attempt) (ids : List ℕ) (attempts : List Attempt) → IsAbsent id ids → change id f (notes_of ids attempts) ≡ notes_of ids attempts
absent_change id f [] attempts h = refl
absent_change id f (x ∷ ids) [] h = refl
absent_change id f (x ∷ ids) (a ∷ attempts) h = rw (other_id id x ids a h) (ap (λ (ns : List Note). note x a ∷ ns) (absent_change id f ids attempts (tail_absent id x ids h)))

pub absent_open : (id : ℕ) (ids : List ℕ) (attempts : List Attempt) → IsAbsent id ids → open_request id (notes_of ids attempts) ≡ None
absent_open id ids attempts h = ap (option_map attempt_of) (absent_find id ids attempts h)

-- ---- the newest place of an id

head_is : (id x : ℕ) (ids : List ℕ) → IsPlace id (x ∷ ids) 0 → IsAbsent id ids
head_is id x ids h = λ j lt. h.newest (suc j) (omega arith) (omega arith)

tail_place : (id x : ℕ) (ids : List ℕ) (place : ℕ) → IsPlace id (x ∷ ids) (suc place) → IsPlace id ids place
tail_place id x ids place h = record { within = let w = h.within in omega arith; is = h.is; newest = λ j more lt. h.newest (suc j) (omega arith) (omega arith) }

-- no later note has this id
apart_at : (x : ℕ) (ids : List ℕ) (attempts : List Attempt) (place : ℕ) → length attempts ≡ length ids → place < length ids → AllByRecursion (λ (m : Note). (m.id == x) ≡ false) (notes_of ids attempts) → (get_or ids place 0 == x) ≡ false
apart_at x [] attempts place same lt h = absurd (omega arith)
apart_at x (y ∷ ids) [] place same lt h = absurd (omega arith)
apart_at x (y ∷ ids) (a ∷ attempts) zero same lt h = h.0
apart_at x (y ∷ ids) (a ∷ attempts) (suc place) same lt h = apart_at x ids attempts place (omega arith) (omega arith) h.1

earlier_closed : (id x : ℕ) (a : Attempt) (ids : List ℕ) (attempts : List Attempt) (place : ℕ) → length attempts ≡ length ids → AreApart (note x a ∷ notes_of ids attempts) → IsPlace id ids place → is_open_of id (note x a) ≡ false
earlier_closed id x a ids attempts place same apart h =
    elim (x == id) as (λ b. (x == id) ≡ b → (b && is_open a) ≡ false) [
      | true ↦ λ is. elim (is_open a) as (λ o. is_open a ≡ o → o ≡ false) [
        | true ↦ λ goes. absurd (false≢true (sym (apart_at x ids attempts place same h.within (apart.0 goes)) ∙ eq-eqb (get_or ids place 0) x (h.is ∙ sym (eqb-true x id is))))
        | false ↦ λ _. refl
      ] refl
      | false ↦ λ _. refl
    ] refl

found_at : (id : ℕ) (ids : List ℕ) (attempts : List Attempt) (place : ℕ) → length attempts ≡ length ids → AreApart (notes_of ids attempts) → IsPlace id ids place
    → find (is_open_of id) (notes_of ids attempts) ≡ cond (is_open (get_or attempts place no_attempt)) (Some (note id (get_or attempts place no_attempt))) None
found_at id [] attempts place same apart h = let w = h.within in absurd (omega arith)
found_at id (x ∷ ids) [] place same apart h = absurd (omega arith)
found_at id (x ∷ ids) (a ∷ attempts) zero same apart h =
    rw (absent_find id ids attempts (head_is id x ids h), eq-eqb x id h.is) (ap (λ y. cond (is_open a) (Some (note y a)) None) h.is)
found_at id (x ∷ ids) (a ∷ attempts) (suc place) same apart h =
    let later = tail_place id x ids place h in
    rw (earlier_closed id x a ids attempts place (omega arith) apart later) (found_at id ids attempts place (omega arith) apart.1 later)

changed_at : (id : ℕ) (f : Attempt → Attempt) (ids : List ℕ) (attempts : List Attempt) (place : ℕ) → length attempts ≡ length ids → AreApart (notes_of ids attempts) → IsPlace id ids place
    → is_open (get_or attempts place no_attempt) ≡ true → change id f (notes_of ids attempts) ≡ set (notes_of ids attempts) place (note id (f (get_or attempts place no_attempt)))
changed_at id f [] attempts place same apart h goes = let w = h.within in absurd (omega arith)
changed_at id f (x ∷ ids) [] place same apart h goes = absurd (omega arith)
changed_at id f (x ∷ ids) (a ∷ attempts) zero same apart h goes =
    rw (absent_change id f ids attempts (head_is id x ids h), eq-eqb x id h.is, goes) (ap (λ y. note y (f a) ∷ notes_of ids attempts) h.is)
changed_at id f (x ∷ ids) (a ∷ attempts) (suc place) same apart h goes =
    let later = tail_place id x ids place h in
    rw (earlier_closed id x a ids attempts place (omega arith) apart later) (ap (λ (ns : List Note). note x a ∷ ns) (changed_at id f ids attempts place (omega arith) apart.1 later goes))

pub open_at : (id : ℕ) (ids : List ℕ) (attempts : List Attempt) (place : ℕ) → length attempts ≡ length ids → AreApart (notes_of ids attempts) → IsPlace id ids place
    → is_open (get_or attempts place no_attempt) ≡ true → IsOpenAt id (notes_of ids attempts) place (get_or attempts place no_attempt)
open_at id ids attempts place same apart h goes = record {
  at = note_at ids attempts place same h.within ∙ ap (λ x. Some (note x (get_or attempts place no_attempt))) h.is;
  going = goes;
  found = ap (option_map attempt_of) (found_at id ids attempts place same apart h ∙ ap (λ b. cond b (Some (note id (get_or attempts place no_attempt))) None) goes);
  changed = λ f. changed_at id f ids attempts place same apart h goes;
}

pub closed_at : (id : ℕ) (ids : List ℕ) (attempts : List Attempt) (place : ℕ) → length attempts ≡ length ids → AreApart (notes_of ids attempts) → IsPlace id ids place
    → is_open (get_or attempts place no_attempt) ≡ false → open_request id (notes_of ids attempts) ≡ None
closed_at id ids attempts place same apart h goes = ap (option_map attempt_of) (found_at id ids attempts place same apart h ∙ ap (λ b. cond b (Some (note id (get_or attempts place no_attempt))) None) goes)

-- ---- ids stay apart

other_side : (x id : ℕ) (o : Bool) → o ≡ true → ((x == id) && o) ≡ false → (id == x) ≡ false
other_side x id o goes h = ne_eqb id x (λ e. false≢true (sym h ∙ (ap (λ b. b && o) (eq-eqb x id (sym e)) ∙ goes)))

-- the ids are the same
all_set : (x : ℕ) (notes : List Note) (place : ℕ) (n : Note) (a : Attempt) → slice_get notes place ≡ Some n → AllByRecursion (λ (m : Note). (m.id == x) ≡ false) notes → AllByRecursion (λ (m : Note). (m.id == x) ≡ false) (set notes place (note n.id a))
all_set x [] place n a is h = h
all_set x (m ∷ notes) zero n a is h = let e : m ≡ n = cc in (subst (λ (k : Note). (k.id == x) ≡ false) e h.0, h.1)
all_set x (m ∷ notes) (suc place) n a is h = (h.0, all_set x notes place n a is h.1)

pub apart_set : (notes : List Note) (place : ℕ) (n : Note) (a : Attempt) → slice_get notes place ≡ Some n → is_open n.attempt ≡ true → AreApart notes → AreApart (set notes place (note n.id a))
apart_set [] place n a is goes h = h
apart_set (m ∷ notes) zero n a is goes h = let e : m ≡ n = cc in
    (λ _. subst (λ (k : Note). AllByRecursion (λ (o : Note). (o.id == k.id) ≡ false) notes) e (h.0 (ap (λ (k : Note). is_open k.attempt) e ∙ goes)), h.1)
apart_set (m ∷ notes) (suc place) n a is goes h = (λ o. all_set m.id notes place n a is (h.0 o), apart_set notes place n a is goes h.1)

all_push : (x : ℕ) (notes : List Note) (n : Note) → (n.id == x) ≡ false → AllByRecursion (λ (m : Note). (m.id == x) ≡ false) notes → AllByRecursion (λ (m : Note). (m.id == x) ≡ false) (notes ++ n ∷ [])
all_push x [] n other h = (other, tt)
all_push x (m ∷ notes) n other h = (h.0, all_push x notes n other h.1)

-- one more, of whose id none is open
pub apart_push : (notes : List Note) (n : Note) → find (is_open_of n.id) notes ≡ None → AreApart notes → AreApart (notes ++ n ∷ [])
apart_push [] n none h = (λ _. tt, tt)
apart_push (m ∷ notes) n none h =
    elim (is_open_of n.id m) as (λ b. is_open_of n.id m ≡ b → cond b (Some m) (find (is_open_of n.id) notes) ≡ None → AreApart (m ∷ (notes ++ n ∷ []))) [
      | true ↦ λ _ some. absurd (cc)
      | false ↦ λ is rest. (λ goes. all_push m.id notes n (other_side m.id n.id (is_open m.attempt) goes is) (h.0 goes), apart_push notes n rest h.1)
    ] refl none

-- none is found
pub none_found : (id : ℕ) (notes : List Note) → open_request id notes ≡ None → find (is_open_of id) notes ≡ None
none_found id notes none = elim (find (is_open_of id) notes) as (λ o. option_map attempt_of o ≡ None → o ≡ None) [ None ↦ λ _. refl | Some n ↦ λ e. absurd (cc) ] none

-- ---- how many are open

pub count_open : (ids : List ℕ) (attempts : List Attempt) → length attempts ≡ length ids → count_by is_open attempts ≡ count_by (λ (n : Note). is_open n.attempt) (notes_of ids attempts)
count_open [] [] same = refl
count_open [] (a ∷ attempts) same = absurd (omega arith)
count_open (x ∷ ids) [] same = absurd (omega arith)
count_open (x ∷ ids) (a ∷ attempts) same =
    sum_by-cons (λ (b : Attempt). cond (is_open b) 1 0) a attempts
    ∙ (ap (λ n. cond (is_open a) 1 0 + n) (count_open ids attempts (omega arith)) ∙ sym (sum_by-cons (λ (n : Note). cond (is_open n.attempt) 1 0) (note x a) (notes_of ids attempts)))

-- ---- what a note changes

some_open : (o : Option Note) → IsSomeAnd o (λ n. is_open n.attempt ≡ true) → (n : Note) × (o ≡ Some n) × (is_open n.attempt ≡ true)
some_open None h = absurd h
some_open (Some n) h = (n, refl, h)

pub open_within : (ids : List ℕ) (attempts : List Attempt) (place : ℕ) → length attempts ≡ length ids → IsSomeAnd (slice_get (notes_of ids attempts) place) (λ n. is_open n.attempt ≡ true) → place < length ids
open_within ids attempts place same h =
    let n = some_open (slice_get (notes_of ids attempts) place) h in
    subst (λ k. place < k) (notes_length ids attempts same) (slice_get_within (notes_of ids attempts) place n.0 n.1)

-- the fields after an attempt is changed at a place
pub change_fields : (ids : IdList) (attempts : List Attempt) (capacity place : ℕ) (a : Attempt) → IsSomeAnd (slice_get (notes_of ids.ids attempts) place) (λ n. is_open n.attempt ≡ true)
    → AreNotes ids attempts capacity → AreNotes ids (set attempts place a) capacity
change_fields ids attempts capacity place a goes h =
    let size = h.size in
    let lt = open_within ids.ids attempts place size goes in
    let n = some_open (slice_get (notes_of ids.ids attempts) place) goes in
    let m = note (get_or ids.ids place 0) (get_or attempts place no_attempt) in
    let here : slice_get (notes_of ids.ids attempts) place ≡ Some m = note_at ids.ids attempts place size lt in
    let e : m ≡ n.0 = let f = sym here ∙ n.1 in cc in
    record {
      size = length-set attempts place a ∙ size;
      within = h.within;
      room = h.room;
      apart = rw (notes_set ids.ids attempts place a size lt) (apart_set (notes_of ids.ids attempts) place m a here (ap (λ (k : Note). is_open k.attempt) e ∙ n.2) h.apart);
    }

-- and the notes
pub change_notes : (id : ℕ) (f : Attempt → Attempt) (ids : List ℕ) (attempts : List Attempt) (place : ℕ) (a b : Attempt) → length attempts ≡ length ids → IsOpenAt id (notes_of ids attempts) place a → b ≡ f a
    → notes_of ids (set attempts place b) ≡ change id f (notes_of ids attempts)
change_notes id f ids attempts place a b same h is =
    let lt : place < length ids = subst (λ k. place < k) (notes_length ids attempts same) (slice_get_within (notes_of ids attempts) place (note id a) h.at) in
    let e : note (get_or ids place 0) (get_or attempts place no_attempt) ≡ note id a = let g = sym (note_at ids attempts place same lt) ∙ h.at in cc in
    notes_set ids attempts place b same lt ∙ (rw (is, ap (λ (n : Note). n.id) e) (sym (h.changed f)))

-- the fields after an arrival
pub arrival_fields : (ids : IdList) (attempts : List Attempt) (capacity id : ℕ) (a : Attempt) → open_request id (notes_of ids.ids attempts) ≡ None → length ids.ids < ids.room
    → AreNotes ids attempts capacity → AreNotes (record ids { ids = ids.ids ++ id ∷ [] }) (attempts ++ a ∷ []) capacity
arrival_fields ids attempts capacity id a none lt h =
    let size = h.size in
    record {
      size = omega (arith, length-append attempts (a ∷ []), length-append ids.ids (id ∷ []));
      within = omega (arith, length-append ids.ids (id ∷ []));
      room = h.room;
      apart = rw (notes_push ids.ids attempts id a size) (apart_push (notes_of ids.ids attempts) (note id a) (none_found id (notes_of ids.ids attempts) none) h.apart);
    }

-- where an arrival has no fault
next_fault : (b : Bool) (f : NoteFault) (rest : Option NoteFault) → cond b (Some f) rest ≡ None → (b ≡ false) × (rest ≡ None)
next_fault true f rest h = absurd (cc)
next_fault false f rest h = (refl, h)

no_open : (o : Option Attempt) → is_some o ≡ false → o ≡ None
no_open None h = refl
no_open (Some a) h = absurd (cc)

pub arrival_fits : (id device driver priority time : ℕ) (n : Noted) → arrival_fault id device driver priority time n ≡ None → (open_request id n.notes ≡ None) × (length n.notes < n.room)
arrival_fits id device driver priority time n none =
    let a = (next_fault (nat_le n.devices device) NoDevice _ none).1 in
    let b = (next_fault (nat_le n.drivers driver) NoDriver _ a).1 in
    let d = (next_fault (nat_lt MAX_PRIORITY priority) NoPriority _ b).1 in
    let e = (next_fault (falls time n) TimeFalls _ d).1 in
    let f = next_fault (is_some (open_request id n.notes)) AlreadyOpen _ e in
    let g = next_fault (nat_le n.room (length n.notes)) Full None f.1 in
    (no_open (open_request id n.notes) f.0, leb-false n.room (length n.notes) g.0)
