-- what is kept after a window
use Rattle.std.proofs.Common.{◌≡◌, ℕ, ◌≤◌, ◌&&◌, ◌==◌, Bool, true, false, cond, List, [], ◌∷◌, length, map, filter, refl, sym, ap, ◌∙◌, arith, suc}
use Rattle.std.proofs.lemmas.List.{length-map}
use Rattle.std.proofs.lemmas.List.Sums.{count_by-le-length, length-filter}
use Rattle.std.specs.List.{AllByRecursion}
use Rattle.capture_windows.specs.declared.attempt.Attempt.{Attempt}
use Rattle.capture_windows.specs.declared.time_span.TimeSpan.{TimeSpan}
use Rattle.capture_windows.specs.Attempts.{goes_on, starts_in}
use Rattle.capture_windows.specs.Devices.{going_on, numbered_in}
use Rattle.recorder.specs.Ids.{IdList}
use Rattle.recorder.specs.Notes.{AreApart, Note, attempt_of, is_open}
use Rattle.recorder.specs.Places.{AreNotes, notes_of}
use Rattle.recorder.specs.NoteWindows.{id_of, is_kept, note_stays, numbered_note, staying, staying_ids}
use Rattle.recorder.proofs.NoteLemmas.{attempts_back}

-- a number changes nothing else
if_both : {X : Type 0} (b : Bool) (f : Attempt → X) (x y : Attempt) → f x ≡ f y → f (cond b x y) ≡ f y
if_both true f x y same = same
if_both false f x y same = refl

same_kept : (span : TimeSpan) (all : List Attempt) (a : Attempt) → is_kept (numbered_in span all a) ≡ is_kept a
same_kept span all a = if_both (starts_in span a) is_kept _ a refl

same_open : (span : TimeSpan) (all : List Attempt) (a : Attempt) → is_open (numbered_in span all a) ≡ is_open a
same_open span all a = if_both (starts_in span a) is_open _ a refl

-- ---- the attempts that stay, each beside its id

module _ (K G : Attempt → Bool) (f : Attempt → Attempt) (keeps : (a : Attempt) → K (f a) ≡ K a) where
  abbrev both : Note → Bool
  both n = K n.attempt && G n.attempt

  abbrev with_f : Note → Note
  with_f n = record n { attempt = f n.attempt }

  some_notes : (ids : List ℕ) (attempts : List Attempt) → length attempts ≡ length ids → notes_of (map id_of (filter both (notes_of ids attempts))) (filter K (map f (filter G attempts))) ≡ map with_f (filter both (notes_of ids attempts))
  some_notes [] [] same = refl
  some_notes [] (a ∷ attempts) same = absurd (omega arith)
  some_notes (x ∷ ids) [] same = absurd (omega arith)
  some_notes (x ∷ ids) (a ∷ attempts) same =
      let rest = some_notes ids attempts (omega arith) in
      let n : Note = record { id = x; attempt = a } in
      let going = filter G attempts in
      let kept = filter both (notes_of ids attempts) in
      elim (K a) as (λ k. K a ≡ k → notes_of (map id_of (cond (k && G a) (n ∷ kept) kept)) (filter K (map f (cond (G a) (a ∷ going) going))) ≡ map with_f (cond (k && G a) (n ∷ kept) kept)) [
        | true ↦ λ is. elim (G a) as (λ g. notes_of (map id_of (cond g (n ∷ kept) kept)) (filter K (map f (cond g (a ∷ going) going))) ≡ map with_f (cond g (n ∷ kept) kept)) [
          | true ↦ rw (keeps a, is) (ap (λ (ns : List Note). with_f n ∷ ns) rest)
          | false ↦ rest
        ]
        | false ↦ λ is. elim (G a) as (λ g. notes_of (map id_of kept) (filter K (map f (cond g (a ∷ going) going))) ≡ map with_f kept) [
          | true ↦ rw (keeps a, is) rest
          | false ↦ rest
        ]
      ] refl

  some_size : (ids : List ℕ) (attempts : List Attempt) → length attempts ≡ length ids → length (filter K (map f (filter G attempts))) ≡ length (map id_of (filter both (notes_of ids attempts)))
  some_size [] [] same = refl
  some_size [] (a ∷ attempts) same = absurd (omega arith)
  some_size (x ∷ ids) [] same = absurd (omega arith)
  some_size (x ∷ ids) (a ∷ attempts) same =
      let rest = some_size ids attempts (omega arith) in
      let n : Note = record { id = x; attempt = a } in
      let going = filter G attempts in
      let kept = filter both (notes_of ids attempts) in
      elim (K a) as (λ k. K a ≡ k → length (filter K (map f (cond (G a) (a ∷ going) going))) ≡ length (map id_of (cond (k && G a) (n ∷ kept) kept))) [
        | true ↦ λ is. elim (G a) as (λ g. length (filter K (map f (cond g (a ∷ going) going))) ≡ length (map id_of (cond g (n ∷ kept) kept))) [
          | true ↦ rw (keeps a, is) (ap suc rest)
          | false ↦ rest
        ]
        | false ↦ λ is. elim (G a) as (λ g. length (filter K (map f (cond g (a ∷ going) going))) ≡ length (map id_of kept)) [
          | true ↦ rw (keeps a, is) rest
          | false ↦ rest
        ]
      ] refl

-- ---- ids stay apart

all_kept : (span : TimeSpan) (all : List Attempt) (x : ℕ) (notes : List Note) → AllByRecursion (λ (m : Note). (m.id == x) ≡ false) notes → AllByRecursion (λ (m : Note). (m.id == x) ≡ false) (map (numbered_note span all) (filter (note_stays span) notes))
all_kept span all x [] h = h
all_kept span all x (m ∷ notes) h =
    let rest = all_kept span all x notes h.1 in
    elim (note_stays span m) as (λ b. AllByRecursion (λ (m : Note). (m.id == x) ≡ false) (map (numbered_note span all) (cond b (m ∷ filter (note_stays span) notes) (filter (note_stays span) notes)))) [ true ↦ (h.0, rest) | false ↦ rest ]

apart_kept : (span : TimeSpan) (all : List Attempt) (notes : List Note) → AreApart notes → AreApart (map (numbered_note span all) (filter (note_stays span) notes))
apart_kept span all [] h = h
apart_kept span all (m ∷ notes) h =
    let rest = apart_kept span all notes h.1 in
    elim (note_stays span m) as (λ b. AreApart (map (numbered_note span all) (cond b (m ∷ filter (note_stays span) notes) (filter (note_stays span) notes)))) [
      | true ↦ (λ goes. all_kept span all m.id notes (h.0 (sym (same_open span all m.attempt) ∙ goes)), rest)
      | false ↦ rest
    ]

-- ---- after a window

-- the notes
pub window_notes : (span : TimeSpan) (ids : List ℕ) (attempts going : List Attempt) → length attempts ≡ length ids → going ≡ going_on span (map attempt_of (notes_of ids attempts))
    → notes_of (staying_ids span ids attempts) (filter is_kept going) ≡ staying span (notes_of ids attempts)
window_notes span ids attempts going same is =
    let back = attempts_back ids attempts same in
    rw (is, back) (some_notes is_kept (goes_on span) (numbered_in span attempts) (same_kept span attempts) ids attempts same)

filter_few : {X : Type 0} (p : X → Bool) (xs : List X) → length (filter p xs) ≤ length xs
filter_few p xs = omega (arith, length-filter p xs, count_by-le-length p xs)

pub going_few : (span : TimeSpan) (ids : List ℕ) (attempts going : List Attempt) → length attempts ≡ length ids → going ≡ going_on span (map attempt_of (notes_of ids attempts)) → length going ≤ length attempts
going_few span ids attempts going same is =
    rw (is, attempts_back ids attempts same, length-map (filter (goes_on span) attempts) (numbered_in span attempts)) (filter_few (goes_on span) attempts)

-- the fields
pub window_fields : (span : TimeSpan) (ids : IdList) (attempts going : List Attempt) (capacity : ℕ) → going ≡ going_on span (map attempt_of (notes_of ids.ids attempts)) → AreNotes ids attempts capacity
    → AreNotes (record ids { ids = staying_ids span ids.ids attempts }) (filter is_kept going) capacity
window_fields span ids attempts going capacity is h =
    let same = h.size in
    let within = h.within in
    let size : length (filter is_kept going) ≡ length (staying_ids span ids.ids attempts) = rw (is, attempts_back ids.ids attempts same) (some_size is_kept (goes_on span) (numbered_in span attempts) (same_kept span attempts) ids.ids attempts same) in
    record {
      size = size;
      within = omega (arith, filter_few is_kept going, going_few span ids.ids attempts going same is);
      room = h.room;
      apart = rw (window_notes span ids.ids attempts going same is) (apart_kept span (map attempt_of (notes_of ids.ids attempts)) (notes_of ids.ids attempts) h.apart);
    }
