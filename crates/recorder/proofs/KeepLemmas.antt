-- the ids of those that stay, moved to the front
use Rattle.std.proofs.Common.{◌≡◌, ℕ, ◌+◌, ◌≤◌, ◌<◌, true, false, cond, List, [], ◌∷◌, ◌++◌, length, map, filter, get_or, set, take, refl, sym, ap, subst, ◌∙◌, arith, append-nil, None}
use Rattle.std.proofs.lemmas.List.{get_or_default, take_more, take_more_set, get_or-set_other, length-set, length-take, map-append}
use Rattle.std.proofs.lemmas.List.Elements.{filter-append}
use Rattle.capture_windows.specs.declared.attempt.Attempt.{Attempt}
use Rattle.capture_windows.specs.declared.time_span.TimeSpan.{TimeSpan}
use Rattle.recorder.specs.Ids.{IsIndex}
use Rattle.recorder.specs.Notes.{Note}
use Rattle.recorder.specs.Places.{notes_of}
use Rattle.recorder.specs.NoteWindows.{id_of, note_stays, stays, staying_ids}

abbrev pub no_attempt : Attempt
no_attempt = record {
  request = record { arrival = 0; started = None; retried = None; completed = None; driver = 0; device = 0; priority = 0 };
  is_taken = false;
  has_slot = false;
  number = 0;
}

-- ---- one more id with its attempt

pub notes_push : (ids : List ℕ) (attempts : List Attempt) (id : ℕ) (a : Attempt) → length attempts ≡ length ids → notes_of (ids ++ id ∷ []) (attempts ++ a ∷ []) ≡ notes_of ids attempts ++ record { id = id; attempt = a } ∷ []
notes_push [] [] id a same = refl
notes_push [] (b ∷ attempts) id a same = absurd (omega arith)
notes_push (x ∷ ids) [] id a same = absurd (omega arith)
notes_push (x ∷ ids) (b ∷ attempts) id a same = ap (λ (ns : List Note). record { id = x; attempt = b } ∷ ns) (notes_push ids attempts id a (omega arith))

staying_push : (span : TimeSpan) (ids : List ℕ) (attempts : List Attempt) (id : ℕ) (a : Attempt) → length attempts ≡ length ids → staying_ids span (ids ++ id ∷ []) (attempts ++ a ∷ []) ≡ staying_ids span ids attempts ++ cond (stays span a) (id ∷ []) []
staying_push span ids attempts id a same =
    rw (
      notes_push ids attempts id a same,
      filter-append (note_stays span) (notes_of ids attempts) (record { id = id; attempt = a } ∷ []),
      map-append id_of (filter (note_stays span) (notes_of ids attempts)) (filter (note_stays span) (record { id = id; attempt = a } ∷ [])),
    )
    (elim (stays span a) as (λ b. map id_of (filter (note_stays span) (notes_of ids attempts)) ++ map id_of (cond b (record { id = id; attempt = a } ∷ []) []) ≡ map id_of (filter (note_stays span) (notes_of ids attempts)) ++ cond b (id ∷ []) []) [ true ↦ refl | false ↦ refl ])

-- one more place
staying_more : (span : TimeSpan) (ids : List ℕ) (attempts : List Attempt) (place : ℕ) → place < length attempts → length attempts ≡ length ids
    → staying_ids span (take (place + 1) ids) (take (place + 1) attempts) ≡ staying_ids span (take place ids) (take place attempts) ++ cond (stays span (get_or attempts place no_attempt)) (get_or ids place 0 ∷ []) []
staying_more span ids attempts place lt same =
    rw (take_more ids place 0 (omega arith), take_more attempts place no_attempt lt)
    (staying_push span (take place ids) (take place attempts) (get_or ids place 0) (get_or attempts place no_attempt) (omega (arith, length-take place ids, length-take place attempts)))

-- ---- up to a place

-- of the ids before a place those that stay lie before another one
pub record IsKept (span : TimeSpan) (attempts : List Attempt) (before now heads earlier : List ℕ) (place count : ℕ) : Type 0 where
  pub few : count ≤ place
  pub size : length now ≡ length before
  pub same : take count now ≡ staying_ids span (take place before) (take place attempts)
  pub rest : (j : ℕ) → place ≤ j → get_or now j 0 ≡ get_or before j 0
  pub index : IsIndex (take count now) heads earlier

pub kept_none : (span : TimeSpan) (attempts : List Attempt) (before now heads earlier : List ℕ) (place count : ℕ) → place < length attempts → length attempts ≡ length before
    → false ≡ stays span (get_or attempts place no_attempt) → IsKept span attempts before now heads earlier place count → IsKept span attempts before now heads earlier (place + 1) count
kept_none span attempts before now heads earlier place count lt long goes h = record {
  few = let f = h.few in omega arith;
  size = h.size;
  same = rw (staying_more span before attempts place lt long, sym goes) (h.same ∙ sym (append-nil (staying_ids span (take place before) (take place attempts))));
  rest = λ j le. h.rest j (omega arith);
  index = h.index;
}

pub kept_one : (span : TimeSpan) (attempts : List Attempt) (before now heads earlier : List ℕ) (place count id : ℕ) (heads' earlier' : List ℕ) → place < length attempts → length attempts ≡ length before
    → true ≡ stays span (get_or attempts place no_attempt) → id ≡ get_or now place id
    → ((ids : List ℕ) → IsIndex ids heads earlier → IsIndex (ids ++ id ∷ []) heads' earlier')
    → IsKept span attempts before now heads earlier place count → IsKept span attempts before (set now count id) heads' earlier' (place + 1) (count + 1)
kept_one span attempts before now heads earlier place count id heads' earlier' lt long stay read link h =
    let few = h.few in
    let size = h.size in
    let front : take (count + 1) (set now count id) ≡ take count now ++ id ∷ [] = take_more_set now count id (omega arith) in
    record {
      few = omega arith;
      size = length-set now count id ∙ size;
      same = rw (staying_more span before attempts place lt long, sym stay, front, h.same) (ap (λ x. staying_ids span (take place before) (take place attempts) ++ x ∷ []) (read ∙ (get_or_default now place id 0 (omega arith) ∙ h.rest place (omega arith))));
      rest = λ j le. get_or-set_other now count j id 0 (λ e. absurd (omega arith)) ∙ h.rest j (omega arith);
      index = subst (λ (ids : List ℕ). IsIndex ids heads' earlier') (sym front) (link (take count now) h.index);
    }
