-- what many windows take, one after the other
use Rattle.std.proofs.Common.{◌≡◌, ℕ, ◌+◌, ◌≤◌, ◌&&◌, nat_le, nat_lt, Bool, true, false, cond, List, [], ◌∷◌, ◌++◌, map, filter, refl, sym, ap, ◌∙◌, arith, append_assoc, inl, inr, Option, None, Some}
use Rattle.std.specs.List.{All, count_by}
use Rattle.std.proofs.lemmas.Bool.{cases_lt, le-ltb, lt-leb, lt-ltb}
use Rattle.std.proofs.lemmas.List.{map-append}
use Rattle.std.proofs.lemmas.List.Elements.{All-append, All-head, All-nil, All-tail, All-weaker, filter-append}
use Rattle.std.proofs.lemmas.List.Sums.{sum_by-append}
use Rattle.capture.specs.declared.timed_request.TimedRequest.{TimedRequest}
use Rattle.capture_windows.specs.Attempts.{Attempt, TimeSpan, is_before, is_request, is_within, request_of, started_in, starts_before, starts_in}
use Rattle.capture_windows.specs.Devices.{going_on}
use Rattle.capture_windows.specs.Laws.{AreInTurn, Read, all_read, span_between, taken_by}
use Rattle.capture_windows.proofs.ListLemmas.{count_kept}
use Rattle.capture_windows.proofs.LawLemmas.{counted_once, started_later, within_before}

-- how many of a kind are started in a span
abbrev started_count : (TimedRequest → Bool) → TimeSpan → List Attempt → ℕ
started_count kind span attempts = count_by kind (started_in span attempts)

count_both : {X : Type 0} (kind : X → Bool) (xs ys : List X) → count_by kind (xs ++ ys) ≡ count_by kind xs + count_by kind ys
count_both kind xs ys = sum_by-append (λ x. cond (kind x) 1 0) xs ys

started_both : (kind : TimedRequest → Bool) (span : TimeSpan) (xs ys : List Attempt) → started_count kind span (xs ++ ys) ≡ started_count kind span xs + started_count kind span ys
started_both kind span xs ys =
    ap (λ zs. count_by kind (map request_of zs)) (filter-append (is_request span) xs ys)
    ∙ ap (count_by kind) (map-append request_of (filter (is_request span) xs) (filter (is_request span) ys))
    ∙ count_both kind (started_in span xs) (started_in span ys)

-- what isn't started before a time isn't started before an earlier one
later_still : (s t : ℕ) → s ≤ t → (o : Option ℕ) → is_before t o ≡ false → is_before s o ≡ false
later_still s t le None is = refl
later_still s t le (Some x) is = elim (cases_lt x s) [
  | inl early ↦
      let before : nat_lt x t ≡ true = lt-ltb x t (omega arith) in
      let no : true ≡ false = sym before ∙ is in
      cc
  | inr late ↦ le-ltb x s late
]

-- all that was read was started late
read_late : (reads : List Read) (from until : ℕ) → AreInTurn from reads until → All (λ (a : Attempt). starts_before from a ≡ false) (all_read reads)
read_late [] from until turn = All-nil (λ (a : Attempt). starts_before from a ≡ false)
read_late (r ∷ reads) from until turn =
    let later = read_late reads r.window.until until turn.3 in
    All-append (λ (a : Attempt). starts_before from a ≡ false) r.attempts (all_read reads) turn.2
    (All-weaker (λ (a : Attempt). starts_before r.window.until a ≡ false) (λ (a : Attempt). starts_before from a ≡ false) (λ a is. later_still from r.window.until turn.1 a.request.started is) (all_read reads) later)

-- what is started late isn't in a window
none_started : (kind : TimedRequest → Bool) (span : TimeSpan) (attempts : List Attempt) → All (λ (a : Attempt). starts_before span.until a ≡ false) attempts → started_count kind span attempts ≡ 0
none_started kind span [] late = refl
none_started kind span (a ∷ attempts) late =
    let rest = none_started kind span attempts (All-tail (λ (b : Attempt). starts_before span.until b ≡ false) a attempts late) in
    let head : starts_before span.until a ≡ false = All-head (λ (b : Attempt). starts_before span.until b ≡ false) a attempts late in
    let outside : starts_in span a ≡ false = not_within (starts_in span a) (starts_before span.until a) (within_before span.from span.until a.request.started) head in
    let one : cond {A = ℕ} ((a.is_taken && starts_in span a) && kind a.request) 1 0 ≡ 0 = ap (λ b. cond {A = ℕ} ((a.is_taken && b) && kind a.request) 1 0) outside ∙ nothing a.is_taken in
    omega (arith, count_kept kind request_of (is_request span) a attempts, one, rest)
  where
    not_within : (b before : Bool) → (b ≡ true → before ≡ true) → before ≡ false → b ≡ false
    not_within false before so is = refl
    not_within true before so is = sym (so refl) ∙ is

    nothing : (b : Bool) → cond {A = ℕ} ((b && false) && kind a.request) 1 0 ≡ 0
    nothing true = refl
    nothing false = refl

-- nothing is started in a span without length
none_within : (t : ℕ) (o : Option ℕ) → is_within t t o ≡ false
none_within t None = refl
none_within t (Some s) = elim (cases_lt s t) [
  | inl early ↦ rw (lt-leb t s early) refl
  | inr late ↦ rw (le-ltb s t late) (no_more (nat_le t s))
]
  where
    no_more : (b : Bool) → (b && false) ≡ false
    no_more true = refl
    no_more false = refl

none_in_no_time : (kind : TimedRequest → Bool) (t : ℕ) (attempts : List Attempt) → started_count kind (span_between t t) attempts ≡ 0
none_in_no_time kind t [] = refl
none_in_no_time kind t (a ∷ attempts) =
    let rest = none_in_no_time kind t attempts in
    let one : cond {A = ℕ} ((a.is_taken && is_within t t a.request.started) && kind a.request) 1 0 ≡ 0 = ap (λ b. cond {A = ℕ} ((a.is_taken && b) && kind a.request) 1 0) (none_within t a.request.started) ∙ nothing a.is_taken in
    omega (arith, count_kept kind request_of (is_request (span_between t t)) a attempts, one, rest)
  where
    nothing : (b : Bool) → cond {A = ℕ} ((b && false) && kind a.request) 1 0 ≡ 0
    nothing true = refl
    nothing false = refl

in_order : (reads : List Read) (from until : ℕ) → AreInTurn from reads until → from ≤ until
in_order [] from until turn = omega (arith, turn)
in_order (r ∷ reads) from until turn = omega (arith, turn.1, in_order reads r.window.until until turn.3)

taken_counted : (reads : List Read) (kept : List Attempt) (from until : ℕ) → AreInTurn from reads until → (kind : TimedRequest → Bool) → count_by kind (taken_by kept reads) ≡ started_count kind (span_between from until) (kept ++ all_read reads)
taken_counted [] kept from until turn kind =
    sym (ap (λ t. started_count kind (span_between from t) (kept ++ [])) (sym turn) ∙ none_in_no_time kind from (kept ++ []))
taken_counted (r ∷ reads) kept from until turn kind =
    let w : TimeSpan = r.window in
    let rest : TimeSpan = span_between w.until until in
    let now = kept ++ r.attempts in
    let more = all_read reads in
    let order = in_order reads w.until until turn.3 in
    let begun : w.from ≤ w.until = omega (arith, turn.0, turn.1) in
    let first = count_both kind (started_in w now) (taken_by (going_on w now) reads) in
    let others = taken_counted reads (going_on w now) w.until until turn.3 kind in
    let apart = started_both kind rest (going_on w now) more in
    let same = ap (count_by kind) (started_later w rest refl now) in
    let once = counted_once w rest refl begun order kind now in
    let once_more = counted_once w rest refl begun order kind more in
    let late = none_started kind w more (read_late reads w.until until turn.3) in
    let whole = started_both kind (span_between w.from until) now more in
    let joined = ap (started_count kind (span_between w.from until)) (append_assoc kept r.attempts more) in
    let begins = ap (λ t. started_count kind (span_between t until) (kept ++ (r.attempts ++ more))) turn.0 in
    omega (arith, first, others, apart, same, once, once_more, late, whole, joined, begins)

pub in_one_of_many : (reads : List Read) (from until : ℕ) → AreInTurn from reads until → (kind : TimedRequest → Bool) → count_by kind (taken_by [] reads) ≡ count_by kind (started_in (span_between from until) (all_read reads))
in_one_of_many reads from until turn kind = taken_counted reads [] from until turn kind
