-- the window that a recorder makes next, and what is said of it
use Rattle.std.proofs.Common.{◌≡◌, ◌≢◌, ◌⊎◌, ℤ, inl, inr, refl, sym, subst, Bool, true, false, List, ℕ, Option, None, Some, is_some, Result, Ok, Err, IfSome, IfOk, MatchOption, MatchResult}
use Rattle.recorder.specs.Recorder.{Recorded}
use Rattle.recorder.specs.Windows.{IsKept, IsMaking, IsOneMore}
use Rattle.window_recordings.specs.declared.cut_window.Cut.{Cut}
use Rattle.window_recordings.specs.declared.cut_fault.CutFault.{CutFault}
use Rattle.window_recordings.specs.declared.cut_fault.CutFault.TheVariants.{OutOfMemory}
use Rattle.camxpt_c.specs.Keeping.{Keeping, IsTextOf, said}
use Rattle.camxpt_c.specs.RecorderCalls.{IsMade, IsRecorderCall}
use Rattle.camxpt_c.specs.declared.codes.TheConstants.{OK, NONE, E_MEMORY, E_WINDOW}
use Rattle.camxpt_c.specs.declared.record_shapes.CamxptWindow.{CamxptWindow}

-- ---- where one may be lost for a reason, it may be for a weaker one

none_weaker : {X : Type 0} (o : Option X) (A B : Type 0) (P : X → Type 0) → (A → B) → MatchOption o A P → MatchOption o B P
none_weaker None A B P f h = f h
none_weaker (Some x) A B P f h = h

kept_weaker : (Lost More : Type 0) (cut : Cut) (new : Recorded) → (Lost → More) → IsKept Lost cut new → IsKept More cut new
kept_weaker Lost More cut new f = none_weaker new.window _ _ _ (none_weaker new.cut Lost More (λ waits. waits ≡ cut) f)

more_weaker : (Lost More : Type 0) (old new : Recorded) → (Lost → More) → (new ≡ old) ⊎ IsOneMore Lost old new → (new ≡ old) ⊎ IsOneMore More old new
more_weaker Lost More old new f (inl same) = inl same
more_weaker Lost More old new f (inr more) = inr (record { cut = more.cut; next = more.next; kept = kept_weaker Lost More more.cut new f more.kept; rest = more.rest })

pub making_weaker : (Lost More : Type 0) (old new : Recorded) → (Lost → More) → IsMaking Lost old new → IsMaking More old new
making_weaker Lost More old new f = none_weaker old.window _ _ (λ _. new ≡ old) (more_weaker Lost More old new f)

-- ---- without bytes that wait

pub if_none : (text : Option (List ℕ)) (A : Type 0) (P : List ℕ → Type 0) → text ≡ None → A → MatchOption text A P
if_none text A P is a = rw is a

-- for want of memory none is lost
pub none_lost : (r : Result Bool CutFault) (A : Type 0) → r ≡ Err OutOfMemory → MatchResult r (λ _. ⊥) (λ e. e ≢ OutOfMemory) → A
none_lost r A is lost = absurd (subst (λ (r : Result Bool CutFault). MatchResult r (λ _. ⊥) (λ e. e ≢ OutOfMemory)) is lost refl)

-- nor if there is one
pub none_lost_ok : (r : Result Bool CutFault) (b : Bool) (A : Type 0) → r ≡ Ok b → MatchResult r (λ _. ⊥) (λ e. e ≢ OutOfMemory) → A
none_lost_ok r b A is lost = absurd (subst (λ (r : Result Bool CutFault). MatchResult r (λ _. ⊥) (λ e. e ≢ OutOfMemory)) is lost)

-- ---- what the call says

abbrev pub Lost : Result Bool ℤ → Type 0
Lost r = MatchResult r (λ _. ⊥) (λ code. code ≡ E_WINDOW)

abbrev pub IsThere : CamxptWindow → Keeping → List ℕ → Type 0
IsThere after new text = MatchOption new.recorded.window ⊥ (λ w. IsTextOf w text × (after ≡ said w text))

abbrev IsSaid : CamxptWindow → CamxptWindow → Keeping → ℤ → Type 0
IsSaid before after new code =
    MatchOption new.text (((code ≡ NONE) ⊎ (code ≡ E_MEMORY) ⊎ (code ≡ E_WINDOW)) × (after ≡ before)) (λ text. (code ≡ OK) × IsThere after new text)

abbrev is_one : Bool → Type 0
is_one true = Unit {0}
is_one false = ⊥

there : (text : Option (List ℕ)) (code : ℤ) (A : Type 0) (P : List ℕ → Type 0) → true ≡ is_some text → code ≡ OK → IfSome text P → MatchOption text A (λ t. (code ≡ OK) × P t)
there None code A P is ok h = absurd (subst is_one is tt)
there (Some t) code A P is ok h = (ok, h)

not_there : (text : Option (List ℕ)) (A : Type 0) (P : List ℕ → Type 0) → false ≡ is_some text → A → MatchOption text A P
not_there None A P is a = a
not_there (Some t) A P is a = absurd (subst is_one (sym is) tt)

made : (r : Result Bool ℤ) (old new : Keeping) (before after : CamxptWindow) (code : ℤ) → MatchOption old.text (IsMaking (Lost r) old.recorded new.recorded) (λ _. new ≡ old) → (Lost r → code ≡ E_WINDOW) → IsSaid before after new code → IsMade before after old new code
made r old new before after code making f is_said =
    (none_weaker old.text _ _ (λ _. new ≡ old) (making_weaker (Lost r) (code ≡ E_WINDOW) old.recorded new.recorded f) making, is_said)

pub made_ok : (r : Result Bool ℤ) (old new : Keeping) (before after : CamxptWindow) (code : ℤ) → r ≡ Ok true → code ≡ OK → MatchOption old.text (IsMaking (Lost r) old.recorded new.recorded) (λ _. new ≡ old) → IfOk r (λ b. b ≡ is_some new.text) → IfSome new.text (IsThere after new) → IsMade before after old new code
made_ok r old new before after code is ok making is_there h =
    let some : true ≡ is_some new.text = subst (λ (r : Result Bool ℤ). IfOk r (λ b. b ≡ is_some new.text)) is is_there in
    made r old new before after code making (λ lost. absurd (subst Lost is lost)) (there new.text code _ (IsThere after new) some ok h)

pub made_none : (r : Result Bool ℤ) (old new : Keeping) (before after : CamxptWindow) (code : ℤ) → r ≡ Ok false → code ≡ NONE → after ≡ before → MatchOption old.text (IsMaking (Lost r) old.recorded new.recorded) (λ _. new ≡ old) → IfOk r (λ b. b ≡ is_some new.text) → IsMade before after old new code
made_none r old new before after code is none same making is_there =
    let some : false ≡ is_some new.text = subst (λ (r : Result Bool ℤ). IfOk r (λ b. b ≡ is_some new.text)) is is_there in
    made r old new before after code making (λ lost. absurd (subst Lost is lost)) (not_there new.text _ (λ text. (code ≡ OK) × IsThere after new text) some (inl none, same))

pub made_err : (r : Result Bool ℤ) (old new : Keeping) (before after : CamxptWindow) (code : ℤ) → r ≡ Err code → after ≡ before → MatchOption old.text (IsMaking (Lost r) old.recorded new.recorded) (λ _. new ≡ old) → new.text ≡ None → (code ≡ E_MEMORY) ⊎ (code ≡ E_WINDOW) → IsMade before after old new code
made_err r old new before after code is same making none why =
    made r old new before after code making (λ lost. subst Lost is lost) (if_none new.text _ (λ text. (code ≡ OK) × IsThere after new text) none (inr why, same))

pub recorder_call : (Does : Keeping → Keeping → ℤ → Type 0) (old new : Option Keeping) (k m : Keeping) (code : ℤ) → old ≡ Some k → new ≡ Some m → Does k m code → IsRecorderCall Does old new code
recorder_call Does old new k m code is_old is_new h = rw (is_old, is_new) h
