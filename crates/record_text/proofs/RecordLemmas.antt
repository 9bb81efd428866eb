-- The records of a text, one after the other.
use Rattle.std.proofs.Common.{◌≡◌, ◌≢◌, ◌<◌, ◌≤◌, ◌+◌, ℕ, zero, suc, List, [], ◌∷◌, ◌++◌, length, Bool, true, false, cond, refl, sym, ap, ◌∙◌, add-one, arith, Option, Some, None, Result, Ok, Err}
use Rattle.std.proofs.lemmas.Option.{same_Some}
use Rattle.std.proofs.lemmas.Bool.Decides.{nat_tests}
use Rattle.csv.specs.Machine.{Read, ends_at_end, field_after, fields_after, is_end, next_record, step}
use Rattle.csv.specs.Reading.{Reached, ReadRecord, default_config, records, records_from, records_next, source_of, strip_bom}
use Rattle.csv.specs.declared.reader.Reader.{Reader}
use Rattle.csv.specs.declared.parser.State.{State}
use Rattle.csv.specs.declared.parser.State.TheVariants as st
use Rattle.csv.specs.declared.parser.Action.{Action}
use Rattle.csv.proofs.ReadFacts.{rows-more}
use Rattle.record_text.specs.Text.{Row}
use Rattle.record_text.specs.Steps.{taken}

-- ---- a record takes a byte at least, and the next one begins where none is open

-- a byte that ends a record leaves none open
abbrev Closes : State × Action → Type 0
Closes x = is_end x.1 ≡ true → ends_at_end x.0 ≡ false

step_closes : (s : State) (c : ℕ) → Closes (step default_config s c)
step_closes st.StartRecord c e = grind (arith, nat_tests)
step_closes _ c e = grind (arith, nat_tests)

-- what stands after a record
abbrev Leaves : Read → ℕ → Type 0
Leaves p n = (ends_at_end p.1 ≡ false) × (length p.2 ≤ n)

at_end : (b : Bool) (fields : List (List ℕ)) (p : Read) (n : ℕ) → cond b (Some (fields, st.StartRecord, [])) None ≡ Some p → Leaves p n
at_end true fields p n e = rw (← same_Some _ _ e) (refl, omega arith)
at_end false fields p n e = absurd cc

after_byte : (s : State) (fields : List (List ℕ)) (field : List ℕ) (c : ℕ) (rest : List ℕ) (p : Read)
    → ((t : State) (fs : List (List ℕ)) (f : List ℕ) → next_record default_config t fs f rest ≡ Some p → Leaves p (length rest))
    → next_record default_config s fields field (c ∷ rest) ≡ Some p → Leaves p (length rest)
unfolding next_record
after_byte s fields field c rest p more e = by (is_end (step default_config s c).1) refl e
  where
    by : (b : Bool) → is_end (step default_config s c).1 ≡ b
        → cond (is_end (step default_config s c).1) (Some (fields_after (step default_config s c).1 fields field, (step default_config s c).0, rest))
        (next_record default_config (step default_config s c).0 (fields_after (step default_config s c).1 fields field) (field_after (step default_config s c).1 c field) rest) ≡ Some p
        → Leaves p (length rest)
    by true ends h = rw (← same_Some _ _ (rw ends at h)) (step_closes s c ends, omega arith)
    by false ends h = more _ _ _ (rw ends at h)

shorter : (s : State) (fields : List (List ℕ)) (field xs : List ℕ) (p : Read) → next_record default_config s fields field xs ≡ Some p → Leaves p (length xs)
unfolding next_record
shorter s fields field [] p e = at_end (ends_at_end s) (fields ++ (field ∷ [])) p 0 e
shorter s fields field (c ∷ rest) p e =
    let h = after_byte s fields field c rest p (λ t fs f. shorter t fs f rest p) e in
    (h.0, omega arith)

-- and less, where no record was open
pub next_shorter : (s : State) (xs : List ℕ) (p : Read) → ends_at_end s ≡ false → next_record default_config s [] [] xs ≡ Some p
    → (ends_at_end p.1 ≡ false) × (length p.2 < length xs)
unfolding next_record
next_shorter s [] p idle e = absurd (let wrong = rw idle at e in cc)
next_shorter s (c ∷ rest) p idle e =
    let h = after_byte s [] [] c rest p (λ t fs f. shorter t fs f rest p) e in
    (h.0, omega arith)

-- enough turns give every record
pub enough : (n m : ℕ) (s : State) (xs : List ℕ) → ends_at_end s ≡ false → length xs < n → length xs < m → records_from default_config n s xs ≡ records_from default_config m s xs
unfolding records_from
enough zero m s xs idle a b = absurd (omega arith)
enough (suc n) zero s xs idle a b = absurd (omega arith)
enough (suc n) (suc m) s xs idle a b = go (next_record default_config s [] [] xs) refl (λ p idle' a' b'. enough n m p.1 p.2 idle' a' b')
  where
    go : (o : Option Read) → next_record default_config s [] [] xs ≡ o
        → ((p : Read) → ends_at_end p.1 ≡ false → length p.2 < n → length p.2 < m → records_from default_config n p.1 p.2 ≡ records_from default_config m p.1 p.2)
        → records_next (records_from default_config n) o ≡ records_next (records_from default_config m) o
    go None e more = refl
    go (Some p) e more =
        let h = next_shorter s xs p idle e in
        ap (λ (rs : List Row). p.0 ∷ rs) (more p h.0 (omega arith) (omega arith))

-- the first of the records that are left
pub first_left : (s : State) (xs : List ℕ) (p : Read) → ends_at_end s ≡ false → next_record default_config s [] [] xs ≡ Some p
    → records_from default_config (length xs + 1) s xs ≡ p.0 ∷ records_from default_config (length p.2 + 1) p.1 p.2
unfolding records_from
first_left s xs p idle e =
    let h = next_shorter s xs p idle e in
    rw (add-one (length xs), e) (ap (λ (rs : List Row). p.0 ∷ rs) (enough (length xs) (length p.2 + 1) p.1 p.2 h.0 h.1 (omega arith)))

pub none_left : (s : State) (xs : List ℕ) → next_record default_config s [] [] xs ≡ None → records_from default_config (length xs + 1) s xs ≡ []
unfolding records_from
none_left s xs e = rw (add-one (length xs), e) refl

-- ---- what is left gives the answer

-- The records that are left, taken from the parser at hand, give what all of them give from the first parser.
pub record IsLeft {S E : Type 0} (next : ℕ → S → Row → Result S E) (first : S) (all : List Row) (number : ℕ) (parser : S) (state : State) (rest : List ℕ) (size : ℕ) : Type 0 where
  pub idle : ends_at_end state ≡ false
  pub counted : number + length rest ≤ size + 1
  pub answer : taken next 1 first all ≡ taken next number parser (records_from default_config (length rest + 1) state rest)

length-strip_bom : (text : List ℕ) → length (strip_bom text) ≤ length text
unfolding strip_bom
length-strip_bom (a ∷ b ∷ c ∷ rest) = grind (arith, nat_tests)
length-strip_bom _ = omega arith

pub left_first : {S E : Type 0} (next : ℕ → S → Row → Result S E) (first : S) (text : List ℕ) → IsLeft next first (records default_config (strip_bom text)) 1 first st.StartRecord (strip_bom text) (length text)
left_first next first text =
    let h = length-strip_bom text in
    record { idle = refl; counted = omega arith; answer = refl }

pub left_more : {S E : Type 0} (next : ℕ → S → Row → Result S E) (first : S) (all : List Row) (number : ℕ) (parser after : S) (state : State) (rest : List ℕ) (size : ℕ) (p : Read)
    → IsLeft next first all number parser state rest size → next_record default_config state [] [] rest ≡ Some p → next number parser p.0 ≡ Ok after
    → IsLeft next first all (number + 1) after p.1 p.2 size
left_more next first all number parser after state rest size p left e is =
    let h = next_shorter state rest p left.idle e in
    record {
      idle = h.0;
      counted = omega (arith, left.counted);
      answer = left.answer ∙ ap (taken next number parser) (first_left state rest p left.idle e) ∙ rw is refl;
    }

pub left_fault : {S E : Type 0} (next : ℕ → S → Row → Result S E) (first : S) (all : List Row) (number : ℕ) (parser : S) (state : State) (rest : List ℕ) (size : ℕ) (p : Read) (fault : E)
    → IsLeft next first all number parser state rest size → next_record default_config state [] [] rest ≡ Some p → next number parser p.0 ≡ Err fault
    → taken next 1 first all ≡ Err fault
left_fault next first all number parser state rest size p fault left e is =
    left.answer ∙ ap (taken next number parser) (first_left state rest p left.idle e) ∙ rw is refl

pub left_end : {S E : Type 0} (next : ℕ → S → Row → Result S E) (first : S) (all : List Row) (number : ℕ) (parser : S) (state : State) (rest : List ℕ) (size : ℕ)
    → IsLeft next first all number parser state rest size → next_record default_config state [] [] rest ≡ None → taken next 1 first all ≡ Ok parser
left_end next first all number parser state rest size left e =
    left.answer ∙ ap (taken next number parser) (none_left state rest e)

triple : (q : Read) (fields : List (List ℕ)) (s : State) (z : List ℕ) → fields ≡ q.0 → q.1 ≡ s → q.2 ≡ z → q ≡ (fields, s, z)
triple q fields s z a b c = rw (a, ← b, ← c) refl

-- one record more that a reader gives
pub record_more : {R : Type 0} (rem : R → Option (List ℕ)) (a b : Reader R) (fields : List (List ℕ)) (y : List ℕ)
    → a.config ≡ default_config → source_of rem a ≡ Some y → ReadRecord rem a b true fields
    → (z : List ℕ) × (source_of rem b ≡ Some z) × (next_record default_config a.state [] [] y ≡ Some (fields, b.state, z))
unfolding Reached
record_more rem a b fields y ec ex r =
    let m = rows-more rem a b fields default_config a.state y y [] ec ex (refl, refl) r in
    (m.0, m.1, m.2.1 ∙ ap (λ (q : Read). Some q) (triple m.2.0 fields b.state m.0 m.2.2 m.2.3.0 m.2.3.1))

-- ---- a parser that took a record, where memory was found

pub took_ok : {S E : Type 0} (r x : Result S E) (s : S) (memory : E) → (r ≢ Err memory → r ≡ x) → r ≡ Ok s → x ≡ Ok s
took_ok r x s memory h e = sym (h (λ w. cc)) ∙ e

pub took_err : {S E : Type 0} (r x : Result S E) (fault memory : E) → (r ≢ Err memory → r ≡ x) → r ≡ Err fault → fault ≢ memory → x ≡ Err fault
took_err r x fault memory h e other = sym (h (λ w. other (let same = sym e ∙ w in cc))) ∙ e
