-- A record that is read is spelled so, and what is spelled so is read.
use Rattle.std.proofs.Common.{◌≡◌, ◌<◌, ◌≤◌, ℕ, subst, [], ◌∷◌, length, drop, replicate, Bool, true, refl, sym, ap, ◌∙◌, arith}
use Rattle.std.specs.Prelude.{Ok, decimal, ⊤, if◌then◌else◌}
use Rattle.event_rules.specs.declared.event.Event.TheVariants as event
use Rattle.trace_file.specs.Histories.{Adapter, Event, Outcome, unlinked}
use Rattle.trace_file.specs.Rows.{adapter_in, submit_at, outcome_at, tick_at, event_at, TraceWord}
use Rattle.record_text.specs.Fields.{max_number, field_of}
use Rattle.record_text.specs.ConfigRows.{one_number, two_numbers, adapter_row}
use Rattle.trace_file.specs.Versions.{has_links, Version}
use Rattle.trace_file.specs.declared.version.Version.TheVariants as version
use Rattle.trace_file.specs.declared.word.TraceWord.TheVariants as word
use Rattle.record_text.specs.Steps.{◌>>=◌}
use Rattle.trace_file.specs.Fields.{byte_at, sense_at, flags_at, flags_text}
use Rattle.record_text.specs.Text.{Row}
use Rattle.trace_file.specs.Records.{hex, is_unlinked, event_row}
use Rattle.trace_file.specs.Trace.{FitsEvent, FitsOutcome}
use Rattle.trace_file.specs.Words.{spelled}
use Rattle.trace_file.proofs.FieldLaws.{flags_takes}
use Rattle.trace_file.proofs.HexLaws.{byte_at_takes, sense_at_takes, AreBytes}
use Rattle.record_text.proofs.RowLaws.{adapter_takes, next_field, next_number, no_more, one_takes, two_take, with_word}
use Rattle.record_text.proofs.StepLemmas.{ok_is, on_ok}

-- ---- what is read is spelled so

-- the record after its word spells the event
abbrev Tells : Row → TraceWord → Event → Type 0
Tells row w e = (spelled w ∷ drop 1 row ≡ event_row e) × FitsEvent e

submit_takes : (row : Row) (x : Event) → length row ≡ 8 → submit_at row ≡ Ok x → Tells row word.Submit x
unfolding submit_at
submit_takes row x eight e =
    next_number row 1 255 _ x eight (omega arith) (omega arith) e (λ driver a t1 r1.
    next_number row 2 max_number _ x eight (omega arith) (omega arith) r1 (λ device b t2 r2.
    next_number row 3 max_number _ x eight (omega arith) (omega arith) r2 (λ priority c t3 r3.
    next_number row 4 max_number _ x eight (omega arith) (omega arith) r3 (λ retries d t4 r4.
    next_field row 5 (flags_at row 5) _ x flags_text (λ f. ⊤) eight (omega arith) (λ f ef. (flags_takes row 5 f ef, tt)) r4 (λ flags k t5 r5.
    no_more row 6 2 _ x (Tells row word.Submit) eight refl r5 (λ rest.
    (ap (λ (l : Row). spelled word.Submit ∷ l) (t1 _ (t2 _ (t3 _ (t4 _ (t5 _ rest))))), (a, b, c, d))))))))

abbrev pub Outcomes : Row → ℕ × Outcome → Type 0
Outcomes row x = (drop 1 row ≡ decimal x.0 ∷ hex (x.1.status ∷ []) ∷ hex (x.1.scsi ∷ []) ∷ hex x.1.sense ∷ replicate 3 []) × FitsOutcome x.0 x.1

pub outcome_takes : (row : Row) (x : ℕ × Outcome) → length row ≡ 8 → outcome_at row ≡ Ok x → Outcomes row x
unfolding outcome_at
outcome_takes row x eight e =
    next_number row 1 max_number _ x eight (omega arith) (omega arith) e (λ n a t1 r1.
    next_field row 2 (byte_at row 2) _ x (λ b. hex (b ∷ [])) (λ b. b < 256) eight (omega arith) (byte_at_takes row 2) r1 (λ status b t2 r2.
    next_field row 3 (byte_at row 3) _ x (λ b. hex (b ∷ [])) (λ b. b < 256) eight (omega arith) (byte_at_takes row 3) r2 (λ scsi c t3 r3.
    next_field row 4 (sense_at row 4) _ x hex (λ bs. AreBytes bs × (length bs ≤ 18)) eight (omega arith) (λ bs eb. let t = sense_at_takes row 4 bs eb in (t.0, (t.1, t.2))) r3 (λ sense d t4 r4.
    no_more row 5 3 _ x (Outcomes row) eight refl r4 (λ rest. (t1 _ (t2 _ (t3 _ (t4 _ rest))), (a, b, c, d.0, d.1)))))))

tick_takes : (row : Row) (x : Event) → length row ≡ 8 → tick_at row ≡ Ok x → Tells row word.Tick x
unfolding tick_at
tick_takes row x eight e =
    no_more row 1 7 _ x (Tells row word.Tick) eight refl e (λ rest. (ap (λ (l : Row). spelled word.Tick ∷ l) rest, tt))

-- an event of one number, and one of two
tell_one : (row : Row) (w : TraceWord) (f : ℕ → Event) (x : Event) → length row ≡ 8 → ((n : ℕ) → event_row (f n) ≡ spelled w ∷ decimal n ∷ replicate 6 []) → ((n : ℕ) → n ≤ max_number → FitsEvent (f n))
    → (one_number row >>= λ n. Ok (f n)) ≡ Ok x → Tells row w x
tell_one row w f x eight spells fits e =
    on_ok (one_number row) (λ n. Ok (f n)) x e (λ n en s.
    let p = one_takes row (spelled w) n eight en in
    let made : Tells row w (f n) = (p.0 ∙ sym (spells n), fits n p.1) in
    subst (λ (y : Event). Tells row w y) (ok_is _ x s) made)

tell_two : (row : Row) (w : TraceWord) (f : ℕ → ℕ → Event) (x : Event) → length row ≡ 8 → ((m n : ℕ) → event_row (f m n) ≡ spelled w ∷ decimal m ∷ decimal n ∷ replicate 5 []) → ((m n : ℕ) → m ≤ max_number → n ≤ max_number → FitsEvent (f m n))
    → (two_numbers row >>= λ p. Ok (f p.0 p.1)) ≡ Ok x → Tells row w x
tell_two row w f x eight spells fits e =
    on_ok (two_numbers row) (λ p. Ok (f p.0 p.1)) x e (λ q eq s.
    let p = two_take row (spelled w) q eight eq in
    let made : Tells row w (f q.0 q.1) = (p.0 ∙ sym (spells q.0 q.1), fits q.0 q.1 p.1 p.2) in
    subst (λ (y : Event). Tells row w y) (ok_is _ x s) made)

event_tells : (row : Row) (w : TraceWord) (x : Event) → length row ≡ 8 → event_at w row ≡ Ok x → Tells row w x
unfolding event_at
event_tells row word.Submit x eight e = submit_takes row x eight e
event_tells row word.Send x eight e = tell_two row word.Send event.Send x eight (λ m n. refl) (λ m n p q. (p, q)) e
event_tells row word.Done x eight e =
    on_ok (outcome_at row) (λ p. Ok (event.Done p.0 p.1)) x e (λ p ep s.
    let t = outcome_takes row p eight ep in
    let made : Tells row word.Done (event.Done p.0 p.1) = (ap (λ (l : Row). spelled word.Done ∷ l) t.0, t.1) in
    subst (λ (y : Event). Tells row word.Done y) (ok_is _ x s) made)
event_tells row word.Requeue x eight e = tell_one row word.Requeue event.Requeue x eight (λ n. refl) (λ n p. p) e
event_tells row word.Finish x eight e = tell_one row word.Finish event.Finish x eight (λ n. refl) (λ n p. p) e
event_tells row word.Freeze x eight e = tell_two row word.Freeze event.FreezeDev x eight (λ m n. refl) (λ m n p q. (p, q)) e
event_tells row word.Release x eight e = tell_two row word.Release event.ReleaseDev x eight (λ m n. refl) (λ m n p q. (p, q)) e
event_tells row word.FreezeSim x eight e = tell_two row word.FreezeSim event.FreezeSim x eight (λ m n. refl) (λ m n p q. (p, q)) e
event_tells row word.ReleaseSim x eight e = tell_one row word.ReleaseSim event.ReleaseSim x eight (λ n. refl) (λ n p. p) e
event_tells row word.Adjust x eight e = tell_two row word.Adjust event.Adjust x eight (λ m n. refl) (λ m n p q. (p, q)) e
event_tells row word.Tick x eight e = tick_takes row x eight e
event_tells row _ x eight e = absurd cc

-- a record is its word and the fields after it
pub row_is : (row : Row) (w : TraceWord) (whole : Row) → length row ≡ 8 → field_of row 0 ≡ spelled w → spelled w ∷ drop 1 row ≡ whole → row ≡ whole
row_is row w whole eight is e = with_word row (spelled w) eight is ∙ e

pub event_takes : (row : Row) (w : TraceWord) (x : Event) → length row ≡ 8 → field_of row 0 ≡ spelled w → event_at w row ≡ Ok x → (row ≡ event_row x) × FitsEvent x
event_takes row w x eight is e = let t = event_tells row w x eight e in (row_is row w _ eight is t.0, t.1)

-- an adapter can be spelled in a version: it is on no link, unless the version has links
abbrev pub can_spell : Version → Adapter → Bool
can_spell v a = if has_links v then true else is_unlinked a

-- an adapter of its openings alone
alone_takes : (row : Row) (a : Adapter) → length row ≡ 8 → field_of row 0 ≡ spelled word.Sim → (one_number row >>= λ n. Ok (unlinked n)) ≡ Ok a → (row ≡ adapter_row a) × (is_unlinked a ≡ true)
alone_takes row a eight is e =
    on_ok (one_number row) (λ n. Ok (unlinked n)) a e (λ n en s.
    let made : (row ≡ adapter_row (unlinked n)) × (is_unlinked (unlinked n) ≡ true) = (row_is row word.Sim _ eight is (one_takes row (spelled word.Sim) n eight en).0, refl) in
    subst (λ (y : Adapter). (row ≡ adapter_row y) × (is_unlinked y ≡ true)) (ok_is _ a s) made)

pub adapter_in_takes : (v : Version) (row : Row) (a : Adapter) → length row ≡ 8 → field_of row 0 ≡ spelled word.Sim → adapter_in v row ≡ Ok a → (row ≡ adapter_row a) × (can_spell v a ≡ true)
unfolding adapter_in
adapter_in_takes version.One row a eight is e = alone_takes row a eight is e
adapter_in_takes version.Two row a eight is e = alone_takes row a eight is e
adapter_in_takes version.Three row a eight is e = (row_is row word.Sim _ eight is (adapter_takes row a eight e).0, refl)
