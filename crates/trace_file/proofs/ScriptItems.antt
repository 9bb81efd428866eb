-- What a row of a script asks for keeps the static rules, and is an answer where the row is one.
use Rattle.std.proofs.Common.{◌≡◌, ℕ, Bool, true, false, refl, ap, length, subst, sym, ◌∙◌, arith, nat_le}
use Rattle.std.specs.Prelude.{Result, Ok, ok_or, ⊤, not, nat_lt, ◌==◌}
use Rattle.std.proofs.lemmas.Bool.{and_from, eq-eqb, le-leb, lt-ltb, ltb-false, not-false}
use Rattle.std.proofs.lemmas.List.Quantifiers.{position-Some}
use Rattle.cam_types.specs.Questions.{names_adapter, names_device, names_lane}
use Rattle.cam_types.specs.Topology.{are_openings}
use Rattle.cam_types.specs.declared.limits.TheConstants.{MAX_PRIORITY, MAX_RETRIES}
use Rattle.sense_class.specs.Classes.{status_of}
use Rattle.event_rules.specs.Legal.{is_count}
use Rattle.event_rules.specs.declared.refusal.Refusal.TheVariants.{NoDevice, NoAdapter, NoLane, BadPriority, BadRetries, BadCount, BadOpenings, BadStatus}
use Rattle.cam_path.specs.declared.path.CamPath.{CamPath}
use Rattle.trace_file.specs.ScriptRows.{ScriptRow}
use Rattle.trace_file.specs.declared.script_row.ScriptRow.TheVariants as row
use Rattle.trace_file.specs.ScriptReading.{ScriptItem}
use Rattle.trace_file.specs.Histories.{Device, Refusal, Topology}
use Rattle.trace_file.specs.Scenarios.{device_number, is_answer_item, is_answer_row, is_at, is_ruled_item, item_of, names_driver, refused_if}
use Rattle.record_text.proofs.StepLemmas.{ok_or_ok, ok_is, on_ok}

-- a row of a driver adds a step, and an answer an answer
pub item_kind : (c : Topology) (x : ScriptRow) (i : ScriptItem) → item_of c x ≡ Ok i → is_answer_item i ≡ is_answer_row x
unfolding item_of
item_kind c (row.Pause driver round) i e = grind arith
item_kind c _ i e = grind arith

-- a device that was found is one of the configuration's
device_named : (c : Topology) (p : CamPath) (d : ℕ) → ok_or (device_number c p) NoDevice ≡ Ok d → names_device c d ≡ true
device_named c p d e =
    let none : Device = record { bus = 0; target = 0; lun = 0; openings = 0 } in
    lt-ltb d (length c.devices) (position-Some (is_at p) c.devices d none (ok_or_ok (device_number c p) NoDevice d e)).0

passed : (b : Bool) (cause : Refusal) (u : ⊤) → refused_if b cause ≡ Ok u → b ≡ false
passed true cause u e = absurd cc
passed false cause u e = refl

small : (most n : ℕ) (cause : Refusal) (u : ⊤) → refused_if (nat_lt most n) cause ≡ Ok u → nat_le n most ≡ true
small most n cause u e = le-leb n most (ltb-false most n (passed (nat_lt most n) cause u e))

allowed : (b : Bool) (cause : Refusal) (u : ⊤) → refused_if (not b) cause ≡ Ok u → b ≡ true
allowed b cause u e = not-false b (passed (not b) cause u e)

kept : (c : Topology) (i made : ScriptItem) → ◌≡◌ {A = Result ScriptItem Refusal} (Ok made) (Ok i) → is_ruled_item c made ≡ true → is_ruled_item c i ≡ true
kept c i made e h = subst (λ (x : ScriptItem). is_ruled_item c x ≡ true) (ok_is made i e) h

-- what a row asks for may be asked
pub item_ruled : (c : Topology) (x : ScriptRow) (i : ScriptItem) → names_driver x ≡ true → item_of c x ≡ Ok i → is_ruled_item c i ≡ true
unfolding item_of
item_ruled c (row.Submit driver at priority retries flags) i h e =
    on_ok (ok_or (device_number c at) NoDevice) _ i e (λ device ed r1.
    on_ok (refused_if (nat_lt MAX_PRIORITY priority) BadPriority) _ i r1 (λ u eu r2.
    on_ok (refused_if (nat_lt MAX_RETRIES retries) BadRetries) _ i r2 (λ v ev r3.
    let named = and_from _ _ (eq-eqb driver driver refl) (device_named c at device ed) in
    kept c i _ r3 (and_from _ _ h (and_from _ _ (and_from _ _ named (small MAX_PRIORITY priority _ u eu)) (small MAX_RETRIES retries _ v ev))))))
item_ruled c (row.Freeze driver at count) i h e =
    on_ok (ok_or (device_number c at) NoDevice) _ i e (λ device ed r1.
    on_ok (refused_if (not (is_count count)) BadCount) _ i r1 (λ u eu r2.
    kept c i _ r2 (and_from _ _ h (and_from _ _ (device_named c at device ed) (allowed _ _ u eu)))))
item_ruled c (row.Release driver at count) i h e =
    on_ok (ok_or (device_number c at) NoDevice) _ i e (λ device ed r1.
    on_ok (refused_if (not (is_count count)) BadCount) _ i r1 (λ u eu r2.
    kept c i _ r2 (and_from _ _ h (and_from _ _ (device_named c at device ed) (allowed _ _ u eu)))))
item_ruled c (row.FreezeSim driver sim count) i h e =
    on_ok (refused_if (not (names_adapter c sim)) NoAdapter) _ i e (λ u eu r1.
    on_ok (refused_if (not (is_count count)) BadCount) _ i r1 (λ v ev r2.
    kept c i _ r2 (and_from _ _ h (and_from _ _ (allowed _ _ u eu) (allowed _ _ v ev)))))
item_ruled c (row.ReleaseSim driver sim) i h e =
    on_ok (refused_if (not (names_adapter c sim)) NoAdapter) _ i e (λ u eu r.
    kept c i _ r (and_from _ _ h (allowed _ _ u eu)))
item_ruled c (row.Adjust driver at openings) i h e =
    on_ok (ok_or (device_number c at) NoDevice) _ i e (λ device ed r1.
    on_ok (refused_if (not (are_openings openings)) BadOpenings) _ i r1 (λ u eu r2.
    kept c i _ r2 (and_from _ _ h (and_from _ _ (device_named c at device ed) (allowed _ _ u eu)))))
item_ruled c (row.Pause driver round) i h e = kept c i _ e (and_from _ _ h refl)
item_ruled c (row.Answer lane outcome) i h e =
    on_ok (refused_if (not (names_lane c lane)) NoLane) _ i e (λ u eu r1.
    on_ok (refused_if (status_of outcome == 0) BadStatus) _ i r1 (λ v ev r2.
    kept c i _ r2 (and_from _ _ (allowed _ _ u eu) (ap not (passed _ _ v ev)))))

-- what an item that isn't refused keeps, and its kind
pub asked : (c : Topology) (x : ScriptRow) (i : ScriptItem) (r : Result ScriptItem Refusal) → names_driver x ≡ true → r ≡ item_of c x → r ≡ Ok i → (is_ruled_item c i ≡ true) × (is_answer_item i ≡ is_answer_row x)
asked c x i r h parsed is = let e = sym parsed ∙ is in (item_ruled c x i h e, item_kind c x i e)
