-- the fault of a run that isn't called one of its script
use Rattle.std.proofs.Common.{◌≡◌, ℕ, ◌-◌, ◌<◌, List, [], ◌∷◌, ◌++◌, length, refl, sym, ap, ◌∙◌, subst, arith, inl, inr, cond, ◌==◌, true, false, eqb-true}
use Rattle.std.proofs.lemmas.List.Sums.{sum_by-append}
use Rattle.event_rules.proofs.ListFacts.{count_by-push}
use Rattle.xpt_lock.proofs.ConsistentLemmas.{all_one}
use Rattle.xpt_lock.proofs.ReplayLemmas.{length_receipts_of}
use Rattle.xpt_lock.specs.Gathers.{IsWhyNot}
use Rattle.xpt_lock.specs.declared.fault.GatherFault.{GatherFault}
use Rattle.xpt_lock.specs.Receipts.{all_receipts, naming}
use Rattle.xpt_lock.specs.declared.fault.GatherFault.TheVariants as gathers
use Rattle.sim_worker.specs.Words.{AreInterleaved, IsPast, due_of, Past, Scenario, Held, Receipt, Event}
use Rattle.sim_worker.specs.Ports.{Served}
use Rattle.sim_worker.specs.Faults.{IsFailing, IsLiveFault, IsSeatless, IsUnjudged, IsUnstarted, as_live, IsNaming, IsNoRun, LiveFault, Mismatch, Unnamed, NoThread, OutOfMemory}

-- no receipt names the place, of one list and then of another
pub none_names : (place : ℕ) (before : List Held) (log : Held) → naming place (all_receipts before) ≡ 0 → naming place log.receipts ≡ 0 → naming place (all_receipts (before ++ log ∷ [])) ≡ 0
none_names place before log none here = ap (naming place) (all_one before log) ∙ sum_by-append (λ (r : Receipt). cond (r.at == place) 1 0) (all_receipts before) log.receipts ∙ omega (arith, none, here)

pub none_names_more : (place : ℕ) (before : List Receipt) (r : Receipt) → naming place before ≡ 0 → (r.at == place) ≡ false → naming place (before ++ r ∷ []) ≡ 0
none_names_more place before r none other = count_by-push (λ (x : Receipt). x.at == place) before r ∙ rw other (omega (arith, none))

pub other_place : (a b : ℕ) → (a ≡ b → ⊥) → (a == b) ≡ false
other_place a b never = elim (a == b) as (λ x. (a == b) ≡ x → x ≡ false) [
  | true ↦ λ is. absurd (never (eqb-true a b is))
  | false ↦ λ is. refl
] refl

past_none : (es : List Event) (place : ℕ) → place ≡ length es - 1 → (place < length es → ⊥) → es ≡ []
past_none [] place last never = refl
past_none (e ∷ es) place last never = absurd (never (omega arith))

nothing : (s : Scenario) (h : Past) (logs : List Held) (served : List (List Served)) (place : ℕ) → IsFailing s h logs served place → (place < length h.events → ⊥) → (h.events ≡ []) × (place ≡ 0)
nothing s h logs served place fails never = elim fails [
  | inl (inl here) ↦ absurd (never here.there)
  | inl (inr last) ↦ at_first (past_none h.events place last.0 never) last.0
  | inr last ↦ at_first (past_none h.events place last.0 never) last.0
]
  where
    at_first : h.events ≡ [] → place ≡ length h.events - 1 → (h.events ≡ []) × (place ≡ 0)
    at_first none last = (none, last ∙ ap (λ (es : List Event). length es - 1) none)

-- the fault that names where a comparison fails
pub no_run : (s : Scenario) (h : Past) (logs : List Held) (served : List (List Served)) (place : ℕ) (fault : LiveFault) → AreInterleaved (due_of h) logs → IsFailing s h logs served place → IsNaming logs place fault → IsNoRun s h logs served fault
no_run s h logs served place (Mismatch r) fit fails named = (named.1, subst (IsFailing s h logs served) (sym named.0) fails)
no_run s h logs served place (Unnamed first) fit fails named =
    let none = nothing s h logs served place fails (λ lt. let one = fit.all_named place (omega (arith, lt, length_receipts_of h.config h.events)) in let none = named.1 in absurd (omega arith)) in
    (named.0, none.0, subst (IsFailing s h logs served) none.1 fails)
no_run s h logs served place NoThread fit fails named = absurd named
no_run s h logs served place OutOfMemory fit fails named = absurd named

pub ungathered_fault : (s : Scenario) (logs : List Held) (fault : GatherFault) → ((h : Past) × IsWhyNot h logs fault) → IsUnjudged s (as_live fault)
ungathered_fault s logs gathers.OutOfMemory h = tt
ungathered_fault s logs (gathers.Mismatch r) h = record { history = h.0; logs = logs; served = []; past = h.1.0; why = inl h.1.1 }
ungathered_fault s logs (gathers.Unnamed place) h = record { history = h.0; logs = logs; served = []; past = h.1.0; why = inl h.1.1 }

pub judged_fault : (s : Scenario) (h : Past) (logs : List Held) (served : List (List Served)) (fault : LiveFault) → IsPast h → AreInterleaved (due_of h) logs → IsNoRun s h logs served fault → IsUnjudged s fault
judged_fault s h logs served OutOfMemory past together stated = tt
judged_fault s h logs served NoThread past together stated = absurd stated
judged_fault s h logs served (Mismatch r) past together stated = record { history = h; logs = logs; served = served; past = past; why = inr (together, stated) }
judged_fault s h logs served (Unnamed place) past together stated = record { history = h; logs = logs; served = served; past = past; why = inr (together, stated) }
