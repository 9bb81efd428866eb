-- which CCB an event concerns
use Rattle.std.proofs.Common.{◌≡◌, ◌≢◌, ℕ, false, refl, sym, ◌∙◌, Some, None, ◌==◌, ◌||◌, not}
use Rattle.std.proofs.lemmas.Bool.{or_parts, and_left, or_from, ne_eqb}
use Rattle.event_rules.specs.Event.{is_send_of, is_done_of, is_send_or_done_of, is_requeue_of, is_finish_of, concerns, ccb_of, is_erring, ends, submission_of, Event, Send, Done, Requeue, Finish}
use Rattle.event_rules.specs.Counts.{Submission}

-- an event changes no CCB that it doesn't concern
pub record IsApart (n : ℕ) (e : Event) : Type 0 where
  pub send_or_done : is_send_or_done_of n e ≡ false
  pub done : is_done_of n e ≡ false
  pub requeue : is_requeue_of n e ≡ false
  pub ends : ends n e ≡ false
  pub send : is_send_of n e ≡ false

pub apart : (n : ℕ) (e : Event) → concerns n e ≡ false → IsApart n e
apart n e h =
    let one = or_parts (is_send_or_done_of n e || is_requeue_of n e) (is_finish_of n e) h in
    let two = or_parts (is_send_or_done_of n e) (is_requeue_of n e) one.0 in
    let three = or_parts (is_send_of n e) (is_done_of n e) two.0 in
    record {
      send_or_done = two.0;
      done = three.1;
      requeue = two.1;
      ends = or_from _ _ (and_left (is_done_of n e) (not (is_erring e)) three.1) one.1;
      send = three.0;
    }

-- the CCB that an event concerns
none_of : (c n : ℕ) → n ≢ c → (c == n) ≡ false
none_of c n ne = ne_eqb c n (λ e. ne (sym e))

pub concerns-other : (e : Event) (c n : ℕ) → ccb_of e ≡ Some c → n ≢ c → concerns n e ≡ false
concerns-other (Send lane ccb) c n is ne = let same : ccb ≡ c = cc in rw (none_of ccb n (λ e. ne (e ∙ same))) refl
concerns-other (Done ccb outcome) c n is ne = let same : ccb ≡ c = cc in rw (none_of ccb n (λ e. ne (e ∙ same))) refl
concerns-other (Requeue ccb) c n is ne = let same : ccb ≡ c = cc in rw (none_of ccb n (λ e. ne (e ∙ same))) refl
concerns-other (Finish ccb) c n is ne = let same : ccb ≡ c = cc in rw (none_of ccb n (λ e. ne (e ∙ same))) refl
concerns-other _ c n is ne = refl

pub concerns-none : (e : Event) (n : ℕ) → ccb_of e ≡ None → concerns n e ≡ false
concerns-none (Send lane ccb) n is = absurd (cc)
concerns-none (Done ccb outcome) n is = absurd (cc)
concerns-none (Requeue ccb) n is = absurd (cc)
concerns-none (Finish ccb) n is = absurd (cc)
concerns-none _ n is = refl

pub submit_concerns_none : (e : Event) (s : Submission) → submission_of e ≡ Some s → ccb_of e ≡ None
submit_concerns_none (Send lane ccb) s e = absurd (cc)
submit_concerns_none (Done ccb outcome) s e = absurd (cc)
submit_concerns_none (Requeue ccb) s e = absurd (cc)
submit_concerns_none (Finish ccb) s e = absurd (cc)
submit_concerns_none _ s e = refl
