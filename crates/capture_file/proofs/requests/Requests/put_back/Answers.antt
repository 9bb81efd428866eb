use Rattle.std.proofs.Common.{◌≡◌, ℕ, List, ◌∙◌, sym, ap, refl}
use Rattle.capture_file.specs.declared.attempt.State.TheVariants.{PutBack}
use Rattle.capture_file.specs.Attempts.{Attempt, put, with_id, newest_at}
use Rattle.capture_file.specs.Events.{Known, with_next, with_put_back, put_back_at}
use Rattle.capture_file.proofs.KnownLemmas.{below_put, next_found, next_put}
use Rattle.capture_file.proofs.requests.Requests.put_back.Goals as goal

pub end-requires-clause-before : goal.end-requires-clause-before
end-requires-clause-before c =
    let i = c.self.inside in
    let k : Known = record { skew = i.skew; next = i.next; attempts = i.table } in
    let b = c.in-Some.before in
    let after = c.self-2.view_is ∙ c.in_ok-add_next.ensures.ok in
    ap (λ (x : Known). with_id b.id x.attempts) after ∙ ap (λ (x : Known). with_id b.id (with_next b.place c.args.time b.arrival x).attempts) (sym c.self.view_is) ∙ next_found k b b.place c.args.time b.arrival c.in-Some.ensures.at

pub invariant_of-self : goal.invariant_of-self
invariant_of-self c = rw c.end.ensures (below_put c.self-2.inside.next c.self-2.inside.table _ c.self-2.invariant)

pub returns-clause-ok : goal.returns-clause-ok
returns-clause-ok c =
    let i = c.self.inside in
    let k : Known = record { skew = i.skew; next = i.next; attempts = i.table } in
    let b = c.in-Some.before in
    let a = put_back_at c.args.time b in
    let after = c.self-2.view_is ∙ c.in_ok-add_next.ensures.ok ∙ ap (with_next b.place c.args.time b.arrival) (sym c.self.view_is) in
    let list : c.end.new.self ≡ put a c.self-2.inside.table = c.end.ensures ∙ ap (λ (n : ℕ). put (record b { state = PutBack n c.args.time }) c.self-2.inside.table) c.start-start.ensures in
    ap (λ (all : List Attempt). let x : Known = record { skew = c.self-2.inside.skew; next = c.self-2.inside.next; attempts = all } in x) list
    ∙ ap (λ (x : Known). let y : Known = record x { attempts = put a x.attempts } in y) after
    ∙ next_put k a b b.place c.args.time b.arrival c.self.invariant c.in-Some.ensures.at refl
    ∙ ap (with_put_back c.args.time k) c.in-Some.ensures.newest
    ∙ ap (λ (x : Known). with_put_back c.args.time x (newest_at c.args.place c.args.sent x.attempts)) c.self.view_is
