use Rattle.std.proofs.Common.{◌∙◌, sym, refl, inl, inr, Some, List, ℕ, Bor, arith}
use Rattle.csv.specs.Reading.{strip_bom}
use Rattle.csv.specs.Records.{fields_of}
use Rattle.record_text.proofs.RecordLemmas.{record_more}
use Rattle.views.proofs.NumberLemmas.{ahead_first, ahead_here, ahead_more}
use Rattle.views.proofs.notes.place.record_at.Goals as goal

pub loop-row-init : goal.loop-row-init
loop-row-init c =
    let fr = c.from_reader-reader.ensures in
    let e = c.has_headers.ensures in
    let f = c.flexible.ensures in
    let start = c.into_iter-row-iterator.ensures.into_iter_gives ∙ refl in
    let rdr = c.into_byte_records-row-items.ensures.rdr in
    let left = c.into_byte_records-row-items.ensures.left in
    rw (start, rdr) (
      rw (f, e) at fr.trim ∙ c.new.ensures.trim,
      inr (inr (rw (f, e) at fr.has_headers, fr.headers)),
      left,
      rw (f, e) at fr.config ∙ c.new.ensures.config,
      strip_bom c.args.text.now,
      fr.source,
      rw (fr.state, c.saturating_sub-left.ensures) (ahead_first c.args.text.now c.args.number),
    )

pub loop-row-preserved : goal.loop-row-preserved
loop-row-preserved c =
    let inv = c.loop-row.invariant in
    let s = rw (c.in-Some.is, c.in-Ok.is) at ((c.next.ensures.steps inv.2 inv.0).0 inv.1) in
    let old = c.loop-row.row-iterator.rdr in
    let new = c.next.new.self.rdr in
    let m = record_more (λ (t : Bor (List ℕ)). Some t.now) old new (fields_of c.in-Ok.row) inv.4 inv.3 inv.5 s.0 in
    (s.0.3 ∙ inv.0, inl s.1, s.2, s.0.2 ∙ inv.3, m.0, m.1, ahead_more c.args.text.now c.args.number c.loop-row.left old.state inv.4 (fields_of c.in-Ok.row, new.state, m.0) inv.6 m.2 (omega arith))

pub returns-then-left-eq0 : goal.returns-then-left-eq0
returns-then-left-eq0 c =
    let inv = c.loop-row.invariant in
    let s = rw (c.in-Some.is, c.in-Ok.is) at ((c.next.ensures.steps inv.2 inv.0).0 inv.1) in
    let old = c.loop-row.row-iterator.rdr in
    let m = record_more (λ (t : Bor (List ℕ)). Some t.now) old c.next.new.self.rdr (fields_of c.in-Ok.row) inv.4 inv.3 inv.5 s.0 in
    ahead_here c.args.text.now c.args.number c.loop-row.left old.state inv.4 (fields_of c.in-Ok.row, c.next.new.self.rdr.state, m.0) inv.6 m.2 (omega arith)
