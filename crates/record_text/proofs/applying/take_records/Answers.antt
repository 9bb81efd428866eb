use Rattle.std.proofs.Common.{◌∙◌, sym, refl, ap, inl, inr, Some, List, ℕ, Bor, length, [], Err}
use Rattle.std.proofs.lemmas.Result.{err_from_is_err_and}
use Rattle.csv.specs.Reading.{strip_bom}
use Rattle.csv.specs.Records.{fields_of}
use Rattle.csv.proofs.ReadFacts.{rows-end}
use Rattle.record_text.specs.Text.{records_in}
use Rattle.record_text.proofs.RecordLemmas.{left_first, left_more, left_fault, left_end, record_more, took_ok, took_err}
use Rattle.record_text.proofs.applying.take_records.Goals as goal

pub loop-row-init : goal.loop-row-init
loop-row-init g c =
    let fr = c.from_reader-reader.ensures in
    let e = c.has_headers.ensures in
    let f = c.flexible.ensures in
    let start = c.into_iter-row-iterator.ensures.into_iter_gives ∙ refl in
    let rdr = c.into_byte_records-row-items.ensures.rdr in
    let left = c.into_byte_records-row-items.ensures.left in
    rw (start, rdr) (
      rw (f, e) at fr.trim ∙ c.new.ensures.trim,
      inr (inr (rw (f, e) at fr.has_headers, fr.headers)),
      left,
      rw (f, e) at fr.config ∙ c.new.ensures.config,
      c.requires.sound,
      strip_bom c.args.text.now,
      fr.source,
      rw fr.state (left_first g.S.Parser.step c.args.first c.args.text.now),
    )

pub loop-row-preserved : goal.loop-row-preserved
loop-row-preserved g c =
    let inv = c.loop-row.invariant in
    let s = rw (c.in-Some.is, c.in-Ok.is) at ((c.next.ensures.steps inv.2 inv.0).0 inv.1) in
    let old = c.loop-row.row-iterator.rdr in
    let new = c.next.new.self.rdr in
    let m = record_more (λ (t : Bor (List ℕ)). Some t.now) old new (fields_of c.in-Ok.row) inv.5 inv.3 inv.6 s.0 in
    let took = took_ok _ _ _ _ c.take.ensures.value c.in_ok-parser.was in (
      s.0.3 ∙ inv.0,
      inl s.1,
      s.2,
      s.0.2 ∙ inv.3,
      c.in_ok-parser.ensures.sound,
      m.0,
      m.1,
      left_more g.S.Parser.step c.args.first (records_in c.args.text.now) c.loop-row.number c.loop-row.parser c.in_ok-parser.parser old.state inv.5 (length c.args.text.now) (fields_of c.in-Ok.row, new.state, m.0) inv.7 m.2 took,
    )

pub returns-in_err-parser-clause-value : goal.returns-in_err-parser-clause-value
returns-in_err-parser-clause-value g c =
    let inv = c.loop-row.invariant in
    let s = rw (c.in-Some.is, c.in-Ok.is) at ((c.next.ensures.steps inv.2 inv.0).0 inv.1) in
    let old = c.loop-row.row-iterator.rdr in
    let new = c.next.new.self.rdr in
    let m = record_more (λ (t : Bor (List ℕ)). Some t.now) old new (fields_of c.in-Ok.row) inv.5 inv.3 inv.6 s.0 in
    let p = err_from_is_err_and c.from_residual.result c.from_residual.ensures.1 in
    rw (p.1, p.2) (λ other.
    sym (left_fault g.S.Parser.step c.args.first (records_in c.args.text.now) c.loop-row.number c.loop-row.parser old.state inv.5 (length c.args.text.now) (fields_of c.in-Ok.row, new.state, m.0) _ inv.7 m.2
    (took_err _ _ _ _ c.take.ensures.value c.in_err-parser.was (λ k. other (ap (λ x. Err x) k)))))

pub returns-clause-value : goal.returns-clause-value
returns-clause-value g c = λ _.
    let inv = c.loop-row.invariant in
    let s = rw c.in-None.is at ((c.next.ensures.steps inv.2 inv.0).0 inv.1) in
    let old = c.loop-row.row-iterator.rdr in
    let none = rows-end (λ (t : Bor (List ℕ)). Some t.now) old c.next.new.self.rdr [] _ inv.5 inv.3 inv.6 s in
    sym (left_end g.S.Parser.step c.args.first (records_in c.args.text.now) c.loop-row.number c.loop-row.parser old.state inv.5 (length c.args.text.now) inv.7 none)
