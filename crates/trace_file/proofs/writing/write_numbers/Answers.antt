use Rattle.std.proofs.Common.{ℕ, ◌∷◌, [], arith, get_or, decimal}
use Rattle.std.proofs.lemmas.List.{get_or_default}
use Rattle.record_text.specs.ConfigRows.{padded}
use Rattle.record_text.proofs.WritingLemmas.{wrote_more, wrote_none}
use Rattle.trace_file.proofs.writing.write_numbers.Goals as goal

pub loop-number-init : goal.loop-number-init
loop-number-init c = wrote_none c.args.writer.now c.requires

pub loop-number-preserved : goal.loop-number-preserved
loop-number-preserved c =
    let numbers = c.args.numbers.now in
    let i = c.loop-number.number-index in
    let word = c.args.word.now in
    wrote_more c.args.writer.now c.loop-number.writer c.write_one.new.writer (λ (n : ℕ). padded (word ∷ decimal n ∷ [])) numbers i (get_or numbers i 0) (omega arith) (get_or_default numbers i (get_or numbers i 0) 0 (omega arith)) c.loop-number.invariant c.in_ok-write_one.ensures
