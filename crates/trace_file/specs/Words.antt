use Rattle.std.specs.Prelude.{ℕ, List, [], ◌∷◌, Option, codes, bytes_eq, find}
use Rattle.trace_file.specs.Rows.{TraceWord}
use Rattle.trace_file.specs.declared.word.TraceWord.TheVariants as word

-- how a word is spelled
abbrev pub spelled : TraceWord → List ℕ
spelled word.Sim = codes "sim"
spelled word.Dev = codes "dev"
spelled word.Lane = codes "lane"
spelled word.Submit = codes "submit"
spelled word.Send = codes "send"
spelled word.Done = codes "done"
spelled word.Requeue = codes "requeue"
spelled word.Finish = codes "finish"
spelled word.Freeze = codes "freeze"
spelled word.Release = codes "release"
spelled word.FreezeSim = codes "sfreeze"
spelled word.ReleaseSim = codes "srelease"
spelled word.Adjust = codes "adjust"
spelled word.Tick = codes "tick"
spelled word.Weight = codes "weight"
spelled word.Link = codes "link"

abbrev pub all_words : List TraceWord
all_words =
    word.Sim ∷ word.Dev ∷ word.Lane ∷ word.Submit ∷ word.Send ∷ word.Done ∷ word.Requeue ∷ word.Finish ∷ word.Freeze ∷ word.Release
    ∷ word.FreezeSim ∷ word.ReleaseSim ∷ word.Adjust ∷ word.Tick ∷ word.Weight ∷ word.Link ∷ []

-- the word that a field spells
unfoldable pub word_of : List ℕ → Option TraceWord
word_of field = find (λ w. bytes_eq field (spelled w)) all_words

-- where a record of this word stands: rows of weights, links, adapters, devices, lanes and events come in this order
abbrev pub word_rank : TraceWord → ℕ
word_rank word.Weight = 0
word_rank word.Link = 1
word_rank word.Sim = 2
word_rank word.Dev = 3
word_rank word.Lane = 4
word_rank _ = 5
