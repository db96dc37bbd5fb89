use Rattle.std.proofs.Common.{◌≡◌, fold, drop}
use Rattle.check_declarations.specs.Words.{with_word, type_words}
use Rattle.check_declarations.proofs.words.TypeWords.of.Given as goal

abbrev pub invariant-loop-word : goal.invariant-loop-word
invariant-loop-word l = fold with_word l.counts (drop l.word-index l.words) ≡ type_words l.fn.words
