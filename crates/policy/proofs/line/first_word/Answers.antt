use Rattle.std.proofs.Common.{◌≡◌, ◌<◌, length, rules, tests, refl, take, drop, ◌-◌}
use Rattle.policy.proofs.LineLemmas.{no_word, word_cut}
use Rattle.policy.proofs.line.first_word.Goals as goal

pub returns-then-is_empty-clause-words : goal.returns-then-is_empty-clause-words
returns-then-is_empty-clause-words c =
    let none : length (take (length c.args.line.now - c.blank_length.result) (drop c.blank_length.result c.args.line.now)) ≡ 0 = search (rules, tests) in
    no_word c.args.line.now c.blank_length.result c.blank_length.ensures.length none

pub returns-clause-words : goal.returns-clause-words
returns-clause-words c =
    let some : 0 < length (take (length c.args.line.now - c.blank_length.result) (drop c.blank_length.result c.args.line.now)) = search (rules, tests) in
    word_cut c.args.line.now _ c.split_at.result.0.now c.split_at.result.1.now c.blank_length.result c.word_length.result
    c.blank_length.ensures.length refl some c.word_length.ensures.length c.word_length.ensures.within c.split_at.ensures.front c.split_at.ensures.back
