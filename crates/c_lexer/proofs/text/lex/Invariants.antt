use Rattle.std.proofs.Common.{◌-◌, ◌≤◌, length, vec_len}
use Rattle.c_lexer.specs.Lexes.{Reads}
use Rattle.c_lexer.specs.Values.{ValuesFit}
use Rattle.c_lexer.proofs.text.lex.Given as goal

-- the tokens so far are those before the place
abbrev pub invariant-loop-at : goal.invariant-loop-at
invariant-loop-at l = record {
  within : l.at ≤ length l.text;
  reads : Reads l.text 0 l.tokens.items l.at;
  values : ValuesFit l.tokens.items;
  count : vec_len l.tokens ≤ l.at;
}

abbrev pub decreases-loop-at : goal.decreases-loop-at
decreases-loop-at l = length l.text - l.at
