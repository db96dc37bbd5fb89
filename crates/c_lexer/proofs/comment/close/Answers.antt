use Rattle.std.proofs.Common.{◌+◌, drop, sym, ap, ◌∙◌, arith, length-drop}
use Rattle.std.specs.Option.{option_map}
use Rattle.c_lexer.proofs.CommentLemmas.{close_none}
use Rattle.c_lexer.proofs.comment.close.Goals as goal

-- one byte is left at most
pub returns-clause-found : goal.returns-clause-found
returns-clause-found c =
    let none = close_none (drop c.loop-at.at c.args.rest.now) (simp length-drop (omega arith)) in
    ap (option_map (λ n. c.loop-at.at + n)) (sym none) ∙ c.loop-at.invariant.found
