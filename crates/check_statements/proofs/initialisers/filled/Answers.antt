-- As many leaves as there are items suffice.
use Rattle.std.proofs.Common.{map, arith}
use Rattle.std.proofs.lemmas.List.{length-map}
use Rattle.pt_tree.specs.ExpressionTree.{view_expr}
use Rattle.check_statements.specs.Gives.{progress_of, state_of}
use Rattle.check_statements.proofs.ItemLemmas.{lists_alike}
use Rattle.check_statements.proofs.initialisers.filled.Goals as goal

pub returns : goal.returns
returns c =
    let before = progress_of c.args.names.now c.args.walk.now in
    let after = progress_of c.args.names.now c.items.new.walk in
    let st = state_of c.args.names.now c.args.walk.now in
    lists_alike c.items.result before after st (map view_expr c.args.es.now) _ c.deref.result.now _ _ c.is_sound.result _ c.items.ensures (grind arith) (grind arith) (grind (arith, length-map)) c.in_ok-leaves.ensures
