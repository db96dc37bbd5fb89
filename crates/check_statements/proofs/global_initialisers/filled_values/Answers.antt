-- As many leaves as there are items suffice.
use Rattle.std.proofs.Common.{map, arith}
use Rattle.std.proofs.lemmas.List.{length-map}
use Rattle.pt_tree.specs.ExpressionTree.{view_expr}
use Rattle.check_expressions.specs.EnvOf.{env_of}
use Rattle.check_statements.proofs.GlobalItemLemmas.{globals_alike}
use Rattle.check_statements.proofs.global_initialisers.filled_values.Goals as goal

pub returns : goal.returns
returns c =
    globals_alike c.item_values.result c.args.findings.now c.item_values.new.findings (env_of c.args.names.now) c.args.findings.now.structs (map view_expr c.args.es.now) _ c.deref.result.now _ _ c.is_sound.result _ c.item_values.ensures (grind arith) (grind arith) (grind (arith, length-map)) c.in_ok-leaves.ensures
