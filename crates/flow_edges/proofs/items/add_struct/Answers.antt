use Rattle.std.proofs.Common.{arith}
use Rattle.flow_edges.proofs.PartLemmas.{no_depth, struct_left}
use Rattle.flow_edges.proofs.items.add_struct.Goals as goal

pub returns-then-depth-eq0 : goal.returns-then-depth-eq0
returns-then-depth-eq0 c = λ structs zs. no_depth structs c.args.parts.now.items zs c.args.depth c.args.start c.args.structure (grind arith)

pub returns : goal.returns
returns c = λ structs zs. struct_left structs _ _ zs c.args.depth c.args.start c.args.structure (grind arith) c.in_ok-push.ensures.items
