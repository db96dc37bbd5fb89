use Rattle.typed_tree.specs.TypedView.{view_typed}
use Rattle.lowering_threads.proofs.CodeLemmas.{code_added}
use Rattle.lowering_threads.proofs.code.add_code.Goals as goal

pub returns : goal.returns
returns c = code_added (view_typed c.args.t.now) c.args.f _ _ c.in_ok-lowered.lowered c.requires c.in_ok-lowered.ensures c.in_ok-push.ensures.items
