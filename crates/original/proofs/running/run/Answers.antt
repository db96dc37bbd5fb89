use Rattle.std.proofs.Common.{◌≡◌, [], ◌∷◌, Err, refl, rules}
use Rattle.typed_tree.specs.TypedView.{view_typed}
use Rattle.stages.specs.Climb.{hosts, inputs}
use Rattle.original.specs.Original.{original_texts}
use Rattle.original.proofs.Parts.{behind_tree}
use Rattle.original.proofs.running.run.Goals as goal

pub returns-in_err-program : goal.returns-in_err-program
returns-in_err-program g c =
    let is : c.from_residual.result ≡ Err c.in_err-program.field-0.0 = search rules in
    rw is (c.in_err-program.ensures.stop (hosts ∷ inputs ∷ []) (original_texts c.args.program.now c.args.host.now c.args.input.now) refl)

pub returns : goal.returns
returns g c =
    let t = original_texts c.args.program.now c.args.host.now c.args.input.now in
    let has = c.in_ok-program.ensures.tree in
    behind_tree c.args.turns t (view_typed c.in_ok-program.program) c.with_table.result has (c.with_table.ensures t has refl refl)
