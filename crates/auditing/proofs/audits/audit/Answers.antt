use Rattle.std.proofs.Common.{◌≡◌, [], Err, refl, rules}
use Rattle.typed_tree.specs.TypedView.{view_typed}
use Rattle.stages.specs.Climb.{alone}
use Rattle.auditing.proofs.audits.audit.Goals as goal

pub returns-in_err-judged : goal.returns-in_err-judged
returns-in_err-judged g c =
    let is : c.from_residual.result ≡ Err c.in_err-judged.field-0.0 = search rules in
    rw is (c.in_err-judged.ensures.stop [] (alone c.args.program.now) refl)

pub returns : goal.returns
returns g c = record {
  tree = view_typed c.in_ok-judged.judged.program;
  typed = c.in_ok-judged.ensures.tree;
  accepted = c.in_ok-judged.judged.accepted;
  is = c.in_ok-judged.ensures.accepted;
  audit = c.in_ok-written.ensures;
}
