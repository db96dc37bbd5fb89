use Rattle.typed_tree.specs.TypedView.{view_typed}
use Rattle.pair_texts.proofs.sharing.halved.Goals as goal

pub returns : goal.returns
returns g c = λ t have. record {
  tree = view_typed c.args.passed.program;
  accepted = c.args.passed.accepted;
  has = have.tree;
  well_formed = c.args.passed.program.well_formed;
  given = have.given;
  fit = have.fit;
  rules = have.rules;
  begins = have.begins;
  is = have.accepted;
  slave_is = c.in_ok-slave.ensures.0;
  monitor_is = c.in_ok-slave.ensures.1;
  names_are = c.in_ok-names.ensures;
}
