use Rattle.std.proofs.Common.{◌≡◌, ◌∷◌, ℕ, List, Err, refl, rules, subst, sym}
use Rattle.host_table.specs.Hosts.{hosts_of}
use Rattle.typed_tree.specs.TypedView.{view_typed}
use Rattle.stages.specs.Climb.{flows, hosts, rules as lines}
use Rattle.stages.specs.Seen.{IsStop}
use Rattle.explaining.specs.Explains.{HasHoldings}
use Rattle.pair_explaining.specs.PairSeen.{view_given}
use Rattle.pair_explaining.proofs.Told.{memory_stops}
use Rattle.pair_explaining.proofs.explanations.explain_pair.Goals as goal

pub returns-in_err-passed : goal.returns-in_err-passed
returns-in_err-passed g c = λ ss t are.
    let is : c.from_residual.result ≡ Err c.in_err-passed.field-0.0 = search rules in
    rw is (c.in_err-passed.ensures.stop ss t are)

pub holding_lines-requires : goal.holding_lines-requires
holding_lines-requires g c = (c.in_ok-passed.ensures.passed (view_given c.args.given) (record { program = refl; host = refl; policy = refl })).accepted

pub returns-in_err-lines : goal.returns-in_err-lines
returns-in_err-lines g c = λ ss t are.
    let wants = c.from_residual-in_err-lines.ensures in
    memory_stops _ (IsStop (hosts ∷ lines ∷ flows ∷ ss) t) c.from_residual-in_err-lines.result wants.0 wants.1 tt

pub returns : goal.returns
returns g c = λ ss t are.
    let tree = view_typed c.in_ok-passed.passed.program in
    let have = c.in_ok-passed.ensures.passed t are in (
      tree,
      (have.tree, ((hosts_of c.in_ok-passed.passed.hosts, have.given), ((c.in_ok-passed.passed.policy.rules, have.rules), tt {0}))),
      subst (λ (xs : List ℕ). HasHoldings c.args.name.now xs tree c.in_ok-lines.lines.items) (sym are.program) c.in_ok-lines.ensures,
    )
