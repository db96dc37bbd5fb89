use Rattle.std.proofs.Common.{◌≡◌, ◌∷◌, Err, refl, rules}
use Rattle.typed_tree.specs.TypedView.{view_typed}
use Rattle.stages.specs.Climb.{flows, hosts, rules as lines}
use Rattle.stages.proofs.RungLemmas.{halted, halted_behind, has_tree, have_passed, passes_hosts, passes_rules}
use Rattle.stages.proofs.climbs.passed.Goals as goal

pub returns-in_err-program-clause-stop : goal.returns-in_err-program-clause-stop
returns-in_err-program-clause-stop g c = λ ss t are.
    let is : c.from_residual.result ≡ Err c.in_err-program.field-0.0 = search rules in
    rw is (c.in_err-program.ensures.stop (hosts ∷ lines ∷ flows ∷ ss) t are.program)

pub returns-in_err-program-2-clause-stop : goal.returns-in_err-program-2-clause-stop
returns-in_err-program-2-clause-stop g c = λ ss t are.
    let is : c.from_residual-in_err-program-2.result ≡ Err c.in_err-program-2.field-0.0 = search rules in
    let read = c.in_ok-program.program in
    rw is (halted (hosts ∷ lines ∷ flows ∷ ss) t (view_typed read) c.in_err-program-2.field-0.0 (has_tree t c.args.given are read c.in_ok-program.ensures.tree read refl)
    (c.in_err-program-2.ensures.stop (lines ∷ flows ∷ ss) t are.host))

pub returns-in_err-policy-clause-stop : goal.returns-in_err-policy-clause-stop
returns-in_err-policy-clause-stop g c = λ ss t are.
    let is : c.from_residual-in_err-policy.result ≡ Err c.in_err-policy.field-0.0 = search rules in
    let read = c.in_ok-program.program in
    let p = c.in_ok-program-2.field-0.program in
    rw is (halted (hosts ∷ lines ∷ flows ∷ ss) t (view_typed p) c.in_err-policy.field-0.0 (has_tree t c.args.given are read c.in_ok-program.ensures.tree p c.in_ok-program-2.ensures.program)
    (halted_behind hosts (lines ∷ flows ∷ ss) t (view_typed p) c.in_err-policy.field-0.0
    (passes_hosts t c.args.given are read c.in_ok-program.ensures.tree p c.in_ok-program-2.field-0.hosts c.in_ok-program-2.ensures.given) (c.in_err-policy.ensures.stop (flows ∷ ss) t are.policy)))

pub returns-in_err-program-3-clause-stop : goal.returns-in_err-program-3-clause-stop
returns-in_err-program-3-clause-stop g c = λ ss t are.
    let is : c.from_residual-in_err-program-3.result ≡ Err c.in_err-program-3.field-0.0 = search rules in
    let read = c.in_ok-program.program in
    let p = c.in_ok-program-2.field-0.program in
    rw is (halted (hosts ∷ lines ∷ flows ∷ ss) t (view_typed p) c.in_err-program-3.field-0.0 (has_tree t c.args.given are read c.in_ok-program.ensures.tree p c.in_ok-program-2.ensures.program)
    (halted_behind hosts (lines ∷ flows ∷ ss) t (view_typed p) c.in_err-program-3.field-0.0
    (passes_hosts t c.args.given are read c.in_ok-program.ensures.tree p c.in_ok-program-2.field-0.hosts c.in_ok-program-2.ensures.given)
    (halted_behind lines (flows ∷ ss) t (view_typed p) c.in_err-program-3.field-0.0 (passes_rules t c.args.given are read c.in_ok-program.ensures.tree p c.in_ok-policy.policy c.in_ok-policy.ensures.rules)
    (c.in_err-program-3.ensures.stop ss t))))

pub returns-clause-passed : goal.returns-clause-passed
returns-clause-passed g c = λ t are.
    have_passed t c.args.given are c.in_ok-program.program c.in_ok-program.ensures.tree _ _ _ _ _
    c.in_ok-program-2.ensures.program c.in_ok-program-2.ensures.given c.in_ok-program-2.ensures.fit c.in_ok-policy.ensures.rules c.in_ok-policy.ensures.start c.in_ok-program-3.ensures.program c.in_ok-program-3.ensures.accepted
