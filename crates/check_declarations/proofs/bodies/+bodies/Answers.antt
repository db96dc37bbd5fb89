use Rattle.std.proofs.Common.{◌≡◌, ◌∙◌, ap, sym, subst, ◌++◌, ◌∷◌, [], nat_eq, length, false, arith}
use Rattle.check_declarations.specs.Gives.{GivesNamed}
use Rattle.check_declarations.specs.Specifiers as is
use Rattle.check_declarations.proofs.BodiesLemmas.{named_is, named_with_body, after_faults}
use Rattle.check_declarations.proofs.bodies.+bodies.Goals as goal

pub add_named-returns-in_ok-push-in-Struct : goal.add_named-returns-in_ok-push-in-Struct
add_named-returns-in_ok-push-in-Struct t c =
    let given = c.in_ok-ty-in-Struct.ensures in
    let named = named_is c.args.at_file c.args.first c.args.findings.now.structs c.args.spec.now c.in-Struct.field-0 c.in-Struct.tag c.in-Struct.body c.deref.result.now c.in-Struct.is c.deref.ensures.value in
    (c.in_ok-push-in-Struct.ensures.items ∙ ap (λ xs. c.args.types.now.items ++ xs) (given.0 ∙ ap (λ n. n.types) named), record { structs_are = given.1.structs_are ∙ ap (λ n. n.structs) named; faults_are = given.1.faults_are ∙ ap (λ n. c.args.findings.now.faults.items ++ n.faults) named })

pub structure-returns : goal.structure-returns
structure-returns t c =
    let some : nat_eq (length c.args.body.now) 0 ≡ false = grind arith in
    let before = c.args.findings.now in
    let middle = c.fields_of.new.findings in
    let fields = c.in_ok-fields.ensures in
    let defined = is.defined c.args.at_file c.args.first c.args.tag.now middle.structs c.in_ok-fields.fields in
    subst (λ n. GivesNamed c.define.result before c.define.new.findings n) (sym (named_with_body c.args.at_file c.args.first before.structs middle.structs c.args.tag.now c.args.body.now c.in_ok-fields.fields some fields.1.structs_are fields.0))
    (after_faults c.define.result before middle c.define.new.findings defined _ fields.1.faults_are c.define.ensures)
