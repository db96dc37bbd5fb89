use Rattle.std.proofs.Common.{◌∙◌, arith, sym}
use Rattle.std.proofs.lemmas.List.{take_rest}
use Rattle.pt_core.specs.CodeTree.{FunctionTree, view_boot}
use Rattle.pt_core.specs.WellFormed.{boot_program, is_main_by, signature_at}
use Rattle.boot_rules.proofs.StartLemmas.{first_main}
use Rattle.boot_rules.proofs.start.has_main.Goals as goal

pub returns-then-may_start : goal.returns-then-may_start
returns-then-may_start c =
    let p = boot_program (view_boot c.args.candidate.now.boot.now) in
    first_main p (λ (f : FunctionTree). is_main_by (signature_at p f.id)) c.loop-rest.rest.now _ c.function-item.result c.may_start.result c.any_main.result _ (take_rest c.loop-rest.rest.now 1) (omega (arith, c.in-len1-up.len_at_least)) c.function-item.is
    (sym c.is_main_number.ensures ∙ c.if-is_main_number.true) c.may_start.ensures c.if-may_start.true c.any_main.ensures c.loop-rest.invariant
