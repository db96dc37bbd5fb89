use Rattle.std.proofs.Common.{◌∙◌, rules}
use Rattle.std.proofs.lemmas.List.Sorted.{answers_always}
use Rattle.pt_core.specs.declared.function.CoreFn.{CoreFn}
use Rattle.boot_rules.proofs.CodeLemmas.{function_found, functions_in_order}
use Rattle.boot_rules.proofs.RiseLemmas.{searched}
use Rattle.boot_rules.proofs.code.is_function.Goals as goal

pub returns : goal.returns
returns c =
    let key = λ (g : CoreFn). g.id.0 in
    let order = functions_in_order c.args.candidate.now.boot.now c.args.candidate.now.in_order in
    c.is_ok.ensures.value
    ∙ searched key c.as_slice-functions.result.now c.args.f.0 c.binary_search_by_key.result (rw c.as_slice-functions.ensures.value order) c.binary_search_by_key.ensures.bound
    (c.binary_search_by_key.ensures.position key (answers_always _ _ _ (λ f a r g called. search rules)))
    ∙ rw c.as_slice-functions.ensures.value (function_found c.args.candidate.now.boot.now c.args.f.0)
