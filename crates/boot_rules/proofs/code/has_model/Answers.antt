use Rattle.std.proofs.Common.{◌∙◌, ℕ, rules}
use Rattle.std.proofs.lemmas.List.Sorted.{answers_always}
use Rattle.pt_base.specs.declared.ids.FnId.{FnId}
use Rattle.pt_tree.specs.declared.host_model.HostModel.{HostModel}
use Rattle.boot_rules.proofs.CodeLemmas.{host_found, hosts_in_order}
use Rattle.boot_rules.proofs.RiseLemmas.{searched}
use Rattle.boot_rules.proofs.code.has_model.Goals as goal

pub returns : goal.returns
returns c =
    let key : FnId × HostModel → ℕ = λ h. h.0.0 in
    let order = hosts_in_order c.args.candidate.now.boot.now c.args.candidate.now.in_order in
    c.is_ok.ensures.value
    ∙ searched key c.as_slice-hosts.result.now c.args.f.0 c.binary_search_by_key.result (rw c.as_slice-hosts.ensures order) c.binary_search_by_key.ensures.bound
    (c.binary_search_by_key.ensures.position key (answers_always _ _ _ (λ f a r g called. search rules)))
    ∙ rw c.as_slice-hosts.ensures (host_found c.args.candidate.now.boot.now c.args.f.0)
