use Rattle.std.proofs.Common.{ap, ◌∙◌, cond, None, nat_cmp}
use Rattle.std.specs.BTreeSet.{contains}
use Rattle.host_table.specs.Hosts.{Hosts, hosts_of, part_of, models_by, is_listed}
use Rattle.host_table.proofs.ModelLemmas.{same_hosts, distinct_from_sorted, distinct_numbers-filter, models_by-filter}
use Rattle.host_table.proofs.host.Host.part.Goals as goal

pub from_models-part-requires : goal.from_models-part-requires
from_models-part-requires c =
    rw (c.in_ok-models.ensures, c.as_slice.ensures.value) (distinct_numbers-filter (contains nat_cmp c.in_ok-listed.listed) _ (distinct_from_sorted _ c.args.self.now.ordered))

pub returns : goal.returns
unfolding hosts_of
returns c =
    same_hosts (hosts_of c.give.new.self) (part_of (hosts_of c.args.self.now) c.args.of.now)
    (λ f. ap (λ (h : Hosts). h.models f) (c.in_ok-give.ensures.ok ∙ ap (λ (h : Hosts). record h { input = c.as_slice-2.result.now }) c.from_models-part.ensures)
    ∙ ap (λ models. models_by models f) c.in_ok-models.ensures ∙ models_by-filter (contains nat_cmp c.in_ok-listed.listed) _ f
    ∙ ap (λ b. cond b (models_by c.as_slice.result.now f) None) (c.in_ok-listed.ensures f)
    ∙ ap (λ models. cond (is_listed c.args.of.now f) (models_by models f) None) c.as_slice.ensures.value)
    (ap (λ (h : Hosts). h.input) c.in_ok-give.ensures.ok ∙ c.as_slice-2.ensures.value)
