use Rattle.std.proofs.Common.{refl, sym, ap, ◌∙◌, ◌≡◌, true, Some, is_some}
use Rattle.serde_json.specs.Find.{as_object}
use Rattle.serde_json.specs.View.{view}
use Rattle.host_table.specs.Found.{signatures_in}
use Rattle.host_table.specs.Hosts.{models_by}
use Rattle.host_table.proofs.FoundLemmas.{models_of_table, distinct_numbers_from, none_listed}
use Rattle.host_table.proofs.ModelLemmas.{same_hosts}
use Rattle.host_table.proofs.reading.host_by.Goals as goal

pub from_models-requires : goal.from_models-requires
from_models-requires c = rw c.in_ok-found.ensures.models (distinct_numbers_from (view c.args.table.now) 0 (signatures_in c.args.fns.now))

pub returns : goal.returns
returns c =
    let object : is_some (as_object (view c.args.table.now)) ≡ true = sym c.is_object.ensures ∙ c.if-not-is_object.false in (
      rw object (sym c.in_ok-found.ensures.faults ∙ sym c.as_slice.ensures.value ∙ none_listed _ (sym c.is_empty.ensures ∙ c.if-not-is_empty.false)),
      ap Some (same_hosts _ _ (λ f. sym (ap (λ models. models_by models f) c.in_ok-found.ensures.models ∙ models_of_table (view c.args.table.now) (signatures_in c.args.fns.now) f)) refl ∙ sym c.from_models.ensures),
    )
