use Rattle.std.proofs.Common.{sym, ◌∙◌, nat_eq}
use Rattle.std.proofs.lemmas.Cmp.{nat_eq_equiv}
use Rattle.std.proofs.lemmas.List.Folds.{list_any_more}
use Rattle.pt_base.specs.declared.ids.FnId.{FnId}
use Rattle.pt_base.proofs.Orders.{nat_eq_is_cmp}
use Rattle.host_table.proofs.ModelLemmas.{listed_more}
use Rattle.host_table.proofs.part.numbers_of.Goals as goal

pub loop-f-preserved : goal.loop-f-preserved
loop-f-preserved c = λ n.
    listed_more _ _ _ _ _ (c.in_ok-insert.ensures.updates.0 n) (sym (nat_eq_is_cmp _ n) ∙ nat_eq_equiv.symm _ n) (c.loop-f.invariant n)
    ∙ sym (list_any_more (λ (f : FnId). nat_eq n f.0) c.args.fns.now c.loop-f.f-index (record { 0 = 0 }) c.loop-f-test.true)
