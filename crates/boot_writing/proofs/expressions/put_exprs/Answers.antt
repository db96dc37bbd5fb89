use Rattle.std.proofs.Common.{◌≡◌, ◌++◌, map, subst}
use Rattle.std.specs.Prelude.{OnOk}
use Rattle.pt_core.specs.CodeTree.{view_expr}
use Rattle.boot_writing.proofs.TreeLists.{exprs_spelled, exprs_fit, if_ok}
use Rattle.boot_writing.proofs.expressions.put_exprs.Goals as goal

pub returns-clause-bytes : goal.returns-clause-bytes
returns-clause-bytes c =
    subst (λ b. OnOk c.put_list.result (c.put_list.new.out.items ≡ c.args.out.now.items ++ b)) (exprs_spelled (map view_expr c.args.exprs.now)) c.put_list.ensures.bytes

pub returns-clause-fits : goal.returns-clause-fits
returns-clause-fits c = if_ok c.put_list.result (exprs_fit (map view_expr c.args.exprs.now)) c.put_list.ensures.fits
