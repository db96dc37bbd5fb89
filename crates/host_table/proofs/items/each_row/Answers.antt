use Rattle.std.proofs.Common.{sym, ◌∙◌}
use Rattle.serde_json.specs.View.{view}
use Rattle.host_table.specs.Entries.{row_in}
use Rattle.host_table.proofs.EachLemmas.{each-more}
use Rattle.host_table.proofs.items.each_row.Goals as goal

pub loop-value-preserved : goal.loop-value-preserved
loop-value-preserved c =
    each-more row_in view c.args.list.now c.loop-value.value-index c.value-item.result c.in-Some.row c.loop-value.rows.items c.push.new.self.items _
    c.loop-value-test.true c.value-item.is (sym c.in-Some.is ∙ c.in_ok-row.ensures) c.in_ok-push.ensures.items c.loop-value.invariant
