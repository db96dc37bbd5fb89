use Rattle.std.proofs.Common.{rules, FitsSigned}
use Rattle.std.proofs.lemmas.Int.{to_z-of_z}
use Rattle.std.specs.Int.{w128}
use Rattle.serde_json.specs.View.{view}
use Rattle.host_table.specs.Entries.{number_in}
use Rattle.host_table.proofs.EachLemmas.{each-more}
use Rattle.host_table.proofs.items.numbers.Goals as goal

pub loop-item-preserved : goal.loop-item-preserved
loop-item-preserved c =
    let fits : FitsSigned w128 c.in-Some-number.number = search rules in
    each-more number_in view c.in-Some.list.now c.loop-item.item-index c.item-item.result c.in-Some-number.number c.loop-item.numbers.items c.push.new.self.items _
    c.loop-item-test.true c.item-item.is c.in-Some-number.ensures (simp to_z-of_z at c.in_ok-push.ensures.items) c.loop-item.invariant
