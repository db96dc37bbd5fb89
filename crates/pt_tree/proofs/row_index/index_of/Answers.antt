use Rattle.std.proofs.Common.{arith, rules, refl, ◌≡◌, ◌+◌, ◌-◌, ◌∙◌, FitsSigned}
use Rattle.std.specs.Int.{w128}
use Rattle.std.proofs.lemmas.Int.{to_z-of_z}
use Rattle.pt_tree.proofs.RowIndexLemmas.{index_step}
use Rattle.pt_tree.proofs.row_index.index_of.Goals as goal

pub loop-at-preserved : goal.loop-at-preserved
loop-at-preserved c =
    let next : c.loop-at.at ≡ c.loop-at.at - 1 + 1 = omega arith in
    let fits : FitsSigned w128 c.index-rows-at.result.result = search rules in
    record {
      within = omega arith;
      results = index_step _ (λ a b. refl) c.loop-at.index.entries c.insert.new.self.entries c.args.rows.now c.loop-at.at (c.loop-at.at - 1) c.index-rows-at.result c.in_ok-args.args _
          c.loop-at.invariant.results next (omega arith) c.index-rows-at.is (c.in_ok-args.ensures.items ∙ c.as_slice.ensures) (simp to_z-of_z) c.in_ok-insert.ensures.entries;
    }
