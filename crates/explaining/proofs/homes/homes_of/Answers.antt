use Rattle.std.proofs.Common.{◌↔◌, ◌∙◌, List, ap, map, subst}
use Rattle.std.specs.List.{Contains}
use Rattle.typed_tree.specs.declared.function.TypedFn.{TypedFn}
use Rattle.typed_tree.specs.TypedTree.{view_function}
use Rattle.explaining.specs.declared.homes.Home.{Home}
use Rattle.explaining.specs.Homes.{homes_from}
use Rattle.explaining.proofs.homes.homes_of.Goals as goal

pub returns : goal.returns
returns c =
    let is = c.in_ok-homes.ensures ∙ ap (λ (fs : List TypedFn). homes_from 0 (map view_function fs)) c.as_slice.ensures.value in record {
      sorted = c.arrange.ensures.sorted;
      same = λ x. subst (λ (homes : List Home). Contains c.arrange.new.homes.items x ↔ Contains homes x) is (c.arrange.ensures.same x);
    }
