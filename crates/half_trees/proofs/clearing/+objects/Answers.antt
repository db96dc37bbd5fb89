use Rattle.std.proofs.Common.{◌≡◌, ℕ, suc, ◌+◌, ◌-◌, ◌<◌, ◌∷◌, ◌++◌, ◌∙◌, [], List, ap, sym, subst, map, drop, get_or, take, add-one, drop-cons}
use Rattle.std.specs.Result.{OnOk}
use Rattle.std.specs.List.{flat_map, range_with_len}
use Rattle.pt_base.proofs.Lists.{as_append_nil}
use Rattle.pt_base.proofs.Members.{range_first}
use Rattle.pt_tree.specs.StatementTree.{StmtTree, view_stmt}
use Rattle.pt_tree.specs.ExpressionTree.{dot}
use Rattle.typed_tree.specs.declared.types.Field.{Field}
use Rattle.half_trees.specs.Names.{nowhere, word, field_by}
use Rattle.half_trees.specs.Clearing.{cleared_behind, steps, step, element_below, object_below, struct_at}
use Rattle.half_trees.specs.Leaves.{Leaf, behind, element, field_leaves, leaves_from, object_leaves}
use Rattle.half_trees.specs.declared.step.Step.TheVariants as s
use Rattle.half_trees.proofs.ClearingLemmas.{part_more, steps_more, struct_is, struct_is_none}
use Rattle.half_trees.proofs.clearing.+objects.Goals as goal

pub clear_element-returns-then-n-below : goal.clear_element-returns-then-n-below
clear_element-returns-then-n-below t c =
    let is = ap (element_below c.args.structs.now c.args.below) c.in-Struct.is ∙ struct_is c.args.structs.now c.args.below c.in-Struct.n c.if-n-below.true c.requires in
    subst (λ ls. OnOk c.clear_struct.result (map view_stmt c.clear_struct.new.out.items ≡ map view_stmt c.args.out.now.items ++ cleared_behind c.args.v (steps c.args.structs.now c.args.path.now) ls)) (sym is) c.clear_struct.ensures

pub clear_element-returns-else-n-below : goal.clear_element-returns-else-n-below
clear_element-returns-else-n-below t c =
    let is = ap (element_below c.args.structs.now c.args.below) c.in-Struct.is ∙ struct_is_none c.args.structs.now c.args.below c.in-Struct.n c.if-n-below.false c.requires in
    as_append_nil (map view_stmt c.args.out.now.items)
    ∙ ap (λ ls. map view_stmt c.args.out.now.items ++ cleared_behind c.args.v (steps c.args.structs.now c.args.path.now) ls) (sym is)

pub clear_struct-loop-k-preserved : goal.clear_struct-loop-k-preserved
clear_struct-loop-k-preserved t c =
    let structs = c.args.structs.now in
    let fields = c.fields_of-fields.result.now in
    let k = c.loop-k.k in
    let f : Field = get_or fields k c.index-fields-k.result in
    let known : List (List Leaf) = leaves_from [] (take c.args.n structs) in
    let path : Leaf = steps structs c.args.path.now in
    let all : List StmtTree = map view_stmt c.args.out.now.items ++ cleared_behind c.args.v path (struct_at structs c.args.n) in
    let now : List StmtTree = map view_stmt c.clear_object.new.out.items in
    let before : List StmtTree = map view_stmt c.loop-k.out.items in
    let rest : List Leaf = field_leaves known fields (suc k) (drop (suc k) fields) in
    let front : drop k fields ≡ f ∷ drop (suc k) fields = drop-cons fields k c.index-fields-k.result c.loop-k-test.true in
    let whole = ap (λ fs. before ++ cleared_behind c.args.v path (behind (dot nowhere (word (field_by fs k))) (object_leaves known f.ty) ++ rest)) (sym c.fields_of-fields.ensures)
    ∙ ap (λ fs. before ++ cleared_behind c.args.v path (field_leaves known fields k fs)) (sym front) ∙ c.loop-k.invariant in
    let more = part_more c.args.v path (steps structs c.deref.result.now) (step structs (s.Field c.args.n k)) (object_leaves known f.ty) rest before now all
    (steps_more structs c.args.path.now c.deref.result.now (s.Field c.args.n k) (c.deref.ensures.value ∙ c.in_ok-inner.ensures)) c.in_ok-clear_object.ensures whole in
    subst (λ m. now ++ cleared_behind c.args.v path (field_leaves known fields m (drop m fields)) ≡ all) (sym (add-one k)) more

pub clear_object-loop-n-preserved : goal.clear_object-loop-n-preserved
clear_object-loop-n-preserved t c =
    let structs = c.args.structs.now in
    let n = c.loop-n.n in
    let count = c.in-Array.count in
    let part : List Leaf = element_below structs c.args.below c.in-Array.elem in
    let leaves : ℕ → List Leaf = λ m. behind (element m) part in
    let path : Leaf = steps structs c.args.path.now in
    let all : List StmtTree = map view_stmt c.args.out.now.items ++ cleared_behind c.args.v path (flat_map leaves (range_with_len 0 count)) in
    let before : List StmtTree = map view_stmt c.loop-n.out.items in
    let now : List StmtTree = map view_stmt c.clear_element-in-loop-n.new.out.items in
    let rest : List Leaf = flat_map leaves (range_with_len (n + 1) (count - (n + 1))) in
    let whole = ap (λ ns. before ++ cleared_behind c.args.v path (flat_map leaves ns)) (sym (range_first n count c.loop-n-test.true)) ∙ c.loop-n.invariant in
    part_more c.args.v path (steps structs c.deref.result.now) (element n) part rest before now all
    (steps_more structs c.args.path.now c.deref.result.now (s.Element n) (c.deref.ensures.value ∙ c.in_ok-inner-in-Array.ensures)) c.in_ok-clear_element-in-Array.ensures whole
