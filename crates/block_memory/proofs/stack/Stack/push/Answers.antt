use Rattle.std.proofs.Common.{◌∙◌, ◌++◌, ◌∷◌, [], ap, append-nil, length, pos, replicate, sym}
use Rattle.pt_base.proofs.Results.{on_err_of}
use Rattle.block_memory.specs.declared.cell.Cell.TheVariants.{Int, Ptr}
use Rattle.block_memory.specs.declared.cell.Pointer.TheVariants.{Null}
use Rattle.block_memory.specs.declared.shape.BlockShape.TheVariants.{Ints}
use Rattle.block_memory.specs.Block.{fresh}
use Rattle.block_memory.proofs.StackLemmas.{IsStack-grown, stacked-begun, stacked-grown}
use Rattle.block_memory.proofs.stack.Stack.push.Goals as goal

pub invariant_of-self-in-Continue-branch-2 : goal.invariant_of-self-in-Continue-branch-2
invariant_of-self-in-Continue-branch-2 c =
    IsStack-grown _ _ _ _ _ _ [] (Ptr Null ∷ []) _
    (record {
      starts-are = c.in_ok-push.ensures.items;
      types-from = c.len.ensures ∙ c.self.inside.types.ok.0;
      cells-from = c.len-2.ensures ∙ c.self.inside.cells.ok.0;
      types-are = sym (append-nil _);
      cells-are = c.in_ok-push-in-OnePointer.ensures.items;
    })
    c.self.invariant

pub invariant_of-self-in_err-push-in-OnePointer : goal.invariant_of-self-in_err-push-in-OnePointer
invariant_of-self-in_err-push-in-OnePointer c =
    IsStack-grown _ _ _ _ _ _ [] [] _
    (record {
      starts-are = c.in_ok-push.ensures.items;
      types-from = c.len.ensures ∙ c.self.inside.types.ok.0;
      cells-from = c.len-2.ensures ∙ c.self.inside.cells.ok.0;
      types-are = sym (append-nil _);
      cells-are = c.in_err-push-in-OnePointer.ensures.items ∙ sym (append-nil _);
    })
    c.self.invariant

pub invariant_of-self-in_err-add_types-in-Ints : goal.invariant_of-self-in_err-add_types-in-Ints
invariant_of-self-in_err-add_types-in-Ints c =
    IsStack-grown _ _ _ _ _ _ [] [] _
    (record {
      starts-are = c.in_ok-push.ensures.items;
      types-from = c.len.ensures ∙ c.self.inside.types.ok.0;
      cells-from = c.len-2.ensures ∙ c.self.inside.cells.ok.0;
      types-are = c.in_err-add_types-in-Ints.ensures.err ∙ sym (append-nil _);
      cells-are = sym (append-nil _);
    })
    c.self.invariant

pub invariant_of-self-in-Continue-branch-4 : goal.invariant_of-self-in-Continue-branch-4
invariant_of-self-in-Continue-branch-4 c =
    IsStack-grown _ _ _ _ _ _ c.as_slice-types.result.now (replicate (length c.as_slice-types.result.now) (Int (pos 0))) _
    (record {
      starts-are = c.in_ok-push.ensures.items;
      types-from = c.len.ensures ∙ c.self.inside.types.ok.0;
      cells-from = c.len-2.ensures ∙ c.self.inside.cells.ok.0;
      types-are = c.in_ok-add_types-in-Ints.ensures.ok;
      cells-are = c.in_ok-add_zeros-in-Ints.ensures.ok;
    })
    c.self.invariant

pub invariant_of-self-in_err-add_zeros-in-Ints : goal.invariant_of-self-in_err-add_zeros-in-Ints
invariant_of-self-in_err-add_zeros-in-Ints c =
    IsStack-grown _ _ _ _ _ _ c.as_slice-types.result.now [] _
    (record {
      starts-are = c.in_ok-push.ensures.items;
      types-from = c.len.ensures ∙ c.self.inside.types.ok.0;
      cells-from = c.len-2.ensures ∙ c.self.inside.cells.ok.0;
      types-are = c.in_ok-add_types-in-Ints.ensures.ok;
      cells-are = c.in_err-add_zeros-in-Ints.ensures.err ∙ sym (append-nil _);
    })
    c.self.invariant

pub returns-in_ok-push-in-OnePointer-clause-ok : goal.returns-in_ok-push-in-OnePointer-clause-ok
returns-in_ok-push-in-OnePointer-clause-ok c =
    stacked-grown _ _ _ _ _ _ [] (Ptr Null ∷ []) _ _
    (record {
      starts-are = c.in_ok-push.ensures.items;
      types-from = c.len.ensures ∙ c.self.inside.types.ok.0;
      cells-from = c.len-2.ensures ∙ c.self.inside.cells.ok.0;
      types-are = sym (append-nil _);
      cells-are = c.in_ok-push-in-OnePointer.ensures.items;
    })
    c.self.invariant c.self.view_is
    ∙ ap (λ shape. c.args.self.now ++ fresh shape ∷ []) (sym c.in-OnePointer.is)

pub returns-in_ok-add_zeros-in-Ints-clause-ok : goal.returns-in_ok-add_zeros-in-Ints-clause-ok
returns-in_ok-add_zeros-in-Ints-clause-ok c =
    stacked-grown _ _ _ _ _ _ c.as_slice-types.result.now (replicate (length c.as_slice-types.result.now) (Int (pos 0))) _ _
    (record {
      starts-are = c.in_ok-push.ensures.items;
      types-from = c.len.ensures ∙ c.self.inside.types.ok.0;
      cells-from = c.len-2.ensures ∙ c.self.inside.cells.ok.0;
      types-are = c.in_ok-add_types-in-Ints.ensures.ok;
      cells-are = c.in_ok-add_zeros-in-Ints.ensures.ok;
    })
    c.self.invariant c.self.view_is
    ∙ ap (λ types. c.args.self.now ++ fresh (Ints types) ∷ []) c.as_slice-types.ensures
    ∙ ap (λ shape. c.args.self.now ++ fresh shape ∷ []) (sym c.in-Ints.is)

pub returns-in_err-push-in-OnePointer-clause-err : goal.returns-in_err-push-in-OnePointer-clause-err
returns-in_err-push-in-OnePointer-clause-err c =
    on_err_of _ (
    stacked-begun _ _ _ _ _ _ [] [] _ _
    (record {
      starts-are = c.in_ok-push.ensures.items;
      types-from = c.len.ensures ∙ c.self.inside.types.ok.0;
      cells-from = c.len-2.ensures ∙ c.self.inside.cells.ok.0;
      types-are = sym (append-nil _);
      cells-are = c.in_err-push-in-OnePointer.ensures.items ∙ sym (append-nil _);
    })
    c.self.invariant c.self.view_is
    )

pub returns-in_err-add_types-in-Ints-clause-err : goal.returns-in_err-add_types-in-Ints-clause-err
returns-in_err-add_types-in-Ints-clause-err c =
    on_err_of _ (
    stacked-begun _ _ _ _ _ _ [] [] _ _
    (record {
      starts-are = c.in_ok-push.ensures.items;
      types-from = c.len.ensures ∙ c.self.inside.types.ok.0;
      cells-from = c.len-2.ensures ∙ c.self.inside.cells.ok.0;
      types-are = c.in_err-add_types-in-Ints.ensures.err ∙ sym (append-nil _);
      cells-are = sym (append-nil _);
    })
    c.self.invariant c.self.view_is
    )

pub returns-in_err-add_zeros-in-Ints-clause-err : goal.returns-in_err-add_zeros-in-Ints-clause-err
returns-in_err-add_zeros-in-Ints-clause-err c =
    on_err_of _ (
    stacked-begun _ _ _ _ _ _ c.as_slice-types.result.now [] _ _
    (record {
      starts-are = c.in_ok-push.ensures.items;
      types-from = c.len.ensures ∙ c.self.inside.types.ok.0;
      cells-from = c.len-2.ensures ∙ c.self.inside.cells.ok.0;
      types-are = c.in_ok-add_types-in-Ints.ensures.ok;
      cells-are = c.in_err-add_zeros-in-Ints.ensures.err ∙ sym (append-nil _);
    })
    c.self.invariant c.self.view_is
    )
