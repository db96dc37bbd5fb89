-- The code of a function names no more than its body.
use Rattle.std.proofs.Common.{◌≡◌, ◌∙◌, ℕ, ap, subst, Bool, true, false, Option, Some, [], ◌∷◌, ◌++◌, length, if◌then◌else◌}
use Rattle.std.specs.Prelude.{pos, option_and_then}
use Rattle.pt_base.specs.declared.ids.FnId.{FnId}
use Rattle.pt_base.specs.declared.ids.GlobalId.{GlobalId}
use Rattle.pt_base.specs.declared.int_type.IntType.TheVariants as i
use Rattle.pt_tree.specs.declared.signature.Signature.{Signature}
use Rattle.typed_tree.specs.StatementTree.{BodyTree}
use Rattle.typed_tree.specs.TypedTree.{TypedTree, FunctionTree}
use Rattle.typed_tree.specs.Parts.{function_parts, parts_of}
use Rattle.typed_tree.specs.Lookup.{function_at, parts_in}
use Rattle.typed_tree.specs.WellFormedExpression.{is_main}
use Rattle.pt_core.specs.CodeTree.{constant, give_back}
use Rattle.lowering.specs.Functions.{code_of, core_of, lowered_body, main_end}
use Rattle.lowering.specs.Statements.{nowhere}
use Rattle.reach.proofs.ListLemmas.{contains_map}
use Rattle.lowered_code_law.specs.NamesLaws.{LoweredNames}
use Rattle.lowered_code_law.proofs.NamesNaming.{Allowed, PartsName, AreWithin, StmtsWithin}
use Rattle.lowered_code_law.proofs.NamesUsages.{named_by, parts_name}
use Rattle.lowered_code_law.proofs.NamesForms.{both_within, trees_within}
use Rattle.lowered_code_law.proofs.NamesStatements.{statement_within}
use Rattle.lowered_code_law.proofs.NamesListed.{globals_listed, callees_listed}

end_within : (w : Allowed) (s : Signature) → AreWithin w (main_end s)
end_within w s = go (is_main s)
  where
    go : (b : Bool) → AreWithin w (if b then give_back (Some (constant i.Int (pos 0))) ∷ [] else [])
    go true = (tt, tt)
    go false = tt

-- the parts of the function of this number are those of its body
parts_are : (t : TypedTree) (m : FnId) (f : FunctionTree) (body : BodyTree) → function_at t m ≡ Some f → f.body ≡ Some body → parts_in t m ≡ parts_of body
parts_are t m f body found is = ap (λ (o : Option FunctionTree). function_parts (option_and_then (λ (g : FunctionTree). g.body) o)) found ∙ ap function_parts is

code_within : (t : TypedTree) (n : ℕ) (f : FunctionTree) (body : BodyTree) (w : Allowed) → PartsName w t.exprs (parts_of body) → StmtsWithin w (core_of t n f body).body
code_within t n f body w h =
    let code = lowered_body t f body in
    trees_within w (code.stmts ++ main_end f.signature) (both_within w code.stmts (main_end f.signature) (statement_within body w (code_of t f) nowhere (length f.vars) h) (end_within w f.signature))

pub lowered_names : LoweredNames
lowered_names t n f body found is =
    let w = named_by t (record { 0 = n }) in
    let parts = subst (λ ps. PartsName w t.exprs ps) (parts_are t (record { 0 = n }) f body found is) (parts_name t (record { 0 = n })) in
    let code = code_within t n f body w parts in (
      λ g m. contains_map (λ (x : GlobalId). x.0) w.globals (record { 0 = g }) (globals_listed (core_of t n f body).body w code g m),
      λ c m. contains_map (λ (x : FnId). x.0) w.callees (record { 0 = c }) (callees_listed (core_of t n f body).body w code c m),
    )
