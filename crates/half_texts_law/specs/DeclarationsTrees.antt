-- What a typed tree has, so that both halves of it can be declared.
use Rattle.std.specs.Prelude.{Bool, ◌||◌, not, IsTrue, length, map, take}
use Rattle.std.specs.List.{list_all, list_any}
use Rattle.typed_tree.specs.TypedTree.{FunctionTree, TypedTree}
use Rattle.typed_tree.specs.WellFormed.{are_distinct}
use Rattle.half_names_law.specs.Declarable.{signature_marked, variable_marked}

-- ---- what the judgments say of a tree without a fault

-- no parameter of a privileged function is marked `unpriv`
abbrev pub parameters_plain : FunctionTree → Bool
parameters_plain f = not f.signature.privileged || not (list_any (λ x. x.unpriv) (take (length f.signature.params) f.vars))

pub record Marked (t : TypedTree) : Type 0 where
  pub tags : IsTrue (are_distinct (map (λ s. s.name) t.structs))
  pub fields : IsTrue (list_all (λ s. are_distinct (map (λ f. f.name) s.fields)) t.structs)
  pub signatures : IsTrue (list_all (λ f. signature_marked f.signature) t.functions)
  pub globals : IsTrue (list_all (λ g. variable_marked g.var) t.globals)
  pub parameters : IsTrue (list_all parameters_plain t.functions)
