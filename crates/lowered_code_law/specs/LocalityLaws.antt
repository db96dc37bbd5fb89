-- The code of a function depends on no other function.
use Rattle.std.specs.Prelude.{◌≡◌, Option, Contains, option_map, slice_get}
use Rattle.pt_base.specs.declared.ids.FnId.{FnId}
use Rattle.pt_base.specs.declared.ids.GlobalId.{GlobalId}
use Rattle.typed_tree.specs.declared.types.VarTy.{VarTy}
use Rattle.typed_tree.specs.TypedTree.{TypedTree}
use Rattle.reach.specs.Contexts.{globals_in}
use Rattle.lowering.specs.Functions.{core_of}
use Rattle.lowered_code_law.specs.LocalitySameFunctions.{IsSameFunction}

abbrev pub global_type : TypedTree → GlobalId → Option VarTy
global_type t g = option_map (λ x. x.var.ty) (slice_get t.globals g.0)

-- Where two programs have the same structs, a function that is the same in both has the same code in both, if each global that it names
-- has the same type in both.
abbrev pub LoweringSeesOneBody : Type 0
LoweringSeesOneBody = (t u : TypedTree) (f : FnId) (s : IsSameFunction t u f) → t.structs ≡ u.structs → ((g : GlobalId) → Contains (globals_in t f) g → global_type t g ≡ global_type u g) →
    core_of t f.0 s.here s.body ≡ core_of u f.0 s.there s.other
