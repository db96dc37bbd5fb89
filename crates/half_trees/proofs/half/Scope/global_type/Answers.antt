use Rattle.std.proofs.Common.{◌≡◌, ◌∙◌, Some, None, Option, ap, nat_eq, option_map, sym, unwrap_or}
use Rattle.std.specs.Map.{lookup}
use Rattle.typed_tree.specs.declared.types.VarTy.{VarTy}
use Rattle.typed_tree.specs.declared.types.VarTy.TheVariants.{Int}
use Rattle.pt_base.specs.declared.int_type.IntType.TheVariants as i
use Rattle.half_trees.proofs.PlaceLemmas.{types_of_globals}
use Rattle.half_trees.proofs.half.Scope.global_type.Goals as goal

abbrev or_int : Option VarTy → VarTy
or_int o = unwrap_or o (Int i.Int)

pub returns-in-Some : goal.returns-in-Some
returns-in-Some c =
    ap or_int (sym (ap (option_map (λ x. x.now.var.ty)) c.in-Some.is) ∙ c.global.ensures) ∙ ap (λ xs. or_int (lookup (nat_eq c.args.g) xs)) (sym (types_of_globals c.args.self.now.half.now.globals.now))

pub returns-in-None : goal.returns-in-None
returns-in-None c =
    ap or_int (sym (ap (option_map (λ x. x.now.var.ty)) c.in-None.is) ∙ c.global.ensures) ∙ ap (λ xs. or_int (lookup (nat_eq c.args.g) xs)) (sym (types_of_globals c.args.self.now.half.now.globals.now))
