-- Fields and variables by their numbers, and where a path of fields leads.
use Rattle.std.proofs.Common.{◌≡◌, ◌∙◌, ◌<◌, ℕ, List, [], ◌∷◌, length, map, get_or, slice_get, nat_lt, Bool, true, false, not, ◌&&◌, ◌==◌, Option, Some, None, option_map, refl, sym, ap, arith, ⊎_elim, drop, ◌+◌}
use Rattle.std.specs.Bool.{then_some}
use Rattle.std.proofs.lemmas.Bool.{lt-ltb, le-ltb, cases_lt}
use Rattle.std.proofs.lemmas.Option.{slice_get-get_or, slice_get-map, slice_get_past, same_Some}
use Rattle.pt_base.specs.declared.int_type.IntType.TheVariants as i
use Rattle.pt_base.specs.declared.span.Span.{Span}
use Rattle.pt_base.proofs.Places.{drop_step}
use Rattle.typed_tree.specs.declared.types.VarTy.{VarTy}
use Rattle.typed_tree.specs.declared.types.VarTy.TheVariants.{Int, Struct}
use Rattle.typed_tree.specs.declared.types.Field.{Field}
use Rattle.typed_tree.specs.declared.types.StructInfo.{StructInfo}
use Rattle.typed_tree.specs.declared.variable.Var.{Var}
use Rattle.typed_tree.specs.Sizes.{fields_of}
use Rattle.pt_core.specs.CodeTree.{ExprTree, place, deref}
use Rattle.pt_core.specs.Types.{type_at, field_type, path_type}
use Rattle.pt_core.specs.WellFormedExpression.{is_addressed, is_field, is_path}
use Rattle.code_rules.specs.Parts.{along, field_in}

-- what a number finds is there where the number is below the length
found_where : {X : Type 0} (f : X → VarTy) (xs : List X) (k : ℕ) (d : X) → option_map f (slice_get xs k) ≡ then_some (nat_lt k (length xs)) (f (get_or xs k d))
found_where f xs k d = ⊎_elim
    (λ lt. ap (option_map f) (slice_get-get_or xs k d lt) ∙ sym (ap (λ b. then_some b (f (get_or xs k d))) (lt-ltb k (length xs) lt)))
    (λ le. ap (option_map f) (slice_get_past xs k le) ∙ sym (ap (λ b. then_some b (f (get_or xs k d))) (le-ltb k (length xs) le)))
    (cases_lt k (length xs))

abbrev no_field : Field
no_field = record { name = []; ty = Int i.Int; marked = false }

pub field_found : (structs : List StructInfo) (n k : ℕ) → option_map (λ (f : Field). f.ty) (slice_get (fields_of structs n) k) ≡ field_in structs (Struct n) k
field_found structs n k = found_where (λ (f : Field). f.ty) (fields_of structs n) k no_field

pub variable_found : (xs : List Var) (v : ℕ) → option_map (λ (x : Var). x.ty) (slice_get xs v) ≡ then_some (nat_lt v (length (map (λ (x : Var). x.ty) xs))) (type_at (map (λ (x : Var). x.ty) xs) v)
variable_found xs v = sym (slice_get-map (λ (x : Var). x.ty) xs v) ∙ own (slice_get (map (λ (x : Var). x.ty) xs) v) ∙ found_where (λ t. t) (map (λ (x : Var). x.ty) xs) v (Int i.Int)
  where
    own : (o : Option VarTy) → o ≡ option_map (λ t. t) o
    own None = refl
    own (Some t) = refl

-- ---- paths

pub path_ends : (structs : List StructInfo) (ty : VarTy) → Some ty ≡ along structs (Some ty) []
path_ends structs ty = refl

pub path_goes : (structs : List StructInfo) (ty next : VarTy) (k : ℕ) (ks : List ℕ) → Some next ≡ field_in structs ty k → along structs (Some next) ks ≡ along structs (Some ty) (k ∷ ks)
path_goes structs ty next k ks h = go (is_field structs ty k) (field_type structs ty k) h
  where
    go : (b : Bool) (t : VarTy) → Some next ≡ then_some b t → along structs (Some next) ks ≡ then_some (b && is_path structs t ks) (path_type structs t ks)
    go true t e = ap (λ u. along structs (Some u) ks) (same_Some next t e)
    go false t e = cc

pub path_fails : (structs : List StructInfo) (ty : VarTy) (k : ℕ) (ks : List ℕ) → None ≡ field_in structs ty k → None ≡ along structs (Some ty) (k ∷ ks)
path_fails structs ty k ks h = go (is_field structs ty k) (field_type structs ty k) h
  where
    go : (b : Bool) (t : VarTy) → None ≡ then_some b t → None ≡ then_some (b && is_path structs t ks) (path_type structs t ks)
    go true t e = cc
    go false t e = refl

-- ---- in a loop

pub path_next : (structs : List StructInfo) (ty next : VarTy) (path : List ℕ) (i : ℕ) (o : Option VarTy) → i < length path → Some next ≡ field_in structs ty (get_or path i 0) → along structs (Some ty) (drop i path) ≡ o → along structs (Some next) (drop (i + 1) path) ≡ o
path_next structs ty next path i o below is h =
    path_goes structs ty next (get_or path i 0) (drop (i + 1) path) is ∙ sym (ap (λ ks. along structs (Some ty) ks) (drop_step path i 0 below)) ∙ h

pub path_stops : (structs : List StructInfo) (ty : VarTy) (path : List ℕ) (i : ℕ) (o : Option VarTy) → i < length path → None ≡ field_in structs ty (get_or path i 0) → along structs (Some ty) (drop i path) ≡ o → None ≡ o
path_stops structs ty path i o below is h =
    path_fails structs ty (get_or path i 0) (drop (i + 1) path) is ∙ sym (ap (λ ks. along structs (Some ty) ks) (drop_step path i 0 below)) ∙ h

pub path_named : (a : ExprTree) (s : Span) (path : List ℕ) → not (length path == 0) ≡ is_addressed (place (deref a s) path)
path_named a s [] = refl
path_named a s (k ∷ ks) = grind arith
