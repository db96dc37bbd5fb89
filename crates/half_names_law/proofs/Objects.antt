-- What the declarators in a half's text make: the objects that they stand for.
use Rattle.std.proofs.Common.{◌≡◌, ◌++◌, ◌∙◌, ◌≤◌, ap, refl, ℕ, pos, Bool, true, false, List, [], Some, arith}
use Rattle.std.specs.Prelude.{not, ◌&&◌, ◌||◌, nat_le, nat_lt, int_lt, if◌then◌else◌}
use Rattle.std.proofs.lemmas.Bool.Decides.{nat_tests}
use Rattle.pt_base.specs.declared.int_type.IntType.{IntType}
use Rattle.pt_base.proofs.Booleans.{and_parts}
use Rattle.pt_tree.specs.declared.signature.Elem.{Elem}
use Rattle.pt_tree.specs.declared.signature.Elem.TheVariants as e
use Rattle.pt_tree.specs.declared.specifier.Suffix.TheVariants.{Plain}
use Rattle.type_rules.specs.declared.types.Type.{«Type»}
use Rattle.type_rules.specs.declared.types.Type.TheVariants as ty
use Rattle.typed_tree.specs.declared.types.StructInfo.{StructInfo}
use Rattle.typed_tree.specs.declared.types.VarTy.{VarTy}
use Rattle.typed_tree.specs.declared.types.VarTy.TheVariants.{Int, Struct, Array, Pointer}
use Rattle.typed_tree.specs.TypeTests.{points_to_const}
use Rattle.check_declarations.specs.declared.fault.FaultKind.TheVariants.{OutOfProfile, TooLarge}
use Rattle.check_declarations.specs.declared.fault.TypeFault.{TypeFault}
use Rattle.check_declarations.specs.declared.marks.Attribute.{Attribute}
use Rattle.check_declarations.specs.declared.objects.ObjectKind.{ObjectKind}
use Rattle.check_declarations.specs.declared.objects.ObjectKind.TheVariants as kind
use Rattle.check_declarations.specs.declared.specifiers.Specified.{Specified}
use Rattle.check_declarations.specs.Cells.{counted, cells_of, object_limit}
use Rattle.check_declarations.specs.Faults.{fault_if}
use Rattle.check_declarations.specs.Objects.{object_faults, object_type, is_fixed, size_faults, array_of, is_parameter, may_be_pointer}
use Rattle.check_declarations.specs.Structs.{Structs}
use Rattle.check_expressions.specs.Operands.{var_type}
use Rattle.check_expressions.specs.StructInfos.{object_type_of}
use Rattle.pt_core.specs.Types.{element_of}
use Rattle.half_trees.specs.Names.{nowhere}
use Rattle.half_trees.specs.Declarations.{is_pointer, suffix_of}
use Rattle.half_meaning_law.specs.Known.{type_as}
use Rattle.half_names_law.proofs.Specifiers.{elem_type, IsNamed}

-- an array has an element, and no more than an object may have cells
abbrev pub is_dense : VarTy → Bool
is_dense (Int t) = true
is_dense (Struct n) = true
is_dense (Array elem count) = nat_le 1 count && nat_le count 65_536
is_dense (Pointer elem fixed) = true

-- an object of this kind may have this type
abbrev pub may_be : ObjectKind → VarTy → Bool
may_be k (Int t) = true
may_be k (Struct n) = not (is_parameter k)
may_be k (Array elem count) = not (is_parameter k)
may_be k (Pointer elem fixed) = may_be_pointer k

-- what the specifiers of an object say
abbrev pub given_as : VarTy → List Attribute → Specified
given_as u attributes = record { first = nowhere; base = elem_type (element_of u); fixed = points_to_const (Some u); external = false; attributes = attributes }

-- the object is what it stands for
pub record Declares (k : ObjectKind) (u : VarTy) (given : Specified) : Type 0 where
  pub fine : object_faults k given (is_pointer u) (suffix_of u) nowhere ≡ []
  pub typed : object_type k given (is_pointer u) (suffix_of u) ≡ type_as u
  pub changes : is_fixed k given (is_pointer u) (suffix_of u) ≡ false

some_size : (count : ℕ) → nat_le 1 count ≡ true → int_lt (pos count) (pos 1) ≡ false
some_size count h = grind (arith, nat_tests, h)

size_is : (count : ℕ) → nat_le count 65_536 ≡ true → counted count ≡ count
size_is count h = let low : count ≤ 65536 = grind (arith, nat_tests, h) in omega (arith, low)

-- ---- arrays

-- the faults of an array, by whether its size is wrong
abbrev size_wrong : Bool → List TypeFault
size_wrong b = fault_if false OutOfProfile nowhere ++ fault_if (b || false) OutOfProfile nowhere

array_typed : (elem : Elem) (count : ℕ) (b : Bool) (n : ℕ) → b ≡ false → n ≡ count → (if (b || false) then ty.Bad else array_of (elem_type elem) n) ≡ ty.Array elem count
array_typed (e.Int t) count b n p q = λ i. if (p i || false) then ty.Bad else ty.Array (e.Int t) (q i)
array_typed (e.Struct m) count b n p q = λ i. if (p i || false) then ty.Bad else ty.Array (e.Struct m) (q i)

pub array_declared : (k : ObjectKind) (elem : Elem) (count : ℕ) (marks : List Attribute) → not (is_parameter k) ≡ true → nat_le 1 count ≡ true → nat_le count 65_536 ≡ true → Declares k (Array elem count) (given_as (Array elem count) marks)
array_declared kind.Global (e.Int t) count attributes may some few = record { fine = ap size_wrong (some_size count some); typed = array_typed (e.Int t) count _ _ (some_size count some) (size_is count few); changes = refl }
array_declared kind.Global (e.Struct m) count attributes may some few = record { fine = ap size_wrong (some_size count some); typed = array_typed (e.Struct m) count _ _ (some_size count some) (size_is count few); changes = refl }
array_declared kind.Local (e.Int t) count attributes may some few = record { fine = ap size_wrong (some_size count some); typed = array_typed (e.Int t) count _ _ (some_size count some) (size_is count few); changes = refl }
array_declared kind.Local (e.Struct m) count attributes may some few = record { fine = ap size_wrong (some_size count some); typed = array_typed (e.Struct m) count _ _ (some_size count some) (size_is count few); changes = refl }
array_declared kind.Field (e.Int t) count attributes may some few = record { fine = ap size_wrong (some_size count some); typed = array_typed (e.Int t) count _ _ (some_size count some) (size_is count few); changes = refl }
array_declared kind.Field (e.Struct m) count attributes may some few = record { fine = ap size_wrong (some_size count some); typed = array_typed (e.Struct m) count _ _ (some_size count some) (size_is count few); changes = refl }
array_declared kind.Parameter elem count attributes may some few = cc

-- ---- each type

int_declared : (k : ObjectKind) (t : IntType) (marks : List Attribute) → Declares k (Int t) (given_as (Int t) marks)
int_declared kind.Global t attributes = record { fine = refl; typed = refl; changes = refl }
int_declared kind.Local t attributes = record { fine = refl; typed = refl; changes = refl }
int_declared kind.Field t attributes = record { fine = refl; typed = refl; changes = refl }
int_declared kind.Parameter t attributes = record { fine = refl; typed = refl; changes = refl }

struct_declared : (k : ObjectKind) (n : ℕ) (marks : List Attribute) → not (is_parameter k) ≡ true → Declares k (Struct n) (given_as (Struct n) marks)
struct_declared kind.Global n attributes may = record { fine = refl; typed = refl; changes = refl }
struct_declared kind.Local n attributes may = record { fine = refl; typed = refl; changes = refl }
struct_declared kind.Field n attributes may = record { fine = refl; typed = refl; changes = refl }
struct_declared kind.Parameter n attributes may = cc

pointer_declared : (k : ObjectKind) (elem : Elem) (fixed : Bool) (marks : List Attribute) → may_be_pointer k ≡ true → Declares k (Pointer elem fixed) (given_as (Pointer elem fixed) marks)
pointer_declared kind.Local (e.Int t) true attributes may = record { fine = refl; typed = refl; changes = refl }
pointer_declared kind.Local (e.Int t) false attributes may = record { fine = refl; typed = refl; changes = refl }
pointer_declared kind.Local (e.Struct n) true attributes may = record { fine = refl; typed = refl; changes = refl }
pointer_declared kind.Local (e.Struct n) false attributes may = record { fine = refl; typed = refl; changes = refl }
pointer_declared kind.Parameter (e.Int t) true attributes may = record { fine = refl; typed = refl; changes = refl }
pointer_declared kind.Parameter (e.Int t) false attributes may = record { fine = refl; typed = refl; changes = refl }
pointer_declared kind.Parameter (e.Struct n) true attributes may = record { fine = refl; typed = refl; changes = refl }
pointer_declared kind.Parameter (e.Struct n) false attributes may = record { fine = refl; typed = refl; changes = refl }
pointer_declared kind.Global elem fixed attributes may = cc
pointer_declared kind.Field elem fixed attributes may = cc

pub declares : (k : ObjectKind) (u : VarTy) (marks : List Attribute) → may_be k u ≡ true → is_dense u ≡ true → Declares k u (given_as u marks)
declares k (Int t) attributes may dense = int_declared k t attributes
declares k (Struct n) attributes may dense = struct_declared k n attributes may
declares k (Array elem count) attributes may dense = let parts = and_parts (nat_le 1 count) (nat_le count 65_536) dense in array_declared k elem count attributes may parts.0 parts.1
declares k (Pointer elem fixed) attributes may dense = pointer_declared k elem fixed attributes may

-- ---- sizes

pub sized : (structs : Structs) (t : «Type») (u : VarTy) → t ≡ type_as u → cells_of structs (type_as u) ≤ 65536 → size_faults structs t nowhere ≡ []
sized structs t u h small = ap (λ z. size_faults structs z nowhere) h ∙ go (nat_lt object_limit (cells_of structs (type_as u))) (grind (arith, nat_tests, small))
  where
    go : (b : Bool) → b ≡ false → fault_if b TooLarge nowhere ≡ []
    go b p = ap (λ z. fault_if z TooLarge nowhere) p

-- a parameter is no array
pub plain_parameter : (u : VarTy) → may_be kind.Parameter u ≡ true → suffix_of u ≡ Plain
plain_parameter (Int t) h = refl
plain_parameter (Struct n) h = refl
plain_parameter (Array elem count) h = cc
plain_parameter (Pointer elem fixed) h = refl

-- ---- all that declaring an object of a type asks for

pub record Fits (structs : Structs) (infos : List StructInfo) (u : VarTy) : Type 0 where
  pub named : IsNamed structs infos (element_of u)
  pub dense : is_dense u ≡ true
  pub small : cells_of structs (type_as u) ≤ 65536

-- ---- types in the typed tree

pub object_type_is : (u : VarTy) → object_type_of (type_as u) ≡ u
unfolding var_type
object_type_is (Int t) = refl
object_type_is (Struct n) = refl
object_type_is (Array el count) = refl
object_type_is (Pointer el fixed) = refl
