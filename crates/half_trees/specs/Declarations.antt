-- What a half declares outside of functions: structs, prototypes and globals.
use Rattle.std.specs.Prelude.{ℕ, suc, ◌%◌, ◌^◌, ℤ, pos, negsuc, List, [], ◌∷◌, ◌++◌, Option, None, Some, Bool, false, if◌then◌else◌, codes, map, option_map}
use Rattle.std.specs.List.{range_with_len}
use Rattle.pt_base.specs.declared.int_type.IntType.{IntType}
use Rattle.pt_base.specs.declared.int_type.IntType.TheVariants as i
use Rattle.pt_tree.specs.declared.operator.PrefixOp.TheVariants as p
use Rattle.pt_tree.specs.declared.signature.Elem.{Elem}
use Rattle.pt_tree.specs.declared.signature.Elem.TheVariants as e
use Rattle.pt_tree.specs.declared.signature.Param.{Param}
use Rattle.pt_tree.specs.declared.signature.Signature.{Signature}
use Rattle.pt_tree.specs.declared.specifier.Declarator.{Declarator}
use Rattle.pt_tree.specs.declared.specifier.SpecWord.{SpecWord}
use Rattle.pt_tree.specs.declared.specifier.SpecWord.TheVariants as w
use Rattle.pt_tree.specs.declared.specifier.Suffix.{Suffix}
use Rattle.pt_tree.specs.declared.specifier.Suffix.TheVariants.{Plain, Sized}
use Rattle.pt_tree.specs.declared.word.Word.{Word}
use Rattle.pt_tree.specs.SpecifierTree.{SpecTree, SpecTrees, FieldTree, attribute, keyword, structure, field, no_fields, spec_trees, field_trees}
use Rattle.pt_tree.specs.ExpressionTree.{ExprTree, constant, prefix, expr_trees}
use Rattle.pt_tree.specs.StatementTree.{InitTree, no_init, single, braces, DeclarationTree}
use Rattle.pt_tree.specs.ProgramTree.{ParamTree, ItemTree, declares, function}
use Rattle.typed_tree.specs.declared.types.Field.{Field}
use Rattle.typed_tree.specs.declared.types.StructInfo.{StructInfo}
use Rattle.typed_tree.specs.declared.types.VarTy.{VarTy}
use Rattle.typed_tree.specs.declared.types.VarTy.TheVariants.{Int, Struct, Array, Pointer}
use Rattle.typed_tree.specs.Sizes.{fields_of}
use Rattle.typed_tree.specs.TypeTests.{points_to_const}
use Rattle.typed_tree.specs.WellFormedExpression.{param_type}
use Rattle.pt_core.specs.CodeTree.{GlobalTree}
use Rattle.pt_core.specs.Types.{element_of}
use Rattle.half_trees.specs.Names.{nowhere, word, struct_name, field_by, local_name, global_name, function_by}
pub use Rattle.typed_tree.specs.TypeTests.{is_pointer}

-- ---- types

-- the words that name an integer type (C99 6.7.2p2)
abbrev pub type_words : IntType → List SpecWord
type_words i.Char = w.Char ∷ []
type_words i.SChar = w.Signed ∷ w.Char ∷ []
type_words i.UChar = w.Unsigned ∷ w.Char ∷ []
type_words i.Short = w.Short ∷ []
type_words i.UShort = w.Unsigned ∷ w.Short ∷ []
type_words i.Int = w.Int ∷ []
type_words i.UInt = w.Unsigned ∷ w.Int ∷ []
type_words i.Long = w.Long ∷ []
type_words i.ULong = w.Unsigned ∷ w.Long ∷ []

abbrev pub int_specs : IntType → List SpecTree
int_specs t = map (keyword nowhere) (type_words t)

abbrev pub elem_specs : List StructInfo → Elem → List SpecTree
elem_specs structs (e.Int t) = int_specs t
elem_specs structs (e.Struct n) = structure nowhere (word (struct_name structs n)) no_fields ∷ []

-- of a function's result, None being void
abbrev pub result_specs : Option IntType → List SpecTree
result_specs None = keyword nowhere w.Void ∷ []
result_specs (Some t) = int_specs t

-- ---- marks

abbrev pub mark : Bool → List ℕ → List Word
mark stands name = if stands then word name ∷ [] else []

-- an attribute with these names, none without a name
abbrev pub attribute_of : List Word → List SpecTree
attribute_of [] = []
attribute_of (a ∷ rest) = attribute nowhere (a ∷ rest) ∷ []

-- whether it is marked `priv`, `unpriv` and `declassify`
abbrev pub mark_specs : Bool → Bool → Bool → List SpecTree
mark_specs priv unpriv declassify = attribute_of (mark priv (codes "priv") ++ (mark unpriv (codes "unpriv") ++ mark declassify (codes "declassify")))

-- ---- objects

abbrev pub const_specs : Bool → List SpecTree
const_specs fixed = if fixed then keyword nowhere w.Const ∷ [] else []

-- what stands before the name of an object of this type, behind its marks
abbrev pub object_specs : List StructInfo → VarTy → List SpecTree
object_specs structs ty = const_specs (points_to_const (Some ty)) ++ elem_specs structs (element_of ty)

abbrev pub suffix_of : VarTy → Suffix
suffix_of (Int t) = Plain
suffix_of (Struct n) = Plain
suffix_of (Array elem count) = Sized (record { span = nowhere; value = pos count; ty = i.Int })
suffix_of (Pointer elem fixed) = Plain

abbrev pub declarator_of : VarTy → List ℕ → Declarator
declarator_of ty name = record { span = nowhere; pointer = is_pointer ty; name = word name; suffix = suffix_of ty }

-- an object with these marks, of this type and name, and what it starts with
abbrev pub object : List StructInfo → List SpecTree → VarTy → List ℕ → InitTree → DeclarationTree
object structs marks ty name init = record {
  span = nowhere;
  specs = spec_trees (marks ++ object_specs structs ty);
  declarators = record { declarator = declarator_of ty name; init = init } ∷ [];
}

-- ---- structs

abbrev pub field_tree : List StructInfo → List ℕ → Field → FieldTree
field_tree structs name f = field nowhere (spec_trees (mark_specs f.marked false false ++ object_specs structs f.ty)) (declarator_of f.ty name ∷ [])

-- the fields from this number on, of all that a struct has
abbrev pub fields_from : List StructInfo → List Field → ℕ → List Field → List FieldTree
fields_from structs all k [] = []
fields_from structs all k (f ∷ rest) = field_tree structs (field_by all k) f ∷ fields_from structs all (suc k) rest

abbrev pub struct_item : List StructInfo → ℕ → ItemTree
struct_item structs n = declares (record {
  span = nowhere;
  specs = spec_trees (structure nowhere (word (struct_name structs n)) (field_trees (fields_from structs (fields_of structs n) 0 (fields_of structs n))) ∷ []);
  declarators = [];
})

-- ---- functions without bodies

-- a parameter with these marks, of this type and name
abbrev pub parameter : List StructInfo → List SpecTree → VarTy → List ℕ → ParamTree
parameter structs marks ty name = record {
  span = nowhere;
  specs = spec_trees (marks ++ object_specs structs ty);
  pointer = is_pointer ty;
  name = Some (word name);
  suffix = Plain;
}

-- no parameters: `void`
abbrev pub void_parameter : ParamTree
void_parameter = record { span = nowhere; specs = spec_trees (keyword nowhere w.Void ∷ []); pointer = false; name = None; suffix = Plain }

abbrev pub parameters_or_void : List ParamTree → List ParamTree
parameters_or_void [] = void_parameter ∷ []
parameters_or_void (p ∷ ps) = p ∷ ps

-- the parameters of a signature from this number on
abbrev pub declared_from : List StructInfo → ℕ → List Param → List ParamTree
declared_from structs k [] = []
declared_from structs k (p ∷ ps) = parameter structs (mark_specs p.marked false p.declassify) (param_type p.kind) (local_name k) ∷ declared_from structs (suc k) ps

abbrev pub function_specs : Signature → List SpecTree
function_specs s = mark_specs s.privileged false s.declassify ++ result_specs s.result

abbrev pub function_declarator : List ℕ → Declarator
function_declarator name = record { span = nowhere; pointer = false; name = word name; suffix = Plain }

-- a function or host by its number and what it is called with
abbrev pub prototype_item : List StructInfo → ℕ → Signature → ItemTree
prototype_item structs f s = function (record {
  span = nowhere;
  specs = spec_trees (function_specs s);
  declarator = function_declarator (function_by f (Some s));
  params = parameters_or_void (declared_from structs 0 s.params);
  body = None;
})

-- ---- globals

-- a constant of type unsigned long, which computes modulo 2 to the 64
abbrev pub large : ℕ → ExprTree
large n = constant (record { span = nowhere; value = pos (n % 2 ^ 64); ty = i.ULong })

-- one number that an object starts with
abbrev pub cell_tree : ℤ → ExprTree
cell_tree (pos n) = large n
cell_tree (negsuc n) = prefix nowhere p.Minus (large (suc n))

abbrev pub integer_init : List ℤ → InitTree
integer_init [] = no_init
integer_init (v ∷ vs) = single (cell_tree v)

abbrev pub cells_init : List ℤ → InitTree
cells_init cells = braces nowhere (expr_trees (map cell_tree cells))

-- what an object of this type starts with
abbrev pub initial : VarTy → List ℤ → InitTree
initial (Int t) cells = integer_init cells
initial (Struct n) cells = cells_init cells
initial (Array elem count) cells = cells_init cells
initial (Pointer elem fixed) cells = cells_init cells

abbrev pub global_item : List StructInfo → GlobalTree → ItemTree
global_item structs g = declares (object structs (mark_specs g.var.marked g.var.unpriv false) g.var.ty (global_name g.id) (initial g.var.ty g.cells))
