-- The names in a half are identifiers and no keywords.
use Rattle.std.proofs.Common.{◌≡◌, ℕ, zero, suc, ◌/◌, ◌%◌, ◌<◌, ◌++◌, true, false, List, [], ◌∷◌, Option, Some, None, refl, codes, arith, if◌then◌else◌, ◌==◌}
use Rattle.std.specs.Prelude.{slice_get, option_map, nat_eq}
use Rattle.std.specs.Fmt.{decimal, digits, digits_onto, digit_glyph}
use Rattle.std.specs.List.{list_all}
use Rattle.std.specs.Map.{lookup}
use Rattle.std.proofs.lemmas.Bool.{cond_both, and_parts}
use Rattle.pt_tree.specs.declared.signature.Signature.{Signature}
use Rattle.typed_tree.specs.declared.types.Field.{Field}
use Rattle.typed_tree.specs.declared.types.StructInfo.{StructInfo}
use Rattle.typed_tree.specs.declared.types.VarTy.{VarTy}
use Rattle.typed_tree.specs.declared.types.VarTy.TheVariants.{Int, Struct, Array, Pointer}
use Rattle.typed_tree.specs.Sizes.{fields_of}
use Rattle.typed_tree.specs.WellFormedExpression.{is_main}
use Rattle.c_lexer.specs.Bytes.{is_word_byte}
use Rattle.c_lexer.specs.Spelling.{keyword_of}
use Rattle.c_printer.specs.Plain.{is_name}
use Rattle.half_trees.specs.Names.{is_name_start, is_name_byte, is_identifier, named, local_name, global_name, function_by, function_name, struct_name, field_by, field_name}
use Rattle.half_trees_law.proofs.Tests.{both}

-- ---- bytes

glyph_passes : (d : ℕ) → d < 10 → is_word_byte (digit_glyph false d) ≡ true
glyph_passes d low = grind arith

digits_pass : (k n : ℕ) (behind : List ℕ) → list_all is_word_byte behind ≡ true → list_all is_word_byte (digits_onto k 10 false n behind) ≡ true
digits_pass zero n behind h = h
digits_pass (suc k) n behind h =
    let more : list_all is_word_byte (digit_glyph false (n % 10) ∷ behind) ≡ true = both (glyph_passes (n % 10) (omega arith)) h in
    cond_both (n / 10 == 0) (digit_glyph false (n % 10) ∷ behind) (digits_onto k 10 false (n / 10) (digit_glyph false (n % 10) ∷ behind)) (λ bs. list_all is_word_byte bs ≡ true)
    (λ e. more) (λ e. digits_pass k (n / 10) (digit_glyph false (n % 10) ∷ behind) more)

decimal_passes : (n : ℕ) → list_all is_word_byte (decimal n) ≡ true
unfolding digits
decimal_passes n = digits_pass 64 n [] refl

start_passes : (b : ℕ) → is_name_start b ≡ true → is_word_byte b ≡ true
start_passes b h = grind (arith, h)

byte_passes : (b : ℕ) → is_name_byte b ≡ true → is_word_byte b ≡ true
byte_passes b h = grind (arith, h)

bytes_pass : (bs : List ℕ) → list_all is_name_byte bs ≡ true → list_all is_word_byte bs ≡ true
bytes_pass [] h = refl
bytes_pass (b ∷ bs) h = let parts = and_parts (is_name_byte b) (list_all is_name_byte bs) h in both (byte_passes b parts.0) (bytes_pass bs parts.1)

identifier_passes : (bs : List ℕ) → is_identifier bs ≡ true → list_all is_word_byte bs ≡ true
identifier_passes [] h = refl
identifier_passes (b ∷ bs) h = let parts = and_parts (is_name_start b) (list_all is_name_byte bs) h in both (start_passes b parts.0) (bytes_pass bs parts.1)

-- ---- what names begin with

-- an identifier that is no keyword, whatever letters, digits and `_` follow
abbrev Opens : List ℕ → Type 0
Opens front = (rest : List ℕ) → list_all is_word_byte rest ≡ true → is_name (front ++ rest) ≡ true

opens_local : Opens (codes "v_")
unfolding keyword_of
opens_local rest h = both h refl

opens_global : Opens (codes "g_")
unfolding keyword_of
opens_global rest h = both h refl

opens_function : Opens (codes "f_")
unfolding keyword_of
opens_function rest h = both h refl

opens_struct : Opens (codes "s_")
unfolding keyword_of
opens_struct rest h = both h refl

opens_field : Opens (codes "m_")
unfolding keyword_of
opens_field rest h = both h refl

main_is_name : is_name (codes "main") ≡ true
unfolding keyword_of
main_is_name = refl

-- ---- names

named_is_name : (front : List ℕ) → Opens front → (n : ℕ) (o : Option (List ℕ)) → is_name (named front n o) ≡ true
named_is_name front opens n None = opens (decimal n) (decimal_passes n)
named_is_name front opens n (Some name) =
    opens (if is_identifier name then name else decimal n)
    (cond_both (is_identifier name) name (decimal n) (λ bs. list_all is_word_byte bs ≡ true) (identifier_passes name) (λ e. decimal_passes n))

pub local_is_name : (v : ℕ) → is_name (local_name v) ≡ true
local_is_name v = opens_local (decimal v) (decimal_passes v)

pub global_is_name : (g : ℕ) → is_name (global_name g) ≡ true
global_is_name g = opens_global (decimal g) (decimal_passes g)

pub function_by_is_name : (f : ℕ) (o : Option Signature) → is_name (function_by f o) ≡ true
function_by_is_name f None = named_is_name (codes "f_") opens_function f None
function_by_is_name f (Some s) =
    cond_both (is_main s) (codes "main") (named (codes "f_") f (Some s.name)) (λ bs. is_name bs ≡ true)
    (λ e. main_is_name) (λ e. named_is_name (codes "f_") opens_function f (Some s.name))

pub function_is_name : (signatures : List (ℕ × Signature)) (f : ℕ) → is_name (function_name signatures f) ≡ true
function_is_name signatures f = function_by_is_name f (lookup (nat_eq f) signatures)

pub struct_is_name : (structs : List StructInfo) (n : ℕ) → is_name (struct_name structs n) ≡ true
struct_is_name structs n = named_is_name (codes "s_") opens_struct n (option_map (λ (s : StructInfo). s.name) (slice_get structs n))

pub field_by_is_name : (fields : List Field) (k : ℕ) → is_name (field_by fields k) ≡ true
field_by_is_name fields k = named_is_name (codes "m_") opens_field k (option_map (λ (f : Field). f.name) (slice_get fields k))

pub field_is_name : (structs : List StructInfo) (ty : VarTy) (k : ℕ) → is_name (field_name structs ty k) ≡ true
field_is_name structs (Struct n) k = field_by_is_name (fields_of structs n) k
field_is_name structs (Int t) k = field_by_is_name [] k
field_is_name structs (Array elem count) k = field_by_is_name [] k
field_is_name structs (Pointer elem fixed) k = field_by_is_name [] k
