-- In what a half declares, all its names are known as its code has them.
use Rattle.std.proofs.Common.{◌≡◌, ◌∙◌, ◌<◌, ◌≤◌, ◌+◌, ◌^◌, sym, ap, refl, subst, ℕ, zero, suc, Bool, true, false, List, [], ◌∷◌, length, map, Option, Some, None, arith}
use Rattle.std.specs.Prelude.{◌&&◌, nat_eq, nat_lt, not, slice_get, option_map, option_and_then, take, if◌then◌else◌}
use Rattle.std.specs.Option.{option_map_or}
use Rattle.std.specs.Map.{lookup}
use Rattle.std.proofs.lemmas.Bool.Decides.{nat_tests}
use Rattle.std.proofs.lemmas.Option.{get_or_from_slice_get}
use Rattle.pt_base.specs.declared.int_type.IntType.TheVariants as int
use Rattle.pt_base.proofs.Booleans.{and_parts, from_not_true}
use Rattle.pt_base.proofs.Members.{all_true_at}
use Rattle.pt_base.proofs.Places.{get_below_length, get_mapped, get_there}
use Rattle.pt_tree.specs.declared.signature.Param.{Param}
use Rattle.pt_tree.specs.declared.signature.Signature.{Signature}
use Rattle.typed_tree.specs.declared.types.Field.{Field}
use Rattle.typed_tree.specs.declared.types.StructInfo.{StructInfo}
use Rattle.typed_tree.specs.declared.types.VarTy.{VarTy}
use Rattle.typed_tree.specs.declared.types.VarTy.TheVariants as v
use Rattle.typed_tree.specs.declared.variable.Var.{Var}
use Rattle.typed_tree.specs.Sizes.{fields_of}
use Rattle.typed_tree.specs.WellFormed.{is_plain_type, is_small, field_sound, structs_sound}
use Rattle.typed_tree.specs.WellFormedExpression as m
use Rattle.typed_tree.specs.WellFormedExpression.{param_type}
use Rattle.check_declarations.specs.NameTables.{number_of, value_at}
use Rattle.check_declarations.specs.Structs.{Structs, Fields, found_in}
use Rattle.check_expressions.specs.declared.meaning.Meaning.TheVariants.{Local}
use Rattle.check_expressions.specs.declared.meaning.Object.{Object}
use Rattle.check_expressions.specs.declared.meaning.Variable.{Variable}
use Rattle.check_expressions.specs.Environment.{Env, Scope, meaning_at, find_in, or_else, find, no_object, object_of}
use Rattle.source_meaning.specs.Expressions as sm
use Rattle.pt_core.specs.CodeTree.{GlobalTree, FunctionTree, ProgramTree}
use Rattle.pt_core.specs.Statements as c
use Rattle.pt_core.specs.Types.{type_at, field_type}
use Rattle.pt_core.specs.WellFormed.{function_at, signature_at, with_own, called_signature}
use Rattle.half_trees.specs.Names.{local_name, global_name, function_by, field_by}
use Rattle.half_trees.specs.Declarations as trees
use Rattle.half_meaning_law.specs.Relations.{Scene, is_pointer}
use Rattle.half_meaning_law.specs.Known.{type_as, object_as, local_id, VariableKnown, GlobalKnown, FieldKnown, Known, FunctionKnown, FunctionsKnown}
use Rattle.half_names_law.specs.Standing.{scene_of}
use Rattle.half_names_law.proofs.Tables.{Differ, listed, listed_at, listed_back, found, sought_first, sought_none}
use Rattle.half_names_law.proofs.TextNames.{no_local, global_no_local, no_main}
use Rattle.half_names_law.proofs.Numbers.{lookup_place, number_at, mapped_back}
use Rattle.half_names_law.proofs.Structs.{entry_of, field_entry, fields_as}
use Rattle.half_names_law.proofs.Table.{IsTable, NamesDiffer, fields_sound, none_const}
use Rattle.half_names_law.proofs.Parameters.{local_entry, scoped}
use Rattle.half_names_law.proofs.Prototypes.{marked_param}
use Rattle.half_names_law.proofs.Names.{callable_in, global_object, half_file, half_env, FunctionsApart, GlobalsApart, function_found, function_meant, global_found, global_meant}

-- ---- variables

abbrev pub local_names : List Var → Scope
local_names xs = listed local_entry 0 xs

-- the variables of a function, as the judgments have them
abbrev pub AreVariables : List Variable → List Var → Type 0
AreVariables ys xs = map object_of ys ≡ map (λ x. object_as x.ty) xs

-- where the statements of a function with these variables stand
abbrev pub standing : Bool → ProgramTree → List Var → List Variable → Env
standing monitor p xs ys = scoped (half_env monitor p) (local_names xs) ys

local_found : (xs : List Var) (n : ℕ) → n < length xs → length xs ≤ 2 ^ 64 → Differ local_name (2 ^ 64) → find_in (local_names xs) (local_name n) ≡ Some (Local (local_id n))
local_found xs n low small differ =
    let there = get_there xs n low in
    let entry : slice_get (local_names xs) n ≡ Some (local_entry n there.0) = listed_at local_entry 0 n n xs (omega arith) ∙ ap (option_map (local_entry n)) there.1 in
    let number : number_of (local_names xs) (local_name n) ≡ Some n =
    found (local_names xs) (local_name n)
    ∙ sought_first (local_names xs) n (local_entry n there.0) entry
    (λ j y less at same. let back = listed_back local_entry 0 j xs y at in
    let zero_j : 0 + j ≡ j = omega arith in
    let equal = differ n j (omega (arith, low, small)) (omega (arith, less, low, small)) (same ∙ ap (λ z. z.0) back.2 ∙ ap local_name zero_j) in omega (arith, less, equal)) in
    ap (meaning_at (local_names xs)) number ∙ ap (option_map (λ e. e.1)) entry

objects_at : (ys : List Variable) (xs : List Var) (n : ℕ) → AreVariables ys xs → n < length xs → option_map_or object_of (slice_get ys n) no_object ≡ object_as (type_at (map (λ x. x.ty) xs) n)
objects_at ys [] n same low = absurd (omega (arith, low))
objects_at [] (x ∷ xs) n same low = cc
objects_at (y ∷ ys) (x ∷ xs) zero same low = ap first same
  where
    first : List Object → Object
    first [] = no_object
    first (o ∷ os) = o
objects_at (y ∷ ys) (x ∷ xs) (suc n) same low = objects_at ys xs n (ap rest same) (omega (arith, low))
  where
    rest : List Object → List Object
    rest [] = []
    rest (o ∷ os) = os

-- no variable has this name
no_variable : (xs : List Var) (name : List ℕ) (file : Scope) → ((n : ℕ) → name ≡ local_name n → ⊥) → or_else (find_in (local_names xs) name) (find_in file name) ≡ find_in file name
no_variable xs name file none =
    ap (λ o. or_else (meaning_at (local_names xs) o) (find_in file name))
    (found (local_names xs) name ∙ sought_none (local_names xs) name (λ j x at same. let back = listed_back local_entry 0 j xs x at in none (0 + j) (same ∙ ap (λ z. z.0) back.2)))

-- ---- fields

types_same : (u : VarTy) → is_pointer u ≡ trees.is_pointer u
types_same (v.Int t) = refl
types_same (v.Struct n) = refl
types_same (v.Array elem count) = refl
types_same (v.Pointer elem fixed) = refl

pub plain_none : (n : ℕ) (u : VarTy) → is_plain_type n u ≡ true → is_pointer u ≡ false
plain_none n (v.Int t) h = refl
plain_none n (v.Struct m) h = refl
plain_none n (v.Array el count) h = refl
plain_none n (v.Pointer el fixed) h = cc

field_there : (fields : Fields) (all : List Field) (k : ℕ) (f : Field) → fields ≡ fields_as all → Differ (field_by all) (length all) → slice_get all k ≡ Some f → found_in fields (field_by all k) ≡ Some (record { number = k; entry = field_entry f })
field_there fields all k f is differ there =
    ap (λ fs. found_in fs (field_by all k)) is
    ∙ ap (option_and_then (λ n. option_map (λ entry. record { number = n; entry = entry }) (value_at (fields_as all) n))) number
    ∙ ap (option_map (λ entry. record { number = k; entry = entry })) (ap (option_map (λ e. e.1)) entry)
  where
    entry : slice_get (fields_as all) k ≡ Some (entry_of all k f)
    entry = listed_at (entry_of all) 0 k k all (omega arith) ∙ ap (option_map (entry_of all k)) there

    number : number_of (fields_as all) (field_by all k) ≡ Some k
    number =
        found (fields_as all) (field_by all k)
        ∙ sought_first (fields_as all) k (entry_of all k f) (listed_at (entry_of all) 0 k k all (omega arith) ∙ ap (option_map (entry_of all k)) there)
        (λ j y less at same. let back = listed_back (entry_of all) 0 j all y at in
        let zero_j : 0 + j ≡ j = omega arith in
        let low = get_below_length all k f there in
        let equal = differ k j low (omega (arith, less, low)) (same ∙ ap (λ z. z.0) back.2 ∙ ap (field_by all) zero_j) in omega (arith, less, equal))

-- a struct that has a field is one of the half's
struct_below : (infos : List StructInfo) (n k : ℕ) → k < length (fields_of infos n) → n < length infos
struct_below infos n k h = go (nat_lt n (length infos)) refl
  where
    beyond : (xs : List StructInfo) (n : ℕ) → length xs ≤ n → length (fields_of xs n) ≡ 0
    beyond [] n h = refl
    beyond (x ∷ xs) zero h = absurd (omega (arith, h))
    beyond (x ∷ xs) (suc n) h = beyond xs n (omega (arith, h))

    go : (b : Bool) → nat_lt n (length infos) ≡ b → n < length infos
    go true is = grind (arith, nat_tests, is)
    go false is = let over : length infos ≤ n = grind (arith, nat_tests, is) in let none = beyond infos n over in absurd (omega (arith, h, none))

field_known : (s : Scene) (structs : Structs) (n k : ℕ) → IsTable structs s.context.structs (length s.context.structs) → NamesDiffer s.context.structs → structs_sound s.context.structs 0 s.context.structs ≡ true → k < length (fields_of s.context.structs n)
    → FieldKnown s structs n k
field_known s structs n k table differ sound low =
    let infos = s.context.structs in
    let all = fields_of infos n in
    let near = struct_below infos n k low in
    let long = table.long in
    let there = get_there all k low in
    let x = get_there structs n (omega (arith, near, long)) in
    let own = table.entries n x.0 x.1 in
    let is : field_type infos (v.Struct n) k ≡ there.0.ty = ap (λ f. f.ty) (get_or_from_slice_get all k there.0 (record { name = []; ty = v.Int int.Int; marked = false }) there.1) in
    let plain = all_true_at (field_sound infos n) all k there.0 (fields_sound infos n sound near).1 there.1 in
    record {
      entry = field_entry there.0;
      named = ap (λ o. option_and_then (λ fields. found_in fields (field_by all k)) (option_map (λ s. s.fields) (option_map (λ e. e.1) o))) x.1 ∙ field_there x.0.1.fields all k there.0 own.fields (differ.fields n near) there.1;
      typed = ap type_as (sym is);
      changes = refl;
      plain = ap is_pointer is ∙ plain_none n there.0.ty (and_parts (is_plain_type n there.0.ty) (is_small infos there.0.ty) plain).0;
    }

-- ---- all of a half

-- what is asked of a half for its names to be known
pub record NamesApart (p : ProgramTree) : Type 0 where
  pub structs : NamesDiffer p.structs
  pub functions : FunctionsApart p.signatures
  pub globals : GlobalsApart p.globals

variable_known : (monitor : Bool) (p : ProgramTree) (f : FunctionTree) (frames : ℕ → List VarTy) (frame : sm.Frame) (calls : sm.Calls) (core_calls : c.Calls) (ys : List Variable) (n : ℕ)
    → AreVariables ys f.vars → length f.vars ≤ 2 ^ 64 → Differ local_name (2 ^ 64) → n < length f.vars
    → VariableKnown (scene_of p f frames frame calls core_calls) (standing monitor p f.vars ys) n
variable_known monitor p f frames frame calls core_calls ys n are small differ low = record {
  named = ap (λ o. or_else o (find_in (half_file p) (local_name n))) (local_found f.vars n low small differ);
  object = objects_at ys f.vars n are low;
}

-- a global's number and type
abbrev pub numbered : GlobalTree → ℕ × VarTy
numbered g = (g.id, g.var.ty)

-- what a list of pairs says of a number
global_pair : (gs : List GlobalTree) (n : ℕ) (u : VarTy) (k : ℕ) → slice_get (map numbered gs) k ≡ Some (n, u) → (g : GlobalTree) × (slice_get gs k ≡ Some g) × (g.id ≡ n) × (g.var.ty ≡ u)
global_pair gs n u k h = let back = mapped_back numbered gs k (n, u) h in (back.0, back.1, ap (λ z. z.0) back.2, ap (λ z. z.1) back.2)

global_known : (monitor : Bool) (p : ProgramTree) (f : FunctionTree) (frames : ℕ → List VarTy) (frame : sm.Frame) (calls : sm.Calls) (core_calls : c.Calls) (ys : List Variable) (n : ℕ) (u : VarTy)
    → NamesApart p → ((k : ℕ) (g : GlobalTree) → slice_get p.globals k ≡ Some g → is_pointer g.var.ty ≡ false)
    → lookup (nat_eq n) (map numbered p.globals) ≡ Some u
    → GlobalKnown (scene_of p f frames frame calls core_calls) (standing monitor p f.vars ys) n u
global_known monitor p f frames frame calls core_calls ys n u apart plain h =
    let at = lookup_place (map numbered p.globals) n u h in
    let g = global_pair p.globals n u at.place at.there in
    record {
      place = at.place;
      number = number_at 0 (map (λ g. g.id) p.globals) at.place n (get_mapped (λ g. g.id) p.globals at.place g.0 g.1 ∙ ap Some g.2);
      named =
          no_variable f.vars (global_name n) (half_file p) (λ v. global_no_local n v)
          ∙ ap (find_in (half_file p)) (ap global_name (sym g.2))
          ∙ ap (meaning_at (half_file p)) (global_found p.signatures p.globals at.place g.0 apart.globals g.1)
          ∙ global_meant p.signatures p.globals at.place g.0 g.1;
      object = ap (λ o. option_map_or (λ x. x) o no_object) (get_mapped global_object p.globals at.place g.0 g.1) ∙ ap object_as g.3;
      typed = get_or_from_slice_get (map (λ g. g.var.ty) p.globals) at.place u (v.Int int.Int) (get_mapped (λ g. g.var.ty) p.globals at.place g.0 g.1 ∙ ap Some g.3);
      plain = ap is_pointer (sym g.3) ∙ plain at.place g.0 g.1;
    }

pub all_known : (monitor : Bool) (p : ProgramTree) (f : FunctionTree) (frames : ℕ → List VarTy) (frame : sm.Frame) (calls : sm.Calls) (core_calls : c.Calls) (ys : List Variable) (structs : Structs)
    → AreVariables ys f.vars → length f.vars ≤ 2 ^ 64 → Differ local_name (2 ^ 64) → NamesApart p → ((k : ℕ) (g : GlobalTree) → slice_get p.globals k ≡ Some g → is_pointer g.var.ty ≡ false)
    → IsTable structs p.structs (length p.structs) → structs_sound p.structs 0 p.structs ≡ true
    → Known (scene_of p f frames frame calls core_calls) (standing monitor p f.vars ys) structs
all_known monitor p f frames frame calls core_calls ys structs are small differ apart plain table sound = record {
  variables = λ n low. variable_known monitor p f frames frame calls core_calls ys n are small differ (variable_low n low);
  globals = λ n u h. global_known monitor p f frames frame calls core_calls ys n u apart plain h;
  fields = λ n k low. field_known (scene_of p f frames frame calls core_calls) structs n k table apart.structs sound low;
  no_const = λ n. none_const structs p.structs (length p.structs) n table;
}
  where
    length_types : (xs : List Var) → length (map (λ x. x.ty) xs) ≡ length xs
    length_types [] = refl
    length_types (x ∷ xs) = ap suc (length_types xs)

    variable_low : (n : ℕ) → n < length (map (λ x. x.ty) f.vars) → n < length f.vars
    variable_low n low = let same = length_types f.vars in omega (arith, low, same)

-- ---- functions

pub own_name : (monitor : Bool) (o : Option FunctionTree) (s : Signature) (f : ℕ) → function_by f (Some (with_own monitor o s)) ≡ function_by f (Some s)
own_name monitor None s f = refl
own_name monitor (Some g) s f = go (monitor && not s.host)
  where
    go : (b : Bool) → function_by f (Some (if b then record s { params = take g.params s.params } else s)) ≡ function_by f (Some s)
    go true = refl
    go false = refl

pub own_main : (monitor : Bool) (o : Option FunctionTree) (s : Signature) → m.is_main (with_own monitor o s) ≡ m.is_main s
own_main monitor None s = refl
own_main monitor (Some g) s = go (monitor && not s.host)
  where
    go : (b : Bool) → m.is_main (if b then record s { params = take g.params s.params } else s) ≡ m.is_main s
    go true = refl
    go false = refl

pub called_from : (monitor : Bool) (p : ProgramTree) (f : ℕ) (signature : Signature) → called_signature monitor p f ≡ Some signature → (s : Signature) × (signature_at p f ≡ Some s) × (with_own monitor (function_at p f) s ≡ signature)
called_from monitor p f signature h = go (signature_at p f) refl h
  where
    go : (o : Option Signature) → signature_at p f ≡ o → option_map (with_own monitor (function_at p f)) o ≡ Some signature → (s : Signature) × (signature_at p f ≡ Some s) × (with_own monitor (function_at p f) s ≡ signature)
    go None is e = cc
    go (Some s) is e = (s, is, same e)
      where
        same : Some (with_own monitor (function_at p f) s) ≡ Some signature → with_own monitor (function_at p f) s ≡ signature
        same e = cc

params_fused : (ps : List Param) → map (λ q. type_as q.ty) (map marked_param ps) ≡ map (λ x. type_as (param_type x.kind)) ps
params_fused [] = refl
params_fused (x ∷ ps) = ap (λ ts. type_as (param_type x.kind) ∷ ts) (params_fused ps)

function_known : (monitor : Bool) (p : ProgramTree) (f : FunctionTree) (frames : ℕ → List VarTy) (frame : sm.Frame) (calls : sm.Calls) (core_calls : c.Calls) (ys : List Variable) (n : ℕ) (s : Signature)
    → NamesApart p → signature_at p n ≡ Some s → not (m.is_main (with_own monitor (function_at p n) s)) ≡ true
    → FunctionKnown (scene_of p f frames frame calls core_calls) p.signatures (standing monitor p f.vars ys) n (with_own monitor (function_at p n) s)
function_known monitor p f frames frame calls core_calls ys n s apart there other =
    let at = lookup_place p.signatures n s there in
    record {
      place = at.place;
      number = number_at 0 (map (λ x. x.0) p.signatures) at.place n (get_mapped (λ x. x.0) p.signatures at.place (n, s) at.there);
      named =
          ap (λ o. find (standing monitor p f.vars ys) (function_by n o)) there
          ∙ no_variable f.vars (function_by n (Some s)) (half_file p) (λ v. no_local n s v)
          ∙ ap (meaning_at (half_file p)) (function_found p.signatures p.globals at.place (n, s) apart.functions at.there)
          ∙ function_meant p.signatures p.globals at.place (n, s) at.there;
      callable = callable_in monitor p (n, s);
      known = get_mapped (callable_in monitor p) p.signatures at.place (n, s) at.there;
      no_main = no_main n s (sym (own_main monitor (function_at p n) s) ∙ from_not_true (m.is_main (with_own monitor (function_at p n) s)) other);
      params = params_fused (with_own monitor (function_at p n) s).params;
      result = refl;
    }

pub functions_known : (monitor : Bool) (p : ProgramTree) (f : FunctionTree) (frames : ℕ → List VarTy) (frame : sm.Frame) (calls : sm.Calls) (core_calls : c.Calls) (ys : List Variable)
    → NamesApart p → FunctionsKnown (scene_of p f frames frame calls core_calls) p.signatures (called_signature monitor p) (standing monitor p f.vars ys)
functions_known monitor p f frames frame calls core_calls ys apart n signature h other =
    let from = called_from monitor p n signature h in
    subst (FunctionKnown (scene_of p f frames frame calls core_calls) p.signatures (standing monitor p f.vars ys) n) from.2
    (function_known monitor p f frames frame calls core_calls ys n from.0 apart from.1 (subst (λ z. not (m.is_main z) ≡ true) (sym from.2) other))
