-- What a machine asks for may be packed.
use Rattle.std.proofs.Common.{◌≡◌, ◌≤◌, ℕ, zero, suc, ap, sym, refl, subst, arith, nat_eq, List, [], ◌∷◌, map, length, Bool, true, false, Option, Some, None, if◌then◌else◌}
use Rattle.std.specs.Prelude.{IsTrue, ◌&&◌, ◌||◌, not, is_some, nat_le, option_map, slice_get, take, unwrap_or}
use Rattle.std.specs.List.{list_all}
use Rattle.std.specs.Map.{lookup}
use Rattle.std.proofs.lemmas.Bool.{eq-eqb, and_from}
use Rattle.std.proofs.lemmas.Bool.Decides.{nat_tests}
use Rattle.pt_base.specs.declared.int_type.IntType.{IntType}
use Rattle.pt_base.proofs.Booleans.{both_hold_first, both_hold_second}
use Rattle.pt_tree.specs.declared.signature.Param.{Param}
use Rattle.pt_tree.specs.declared.signature.Signature.{Signature}
use Rattle.typed_tree.specs.declared.types.StructInfo.{StructInfo}
use Rattle.typed_tree.specs.declared.types.VarTy.{VarTy}
use Rattle.typed_tree.specs.declared.types.VarTy.TheVariants.{Int, Struct, Array, Pointer}
use Rattle.typed_tree.specs.declared.variable.Var.{Var}
use Rattle.typed_tree.specs.Cells.{leaves_of}
use Rattle.typed_tree.specs.WellFormed.{cells_fit, is_integer_param, is_plain_type, is_small, is_variable_type}
use Rattle.typed_tree.specs.WellFormedExpression.{param_type}
use Rattle.block_memory.specs.declared.cell.BlockName.{BlockName}
use Rattle.block_memory.specs.declared.cell.BlockName.TheVariants.{Local, Global, Received}
use Rattle.block_memory.specs.declared.cell.Cell.{Cell}
use Rattle.block_memory.specs.declared.cell.Cell.TheVariants as cell
use Rattle.block_memory.specs.Block.{Block}
use Rattle.block_memory.specs.Blocks.{Blocks}
use Rattle.pt_core.specs.Calls.{context_in, function_in, no_function, no_signature}
use Rattle.pt_core.specs.CodeTree.{FunctionTree, ProgramTree}
use Rattle.pt_core.specs.Steps.{Active}
use Rattle.pt_core.specs.WellFormed.{function_at, global_fits, signature_at, signature_fits, variable_fits, with_own}
use Rattle.core_soundness_law.specs.Kept.{Kept}
use Rattle.core_soundness_law.specs.Fits.{IntegersFit, LocalFits, MemoryFits, variables_at}
use Rattle.core_soundness_law.specs.Outside.{ArgumentsFit}
use Rattle.core_soundness_law.specs.StepLaws.{called_params, params_of}
use Rattle.core_soundness_law.proofs.Programs.{FunctionFacts, GlobalOf, ProgramFacts, facts_of, function_facts, global_of, variable_of}
use Rattle.marshalling.specs.HonestCalls.{is_integer}
use Rattle.marshalling.specs.Packing.{is_among, names_of}
use Rattle.marshalling.specs.Taking.{is_whole}
use Rattle.marshalling.proofs.SoundStructs.{structs_stand}
use Rattle.marshalling.proofs.CountLemmas.{names_more}
use Rattle.marshalling_law.specs.CallsPackable.{AllAreGiven, AreSmall, CallsArePackable}
use Rattle.marshalling_law.specs.CallsSending.{AreParameters}
use Rattle.marshalling_law.proofs.CallsTargets.{IsTarget, all_integers, as_many, block_integers, each_name, target_among}

-- ---- names

pub few_names : (args : List Cell) → length (names_of args) ≤ length args
few_names args = let most = names_more [] args in omega (arith, most)

pub as_many_given : (kept : Kept) (structs : List StructInfo) (x : Blocks) (depth : ℕ) (params : List Param) (args : List Cell) → ArgumentsFit kept structs x depth params args → length args ≡ length params
as_many_given kept structs x depth [] [] f = refl
as_many_given kept structs x depth [] (c ∷ args) f = elim f [ ]
as_many_given kept structs x depth (p ∷ params) [] f = elim f [ ]
as_many_given kept structs x depth (p ∷ params) (c ∷ args) f = ap suc (as_many_given kept structs x depth params args f.1)

-- ---- sizes of blocks

abbrev IsSmall : List StructInfo → VarTy → Type 0
IsSmall structs ty = length (leaves_of structs ty) ≤ 65_536

small : (structs : List StructInfo) (ty : VarTy) → IsTrue (is_small structs ty) → IsSmall structs ty
small structs ty h = few (length (leaves_of structs ty)) h
  where
    few : (k : ℕ) → IsTrue (nat_le k 65_536) → k ≤ 65_536
    few k h = grind (arith, nat_tests)

variable_small : (monitor : Bool) (program : ProgramTree) → ProgramFacts monitor program → (f v : ℕ) (ty : VarTy) → slice_get (context_in program f).variables v ≡ Some ty → IsSmall program.structs ty
variable_small monitor program facts f v ty is = go (function_at program f) refl is
  where
    go : (o : Option FunctionTree) → function_at program f ≡ o → slice_get (map (λ (x : Var). x.ty) (unwrap_or o no_function).vars) v ≡ Some ty → IsSmall program.structs ty
    go None e h = cc
    go (Some g) e h =
        let function : FunctionFacts monitor program f = function_facts monitor program facts f (subst (λ o. IsTrue (is_some o)) (sym e) refl) in
        let all = subst (λ (g : FunctionTree). IsTrue (list_all (variable_fits program.structs) g.vars)) (sym function.tree_is) function.variables in
        let of : (x : Var) × IsTrue (variable_fits program.structs x) × (x.ty ≡ ty) = variable_of (variable_fits program.structs) (function_in program f).vars v ty is all in
        subst (IsSmall program.structs) of.2 (small program.structs of.0.ty (both_hold_second (is_variable_type (length program.structs) of.0.ty) (is_small program.structs of.0.ty) of.1))

variables_small : (monitor : Bool) (program : ProgramTree) → ProgramFacts monitor program → (active : List Active) (d v : ℕ) (ty : VarTy) → slice_get (variables_at program active d) v ≡ Some ty → IsSmall program.structs ty
variables_small monitor program facts [] d v ty is = cc
variables_small monitor program facts (a ∷ rest) d v ty is = go (λ e. variables_small monitor program facts rest d v ty e) (nat_eq d a.depth) is
  where
    go : (slice_get (variables_at program rest d) v ≡ Some ty → IsSmall program.structs ty) → (t : Bool) → slice_get (if t then (context_in program a.function).variables else variables_at program rest d) v ≡ Some ty → IsSmall program.structs ty
    go more true e = variable_small monitor program facts a.function v ty e
    go more false e = more e

abbrev types_in : Block → List IntType
types_in b = b.types

as_small : (types ts : List IntType) → types ≡ ts → length ts ≤ 65_536 → length types ≤ 65_536
as_small types ts is h = let long : length types ≡ length ts = ap (λ (us : List IntType). length us) is in omega (arith, long, h)

no_more : length {A = IntType} [] ≤ 65_536
no_more = omega arith

local_small : (kept : Kept) (structs : List StructInfo) (x : Blocks) (depth : ℕ) (o : Option VarTy) (b : Block) → LocalFits kept structs x depth o b → ((ty : VarTy) → o ≡ Some ty → IsSmall structs ty) → length b.types ≤ 65_536
local_small kept structs x depth None b f known = as_small b.types [] (ap types_in f) no_more
local_small kept structs x depth (Some (Int t)) b f known = as_small b.types (leaves_of structs (Int t)) f.types_are (known (Int t) refl)
local_small kept structs x depth (Some (Struct n)) b f known = as_small b.types (leaves_of structs (Struct n)) f.types_are (known (Struct n) refl)
local_small kept structs x depth (Some (Array elem count)) b f known = as_small b.types (leaves_of structs (Array elem count)) f.types_are (known (Array elem count) refl)
local_small kept structs x depth (Some (Pointer elem fixed)) b f known = as_small b.types [] f.none no_more

-- each block is as small as an object
pub block_small : (kept : Kept) (monitor : Bool) (program : ProgramTree) → ProgramFacts monitor program → (active : List Active) (x : Blocks) → MemoryFits kept program active x → AreSmall x → (name : BlockName) → length (x name).types ≤ 65_536
block_small kept monitor program facts active x mem received (Local d v) =
    local_small kept program.structs x d (slice_get (variables_at program active d) v) (x (Local d v)) (mem.locals d v) (λ ty is. variables_small monitor program facts active d v ty is)
block_small kept monitor program facts active x mem received (Received n) = received n
block_small kept monitor program facts active x mem received (Global g) = go (lookup (nat_eq g) (context_in program 0).globals) refl
  where
    go : (o : Option VarTy) → lookup (nat_eq g) (context_in program 0).globals ≡ o → length (x (Global g)).types ≤ 65_536
    go None e = as_small (x (Global g)).types [] (ap types_in (mem.beyond g e)) no_more
    go (Some ty) e =
        let of : GlobalOf (global_fits program.structs) ty = global_of (global_fits program.structs) g program.globals ty e facts.globals in
        let fits = both_hold_first (is_plain_type (length program.structs) of.of.var.ty && is_small program.structs of.of.var.ty) (cells_fit (leaves_of program.structs of.of.var.ty) of.of.cells) of.fits in
        as_small (x (Global g)).types (leaves_of program.structs ty) (mem.globals g ty e)
        (subst (IsSmall program.structs) of.typed (small program.structs of.of.var.ty (both_hold_second (is_plain_type (length program.structs) of.of.var.ty) (is_small program.structs of.of.var.ty) fits)))

-- ---- parameters

-- at most as many parameters as a call has arguments, each of a variable's type
pub record AreFew (structs : List StructInfo) (params : List Param) : Type 0 where
  pub few : length params ≤ 8
  pub are : AreParameters structs params

take_few : {A : Type 0} (n : ℕ) (xs : List A) → length (take n xs) ≤ length xs
take_few zero xs = omega arith
take_few (suc n) [] = omega arith
take_few (suc n) (x ∷ xs) = let rest : length (take n xs) ≤ length xs = take_few n xs in omega (arith, rest)

take_each : {A : Type 0} (Q : A → Bool) (n : ℕ) (xs : List A) → list_all Q xs ≡ true → list_all Q (take n xs) ≡ true
take_each Q zero xs h = refl
take_each Q (suc n) [] h = refl
take_each Q (suc n) (x ∷ xs) h = and_from (Q x) (list_all Q (take n xs)) (both_hold_first (Q x) (list_all Q xs) h) (take_each Q n xs (both_hold_second (Q x) (list_all Q xs) h))

abbrev is_parameter : List StructInfo → Param → Bool
is_parameter structs p = is_variable_type (length structs) (param_type p.kind)

signature_params : (structs : List StructInfo) (s : Signature) → IsTrue (signature_fits structs s) → AreFew structs s.params
signature_params structs s h =
    let both = both_hold_first (nat_le (length s.params) 8 && list_all (is_parameter structs) s.params) (not s.host || list_all is_integer_param s.params) h in
    record { few = low (length s.params) (both_hold_first (nat_le (length s.params) 8) (list_all (is_parameter structs) s.params) both); are = both_hold_second (nat_le (length s.params) 8) (list_all (is_parameter structs) s.params) both }
  where
    low : (k : ℕ) → IsTrue (nat_le k 8) → k ≤ 8
    low k h = grind (arith, nat_tests)

with_own_params : (structs : List StructInfo) (monitor : Bool) (o : Option FunctionTree) (s : Signature) → AreFew structs s.params → AreFew structs (with_own monitor o s).params
with_own_params structs monitor None s h = h
with_own_params structs monitor (Some g) s h = go (monitor && not s.host)
  where
    go : (b : Bool) → AreFew structs (if b then record s { params = take g.params s.params } else s).params
    go false = h
    go true = let most = take_few g.params s.params in let few = h.few in record { few = omega (arith, most, few); are = take_each (is_parameter structs) g.params s.params h.are }

pub found_signature : (Q : Signature → Bool) (f : ℕ) (xs : List (ℕ × Signature)) (s : Signature) → lookup (nat_eq f) xs ≡ Some s → list_all (λ x. Q x.1) xs ≡ true → Q s ≡ true
found_signature Q f [] s is h = cc
found_signature Q f (x ∷ xs) s is h = go (λ e. found_signature Q f xs s e (both_hold_second (Q x.1) (list_all (λ y. Q y.1) xs) h)) (nat_eq f x.0) is
  where
    same : Some x.1 ≡ Some s → x.1 ≡ s
    same e = cc

    go : (lookup (nat_eq f) xs ≡ Some s → Q s ≡ true) → (b : Bool) → (if b then Some x.1 else lookup (nat_eq f) xs) ≡ Some s → Q s ≡ true
    go more true e = subst (λ (y : Signature). Q y ≡ true) (same e) (both_hold_first (Q x.1) (list_all (λ y. Q y.1) xs) h)
    go more false e = more e

pub called_few : (monitor : Bool) (program : ProgramTree) → ProgramFacts monitor program → (f : ℕ) → AreFew program.structs (called_params monitor program f)
called_few monitor program facts f = go (signature_at program f) refl
  where
    go : (o : Option Signature) → signature_at program f ≡ o → AreFew program.structs (params_of (option_map (with_own monitor (function_at program f)) o))
    go None e = record { few = omega arith; are = refl }
    go (Some s) e = with_own_params program.structs monitor (function_at program f) s (signature_params program.structs s (found_signature (signature_fits program.structs) f program.signatures s e facts.signatures))

-- ---- the laws

pub calls_are_packable : CallsArePackable
calls_are_packable kept monitor program a rest x f args sound mem received given = record {
  count = count;
  few = few_args (length args) (length (called_params monitor program f)) count fits.few;
  named = few_names args;
  there = structs_stand program.structs (called_params monitor program f) facts.structs fits.are;
  whole = each_name (λ name. is_whole (x name)) (names_of args) (λ name among. whole name (target name among));
  some = each_name (λ name. nat_le 1 (length (x name).cells)) (names_of args) (λ name among. some name (target name among));
  integers = each_name (λ name. list_all is_integer (x name).cells) (names_of args) (λ name among. all_integers kept (x name).types (x name).cells (integers name (target name among).some));
}
  where
    facts : ProgramFacts monitor program
    facts = facts_of monitor program sound

    fits : AreFew program.structs (called_params monitor program f)
    fits = called_few monitor program facts f

    count : length args ≡ length (called_params monitor program f)
    count = as_many_given kept program.structs x a.depth (called_params monitor program f) args given

    few_args : (m n : ℕ) → m ≡ n → n ≤ 8 → m ≤ 8
    few_args m n same h = omega (arith, same, h)

    target : (name : BlockName) → is_among (names_of args) name ≡ true → IsTarget x a.depth name
    target name among = target_among kept program.structs x a.depth name (called_params monitor program f) args facts.structs fits.are given among

    integers : (name : BlockName) → 1 ≤ length (x name).types → IntegersFit kept (x name).types (x name).cells
    integers = block_integers kept program (a ∷ rest) x mem

    whole : (name : BlockName) → IsTarget x a.depth name → is_whole (x name) ≡ true
    whole name t =
        let same = as_many kept (x name).types (x name).cells (integers name t.some) in
        and_from (nat_eq (length (x name).types) (length (x name).cells)) (nat_le (length (x name).cells) 65_536) (eq-eqb (length (x name).types) (length (x name).cells) same)
        (fits_in (length (x name).types) (length (x name).cells) same (block_small kept monitor program facts (a ∷ rest) x mem received name))
      where
        fits_in : (a b : ℕ) → a ≡ b → a ≤ 65_536 → nat_le b 65_536 ≡ true
        fits_in a b h k = grind (arith, nat_tests, h, k)

    some : (name : BlockName) → IsTarget x a.depth name → nat_le 1 (length (x name).cells) ≡ true
    some name t = at_least (length (x name).types) (length (x name).cells) (as_many kept (x name).types (x name).cells (integers name t.some)) t.some
      where
        at_least : (a b : ℕ) → a ≡ b → 1 ≤ a → nat_le 1 b ≡ true
        at_least a b h k = grind (arith, nat_tests, h, k)

pub all_are_given : AllAreGiven
all_are_given program f = go (signature_at program f) refl
  where
    own : (o : Option FunctionTree) (s : Signature) → (with_own false o s).params ≡ s.params
    own None s = refl
    own (Some g) s = refl

    go : (o : Option Signature) → signature_at program f ≡ o → params_of (option_map (with_own false (function_at program f)) o) ≡ (unwrap_or o no_signature).params
    go None e = refl
    go (Some s) e = own (function_at program f) s
