-- Which programs in the normal form are well formed: whole ones, the slave's, the monitor's, and what the
-- slave starts from.
use Rattle.std.specs.Prelude.{ℕ, suc, List, [], ◌∷◌, Option, Some, None, Bool, true, false, ◌&&◌, ◌||◌, not, if◌then◌else◌, nat_eq, nat_le, length, map, sum_by, take, drop, is_some, option_map}
use Rattle.std.specs.List.{list_all, list_any, find, filter, flat_map}
use Rattle.std.specs.Map.{lookup}
use Rattle.pt_tree.specs.declared.signature.Elem.{Elem}
use Rattle.pt_tree.specs.declared.signature.Param.{Param}
use Rattle.pt_tree.specs.declared.signature.Signature.{Signature}
use Rattle.pt_tree.specs.declared.host_model.HostModel.{HostModel}
use Rattle.typed_tree.specs.declared.types.VarTy.{VarTy}
use Rattle.typed_tree.specs.declared.types.StructInfo.{StructInfo}
use Rattle.typed_tree.specs.declared.variable.Var.{Var}
use Rattle.typed_tree.specs.Cells.{leaves_of}
use Rattle.typed_tree.specs.TypeTests.{both_elem, pointee_of, element_of, item_of}
use Rattle.typed_tree.specs.WellFormedExpression.{param_type, is_main}
use Rattle.typed_tree.specs.WellFormed.{structs_sound, is_plain_type, is_variable_type, is_small, cells_fit, is_integer_param, params_lead, is_int_result, are_rising}
use Rattle.pt_core.specs.declared.monitor.Bind.{Bind}
use Rattle.pt_core.specs.declared.monitor.Entry.{Entry}
use Rattle.pt_core.specs.CodeTree.{FunctionTree, GlobalTree, ProgramTree, SlaveTree, MonitorTree, BootTree}
use Rattle.pt_core.specs.Types.{Context}
use Rattle.pt_core.specs.WellFormedStatement.{Scope, stmts_fit, callees_of}

-- ---- what numbers name

abbrev pub signature_at : ProgramTree → ℕ → Option Signature
signature_at p f = lookup (nat_eq f) p.signatures

abbrev pub function_at : ProgramTree → ℕ → Option FunctionTree
function_at p f = find (λ g. nat_eq f g.id) p.functions

abbrev pub global_at : ProgramTree → ℕ → Option GlobalTree
global_at p g = find (λ x. nat_eq g x.id) p.globals

-- the lists of what is numbered are in the order of the numbers, with no number twice
abbrev pub are_in_order : ProgramTree → Bool
are_in_order p = are_rising 0 (map (λ s. s.0) p.signatures) && (are_rising 0 (map (λ f. f.id) p.functions) && are_rising 0 (map (λ g. g.id) p.globals))

-- ---- globals and signatures

-- a global is no pointer, and has one number in range for each integer of its type
abbrev pub global_fits : List StructInfo → GlobalTree → Bool
global_fits structs g =
    (is_plain_type (length structs) g.var.ty && is_small structs g.var.ty) && cells_fit (leaves_of structs g.var.ty) g.cells

-- all globals together, in cells
abbrev pub are_small : List GlobalTree → Bool
are_small globals = nat_le (sum_by (λ g. length g.cells) globals) 1_048_576

abbrev pub param_fits : ℕ → Param → Bool
param_fits structs x = is_variable_type structs (param_type x.kind)

-- a host's parameters are integers
abbrev pub signature_fits : List StructInfo → Signature → Bool
signature_fits structs s =
    (nat_le (length s.params) 8 && list_all (param_fits (length structs)) s.params)
    && (not s.host || list_all is_integer_param s.params)

-- ---- functions

abbrev pub variable_fits : List StructInfo → Var → Bool
variable_fits structs x = is_variable_type (length structs) x.ty && is_small structs x.ty

-- the types that code names which has these variables
abbrev pub context_of : ProgramTree → List Var → Context
context_of p vars = record {
  structs = p.structs;
  globals = map (λ g. (g.id, g.var.ty)) p.globals;
  variables = map (λ x. x.ty) vars;
}

-- how many arguments the calls in a program give: in the monitor's a function that is no host is given
-- its own parameters alone
abbrev pub with_own : Bool → Option FunctionTree → Signature → Signature
with_own monitor None s = s
with_own monitor (Some f) s = if monitor && not s.host then record s { params = take f.params s.params } else s

abbrev pub called_signature : Bool → ProgramTree → ℕ → Option Signature
called_signature monitor p f = option_map (with_own monitor (function_at p f)) (signature_at p f)

abbrev pub scope_of : Bool → ProgramTree → FunctionTree → Signature → Scope
scope_of monitor p f s = record { context = context_of p f.vars; result = s.result; called = called_signature monitor p }

-- a function has all parameters of its signature, or, in the monitor's program, the first ones
abbrev pub counts_fit : Bool → ℕ → ℕ → Bool
counts_fit monitor own all = if monitor then nat_le own all else nat_eq own all

-- a function is no host, and has the parameters and the result that its signature says
abbrev pub function_by : Bool → ProgramTree → FunctionTree → Option Signature → Bool
function_by monitor p f None = false
function_by monitor p f (Some s) =
    (not s.host && (counts_fit monitor f.params (length s.params) && params_lead (take f.params s.params) f.vars))
    && (list_all (variable_fits p.structs) f.vars && stmts_fit (scope_of monitor p f s) false f.body)

abbrev pub function_fits : Bool → ProgramTree → FunctionTree → Bool
function_fits monitor p f = function_by monitor p f (signature_at p f.id)

-- ---- calls

-- what the program's functions call
abbrev pub callees : ProgramTree → List ℕ
callees p = flat_map (λ f. callees_of f.body) p.functions

-- A called function is among the functions, unless it is a host or, but in the monitor's program,
-- privileged.
abbrev pub callee_by : Bool → ProgramTree → ℕ → Option Signature → Bool
callee_by monitor p f None = false
callee_by monitor p f (Some s) = (s.host || (s.privileged && not monitor)) || is_some (function_at p f)

abbrev pub callee_fits : Bool → ProgramTree → ℕ → Bool
callee_fits monitor p f = callee_by monitor p f (signature_at p f)

-- ---- main

abbrev pub is_main_by : Option Signature → Bool
is_main_by None = false
is_main_by (Some s) = is_main s

abbrev pub starts_by : Option Signature → Bool
starts_by None = false
starts_by (Some s) = is_int_result s.result && nat_eq (length s.params) 0

-- there is one function, and it has the result int and no parameters
abbrev pub is_only_start : ProgramTree → List FunctionTree → Bool
is_only_start p [] = false
is_only_start p (f ∷ []) = starts_by (signature_at p f.id)
is_only_start p (f ∷ (g ∷ rest)) = false

-- one function, and no second, has the name main, and it may be started
abbrev pub has_main : ProgramTree → Bool
has_main p = is_only_start p (filter (λ f. is_main_by (signature_at p f.id)) p.functions)

-- ---- programs

-- what holds of every program, main aside
abbrev pub is_sound : Bool → ProgramTree → Bool
is_sound monitor p =
    (are_in_order p && structs_sound p.structs 0 p.structs)
    && ((list_all (global_fits p.structs) p.globals && are_small p.globals)
    && ((list_all (λ s. signature_fits p.structs s.1) p.signatures && list_all (function_fits monitor p) p.functions)
    && list_all (callee_fits monitor p) (callees p)))

-- a whole program, or the slave's
unfoldable pub is_well_formed : ProgramTree → Bool
is_well_formed p = is_sound false p && has_main p

abbrev pub slave_program : SlaveTree → ProgramTree
slave_program s = record { structs = s.structs; signatures = s.signatures; functions = s.functions; globals = s.globals }

unfoldable pub is_well_formed_slave : SlaveTree → Bool
is_well_formed_slave s = is_well_formed (slave_program s)

-- ---- hosts

-- what a boot's list of hosts is tested by: which models fit which signatures
abbrev pub Fits : Type 0
Fits = HostModel → Signature → Bool

-- the number is a host's, and the model fits it
abbrev pub host_by : Fits → HostModel → Option Signature → Bool
host_by fits model None = false
host_by fits model (Some s) = s.host && fits model s

abbrev pub host_fits : Fits → ProgramTree → ℕ × HostModel → Bool
host_fits fits p h = host_by fits h.1 (signature_at p h.0)

-- a host that isn't privileged
abbrev pub is_plain_host : Option Signature → Bool
is_plain_host None = false
is_plain_host (Some s) = s.host && not s.privileged

-- it is no such host, or among these
abbrev pub is_answered : ProgramTree → List ℕ → ℕ → Bool
is_answered p hosts f = not (is_plain_host (signature_at p f)) || list_any (nat_eq f) hosts

-- the hosts are in order, each model fits, and none is wanting that is called and isn't privileged
abbrev pub hosts_fit : Fits → ProgramTree → List (ℕ × HostModel) → Bool
hosts_fit fits p hosts =
    (are_rising 0 (map (λ h. h.0) hosts) && list_all (host_fits fits p) hosts)
    && list_all (is_answered p (map (λ h. h.0) hosts)) (callees p)

abbrev pub boot_program : BootTree → ProgramTree
boot_program b = record { structs = b.structs; signatures = b.signatures; functions = b.functions; globals = b.globals }

unfoldable pub is_well_formed_boot : Fits → BootTree → Bool
is_well_formed_boot fits b = is_well_formed (boot_program b) && hosts_fit fits (boot_program b) b.hosts

-- ---- the monitor's program

-- of what a global consists, or what it is
abbrev pub shared_elem : VarTy → Option Elem
shared_elem ty = if is_some (item_of (Some ty)) then item_of (Some ty) else element_of (Some ty)

-- the parameter points to what the global consists of
abbrev pub bind_by : Param → Option GlobalTree → Bool
bind_by x None = false
bind_by x (Some g) = both_elem (pointee_of (Some (param_type x.kind))) (shared_elem g.var.ty)

-- the parameters from this one on are bound, each by one bind, in order
abbrev pub binds_fit : ProgramTree → ℕ → List Param → List Bind → Bool
binds_fit p k [] [] = true
binds_fit p k [] (b ∷ bs) = false
binds_fit p k (x ∷ xs) [] = false
binds_fit p k (x ∷ xs) (b ∷ bs) = (nat_eq b.argument k && bind_by x (global_at p b.global.0)) && binds_fit p (suc k) xs bs

-- no number twice
abbrev pub are_different : List ℕ → Bool
are_different [] = true
are_different (n ∷ ns) = not (list_any (nat_eq n) ns) && are_different ns

-- an entry that is no host is among the functions, and the parameters behind its own are bound
abbrev pub bound_by : ProgramTree → List Bind → Signature → Option FunctionTree → Bool
bound_by p shared s None = false
bound_by p shared s (Some f) = binds_fit p f.params (drop f.params s.params) shared && are_different (map (λ b. b.global.0) shared)

-- a host among the entries binds nothing
abbrev pub entry_by : ProgramTree → Entry → Option Signature → Bool
entry_by p e None = false
entry_by p e (Some s) = if s.host then nat_eq (length e.shared) 0 else bound_by p e.shared s (function_at p e.function.0)

abbrev pub entry_fits : ProgramTree → Entry → Bool
entry_fits p e = entry_by p e (signature_at p e.function.0)

abbrev pub entries_fit : ProgramTree → List Entry → Bool
entries_fit p entries = are_rising 0 (map (λ e. e.function.0) entries) && list_all (entry_fits p) entries

abbrev pub monitor_program : MonitorTree → ProgramTree
monitor_program m = record { structs = m.structs; signatures = m.signatures; functions = m.functions; globals = m.globals }

-- main aside
unfoldable pub is_well_formed_monitor : MonitorTree → Bool
is_well_formed_monitor m = is_sound true (monitor_program m) && entries_fit (monitor_program m) m.entries
