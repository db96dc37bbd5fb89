-- Globals (C99 6.9.2).
use Rattle.std.specs.Prelude.{ℕ, ◌+◌, ◌-◌, ℤ, pos, List, [], ◌∷◌, ◌++◌, Bool, true, not, ◌&&◌, None, length, nat_lt, nat_le, replicate, take, if◌then◌else◌}
use Rattle.pt_tree.specs.declared.specifier.Declarator.{Declarator}
use Rattle.pt_tree.specs.StatementTree.{InitDeclaratorTree, DeclarationTree}
use Rattle.type_rules.specs.declared.types.Type.{«Type»}
use Rattle.typed_tree.specs.declared.variable.Var.{Var}
use Rattle.typed_tree.specs.declared.variable.TypedGlobal.{TypedGlobal}
use Rattle.check_declarations.specs.declared.fault.FaultKind.TheVariants.{Redeclared, TooLarge}
use Rattle.check_declarations.specs.declared.fault.TypeFault.{TypeFault}
use Rattle.check_declarations.specs.declared.marks.Carrier.{Carrier}
use Rattle.check_declarations.specs.declared.marks.Carrier.TheVariants as carrier
use Rattle.check_declarations.specs.declared.objects.ObjectKind.TheVariants as kind
use Rattle.check_declarations.specs.declared.specifiers.Specified.{Specified}
use Rattle.check_declarations.specs.Cells.{counted, cells_of}
use Rattle.check_declarations.specs.Faults.{fault_if}
use Rattle.check_declarations.specs.Marks.{marks_of, mark_faults}
use Rattle.check_declarations.specs.NameTables.{is_new}
use Rattle.check_declarations.specs.Objects.{object_faults, object_type, is_fixed, size_faults}
use Rattle.check_declarations.specs.Specifiers.{specified}
use Rattle.check_declarations.specs.Structs.{Structs}
use Rattle.check_expressions.specs.declared.meaning.Object.{Object}
use Rattle.check_expressions.specs.Environment.{with_global}
use Rattle.check_expressions.specs.StructInfos.{object_type_of}
use Rattle.check_statements.specs.GlobalInitialisers.{global_initialised}
use Rattle.check_programs.specs.Progress.{Progress}
use Rattle.check_programs.specs.Functions.{Checked}

-- the most cells that all globals may have together
abbrev pub globals_limit : ℕ
globals_limit = 1048576

abbrev pub global_type : Specified → Declarator → «Type»
global_type given d = object_type kind.Global given d.pointer d.suffix

abbrev pub object_of : Specified → Declarator → Object
object_of given d = record { ty = global_type given d; fixed = is_fixed kind.Global given d.pointer d.suffix }

abbrev pub var_of : Specified → Declarator → Var
var_of given d = record {
  name = d.name.bytes;
  span = d.name.span;
  ty = object_type_of (global_type given d);
  marked = (marks_of given.attributes).marked;
  unpriv = (marks_of given.attributes).unpriv;
  holds = None;
}

-- so many cells, then so many: the cells of all globals with a further one
abbrev pub cells_with : ℕ → ℕ → ℕ
cells_with total count = counted (total + count)

-- with this one, and not before, the sum goes over the limit
abbrev pub brings_over : ℕ → ℕ → Bool
brings_over total count = nat_le total globals_limit && nat_lt globals_limit (cells_with total count)

-- so many cells: the values, and 0 behind them
abbrev pub padded : ℕ → List ℤ → List ℤ
padded count values = take count values ++ replicate (count - length values) (pos 0)

-- what a global starts with; nothing past the limit
abbrev pub start_cells : ℕ → ℕ → List ℤ → List ℤ
start_cells total count values = if nat_le (cells_with total count) globals_limit then padded count values else []

abbrev pub typed_global : Specified → Declarator → List ℤ → TypedGlobal
typed_global given d cells = record {
  var = var_of given d;
  fixed = is_fixed kind.Global given d.pointer d.suffix;
  declassify = (marks_of given.attributes).declassify;
  cells = cells;
}

-- the faults of the declaration itself: of the type, the size, a name that the file has, and all globals
abbrev pub global_faults : Structs → Specified → Declarator → Bool → Bool → List TypeFault
global_faults structs given d repeated over =
    object_faults kind.Global given d.pointer d.suffix d.name.span
    ++ size_faults structs (global_type given d) d.name.span
    ++ fault_if repeated Redeclared d.name.span
    ++ fault_if over TooLarge d.name.span

-- a declarator: the global is known in its own initialiser (C99 6.2.1p7)
abbrev pub declared_one : Specified → Progress → InitDeclaratorTree → Checked
declared_one given st i =
    let d = i.declarator in
    let ty = global_type given d in
    let count = cells_of st.structs ty in
    let known = with_global st.env d.name.bytes (object_of given d) in
    let init = global_initialised known st.structs ty i.init in
    record {
      progress = record {
        env = known;
        structs = init.structs;
        functions = st.functions;
        globals = st.globals ++ typed_global given d (start_cells st.cells count init.values) ∷ [];
        cells = cells_with st.cells count;
        exprs = st.exprs;
        has_main = st.has_main;
      };
      faults =
          global_faults st.structs given d (not (is_new st.env.file d.name.bytes)) (brings_over st.cells count)
          ++ init.faults;
    }

abbrev pub declared_all : Specified → Progress → List InitDeclaratorTree → Checked
declared_all given st [] = record { progress = st; faults = [] }
declared_all given st (d ∷ ds) =
    let one = declared_one given st d in
    let rest = declared_all given one.progress ds in
    record { progress = rest.progress; faults = one.faults ++ rest.faults }

-- attributes mark a declaration's globals; without one they stand before nothing
abbrev pub global_carrier : List InitDeclaratorTree → Carrier
global_carrier [] = carrier.Nothing
global_carrier (d ∷ ds) = carrier.Global

-- a declaration at file scope
abbrev pub checked_declaration : Progress → DeclarationTree → Checked
checked_declaration st d =
    let j = specified true st.structs d.specs in
    let all = declared_all j.given (record st { structs = j.structs }) d.declarators in
    record {
      progress = all.progress;
      faults = j.faults ++ mark_faults (global_carrier d.declarators) j.given.attributes ++ all.faults;
    }
