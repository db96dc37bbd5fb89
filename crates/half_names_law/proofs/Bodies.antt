-- The walk over the functions with bodies of a half: it adds no name, and where their statements stand all is known.
use Rattle.std.proofs.Common.{◌≡◌, ◌≤◌, ◌^◌, refl, ℕ, Bool, true, false, List, [], length, map, drop, Some}
use Rattle.std.specs.Prelude.{slice_get, sum_by}
use Rattle.pt_tree.specs.declared.signature.Signature.{Signature}
use Rattle.pt_tree.specs.StatementTree.{StmtTree, stmt_trees}
use Rattle.runs.specs.State.{spent}
use Rattle.typed_tree.specs.declared.types.VarTy.{VarTy}
use Rattle.typed_tree.specs.declared.variable.Var.{Var}
use Rattle.typed_tree.specs.WellFormed.{are_rising, structs_sound}
use Rattle.check_declarations.specs.Cells.{cells_of}
use Rattle.check_declarations.specs.Structs.{Structs}
use Rattle.check_expressions.specs.declared.meaning.Variable.{Variable}
use Rattle.check_statements.specs.Outermost as o
use Rattle.check_statements.specs.Statements.{CheckedAll, checked_all}
use Rattle.source_meaning.specs.Expressions as sm
use Rattle.pt_core.specs.Statements as c
use Rattle.pt_core.specs.CodeTree.{GlobalTree, FunctionTree, ProgramTree}
use Rattle.pt_core.specs.WellFormed.{is_sound, signature_at, function_at, with_own, called_signature, context_of}
use Rattle.half_trees.specs.Names.{local_name}
use Rattle.half_trees.specs.Statements.{statements_trees}
use Rattle.half_meaning_law.specs.CForms.{are_said}
use Rattle.half_meaning_law.specs.Relations.{is_pointer}
use Rattle.half_meaning_law.specs.Expressions.{SceneFits}
use Rattle.half_meaning_law.specs.Known.{type_as, result_as}
use Rattle.half_meaning_law.specs.Statements.{BodiesKeepTheirMeaning, advanced}
use Rattle.half_names_law.specs.Declarable.{variable_cells}
use Rattle.half_names_law.specs.Standing.{Marks, body_context, scene_of}
use Rattle.half_names_law.proofs.Tables.{Differ}
use Rattle.half_names_law.proofs.Parameters.{ParametersFit}
use Rattle.half_names_law.proofs.Prototypes.{marked_param}
use Rattle.half_names_law.proofs.Locals.{LocalsFit}
use Rattle.half_names_law.proofs.Numbers.{number_once}
use Rattle.half_names_law.proofs.Table.{IsTable}
use Rattle.half_names_law.proofs.Names.{text_name}
use Rattle.half_names_law.proofs.Known.{NamesApart, AreVariables, standing, all_known, functions_known}
use Rattle.half_names_law.proofs.Parts.{parameters_in}

-- ---- what is asked of a function

pub record FunctionFits (marks : Marks) (monitor : Bool) (p : ProgramTree) (structs : Structs) (f : FunctionTree) (s : Signature) : Type 0 where
  pub named : signature_at p f.id ≡ Some s
  pub found : function_at p f.id ≡ Some f
  pub declassify : s.declassify ≡ true → (marks (text_name (f.id, s))).privileged ≡ true
  pub parameters : ParametersFit (marks (text_name (f.id, s))) structs p.structs (parameters_in f)
  pub few : f.params ≤ 8
  pub locals : LocalsFit structs p.structs (drop f.params f.vars)
  pub enough : f.params ≤ length f.vars
  pub small : length f.vars ≤ 2 ^ 64
  pub types : map (λ q. type_as q.ty) (parameters_in f) ≡ map (λ q. type_as q.ty) (map marked_param (with_own monitor (Some f) s).params)
  pub cells : sum_by (λ x. cells_of structs (type_as x.ty)) f.vars ≤ sum_by (λ x. variable_cells p.structs x.ty) f.vars
  pub said : are_said (context_of p f.vars) (called_signature monitor p) f.body ≡ true

-- what is asked of the half
pub record HalfFits (monitor : Bool) (p : ProgramTree) (structs : Structs) : Type 0 where
  pub sound : is_sound monitor p ≡ true
  pub apart : NamesApart p
  pub table : IsTable structs p.structs (length p.structs)
  pub structs_fit : structs_sound p.structs 0 p.structs ≡ true
  pub plain : (k : ℕ) (g : GlobalTree) → slice_get p.globals k ≡ Some g → is_pointer g.var.ty ≡ false
  pub numbers : are_rising 0 (map (λ g. g.id) p.globals) ≡ true
  pub differ : Differ local_name (2 ^ 64)

-- ---- statements

-- judged without fault, and nothing is declared
pub record Quiet (st : o.State) (all : CheckedAll) : Type 0 where
  pub fine : all.faults ≡ []
  pub state : all.state ≡ advanced st (length all.trees)

-- where the statements of this function stand
abbrev pub statements_state : Bool → ProgramTree → FunctionTree → List Variable → Structs → ℕ → o.State
statements_state monitor p f ys structs next = record { env = standing monitor p f.vars ys; structs = structs; next = next }

pub scene_fits : (monitor : Bool) (p : ProgramTree) (structs : Structs) (f : FunctionTree) (frames : ℕ → List VarTy) (frame : sm.Frame) (calls : sm.Calls) (core_calls : c.Calls) → HalfFits monitor p structs → frames frame.depth ≡ map (λ x. x.ty) f.vars
    → SceneFits (scene_of p f frames frame calls core_calls)
scene_fits monitor p structs f frames frame calls core_calls half same = record {
  numbers = λ j k e. number_once 0 (map (λ g. g.id) p.globals) j k half.numbers e;
  own = same;
  structs = half.structs_fit;
}

-- the scene in which calls spend the budget: nothing is asked of what calls do where only the judgments count
abbrev quiet_calls : sm.Calls
quiet_calls = λ frame at f vs st. spent st

abbrev quiet_core_calls : c.Calls
quiet_core_calls = λ frame at f xs st. spent st

abbrev pub statements_of : ProgramTree → FunctionTree → List StmtTree
statements_of p f = statements_trees p.signatures (context_of p f.vars) f.body

pub statements_quiet : (bodies : BodiesKeepTheirMeaning) (marks : Marks) (monitor : Bool) (p : ProgramTree) (structs : Structs) (n : ℕ) (f : FunctionTree) (s : Signature) (next : ℕ) (ys : List Variable)
    → HalfFits monitor p structs → FunctionFits marks monitor p structs f s → slice_get p.functions n ≡ Some f → AreVariables ys f.vars
    → Quiet (statements_state monitor p f ys structs next) (checked_all (body_context (result_as s.result)) (statements_state monitor p f ys structs next) (stmt_trees (statements_of p f)))
statements_quiet bodies marks monitor p structs n f s next ys half fits there are =
    let types = map (λ (x : Var). x.ty) f.vars in
    let frame : sm.Frame = record { depth = 0; privileged = false } in
    let mean = bodies monitor p n f s (scene_of p f (λ d. types) frame quiet_calls quiet_core_calls) (body_context (result_as s.result)) (statements_state monitor p f ys structs next) half.sound there fits.named
    (scene_fits monitor p structs f (λ d. types) frame quiet_calls quiet_core_calls half refl) refl
    (λ span span' g signature vs xs st st' named other arguments alike. alike.seen)
    (all_known monitor p f (λ d. types) frame quiet_calls quiet_core_calls ys structs are fits.small half.differ half.apart half.plain half.table half.structs_fit)
    (functions_known monitor p f (λ d. types) frame quiet_calls quiet_core_calls ys half.apart) refl fits.said in
    record { fine = mean.fine; state = mean.state }
