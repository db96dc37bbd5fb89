-- What the definition of a function adds that was declared before: its body, and no name.
use Rattle.std.proofs.Common.{◌≡◌, ◌++◌, ◌∙◌, ◌≤◌, sym, ap, refl, ℕ, Bool, true, false, List, [], ◌∷◌, length, Option, Some}
use Rattle.std.specs.Prelude.{not, ◌&&◌, ◌||◌, nat_eq, slice_get}
use Rattle.std.specs.Option.{option_map_or}
use Rattle.std.proofs.lemmas.List.{append_assoc}
use Rattle.std.proofs.lemmas.Bool.{and_from}
use Rattle.pt_base.specs.declared.int_type.IntType.TheVariants as t
use Rattle.pt_base.proofs.Numbers.{nat_eq_self}
use Rattle.pt_tree.specs.declared.signature.Elem.TheVariants as e
use Rattle.pt_tree.specs.declared.signature.Signature.{Signature}
use Rattle.pt_tree.specs.StatementTree.{BlockTree, StmtTree, stmt_trees}
use Rattle.type_rules.specs.declared.types.Type.{«Type»}
use Rattle.type_rules.specs.declared.types.Type.TheVariants.{Bad, Void, Int, Struct, Array, Pointer}
use Rattle.type_rules.specs.Types.{is_same_elem}
use Rattle.type_rules.proofs.TypeLemmas.{is_same_elem-self, is_same_int-self}
use Rattle.typed_tree.specs.declared.types.StructInfo.{StructInfo}
use Rattle.typed_tree.specs.TypeTests.{same_bool}
use Rattle.typed_tree.proofs.SameTypes.{bool_self}
use Rattle.check_declarations.specs.declared.fault.FaultKind.TheVariants.{Redeclared, TooLarge}
use Rattle.check_declarations.specs.Faults.{fault_if}
use Rattle.check_declarations.specs.NameTables.{number_of, value_at}
use Rattle.check_declarations.specs.Structs.{Structs}
use Rattle.check_expressions.specs.declared.meaning.Callable.{Callable}
use Rattle.check_expressions.specs.declared.meaning.Meaning.{Meaning}
use Rattle.check_expressions.specs.declared.meaning.Meaning.TheVariants.{Function}
use Rattle.check_expressions.specs.declared.meaning.Object.{Object}
use Rattle.check_expressions.specs.Environment.{Scope, meaning_at}
use Rattle.check_statements.specs.declared.context.Context as k
use Rattle.check_statements.specs.Outermost as o
use Rattle.check_statements.specs.Statements as w
use Rattle.check_statements.specs.Statements.{CheckedAll, checked, checked_all}
use Rattle.check_programs.specs.declared.function_marks.FunctionMarks.{FunctionMarks}
use Rattle.check_programs.specs.Blocks.{block_in}
use Rattle.check_programs.specs.Functions.{Checked, Head, agree, all_agree, differ, has_body, clashes, checked_function, completed, function_in, number_in, declared_as, with_start, with_head, with_definition, behind_body, are_too_large}
use Rattle.check_programs.specs.Progress.{Progress}
use Rattle.half_trees.specs.Names.{nowhere, local_name}
use Rattle.half_meaning_law.specs.Known.{function_id, result_as}
use Rattle.half_names_law.proofs.Tables.{Differ}
use Rattle.half_names_law.proofs.Parameters.{Marked, ParametersFit}
use Rattle.half_names_law.proofs.Heads.{declaration_by, callable_as, file_env, head_as, head_is}
use Rattle.half_names_law.proofs.Prototypes.{Rest, at}

-- ---- what agrees with itself

type_agrees : (t : «Type») → agree t t ≡ true
type_agrees Bad = refl
type_agrees Void = refl
type_agrees (Int t) = is_same_int-self t
type_agrees (Struct n) = nat_eq_self n
type_agrees (Array d count) = and_from (is_same_elem d d) (nat_eq count count) (is_same_elem-self d) (nat_eq_self count)
type_agrees (Pointer d fixed) = and_from (is_same_elem d d) (same_bool fixed fixed) (is_same_elem-self d) (bool_self fixed)

types_agree : (ts : List «Type») → all_agree ts ts ≡ true
types_agree [] = refl
types_agree (t ∷ ts) = and_from (agree t t) (all_agree ts ts) (type_agrees t) (types_agree ts)

no_difference : (f : Callable) → differ f f ≡ false
no_difference f = λ i. not (and_from (agree f.result f.result) (all_agree f.params f.params) (type_agrees f.result) (types_agree f.params) i)

-- ---- one definition

-- the walk behind the head, by what the name is
abbrev by_head : FunctionMarks → Progress → List StructInfo → List ℕ → Signature → List Marked → BlockTree → Head → Checked
by_head m st infos name s qs b h =
    let c = completed m (with_start (with_head st h) h.callable true) h.callable (declaration_by infos name s qs (Some b)) in
    record { progress = c.progress; faults = h.faults ++ c.faults }

abbrev by_meaning : FunctionMarks → Progress → Callable → BlockTree → Option Meaning → Checked
by_meaning m st f b meaning =
    let c = with_definition (declared_as m st f nowhere (function_in meaning)) (number_in st (function_in meaning)) f.result nowhere (Some b) in
    record { progress = c.progress; faults = fault_if (clashes st f true meaning) Redeclared nowhere ++ c.faults }

-- the body of function number k, by what was declared before
abbrev by_tests : Progress → Callable → BlockTree → ℕ → Option Callable → Bool → Checked
by_tests st f b k known has =
    let all = block_in f.result st.env st.structs (length st.exprs) b.items in
    record {
      progress = behind_body st k nowhere b.span all;
      faults = fault_if (option_map_or (λ g. differ g f) known false || (true && has)) Redeclared nowhere ++ (all.faults ++ fault_if (are_too_large all.state.structs all.state.env.variables) TooLarge nowhere);
    }

-- behind the head
abbrev pub at_body : FunctionMarks → Scope → List Callable → List Object → Structs → Rest → List ℕ → Signature → List Marked → Progress
at_body m file functions globals structs r name s qs =
    with_start (with_head (at (file_env file functions globals) structs r) (head_as (file_env file functions globals) structs m name s.result qs)) (callable_as name s.result qs) true

-- by whether it differs from what was declared
abbrev by_difference : FunctionMarks → Scope → List Callable → List Object → Structs → Rest → List ℕ → Signature → List Marked → BlockTree → ℕ → Bool → Checked
by_difference m file functions globals structs r name s qs b k z =
    let st = at_body m file functions globals structs r name s qs in
    let all = block_in (result_as s.result) st.env structs (length r.exprs) b.items in
    record { progress = behind_body st k nowhere b.span all; faults = fault_if (z || false) Redeclared nowhere ++ (all.faults ++ fault_if (are_too_large all.state.structs all.state.env.variables) TooLarge nowhere) }

pub definition_added : (m : FunctionMarks) (file : Scope) (functions : List Callable) (globals : List Object) (structs : Structs) (r : Rest) (infos : List StructInfo) (name : List ℕ) (s : Signature) (qs : List Marked) (b : BlockTree) (place k : ℕ)
    → (s.declassify ≡ true → m.privileged ≡ true) → ParametersFit m structs infos qs → length qs ≤ 8 → Differ local_name 8
    → number_of file name ≡ Some place → value_at file place ≡ Some (Function (function_id k)) → slice_get functions k ≡ Some (callable_as name s.result qs) → has_body r.functions (function_id k) ≡ false
    → checked_function m (at (file_env file functions globals) structs r) (declaration_by infos name s qs (Some b))
    ≡ (let st = at_body m file functions globals structs r name s qs in
    let all = block_in (result_as s.result) st.env structs (length r.exprs) b.items in
    record { progress = behind_body st k nowhere b.span all; faults = all.faults ++ fault_if (are_too_large all.state.structs all.state.env.variables) TooLarge nowhere })
unfolding completed
definition_added m file functions globals structs r infos name s qs b place k declassify fit few differ found meant known fresh =
    ap (by_head m (at (file_env file functions globals) structs r) infos name s qs b) (head_is m file functions globals structs infos name s qs (Some b) declassify fit few differ)
    ∙ ap (by_meaning m (at_body m file functions globals structs r name s qs) (callable_as name s.result qs) b) (ap (meaning_at file) found ∙ meant)
    ∙ (λ i. by_tests (at_body m file functions globals structs r name s qs) (callable_as name s.result qs) b k (known i) (fresh i))
    ∙ ap (by_difference m file functions globals structs r name s qs b k) (no_difference (callable_as name s.result qs))

-- ---- lists of statements

abbrev joined : w.Checked → CheckedAll → CheckedAll
joined one rest = record { state = rest.state; bodies = one.tree ∷ rest.bodies; trees = one.trees ++ rest.trees; faults = one.faults ++ rest.faults }

pub trees_joined : (xs ys : List StmtTree) (c : k.Context) (st : o.State) → checked_all c st (stmt_trees (xs ++ ys))
    ≡ (let one = checked_all c st (stmt_trees xs) in
    let rest = checked_all c one.state (stmt_trees ys) in
    record { state = rest.state; bodies = one.bodies ++ rest.bodies; trees = one.trees ++ rest.trees; faults = one.faults ++ rest.faults })
trees_joined [] ys c st = refl
trees_joined (x ∷ xs) ys c st =
    ap (joined (checked c st x)) (trees_joined xs ys c (checked c st x).state)
    ∙ (λ i. record {
      state = (checked_all c (checked_all c (checked c st x).state (stmt_trees xs)).state (stmt_trees ys)).state;
      bodies = (checked c st x).tree ∷ ((checked_all c (checked c st x).state (stmt_trees xs)).bodies ++ (checked_all c (checked_all c (checked c st x).state (stmt_trees xs)).state (stmt_trees ys)).bodies);
      trees = sym (append_assoc (checked c st x).trees (checked_all c (checked c st x).state (stmt_trees xs)).trees (checked_all c (checked_all c (checked c st x).state (stmt_trees xs)).state (stmt_trees ys)).trees) i;
      faults = sym (append_assoc (checked c st x).faults (checked_all c (checked c st x).state (stmt_trees xs)).faults (checked_all c (checked_all c (checked c st x).state (stmt_trees xs)).state (stmt_trees ys)).faults) i;
    })
