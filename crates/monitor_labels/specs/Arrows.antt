-- Along which arrows secrets go in a function: from what is read to what is written, and to whether statements are done.
use Rattle.std.specs.Prelude.{ℕ, ◌+◌, List, [], ◌∷◌, ◌++◌, Option, Some, None, Bool, true, false, if◌then◌else◌, is_some, map, nat_eq, option_map, slice_get, take}
use Rattle.std.specs.List.{find, flat_map}
use Rattle.std.specs.Option.{option_map_or}
use Rattle.pt_tree.specs.declared.signature.Signature.{Signature}
use Rattle.typed_tree.specs.declared.variable.Var.{Var}
use Rattle.typed_tree.specs.TypeTests.{pointee_of}
use Rattle.pt_core.specs.CodeTree.{RootTree, local, global, deref, PlaceTree, place, ExprTree, constant, read, unary, binary, convert, null, address, decay, move, compare, difference, ExprTrees, no_exprs, expr_and, StmtTree, clear, check, assign, copy, call, choose, repeat, break_out, continue_on, give_back, StmtTrees, no_stmts, stmt_and, FunctionTree, MonitorTree}
use Rattle.pt_core.specs.Calls.{function_in, signature_in}
use Rattle.pt_core.specs.WellFormed.{monitor_program}
use Rattle.monitor_labels.specs.Nodes.{Node, of_variable, of_result, of_global, of_control}
use Rattle.monitor_labels.specs.Seeds.{variables_with}

-- from a node to a node
abbrev pub Arrow : Type 0
Arrow = Node × Node

-- ---- what is read

abbrev mutual
  -- the variables and globals in an expression; of two operands those of the right one come first, as a walk down the left
  -- operands meets them
  pub reads : ℕ → ExprTree → List Node
  reads f (constant t v) = []
  reads f (read p) = place_reads f p
  reads f (unary op t a s) = reads f a
  reads f (binary op t a b s) = reads f b ++ reads f a
  reads f (convert t a) = reads f a
  reads f (null elem) = []
  reads f (address p) = place_reads f p
  reads f (decay p) = place_reads f p
  reads f (move p by back s) = reads f by ++ reads f p
  reads f (compare op a b s) = reads f b ++ reads f a
  reads f (difference a b s) = reads f b ++ reads f a

  -- also the one at which a place begins
  pub place_reads : ℕ → PlaceTree → List Node
  place_reads f (place root path) = root_reads f root

  pub root_reads : ℕ → RootTree → List Node
  root_reads f (local v) = of_variable f v ∷ []
  root_reads f (global g) = of_global g ∷ []
  root_reads f (deref p s) = reads f p

-- the reads of all arguments
abbrev pub all_reads : ℕ → ExprTrees → List Node
all_reads f no_exprs = []
all_reads f (expr_and e rest) = reads f e ++ all_reads f rest

-- ---- what is written

abbrev mutual
  -- the variable or global that a pointer's value starts from: null starts from none
  pub start_of : ℕ → ExprTree → Option Node
  start_of f (constant t v) = None
  start_of f (read p) = place_start f p
  start_of f (unary op t a s) = None
  start_of f (binary op t a b s) = None
  start_of f (convert t a) = None
  start_of f (null elem) = None
  start_of f (address p) = place_start f p
  start_of f (decay p) = place_start f p
  start_of f (move p by back s) = start_of f p
  start_of f (compare op a b s) = None
  start_of f (difference a b s) = None

  -- what a place lies in: its variable or global, or what its pointer starts from
  pub place_start : ℕ → PlaceTree → Option Node
  place_start f (place root path) = root_start f root

  pub root_start : ℕ → RootTree → Option Node
  root_start f (local v) = Some (of_variable f v)
  root_start f (global g) = Some (of_global g)
  root_start f (deref p s) = start_of f p

-- ---- arrows of statements

-- from each of these to the one, if there is one
abbrev pub arrows_to : Option Node → List Node → List Arrow
arrows_to None from = []
arrows_to (Some to) from = map (λ n. (n, to)) from

-- from a pointer back to what its value starts from
abbrev pub arrows_back : Bool → Option Node → Option Node → List Arrow
arrows_back true (Some to) (Some start) = (to, start) ∷ []
arrows_back true (Some to) None = []
arrows_back true None start = []
arrows_back false to start = []

abbrev pub is_pointer : Var → Bool
is_pointer x = is_some (pointee_of (Some x.ty))

-- the variable of this number is a pointer
abbrev pub is_pointer_variable : FunctionTree → ℕ → Bool
is_pointer_variable f v = option_map_or is_pointer (slice_get f.vars v) false

-- a whole variable that is a pointer
abbrev pub is_pointer_place : FunctionTree → PlaceTree → Bool
is_pointer_place f (place (local v) []) = is_pointer_variable f v
is_pointer_place f (place (local v) (k ∷ ks)) = false
is_pointer_place f (place (global g) path) = false
is_pointer_place f (place (deref p s) path) = false

-- an argument goes to a variable of the callee, and back from a pointer to what the argument starts from
abbrev pub argument_arrow : FunctionTree → FunctionTree → ℕ → ExprTree → List Arrow
argument_arrow f g i e =
    arrows_to (Some (of_variable g.id i)) (reads f.id e) ++ arrows_back (is_pointer_variable g i) (Some (of_variable g.id i)) (start_of f.id e)

-- the arguments from number i on
abbrev pub argument_arrows : FunctionTree → FunctionTree → ℕ → ExprTrees → List Arrow
argument_arrows f g i no_exprs = []
argument_arrows f g i (expr_and e rest) = argument_arrow f g i e ++ argument_arrows f g (i + 1) rest

-- A call by f. What a privileged host gives may be secret; what another host gives is made of its arguments. A function's
-- statements are done where the call is.
abbrev pub host_arrows : FunctionTree → ℕ → Bool → ExprTrees → Option Node → List Arrow
host_arrows f g true args to = arrows_to to (of_result g ∷ of_control f.id ∷ [])
host_arrows f g false args to = arrows_to to (all_reads f.id args ++ of_control f.id ∷ [])

abbrev pub function_call_arrows : FunctionTree → FunctionTree → ℕ → ExprTrees → Option Node → List Arrow
function_call_arrows f callee g args to =
    argument_arrows f callee 0 args ++ (of_control f.id, of_control g) ∷ arrows_to to (of_result g ∷ of_control f.id ∷ [])

abbrev pub call_arrows : MonitorTree → FunctionTree → ℕ → Signature → ExprTrees → Option Node → List Arrow
call_arrows p f g s args to =
    if s.host then host_arrows f g s.privileged args to else function_call_arrows f (function_in (monitor_program p) g) g args to

abbrev pub cleared_arrows : FunctionTree → ℕ → List Arrow
cleared_arrows f v = (of_control f.id, of_variable f.id v) ∷ []

abbrev pub assigned_arrows : FunctionTree → PlaceTree → ExprTree → List Arrow
assigned_arrows f q e =
    arrows_to (place_start f.id q) (reads f.id e ++ (place_reads f.id q ++ of_control f.id ∷ []))
    ++ arrows_back (is_pointer_place f q) (place_start f.id q) (start_of f.id e)

abbrev pub copied_arrows : FunctionTree → PlaceTree → PlaceTree → List Arrow
copied_arrows f to of = arrows_to (place_start f.id to) (place_reads f.id of ++ (place_reads f.id to ++ of_control f.id ∷ []))

abbrev pub returned_arrows : FunctionTree → Option ExprTree → List Arrow
returned_arrows f None = []
returned_arrows f (Some e) = arrows_to (Some (of_result f.id)) (reads f.id e ++ of_control f.id ∷ [])

abbrev mutual
  pub stmt_arrows : MonitorTree → FunctionTree → StmtTree → List Arrow
  stmt_arrows p f (clear v) = cleared_arrows f v
  stmt_arrows p f (check q) = []
  stmt_arrows p f (assign q e) = assigned_arrows f q e
  stmt_arrows p f (copy to of) = copied_arrows f to of
  stmt_arrows p f (call g args v s) = call_arrows p f g (signature_in (monitor_program p) g) args (option_map (of_variable f.id) v)
  stmt_arrows p f (choose e xs ys) = arrows_to (Some (of_control f.id)) (reads f.id e) ++ (all_arrows p f xs ++ all_arrows p f ys)
  stmt_arrows p f (repeat xs s) = all_arrows p f xs
  stmt_arrows p f break_out = []
  stmt_arrows p f continue_on = []
  stmt_arrows p f (give_back e) = returned_arrows f e

  pub all_arrows : MonitorTree → FunctionTree → StmtTrees → List Arrow
  all_arrows p f no_stmts = []
  all_arrows p f (stmt_and s rest) = stmt_arrows p f s ++ all_arrows p f rest

-- ---- what may be one object behind several names

-- the parameters that are pointers
abbrev pub pointer_parameters : FunctionTree → List Node
pointer_parameters f = variables_with is_pointer f.id 0 (take f.params f.vars)

-- the globals that an entry of this function binds
abbrev pub bound_globals : MonitorTree → ℕ → List Node
bound_globals p f = option_map_or (λ e. map (λ b. of_global b.global.0) e.shared) (find (λ e. nat_eq f e.function.0) p.entries) []

-- both ways between one and each of the others
abbrev pub joined_to : {A : Type 0} → A → List A → List (A × A)
joined_to a bs = flat_map (λ b. (a, b) ∷ (b, a) ∷ []) bs

-- between each and each other one
abbrev pub joined_pairs : {A : Type 0} → List A → List (A × A)
joined_pairs [] = []
joined_pairs (a ∷ bs) = joined_to a bs ++ joined_pairs bs

abbrev pub alias_arrows : MonitorTree → FunctionTree → List Arrow
alias_arrows p f =
    if (signature_in (monitor_program p) f.id).privileged then joined_pairs (pointer_parameters f ++ bound_globals p f.id) else []

-- ---- arrows of functions

abbrev pub function_arrows : MonitorTree → FunctionTree → List Arrow
function_arrows p f = alias_arrows p f ++ all_arrows p f f.body
