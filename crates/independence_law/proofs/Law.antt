-- The laws, of the body of a privileged function that is entered where none is active.
use Rattle.std.proofs.Common.{◌≡◌, ◌∙◌, ◌<◌, ⊎_elim, inl, inr, ℕ, zero, suc, ◌+◌, refl, ap, sym, subst, arith, Bool, true, false, not, Option, Some, None, if◌then◌else◌, List, [], ◌∷◌, ◌++◌, length}
use Rattle.std.specs.Prelude.{Contains, IsTrue, is_some, option_map, slice_get, take}
use Rattle.std.specs.Option.{option_map_or}
use Rattle.pt_base.proofs.Booleans.{and_true_second, both_hold_first, false_not_true, true_and_false}
use Rattle.pt_base.proofs.Members.{contains_cases, contains_nothing}
use Rattle.pt_base.proofs.Numbers.{as_plus_one, as_plus_zero, zero_at_most, zero_plus}
use Rattle.pt_base.proofs.Options.{some_same}
use Rattle.pt_base.proofs.Places.{get_map}
use Rattle.pt_tree.specs.declared.signature.Elem.{Elem}
use Rattle.typed_tree.specs.declared.types.VarTy.{VarTy}
use Rattle.typed_tree.specs.declared.types.VarTy.TheVariants.{Int, Struct, Array, Pointer}
use Rattle.typed_tree.specs.declared.variable.Var.{Var}
use Rattle.typed_tree.specs.TypeTests.{pointee_of}
use Rattle.runs.specs.State.{Hosts, gives}
use Rattle.block_memory.specs.declared.cell.Cell.{Cell}
use Rattle.block_memory.specs.declared.cell.Cell.TheVariants as cell
use Rattle.block_memory.specs.declared.cell.Pointer.TheVariants as pointer
use Rattle.block_memory.specs.declared.cell.BlockName.TheVariants.{Local, Global, Received}
use Rattle.block_memory.specs.Block.{Block}
use Rattle.block_memory.specs.Blocks.{Blocks}
use Rattle.pt_core.specs.CodeTree.{FunctionTree, MonitorTree, ProgramTree}
use Rattle.pt_core.specs.Statements.{State}
use Rattle.pt_core.specs.Calls.{calls_within, context_in, function_in, signature_in}
use Rattle.pt_core.specs.WellFormed.{entries_fit, is_sound, is_well_formed_monitor, monitor_program}
use Rattle.monitor_labels.specs.Nodes.{Node, of_variable, of_result, of_global, of_control}
use Rattle.monitor_labels.specs.Seeds.{node_if, variables_with}
use Rattle.monitor_labels.specs.Arrows.{alias_arrows, all_arrows, bound_globals, is_pointer, joined_pairs, joined_to, pointer_parameters}
use Rattle.monitor_labels.specs.Secrecy.{IsSecret}
use Rattle.independence_law.specs.Bodies.{AreGiven, Begins, IsGiven, IsPrivileged, MixedHostsAreSame, Reached, body_of, calls_no_plain_host, cell_at, is_mixed_host, own_parameters}
use Rattle.independence_law.specs.Laws.{AreSame, ArgumentsAreSame, IndependentResultsTellNoSecret, IsPointerParameter, SecretControlChangesSecretsAlone}
use Rattle.independence_law.proofs.Worlds.{World, AreAlike, CellLeads, inside, is_open, open_by, open_shows, type_in, who_inside}
use Rattle.independence_law.proofs.Follows.{Follows, Reads, as_secret, follows_first, reads_first, reads_second}
use Rattle.independence_law.proofs.Changes.{ArgumentsAlike, ArgumentsLead}
use Rattle.independence_law.proofs.Outcomes.{both_given, given}
use Rattle.independence_law.proofs.Known.{Knows, Stands, function_of}
use Rattle.independence_law.proofs.Stores.{plain_leads}
use Rattle.independence_law.proofs.Calls.{Given, body_leaves, calls_leave}
use Rattle.independence_law.proofs.DeepCalls.{Matched, bodies_match, calls_agree}
use Rattle.independence_law.proofs.Decided.{is_secret, knows, open_told, secret_told, tells_open}

-- ---- what the joins say

-- what is joined to one is as secret
joined_one : (s : Node → Bool) (n : Node) (ms : List Node) (m : Node) → Follows s (joined_to n ms) → Reads ms m → s m ≡ s n
joined_one s n [] m h there = elim there [ ]
joined_one s n (k ∷ ms) m h (inl is) = as_secret (s m) (s n) (λ secret. h.1.0 (ap s is ∙ secret)) (λ secret. ap s (sym is) ∙ h.0 secret)
joined_one s n (k ∷ ms) m h (inr there) = joined_one s n ms m h.1.1 there

-- the first of these; where there is none, as if it were secret
abbrev first_secret : (Node → Bool) → List Node → Bool
first_secret s [] = true
first_secret s (n ∷ ns) = s n

joined_first : (s : Node → Bool) (ns ms : List Node) (m : Node) → Follows s (joined_pairs (ns ++ ms)) → (0 < length ns) → Reads (ns ++ ms) m → s m ≡ first_secret s ns
joined_first s [] ms m h some there = absurd (omega (arith, some))
joined_first s (n ∷ ns) ms m h some (inl is) = ap s (sym is)
joined_first s (n ∷ ns) ms m h some (inr there) = joined_one s n (ns ++ ms) m (follows_first s (joined_to n (ns ++ ms)) (joined_pairs (ns ++ ms)) h) there

-- ---- parameters that are pointers

with_there : (such : Var → Bool) (f i j : ℕ) (xs : List Var) (x : Var) → slice_get xs j ≡ Some x → such x ≡ true → Reads (variables_with such f i xs) (of_variable f (i + j))
with_there such f i j [] x at is = cc
with_there such f i zero (y ∷ ys) x at is =
    reads_first (node_if (such y) (of_variable f i)) (variables_with such f (i + 1) ys) (of_variable f (i + 0))
    (subst (λ b. Reads (if b then of_variable f i ∷ [] else []) (of_variable f (i + 0))) (sym (ap such (some_same y x at) ∙ is)) (inl (ap (of_variable f) (as_plus_zero i))))
with_there such f i (suc j) (y ∷ ys) x at is =
    reads_second (node_if (such y) (of_variable f i)) (variables_with such f (i + 1) ys) (of_variable f (i + suc j))
    (subst (λ k. Reads (variables_with such f (i + 1) ys) (of_variable f k)) (moved_one i j) (with_there such f (i + 1) j ys x at is))
  where
    moved_one : (i j : ℕ) → i + 1 + j ≡ i + suc j
    moved_one i j = omega arith

-- the first of them is one
pub record FirstOf (such : Var → Bool) (f i : ℕ) (xs : List Var) (ns : List Node) : Type 0 where
  pub place : ℕ
  pub x : Var
  pub at : slice_get xs place ≡ Some x
  pub is : such x ≡ true
  pub first : (s : Node → Bool) → first_secret s ns ≡ s (of_variable f (i + place))

first_with : (such : Var → Bool) (f i : ℕ) (xs : List Var) → (0 < length (variables_with such f i xs)) → FirstOf such f i xs (variables_with such f i xs)
first_with such f i [] some = absurd (omega (arith, some))
first_with such f i (y ∷ ys) some = go (λ more. first_with such f (i + 1) ys more) (such y) refl some
  where
    next : (i j : ℕ) → i + 1 + j ≡ i + suc j
    next i j = omega arith

    go : ((0 < length (variables_with such f (i + 1) ys)) → FirstOf such f (i + 1) ys (variables_with such f (i + 1) ys)) → (b : Bool) → such y ≡ b → (0 < length ((if b then of_variable f i ∷ [] else []) ++ variables_with such f (i + 1) ys)) →
        FirstOf such f i (y ∷ ys) ((if b then of_variable f i ∷ [] else []) ++ variables_with such f (i + 1) ys)
    go more true e h = record { place = 0; x = y; at = refl; is = e; first = λ s. ap (λ k. s (of_variable f k)) (as_plus_zero i) }
    go more false e h =
        let of : FirstOf such f (i + 1) ys (variables_with such f (i + 1) ys) = more h in
        record { place = suc of.place; x = of.x; at = of.at; is = of.is; first = λ s. of.first s ∙ ap (λ k. s (of_variable f k)) (next i of.place) }

-- ---- the world that a body begins in

abbrev pub world : MonitorTree → ℕ → Reached → World
world p f reached = record { secret = is_secret p; received = first_secret (is_secret p) (pointer_parameters (function_of (monitor_program p) f)); reached = reached; who = λ n. f }

-- pointers that are parameters, and globals that are bound, are joined
joins : (p : MonitorTree) (f : ℕ) (hosts : Hosts) → Knows p (is_secret p) hosts → IsPrivileged (monitor_program p) f → Follows (is_secret p) (joined_pairs (pointer_parameters (function_of (monitor_program p) f) ++ bound_globals p f))
joins p f hosts known privileged =
    subst (λ b. Follows (is_secret p) (if b then joined_pairs (pointer_parameters (function_of (monitor_program p) f) ++ bound_globals p f) else [])) privileged.privileged
    (follows_first (is_secret p) (alias_arrows p (function_of (monitor_program p) f)) (all_arrows p (function_of (monitor_program p) f) (function_in (monitor_program p) f).body) (known.follows f privileged.there))

some_nodes : (xs : List Node) (n : Node) → Reads xs n → 0 < length xs
some_nodes [] n there = elim there [ ]
some_nodes (x ∷ xs) n there = omega arith

contained_reads : (xs : List Node) (n : Node) → Contains xs n → Reads xs n
contained_reads [] n there = absurd (contains_nothing n there)
contained_reads (x ∷ xs) n there = ⊎_elim (λ is. inl is) (λ later. inr (contained_reads xs n later)) (contains_cases x xs n there)

-- a pointer that is a parameter is as secret as what is received
received_as : (p : MonitorTree) (f : ℕ) (hosts : Hosts) → Knows p (is_secret p) hosts → IsPrivileged (monitor_program p) f → (i : ℕ) (x : Var) → slice_get (own_parameters (monitor_program p) f) i ≡ Some x → is_pointer x ≡ true →
    is_secret p (of_variable f i) ≡ first_secret (is_secret p) (pointer_parameters (function_of (monitor_program p) f))
received_as p f hosts known privileged i x at is =
    let there : Reads (pointer_parameters (function_of (monitor_program p) f)) (of_variable f i) = subst (λ k. Reads (pointer_parameters (function_of (monitor_program p) f)) (of_variable f k)) (zero_plus i) (with_there is_pointer f 0 i (own_parameters (monitor_program p) f) x at is) in
    joined_first (is_secret p) (pointer_parameters (function_of (monitor_program p) f)) (bound_globals p f) (of_variable f i) (joins p f hosts known privileged) (some_nodes (pointer_parameters (function_of (monitor_program p) f)) (of_variable f i) there)
    (reads_first (pointer_parameters (function_of (monitor_program p) f)) (bound_globals p f) (of_variable f i) there)

-- so is a global that is bound
bound_as : (p : MonitorTree) (f : ℕ) (hosts : Hosts) → Knows p (is_secret p) hosts → IsPrivileged (monitor_program p) f → (i : ℕ) (x : Var) (g : ℕ) → slice_get (own_parameters (monitor_program p) f) i ≡ Some x → is_pointer x ≡ true → Contains (bound_globals p f) (of_global g) →
    is_secret p (of_global g) ≡ is_secret p (of_variable f i)
bound_as p f hosts known privileged i x g at is bound =
    let there : Reads (pointer_parameters (function_of (monitor_program p) f)) (of_variable f i) = subst (λ k. Reads (pointer_parameters (function_of (monitor_program p) f)) (of_variable f k)) (zero_plus i) (with_there is_pointer f 0 i (own_parameters (monitor_program p) f) x at is) in
    joined_first (is_secret p) (pointer_parameters (function_of (monitor_program p) f)) (bound_globals p f) (of_global g) (joins p f hosts known privileged) (some_nodes (pointer_parameters (function_of (monitor_program p) f)) (of_variable f i) there)
    (reads_second (pointer_parameters (function_of (monitor_program p) f)) (bound_globals p f) (of_global g) (contained_reads (bound_globals p f) (of_global g) bound))
    ∙ sym (received_as p f hosts known privileged i x at is)

-- ---- arguments

-- these are the function's own from the number i on
abbrev OwnFrom : ProgramTree → ℕ → ℕ → List Var → Type 0
OwnFrom p f i xs = (j : ℕ) → slice_get (own_parameters p f) (i + j) ≡ slice_get xs j

taken_at : (n : ℕ) (xs : List Var) (i : ℕ) (x : Var) → slice_get (take n xs) i ≡ Some x → slice_get xs i ≡ Some x
taken_at zero xs i x at = cc
taken_at (suc n) [] i x at = cc
taken_at (suc n) (y ∷ ys) zero x at = at
taken_at (suc n) (y ∷ ys) (suc i) x at = taken_at n ys i x at

-- the type of the variable that an argument goes to
typed_as : (p : MonitorTree) (f depth : ℕ) (reached : Reached) (i : ℕ) (x : Var) (elem : Elem) (fixed : Bool) → slice_get (own_parameters (monitor_program p) f) i ≡ Some x → x.ty ≡ Pointer elem fixed →
    pointee_of (type_in (monitor_program p) (inside (world p f reached) (depth + 1) f) (Local (depth + 1) i)) ≡ Some elem
typed_as p f depth reached i x elem fixed at is =
    ap (λ n. pointee_of (slice_get (context_in (monitor_program p) n).variables i)) (who_inside (world p f reached) (depth + 1) f)
    ∙ ap pointee_of (get_map (λ (y : Var). y.ty) (function_in (monitor_program p) f).vars i ∙ ap (option_map (λ (y : Var). y.ty)) (taken_at (function_in (monitor_program p) f).params (function_in (monitor_program p) f).vars i x at) ∙ ap Some is)

argument_given : (p : MonitorTree) (f depth : ℕ) (reached : Reached) (hosts : Hosts) → Knows p (is_secret p) hosts → IsPrivileged (monitor_program p) f → (i : ℕ) (x : Var) (a : Cell) → slice_get (own_parameters (monitor_program p) f) i ≡ Some x → (ty : VarTy) → x.ty ≡ ty → IsGiven p f reached ty a →
    CellLeads (monitor_program p) (inside (world p f reached) (depth + 1) f) (Local (depth + 1) i) a
argument_given p f depth reached hosts known privileged i x a at (Int t) is given = plain_leads (monitor_program p) (inside (world p f reached) (depth + 1) f) (Local (depth + 1) i) a given
argument_given p f depth reached hosts known privileged i x a at (Struct n) is given = plain_leads (monitor_program p) (inside (world p f reached) (depth + 1) f) (Local (depth + 1) i) a given
argument_given p f depth reached hosts known privileged i x a at (Array elem count) is given = plain_leads (monitor_program p) (inside (world p f reached) (depth + 1) f) (Local (depth + 1) i) a given
argument_given p f depth reached hosts known privileged i x (cell.Int v) at (Pointer elem fixed) is given = tt {0}
argument_given p f depth reached hosts known privileged i x (cell.Ptr pointer.Null) at (Pointer elem fixed) is given = tt {0}
argument_given p f depth reached hosts known privileged i x (cell.Sealed h) at (Pointer elem fixed) is given = tt {0}
argument_given p f depth reached hosts known privileged i x (cell.Ptr (pointer.At (Local d v) base count index)) at (Pointer elem fixed) is given = elim given [ ]
argument_given p f depth reached hosts known privileged i x (cell.Ptr (pointer.At (Global g) base count index)) at (Pointer elem fixed) is given =
    let points : is_pointer x ≡ true = ap (λ u. is_some (pointee_of (Some u))) is in
    record {
      elem = elem;
      typed = typed_as p f depth reached i x elem fixed at is;
      leads = record {
        object = refl;
        near = zero_at_most (depth + 1);
        reached = λ j less. refl;
        alike = bound_as p f hosts known privileged i x g at points given ∙ ap (λ n. is_secret p (of_variable n i)) (sym (who_inside (world p f reached) (depth + 1) f));
      };
    }
argument_given p f depth reached hosts known privileged i x (cell.Ptr (pointer.At (Received k) base count index)) at (Pointer elem fixed) is given =
    let points : is_pointer x ≡ true = ap (λ u. is_some (pointee_of (Some u))) is in
    record {
      elem = elem;
      typed = typed_as p f depth reached i x elem fixed at is;
      leads = record {
        object = refl;
        near = zero_at_most (depth + 1);
        reached = given;
        alike = sym (received_as p f hosts known privileged i x at points) ∙ ap (λ n. is_secret p (of_variable n i)) (sym (who_inside (world p f reached) (depth + 1) f));
      };
    }

arguments_given : (p : MonitorTree) (f depth : ℕ) (reached : Reached) (hosts : Hosts) → Knows p (is_secret p) hosts → IsPrivileged (monitor_program p) f → (xs : List Var) (i : ℕ) (args : List Cell) → OwnFrom (monitor_program p) f i xs → AreGiven p f reached xs args →
    ArgumentsLead (monitor_program p) (inside (world p f reached) (depth + 1) f) (depth + 1) i args
arguments_given p f depth reached hosts known privileged [] i [] own all = tt {0}
arguments_given p f depth reached hosts known privileged [] i (a ∷ args) own all = elim all [ ]
arguments_given p f depth reached hosts known privileged (x ∷ xs) i [] own all = elim all [ ]
arguments_given p f depth reached hosts known privileged (x ∷ xs) i (a ∷ args) own all = (
  argument_given p f depth reached hosts known privileged i x a (ap (slice_get (own_parameters (monitor_program p) f)) (as_plus_zero i) ∙ own 0) x.ty refl all.0,
  arguments_given p f depth reached hosts known privileged xs (i + 1) args (λ j. ap (slice_get (own_parameters (monitor_program p) f)) (moved_one i j) ∙ own (suc j)) all.1,
)
  where
    moved_one : (i j : ℕ) → i + 1 + j ≡ i + suc j
    moved_one i j = omega arith

arguments_match : (p : MonitorTree) (f depth : ℕ) (reached : Reached) (xs : List Var) (i : ℕ) (args args' : List Cell) → AreGiven p f reached xs args → AreGiven p f reached xs args' → ((j : ℕ) → ¬ IsSecret p (of_variable f (i + j)) → slice_get args j ≡ slice_get args' j) →
    ArgumentsAlike (inside (world p f reached) (depth + 1) f) (depth + 1) i args args'
arguments_match p f depth reached [] i [] [] one other same = tt {0}
arguments_match p f depth reached [] i [] (b ∷ args') one other same = elim other [ ]
arguments_match p f depth reached [] i (a ∷ args) args' one other same = elim one [ ]
arguments_match p f depth reached (x ∷ xs) i [] args' one other same = elim one [ ]
arguments_match p f depth reached (x ∷ xs) i (a ∷ args) [] one other same = elim other [ ]
arguments_match p f depth reached (x ∷ xs) i (a ∷ args) (b ∷ args') one other same = (
  λ shown. some_same a b (same 0 (tells_open p (of_variable f (i + 0)) (ap (λ k. is_secret p (of_variable f k)) (sym (as_plus_zero i)) ∙ ap (λ n. is_secret p (of_variable n i)) (sym (who_inside (world p f reached) (depth + 1) f)) ∙ shown))),
  arguments_match p f depth reached xs (i + 1) args args' one.1 other.1 (λ j open_. same (suc j) (subst (λ k. ¬ IsSecret p (of_variable f k)) (moved_one i j) open_)),
)
  where
    moved_one : (i j : ℕ) → i + 1 + j ≡ i + suc j
    moved_one i j = omega arith

-- ---- memories

stands_at : (p : MonitorTree) (f depth : ℕ) (reached : Reached) (args : List Cell) (mixed : Hosts) (st : State) → Begins p f reached args st.memory → ((g : ℕ) → IsTrue (is_mixed_host (signature_in (monitor_program p) g)) → st.hosts g ≡ mixed g) → Stands (monitor_program p) (world p f reached) depth mixed st
stands_at p f depth reached args mixed st begins are = record {
  pointers = λ name i near. plain_leads (monitor_program p) (world p f reached) name (cell_at st.memory name i) (begins.plain name i);
  hosts = are;
}

some_first : (s : Node → Bool) (ns : List Node) → first_secret s ns ≡ false → 0 < length ns
some_first s [] h = true_and_false true refl h
some_first s (n ∷ ns) h = omega arith

open_reached : (w : World) (k i : ℕ) → is_open w (Received k) i ≡ true → w.reached k i ≡ true
open_reached w k i h = and_true_second (not w.received) (w.reached k i) h

below_take : (n : ℕ) (xs : List Var) (i : ℕ) (x : Var) → slice_get (take n xs) i ≡ Some x → i < n
below_take zero xs i x at = cc
below_take (suc n) [] i x at = cc
below_take (suc n) (y ∷ ys) zero x at = omega arith
below_take (suc n) (y ∷ ys) (suc i) x at = let rest = below_take n ys i x at in omega (arith, rest)

own_pointer : (p : MonitorTree) (f i : ℕ) (x : Var) → slice_get (own_parameters (monitor_program p) f) i ≡ Some x → is_pointer x ≡ true → IsPointerParameter p f i
own_pointer p f i x at is = (
  below_take (function_in (monitor_program p) f).params (function_in (monitor_program p) f).vars i x at,
  ap (λ o. option_map_or is_pointer o false) (taken_at (function_in (monitor_program p) f).params (function_in (monitor_program p) f).vars i x at) ∙ is,
)

-- a parameter that is a pointer
pub record OwnPointer (p : MonitorTree) (f i : ℕ) : Type 0 where
  pub x : Var
  pub at : slice_get (own_parameters (monitor_program p) f) i ≡ Some x
  pub is : is_pointer x ≡ true

at_taken : (n : ℕ) (xs : List Var) (i : ℕ) (x : Var) → i < n → slice_get xs i ≡ Some x → slice_get (take n xs) i ≡ Some x
at_taken zero xs i x less at = absurd (omega (arith, less))
at_taken (suc n) [] i x less at = cc
at_taken (suc n) (y ∷ ys) zero x less at = at
at_taken (suc n) (y ∷ ys) (suc i) x less at = at_taken n ys i x (omega (arith, less)) at

pointer_own : (p : MonitorTree) (f i : ℕ) → IsPointerParameter p f i → OwnPointer p f i
pointer_own p f i h = go (slice_get (function_in (monitor_program p) f).vars i) refl h.1
  where
    go : (o : Option Var) → slice_get (function_in (monitor_program p) f).vars i ≡ o → option_map_or is_pointer o false ≡ true → OwnPointer p f i
    go None e k = false_not_true k
    go (Some x) e k = record { x = x; at = at_taken (function_in (monitor_program p) f).params (function_in (monitor_program p) f).vars i x h.0 e; is = k }

alike_of_same : (p : MonitorTree) (f depth : ℕ) (reached : Reached) (args args' : List Cell) (hosts : Hosts) (a b : Blocks) → Begins p f reached args a → Begins p f reached args' b → AreSame p f reached a b → AreAlike (world p f reached) depth a b
alike_of_same p f depth reached args args' hosts a b one other same (Local d v) i near open_ =
    ap (λ (x : Block). slice_get x.cells i) (one.free.none d v (zero_at_most d)) ∙ sym (ap (λ (x : Block). slice_get x.cells i) (other.free.none d v (zero_at_most d)))
alike_of_same p f depth reached args args' hosts a b one other same (Global g) i near open_ = same.globals g i (tells_open p (of_global g) (open_shows (world p f reached) (Global g) i open_))
alike_of_same p f depth reached args args' hosts a b one other same (Received k) i near open_ =
    let fn : FunctionTree = function_of (monitor_program p) f in
    let shown : first_secret (is_secret p) (pointer_parameters fn) ≡ false = open_shows (world p f reached) (Received k) i open_ in
    let first : FirstOf is_pointer f 0 (own_parameters (monitor_program p) f) (pointer_parameters fn) = first_with is_pointer f 0 (own_parameters (monitor_program p) f) (some_first (is_secret p) (pointer_parameters fn) shown) in
    same.received first.place k i (own_pointer p f first.place first.x first.at first.is)
    (tells_open p (of_variable f first.place) (ap (λ n. is_secret p (of_variable f n)) (sym (zero_plus first.place)) ∙ sym (first.first (is_secret p)) ∙ shown))
    (open_reached (world p f reached) k i open_)

same_of_alike : (p : MonitorTree) (f depth : ℕ) (reached : Reached) (hosts : Hosts) (a b : Blocks) → Knows p (is_secret p) hosts → IsPrivileged (monitor_program p) f → AreAlike (world p f reached) depth a b → AreSame p f reached a b
same_of_alike p f depth reached hosts a b known privileged same = record {
  globals = λ g i open_. same (Global g) i (zero_at_most depth) (open_by (world p f reached) (Global g) i (open_told p (of_global g) open_) refl);
  received = λ v k i pointer_ open_ there.
      let of : OwnPointer p f v = pointer_own p f v pointer_ in
      same (Received k) i (zero_at_most depth) (open_by (world p f reached) (Received k) i (sym (received_as p f hosts known privileged v of.x of.at of.is) ∙ open_told p (of_variable f v) open_) there);
}

-- ---- the laws

sound_of : (p : MonitorTree) → IsTrue (is_well_formed_monitor p) → IsTrue (is_sound true (monitor_program p))
unfolding is_well_formed_monitor
sound_of p h = both_hold_first (is_sound true (monitor_program p)) (entries_fit (monitor_program p) p.entries) h

-- at a depth below another
control_at : (p : MonitorTree) (f depth deeper : ℕ) (reached : Reached) (args : List Cell) (st end : State) (v : Option Cell) → IsTrue (is_well_formed_monitor p) → IsTrue (calls_no_plain_host (monitor_program p)) → IsPrivileged (monitor_program p) f → MixedHostsAreSame (monitor_program p) st.hosts st.hosts →
    Begins p f reached args st.memory → IsSecret p (of_control f) → body_of (monitor_program p) f (depth + 1) deeper args st ≡ gives v end → AreSame p f reached st.memory end.memory
control_at p f depth deeper reached args st end v sound plain privileged hosts begins secret is =
    let program : ProgramTree = monitor_program p in
    let known : Knows p (is_secret p) st.hosts = knows p st.hosts st.hosts (sound_of p sound) plain hosts in
    let done : Given program (world p f reached) depth f st.hosts st.memory v end = given (Given program (world p f reached) depth f st.hosts st.memory) (body_of program f (depth + 1) deeper args st) v end
    (body_leaves p (world p f reached) depth f st.hosts true (calls_within program deeper) args st known privileged.there (calls_leave p st.hosts deeper (inside (world p f reached) (depth + 1) f) f (depth + 1) true known)
    (stands_at p f depth reached args st.hosts st begins (λ g mixed. refl)) (arguments_given p f depth reached st.hosts known privileged (own_parameters program f) 0 args (λ j. ap (slice_get (own_parameters program f)) (zero_plus j)) begins.given)) is in
    same_of_alike p f depth reached st.hosts st.memory end.memory known privileged (done.kept (secret_told p (of_control f) secret))

pub secret_control : SecretControlChangesSecretsAlone
secret_control p f zero deeper reached args st end v deep sound plain privileged hosts begins secret is = absurd (omega (arith, deep))
secret_control p f (suc depth) deeper reached args st end v deep sound plain privileged hosts begins secret is =
    control_at p f depth deeper reached args st end v sound plain privileged hosts begins secret (subst (λ n. body_of (monitor_program p) f n deeper args st ≡ gives v end) (as_plus_one depth) is)

results_at : (p : MonitorTree) (f depth deeper : ℕ) (reached : Reached) (args args' : List Cell) (st st' end end' : State) (v v' : Option Cell) → IsTrue (is_well_formed_monitor p) → IsTrue (calls_no_plain_host (monitor_program p)) → IsPrivileged (monitor_program p) f → MixedHostsAreSame (monitor_program p) st.hosts st'.hosts →
    Begins p f reached args st.memory → Begins p f reached args' st'.memory → ArgumentsAreSame p f args args' → AreSame p f reached st.memory st'.memory →
    body_of (monitor_program p) f (depth + 1) deeper args st ≡ gives v end → body_of (monitor_program p) f (depth + 1) deeper args' st' ≡ gives v' end' → AreSame p f reached end.memory end'.memory × (¬ IsSecret p (of_result f) → v ≡ v')
results_at p f depth deeper reached args args' st st' end end' v v' sound plain privileged hosts begins begins' arguments memory is is' =
    let program : ProgramTree = monitor_program p in
    let known : Knows p (is_secret p) st.hosts = knows p st.hosts st'.hosts (sound_of p sound) plain hosts in
    let own : OwnFrom program f 0 (own_parameters program f) = λ j. ap (slice_get (own_parameters program f)) (zero_plus j) in
    let done : Matched (world p f reached) depth f v end v' end' = both_given (Matched (world p f reached) depth f) (body_of program f (depth + 1) deeper args st) (body_of program f (depth + 1) deeper args' st') v v' end end'
    (bodies_match p (world p f reached) depth f st.hosts true (calls_within program deeper) args args' st st' known privileged.there
    (calls_leave p st.hosts deeper (inside (world p f reached) (depth + 1) f) f (depth + 1) true known) (calls_agree p st.hosts deeper (inside (world p f reached) (depth + 1) f) f (depth + 1) true known)
    (arguments_given p f depth reached st.hosts known privileged (own_parameters program f) 0 args own begins.given) (arguments_given p f depth reached st.hosts known privileged (own_parameters program f) 0 args' own begins'.given)
    (arguments_match p f depth reached (own_parameters program f) 0 args args' begins.given begins'.given (λ j open_. arguments j (subst (λ k. ¬ IsSecret p (of_variable f k)) (zero_plus j) open_)))
    (stands_at p f depth reached args st.hosts st begins (λ g mixed. refl)) (stands_at p f depth reached args' st.hosts st' begins' (λ g mixed. sym (hosts g mixed).0))
    (alike_of_same p f depth reached args args' st.hosts st.memory st'.memory begins begins' memory)) is is' in
    (same_of_alike p f depth reached st.hosts end.memory end'.memory known privileged done.alike, λ open_. done.given (open_told p (of_result f) open_))

pub independent_results : IndependentResultsTellNoSecret
independent_results p f zero deeper reached args args' st st' end end' v v' deep sound plain privileged hosts begins begins' arguments memory is is' = absurd (omega (arith, deep))
independent_results p f (suc depth) deeper reached args args' st st' end end' v v' deep sound plain privileged hosts begins begins' arguments memory is is' =
    results_at p f depth deeper reached args args' st st' end end' v v' sound plain privileged hosts begins begins' arguments memory
    (subst (λ n. body_of (monitor_program p) f n deeper args st ≡ gives v end) (as_plus_one depth) is) (subst (λ n. body_of (monitor_program p) f n deeper args' st' ≡ gives v' end') (as_plus_one depth) is')
