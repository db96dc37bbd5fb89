-- Whether the next step would compute with a handle. The meaning lets a handle count as 0 where a number
-- is wanted; these tests tell where that would happen.
use Rattle.std.specs.Prelude.{ℕ, suc, Bool, true, false, not, ◌&&◌, ◌||◌, List, [], ◌∷◌, Option, Some, None, Result, Ok, Err}
use Rattle.block_memory.specs.declared.cell.Cell.{Cell}
use Rattle.block_memory.specs.declared.cell.Cell.TheVariants.{Int, Ptr, Sealed}
use Rattle.block_memory.specs.Blocks.{Blocks}
use Rattle.pt_core.specs.CodeTree.{RootTree, local, global, deref, PlaceTree, place, ExprTree, constant, read, unary, binary, convert, null, address, decay, move, compare, difference, ExprTrees, no_exprs, expr_and, StmtTree, clear, check, assign, copy, call, choose, repeat, break_out, continue_on, give_back, no_stmts, stmt_and, ProgramTree}
use Rattle.pt_core.specs.Types.{Context, type_of}
use Rattle.pt_core.specs.Values.{Stop, is_type, value_of, values_of}
use Rattle.pt_core.specs.Calls.{context_in}
use Rattle.pt_core.specs.Steps.{Work, run, head, Active, Machine, Gate, Way, enters, here, away, settled}

abbrev pub is_sealed : Cell → Bool
is_sealed (Int v) = false
is_sealed (Ptr p) = false
is_sealed (Sealed h) = true

abbrev pub is_handle : Result Cell Stop → Bool
is_handle (Ok v) = is_sealed v
is_handle (Err stop) = false

abbrev mutual
  -- an operator, a conversion to another type, an index or what is pointed to, within an expression
  pub meets : Context → ℕ → ExprTree → Blocks → Bool
  meets c depth (constant t v) blocks = false
  meets c depth (read p) blocks = meets_at c depth p blocks
  meets c depth (unary op t a span) blocks = meets c depth a blocks || is_handle (value_of c depth a blocks)
  meets c depth (binary op t a b span) blocks = (meets c depth a blocks || is_handle (value_of c depth a blocks)) || (meets c depth b blocks || is_handle (value_of c depth b blocks))
  meets c depth (convert to a) blocks = meets c depth a blocks || (not (is_type (type_of c a) to) && is_handle (value_of c depth a blocks))
  meets c depth (null elem) blocks = false
  meets c depth (address p) blocks = meets_at c depth p blocks
  meets c depth (decay p) blocks = meets_at c depth p blocks
  meets c depth (move p by back span) blocks = (meets c depth p blocks || is_handle (value_of c depth p blocks)) || (meets c depth by blocks || is_handle (value_of c depth by blocks))
  meets c depth (compare op a b span) blocks = (meets c depth a blocks || is_handle (value_of c depth a blocks)) || (meets c depth b blocks || is_handle (value_of c depth b blocks))
  meets c depth (difference a b span) blocks = (meets c depth a blocks || is_handle (value_of c depth a blocks)) || (meets c depth b blocks || is_handle (value_of c depth b blocks))

  pub meets_at : Context → ℕ → PlaceTree → Blocks → Bool
  meets_at c depth (place root path) blocks = meets_root c depth root blocks

  pub meets_root : Context → ℕ → RootTree → Blocks → Bool
  meets_root c depth (local v) blocks = false
  meets_root c depth (global g) blocks = false
  meets_root c depth (deref p span) blocks = meets c depth p blocks || is_handle (value_of c depth p blocks)

-- the expression is wanted as a number or a pointer, and it is a handle, or meets one within
abbrev pub needs : Context → ℕ → ExprTree → Blocks → Bool
needs c depth e blocks = meets c depth e blocks || is_handle (value_of c depth e blocks)

abbrev pub meet_any : Context → ℕ → ExprTrees → Blocks → Bool
meet_any c depth no_exprs blocks = false
meet_any c depth (expr_and e rest) blocks = meets c depth e blocks || meet_any c depth rest blocks

-- ---- calls

abbrev pub has_handle : List Cell → Bool
has_handle [] = false
has_handle (v ∷ vs) = is_sealed v || has_handle vs

-- a handle stands for a parameter that isn't marked
abbrev pub has_unmarked : (ℕ → Bool) → List Cell → Bool
has_unmarked marked [] = false
has_unmarked marked (v ∷ vs) = (is_sealed v && not (marked 0)) || has_unmarked (λ n. marked (suc n)) vs

-- a host that is run here computes with its arguments; what goes away takes handles where it is marked
abbrev pub computes_call : (ℕ → Bool) → List Cell → Way → Bool
computes_call marked vs enters = false
computes_call marked vs here = has_handle vs
computes_call marked vs away = has_unmarked marked vs

abbrev pub if_given : {A : Type 0} → Result A Stop → (A → Bool) → Bool
if_given (Ok a) test = test a
if_given (Err stop) test = false

-- the result of the outermost function is the exit status
abbrev pub computes_status : List Active → Result Cell Stop → Bool
computes_status [] v = is_handle v
computes_status (caller ∷ rest) v = false

abbrev pub computes_return : Context → ℕ → Option ExprTree → List Active → Blocks → Bool
computes_return c depth None rest blocks = false
computes_return c depth (Some e) rest blocks = meets c depth e blocks || computes_status rest (value_of c depth e blocks)

-- ---- statements; `marked` tells of a function which of its parameters a request may hold handles for

abbrev pub computes : {G : Type 0} → (ℕ → ℕ → Bool) → Gate G → G → Context → ℕ → List Active → StmtTree → Blocks → Bool
computes marked gate g c depth rest (clear v) blocks = false
computes marked gate g c depth rest (check p) blocks = meets_at c depth p blocks
computes marked gate g c depth rest (assign p e) blocks = meets_at c depth p blocks || meets c depth e blocks
computes marked gate g c depth rest (copy to from) blocks = meets_at c depth to blocks || meets_at c depth from blocks
computes marked gate g c depth rest (call f args result span) blocks =
    meet_any c depth args blocks || if_given (values_of c depth args blocks) (λ vs. computes_call (marked f) vs (gate.way g f vs))
computes marked gate g c depth rest (choose e first second) blocks = needs c depth e blocks
computes marked gate g c depth rest (repeat body span) blocks = false
computes marked gate g c depth rest break_out blocks = false
computes marked gate g c depth rest continue_on blocks = false
computes marked gate g c depth rest (give_back e) blocks = computes_return c depth e rest blocks

abbrev pub computes_work : {G : Type 0} → (ℕ → ℕ → Bool) → Gate G → G → Context → ℕ → List Active → List Work → Blocks → Bool
computes_work marked gate g c depth rest [] blocks = false
computes_work marked gate g c depth rest (run no_stmts ∷ work) blocks = false
computes_work marked gate g c depth rest (run (stmt_and first more) ∷ work) blocks = computes marked gate g c depth rest first blocks
computes_work marked gate g c depth rest (head body ∷ work) blocks = false

abbrev pub computes_in : {G : Type 0} → (ℕ → ℕ → Bool) → ProgramTree → Gate G → G → List Active → Blocks → Bool
computes_in marked program gate g [] blocks = false
computes_in marked program gate g (a ∷ rest) blocks = computes_work marked gate g (context_in program a.function) a.depth rest (settled a.work) blocks

-- the next step of the machine would compute with a handle
abbrev pub computes_next : {G : Type 0} → (ℕ → ℕ → Bool) → ProgramTree → Gate G → Machine → G → Bool
computes_next marked program gate m g = computes_in marked program gate g m.active m.blocks
