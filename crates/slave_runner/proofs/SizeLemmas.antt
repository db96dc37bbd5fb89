-- A boot of few bytes has few statements, so its slave makes few steps.
use Rattle.std.proofs.Common.{◌≤◌, ◌<◌, ◌^◌, ℕ, suc, ◌+◌, ◌-◌, ◌*◌, List, [], ◌∷◌, ◌++◌, length, ap, arith}
use Rattle.std.specs.List.{flat_map}
use Rattle.std.proofs.lemmas.List.{length-append}
use Rattle.std.proofs.lemmas.Nat.{mul-le}
use Rattle.pt_core.specs.CodeTree.{StmtTree, clear, check, assign, copy, call, choose, repeat, break_out, continue_on, give_back, StmtTrees, no_stmts, stmt_and, FunctionTree, BootTree}
use Rattle.pt_core.specs.Calls.{function_in}
use Rattle.pt_core.specs.CoreRun.{main_in}
use Rattle.pt_core.specs.WellFormed.{boot_program}
use Rattle.boot_fields.specs.Limits.{Spells}
use Rattle.boot_fields.specs.Spelling.{count_of, expr_bytes, function_bytes, global_bytes, items_bytes, list_bytes, model_bytes, numbered_bytes, signature_bytes, span_bytes, stmt_bytes, stmts_bytes, struct_bytes, text_bytes, variable_bytes}
use Rattle.wire.specs.Spelling.{eight_bytes, four_bytes}
use Rattle.core_steps_law.specs.WholeRun.{begun_machine}
use Rattle.core_steps_law.specs.MachinesRoom.{breadth, larger, largest_active, largest_function, stmt_size, stmts_size}
use Rattle.core_steps_law.proofs.MachinesRooms.{larger_less, body_found}
use Rattle.pair_meaning.specs.SlaveRun.{longest}

-- ---- no more statements than bytes

mutual
  few_in : (s : StmtTree) → stmt_size s ≤ length (stmt_bytes s)
  few_in (clear v) = omega arith
  few_in (check p) = omega arith
  few_in (assign p a) = omega arith
  few_in (copy p q) = omega arith
  few_in (call f arguments v s) = omega arith
  few_in (choose a xs ys) =
      omega (
        arith,
        few_all xs,
        few_all ys,
        length-append (expr_bytes a) ((eight_bytes (count_of xs) ++ items_bytes xs) ++ (eight_bytes (count_of ys) ++ items_bytes ys)),
        length-append (eight_bytes (count_of xs) ++ items_bytes xs) (eight_bytes (count_of ys) ++ items_bytes ys),
        length-append (eight_bytes (count_of xs)) (items_bytes xs),
        length-append (eight_bytes (count_of ys)) (items_bytes ys),
      )
  few_in (repeat xs s) =
      omega (arith, few_all xs, length-append (eight_bytes (count_of xs) ++ items_bytes xs) (span_bytes s), length-append (eight_bytes (count_of xs)) (items_bytes xs))
  few_in break_out = omega arith
  few_in continue_on = omega arith
  few_in (give_back a) = omega arith

  few_all : (xs : StmtTrees) → stmts_size xs ≤ length (items_bytes xs)
  few_all no_stmts = omega arith
  few_all (stmt_and a rest) = omega (arith, few_in a, few_all rest, length-append (stmt_bytes a) (items_bytes rest))

few_of : (f : FunctionTree) → stmts_size f.body ≤ length (function_bytes f)
few_of f =
    omega (
      arith,
      few_all f.body,
      length-append (four_bytes f.id) (f.params ∷ list_bytes variable_bytes f.vars ++ (stmts_bytes f.body ++ span_bytes f.end)),
      length-append (list_bytes variable_bytes f.vars) (stmts_bytes f.body ++ span_bytes f.end),
      length-append (stmts_bytes f.body) (span_bytes f.end),
      length-append (eight_bytes (count_of f.body)) (items_bytes f.body),
    )

few_functions : (fs : List FunctionTree) → largest_function fs ≤ length (flat_map function_bytes fs)
few_functions [] = omega arith
few_functions (f ∷ fs) =
    larger_less (stmts_size f.body) (largest_function fs) (length (flat_map function_bytes (f ∷ fs))) (omega (arith, few_of f, length-append (function_bytes f) (flat_map function_bytes fs)))
    (omega (arith, few_functions fs, length-append (function_bytes f) (flat_map function_bytes fs)))

few_code : (b : BootTree) (bytes : List ℕ) → Spells b bytes → (largest_function b.functions ≤ length bytes) × (b.turns < 2 ^ 32)
unfolding Spells
few_code b bytes s =
    let behind_functions = list_bytes global_bytes b.globals ++ (list_bytes (numbered_bytes model_bytes) b.hosts ++ (text_bytes b.input ++ four_bytes b.turns)) in
    let behind_signatures = list_bytes function_bytes b.functions ++ behind_functions in
    let behind_structs = list_bytes (numbered_bytes signature_bytes) b.signatures ++ behind_signatures in (
      omega (
        arith,
        few_functions b.functions,
        ap length s.1,
        length-append (list_bytes struct_bytes b.structs) behind_structs,
        length-append (list_bytes (numbered_bytes signature_bytes) b.signatures) behind_signatures,
        length-append (list_bytes function_bytes b.functions) behind_functions,
        length-append (eight_bytes (length b.functions)) (flat_map function_bytes b.functions),
      ),
      s.0.turns,
    )

-- ---- few steps

room_of : (k w s : ℕ) → k < 2 ^ 32 → w < 2 ^ 64 → s < 2 ^ 64 → suc (k * (w + 1) + (suc (s + 0) + 0)) < 2 ^ 100
room_of k w s few_turns few_wide few_long = let m : k * (w + 1) ≤ 2 ^ 32 * 2 ^ 64 = mul-le k (w + 1) (2 ^ 32) (2 ^ 64) (omega arith) (omega arith) in omega arith

pub few_steps : (b : BootTree) (bytes : List ℕ) → Spells b bytes → length bytes < 2 ^ 64 → longest b < 2 ^ 100
few_steps b bytes s short =
    let code = few_code b bytes s in
    let program = boot_program b in
    let main = stmts_size (function_in program (main_in program)).body in
    let active = (begun_machine program b.turns).active in
    let within : main ≤ length bytes = body_found b.functions (main_in program) (length bytes) code.0 in
    let wide : breadth program active ≤ length bytes =
    larger_less (largest_function b.functions) (largest_active active) (length bytes) code.0 (larger_less (larger main 0) 0 (length bytes) (larger_less main 0 (length bytes) within (omega arith)) (omega arith)) in
    room_of (b.turns - 0) (breadth program active) main (omega (arith, code.1)) (omega arith) (omega arith)
