-- Where the slave of an accepted program begins: its machine fits, and what is seen of it is where the whole begins.
use Rattle.std.proofs.Common.{◌≡◌, ◌∙◌, ℕ, zero, suc, refl, ap, sym, subst, arith, false, Option, None, List, [], ◌∷◌, length, map, take}
use Rattle.std.specs.Prelude.{◌&&◌, is_some, nat_eq, unwrap_or}
use Rattle.pt_base.proofs.Booleans.{both_hold_second}
use Rattle.lowered_code_law.proofs.FormsPrograms.{signature_of_function}
use Rattle.c_lower_law.proofs.MainRuns.{none_given}
use Rattle.pt_tree.specs.declared.signature.Param.{Param}
use Rattle.pt_tree.specs.declared.signature.Signature.{Signature}
use Rattle.typed_tree.specs.declared.variable.Var.{Var}
use Rattle.typed_tree.specs.TypedTree.{TypedTree}
use Rattle.typed_tree.specs.WellFormed.{is_int_result}
use Rattle.typed_tree.specs.WellFormedExpression.{is_main}
use Rattle.flow_rules.specs.declared.accepted.Accepted.{Accepted}
use Rattle.block_memory.specs.Blocks.{Blocks, no_blocks, with_frame}
use Rattle.pt_core.specs.CodeTree.{FunctionTree, ProgramTree}
use Rattle.pt_core.specs.Types.{shape_of}
use Rattle.pt_core.specs.Calls.{entered, function_in, no_signature, signature_in}
use Rattle.pt_core.specs.CoreRun.{main_in, with_globals}
use Rattle.pt_core.specs.Steps.{Active, at_rest, just_entered, run}
use Rattle.lowering.specs.Functions.{core_program}
use Rattle.core_steps_law.specs.WholeRun.{begun_machine}
use Rattle.core_soundness_law.specs.Kept.{by_store}
use Rattle.core_soundness_law.specs.Fits.{Fits}
use Rattle.core_soundness_law.specs.Outside.{ArgumentsFit, own_params}
use Rattle.core_soundness_law.proofs.Resting.{rest_fits}
use Rattle.core_soundness_law.proofs.Starting.{started_fits}
use Rattle.part_views_law.specs.Machines.{nobody, seen_machine}
use Rattle.part_views_law.specs.Views.{View, seen, slave_view}
use Rattle.part_views_law.proofs.Instances.{slaves_are_viewed}
use Rattle.part_views_law.proofs.Memories.{frame_seen}
use Rattle.pair_invariant_law.proofs.AcceptedHalves.{IsKnown, are_halves, kept_monitor, kept_slave, main_kept, owned, signed_monitor, signed_slave, slave_keeps_own, slave_main, the_monitor, the_slave}
use Rattle.pair_invariant_law.proofs.AcceptedParted.{signature_same}
use Rattle.pair_invariant_law.proofs.AcceptedRules.{IsMain}
use Rattle.pair_laws.proofs.PairStartGlobals.{globals_seen}

-- ---- main takes no arguments

start_params : (t : TypedTree) (m : IsMain t) → m.function.signature.params ≡ []
start_params t m =
    let s = m.function.signature in
    none_given s.params
    (both_hold_second (is_int_result s.result) (nat_eq (length s.params) 0)
    (both_hold_second (is_some m.function.body) (is_int_result s.result && nat_eq (length s.params) 0)
    (both_hold_second (is_main s) (is_some m.function.body && (is_int_result s.result && nat_eq (length s.params) 0)) m.start)))

-- the slave's main has the program's signature
main_signature : (t : TypedTree) (a : Accepted) (known : IsKnown t a) → signature_in (the_slave t a) (main_in (the_slave t a)) ≡ known.main.function.signature
main_signature t a known =
    let m = known.main in
    ap (λ (n : ℕ). signature_in (the_slave t a) n) (slave_main t a known)
    ∙ sym (signature_same (core_program t) (signed_slave t a) (kept_slave a) (owned a) m.number (slave_keeps_own t a m.number (main_kept t a known)))
    ∙ ap (λ (o : Option Signature). unwrap_or o no_signature) (signature_of_function t m.number m.function m.is)

main_params : (t : TypedTree) (a : Accepted) → IsKnown t a → own_params (the_slave t a) (main_in (the_slave t a)) ≡ []
main_params t a known =
    let f = main_in (the_slave t a) in
    ap (λ (ps : List Param). take (function_in (the_slave t a) f).params ps) (ap (λ (s : Signature). s.params) (main_signature t a known) ∙ start_params t known.main) ∙ take_none (function_in (the_slave t a) f).params
  where
    take_none : (n : ℕ) → take {A = Param} n [] ≡ []
    take_none zero = refl
    take_none (suc n) = refl

-- ---- the slave's machine fits

pub begun_fits : (t : TypedTree) (a : Accepted) → IsKnown t a → (budget : ℕ) → Fits (by_store []) false (the_slave t a) (begun_machine (the_slave t a) budget)
begun_fits t a known budget =
    let p = the_slave t a in
    started_fits (by_store []) false p (at_rest p budget) false (main_in p) 1 [] known.slave_sound (rest_fits (by_store []) false p budget known.slave_sound) refl refl (are_halves t a known).starts (omega arith) (omega arith)
    (subst (λ (ps : List Param). ArgumentsFit (by_store []) p.structs (at_rest p budget).blocks 0 ps []) (sym (main_params t a known)) (tt {0}))

-- ---- and shows where the whole begins

-- the monitor's globals at their start
abbrev pub beside_of : TypedTree → Accepted → Blocks
beside_of t a = with_globals t.structs no_blocks (the_monitor t a).globals

abbrev pub view_of : TypedTree → Accepted → View
view_of t a = slave_view (the_slave t a) [] (beside_of t a)

main_same : (t : TypedTree) (a : Accepted) → IsKnown t a → function_in (core_program t) (main_in (the_slave t a)) ≡ function_in (the_slave t a) (main_in (the_slave t a))
main_same t a known = let both = are_halves t a known in both.slave_part.functions (main_in (the_slave t a)) both.starts

-- a function is entered at depth 1, which has this code
abbrev entered_with : ℕ → FunctionTree → Active
entered_with f g = record { function = f; depth = 1; privileged = false; result = None; work = run g.body ∷ [] }

active_seen : (t : TypedTree) (a : Accepted) → IsKnown t a → just_entered (core_program t) false (main_in (core_program t)) 1 None ≡ just_entered (the_slave t a) false (main_in (the_slave t a)) 1 None
active_seen t a known =
    ap (λ (f : ℕ). just_entered (core_program t) false f 1 None) (are_halves t a known).begins
    ∙ ap (entered_with (main_in (the_slave t a))) (main_same t a known)

blocks_seen : (t : TypedTree) (a : Accepted) → IsKnown t a →
    entered (core_program t) (main_in (core_program t)) 1 [] (with_globals t.structs no_blocks (core_program t).globals)
    ≡ seen (view_of t a) (entered (the_slave t a) (main_in (the_slave t a)) 1 [] (with_globals t.structs no_blocks (the_slave t a).globals))
blocks_seen t a known =
    ap (λ (f : ℕ). entered p f 1 [] whole) (are_halves t a known).begins
    ∙ ap (λ (g : FunctionTree). with_frame whole 1 (map (λ (x : Var). shape_of t.structs x.ty) g.vars)) (main_same t a known)
    ∙ ap (λ (b : Blocks). with_frame b 1 (map (λ (x : Var). shape_of t.structs x.ty) (function_in q (main_in q)).vars))
    (globals_seen p (signed_slave t a) (kept_slave a) (signed_monitor t a) (kept_monitor a) (owned a) [] known.slave_sound known.monitor_sound)
    ∙ frame_seen (view_of t a) 0 q (slaves_are_viewed q 0 [] (beside_of t a)) own 1 (map (λ (x : Var). shape_of t.structs x.ty) (function_in q (main_in q)).vars) (omega arith)
  where
    p : ProgramTree
    p = core_program t

    q : ProgramTree
    q = the_slave t a

    whole : Blocks
    whole = with_globals t.structs no_blocks p.globals

    own : Blocks
    own = with_globals t.structs no_blocks q.globals

pub begun_seen : (t : TypedTree) (a : Accepted) → IsKnown t a → (budget : ℕ) → begun_machine (core_program t) budget ≡ seen_machine (view_of t a) nobody 0 budget (begun_machine (the_slave t a) budget)
begun_seen t a known budget = λ i. record { active = active_seen t a known i ∷ []; blocks = blocks_seen t a known i; turns = 0; budget = budget; awaits = None }
