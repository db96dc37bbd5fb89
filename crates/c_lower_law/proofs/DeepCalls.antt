-- Calls come to the same, however deep they may go.
use Rattle.std.proofs.Common.{◌≡◌, ◌∙◌, ◌≤◌, ℕ, zero, suc, ◌+◌, nat_eq, nat_le, refl, ap, sym, subst, arith, Bool, true, false, not, Option, Some, List, map, length, if◌then◌else◌}
use Rattle.std.specs.Prelude.{IsTrue, ◌&&◌, slice_get}
use Rattle.std.specs.List.{list_all}
use Rattle.std.proofs.lemmas.Bool.Decides.{nat_tests}
use Rattle.pt_base.specs.declared.span.Span.{Span}
use Rattle.pt_base.specs.declared.trap.Trap.TheVariants.{Depth}
use Rattle.pt_base.proofs.Booleans.{both_hold_first, both_hold_second}
use Rattle.pt_base.proofs.Members.{all_true_at}
use Rattle.pt_tree.specs.declared.signature.Signature.{Signature}
use Rattle.runs.specs.State.{gives, trapped, spent, take_turn, noted, guarded_event}
use Rattle.typed_tree.specs.declared.types.VarTy.{VarTy}
use Rattle.typed_tree.specs.declared.variable.Var.{Var}
use Rattle.typed_tree.specs.StatementTree.{BodyTree}
use Rattle.typed_tree.specs.TypedTree.{TypedTree, FunctionTree}
use Rattle.typed_tree.specs.Sizes.{sizes_of}
use Rattle.typed_tree.specs.WellFormed.{is_well_formed, function_sound, params_lead, variable_sound, body_sound, names_in, scope_in}
use Rattle.typed_tree.specs.WellFormedExpression.{is_main}
use Rattle.block_memory.specs.declared.cell.Cell as core
use Rattle.source_meaning.specs.State.{State}
use Rattle.source_meaning.specs.Values.{Value, numbers_of}
use Rattle.source_meaning.specs.Expressions.{Frame}
use Rattle.source_meaning.specs.Functions as f
use Rattle.source_soundness.specs.Sizes.{ArgumentsSized}
use Rattle.source_soundness.specs.Laws.{ArgumentsFit}
use Rattle.source_soundness.proofs.CallSoundness.{Leads, leads}
use Rattle.source_soundness.proofs.ProgramFacts.{facts}
use Rattle.source_soundness.proofs.Programs.{entered_as, types_of, Bodied, bodied, function_is, named}
use Rattle.pt_core.specs.CodeTree as t
use Rattle.pt_core.specs.Values.{number_in}
use Rattle.pt_core.specs.Statements as c
use Rattle.pt_core.specs.Calls as calls
use Rattle.pt_core.specs.Calls.{function_in}
use Rattle.lowering.specs.Functions.{core_of, core_program}
use Rattle.c_lower_law.proofs.Relations.{Scene, frame_of, Alike, Same, all}
use Rattle.c_lower_law.proofs.Expressions.{SameResult, SameCells, CallsAlike, Gives}
use Rattle.c_lower_law.proofs.Statements.{StatementsAgree, CallsAgree, scene_in}
use Rattle.c_lower_law.proofs.CorePrograms.{all_types, signature_is, function_found}
use Rattle.c_lower_law.proofs.Entering.{argument_cells}
use Rattle.c_lower_law.proofs.HostCalls.{numbers_same, host_as, core_host_as, host_alike}
use Rattle.c_lower_law.proofs.CallLaws.{Scalars, temps_of, inner, inner_frames, caller, core_call_as, function_alike}

-- a host's call, by the arguments' cells
host_by_cells : (s : Scene) (n : ℕ) (signature : Signature) (vs : List Value) (st : State) (st' : c.State) → Alike s st st' →
    Same (Gives s all st'.memory (SameResult signature.result)) (host_as s.frame signature n (numbers_of vs) st) (core_host_as (frame_of s) signature n (map number_in (argument_cells vs)) st')
host_by_cells s n signature vs st st' al =
    subst (λ numbers. Same (Gives s all st'.memory (SameResult signature.result)) (host_as s.frame signature n (numbers_of vs) st) (core_host_as (frame_of s) signature n numbers st')) (sym (numbers_same vs)) (host_alike s n signature signature.result (numbers_of vs) st st' al)

-- where no function may be entered
shallow : (s : Scene) (n : ℕ) (span : Span) (signature : Signature) (vs : List Value) (st : State) (st' : c.State) → Alike s st st' →
    Same (Gives s all st'.memory (SameResult signature.result)) (if signature.host then host_as s.frame signature n (numbers_of vs) st else trapped Depth span st)
    (if signature.host then core_host_as (frame_of s) signature n (map number_in (argument_cells vs)) st' else trapped Depth span st')
shallow s n span signature vs st st' al = go signature.host
  where
    go : (b : Bool) → Same (Gives s all st'.memory (SameResult signature.result)) (if b then host_as s.frame signature n (numbers_of vs) st else trapped Depth span st)
        (if b then core_host_as (frame_of s) signature n (map number_in (argument_cells vs)) st' else trapped Depth span st')
    go true = host_by_cells s n signature vs st st' al
    go false = (refl, refl, al.seen)

sound_leads : (program : TypedTree) (g : FunctionTree) → function_sound program g ≡ true → Leads g.signature.params (types_of g)
sound_leads program g sound = leads g.signature.params g.vars (both_hold_second (nat_le (length g.signature.params) 8) (params_lead g.signature.params g.vars) (both_hold_first (nat_le (length g.signature.params) 8 && params_lead g.signature.params g.vars) (list_all (variable_sound program.structs) g.vars && body_sound program g g.body) sound))

own_frame : (frames : ℕ → List VarTy) (depth : ℕ) (types : List VarTy) → inner_frames frames depth types (depth + 1) ≡ types
own_frame frames depth types = ap (λ t. if t then types else frames (depth + 1)) (same depth)
  where
    same : (n : ℕ) → nat_eq (n + 1) (suc n) ≡ true
    same n = grind (arith, nat_tests)

pub calls_alike : (deep : ℕ) (program : TypedTree) (vars : List Var) (frames : ℕ → List VarTy) (frame : Frame) (core_variables : List VarTy) → StatementsAgree → Scalars program → IsTrue (is_well_formed program) → frames frame.depth ≡ map (λ (x : Var). x.ty) vars → CallsAlike (scene_in program vars frames frame core_variables deep)
calls_alike zero program vars frames frame core_variables agree scalar h own span n vs xs st st' signature there not_main fit sized same al =
    let s = scene_in program vars frames frame core_variables zero in
    let g = named program n signature there in
    subst (λ cells. Same (Gives s all st'.memory (SameResult signature.result)) (f.calls_within program zero frame span n vs st) (calls.calls_within (core_program program) zero (frame_of s) span n cells st')) (sym same)
    (subst (λ (y : Signature). Same (Gives s all st'.memory (SameResult y.result)) (f.calls_within program zero frame span n vs st) (calls.calls_within (core_program program) zero (frame_of s) span n (argument_cells vs) st')) g.has
    (subst (λ (y : Signature). Same (Gives s all st'.memory (SameResult g.entry.signature.result)) (f.calls_within program zero frame span n vs st)
    (if y.host then core_host_as (frame_of s) y n (map number_in (argument_cells vs)) st' else trapped Depth span st')) (sym (signature_is program n g.entry g.is))
    (subst (λ (y : FunctionTree). Same (Gives s all st'.memory (SameResult g.entry.signature.result)) (if y.signature.host then host_as frame y.signature n (numbers_of vs) st else trapped Depth span st)
    (if g.entry.signature.host then core_host_as (frame_of s) g.entry.signature n (map number_in (argument_cells vs)) st' else trapped Depth span st')) (sym (function_is program n (Some g.entry) g.is))
    (shallow s n span g.entry.signature vs st st' al))))
calls_alike (suc deep) program vars frames frame core_variables agree scalar h own span n vs xs st st' signature there not_main fit sized same al =
    let s = scene_in program vars frames frame core_variables (suc deep) in
    let g = named program n signature there in
    subst (λ cells. Same (Gives s all st'.memory (SameResult signature.result)) (f.calls_within program (suc deep) frame span n vs st) (calls.calls_within (core_program program) (suc deep) (frame_of s) span n cells st')) (sym same)
    (subst (λ (y : Signature). Same (Gives s all st'.memory (SameResult y.result)) (f.calls_within program (suc deep) frame span n vs st) (calls.calls_within (core_program program) (suc deep) (frame_of s) span n (argument_cells vs) st')) g.has
    (subst (λ (y : Signature). Same (Gives s all st'.memory (SameResult g.entry.signature.result)) (f.calls_within program (suc deep) frame span n vs st)
    (if y.host then core_host_as (frame_of s) y n (map number_in (argument_cells vs)) st' else core_call_as (core_program program) (calls.calls_within (core_program program) deep) (frame_of s) n (function_in (core_program program) n) y (argument_cells vs) st')) (sym (signature_is program n g.entry g.is))
    (subst (λ (y : FunctionTree). Same (Gives s all st'.memory (SameResult g.entry.signature.result))
    (if y.signature.host then host_as frame y.signature n (numbers_of vs) st else take_turn st.left st (λ st1. entered_as program (f.calls_within program deep) frame y vs (noted (guarded_event frame.privileged y.signature n (numbers_of vs)) st1)))
    (if g.entry.signature.host then core_host_as (frame_of s) g.entry.signature n (map number_in (argument_cells vs)) st' else core_call_as (core_program program) (calls.calls_within (core_program program) deep) (frame_of s) n (function_in (core_program program) n) g.entry.signature (argument_cells vs) st')) (sym (function_is program n (Some g.entry) g.is))
    (entry_alike (λ g0 body. calls_alike deep program g0.vars (inner_frames frames frame.depth (types_of g0)) (f.frame_in frame g0.signature) (all_types g0.vars (temps_of program g0 body)) agree scalar h (own_frame frames frame.depth (types_of g0)))
    g.entry g.is (subst (λ (y : Signature). IsTrue (not (is_main y))) (sym g.has) not_main) (subst (λ (y : Signature). ArgumentsFit (caller program frames frame) y.params vs) (sym g.has) fit)
    (subst (λ (y : Signature). ArgumentsSized (caller program frames frame) (sizes_of program.structs) y.params vs) (sym g.has) sized)))))
  where
    entry_alike : ((g0 : FunctionTree) (body : BodyTree) → CallsAlike (inner program g0 body frames frame deep)) → (g : FunctionTree) → slice_get program.functions n ≡ Some g → IsTrue (not (is_main g.signature)) → ArgumentsFit (caller program frames frame) g.signature.params vs → ArgumentsSized (caller program frames frame) (sizes_of program.structs) g.signature.params vs →
        Same (Gives (scene_in program vars frames frame core_variables (suc deep)) all st'.memory (SameResult g.signature.result))
        (if g.signature.host then host_as frame g.signature n (numbers_of vs) st else take_turn st.left st (λ st1. entered_as program (f.calls_within program deep) frame g vs (noted (guarded_event frame.privileged g.signature n (numbers_of vs)) st1)))
        (if g.signature.host then core_host_as (frame_of (scene_in program vars frames frame core_variables (suc deep))) g.signature n (map number_in (argument_cells vs)) st' else
        core_call_as (core_program program) (calls.calls_within (core_program program) deep) (frame_of (scene_in program vars frames frame core_variables (suc deep))) n (function_in (core_program program) n) g.signature (argument_cells vs) st')
    entry_alike within g is no_main args size = go g.signature.host refl
      where
        s : Scene
        s = scene_in program vars frames frame core_variables (suc deep)

        sound : function_sound program g ≡ true
        sound = all_true_at (function_sound program) program.functions n g (facts program h).functions is

        by_body : Bodied program g → Same (Gives s all st'.memory (SameResult g.signature.result)) (take_turn st.left st (λ st1. entered_as program (f.calls_within program deep) frame g vs (noted (guarded_event frame.privileged g.signature n (numbers_of vs)) st1)))
            (core_call_as (core_program program) (calls.calls_within (core_program program) deep) (frame_of s) n (function_in (core_program program) n) g.signature (argument_cells vs) st')
        by_body has =
            subst (λ (y : t.FunctionTree). Same (Gives s all st'.memory (SameResult g.signature.result)) (take_turn st.left st (λ st1. entered_as program (f.calls_within program deep) frame g vs (noted (guarded_event frame.privileged g.signature n (numbers_of vs)) st1)))
            (core_call_as (core_program program) (calls.calls_within (core_program program) deep) (frame_of s) n y g.signature (argument_cells vs) st')) (sym (function_found program n g has.body is has.is))
            (function_alike program vars core_variables (suc deep) n g has.body frames frame deep vs st st' agree scalar h own is has.is has.sound no_main (sound_leads program g sound) args size
            (within g has.body) al)

        go : (b : Bool) → g.signature.host ≡ b → Same (Gives s all st'.memory (SameResult g.signature.result))
            (if b then host_as frame g.signature n (numbers_of vs) st else take_turn st.left st (λ st1. entered_as program (f.calls_within program deep) frame g vs (noted (guarded_event frame.privileged g.signature n (numbers_of vs)) st1)))
            (if b then core_host_as (frame_of s) g.signature n (map number_in (argument_cells vs)) st' else core_call_as (core_program program) (calls.calls_within (core_program program) deep) (frame_of s) n (function_in (core_program program) n) g.signature (argument_cells vs) st')
        go true e = host_by_cells s n g.signature vs st st' al
        go false e = by_body (bodied program g sound e)

pub calls_agree : StatementsAgree → ((program : TypedTree) → IsTrue (is_well_formed program) → Scalars program) → CallsAgree
calls_agree agree scalar program vars frames frame core_variables deep h own = calls_alike deep program vars frames frame core_variables agree (scalar program h) h own
