-- What can be said of a whole program's code can be said of a half's, which has all that its code names.
use Rattle.std.proofs.Common.{◌≡◌, ◌∙◌, ℕ, zero, suc, sym, subst, Bool, true, false, Option, Some, List, [], ◌∷◌, map}
use Rattle.std.specs.Prelude.{IsTrue, slice_get}
use Rattle.std.specs.List.{filter, AllByRecursion}
use Rattle.pt_base.proofs.Booleans.{both_hold_first}
use Rattle.pt_tree.specs.declared.signature.Signature.{Signature}
use Rattle.typed_tree.specs.declared.variable.Var.{Var}
use Rattle.typed_tree.specs.TypedTree.{TypedTree}
use Rattle.typed_tree.specs.WellFormed.{is_well_formed}
use Rattle.typed_tree.proofs.WellFormedLemmas.{facts_of}
use Rattle.pt_core.specs.CodeTree.{FunctionTree, ProgramTree, GlobalTree}
use Rattle.pt_core.specs.WellFormed as well
use Rattle.pt_core.specs.WellFormed.{called_signature, context_of, has_main, is_sound}
use Rattle.pt_core.specs.WellFormedStatement.{callees_of}
use Rattle.pt_core.proofs.ServingLemmas.{same_calls}
use Rattle.lowering.specs.Functions.{core_program, functions_from}
use Rattle.lowered_code_law.proofs.FormsPrograms.{programs_are_well_formed}
use Rattle.lowered_code_law.specs.NamesNamed.{globals_of}
use Rattle.lowered_code_law.proofs.NamesBodies.{lowered_names}
use Rattle.splitter.specs.Halves.{Halves, is_among}
use Rattle.split_law.specs.Laws.{AreHalves, SharesNothing}
use Rattle.split_law.proofs.Agreeing.{Agree, Call}
use Rattle.split_law.proofs.Chosen.{each_chosen}
use Rattle.split_law.proofs.LoweredCode.{all_code, all_hold}
use Rattle.split_law.proofs.Parts.{Holds, AllHold, part, entry, same_global, same_called, part_sound}
use Rattle.split_law.proofs.Slaves as slave
use Rattle.split_law.proofs.Monitors as monitor
use Rattle.half_meaning_law.specs.CForms.{are_said}
use Rattle.half_names_law.specs.SaidNulls.{nulls_stand}
use Rattle.half_names_law.proofs.SaidPrograms.{functions_said}
use Rattle.half_texts_law.specs.DeclarationsSaid.{CodeIsSaid, SlavesAreSaid, MonitorsAreSaid}
use Rattle.half_texts_law.proofs.DeclarationsSaidAlike.{stmts_same}

-- ---- lists

each_two : {A : Type 0} (P Q R : A → Type 0) → ((x : A) → P x → Q x → R x) → (xs : List A) → AllByRecursion P xs → AllByRecursion Q xs → AllByRecursion R xs
each_two P Q R f [] h k = tt
each_two P Q R f (x ∷ xs) h k = (f x h.0 k.0, each_two P Q R f xs h.1 k.1)

each_at : {A : Type 0} (P : A → Type 0) (xs : List A) (k : ℕ) (x : A) → AllByRecursion P xs → slice_get xs k ≡ Some x → P x
each_at P [] k x h is = cc
each_at P (y ∷ ys) zero x h is = subst P (same is) h.0
  where
    same : Some y ≡ Some x → y ≡ x
    same e = cc
each_at P (y ∷ ys) (suc k) x h is = each_at P ys k x h.1 is

-- ---- parts of programs

-- the function's code can be said in this program
abbrev Said : Bool → ProgramTree → FunctionTree → Type 0
Said monitor p f = are_said (context_of p f.vars) (called_signature monitor p) f.body ≡ true

said_kept : (p : ProgramTree) (signed kept owned : ℕ → Bool) (f : FunctionTree) → Said false p f → Holds false p signed kept owned f → Said false (part signed kept owned p) f
said_kept p signed kept owned f said holds =
    sym (stmts_same f.body p.structs (map (λ (x : Var). x.ty) f.vars) (map entry p.globals) (map entry (filter (λ (g : GlobalTree). owned g.id) p.globals)) (called_signature false p) (called_signature false (part signed kept owned p)) agree call) ∙ said
  where
    agree : Agree (map entry p.globals) (map entry (filter (λ (g : GlobalTree). owned g.id) p.globals)) (globals_of f.body)
    agree n c = sym (same_global p owned n (holds.names n c))

    call : Call (called_signature false p) (called_signature false (part signed kept owned p)) (callees_of f.body)
    call n c = same_called p signed kept owned n (holds.called n c)

whole_said : (t : TypedTree) → IsTrue (is_well_formed t) → IsTrue (nulls_stand t) → AllByRecursion (Said false (core_program t)) (functions_from t 0 t.functions)
whole_said t well nulls = all_code (Said false (core_program t)) t (λ k f b is body. functions_said t k f b well nulls is body)

part_said : (t : TypedTree) (signed kept owned : ℕ → Bool) → IsTrue (is_well_formed t) → IsTrue (nulls_stand t) → AllHold false (core_program t) signed kept owned (functions_from t 0 t.functions) → CodeIsSaid false (part signed kept owned (core_program t))
part_said t signed kept owned well nulls hold n f is =
    let p = core_program t in
    each_at (Said false (part signed kept owned p)) (part signed kept owned p).functions n f
    (each_chosen (Said false (part signed kept owned p)) (λ (g : FunctionTree). kept g.id) (functions_from t 0 t.functions)
    (each_two (Said false p) (λ (g : FunctionTree). kept g.id ≡ true → Holds false p signed kept owned g) (λ (g : FunctionTree). kept g.id ≡ true → Said false (part signed kept owned p) g)
    (λ g said holds here. said_kept p signed kept owned g said (holds here)) (functions_from t 0 t.functions) (whole_said t well nulls) hold)) is

-- ---- the slave

pub slaves_said : SlavesAreSaid
slaves_said t h well nulls are =
    part_said t (slave.signed t h) (is_among h.slave) (is_among h.owned) well nulls (all_hold lowered_names false t (slave.signed t h) (is_among h.slave) (is_among h.owned) (facts_of t well).functions (slave.keeps t h are))

-- ---- the monitor, whose functions are called with all their parameters

monitor_said : (t : TypedTree) (h : Halves) → IsTrue (is_well_formed t) → IsTrue (nulls_stand t) → AreHalves t h → SharesNothing t → CodeIsSaid true (monitor.half t h)
unfolding well.is_well_formed
monitor_said t h sound nulls are apart n f is =
    let p = core_program t in
    let whole = both_hold_first (is_sound false p) (has_main p) (programs_are_well_formed t sound) in
    let signed = monitor.signed t h in
    let kept = is_among h.monitor in
    let owned = monitor.owned h in
    let hold = monitor.plainly p signed kept owned (functions_from t 0 t.functions) (all_hold lowered_names true t signed kept owned (facts_of t sound).functions (monitor.keeps t h are apart)) in
    let half = part signed kept owned p in
    subst (λ (c : ℕ → Option Signature). IsTrue (are_said (context_of half f.vars) c f.body)) (sym (same_calls half (part_sound p signed kept owned whole hold))) (part_said t signed kept owned sound nulls hold n f is)

pub monitors_said : MonitorsAreSaid
monitors_said t h sound nulls are apart = monitor_said t h sound nulls are apart
