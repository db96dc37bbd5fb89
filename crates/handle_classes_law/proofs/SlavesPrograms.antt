-- The slave's code is fine in the classes that an accepted program's marks give: function by function.
use Rattle.std.proofs.Common.{inl, ◌≡◌, ◌∙◌, ◌<◌, ℕ, pos, zero, suc, ◌+◌, ◌-◌, refl, ap, sym, subst, arith, Bool, true, false, Option, None, Some, List, [], ◌∷◌, ◌++◌, length, map, if◌then◌else◌}
use Rattle.std.specs.Prelude.{IsTrue, ◌&&◌, ◌||◌, not, cond, slice_get, get_or, is_none, nat_eq, nat_lt, option_map, unwrap_or}
use Rattle.std.specs.Option.{option_map_or}
use Rattle.std.specs.List.{AllByRecursion, filter, find}
use Rattle.std.proofs.lemmas.Bool.Decides.{nat_tests}
use Rattle.pt_base.specs.declared.ids.FnId.{FnId}
use Rattle.pt_base.specs.declared.int_type.IntType.TheVariants as i
use Rattle.pt_base.proofs.Booleans.{both_hold_first, both_hold_second, false_not_true, if_false, if_true}
use Rattle.pt_base.proofs.Members.{all_true_at}
use Rattle.pt_base.proofs.Numbers.{nat_eq_same}
use Rattle.pt_base.proofs.Places.{get_below_length, get_map}
use Rattle.pt_tree.specs.declared.signature.Signature.{Signature}
use Rattle.typed_tree.specs.declared.types.VarTy.{VarTy}
use Rattle.typed_tree.specs.declared.types.VarTy.TheVariants.{Int}
use Rattle.typed_tree.specs.declared.variable.Var.{Var}
use Rattle.typed_tree.specs.declared.variable.TypedGlobal.{TypedGlobal}
use Rattle.typed_tree.specs.StatementTree.{BodyTree}
use Rattle.typed_tree.specs.TypedTree.{TypedTree, FunctionTree}
use Rattle.typed_tree.specs.WellFormed.{is_plain_type, is_small, cells_fit, global_sound, numbers_sound}
use Rattle.typed_tree.specs.Cells.{leaves_of}
use Rattle.typed_tree.specs.WellFormedExpression.{is_main}
use Rattle.typed_tree.proofs.WellFormedLemmas.{Facts, facts_of}
use Rattle.sides.specs.declared.objects.Object.{Object}
use Rattle.sides.specs.declared.slots.Owner.TheVariants.{Result}
use Rattle.sides.specs.declared.slots.SlotInfo.{SlotInfo}
use Rattle.sides.specs.Carried.{scope_of}
use Rattle.reach.specs.Contexts.{InSlave}
use Rattle.sides.specs.Leaves.{leaf_count, whole}
use Rattle.sides.specs.Objects.{global_objects, variable_objects, variable_types, global_types, function_starts, result_start}
use Rattle.sides.specs.Seeds.{is_sealed_result, owner_marked, StandsInSlave, IsMarkedSlot}
use Rattle.sides.specs.Slots.{slot_of, slot_at}
use Rattle.reach.specs.Tables.{slot_number}
use Rattle.sides.proofs.StandLemmas.{objects_stand}
use Rattle.flow_rules.specs.declared.accepted.Accepted.{Accepted}
use Rattle.flow_rules.specs.Faults.{IsAccepted, edges_of_all, flows_of}
use Rattle.pt_core.specs.CodeTree as core
use Rattle.pt_core.specs.CodeTree.{constant, give_back, no_stmts, GlobalTree}
use Rattle.pt_core.specs.Calls.{function_in, no_function}
use Rattle.lowering.specs.Lowered.{Temp}
use Rattle.lowering.specs.Functions.{core_of, core_program, functions_from, globals_from, lowered_body, main_end}
use Rattle.lowering.specs.Statements.{nowhere}
use Rattle.lowered_code_law.proofs.FormsLists.{stand_behind}
use Rattle.lowered_code_law.proofs.FormsPrograms.{agrees, sound_at}
use Rattle.lowered_code_law.proofs.NamesBodies.{lowered_names}
use Rattle.splitter.specs.Halves.{Halves, halves_of, is_among}
use Rattle.splitter.proofs.SetLemmas.{among_from}
use Rattle.split_law.specs.Laws.{AreHalves}
use Rattle.split_law.proofs.Accepted.{accepted_shares_nothing}
use Rattle.split_law.proofs.Chosen.{each_chosen}
use Rattle.split_law.proofs.LoweredCode.{all_code, all_hold}
use Rattle.split_law.proofs.Parts.{Holds, entry, same_global}
use Rattle.split_law.proofs.Slaves.{signed, keeps}
use Rattle.handle_classes.specs.Classes.{World, scope_in}
use Rattle.handle_classes.specs.Judgment.{AreFineStatements}
use Rattle.handle_classes_law.specs.ObjectsCells.{is_pointer, class_at}
use Rattle.handle_classes_law.specs.SlavesMarked.{Marks, object_class, held_class, nothing_class, temps_of, variable_in, variable_class, global_class, slave_world}
use Rattle.handle_classes_law.specs.SlavesLaws.{slave_half, marks_of, SealedMayCome, SlaveClasses}
use Rattle.handle_classes_law.proofs.SlavesBench.{Bench, seen, judged, IsObject, Fits, Held, AreFine, fine_both, fine_trees}
use Rattle.handle_classes_law.proofs.SlavesClasses.{plain_object}
use Rattle.handle_classes_law.proofs.SlavesContexts.{judge, stmts_fine}
use Rattle.handle_classes_law.proofs.SlavesKnown.{IsKnown, bench, top_of, known_usages, known_quiet, seed_marked}
use Rattle.handle_classes_law.proofs.SlavesFindings.{Looks}
use Rattle.handle_classes_law.proofs.SlavesOutermost.{body_used}
use Rattle.handle_classes_law.proofs.SlavesSlots.{object_found, global_within, variable_within, result_within, signed as numbered}
use Rattle.handle_classes_law.proofs.SlavesGround.{Ground}
use Rattle.handle_classes_law.proofs.SlavesStatements.{statement_fine}
use Rattle.handle_classes_law.proofs.SlavesWithin.{Rooms}
use Rattle.handle_classes_law.proofs.SlavesSealed.{sealed_cells}
use Rattle.handle_classes_law.proofs.SlavesWorlds.{marked_worlds}

abbrev function_id : ℕ → FnId
function_id n = record { 0 = n }

-- ---- the classes of a function's variables

own_class : (m : Marks) (t : TypedTree) (n v : ℕ) (f : FunctionTree) (x : Object) → slice_get t.functions n ≡ Some f → v < length f.vars → slice_get (variable_objects t n) v ≡ Some x → variable_class m t n v ≡ class_at m t.structs x.ty (x.start ∷ [])
own_class m t n v f x here less is =
    ap (λ o. option_map_or (λ f. variable_in m t n f v) o (nothing_class m t.structs (Int i.Int))) here
    ∙ if_true (nat_lt v (length f.vars)) (object_class m t.structs (slice_get (variable_objects t n) v)) (option_map_or (held_class m (scope_of t n)) (slice_get (temps_of t f) (v - length f.vars)) (nothing_class m t.structs (Int i.Int))) (grind (arith, nat_tests, less))
    ∙ ap (object_class m t.structs) is

-- of the temporaries behind them
temp_class : (m : Marks) (t : TypedTree) (n k : ℕ) (f : FunctionTree) (temps : List Temp) (x : Temp) → slice_get t.functions n ≡ Some f → temps_of t f ≡ temps → slice_get temps k ≡ Some x → variable_class m t n (length f.vars + k) ≡ held_class m (scope_of t n) x
temp_class m t n k f temps x here are is =
    ap (λ o. option_map_or (λ g. variable_in m t n g (length f.vars + k)) o (nothing_class m t.structs (Int i.Int))) here
    ∙ if_false (nat_lt (length f.vars + k) (length f.vars)) (object_class m t.structs (slice_get (variable_objects t n) (length f.vars + k))) (option_map_or (held_class m (scope_of t n)) (slice_get (temps_of t f) (length f.vars + k - length f.vars)) (nothing_class m t.structs (Int i.Int))) (behind (length f.vars) k)
    ∙ ap (λ o. option_map_or (held_class m (scope_of t n)) o (nothing_class m t.structs (Int i.Int))) (ap (λ j. slice_get (temps_of t f) j) (back (length f.vars) k) ∙ ap (λ ts. slice_get ts k) are ∙ is)
  where
    behind : (l k : ℕ) → nat_lt (l + k) l ≡ false
    behind l k = grind (arith, nat_tests)

    back : (l k : ℕ) → l + k - l ≡ k
    back l k = omega arith

held_from : (b : Bench) (k : ℕ) (xs : List Temp) → ((j : ℕ) (x : Temp) → slice_get xs j ≡ Some x → b.world.variable b.function (k + j) ≡ held_class b.marks (seen b) x) → Held b k xs
held_from b k [] h = tt
held_from b k (x ∷ xs) h = (
  subst (λ j. b.world.variable b.function j ≡ held_class b.marks (seen b) x) (plain k) (h 0 x refl),
  held_from b (k + 1) xs (λ j y is. subst (λ z. b.world.variable b.function z ≡ held_class b.marks (seen b) y) (next k j) (h (suc j) y is)),
)
  where
    plain : (k : ℕ) → k + 0 ≡ k
    plain k = omega arith

    next : (k j : ℕ) → k + suc j ≡ k + 1 + j
    next k j = omega arith

-- ---- a function

local_object : (t : TypedTree) (a : Accepted) (n : ℕ) (f : FunctionTree) (temps : List Temp) → slice_get t.functions n ≡ Some f → (x : ℕ) (ty : VarTy) → option_map (λ (y : Var). y.ty) (slice_get f.vars x) ≡ Some ty →
    IsObject (bench t a n f temps) (variable_objects t n) x ty (variable_class (marks_of t a) t n x)
local_object t a n f temps here x ty is =
    let types : slice_get (option_map_or variable_types (slice_get t.functions n) []) x ≡ Some ty = subst (λ o. slice_get (option_map_or variable_types o []) x ≡ Some ty) (sym here) (get_map (λ (y : Var). y.ty) f.vars x ∙ is) in
    let o = object_found (leaf_count t.structs) (get_or (function_starts t) n 0) (option_map_or variable_types (slice_get t.functions n) []) x ty types in
    record { start = o.0; object = o.1; class = own_class (marks_of t a) t n x f (record { ty = ty; start = o.0 }) here (in_list f.vars x is) o.1 }
  where
    in_list : (xs : List Var) (k : ℕ) → option_map (λ (y : Var). y.ty) (slice_get xs k) ≡ Some ty → k < length xs
    in_list [] k h = cc
    in_list (y ∷ ys) zero h = omega arith
    in_list (y ∷ ys) (suc k) h = let rest = in_list ys k h in omega (arith, rest)

global_object : (t : TypedTree) (a : Accepted) (n : ℕ) (f : FunctionTree) (temps : List Temp) → Facts t → (g : ℕ) (ty : VarTy) → option_map (λ (y : TypedGlobal). y.var.ty) (slice_get t.globals g) ≡ Some ty →
    IsObject (bench t a n f temps) (global_objects t) g ty (global_class (marks_of t a) t g)
global_object t a n f temps facts g ty is =
    let o = object_found (leaf_count t.structs) 0 (global_types t) g ty (get_map (λ (y : TypedGlobal). y.var.ty) t.globals g ∙ is) in
    record {
      start = o.0;
      object = o.1;
      class = ap (λ z. record (object_class (marks_of t a) t.structs z) { pointer = false }) o.1 ∙ ap (λ p. record (class_at (marks_of t a) t.structs ty (o.0 ∷ [])) { pointer = p }) (sym (plain (slice_get t.globals g) refl is));
    }
  where
    plain : (o : Option TypedGlobal) → slice_get t.globals g ≡ o → option_map (λ (y : TypedGlobal). y.var.ty) o ≡ Some ty → is_pointer ty ≡ false
    plain None at e = cc
    plain (Some x) at e =
        let sound = all_true_at (global_sound t.structs) t.globals g x facts.globals at in
        plain_object (length t.structs) ty (subst (λ z. is_plain_type (length t.structs) z ≡ true) (same x.var.ty ty e)
        (both_hold_first (is_plain_type (length t.structs) x.var.ty) (is_small t.structs x.var.ty) (both_hold_first (is_plain_type (length t.structs) x.var.ty && is_small t.structs x.var.ty) (is_none x.var.holds && cells_fit (leaves_of t.structs x.var.ty) x.cells) sound)))
      where
        same : (c d : VarTy) → Some c ≡ Some d → c ≡ d
        same c d h = cc

pub bench_fits : (t : TypedTree) (a : Accepted) (n : ℕ) (f : FunctionTree) (body : BodyTree) (temps : List Temp) → Facts t → slice_get t.functions n ≡ Some f → f.body ≡ Some body → Fits (bench t a n f temps)
bench_fits t a n f body temps facts here is = record {
  agrees = agrees t f temps facts (sound_at t n f body facts here is).vars;
  locals = local_object t a n f temps here;
  globals = global_object t a n f temps facts;
  results = λ g h. both_hold_second (not (option_map_or (λ (x : FunctionTree). is_main x.signature) (slice_get t.functions g) false)) (marks_of t a (result_start t + g)) h;
}

pub bench_rooms : (t : TypedTree) (a : Accepted) (n : ℕ) (f : FunctionTree) (temps : List Temp) → Rooms (top_of t) (bench t a n f temps)
bench_rooms t a n f temps = record {
  locals = λ x start ty is. variable_within t n x (record { ty = ty; start = start }) is;
  globals = λ x start ty is. global_within t x (record { ty = ty; start = start }) is;
  results = λ g s is. result_within t g (numbered t g s is);
}

bench_looks : (t : TypedTree) (a : Accepted) (n : ℕ) (f : FunctionTree) (body : BodyTree) (temps : List Temp) → Facts t → slice_get t.functions n ≡ Some f → f.body ≡ Some body → Looks (flows_of t a.sides a.marks) (function_id n) (bench t a n f temps)
bench_looks t a n f body temps facts here is = record {
  marks = refl;
  scope = refl;
  function = refl;
  world = refl;
  calls = λ g. (agrees t f temps facts (sound_at t n f body facts here is).vars).calls g ∙ get_map (λ (x : FunctionTree). x.signature) t.functions g;
  structs = facts.structs;
  functions = facts.functions;
}

-- main's closing brace gives no handle
end_fine : (b : Bench) (s : Signature) → AreFine b (main_end s)
end_fine b s = go (is_main s)
  where
    go : (c : Bool) → AreFine b (if c then give_back (Some (constant i.Int (pos 0))) ∷ [] else [])
    go true = ((tt, record { kind = refl; first = λ p h. false_not_true h; size = λ p. false_not_true p; may = λ p. false_not_true p; must = λ p. false_not_true p }), tt)
    go false = tt

function_fine : (t : TypedTree) (a : Accepted) (n : ℕ) (f : FunctionTree) (body : BodyTree) → Facts t → IsAccepted t a → slice_get t.functions n ≡ Some f → f.body ≡ Some body → InSlave t (function_id n) →
    AreFineStatements (slave_world (marks_of t a) t) (judged (bench t a n f (lowered_body t f body).temps)) n (core_of t n f body).body
function_fine t a n f body facts accepted here is inside =
    let sound = sound_at t n f body facts here is in
    let code = lowered_body t f body in
    let b = bench t a n f code.temps in
    let g = bench_fits t a n f body code.temps facts here is in
    let rooms = bench_rooms t a n f code.temps in
    let ground : Ground b (IsKnown t a n) = record {
      fits = g;
      top = top_of t;
      rooms = rooms;
      own = result_within t n (get_below_length t.functions n f here);
      quiet = λ e how free h known room. known_quiet e how t a n f code.temps facts g rooms (bench_looks t a n f body code.temps facts here is) free h known room;
    } in
    let used = body_used (IsKnown t a n) t (function_id n) f body here is (all_true_at (numbers_sound t) t.functions n f facts.numbered here) (known_usages t a n accepted inside) in
    let temps : temps_of t f ≡ code.temps = ap (λ o. option_map_or (λ body. (lowered_body t f body).temps) o []) is in
    let held = held_from b (length f.vars) code.temps (λ j x at. temp_class (marks_of t a) t n j f code.temps x here temps at) in
    fine_trees b (code.stmts ++ main_end f.signature)
    (fine_both b code.stmts (main_end f.signature) (statement_fine body b (IsKnown t a n) t.exprs false false nowhere (length f.vars) ground sound.body used tt (stand_behind f.vars code.temps, held)) (end_fine b f.signature))

-- ---- the slave's program

-- what is found in a list is one of it
found_in : {A : Type 0} (P : A → Type 0) (test : A → Bool) (xs : List A) (x : A) → AllByRecursion P xs → find test xs ≡ Some x → P x × (test x ≡ true)
found_in P test [] x h e = cc
found_in {A} P test (y ∷ ys) x h e = go (test y) refl (λ k. found_in P test ys x h.1 k) e
  where
    same : (y x : A) → Some y ≡ Some x → y ≡ x
    same y x e = cc

    go : (c : Bool) → test y ≡ c → (find test ys ≡ Some x → P x × (test x ≡ true)) → cond c (Some y) (find test ys) ≡ Some x → P x × (test x ≡ true)
    go true is later k = let z = same y x k in (subst P z h.0, subst (λ w. test w ≡ true) z is)
    go false is later k = later k

each_both : {A : Type 0} (P Q : A → Type 0) (xs : List A) → AllByRecursion P xs → AllByRecursion Q xs → AllByRecursion (λ x. P x × Q x) xs
each_both P Q [] h k = tt
each_both P Q (x ∷ xs) h k = ((h.0, k.0), each_both P Q xs h.1 k.1)

abbrev whole_globals : TypedTree → List (ℕ × VarTy)
whole_globals t = map entry (globals_from 0 t.globals)

abbrev own_globals : TypedTree → Halves → List (ℕ × VarTy)
own_globals t h = map entry (filter (λ (g : GlobalTree). is_among h.owned g.id) (globals_from 0 t.globals))

-- a function's code is fine, with these globals' types
abbrev CodeFine : TypedTree → World → List (ℕ × VarTy) → core.FunctionTree → Type 0
CodeFine t w gs c = AreFineStatements w (judge t.structs (map (λ (x : Var). x.ty) c.vars) (w.variable c.id) w.global gs) c.id c.body

all_fine : (t : TypedTree) (a : Accepted) → Facts t → IsAccepted t a → AreHalves t (halves_of a.sides) →
    AllByRecursion (λ (c : core.FunctionTree). is_among (halves_of a.sides).slave c.id ≡ true → CodeFine t (slave_world (marks_of t a) t) (whole_globals t) c) (functions_from t 0 t.functions)
all_fine t a facts accepted are =
    all_code (λ (c : core.FunctionTree). is_among (halves_of a.sides).slave c.id ≡ true → CodeFine t (slave_world (marks_of t a) t) (whole_globals t) c) t
    (λ k f body here is among. function_fine t a k f body facts accepted here is ((are.slave k).0 (among_from (halves_of a.sides).slave k among)))

own_fine : (t : TypedTree) (a : Accepted) → Facts t → IsAccepted t a →
    AllByRecursion (CodeFine t (slave_world (marks_of t a) t) (own_globals t (halves_of a.sides))) (slave_half t a).functions
own_fine t a facts accepted =
    let h = halves_of a.sides in
    let w = slave_world (marks_of t a) t in
    let are = (accepted_shares_nothing t a accepted).0 in
    let hold = all_hold lowered_names false t (signed t h) (is_among h.slave) (is_among h.owned) facts.functions (keeps t h are) in
    each_chosen (CodeFine t w (own_globals t h)) (λ (c : core.FunctionTree). is_among h.slave c.id) (functions_from t 0 t.functions)
    (each_in_turn (functions_from t 0 t.functions) (each_both (λ (c : core.FunctionTree). is_among h.slave c.id ≡ true → Holds false (core_program t) (signed t h) (is_among h.slave) (is_among h.owned) c)
    (λ (c : core.FunctionTree). is_among h.slave c.id ≡ true → CodeFine t w (whole_globals t) c) (functions_from t 0 t.functions) hold (all_fine t a facts accepted are)))
  where
    each_in_turn : (cs : List core.FunctionTree) →
        AllByRecursion (λ (c : core.FunctionTree). (is_among (halves_of a.sides).slave c.id ≡ true → Holds false (core_program t) (signed t (halves_of a.sides)) (is_among (halves_of a.sides).slave) (is_among (halves_of a.sides).owned) c)
        × (is_among (halves_of a.sides).slave c.id ≡ true → CodeFine t (slave_world (marks_of t a) t) (whole_globals t) c)) cs →
        AllByRecursion (λ (c : core.FunctionTree). is_among (halves_of a.sides).slave c.id ≡ true → CodeFine t (slave_world (marks_of t a) t) (own_globals t (halves_of a.sides)) c) cs
    each_in_turn [] h = tt
    each_in_turn (c ∷ cs) h = (
      λ among. stmts_fine c.body (slave_world (marks_of t a) t) c.id t.structs (map (λ (x : Var). x.ty) c.vars) (variable_class (marks_of t a) t c.id) (global_class (marks_of t a) t) (whole_globals t) (own_globals t (halves_of a.sides))
          (λ n named. sym (same_global (core_program t) (is_among (halves_of a.sides).owned) n ((h.0.0 among).names n named))) (h.0.1 among),
      each_in_turn cs h.1,
    )

code_fine : (t : TypedTree) (a : Accepted) (w : World) → AllByRecursion (CodeFine t w (own_globals t (halves_of a.sides))) (slave_half t a).functions → (n : ℕ) → AreFineStatements w (scope_in (slave_half t a) w n) n (function_in (slave_half t a) n).body
code_fine t a w all n = go (find (λ (c : core.FunctionTree). nat_eq n c.id) (slave_half t a).functions) refl
  where
    go : (o : Option core.FunctionTree) → find (λ (c : core.FunctionTree). nat_eq n c.id) (slave_half t a).functions ≡ o →
        AreFineStatements w (judge t.structs (map (λ (x : Var). x.ty) (unwrap_or o no_function).vars) (w.variable n) w.global (own_globals t (halves_of a.sides))) n (unwrap_or o no_function).body
    go None is = tt
    go (Some c) is =
        let f = found_in (CodeFine t w (own_globals t (halves_of a.sides))) (λ (c : core.FunctionTree). nat_eq n c.id) (slave_half t a).functions c all is in
        subst (λ k. AreFineStatements w (judge t.structs (map (λ (x : Var). x.ty) c.vars) (w.variable k) w.global (own_globals t (halves_of a.sides))) k c.body) (sym (nat_eq_same n c.id f.1)) f.0

-- ---- results

sealed_come : (t : TypedTree) (a : Accepted) → IsAccepted t a → SealedMayCome t (slave_world (marks_of t a) t)
sealed_come t a accepted f x here plain sealed =
    let less = result_within t f (get_below_length t.functions f x here) in
    let at : slot_at t (result_start t + f) ≡ slot_of (Result (function_id f)) whole = (objects_stand t).results f (get_below_length t.functions f x here) in
    let marked : IsMarkedSlot t (result_start t + f) = subst (λ (z : SlotInfo). StandsInSlave t z.owner × IsTrue (owner_marked t z.owner || z.marked)) (sym at) (tt, first (owner_marked t (Result (function_id f))) false (ap (λ o. option_map_or (λ (y : FunctionTree). is_sealed_result y.signature) o false) here ∙ sealed)) in
    let m : marks_of t a (result_start t + f) ≡ true = seed_marked a.sides.seeds (edges_of_all t a.sides) (top_of t) a.marks accepted.marks (result_start t + f) ((accepted.sides.seeds.same (slot_number (result_start t + f))).1 (less, inl marked)) less in
    both (not (option_map_or (λ (y : FunctionTree). is_main y.signature) (slice_get t.functions f) false)) (marks_of t a (result_start t + f))
    (ap (λ o. not (option_map_or (λ (y : FunctionTree). is_main y.signature) o false)) here ∙ ap not plain) m
  where
    first : (c d : Bool) → c ≡ true → (c || d) ≡ true
    first true d h = refl
    first false d h = false_not_true h

    both : (c d : Bool) → c ≡ true → d ≡ true → (c && d) ≡ true
    both true d h k = k
    both false d h k = false_not_true h

pub slave_classes : SlaveClasses
slave_classes t a sound accepted =
    let facts = facts_of t sound in
    let w = slave_world (marks_of t a) t in
    let world = marked_worlds (marks_of t a) t in
    record {
      fine = record { code = code_fine t a w (own_fine t a facts accepted); variables = world.0.variables; objects = world.0.objects; globals = world.0.globals };
      asks = world.1;
      comes = sealed_come t a accepted;
      mixed = world.4;
      cells = sealed_cells (marks_of t a) t sound;
      enters = world.3;
      ends = world.2;
    }
