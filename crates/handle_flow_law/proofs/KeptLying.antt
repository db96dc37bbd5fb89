-- Where the machine is fine, handles lie under marks.
use Rattle.std.proofs.Common.{◌≡◌, ◌∙◌, ◌<◌, ◌≤◌, ℕ, ◌+◌, ◌-◌, refl, ap, sym, subst, arith, inl, inr, ◌⊎◌, Bool, true, false, Option, None, Some, List, [], ◌∷◌, length, Contains, slice_get, if◌then◌else◌}
use Rattle.std.specs.Prelude.{◌&&◌, ◌||◌, MatchOption, is_none, is_some, nat_eq, nat_lt, option_map, IsTrue}
use Rattle.std.specs.Option.{option_map_or}
use Rattle.std.specs.List.{list_any}
use Rattle.std.proofs.lemmas.Bool.{cases_lt, eqb-true, ltb-false}
use Rattle.std.proofs.lemmas.List.{get_or_past}
use Rattle.std.proofs.lemmas.Option.{slice_get-map}
use Rattle.pt_base.specs.declared.int_type.IntType.TheVariants as i
use Rattle.pt_base.proofs.Booleans.{both_hold_first, false_not_true}
use Rattle.pt_base.proofs.Members.{all_true_at, contains_first, contains_later}
use Rattle.typed_tree.specs.declared.types.VarTy.{VarTy}
use Rattle.typed_tree.specs.declared.types.VarTy.TheVariants.{Int}
use Rattle.typed_tree.specs.declared.variable.TypedGlobal.{TypedGlobal}
use Rattle.typed_tree.specs.declared.types.StructInfo.{StructInfo}
use Rattle.typed_tree.specs.Cells.{leaves_of}
use Rattle.typed_tree.specs.ExpressionTree.{ExprTree}
use Rattle.typed_tree.specs.TypedTree.{TypedTree, FunctionTree}
use Rattle.typed_tree.specs.WellFormed.{global_sound, is_plain_type, is_small, is_well_formed, cells_fit}
use Rattle.typed_tree.proofs.WellFormedLemmas.{Facts, facts_of}
use Rattle.source_meaning.specs.Expressions.{type_of}
use Rattle.propagation.specs.Marks.{path_shown}
use Rattle.propagation.specs.Paths.{IsShortestPath}
use Rattle.reach.specs.Tables.{slot_number}
use Rattle.block_memory.specs.declared.cell.BlockName.{BlockName}
use Rattle.block_memory.specs.declared.cell.BlockName.TheVariants.{Local, Global, Received}
use Rattle.sides.specs.declared.objects.Object.{Object}
use Rattle.sides.specs.Carried.{Scope, carried, scope_of}
use Rattle.sides.specs.Leaves.{leaf_count}
use Rattle.sides.specs.Objects.{global_objects, global_types, variable_objects}
use Rattle.sides.specs.Slots.{slots_of}
use Rattle.flow_rules.specs.declared.accepted.Accepted.{Accepted}
use Rattle.flow_rules.specs.Faults.{IsAccepted, edges_of_all}
use Rattle.pt_core.specs.Steps.{Active}
use Rattle.pt_core.specs.Types.{pointee_type}
use Rattle.lowering.specs.Lowered.{Temp}
use Rattle.handle_classes.specs.Classes.{Class}
use Rattle.handle_classes.specs.Invariant.{MayLie, block_class, local_class}
use Rattle.handle_classes_law.specs.ObjectsCells.{class_at, is_pointer, leaf_under}
use Rattle.handle_classes_law.specs.SlavesLaws.{IsSlaveWorld, marks_of, slave_half}
use Rattle.handle_classes_law.specs.SlavesMarked.{Marks, class_by, held_class, kept_class, nothing_class, object_class, slave_world, temps_of, variable_class, variable_in}
use Rattle.handle_classes_law.proofs.SlavesClasses.{plain_object}
use Rattle.handle_classes_law.proofs.SlavesSlots.{object_type}
use Rattle.handle_classes_law.proofs.SlavesRoots.{object_pointee}
use Rattle.pair_meaning.specs.SlaveRun.{Slave, slave_of}
use Rattle.pair_meaning.specs.Pair.{slave_at}
use Rattle.handle_flow_law.specs.KeptLaws.{boot_of}
use Rattle.handle_flow_law.specs.KeptHandlesLie.{IsSecret, IsSecretCell, IsSecretValue, IsSecretVariable, IsSecretLocal, LiesUnderMark, HandlesLieUnderMarks}
use Rattle.handle_flow_law.proofs.KeptRuns.{IsKnown, Keeps, begin_keeps, runs_keep, world_of}

-- ---- marks

-- a marked slot is privileged
secret_of_mark : (t : TypedTree) (a : Accepted) (s : ℕ) → IsAccepted t a → marks_of t a s ≡ true → IsSecret t a s
secret_of_mark t a s accepted marked = go (cases_lt s (length (slots_of t)))
  where
    shown : (o : Option (List ℕ)) → is_some o ≡ true → MatchOption o (¬ (IsSecret t a s)) (λ path. IsShortestPath a.sides.seeds (edges_of_all t a.sides) path (slot_number s)) → IsSecret t a s
    shown None is h = false_not_true is
    shown (Some path) is (seed, among, leads, fewest) = (seed, path, among, leads)

    go : (s < length (slots_of t)) ⊎ (length (slots_of t) ≤ s) → IsSecret t a s
    go (inl within) = shown (path_shown a.marks (slot_number s)) marked (accepted.marks.paths (slot_number s) within)
    go (inr past) =
        let size = accepted.marks.size in
        false_not_true (ap is_some (sym (get_or_past a.marks s None (omega (arith, size, past)))) ∙ marked)

-- ---- classes

-- a cell of this class may be a handle
abbrev MayBe : Class → ℕ → Type 0
MayBe c n = (c.pointer ≡ false) × (c.may n ≡ true)

any_of : {X : Type 0} (test : X → Bool) (xs : List X) → list_any test xs ≡ true → (x : X) × Contains xs x × (test x ≡ true)
any_of test [] h = false_not_true h
any_of {X} test (y ∷ ys) h = go (test y) refl (any_of test ys) h
  where
    go : (b : Bool) → test y ≡ b → (list_any test ys ≡ true → (x : X) × Contains ys x × (test x ≡ true)) → (b || list_any test ys) ≡ true → (x : X) × Contains (y ∷ ys) x × (test x ≡ true)
    go true is rest h = (y, contains_first y ys, is)
    go false is rest h = let found = rest h in (found.0, contains_later y ys found.0 found.1, found.2)

kept_as : (c : Class) (n : ℕ) → MayBe (kept_class c) n → MayBe c n
kept_as c n = go c.pointer refl
  where
    go : (b : Bool) → c.pointer ≡ b → MayBe (if b then c else record c { must = c.may }) n → MayBe c n
    go true is h = h
    go false is h = h

nothing_may : {A : Type 0} (m : Marks) (structs : List StructInfo) (ty : VarTy) (n : ℕ) → MayBe (nothing_class m structs ty) n → A
nothing_may m structs ty n h = false_not_true (kept_as (class_at m structs ty []) n h).1

or_nothing : (b : Bool) → (b || false) ≡ true → b ≡ true
or_nothing true h = refl
or_nothing false h = h

-- ---- what a class of the marks says

cell_secret : (t : TypedTree) (a : Accepted) (x : Object) (n : ℕ) → IsAccepted t a → MayBe (class_at (marks_of t a) t.structs x.ty (x.start ∷ [])) n → IsSecretCell t a x n
cell_secret t a x n accepted h = record {
  integer = h.0;
  secret = subst (λ ty. IsSecret t a (x.start + leaf_under t.structs ty n)) (object_pointee x.ty h.0)
      (secret_of_mark t a (x.start + leaf_under t.structs (pointee_type x.ty) n) accepted (or_nothing (marks_of t a (x.start + leaf_under t.structs (pointee_type x.ty) n)) h.1));
}

value_secret : (t : TypedTree) (a : Accepted) (c : Scope) (e : ExprTree) (n : ℕ) → c.structs ≡ t.structs → IsAccepted t a → MayBe (class_by (marks_of t a) c e) n → IsSecretValue t a c e n
value_secret t a c e n same accepted h =
    let found = any_of (λ s. marks_of t a (s + leaf_under c.structs (pointee_type (type_of e)) n)) (carried c e) h.1 in
    record {
      integer = h.0;
      slot = found.0;
      carries = found.1;
      secret = subst (λ structs. IsSecret t a (found.0 + leaf_under structs (type_of e) n)) same
          (subst (λ ty. IsSecret t a (found.0 + leaf_under c.structs ty n)) (object_pointee (type_of e) h.0)
          (secret_of_mark t a (found.0 + leaf_under c.structs (pointee_type (type_of e)) n) accepted found.2));
    }

variable_secret : (t : TypedTree) (a : Accepted) (f : ℕ) (x : FunctionTree) (v n : ℕ) → IsAccepted t a → MayBe (variable_in (marks_of t a) t f x v) n → IsSecretVariable t a f x v n
variable_secret t a f x v n accepted = go (nat_lt v (length x.vars)) refl
  where
    own : (o : Option Object) → slice_get (variable_objects t f) v ≡ o → MayBe (object_class (marks_of t a) t.structs o) n → IsSecretVariable t a f x v n
    own None is h = nothing_may (marks_of t a) t.structs (Int i.Int) n h
    own (Some o) is h = inl (o, is, cell_secret t a o n accepted h)

    held : (temp : Temp) (o : Option ExprTree) → temp.holds ≡ o → length x.vars ≤ v → slice_get (temps_of t x) (v - length x.vars) ≡ Some temp →
        MayBe (option_map_or (λ e. kept_class (class_by (marks_of t a) (scope_of t f) e)) o (nothing_class (marks_of t a) t.structs temp.ty)) n → IsSecretVariable t a f x v n
    held temp None holds le is h = nothing_may (marks_of t a) t.structs temp.ty n h
    held temp (Some e) holds le is h = inr (record {
      temporary = temp;
      expression = e;
      behind = le;
      is = is;
      holds = holds;
      value = value_secret t a (scope_of t f) e n refl accepted (kept_as (class_by (marks_of t a) (scope_of t f) e) n h);
    })

    temporary : (o : Option Temp) → slice_get (temps_of t x) (v - length x.vars) ≡ o → length x.vars ≤ v → MayBe (option_map_or (held_class (marks_of t a) (scope_of t f)) o (nothing_class (marks_of t a) t.structs (Int i.Int))) n →
        IsSecretVariable t a f x v n
    temporary None is le h = nothing_may (marks_of t a) t.structs (Int i.Int) n h
    temporary (Some temp) is le h = held temp temp.holds refl le is h

    go : (b : Bool) → nat_lt v (length x.vars) ≡ b →
        MayBe (if b then object_class (marks_of t a) t.structs (slice_get (variable_objects t f) v)
        else option_map_or (held_class (marks_of t a) (scope_of t f)) (slice_get (temps_of t x) (v - length x.vars)) (nothing_class (marks_of t a) t.structs (Int i.Int))) n → IsSecretVariable t a f x v n
    go true is h = own (slice_get (variable_objects t f) v) refl h
    go false is h = temporary (slice_get (temps_of t x) (v - length x.vars)) refl (ltb-false v (length x.vars) is) h

-- of the function that was entered at the depth
local_secret : (t : TypedTree) (a : Accepted) (active : List Active) (depth v n : ℕ) → IsAccepted t a → MayBe (local_class (world_of t a) active depth v) n → IsSecretLocal t a active depth v n
local_secret t a [] depth v n accepted h = false_not_true (sym h.0)
local_secret t a (x ∷ active) depth v n accepted h = go (nat_eq depth x.depth) refl h (local_secret t a active depth v n accepted)
  where
    here : (o : Option FunctionTree) → slice_get t.functions x.function ≡ o → x.depth ≡ depth →
        MayBe (option_map_or (λ f. variable_in (marks_of t a) t x.function f v) o (nothing_class (marks_of t a) t.structs (Int i.Int))) n → IsSecretLocal t a (x ∷ active) depth v n
    here None is at h = nothing_may (marks_of t a) t.structs (Int i.Int) n h
    here (Some f) is at h = record {
      entered = x;
      among = contains_first x active;
      at = at;
      function = f;
      is = is;
      secret = variable_secret t a x.function f v n accepted h;
    }

    below : IsSecretLocal t a active depth v n → IsSecretLocal t a (x ∷ active) depth v n
    below k = record {
      entered = k.entered;
      among = contains_later x active k.entered k.among;
      at = k.at;
      function = k.function;
      is = k.is;
      secret = k.secret;
    }

    go : (b : Bool) → nat_eq depth x.depth ≡ b → MayBe (if b then variable_class (marks_of t a) t x.function v else local_class (world_of t a) active depth v) n →
        (MayBe (local_class (world_of t a) active depth v) n → IsSecretLocal t a active depth v n) → IsSecretLocal t a (x ∷ active) depth v n
    go true is h rest = here (slice_get t.functions x.function) refl (sym (eqb-true depth x.depth is)) h
    go false is h rest = below (rest h)

-- a global is no pointer
global_secret : (t : TypedTree) (a : Accepted) (g n : ℕ) → Facts t → IsAccepted t a → (o : Option Object) → slice_get (global_objects t) g ≡ o → (object_class (marks_of t a) t.structs o).may n ≡ true →
    (x : Object) × (slice_get (global_objects t) g ≡ Some x) × IsSecretCell t a x n
global_secret t a g n facts accepted None is h = false_not_true h
global_secret t a g n facts accepted (Some x) is h = (x, is, cell_secret t a x n accepted (plain, h))
  where
    same : (u z : VarTy) → Some u ≡ Some z → u ≡ z
    same u z e = cc

    nothing : (z : VarTy) → None ≡ Some z → is_pointer z ≡ false
    nothing z e = cc

    typed : (o : Option TypedGlobal) → slice_get t.globals g ≡ o → option_map (λ (y : TypedGlobal). y.var.ty) o ≡ Some x.ty → is_pointer x.ty ≡ false
    typed None at has = nothing x.ty has
    typed (Some y) at has =
        ap is_pointer (sym (same y.var.ty x.ty has)) ∙ plain_object (length t.structs) y.var.ty
        (both_hold_first (is_plain_type (length t.structs) y.var.ty) (is_small t.structs y.var.ty)
        (both_hold_first (is_plain_type (length t.structs) y.var.ty && is_small t.structs y.var.ty) (is_none y.var.holds && cells_fit (leaves_of t.structs y.var.ty) y.cells) (all_true_at (global_sound t.structs) t.globals g y facts.globals at)))

    plain : is_pointer x.ty ≡ false
    plain = typed (slice_get t.globals g) refl (sym (slice_get-map (λ (y : TypedGlobal). y.var.ty) t.globals g) ∙ object_type (leaf_count t.structs) 0 (global_types t) g x is)

lies : (t : TypedTree) (a : Accepted) (active : List Active) (block : BlockName) (n : ℕ) → Facts t → IsAccepted t a → MayBe (block_class (world_of t a) active block) n → LiesUnderMark t a active block n
lies t a active (Local depth v) n facts accepted h = local_secret t a active depth v n accepted h
lies t a active (Global g) n facts accepted h = global_secret t a g n facts accepted (slice_get (global_objects t) g) refl h.1
lies t a active (Received k) n facts accepted h = false_not_true h.1

pub handles_lie : ((t : TypedTree) (a : Accepted) → IsTrue (is_well_formed t) → IsAccepted t a → IsSlaveWorld t (slave_half t a) (slave_world (marks_of t a) t)) → HandlesLieUnderMarks
handles_lie classes t a hosts input turns replies k sound accepted block n handle is =
    let known : IsKnown t a = record { sound = sound; facts = facts_of t sound; accepted = accepted; world = classes t a sound accepted } in
    let x : Slave = (slave_at (boot_of t a hosts input turns) replies k).slave in
    let kept : Keeps t a x = runs_keep t a k (slave_of (boot_of t a hosts input turns)) replies known (begin_keeps t a hosts input turns known) in
    lies t a x.machine.active block n known.facts accepted (subst (MayLie (block_class (world_of t a) x.machine.active block) n) is (kept.fine.memory.handles block n))
