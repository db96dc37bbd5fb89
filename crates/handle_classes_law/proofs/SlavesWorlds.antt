-- What holds of the classes whatever the marks are.
use Rattle.std.proofs.Common.{◌≡◌, ◌∙◌, ℕ, ◌+◌, ◌-◌, refl, ap, sym, subst, Bool, true, false, Option, None, Some, List, [], length, if◌then◌else◌}
use Rattle.std.specs.Prelude.{◌&&◌, ◌||◌, not, slice_get, is_some, is_none, nat_lt}
use Rattle.std.specs.Option.{option_map_or}
use Rattle.pt_base.specs.declared.int_type.IntType.{IntType}
use Rattle.pt_base.specs.declared.int_type.IntType.TheVariants as i
use Rattle.pt_base.proofs.Booleans.{and_true_first, and_true_second, false_not_true, or_without_and}
use Rattle.pt_tree.specs.declared.signature.Param.{Param}
use Rattle.typed_tree.specs.declared.types.VarTy.TheVariants.{Int}
use Rattle.typed_tree.specs.declared.types.StructInfo.{StructInfo}
use Rattle.typed_tree.specs.ExpressionTree as t
use Rattle.typed_tree.specs.TypedTree.{TypedTree, FunctionTree}
use Rattle.typed_tree.specs.WellFormedExpression.{is_main, param_type}
use Rattle.sides.specs.declared.objects.Object.{Object}
use Rattle.sides.specs.Carried as carried
use Rattle.sides.specs.Carried.{scope_of}
use Rattle.sides.specs.Objects.{global_objects, variable_objects, result_start}
use Rattle.lowering.specs.Lowered.{Temp}
use Rattle.handle_classes.specs.Classes.{Class, integer_class}
use Rattle.handle_classes_law.specs.ObjectsCells.{is_pointer, leaf_under, class_at}
use Rattle.handle_classes_law.specs.SlavesMarked.{Marks, nothing_class, object_class, class_by, kept_class, held_class, temps_of, variable_in, variable_class, global_class, entry_class, host_class, may_give, param_in, param_class, slave_world}
use Rattle.handle_classes_law.specs.SlavesLaws.{AsksMarkedAlone, EntersOwn, MainGivesNone, MarkedWorlds, MixedMayCome}

-- what must be able to hold a handle may
abbrev Owns : Class → Type 0
Owns c = (n : ℕ) → c.must n ≡ true → c.may n ≡ true

-- so it is of an integer or an object
abbrev OwnsIf : Class → Type 0
OwnsIf c = c.pointer ≡ false → Owns c

kept_owns : (c : Class) → OwnsIf (kept_class c)
kept_owns c = go c.pointer refl
  where
    go : (x : Bool) → c.pointer ≡ x → OwnsIf (if x then c else record c { must = c.may })
    go true is p n h = false_not_true (sym p ∙ is)
    go false is p n h = h

one_owns : (x : Bool) → (x && true) ≡ true → (x || false) ≡ true
one_owns true h = refl
one_owns false h = h

object_owns : (m : Marks) (structs : List StructInfo) (o : Option Object) → OwnsIf (object_class m structs o)
object_owns m structs None = kept_owns (class_at m structs (Int i.Int) [])
object_owns m structs (Some x) = λ p n h. one_owns (m (x.start + leaf_under structs _ n)) h

held_owns : (m : Marks) (c : carried.Scope) (x : Temp) → OwnsIf (held_class m c x)
held_owns m c x = go x.holds
  where
    go : (o : Option t.ExprTree) → OwnsIf (option_map_or (λ e. kept_class (class_by m c e)) o (nothing_class m c.structs x.ty))
    go None = kept_owns (class_at m c.structs x.ty [])
    go (Some e) = kept_owns (class_by m c e)

variable_owns : (m : Marks) (t : TypedTree) (n : ℕ) (f : FunctionTree) (v : ℕ) → OwnsIf (variable_in m t n f v)
variable_owns m t n f v = go (nat_lt v (length f.vars))
  where
    temp : (o : Option Temp) → OwnsIf (option_map_or (held_class m (scope_of t n)) o (nothing_class m t.structs (Int i.Int)))
    temp None = kept_owns (class_at m t.structs (Int i.Int) [])
    temp (Some x) = held_owns m (scope_of t n) x

    go : (x : Bool) → OwnsIf (if x then object_class m t.structs (slice_get (variable_objects t n) v) else option_map_or (held_class m (scope_of t n)) (slice_get (temps_of t f) (v - length f.vars)) (nothing_class m t.structs (Int i.Int)))
    go true = object_owns m t.structs (slice_get (variable_objects t n) v)
    go false = temp (slice_get (temps_of t f) (v - length f.vars))

variables_own : (m : Marks) (t : TypedTree) (n v : ℕ) → OwnsIf (variable_class m t n v)
variables_own m t n v = go (slice_get t.functions n)
  where
    go : (o : Option FunctionTree) → OwnsIf (option_map_or (λ f. variable_in m t n f v) o (nothing_class m t.structs (Int i.Int)))
    go None = kept_owns (class_at m t.structs (Int i.Int) [])
    go (Some f) = variable_owns m t n f v

globals_own : (m : Marks) (t : TypedTree) (g n : ℕ) → (global_class m t g).must n ≡ true → (global_class m t g).may n ≡ true
globals_own m t g n = go (slice_get (global_objects t) g)
  where
    go : (o : Option Object) → (object_class m t.structs o).must n ≡ true → (object_class m t.structs o).may n ≡ true
    go None h = kept_owns (class_at m t.structs (Int i.Int) []) refl n h
    go (Some x) h = one_owns (m (x.start + leaf_under t.structs _ n)) h

asks_marked : (m : Marks) (t : TypedTree) → AsksMarkedAlone t (slave_world m t)
asks_marked m t f n own kind may = go (slice_get t.functions f) own kind may
  where
    param : (x : FunctionTree) (b : Bool) (o : Option Param) → (option_map_or (λ p. if b then entry_class t f n p else host_class m t f x n p) o (integer_class false)).pointer ≡ false →
        (option_map_or (λ p. if b then entry_class t f n p else host_class m t f x n p) o (integer_class false)).may 0 ≡ true → option_map_or (λ (p : Param). p.marked) o false ≡ true
    param x b None kind may = false_not_true may
    param x true (Some p) kind may = or_without_and p.marked (is_pointer (param_type p.kind)) _ kind may
    param x false (Some p) kind may = and_true_first p.marked (is_none x.signature.result || m (result_start t + f)) may

    go : (o : Option FunctionTree) → option_map_or (λ (x : FunctionTree). is_some x.body && not x.signature.privileged) o false ≡ false → (option_map_or (λ x. param_in m t f x n) o (integer_class false)).pointer ≡ false →
        (option_map_or (λ x. param_in m t f x n) o (integer_class false)).may 0 ≡ true → option_map_or (λ (x : FunctionTree). option_map_or (λ (p : Param). p.marked) (slice_get x.signature.params n) false) o false ≡ true
    go None own kind may = false_not_true may
    go (Some x) own kind may = param x x.signature.privileged (slice_get x.signature.params n)
        (subst (λ z. (if z then variable_class m t f n else option_map_or (λ p. if x.signature.privileged then entry_class t f n p else host_class m t f x n p) (slice_get x.signature.params n) (integer_class false)).pointer ≡ false) own kind)
        (subst (λ z. (if z then variable_class m t f n else option_map_or (λ p. if x.signature.privileged then entry_class t f n p else host_class m t f x n p) (slice_get x.signature.params n) (integer_class false)).may 0 ≡ true) own may)

main_gives_none : (m : Marks) (t : TypedTree) → MainGivesNone t (slave_world m t)
main_gives_none m t f x is main = subst (λ o. (not (option_map_or (λ (x : FunctionTree). is_main x.signature) o false) && m (result_start t + f)) ≡ false) (sym is) (subst (λ c. (not c && m (result_start t + f)) ≡ false) (sym main) refl)

enters_own : (m : Marks) (t : TypedTree) → EntersOwn t (slave_world m t)
enters_own m t f n own = go (slice_get t.functions f) refl own
  where
    go : (o : Option FunctionTree) → slice_get t.functions f ≡ o → option_map_or (λ (x : FunctionTree). is_some x.body && not x.signature.privileged) o false ≡ true → param_class m t f n ≡ variable_class m t f n
    go None is h = false_not_true h
    go (Some x) is h = ap (λ z. option_map_or (λ y. param_in m t f y n) z (integer_class false)) is
        ∙ ap (λ z. if z then variable_class m t f n else option_map_or (λ p. if x.signature.privileged then entry_class t f n p else host_class m t f x n p) (slice_get x.signature.params n) (integer_class false)) h

mixed_come : (m : Marks) (t : TypedTree) → MixedMayCome t (slave_world m t)
mixed_come m t f n x here plain bodiless shown gives may = given
  where
    other : (is_some x.body && not x.signature.privileged) ≡ false
    other = ap (λ z. z && not x.signature.privileged) bodiless

    class : param_class m t f n ≡ option_map_or (λ p. host_class m t f x n p) (slice_get x.signature.params n) (integer_class false)
    class = ap (λ z. option_map_or (λ y. param_in m t f y n) z (integer_class false)) here
        ∙ ap (λ z. if z then variable_class m t f n else option_map_or (λ p. if x.signature.privileged then entry_class t f n p else host_class m t f x n p) (slice_get x.signature.params n) (integer_class false)) other
        ∙ ap (λ z. option_map_or (λ p. if z then entry_class t f n p else host_class m t f x n p) (slice_get x.signature.params n) (integer_class false)) shown

    some : (o : Option IntType) → is_some o ≡ true → is_none o ≡ false
    some None h = false_not_true h
    some (Some u) h = refl

    of_param : (o : Option Param) → (option_map_or (λ p. host_class m t f x n p) o (integer_class false)).may 0 ≡ true → m (result_start t + f) ≡ true
    of_param None h = false_not_true h
    of_param (Some p) h = subst (λ z. (z || m (result_start t + f)) ≡ true) (some x.signature.result gives) (and_true_second p.marked (is_none x.signature.result || m (result_start t + f)) h)

    marked : m (result_start t + f) ≡ true
    marked = of_param (slice_get x.signature.params n) (subst (λ (c : Class). c.may 0 ≡ true) class may)

    given : may_give m t f ≡ true
    given = ap (λ o. not (option_map_or (λ (y : FunctionTree). is_main y.signature) o false) && m (result_start t + f)) here ∙ ap (λ z. not z && m (result_start t + f)) plain ∙ marked

pub marked_worlds : MarkedWorlds
marked_worlds m t = (record { variables = λ f v n p h. variables_own m t f v p n h; objects = λ g. refl; globals = globals_own m t }, asks_marked m t, main_gives_none m t, enters_own m t, mixed_come m t)
