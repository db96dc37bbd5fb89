-- What the code of one function is judged with, and the forms of pure expressions.
use Rattle.std.proofs.Common.{◌≡◌, ◌∙◌, ◌<◌, ℕ, suc, ◌+◌, refl, ap, sym, subst, arith, Bool, true, false, Some, List, [], ◌∷◌, ◌++◌, length, if◌then◌else◌}
use Rattle.std.specs.Prelude.{slice_get}
use Rattle.std.specs.Option.{option_map}
use Rattle.std.proofs.lemmas.Bool.{and_right}
use Rattle.pt_base.specs.declared.int_type.IntType.{IntType}
use Rattle.pt_base.specs.declared.int_type.IntType.TheVariants as i
use Rattle.pt_base.specs.declared.span.Span.{Span}
use Rattle.pt_base.proofs.Booleans.{false_not_true}
use Rattle.pt_tree.specs.declared.signature.Elem.{Elem}
use Rattle.pt_tree.specs.declared.signature.Elem.TheVariants as e
use Rattle.typed_tree.specs.declared.types.VarTy.{VarTy}
use Rattle.typed_tree.specs.declared.types.VarTy.TheVariants.{Int, Struct, Array, Pointer}
use Rattle.typed_tree.specs.declared.variable.Var.{Var}
use Rattle.typed_tree.specs.declared.variable.TypedGlobal.{TypedGlobal}
use Rattle.typed_tree.specs.ExpressionTree as src
use Rattle.typed_tree.specs.TypeTests.{is_scalar, same_int}
use Rattle.pt_core.specs.CodeTree.{PlaceTree, ExprTree, read, constant, null, convert, StmtTree, stmt_trees}
use Rattle.pt_core.specs.Types as core
use Rattle.pt_core.specs.Values.{is_type}
use Rattle.source_meaning.specs.Expressions.{type_of}
use Rattle.sides.specs.declared.objects.Object.{Object}
use Rattle.sides.specs.Carried as carried
use Rattle.sides.specs.Carried.{carried, linked_slots}
use Rattle.lowering.specs.Lowered.{Temp, Lowered, past, temp, hold, holding, held, held_if}
use Rattle.lowering.specs.Operators.{as_int, truth_of}
use Rattle.lowered_code_law.proofs.FormsSettings.{Agrees, Setting, context}
use Rattle.handle_classes.specs.Classes.{Class, World, Scope, number_class, class_of, place_class}
use Rattle.handle_classes.specs.Judgment.{IsFine, IsPlain, Goes, IsFineStatement, AreFineStatements}
use Rattle.handle_classes_law.specs.ObjectsCells.{is_pointer, class_at}
use Rattle.handle_classes_law.specs.SlavesMarked.{kept_class, held_class}
use Rattle.handle_classes_law.proofs.SlavesClasses.{IsBy, IsAt, PlaceClass, by_same}

pub record Bench : Type 0 where
  pub w : Setting
  pub marks : ℕ → Bool
  pub variables : List Object
  pub globals : List Object
  pub results : ℕ
  pub world : World
  pub function : ℕ

-- what carries slots, and what is judged
abbrev pub seen : Bench → carried.Scope
seen b = record { structs = b.w.names.structs; globals = b.globals; variables = b.variables; results = b.results }

abbrev pub judged : Bench → Scope
judged b = record { context = context b.w; variable = b.world.variable b.function; global = b.world.global }

abbrev pub at_slots : Bench → VarTy → List ℕ → Class
at_slots b ty slots = class_at b.marks b.w.names.structs ty slots

-- a variable of this type, and its class
pub record IsObject (b : Bench) (objects : List Object) (n : ℕ) (ty : VarTy) (c : Class) : Type 0 where
  pub start : ℕ
  pub object : slice_get objects n ≡ Some (record { ty = ty; start = start })
  pub class : c ≡ at_slots b ty (start ∷ [])

pub record Fits (b : Bench) : Type 0 where
  pub agrees : Agrees b.w
  pub locals : (x : ℕ) (ty : VarTy) → option_map (λ (y : Var). y.ty) (slice_get b.w.names.vars x) ≡ Some ty → IsObject b b.variables x ty (b.world.variable b.function x)
  pub globals : (g : ℕ) (ty : VarTy) → option_map (λ (y : TypedGlobal). y.var.ty) (slice_get b.w.names.globals g) ≡ Some ty → IsObject b b.globals g ty (b.world.global g)
  -- what gives a handle has a marked result
  pub results : (f : ℕ) → b.world.result f ≡ true → b.marks (b.results + f) ≡ true

-- ---- temporaries

abbrev pub Held : Bench → ℕ → List Temp → Type 0
Held b k [] = Unit {0}
Held b k (x ∷ xs) = (b.world.variable b.function k ≡ held_class b.marks (seen b) x) × Held b (k + 1) xs

pub held_first : (b : Bench) (k : ℕ) (xs ys : List Temp) → Held b k (xs ++ ys) → Held b k xs
held_first b k [] ys h = tt
held_first b k (x ∷ xs) ys h = (h.0, held_first b (k + 1) xs ys h.1)

pub held_rest : (b : Bench) (k : ℕ) (xs ys : List Temp) → Held b k (xs ++ ys) → Held b (past k xs) ys
held_rest b k [] ys h = subst (λ m. Held b m ys) (same k) h
  where
    same : (k : ℕ) → k ≡ k + 0
    same k = omega arith
held_rest b k (x ∷ xs) ys h = subst (λ m. Held b m ys) (same k (length xs)) (held_rest b (k + 1) xs ys h.1)
  where
    same : (k n : ℕ) → k + 1 + n ≡ k + suc n
    same k n = omega arith

-- ---- code

abbrev pub AreFine : Bench → List StmtTree → Type 0
AreFine b [] = Unit {0}
AreFine b (x ∷ xs) = IsFineStatement b.world (judged b) b.function x × AreFine b xs

pub fine_both : (b : Bench) (xs ys : List StmtTree) → AreFine b xs → AreFine b ys → AreFine b (xs ++ ys)
fine_both b [] ys h k = k
fine_both b (x ∷ xs) ys h k = (h.0, fine_both b xs ys h.1 k)

pub fine_trees : (b : Bench) (xs : List StmtTree) → AreFine b xs → AreFineStatements b.world (judged b) b.function (stmt_trees xs)
fine_trees b [] h = tt
fine_trees b (x ∷ xs) h = (h.0, fine_trees b xs h.1)

-- a value of this type, from these slots
pub record ValueIs (b : Bench) (ty : VarTy) (slots : List ℕ) (a : ExprTree) : Type 0 where
  pub fine : IsFine (judged b) a
  pub is : IsBy (class_of (judged b) a) (at_slots b ty slots)

pub record LoweredIs (b : Bench) (ty : VarTy) (slots : List ℕ) (v : Lowered) : Type 0 where
  pub stmts : AreFine b v.stmts
  pub value : ValueIs b ty slots v.value

-- ---- integers

abbrev pub is_int : VarTy → Bool
is_int (Int t) = true
is_int (Struct n) = false
is_int (Array elem count) = false
is_int (Pointer elem fixed) = false

pub int_object : (ty : VarTy) → is_int ty ≡ true → is_pointer ty ≡ false
int_object (Int t) h = refl
int_object (Struct n) h = false_not_true h
int_object (Array elem count) h = false_not_true h
int_object (Pointer elem fixed) h = false_not_true h

pub int_size : (b : Bench) (ty : VarTy) (slots : List ℕ) → is_int ty ≡ true → (at_slots b ty slots).size ≡ 1
int_size b (Int t) slots h = refl
int_size b (Struct n) slots h = false_not_true h
int_size b (Array elem count) slots h = false_not_true h
int_size b (Pointer elem fixed) slots h = false_not_true h

pub scalar_room : (b : Bench) (ty : VarTy) (slots : List ℕ) → is_scalar (Some ty) ≡ true → is_pointer ty ≡ false → 0 < (at_slots b ty slots).size
scalar_room b (Int t) slots h k = omega arith
scalar_room b (Struct n) slots h k = false_not_true h
scalar_room b (Array elem count) slots h k = false_not_true h
scalar_room b (Pointer elem fixed) slots h k = false_not_true (sym k)

pub no_pointer : {X : Type 0} (p : Bool) → p ≡ false → p ≡ true → X
no_pointer p h k = false_not_true (sym h ∙ k)

pub number_by : (b : Bench) (ty : VarTy) (slots : List ℕ) (c : Class) → is_int ty ≡ true → c.pointer ≡ false → c.size ≡ 1 → c.may 0 ≡ false → IsBy c (at_slots b ty slots)
number_by b ty slots c int kind size none = record {
  kind = kind ∙ sym (int_object ty int);
  size = size ∙ sym (int_size b ty slots int);
  number = λ p h. false_not_true (sym none ∙ h);
  may = λ p n less. no_pointer (is_pointer ty) (int_object ty int) p;
  must = λ p n less. no_pointer (is_pointer ty) (int_object ty int) p;
}

pub plain_by : (v k : Class) → IsBy v k → k.pointer ≡ false → k.may 0 ≡ false → IsPlain v
plain_by v k h p q = record { integer = h.kind ∙ p; number = go (v.may 0) (h.number p) }
  where
    go : (x : Bool) → (x ≡ true → k.may 0 ≡ true) → x ≡ false
    go true f = false_not_true (sym q ∙ f refl)
    go false f = refl

-- the expression is an integer that is no handle
abbrev pub PlainIf : Bench → VarTy → List ℕ → Type 0
PlainIf b ty slots = is_pointer ty ≡ false → (at_slots b ty slots).may 0 ≡ false

pub plain_value : (b : Bench) (ty : VarTy) (slots : List ℕ) (a : ExprTree) → is_int ty ≡ true → PlainIf b ty slots → ValueIs b ty slots a → IsPlain (class_of (judged b) a)
plain_value b ty slots a int plain h = plain_by (class_of (judged b) a) (at_slots b ty slots) h.is (int_object ty int) (plain (int_object ty int))

pub as_int_fine : (b : Bench) (ty : VarTy) (to : IntType) (a : ExprTree) → is_int ty ≡ true → IsFine (judged b) a → IsPlain (class_of (judged b) a) → IsFine (judged b) (as_int ty to a) × IsPlain (class_of (judged b) (as_int ty to a))
as_int_fine b (Int t) to a int h p = go (same_int t to)
  where
    go : (x : Bool) → IsFine (judged b) (if x then a else convert to a) × IsPlain (class_of (judged b) (if x then a else convert to a))
    go true = (h, p)
    go false = ((h, p.integer, λ no. p.number), record { integer = refl; number = and_right (is_type (core.type_of (context b.w) a) to) ((class_of (judged b) a).may 0) p.number })
as_int_fine b (Struct n) to a int h p = false_not_true int
as_int_fine b (Array elem count) to a int h p = false_not_true int
as_int_fine b (Pointer elem fixed) to a int h p = false_not_true int

-- ---- values

pub constant_is : (b : Bench) (ty : VarTy) (t : IntType) (v : _) → is_int ty ≡ true → ValueIs b ty [] (constant t v)
constant_is b ty t v int = record { fine = tt; is = number_by b ty [] number_class int refl refl refl }

pub null_is : (b : Bench) (elem : Elem) (fixed : Bool) → ValueIs b (Pointer elem fixed) [] (null elem)
null_is b (e.Int t) fixed = record { fine = tt; is = record { kind = refl; size = refl; number = λ p. false_not_true (sym p); may = λ p n less. refl; must = λ p n less. refl } }
null_is b (e.Struct n) fixed = record { fine = tt; is = record { kind = refl; size = refl; number = λ p. false_not_true (sym p); may = λ p n less. refl; must = λ p n less. refl } }

pub at_by : (b : Bench) (ty : VarTy) (slots : List ℕ) (v : Class) → is_scalar (Some ty) ≡ true → IsAt v (at_slots b ty slots) → IsBy v (at_slots b ty slots)
at_by b ty slots v scalar h = record {
  kind = h.kind;
  size = h.size;
  number = λ p k. sym (h.may 0 (scalar_room b ty slots scalar p)) ∙ k;
  may = λ p n less. h.may n less;
  must = λ p n less. h.must n less;
}

pub read_is : (b : Bench) (ty : VarTy) (slots : List ℕ) (p : PlaceTree) → is_scalar (Some ty) ≡ true → PlaceClass b.marks (judged b) ty slots p → ValueIs b ty slots (read p)
read_is b ty slots p scalar h = record {
  fine = (h.fine, λ q. let s = h.is.size in let room = scalar_room b ty slots scalar (sym h.is.kind ∙ q) in omega (arith, s, room));
  is = at_by b ty slots (place_class (judged b) p) scalar h.is;
}

-- ---- what a temporary holds

unfoldable pub kept_of : Bool → Class → Class
kept_of x c = if x then c else record c { must = c.may }

pub kept_goes : (v k : Class) → IsBy v k → (k.pointer ≡ false → 0 < k.size) → Goes v (kept_class k)
unfolding kept_of
kept_goes v k h room = go k.pointer refl
  where
    go : (x : Bool) → k.pointer ≡ x → Goes v (kept_of x k)
    go true is = record {
      kind = h.kind;
      room = λ p. false_not_true (sym p ∙ is);
      sealed = λ p. false_not_true (sym p ∙ is);
      flows = λ p. record { kind = h.kind; first = h.number; size = λ q. h.size; may = λ q n less m. sym (h.may q n less) ∙ m; must = λ q n less m. h.must q n less ∙ m };
    }
    go false is = record {
      kind = h.kind;
      room = room;
      sealed = h.number;
      flows = λ p. false_not_true (sym is ∙ p);
    }

pub kept_by : (k : Class) → IsBy (kept_class k) k
unfolding kept_of
kept_by k = go k.pointer refl
  where
    go : (x : Bool) → k.pointer ≡ x → IsBy (kept_of x k) k
    go true is = by_same k
    go false is = record { kind = refl; size = refl; number = λ p m. m; may = λ p n less. refl; must = λ p n less. false_not_true (sym is ∙ p) }

-- the class of what a temporary would hold, by its expression
pub record Keeps (b : Bench) (ty : VarTy) (slots : List ℕ) (x : Temp) : Type 0 where
  pub class : held_class b.marks (seen b) x ≡ kept_class (at_slots b ty slots)

pub holding_keeps : (b : Bench) (ty t : VarTy) (slots : List ℕ) (a : src.ExprTree) → type_of a ≡ ty → carried (seen b) a ≡ slots → Keeps b ty slots (holding t a)
holding_keeps b ty t slots a is from = record { class = ap (λ z. kept_class (at_slots b z (carried (seen b) a))) is ∙ ap (λ z. kept_class (at_slots b ty z)) from }

pub temp_is : (b : Bench) (ty : VarTy) (slots : List ℕ) (k : ℕ) → is_scalar (Some ty) ≡ true → b.world.variable b.function k ≡ kept_class (at_slots b ty slots) → ValueIs b ty slots (temp k)
temp_is b ty slots k scalar is =
    let own : IsBy (b.world.variable b.function k) (at_slots b ty slots) = subst (λ z. IsBy z (at_slots b ty slots)) (sym is) (kept_by (at_slots b ty slots)) in
    record {
      fine = ((tt, tt), λ q. let s = own.size in let room = scalar_room b ty slots scalar (sym own.kind ∙ q) in omega (arith, s, room));
      is = own;
    }

pub hold_is : (b : Bench) (ty : VarTy) (slots : List ℕ) (k : ℕ) (a : ExprTree) → is_scalar (Some ty) ≡ true → b.world.variable b.function k ≡ kept_class (at_slots b ty slots) → ValueIs b ty slots a → IsFineStatement b.world (judged b) b.function (hold k a)
hold_is b ty slots k a scalar is h =
    ((tt, tt), h.fine, subst (λ z. Goes (class_of (judged b) a) z) (sym is) (kept_goes (class_of (judged b) a) (at_slots b ty slots) h.is (λ p. scalar_room b ty slots scalar p)))

pub held_is : (b : Bench) (ty : VarTy) (slots : List ℕ) (n : ℕ) (x : Temp) (v : Lowered) → is_scalar (Some ty) ≡ true → Keeps b ty slots x → (Held b n v.temps → LoweredIs b ty slots v) → Held b n (held n x v).temps → LoweredIs b ty slots (held n x v)
held_is b ty slots n x v scalar keeps h st =
    let all = h (held_first b n v.temps (x ∷ []) st) in
    let here = (held_rest b n v.temps (x ∷ []) st).0 ∙ keeps.class in
    record {
      stmts = fine_both b v.stmts (hold (past n v.temps) v.value ∷ []) all.stmts (hold_is b ty slots (past n v.temps) v.value scalar here all.value, tt);
      value = temp_is b ty slots (past n v.temps) scalar here;
    }

pub held_if_is : (waits : Bool) (b : Bench) (ty : VarTy) (slots : List ℕ) (n : ℕ) (x : Temp) (v : Lowered) → is_scalar (Some ty) ≡ true → Keeps b ty slots x → (Held b n v.temps → LoweredIs b ty slots v) → Held b n (held_if waits n x v).temps → LoweredIs b ty slots (held_if waits n x v)
held_if_is true b ty slots n x v scalar keeps h st = held_is b ty slots n x v scalar keeps h st
held_if_is false b ty slots n x v scalar keeps h st = h st

-- ---- operators

pub truth_is : (b : Bench) (ty : VarTy) (slots : List ℕ) (a : ExprTree) (s : Span) → is_scalar (Some ty) ≡ true → PlainIf b ty slots → ValueIs b ty slots a → ValueIs b (Int i.Int) [] (truth_of ty a s)
truth_is b (Int t) slots a s scalar plain h = record {
  fine = ((h.fine, plain_value b (Int t) slots a refl plain h), record { integer = refl; number = refl });
  is = number_by b (Int i.Int) [] number_class refl refl refl refl;
}
truth_is b (Pointer elem fixed) slots a s scalar plain h = record { fine = (h.fine, tt, h.is.kind, refl); is = number_by b (Int i.Int) [] number_class refl refl refl refl }
truth_is b (Struct n) slots a s scalar plain h = false_not_true scalar
truth_is b (Array elem count) slots a s scalar plain h = false_not_true scalar

-- a truth may be dropped to any integer
pub number_of : (b : Bench) (ty to : VarTy) (slots : List ℕ) (a : ExprTree) → is_int ty ≡ true → is_int to ≡ true → ValueIs b ty [] a → ValueIs b to slots a
number_of b ty to slots a int int2 h = record {
  fine = h.fine;
  is = let p = plain_value b ty [] a int (λ k. refl) h in let s = h.is.size in let one = int_size b ty [] int in number_by b to slots (class_of (judged b) a) int2 p.integer (omega (arith, s, one)) p.number;
}
