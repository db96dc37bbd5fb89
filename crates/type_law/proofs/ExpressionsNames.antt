-- Names and constants as expressions, without a fault.
use Rattle.std.proofs.Common.{◌≡◌, ◌∙◌, ℕ, zero, suc, refl, ap, sym, subst, List, [], ◌∷◌, Bool, true, false, Option, Some, None, length, arith, get_or}
use Rattle.std.specs.Prelude.{IsTrue, slice_get, option_map, nat_lt, All, if◌then◌else◌}
use Rattle.std.specs.Option.{option_map_or}
use Rattle.std.proofs.lemmas.Bool.Decides.{nat_tests}
use Rattle.std.proofs.lemmas.Option.{slice_get_within, get_or_from_slice_get}
use Rattle.std.proofs.lemmas.List.Elements.{All-head, All-tail}
use Rattle.pt_base.specs.declared.span.Span.{Span}
use Rattle.pt_base.specs.declared.ids.FnId.{FnId}
use Rattle.pt_base.proofs.Booleans.{both_hold}
use Rattle.pt_tree.specs.declared.word.Word.{Word}
use Rattle.pt_tree.specs.declared.word.Constant.{Constant}
use Rattle.pt_tree.specs.Facts.{is_sound}
use Rattle.pt_tree.specs.ExpressionTree as e
use Rattle.typed_tree.specs.declared.variable.TypedGlobal.{TypedGlobal}
use Rattle.typed_tree.specs.ExpressionTree.{RootTree, local, global, place, no_steps}
use Rattle.typed_tree.specs.WellFormedExpression.{Names, root_fits, root_type, root_const, is_object, is_named}
use Rattle.check_declarations.specs.NameTables.{number_of, value_at}
use Rattle.check_declarations.specs.Structs.{Structs}
use Rattle.check_expressions.specs.declared.meaning.Meaning.{Meaning}
use Rattle.check_expressions.specs.declared.meaning.Meaning.TheVariants.{Function, Global, Local}
use Rattle.check_expressions.specs.declared.meaning.Object.{Object}
use Rattle.check_expressions.specs.Environment.{Env, Scope, meaning_at, find_in, or_else, find_through, find, no_object, object_of, global_at, variable_at}
use Rattle.check_expressions.specs.Expressions.{meant, named_as, named, literal, an_object}
use Rattle.check_expressions.specs.Operands.{var_type}
use Rattle.check_expressions.specs.Postfixes.{function_meant, function_named, is_called, function_called}
use Rattle.type_law.specs.ExpressionsAgreement.{HasType, is_entry, AreEntries, Agrees}
use Rattle.type_law.proofs.ExpressionsKnown.{SoundKnown}

-- ---- what a name means is an entry

entry_at : (env : Env) (scope : Scope) → AreEntries env scope → (k : ℕ) (m : Meaning) → value_at scope k ≡ Some m → IsTrue (is_entry env m)
entry_at env scope h k m z = by_entry (slice_get scope k) refl z
  where
    by_entry : (o : Option (List ℕ × Meaning)) → slice_get scope k ≡ o → option_map (λ (x : List ℕ × Meaning). x.1) o ≡ Some m → IsTrue (is_entry env m)
    by_entry None e y = cc
    by_entry (Some x) e y =
        let here : IsTrue (is_entry env (get_or scope k x).1) = h k x (slice_get_within scope k x e) in
        let same : (get_or scope k x).1 ≡ m = ap (λ (u : List ℕ × Meaning). u.1) (get_or_from_slice_get scope k x x e) ∙ cc in
        subst (λ u. IsTrue (is_entry env u)) same here

entry_in : (env : Env) (scope : Scope) → AreEntries env scope → (name : List ℕ) (m : Meaning) → find_in scope name ≡ Some m → IsTrue (is_entry env m)
entry_in env scope h name m z = by_number (number_of scope name) z
  where
    by_number : (o : Option ℕ) → meaning_at scope o ≡ Some m → IsTrue (is_entry env m)
    by_number None y = cc
    by_number (Some k) y = entry_at env scope h k m y

entry_through : (env : Env) (scopes : List Scope) (file : Scope) → All (AreEntries env) scopes → AreEntries env file → (name : List ℕ) (m : Meaning) → find_through scopes file name ≡ Some m → IsTrue (is_entry env m)
entry_through env [] file h f name m z = entry_in env file f name m z
entry_through env (scope ∷ scopes) file h f name m z = by_scope (find_in scope name) refl (λ y. entry_through env scopes file (All-tail (AreEntries env) scope scopes h) f name m y) z
  where
    by_scope : (o : Option Meaning) → find_in scope name ≡ o → (find_through scopes file name ≡ Some m → IsTrue (is_entry env m)) → or_else o (find_through scopes file name) ≡ Some m → IsTrue (is_entry env m)
    by_scope None e rest y = rest y
    by_scope (Some u) e rest y = entry_in env scope (All-head (AreEntries env) scope scopes h) name m (e ∙ y)

pub entry_found : (n : Names) (env : Env) (structs : Structs) → Agrees env structs n → (name : List ℕ) (m : Meaning) → find env name ≡ Some m → IsTrue (is_entry env m)
entry_found n env structs h name m z = entry_through env env.scopes env.file h.scopes h.file name m z

-- ---- entries

pub there : {X : Type 0} (xs : List X) (k : ℕ) → IsTrue (nat_lt k (length xs)) → (x : X) × (slice_get xs k ≡ Some x)
there [] k h = absurd (grind (arith, nat_tests))
there (x ∷ xs) zero h = (x, refl)
there (x ∷ xs) (suc k) h = there xs k (grind (arith, nat_tests))

object_sound : (n : Names) (count : ℕ) (o : Object) (root : RootTree) → IsTrue (root_fits n root) → IsTrue (is_object (place root no_steps)) → IsTrue (is_named root) → HasType count o.ty (root_type n root) → (root_const n root ≡ true → o.fixed ≡ true) → SoundKnown n count (an_object o root)
object_sound n count o root f i d h c = record {
  tree = record {
    object = record { fits = both_hold (root_fits n root) true f refl; has = h.1; good = h.0; kept = c };
    written = λ x. i;
    ends = d;
  };
  null = λ x. cc;
}

-- a global is const in the tree where it is known as const
global_fixed : (o : Option TypedGlobal) (f : Bool) → option_map (λ g. g.fixed) o ≡ Some f → option_map_or (λ (g : TypedGlobal). g.fixed) o false ≡ true → f ≡ true
global_fixed None f h c = cc
global_fixed (Some g) f h c = let same : g.fixed ≡ f = cc in sym same ∙ c

meant_sound : (n : Names) (env : Env) (structs : Structs) → Agrees env structs n → (s : Span) (m : Meaning) → IsTrue (is_entry env m) → (meant env s m).faults ≡ [] → SoundKnown n (length structs) (meant env s m).operand
unfolding meant
meant_sound n env structs h s (Function f) i z = cc
meant_sound n env structs h s (Global g) i z =
    let o = there env.globals g.0 i in
    let is : global_at env g ≡ o.0 = ap (λ x. option_map_or (λ (y : Object). y) x no_object) o.1 in
    subst (λ x. SoundKnown n (length structs) (an_object x (global g))) (sym is) (object_sound n (length structs) o.0 (global g) refl refl refl (h.globals g.0 o.0 o.1) (global_fixed (slice_get n.globals g.0) o.0.fixed (h.fixed g.0 o.0 o.1)))
meant_sound n env structs h s (Local v) i z =
    let x = there env.variables v.0 i in
    let is : variable_at env v ≡ object_of x.0 = ap (λ y. option_map_or object_of y no_object) x.1 in
    subst (λ y. SoundKnown n (length structs) (an_object y (local v))) (sym is) (object_sound n (length structs) (object_of x.0) (local v) refl refl refl (h.variables v.0 x.0 x.1) (λ c. cc))

pub named_sound : (n : Names) (env : Env) (structs : Structs) → Agrees env structs n → (w : Word) → (named env w).faults ≡ [] → SoundKnown n (length structs) (named env w).operand
unfolding named named_as
named_sound n env structs h w z = by_meaning (find env w.bytes) refl z
  where
    by_meaning : (o : Option Meaning) → find env w.bytes ≡ o → (named_as env w.span o).faults ≡ [] → SoundKnown n (length structs) (named_as env w.span o).operand
    by_meaning None e y = cc
    by_meaning (Some m) e y = meant_sound n env structs h w.span m (entry_found n env structs h w.bytes m e) y

pub literal_sound : (n : Names) (count : ℕ) (c : Constant) → IsTrue (is_sound c) → SoundKnown n count (literal c)
unfolding literal var_type
literal_sound n count c h = record { tree = record { fits = record { typed = h; has = refl }; good = refl; whole = refl; none = refl; stored = λ x. cc }; null = λ x. refl }

-- ---- the function that is called

-- it is an entry, and the call stands first
pub record CalledAt (env : Env) (ps : e.PostfixTrees) (f : FnId) : Type 0 where
  pub call : is_called ps ≡ true
  pub entry : IsTrue (nat_lt f.0 (length env.functions))

function_entry : (env : Env) (o : Option Meaning) (f : FnId) → ((m : Meaning) → o ≡ Some m → IsTrue (is_entry env m)) → function_meant o ≡ Some f → IsTrue (nat_lt f.0 (length env.functions))
unfolding function_meant
function_entry env None f h z = cc
function_entry env (Some (Function g)) f h z =
    let same : g ≡ f = cc in
    subst (λ x. IsTrue (nat_lt x.0 (length env.functions))) same (h (Function g) refl)
function_entry env (Some (Global g)) f h z = cc
function_entry env (Some (Local v)) f h z = cc

named_entry : (n : Names) (env : Env) (structs : Structs) → Agrees env structs n → (a : e.ExprTree) (f : FnId) → function_named env a ≡ Some f → IsTrue (nat_lt f.0 (length env.functions))
unfolding function_named
named_entry n env structs h (e.name w) f z = function_entry env (find env w.bytes) f (λ m y. entry_found n env structs h w.bytes m y) z
named_entry n env structs h (e.constant c) f z = cc
named_entry n env structs h (e.prefix s op a) f z = cc
named_entry n env structs h (e.cast s specs pointer a) f z = cc
named_entry n env structs h (e.postfix s a ps) f z = cc
named_entry n env structs h (e.chain s a ls) f z = cc
named_entry n env structs h (e.choice s a b c) f z = cc
named_entry n env structs h (e.assign s op a b) f z = cc

pub called_entry : (n : Names) (env : Env) (structs : Structs) → Agrees env structs n → (a : e.ExprTree) (ps : e.PostfixTrees) (f : FnId) → function_called env a ps ≡ Some f → CalledAt env ps f
unfolding function_called
called_entry n env structs h a ps f z = by_test (is_called ps) refl z
  where
    by_test : (b : Bool) → is_called ps ≡ b → (if b then function_named env a else None) ≡ Some f → CalledAt env ps f
    by_test true e y = record { call = e; entry = named_entry n env structs h a f y }
    by_test false e y = cc
