-- Lists that code gathers one by one, and sets to which it adds.
use Rattle.std.proofs.Common.{◌≡◌, ◌∙◌, ℕ, suc, ◌+◌, add-one, refl, ap, sym, Bool, true, false, List, [], ◌∷◌, ◌++◌, map, cond, append_assoc}
use Rattle.std.specs.Prelude.{slice_set}
use Rattle.std.specs.List.{filter, flat_map}
use Rattle.std.proofs.lemmas.List.{map-append}
use Rattle.std.proofs.lemmas.List.Elements.{filter-append}
use Rattle.pt_base.specs.declared.span.Span.{Span}
use Rattle.pt_tree.specs.declared.signature.Signature.{Signature}
use Rattle.typed_tree.specs.declared.variable.TypedGlobal.{TypedGlobal}
use Rattle.typed_tree.specs.TypedTree as typed
use Rattle.reach.specs.Tables.{item_if, set_all}
use Rattle.reach.proofs.WalkLemmas.{sets_on}
use Rattle.pt_core.specs.declared.expression.Expr.{Expr}
use Rattle.pt_core.specs.declared.function.CoreFn.{CoreFn}
use Rattle.pt_core.specs.CodeTree.{ExprTree, FunctionTree, GlobalTree, StmtTree, choose, repeat, stmt_trees, view_function}
use Rattle.pt_core.specs.WellFormedStatement.{callees_in, callees_of}
use Rattle.lowering.specs.Functions.{signatures_from, globals_from}
use Rattle.splitter.specs.Halves.{chosen_functions}
use Rattle.splitter.specs.Sets.{numbered_global}

-- ---- lists

-- after an item that may be left out, as it is seen
pub made_on : {X Y : Type 0} (make : X → Y) (test : X → Bool) (x : X) (rest : List X) (list list' all : List Y) → list' ≡ list ++ item_if (test x) (make x) → list ++ map make (filter test (x ∷ rest)) ≡ all → list' ++ map make (filter test rest) ≡ all
made_on {X} {Y} make test x rest list list' all e h = go (test x) e h
  where
    go : (b : Bool) → list' ≡ list ++ item_if b (make x) → list ++ map make (cond b (x ∷ filter test rest) (filter test rest)) ≡ all → list' ++ map make (filter test rest) ≡ all
    go true e h = ap (λ (ys : List Y). ys ++ map make (filter test rest)) e ∙ append_assoc list (make x ∷ []) (map make (filter test rest)) ∙ h
    go false e h = ap (λ (ys : List Y). ys ++ map make (filter test rest)) e ∙ append_assoc list [] (map make (filter test rest)) ∙ h

pub kept_on : {X : Type 0} (test : X → Bool) (x : X) (rest list list' all : List X) → list' ≡ list ++ item_if (test x) x → list ++ filter test (x ∷ rest) ≡ all → list' ++ filter test rest ≡ all
kept_on {X} test x rest list list' all e h = go (test x) e h
  where
    go : (b : Bool) → list' ≡ list ++ item_if b x → list ++ cond b (x ∷ filter test rest) (filter test rest) ≡ all → list' ++ filter test rest ≡ all
    go true e h = ap (λ (ys : List X). ys ++ filter test rest) e ∙ append_assoc list (x ∷ []) (filter test rest) ∙ h
    go false e h = ap (λ (ys : List X). ys ++ filter test rest) e ∙ append_assoc list [] (filter test rest) ∙ h

-- after one more of the functions of a program, of which something may be kept by its number and signature
pub signature_on : {Y : Type 0} (make : ℕ × Signature → Y) (test : ℕ × Signature → Bool) (n n' : ℕ) (f : typed.FunctionTree) (fs rest : List typed.FunctionTree) (b : Bool) (list list' all : List Y) → fs ≡ f ∷ rest → n' ≡ n + 1 →
    b ≡ test (n, f.signature) → list' ≡ list ++ item_if b (make (n, f.signature)) → list ++ map make (filter test (signatures_from n (map (λ (f : typed.FunctionTree). f.signature) fs))) ≡ all →
    list' ++ map make (filter test (signatures_from n' (map (λ (f : typed.FunctionTree). f.signature) rest))) ≡ all
signature_on {Y} make test n n' f fs rest b list list' all split next is e h =
    ap (λ (k : ℕ). list' ++ map make (filter test (signatures_from k (map (λ (f : typed.FunctionTree). f.signature) rest)))) (next ∙ add-one n)
    ∙ made_on make test (n, f.signature) (signatures_from (suc n) (map (λ (f : typed.FunctionTree). f.signature) rest)) list list' all (e ∙ ap (λ (d : Bool). list ++ item_if d (make (n, f.signature))) is)
    (ap (λ (gs : List typed.FunctionTree). list ++ map make (filter test (signatures_from n (map (λ (f : typed.FunctionTree). f.signature) gs)))) (sym split) ∙ h)

pub signature_kept : (test : ℕ × Signature → Bool) (n n' : ℕ) (f : typed.FunctionTree) (fs rest : List typed.FunctionTree) (b : Bool) (list list' all : List (ℕ × Signature)) → fs ≡ f ∷ rest → n' ≡ n + 1 →
    b ≡ test (n, f.signature) → list' ≡ list ++ item_if b (n, f.signature) → list ++ filter test (signatures_from n (map (λ (f : typed.FunctionTree). f.signature) fs)) ≡ all →
    list' ++ filter test (signatures_from n' (map (λ (f : typed.FunctionTree). f.signature) rest)) ≡ all
signature_kept test n n' f fs rest b list list' all split next is e h =
    ap (λ (k : ℕ). list' ++ filter test (signatures_from k (map (λ (f : typed.FunctionTree). f.signature) rest))) (next ∙ add-one n)
    ∙ kept_on test (n, f.signature) (signatures_from (suc n) (map (λ (f : typed.FunctionTree). f.signature) rest)) list list' all (e ∙ ap (λ (d : Bool). list ++ item_if d (n, f.signature)) is)
    (ap (λ (gs : List typed.FunctionTree). list ++ filter test (signatures_from n (map (λ (f : typed.FunctionTree). f.signature) gs))) (sym split) ∙ h)

pub global_kept : (test : GlobalTree → Bool) (n n' : ℕ) (g : TypedGlobal) (gs rest : List TypedGlobal) (b : Bool) (x : GlobalTree) (list list' all : List GlobalTree) → gs ≡ g ∷ rest → n' ≡ n + 1 → x ≡ numbered_global n g →
    b ≡ test (numbered_global n g) → list' ≡ list ++ item_if b x → list ++ filter test (globals_from n gs) ≡ all → list' ++ filter test (globals_from n' rest) ≡ all
global_kept test n n' g gs rest b x list list' all split next seen is e h =
    ap (λ (k : ℕ). list' ++ filter test (globals_from k rest)) (next ∙ add-one n)
    ∙ kept_on test (numbered_global n g) (globals_from (suc n) rest) list list' all (e ∙ ap (λ (y : GlobalTree). list ++ item_if b y) seen ∙ ap (λ (d : Bool). list ++ item_if d (numbered_global n g)) is)
    (ap (λ (ys : List TypedGlobal). list ++ filter test (globals_from n ys)) (sym split) ∙ h)

-- what is chosen of some functions and one more
pub function_chosen : (has : ℕ → Bool) (fs : List CoreFn) (f : CoreFn) (b : Bool) (list list' : List FunctionTree) → list ≡ chosen_functions has (map view_function fs) → b ≡ has f.id.0 → list' ≡ list ++ item_if b (view_function f) →
    list' ≡ chosen_functions has (map view_function (fs ++ f ∷ []))
function_chosen has fs f b list list' h is e =
    e ∙ ap (λ (ys : List FunctionTree). ys ++ item_if b (view_function f)) h
    ∙ ap (λ (d : Bool). chosen_functions has (map view_function fs) ++ item_if d (view_function f)) is
    ∙ ap (λ (ys : List FunctionTree). chosen_functions has (map view_function fs) ++ ys) (one (has f.id.0))
    ∙ sym (filter-append (λ (g : FunctionTree). has g.id) (map view_function fs) (map view_function (f ∷ [])))
    ∙ ap (chosen_functions has) (sym (map-append view_function fs (f ∷ [])))
  where
    one : (b : Bool) → item_if b (view_function f) ≡ cond b (view_function f ∷ []) []
    one true = refl
    one false = refl

-- ---- sets

-- after one more number
pub number_on : {X : Type 0} (number : X → ℕ) (x : X) (xs rest : List X) (set set' all : List Bool) → xs ≡ x ∷ rest → set' ≡ slice_set set (number x) true → set_all set (map number xs) ≡ all → set_all set' (map number rest) ≡ all
number_on {X} number x xs rest set set' all split e h =
    ap (λ (s : List Bool). set_all s (map number rest)) e ∙ ap (λ (ys : List X). set_all set (map number ys)) (sym split) ∙ h

-- after what one more statement calls
pub statement_on : (x : StmtTree) (xs rest : List StmtTree) (set set' all : List Bool) → xs ≡ x ∷ rest → set' ≡ set_all set (callees_in x) → set_all set (callees_of (stmt_trees xs)) ≡ all → set_all set' (callees_of (stmt_trees rest)) ≡ all
statement_on x xs rest set set' all split e h =
    sets_on set set' all (callees_in x) (callees_of (stmt_trees rest)) e (ap (λ (ys : List StmtTree). set_all set (callees_of (stmt_trees ys))) (sym split) ∙ h)

-- what two lists of statements call
pub both_set : (a : ExprTree) (xs ys us vs : List StmtTree) (set set' set'' : List Bool) → us ≡ xs → vs ≡ ys → set' ≡ set_all set (callees_of (stmt_trees us)) → set'' ≡ set_all set' (callees_of (stmt_trees vs)) →
    set'' ≡ set_all set (callees_in (choose a (stmt_trees xs) (stmt_trees ys)))
both_set a xs ys us vs set set' set'' hu hv e f =
    f ∙ sets_on set set' (set_all set (callees_of (stmt_trees xs) ++ callees_of (stmt_trees ys))) (callees_of (stmt_trees us)) (callees_of (stmt_trees vs)) e
    (λ i. set_all set (callees_of (stmt_trees (hu i)) ++ callees_of (stmt_trees (hv i))))

pub loop_set : (at : Span) (xs us : List StmtTree) (set set' : List Bool) → us ≡ xs → set' ≡ set_all set (callees_of (stmt_trees us)) → set' ≡ set_all set (callees_in (repeat (stmt_trees xs) at))
loop_set at xs us set set' hu e = e ∙ ap (λ (zs : List StmtTree). set_all set (callees_of (stmt_trees zs))) hu
