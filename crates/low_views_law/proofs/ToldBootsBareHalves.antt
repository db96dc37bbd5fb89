-- The slave's half of a program, without its places, is the slave's half of the program without places.
use Rattle.std.proofs.Common.{◌≡◌, ◌∙◌, ◌<◌, ℕ, suc, refl, ap, sym, subst, Bool, true, false, not, Option, None, Some, List, [], ◌∷◌, ◌++◌, cond, map, option_map}
use Rattle.std.specs.Prelude.{◌&&◌, Contains, is_some}
use Rattle.std.specs.List.{filter}
use Rattle.std.specs.Option.{option_map_or}
use Rattle.std.proofs.lemmas.List.{length-map, map-append}
use Rattle.pt_base.specs.declared.ids.FnId.{FnId}
use Rattle.pt_base.specs.declared.ids.GlobalId.{GlobalId}
use Rattle.pt_base.proofs.Options.{some_same}
use Rattle.pt_tree.specs.declared.signature.Signature.{Signature}
use Rattle.typed_tree.specs.declared.variable.TypedGlobal.{TypedGlobal}
use Rattle.typed_tree.specs.Lookup.{function_at, signature_of}
use Rattle.typed_tree.specs.StatementTree.{BodyTree}
use Rattle.typed_tree.specs.TypedTree.{FunctionTree, TypedTree}
use Rattle.reach.specs.Contexts.{InSlave, IsOwned, is_plain, main, slave_calls, test_function}
use Rattle.pt_core.specs.CodeTree as core
use Rattle.pt_core.specs.CodeTree.{GlobalTree, SlaveTree, StmtTree, StmtTrees, clear, check, assign, copy, call, choose, repeat, break_out, continue_on, give_back, no_stmts, stmt_and}
use Rattle.pt_core.specs.WellFormedStatement.{callees_in, callees_of}
use Rattle.lowering.specs.Functions.{code_if, functions_from, globals_from, signatures_from}
use Rattle.splitter.specs.Halves.{Halves, asked, called_by, is_among, is_slave_host, slave_code, slave_of}
use Rattle.lowered_code_law.specs.PlacesBareCode.{bare_code, bare_stmt, bare_stmts}
use Rattle.lowered_code_law.specs.PlacesBareTrees.{bare_body, bare_function, bare_global, bare_program}
use Rattle.lowered_code_law.specs.PlacesLaws.{PlacesAloneFollowPlaces}
use Rattle.lowered_code_law.proofs.PlacesUsages.{callees_bare, function_bare, globals_bare}
use Rattle.low_views_law.specs.ToldBootsBareBoots.{bare_owned}
use Rattle.low_views_law.proofs.ToldBootsAsked.{HasSlave}
use Rattle.low_views_law.proofs.ToldBootsReached.{IsSound}

-- ---- functions

body_stays : (o : Option BodyTree) → is_some (option_map bare_body o) ≡ is_some o
body_stays None = refl
body_stays (Some b) = refl

signature_bare : (t : TypedTree) (f : FnId) → signature_of (bare_program t) f ≡ signature_of t f
signature_bare t f = ap (option_map (λ (g : FunctionTree). g.signature)) (function_bare t f) ∙ go (function_at t f)
  where
    go : (o : Option FunctionTree) → option_map (λ (g : FunctionTree). g.signature) (option_map bare_function o) ≡ option_map (λ (g : FunctionTree). g.signature) o
    go None = refl
    go (Some g) = refl

name_bare : (t : TypedTree) (f : FnId) → option_map (λ (s : Signature). s.name) (signature_of (bare_program t) f) ≡ option_map (λ (s : Signature). s.name) (signature_of t f)
name_bare t f = ap (option_map (λ (s : Signature). s.name)) (signature_bare t f)

plain_bare : (t : TypedTree) (f : FnId) → test_function is_plain (bare_program t) f ≡ test_function is_plain t f
plain_bare t f = ap (λ (o : Option FunctionTree). option_map_or is_plain o false) (function_bare t f) ∙ go (function_at t f)
  where
    go : (o : Option FunctionTree) → option_map_or is_plain (option_map bare_function o) false ≡ option_map_or is_plain o false
    go None = refl
    go (Some g) = ap (λ (b : Bool). b && not g.signature.privileged) (body_stays g.body)

bodies_bare : (t : TypedTree) (f : FnId) (g : FunctionTree) → IsSound t → function_at (bare_program t) f ≡ Some g → is_some g.body ≡ not g.signature.host
bodies_bare t f g s is = go (function_at t f) refl (sym (function_bare t f) ∙ is)
  where
    go : (o : Option FunctionTree) → function_at t f ≡ o → option_map bare_function o ≡ Some g → is_some g.body ≡ not g.signature.host
    go None e i = cc
    go (Some x) e i =
        let same = some_same (bare_function x) g i in
        sym (ap (λ (z : FunctionTree). is_some z.body) same) ∙ body_stays x.body ∙ s.bodies f x e ∙ ap (λ (z : FunctionTree). not z.signature.host) same

pub bare_sound : (t : TypedTree) → IsSound t → IsSound (bare_program t)
bare_sound t s = record {
  start = s.start;
  named = name_bare t s.start ∙ s.named;
  alone = λ f g h i. s.alone f g (sym (name_bare t f) ∙ h) (sym (name_bare t g) ∙ i);
  bodies = λ f g is. bodies_bare t f g s is;
}

-- ---- what the slave runs and owns

still_slave : (t : TypedTree) (f : FnId) → InSlave t f → InSlave (bare_program t) f
still_slave t f (main g h) = main g (name_bare t g ∙ h)
still_slave t f (slave_calls h g r c e) = slave_calls h g (still_slave t h r) (subst (λ (gs : List FnId). Contains gs g) (sym (callees_bare t h)) c) (plain_bare t g ∙ e)

slave_before : (t : TypedTree) (f : FnId) → InSlave (bare_program t) f → InSlave t f
slave_before t f (main g h) = main g (sym (name_bare t g) ∙ h)
slave_before t f (slave_calls h g r c e) = slave_calls h g (slave_before t h r) (subst (λ (gs : List FnId). Contains gs g) (callees_bare t h) c) (sym (plain_bare t g) ∙ e)

still_owned : (t : TypedTree) (g : GlobalId) → IsOwned t g → IsOwned (bare_program t) g
still_owned t g o = (
  subst (λ (n : ℕ). g.0 < n) (sym (length-map t.globals bare_global)) o.0,
  (o.1.0, still_slave t o.1.0 o.1.1, subst (λ (gs : List GlobalId). Contains gs g) (sym (globals_bare t o.1.0)) o.1.2),
)

owned_before : (t : TypedTree) (g : GlobalId) → IsOwned (bare_program t) g → IsOwned t g
owned_before t g o = (
  subst (λ (n : ℕ). g.0 < n) (length-map t.globals bare_global) o.0,
  (o.1.0, slave_before t o.1.0 o.1.1, subst (λ (gs : List GlobalId). Contains gs g) (globals_bare t o.1.0) o.1.2),
)

pub bare_lists : (t : TypedTree) (h : Halves) → HasSlave t h → HasSlave (bare_program t) h
bare_lists t h s = record {
  slave = λ n. ((λ c. still_slave t (record { 0 = n }) ((s.slave n).0 c)), (λ r. (s.slave n).1 (slave_before t (record { 0 = n }) r)));
  owned = λ n. ((λ c. still_owned t (record { 0 = n }) ((s.owned n).0 c)), (λ o. (s.owned n).1 (owned_before t (record { 0 = n }) o)));
}

-- ---- the half

-- the slave's half of a program, with the code of its lowering
abbrev pub half_in : TypedTree → Halves → SlaveTree
half_in t h = slave_of t h (functions_from t 0 t.functions)

abbrev pub bare_half : SlaveTree → SlaveTree
bare_half s = record s { functions = map bare_code s.functions; globals = map bare_owned s.globals }

filter_map : {A B : Type 0} (f : A → B) (test : B → Bool) (xs : List A) → map f (filter (λ (x : A). test (f x)) xs) ≡ filter test (map f xs)
filter_map f test [] = refl
filter_map {A} {B} f test (x ∷ xs) = go (test (f x)) (filter_map f test xs)
  where
    go : (b : Bool) → map f (filter (λ (y : A). test (f y)) xs) ≡ filter test (map f xs) → map f (cond b (x ∷ filter (λ (y : A). test (f y)) xs) (filter (λ (y : A). test (f y)) xs)) ≡ cond b (f x ∷ filter test (map f xs)) (filter test (map f xs))
    go true rest = ap (λ (ys : List B). f x ∷ ys) rest
    go false rest = rest

functions_bare : PlacesAloneFollowPlaces → (t : TypedTree) (k : ℕ) (fs : List FunctionTree) → map bare_code (functions_from t k fs) ≡ functions_from (bare_program t) k (map bare_function fs)
functions_bare places t k [] = refl
functions_bare places t k (f ∷ fs) = map-append bare_code (code_if t k f f.body) (functions_from t (suc k) fs) ∙ (λ i. own f.body i ++ functions_bare places t (suc k) fs i)
  where
    own : (o : Option BodyTree) → map bare_code (code_if t k f o) ≡ code_if (bare_program t) k (bare_function f) (option_map bare_body o)
    own None = refl
    own (Some b) = ap (λ (c : core.FunctionTree). c ∷ []) (places t k f b)

code_bare : PlacesAloneFollowPlaces → (t : TypedTree) (h : Halves) → map bare_code (slave_code h (functions_from t 0 t.functions)) ≡ slave_code h (functions_from (bare_program t) 0 (map bare_function t.functions))
code_bare places t h = filter_map bare_code (λ (c : core.FunctionTree). is_among h.slave c.id) (functions_from t 0 t.functions) ∙ ap (slave_code h) (functions_bare places t 0 t.functions)

mutual
  calls_bare : (x : StmtTree) → callees_in (bare_stmt x) ≡ callees_in x
  calls_bare (clear v) = refl
  calls_bare (check p) = refl
  calls_bare (assign p a) = refl
  calls_bare (copy p q) = refl
  calls_bare (call f arguments v s) = refl
  calls_bare (choose a xs ys) = λ i. all_calls_bare xs i ++ all_calls_bare ys i
  calls_bare (repeat xs s) = all_calls_bare xs
  calls_bare break_out = refl
  calls_bare continue_on = refl
  calls_bare (give_back a) = refl

  all_calls_bare : (xs : StmtTrees) → callees_of (bare_stmts xs) ≡ callees_of xs
  all_calls_bare no_stmts = refl
  all_calls_bare (stmt_and x rest) = λ i. calls_bare x i ++ all_calls_bare rest i

called_bare : (code : List core.FunctionTree) → called_by (map bare_code code) ≡ called_by code
called_bare [] = refl
called_bare (c ∷ code) = λ i. all_calls_bare c.body i ++ called_bare code i

asked_bare : PlacesAloneFollowPlaces → (t : TypedTree) (h : Halves) → asked h (functions_from t 0 t.functions) ≡ asked h (functions_from (bare_program t) 0 (map bare_function t.functions))
asked_bare places t h = sym (called_bare (slave_code h (functions_from t 0 t.functions))) ∙ ap called_by (code_bare places t h)

signatures_bare : (fs : List FunctionTree) → map (λ (f : FunctionTree). f.signature) fs ≡ map (λ (f : FunctionTree). f.signature) (map bare_function fs)
signatures_bare [] = refl
signatures_bare (f ∷ fs) = ap (λ (ss : List Signature). f.signature ∷ ss) (signatures_bare fs)

owned_bare : (k : ℕ) (gs : List TypedGlobal) → map bare_owned (globals_from k gs) ≡ globals_from k (map bare_global gs)
owned_bare k [] = refl
owned_bare k (g ∷ gs) = ap (λ (rest : List GlobalTree). record { id = k; var = (bare_global g).var; cells = g.cells } ∷ rest) (owned_bare (suc k) gs)

pub half_bare : PlacesAloneFollowPlaces → (t : TypedTree) (h : Halves) → bare_half (half_in t h) ≡ half_in (bare_program t) h
half_bare places t h =
    let calls = asked_bare places t h in
    let owned = filter_map bare_owned (λ (g : GlobalTree). is_among h.owned g.id) (globals_from 0 t.globals) ∙ ap (filter (λ (g : GlobalTree). is_among h.owned g.id)) (owned_bare 0 t.globals) in
    λ i. record {
      structs = t.structs;
      signatures = filter (λ (s : ℕ × Signature). is_among (calls i ++ h.slave) s.0) (signatures_from 0 (signatures_bare t.functions i));
      functions = code_bare places t h i;
      globals = owned i;
      hosts = map (λ (s : ℕ × Signature). s.0) (filter (λ (s : ℕ × Signature). is_slave_host (is_among (calls i) s.0) s.1) (signatures_from 0 (signatures_bare t.functions i)));
    }
