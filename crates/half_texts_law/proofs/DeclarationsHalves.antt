-- Both halves of a tree whose names differ and whose marks stand where they may can be declared.
use Rattle.std.proofs.Common.{◌≡◌, ◌∙◌, ◌≤◌, ◌<◌, ◌^◌, sym, ap, subst, refl, ℕ, zero, suc, Bool, true, false, List, [], ◌∷◌, ◌++◌, map, arith, ◌+◌, cond, not, length, Option, Some, None, take}
use Rattle.std.specs.Prelude.{IsTrue, ◌||◌, codes, slice_get, nat_eq, nat_lt, sum_by, nat_le}
use Rattle.std.specs.List.{list_all, list_any, filter}
use Rattle.std.specs.Map.{lookup}
use Rattle.std.proofs.lemmas.Bool.Decides.{nat_tests}
use Rattle.std.proofs.lemmas.List.{length-map}
use Rattle.std.proofs.lemmas.List.Sums.{sum_by-cons}
use Rattle.pt_base.proofs.Booleans.{both_hold, both_hold_first, both_hold_second}
use Rattle.pt_base.proofs.Members.{all_hold_at}
use Rattle.pt_tree.specs.declared.signature.Signature.{Signature}
use Rattle.typed_tree.specs.declared.types.Field.{Field}
use Rattle.typed_tree.specs.declared.types.StructInfo.{StructInfo}
use Rattle.typed_tree.specs.declared.variable.TypedGlobal.{TypedGlobal}
use Rattle.typed_tree.specs.declared.variable.Var.{Var}
use Rattle.typed_tree.specs.StatementTree.{BodyTree}
use Rattle.typed_tree.specs.TypedTree as t
use Rattle.typed_tree.specs.TypedTree.{TypedTree, signatures_of}
use Rattle.typed_tree.specs.Nodes.{nodes_of, function_nodes, expr_nodes}
use Rattle.typed_tree.specs.WellFormed.{are_distinct, name_of, is_well_formed}
use Rattle.typed_tree.proofs.WellFormedLemmas.{facts_of, functions_few}
use Rattle.pt_core.specs.CodeTree.{FunctionTree, ProgramTree}
use Rattle.pt_core.specs.WellFormed.{signature_at}
use Rattle.lowering.specs.Lowered.{Temp}
use Rattle.lowering.specs.Functions.{variable_of, lowered_body, core_of, code_if, functions_from, signatures_from, globals_from}
use Rattle.splitter.specs.Halves.{chosen_functions, chosen_signatures, chosen_globals}
use Rattle.half_trees.specs.Names.{named, function_by}
use Rattle.half_names_law.specs.Declarable.{Declarable, struct_names, field_names, signature_marked, variable_marked, parameters_marked, global_marked}
use Rattle.half_texts_law.specs.DeclarationsTrees.{parameters_plain, Marked}
use Rattle.half_texts_law.proofs.DeclarationsFewVariables.{lowered_few}
use Rattle.half_texts_law.proofs.DeclarationsNames.{made_from, made_distinct, chosen_distinct, by_place}
use Rattle.half_texts_law.proofs.DeclarationsTextNames.{struct_apart, field_apart, called_as, called_apart}

-- ---- lists

pub chosen_all : {X : Type 0} (q has : X → Bool) (xs : List X) → IsTrue (list_all q xs) → IsTrue (list_all q (filter has xs))
chosen_all q has [] h = refl
chosen_all {X} q has (x ∷ xs) h = go (chosen_all q has xs (both_hold_second (q x) (list_all q xs) h)) (has x)
  where
    go : IsTrue (list_all q (filter has xs)) → (b : Bool) → IsTrue (list_all q (cond b (x ∷ filter has xs) (filter has xs)))
    go rest true = both_hold (q x) (list_all q (filter has xs)) (both_hold_first (q x) (list_all q xs) h) rest
    go rest false = rest

at_none : {X : Type 0} (xs : List X) (j : ℕ) → slice_get xs (j + 0) ≡ slice_get xs j
at_none xs j = let e : j + 0 ≡ j = omega arith in ap (slice_get xs) e

-- numbers from 0 on are below 2 ^ 64
small : {X : Type 0} (name : X → List ℕ) (xs : List X) → length xs < 2 ^ 28 → 0 + length (map name xs) ≤ 2 ^ 64
small name xs few = omega (arith, few, length-map xs name)

-- ---- names

structs_differ : (structs : List StructInfo) → length structs < 2 ^ 28 → IsTrue (are_distinct (map (λ s. s.name) structs)) → IsTrue (are_distinct (struct_names structs))
structs_differ structs few tags =
    subst (λ ns. IsTrue (are_distinct ns)) (sym (by_place structs (λ s. s.name) (named (codes "s_")) structs 0 (at_none structs)))
    (made_distinct (λ n a. named (codes "s_") n (Some a)) struct_apart 0 (map (λ (s : StructInfo). s.name) structs) (small (λ (s : StructInfo). s.name) structs few) tags)

fields_differ : (s : StructInfo) → length s.fields < 2 ^ 28 → IsTrue (are_distinct (map (λ f. f.name) s.fields)) → IsTrue (are_distinct (field_names s))
fields_differ s few apart =
    subst (λ ns. IsTrue (are_distinct ns)) (sym (by_place s.fields (λ (f : Field). f.name) (named (codes "m_")) s.fields 0 (at_none s.fields)))
    (made_distinct (λ n a. named (codes "m_") n (Some a)) field_apart 0 (map (λ (f : Field). f.name) s.fields) (small (λ (f : Field). f.name) s.fields few) apart)

all_fields_differ : (structs : List StructInfo) → sum_by (λ s. 1 + length s.fields) structs < 2 ^ 28 → IsTrue (list_all (λ s. are_distinct (map (λ f. f.name) s.fields)) structs) → IsTrue (list_all (λ s. are_distinct (field_names s)) structs)
all_fields_differ [] few apart = refl
all_fields_differ (s ∷ rest) few apart =
    let sums = sum_by-cons (λ (x : StructInfo). 1 + length x.fields) s rest in
    both_hold (are_distinct (field_names s)) (list_all (λ s. are_distinct (field_names s)) rest)
    (fields_differ s (omega (arith, sums, few)) (both_hold_first (are_distinct (map (λ f. f.name) s.fields)) (list_all (λ s. are_distinct (map (λ f. f.name) s.fields)) rest) apart))
    (all_fields_differ rest (omega (arith, sums, few)) (both_hold_second (are_distinct (map (λ f. f.name) s.fields)) (list_all (λ s. are_distinct (map (λ f. f.name) s.fields)) rest) apart))

function_texts : (k : ℕ) (ss : List Signature) → map (λ s. function_by s.0 (Some s.1)) (signatures_from k ss) ≡ made_from called_as k (map (λ s. s.name) ss)
function_texts k [] = refl
function_texts k (s ∷ ss) = ap (λ ns. called_as k s.name ∷ ns) (function_texts (suc k) ss)

signature_names : (fs : List t.FunctionTree) → map (λ s. s.name) (map (λ f. f.signature) fs) ≡ map name_of fs
signature_names [] = refl
signature_names (f ∷ fs) = ap (λ ns. name_of f ∷ ns) (signature_names fs)

signatures_all : (q : Signature → Bool) (fs : List t.FunctionTree) → IsTrue (list_all (λ f. q f.signature) fs) → IsTrue (list_all q (map (λ f. f.signature) fs))
signatures_all q [] h = refl
signatures_all q (f ∷ fs) h = both_hold (q f.signature) (list_all q (map (λ f. f.signature) fs)) (both_hold_first (q f.signature) (list_all (λ f. q f.signature) fs) h) (signatures_all q fs (both_hold_second (q f.signature) (list_all (λ f. q f.signature) fs) h))

functions_differ : (has : ℕ → Bool) (p : TypedTree) → length p.functions < 2 ^ 28 → IsTrue (are_distinct (map name_of p.functions)) → IsTrue (are_distinct (map (λ s. function_by s.0 (Some s.1)) (chosen_signatures has p)))
functions_differ has p few apart =
    chosen_distinct (λ (s : ℕ × Signature). function_by s.0 (Some s.1)) (λ s. has s.0) (signatures_from 0 (signatures_of p))
    (subst (λ ns. IsTrue (are_distinct ns)) (sym (function_texts 0 (signatures_of p) ∙ ap (made_from called_as 0) (signature_names p.functions)))
    (made_distinct called_as called_apart 0 (map name_of p.functions) (small name_of p.functions few) apart))

-- ---- numbers and marks of globals and signatures

numbered_signatures : (q : Signature → Bool) (k : ℕ) (ss : List Signature) → IsTrue (list_all q ss) → IsTrue (list_all (λ s. q s.1) (signatures_from k ss))
numbered_signatures q k [] h = refl
numbered_signatures q k (s ∷ ss) h = both_hold (q s) (list_all (λ s. q s.1) (signatures_from (suc k) ss)) (both_hold_first (q s) (list_all q ss) h) (numbered_signatures q (suc k) ss (both_hold_second (q s) (list_all q ss) h))

numbered_globals : (q : Var → Bool) (k : ℕ) (gs : List TypedGlobal) → IsTrue (list_all (λ g. q g.var) gs) → IsTrue (list_all (λ g. q g.var) (globals_from k gs))
numbered_globals q k [] h = refl
numbered_globals q k (g ∷ gs) h = both_hold (q g.var) (list_all (λ g. q g.var) (globals_from (suc k) gs)) (both_hold_first (q g.var) (list_all (λ g. q g.var) gs) h) (numbered_globals q (suc k) gs (both_hold_second (q g.var) (list_all (λ g. q g.var) gs) h))

globals_below : (limit k : ℕ) (gs : List TypedGlobal) → k + length gs ≤ limit → IsTrue (list_all (λ g. nat_lt g.id limit) (globals_from k gs))
globals_below limit k [] h = refl
globals_below limit k (g ∷ gs) h = both_hold (nat_lt k limit) (list_all (λ g. nat_lt g.id limit) (globals_from (suc k) gs)) (below k limit (omega (arith, h))) (globals_below limit (suc k) gs (omega (arith, h)))
  where
    below : (m n : ℕ) → m < n → IsTrue (nat_lt m n)
    below m n h = grind (arith, nat_tests)

-- ---- functions

-- a number below all of these is none of theirs
early : (has : ℕ → Bool) (ss : List Signature) (k n : ℕ) (s : Signature) → n < k → lookup (nat_eq n) (filter (λ s. has s.0) (signatures_from k ss)) ≡ Some s → ⊥
early has [] k n s h i = cc
early has (x ∷ ss) k n s h i = go (early has ss (suc k) n s (omega (arith, h))) (has k) i
  where
    other : nat_eq n k ≡ false
    other = grind (arith, nat_tests, h)

    go : (lookup (nat_eq n) (filter (λ s. has s.0) (signatures_from (suc k) ss)) ≡ Some s → ⊥) → (b : Bool) → lookup (nat_eq n) (cond b ((k, x) ∷ filter (λ s. has s.0) (signatures_from (suc k) ss)) (filter (λ s. has s.0) (signatures_from (suc k) ss))) ≡ Some s → ⊥
    go again true i = again (sym (ap (λ c. cond c (Some x) (lookup (nat_eq n) (filter (λ s. has s.0) (signatures_from (suc k) ss)))) other) ∙ i)
    go again false i = again i

sought_signature : (has : ℕ → Bool) (ss : List Signature) (j k : ℕ) (s : Signature) → lookup (nat_eq (j + k)) (filter (λ s. has s.0) (signatures_from k ss)) ≡ Some s → slice_get ss j ≡ Some s
sought_signature has [] j k s h = cc
sought_signature has (x ∷ ss) zero k s h = go (has k) h
  where
    here : nat_eq (0 + k) k ≡ true
    here = grind (arith, nat_tests)

    go : (b : Bool) → lookup (nat_eq (0 + k)) (cond b ((k, x) ∷ filter (λ s. has s.0) (signatures_from (suc k) ss)) (filter (λ s. has s.0) (signatures_from (suc k) ss))) ≡ Some s → Some x ≡ Some s
    go true h = sym (ap (λ c. cond c (Some x) (lookup (nat_eq (0 + k)) (filter (λ s. has s.0) (signatures_from (suc k) ss)))) here) ∙ h
    go false h = absurd (early has ss (suc k) (0 + k) s (omega arith) h)
sought_signature has (x ∷ ss) (suc j) k s h = go (sought_signature has ss j (suc k) s) (has k) h
  where
    other : nat_eq (suc j + k) k ≡ false
    other = grind (arith, nat_tests)

    again_at : lookup (nat_eq (suc j + k)) (filter (λ s. has s.0) (signatures_from (suc k) ss)) ≡ Some s → lookup (nat_eq (j + suc k)) (filter (λ s. has s.0) (signatures_from (suc k) ss)) ≡ Some s
    again_at h = let e : j + suc k ≡ suc j + k = omega arith in ap (λ n. lookup (nat_eq n) (filter (λ s. has s.0) (signatures_from (suc k) ss))) e ∙ h

    go : (lookup (nat_eq (j + suc k)) (filter (λ s. has s.0) (signatures_from (suc k) ss)) ≡ Some s → slice_get ss j ≡ Some s) → (b : Bool)
        → lookup (nat_eq (suc j + k)) (cond b ((k, x) ∷ filter (λ s. has s.0) (signatures_from (suc k) ss)) (filter (λ s. has s.0) (signatures_from (suc k) ss))) ≡ Some s → slice_get ss j ≡ Some s
    go again true h = again (again_at (sym (ap (λ c. cond c (Some x) (lookup (nat_eq (suc j + k)) (filter (λ s. has s.0) (signatures_from (suc k) ss)))) other) ∙ h))
    go again false h = again (again_at h)

-- what holds of each function's code holds of all
code_all : (q : FunctionTree → Bool) (p : TypedTree) (fs : List t.FunctionTree) (k : ℕ) → ((j : ℕ) (f : t.FunctionTree) (b : BodyTree) → slice_get fs j ≡ Some f → IsTrue (q (core_of p (j + k) f b))) → IsTrue (list_all q (functions_from p k fs))
code_all q p [] k h = refl
code_all q p (f ∷ fs) k h = go (code_all q p fs (suc k) (λ j g b i. let e : suc j + k ≡ j + suc k = omega arith in subst (λ n. IsTrue (q (core_of p n g b))) e (h (suc j) g b i))) f.body
  where
    go : IsTrue (list_all q (functions_from p (suc k) fs)) → (b : Option BodyTree) → IsTrue (list_all q (code_if p k f b ++ functions_from p (suc k) fs))
    go rest None = rest
    go rest (Some b) = both_hold (q (core_of p k f b)) (list_all q (functions_from p (suc k) fs)) (let e : 0 + k ≡ k = omega arith in subst (λ n. IsTrue (q (core_of p n f b))) e (h 0 f b refl)) rest

-- temporaries have no marks
no_temp : (n : ℕ) (temps : List Temp) → list_any (λ x. x.unpriv) (take n (map variable_of temps)) ≡ false
no_temp zero temps = refl
no_temp (suc n) [] = refl
no_temp (suc n) (x ∷ temps) = no_temp n temps

still_plain : (n : ℕ) (xs : List Var) (temps : List Temp) → list_any (λ x. x.unpriv) (take n (xs ++ map variable_of temps)) ≡ list_any (λ x. x.unpriv) (take n xs)
still_plain zero xs temps = refl
still_plain (suc n) [] temps = no_temp (suc n) temps
still_plain (suc n) (x ∷ xs) temps = ap (λ b. x.unpriv || b) (still_plain n xs temps)

abbrev marked_by : (p : ProgramTree) → FunctionTree → Bool
marked_by p f = parameters_marked (take f.params f.vars) (signature_at p f.id)

function_plain : (has : ℕ → Bool) (p : TypedTree) (j : ℕ) (f : t.FunctionTree) (b : BodyTree) → slice_get p.functions j ≡ Some f → IsTrue (parameters_plain f)
    → (o : Option Signature) → lookup (nat_eq (j + 0)) (chosen_signatures has p) ≡ o → IsTrue (parameters_marked (take (length f.signature.params) (f.vars ++ map variable_of (lowered_body p f b).temps)) o)
function_plain has p j f b at plain None is = refl
function_plain has p j f b at plain (Some s) is =
    let there : slice_get (signatures_of p) j ≡ Some s = sought_signature has (signatures_of p) j 0 s is in
    let same : f.signature ≡ s = one (mapped_at p.functions j f at) there in
    ap (λ z. not s.privileged || not z) (still_plain (length f.signature.params) f.vars (lowered_body p f b).temps)
    ∙ ap (λ z. not z.privileged || not (list_any (λ x. x.unpriv) (take (length f.signature.params) f.vars))) (sym same) ∙ plain
  where
    one : {X : Type 0} {x y : X} {o : Option X} → o ≡ Some x → o ≡ Some y → x ≡ y
    one h i = cc

    mapped_at : (fs : List t.FunctionTree) (j : ℕ) (f : t.FunctionTree) → slice_get fs j ≡ Some f → slice_get (map (λ f. f.signature) fs) j ≡ Some f.signature
    mapped_at [] j f h = cc
    mapped_at (g ∷ fs) zero f h = cc
    mapped_at (g ∷ fs) (suc j) f h = mapped_at fs j f h

-- ---- a half

abbrev pub part_of : TypedTree → (ℕ → Bool) → (ℕ → Bool) → (ℕ → Bool) → ProgramTree
part_of p signed kept owned = record {
  structs = p.structs;
  signatures = chosen_signatures signed p;
  functions = chosen_functions kept (functions_from p 0 p.functions);
  globals = chosen_globals owned p;
}

structs_counted : (structs : List StructInfo) → length structs ≤ sum_by (λ s. 1 + length s.fields) structs
structs_counted [] = omega arith
structs_counted (s ∷ rest) = let sums = sum_by-cons (λ (x : StructInfo). 1 + length x.fields) s rest in let again = structs_counted rest in omega (arith, sums, again)

-- how much is declared
record Few (p : TypedTree) : Type 0 where
  structs : length p.structs < 2 ^ 28
  fields : sum_by (λ (s : StructInfo). 1 + length s.fields) p.structs < 2 ^ 28
  globals : length p.globals ≤ 2 ^ 64

few_of : (p : TypedTree) → IsTrue (nat_lt (nodes_of p) (2 ^ 28)) → Few p
few_of p h =
    let all : nodes_of p < 2 ^ 28 = less (nodes_of p) (2 ^ 28) h in
    let counted = structs_counted p.structs in
    let parts = go (sum_by (λ (s : StructInfo). 1 + length s.fields) p.structs) (length p.globals) (sum_by function_nodes p.functions + sum_by expr_nodes p.exprs) all in
    record { structs = omega (arith, parts.0, counted); fields = parts.0; globals = parts.1 }
  where
    less : (m n : ℕ) → IsTrue (nat_lt m n) → m < n
    less m n h = grind (arith, nat_tests)

    go : (a g b : ℕ) → a + (g + b) < 2 ^ 28 → (a < 2 ^ 28) × (g ≤ 2 ^ 64)
    go a g b h = let i : g < 268435456 = omega (arith, h) in (omega (arith, h), omega (arith, i))

pub part_declarable : (p : TypedTree) (signed kept owned : ℕ → Bool) → IsTrue (is_well_formed p) → Marked p → Declarable (part_of p signed kept owned)
part_declarable p signed kept owned well marked =
    let half : ProgramTree = part_of p signed kept owned in
    let known = facts_of p well in
    let few = few_of p known.few in
    let plain : IsTrue (list_all (marked_by half) (functions_from p 0 p.functions)) =
    code_all (marked_by half) p p.functions 0 (λ j f b at. function_plain signed p j f b at (all_hold_at parameters_plain p.functions j f marked.parameters at) (signature_at half (j + 0)) refl) in
    record {
      structs = structs_differ p.structs few.structs marked.tags;
      fields = all_fields_differ p.structs few.fields marked.fields;
      functions = functions_differ signed p (functions_few p well) known.names;
      globals = chosen_all (λ g. nat_lt g.id (2 ^ 64)) (λ g. owned g.id) (globals_from 0 p.globals) (globals_below (2 ^ 64) 0 p.globals (let count = few.globals in omega (arith, count)));
      variables = chosen_all (λ f. nat_le (length f.vars) (2 ^ 64)) (λ f. kept f.id) (functions_from p 0 p.functions) (lowered_few p well);
      signature_marks = chosen_all (λ s. signature_marked s.1) (λ s. signed s.0) (signatures_from 0 (signatures_of p)) (numbered_signatures signature_marked 0 (signatures_of p) (signatures_all signature_marked p.functions marked.signatures));
      global_marks = chosen_all global_marked (λ g. owned g.id) (globals_from 0 p.globals) (numbered_globals variable_marked 0 p.globals marked.globals);
      function_marks = chosen_all (marked_by half) (λ f. kept f.id) (functions_from p 0 p.functions) plain;
    }
