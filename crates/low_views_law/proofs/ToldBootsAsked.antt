-- What the slave's code calls, one of the slave's functions calls.
use Rattle.std.proofs.Common.{◌≡◌, ◌∙◌, ℕ, suc, ◌+◌, refl, ap, sym, subst, arith, ◌⊎◌, inl, inr, true, Option, None, Some, List, [], ◌∷◌, ◌++◌}
use Rattle.std.specs.Prelude.{◌↔◌, Contains, slice_get}
use Rattle.pt_base.specs.declared.ids.FnId.{FnId}
use Rattle.pt_base.proofs.Members.{contains_cases, contains_nothing}
use Rattle.pt_base.proofs.Numbers.{as_plus_zero}
use Rattle.pt_tree.specs.declared.signature.Signature.{Signature}
use Rattle.typed_tree.specs.StatementTree.{BodyTree}
use Rattle.typed_tree.specs.TypedTree.{FunctionTree, TypedTree}
use Rattle.reach.specs.Contexts.{Calls, InSlave, IsOwned, callees_in}
use Rattle.reach.proofs.ListLemmas.{from_filter, from_flat, from_map}
use Rattle.pt_core.specs.CodeTree as core
use Rattle.pt_core.specs.WellFormedStatement.{callees_of}
use Rattle.lowering.specs.Functions.{code_if, core_of, functions_from, signatures_from}
use Rattle.lowered_code_law.specs.NamesLaws.{LoweredNames}
use Rattle.splitter.specs.Halves.{Halves, asked, is_among, slave_code}
use Rattle.splitter.proofs.SetLemmas.{among_from}
use Rattle.low_views_law.proofs.ToldBootsNumbered.{later}

-- this is the code of a function of the list, the first of which has the number k
record IsCodeOf (t : TypedTree) (k : ℕ) (fs : List FunctionTree) (c : core.FunctionTree) : Type 0 where
  number : ℕ
  place : ℕ
  function : FunctionTree
  body : BodyTree
  at : number ≡ k + place
  there : slice_get fs place ≡ Some function
  has : function.body ≡ Some body
  is : core_of t number function body ≡ c

code_from : (t : TypedTree) (k : ℕ) (fs : List FunctionTree) (c : core.FunctionTree) → Contains (functions_from t k fs) c → IsCodeOf t k fs c
code_from t k [] c h = absurd (contains_nothing c h)
code_from t k (f ∷ fs) c h = go (λ i. further (code_from t (suc k) fs c i)) f.body refl h
  where
    further : IsCodeOf t (suc k) fs c → IsCodeOf t k (f ∷ fs) c
    further x = record {
      number = x.number;
      place = suc (x.place);
      function = x.function;
      body = x.body;
      at = later x.number k x.place x.at;
      there = x.there;
      has = x.has;
      is = x.is;
    }

    first : (b : BodyTree) → f.body ≡ Some b → core_of t k f b ≡ c → IsCodeOf t k (f ∷ fs) c
    first b e s = record { number = k; place = 0; function = f; body = b; at = as_plus_zero k; there = refl; has = e; is = s }

    either : (Contains (functions_from t (suc k) fs) c → IsCodeOf t k (f ∷ fs) c) → (b : BodyTree) → f.body ≡ Some b → (core_of t k f b ≡ c) ⊎ Contains (functions_from t (suc k) fs) c → IsCodeOf t k (f ∷ fs) c
    either rest b e (inl s) = first b e s
    either rest b e (inr i) = rest i

    go : (Contains (functions_from t (suc k) fs) c → IsCodeOf t k (f ∷ fs) c) → (o : Option BodyTree) → f.body ≡ o → Contains (code_if t k f o ++ functions_from t (suc k) fs) c → IsCodeOf t k (f ∷ fs) c
    go rest None e i = rest i
    go rest (Some b) e i = either rest b e (contains_cases (core_of t k f b) (functions_from t (suc k) fs) c i)

-- the lists are those of the program's slave
pub record HasSlave (t : TypedTree) (h : Halves) : Type 0 where
  pub slave : (n : ℕ) → Contains h.slave n ↔ InSlave t (record { 0 = n })
  pub owned : (n : ℕ) → Contains h.owned n ↔ IsOwned t (record { 0 = n })

-- one of the slave's functions calls it
pub record IsCalled (t : TypedTree) (n : ℕ) : Type 0 where
  pub caller : FnId
  pub runs : InSlave t caller
  pub calls : Calls t caller (record { 0 = n })

still_called : (c d : core.FunctionTree) (n : ℕ) → c ≡ d → Contains (callees_of d.body) n → Contains (callees_of c.body) n
still_called c d n e h = subst (λ (x : core.FunctionTree). Contains (callees_of x.body) n) (sym e) h

still_listed : (gs : List FnId) (g : FnId) (n : ℕ) → g.0 ≡ n → Contains gs g → Contains gs (record { 0 = n })
still_listed gs g n e h = subst (λ (m : ℕ). Contains gs (record { 0 = m })) e h

pub called_by_slave : LoweredNames → (t : TypedTree) (h : Halves) → HasSlave t h → (n : ℕ) → is_among (asked h (functions_from t 0 t.functions)) n ≡ true → IsCalled t n
called_by_slave law t h are n e =
    let c = from_flat (λ (x : core.FunctionTree). callees_of x.body) (slave_code h (functions_from t 0 t.functions)) n (among_from (asked h (functions_from t 0 t.functions)) n e) in
    let chosen = from_filter (λ (x : core.FunctionTree). is_among h.slave x.id) (functions_from t 0 t.functions) c.0 c.1 in
    let x = code_from t 0 t.functions c.0 chosen.0 in
    let found = ap (slice_get t.functions) (plain x.number x.place x.at) ∙ x.there in
    let named = (law t x.number x.function x.body found x.has).1 n (still_called (core_of t x.number x.function x.body) c.0 n x.is c.2) in
    let g = from_map (λ (z : FnId). z.0) (callees_in t (record { 0 = x.number })) n named in
    record {
      caller = record { 0 = x.number };
      runs = (are.slave x.number).0 (among_from h.slave x.number (ap (λ (z : core.FunctionTree). is_among h.slave z.id) x.is ∙ chosen.1));
      calls = still_listed (callees_in t (record { 0 = x.number })) g.0 n g.2 g.1;
    }
  where
    plain : (m j : ℕ) → m ≡ 0 + j → m ≡ j
    plain m j e = omega (arith, e)

-- a signature of a list stands at the place of its number
pub signature_place : (k : ℕ) (ss : List Signature) (x : ℕ × Signature) → Contains (signatures_from k ss) x → (j : ℕ) × (x.0 ≡ k + j) × (slice_get ss j ≡ Some x.1)
signature_place k [] x h = absurd (contains_nothing x h)
signature_place k (s ∷ ss) x h = go (λ i. signature_place (suc k) ss x i) (contains_cases (k, s) (signatures_from (suc k) ss) x h)
  where
    go : (Contains (signatures_from (suc k) ss) x → (j : ℕ) × (x.0 ≡ suc k + j) × (slice_get ss j ≡ Some x.1)) → ((k, s) ≡ x) ⊎ Contains (signatures_from (suc k) ss) x → (j : ℕ) × (x.0 ≡ k + j) × (slice_get (s ∷ ss) j ≡ Some x.1)
    go rest (inl e) = (0, ap (λ (y : ℕ × Signature). y.0) (sym e) ∙ as_plus_zero k, ap (λ (y : ℕ × Signature). Some y.1) e)
    go rest (inr i) = let r = rest i in (suc (r.0), later x.0 k r.0 r.1, r.2)
