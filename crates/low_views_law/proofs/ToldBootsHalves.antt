-- The slave's halves of two programs that are the same for it are the same.
use Rattle.std.proofs.Common.{◌≡◌, ◌∙◌, ℕ, ◌+◌, ap, sym, arith, ◌⊎◌, inl, inr, Bool, true, List, [], ◌∷◌, ◌++◌, map, option_map}
use Rattle.std.specs.Prelude.{◌||◌, Contains, nat_eq, slice_get}
use Rattle.std.specs.List.{filter}
use Rattle.std.proofs.lemmas.List.Elements.{Contains-append_cases}
use Rattle.std.proofs.lemmas.Option.{slice_get-map}
use Rattle.pt_base.specs.declared.ids.FnId.{FnId}
use Rattle.pt_base.specs.declared.ids.GlobalId.{GlobalId}
use Rattle.pt_base.proofs.Booleans.{same_truth}
use Rattle.pt_tree.specs.declared.signature.Signature.{Signature}
use Rattle.typed_tree.specs.declared.variable.TypedGlobal.{TypedGlobal}
use Rattle.typed_tree.specs.Lookup.{signature_of}
use Rattle.typed_tree.specs.TypedTree.{FunctionTree, TypedTree, signatures_of}
use Rattle.reach.specs.Contexts.{InSlave, globals_in}
use Rattle.pt_core.specs.CodeTree as core
use Rattle.pt_core.specs.CodeTree.{GlobalTree}
use Rattle.lowering.specs.Functions.{code_if, functions_from, globals_from, signatures_from}
use Rattle.lowered_code_law.specs.NamesLaws.{LoweredNames}
use Rattle.lowered_code_law.specs.LocalityLaws.{LoweringSeesOneBody}
use Rattle.splitter.specs.Halves.{Halves, asked, called_by, chosen_globals, chosen_signatures, is_among, slave_code, slave_hosts, slave_of}
use Rattle.splitter.proofs.SetLemmas.{among_from, among_has}
use Rattle.low_views_law.specs.ToldBootsSameForSlave.{IsSameForSlave}
use Rattle.low_views_law.proofs.ToldBootsAsked.{HasSlave, called_by_slave}
use Rattle.low_views_law.proofs.ToldBootsNumbered.{code_with, functions_given, given_by, given_same, global_with, globals_given, host_with, hosts_given, signature_with, signatures_given}
use Rattle.low_views_law.proofs.ToldBootsReached.{IsSound, own_signature, owned_before, reached_before, still_owned, still_reached}

abbrev function_id : ℕ → FnId
function_id n = record { 0 = n }

abbrev global_id : ℕ → GlobalId
global_id n = record { 0 = n }

-- Two programs that are the same for the slave, with their halves and what the slave's part needs of both.
pub record Same (t u : TypedTree) (h k : Halves) : Type 0 where
  pub sound_here : IsSound t
  pub sound_there : IsSound u
  pub halves_here : HasSlave t h
  pub halves_there : HasSlave u k
  pub parts : IsSameForSlave t u

plain : (m j : ℕ) → m ≡ 0 + j → j ≡ m
plain m j e = omega (arith, e)

-- ---- which numbers

slave_same : (t u : TypedTree) (h k : Halves) → Same t u h k → (n : ℕ) → is_among k.slave n ≡ is_among h.slave n
slave_same t u h k s n =
    same_truth (is_among k.slave n) (is_among h.slave n)
    (λ e. among_has h.slave n ((s.halves_here.slave n).1 (reached_before t u s.sound_here s.sound_there s.parts (function_id n) ((s.halves_there.slave n).0 (among_from k.slave n e)))))
    (λ e. among_has k.slave n ((s.halves_there.slave n).1 (still_reached t u s.parts (function_id n) ((s.halves_here.slave n).0 (among_from h.slave n e)))))

owned_same : (t u : TypedTree) (h k : Halves) → Same t u h k → (n : ℕ) → is_among k.owned n ≡ is_among h.owned n
owned_same t u h k s n =
    same_truth (is_among k.owned n) (is_among h.owned n)
    (λ e. among_has h.owned n ((s.halves_here.owned n).1 (owned_before t u s.sound_here s.sound_there s.parts (global_id n) ((s.halves_there.owned n).0 (among_from k.owned n e)))))
    (λ e. among_has k.owned n ((s.halves_there.owned n).1 (still_owned t u s.parts (global_id n) ((s.halves_here.owned n).0 (among_from h.owned n e)))))

-- ---- functions

code_here : (t u : TypedTree) → LoweringSeesOneBody → IsSameForSlave t u → (n j : ℕ) → n ≡ 0 + j → InSlave t (function_id n) → given_by (code_with t) n (slice_get t.functions j) ≡ given_by (code_with u) n (slice_get u.functions j)
code_here t u sees same n j e r =
    let s = same.functions (function_id n) r in
    let code = sees t u (function_id n) s same.structs (λ g c. ap (option_map (λ (x : TypedGlobal). x.var.ty)) (same.globals (function_id n) g r c)) in
    ap (λ (m : ℕ). given_by (code_with t) n (slice_get t.functions m)) (plain n j e)
    ∙ ap (given_by (code_with t) n) s.stands_here
    ∙ ap (code_if t n s.here) s.body_here
    ∙ ap (λ (c : core.FunctionTree). c ∷ []) code
    ∙ sym (ap (code_if u n s.there) s.body_there)
    ∙ sym (ap (given_by (code_with u) n) s.stands_there)
    ∙ sym (ap (λ (m : ℕ). given_by (code_with u) n (slice_get u.functions m)) (plain n j e))

code_same : LoweringSeesOneBody → (t u : TypedTree) (h k : Halves) → Same t u h k → slave_code h (functions_from t 0 t.functions) ≡ slave_code k (functions_from u 0 u.functions)
code_same sees t u h k s =
    functions_given t (is_among h.slave) 0 t.functions
    ∙ given_same (is_among h.slave) (code_with t) (code_with u) 0 t.functions u.functions (λ n j e i. code_here t u sees s.parts n j e ((s.halves_here.slave n).0 (among_from h.slave n i)))
    ∙ sym (functions_given u (is_among h.slave) 0 u.functions)
    ∙ (λ i. filter (λ (c : core.FunctionTree). sym (slave_same t u h k s c.id) i) (functions_from u 0 u.functions))

-- ---- what the code calls

abbrev asked_in : TypedTree → Halves → List ℕ
asked_in t h = asked h (functions_from t 0 t.functions)

asked_same : LoweringSeesOneBody → (t u : TypedTree) (h k : Halves) → Same t u h k → asked_in t h ≡ asked_in u k
asked_same sees t u h k s = ap called_by (code_same sees t u h k s)

-- what is called is called with the same
called_same : LoweredNames → (t u : TypedTree) (h k : Halves) → Same t u h k → (n : ℕ) → is_among (asked_in t h) n ≡ true → signature_of t (function_id n) ≡ signature_of u (function_id n)
called_same names t u h k s n e = let c = called_by_slave names t h s.halves_here n e in s.parts.signatures c.caller (function_id n) c.runs c.calls

-- so is each function of the slave's
signed_same : LoweredNames → (t u : TypedTree) (h k : Halves) → Same t u h k → (n : ℕ) → is_among (asked_in t h ++ h.slave) n ≡ true → signature_of t (function_id n) ≡ signature_of u (function_id n)
signed_same names t u h k s n e = go (Contains-append_cases (asked_in t h) h.slave n (among_from (asked_in t h ++ h.slave) n e))
  where
    go : Contains (asked_in t h) n ⊎ Contains h.slave n → signature_of t (function_id n) ≡ signature_of u (function_id n)
    go (inl c) = called_same names t u h k s n (among_has (asked_in t h) n c)
    go (inr c) = own_signature t u (function_id n) (s.parts.functions (function_id n) ((s.halves_here.slave n).0 c))

signature_at : (t : TypedTree) (n j : ℕ) → n ≡ 0 + j → slice_get (signatures_of t) j ≡ signature_of t (function_id n)
signature_at t n j e = ap (slice_get (signatures_of t)) (plain n j e) ∙ slice_get-map (λ (f : FunctionTree). f.signature) t.functions n

signature_here : (t u : TypedTree) (give : ℕ → Signature → List (ℕ × Signature)) (n j : ℕ) → n ≡ 0 + j → signature_of t (function_id n) ≡ signature_of u (function_id n) → given_by give n (slice_get (signatures_of t) j) ≡ given_by give n (slice_get (signatures_of u) j)
signature_here t u give n j e same = ap (given_by give n) (signature_at t n j e ∙ same ∙ sym (signature_at u n j e))

-- what is in the first list, or in the second, of two whose second ones have the same members
among_both : (zs xs ys : List ℕ) (n : ℕ) → is_among xs n ≡ is_among ys n → is_among (zs ++ xs) n ≡ is_among (zs ++ ys) n
among_both [] xs ys n e = e
among_both (z ∷ zs) xs ys n e = ap (λ (b : Bool). nat_eq n z || b) (among_both zs xs ys n e)

signatures_same : LoweringSeesOneBody → LoweredNames → (t u : TypedTree) (h k : Halves) → Same t u h k → chosen_signatures (is_among (asked_in t h ++ h.slave)) t ≡ chosen_signatures (is_among (asked_in u k ++ k.slave)) u
signatures_same sees names t u h k s =
    let has = is_among (asked_in t h ++ h.slave) in
    signatures_given has 0 (signatures_of t)
    ∙ given_same has signature_with signature_with 0 (signatures_of t) (signatures_of u) (λ n j e i. signature_here t u signature_with n j e (signed_same names t u h k s n i))
    ∙ sym (signatures_given has 0 (signatures_of u))
    ∙ (λ i. filter (λ (x : ℕ × Signature). same x.0 i) (signatures_from 0 (signatures_of u)))
  where
    same : (n : ℕ) → is_among (asked_in t h ++ h.slave) n ≡ is_among (asked_in u k ++ k.slave) n
    same n = ap (λ (zs : List ℕ). is_among (zs ++ h.slave) n) (asked_same sees t u h k s) ∙ among_both (asked_in u k) h.slave k.slave n (sym (slave_same t u h k s n))

pub hosts_same : LoweringSeesOneBody → LoweredNames → (t u : TypedTree) (h k : Halves) → Same t u h k → slave_hosts (is_among (asked_in t h)) t ≡ slave_hosts (is_among (asked_in u k)) u
hosts_same sees names t u h k s =
    let called = is_among (asked_in t h) in
    ap (map (λ (x : ℕ × Signature). x.0))
    (hosts_given called 0 (signatures_of t)
    ∙ given_same called host_with host_with 0 (signatures_of t) (signatures_of u) (λ n j e i. signature_here t u host_with n j e (called_same names t u h k s n i))
    ∙ sym (hosts_given called 0 (signatures_of u)))
    ∙ (λ i. slave_hosts (is_among (asked_same sees t u h k s i)) u)

-- ---- globals

global_here : (t u : TypedTree) → IsSameForSlave t u → (n j : ℕ) → n ≡ 0 + j → (f : FnId) → InSlave t f → Contains (globals_in t f) (global_id n) → given_by global_with n (slice_get t.globals j) ≡ given_by global_with n (slice_get u.globals j)
global_here t u same n j e f r c =
    ap (λ (m : ℕ). given_by global_with n (slice_get t.globals m)) (plain n j e)
    ∙ ap (given_by global_with n) (same.globals f (global_id n) r c)
    ∙ sym (ap (λ (m : ℕ). given_by global_with n (slice_get u.globals m)) (plain n j e))

globals_same : (t u : TypedTree) (h k : Halves) → Same t u h k → chosen_globals (is_among h.owned) t ≡ chosen_globals (is_among k.owned) u
globals_same t u h k s =
    globals_given (is_among h.owned) 0 t.globals
    ∙ given_same (is_among h.owned) global_with global_with 0 t.globals u.globals
    (λ n j e i. let o = (s.halves_here.owned n).0 (among_from h.owned n i) in global_here t u s.parts n j e o.1.0 o.1.1 o.1.2)
    ∙ sym (globals_given (is_among h.owned) 0 u.globals)
    ∙ (λ i. filter (λ (g : GlobalTree). sym (owned_same t u h k s g.id) i) (globals_from 0 u.globals))

-- ---- the whole half

pub half_same : LoweringSeesOneBody → LoweredNames → (t u : TypedTree) (h k : Halves) → Same t u h k → slave_of t h (functions_from t 0 t.functions) ≡ slave_of u k (functions_from u 0 u.functions)
half_same sees names t u h k s =
    λ i. record {
      structs = s.parts.structs i;
      signatures = signatures_same sees names t u h k s i;
      functions = code_same sees t u h k s i;
      globals = globals_same t u h k s i;
      hosts = hosts_same sees names t u h k s i;
    }
