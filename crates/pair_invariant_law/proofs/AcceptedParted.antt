-- A part of a program: what it finds is what the whole finds.
use Rattle.std.proofs.Common.{◌≡◌, ◌∙◌, ℕ, refl, ap, sym, Bool, true, false, cond, not, Option, Some, None, List, [], ◌∷◌, map}
use Rattle.std.specs.Prelude.{IsTrue, ◌&&◌, ◌||◌, is_some, nat_eq, slice_get, unwrap_or}
use Rattle.std.specs.List.{Contains, filter}
use Rattle.std.specs.Map.{lookup}
use Rattle.pt_base.specs.declared.int_type.IntType.TheVariants as int
use Rattle.pt_base.proofs.Booleans.{cond_false, false_not_true}
use Rattle.pt_base.proofs.Numbers.{nat_eq_same}
use Rattle.pt_tree.specs.declared.signature.Signature.{Signature}
use Rattle.typed_tree.specs.declared.types.VarTy.{VarTy}
use Rattle.typed_tree.specs.declared.types.VarTy.TheVariants.{Int}
use Rattle.typed_tree.specs.StatementTree.{BodyTree}
use Rattle.typed_tree.specs.TypedTree.{TypedTree, FunctionTree}
use Rattle.pt_core.specs.CodeTree as core
use Rattle.pt_core.specs.CodeTree.{GlobalTree, ProgramTree}
use Rattle.pt_core.specs.Calls.{no_function, no_signature, signature_in}
use Rattle.pt_core.specs.WellFormed.{callee_by, callee_fits, callees, function_at, is_sound, signature_at}
use Rattle.pt_core.proofs.WellFormedLemmas.{facts_of}
use Rattle.lowering.specs.Functions.{core_of, core_program}
use Rattle.split_law.proofs.Chosen.{chosen_find}
use Rattle.split_law.proofs.LoweredCode.{code_found, function_of_signature}
use Rattle.split_law.proofs.Parts.{entry, part, same_global, same_signature}
use Rattle.part_views_law.specs.Views.{has_global}
use Rattle.part_views_law.specs.StepsParts.{HasSignature, IsPart}
use Rattle.pair_invariant_law.proofs.AcceptedMembers.{all_at, found_chosen, looked_up, some_is}

-- ---- signatures

pub signature_same : (p : ProgramTree) (signed kept owned : ℕ → Bool) (f : ℕ) → signed f ≡ true → signature_in p f ≡ signature_in (part signed kept owned p) f
signature_same p signed kept owned f h = ap (λ (o : Option Signature). unwrap_or o no_signature) (sym (same_signature p signed kept owned f h))

pub is_signed : (p : ProgramTree) (signed kept owned : ℕ → Bool) (f : ℕ) → HasSignature (part signed kept owned p) f → signed f ≡ true
is_signed p signed kept owned f has = looked_up signed f p.signatures has

-- the function of the program that has this signature
pub record IsNamed (t : TypedTree) (q : ProgramTree) (f : ℕ) : Type 0 where
  pub function : FunctionTree
  pub is : slice_get t.functions f ≡ Some function
  pub same : signature_in q f ≡ function.signature

pub named_in : (t : TypedTree) (signed kept owned : ℕ → Bool) (f : ℕ) → HasSignature (part signed kept owned (core_program t)) f → IsNamed t (part signed kept owned (core_program t)) f
named_in t signed kept owned f has =
    let s = some_is (signature_at (part signed kept owned (core_program t)) f) has in
    let g = function_of_signature t f s.0 (sym (same_signature (core_program t) signed kept owned f (is_signed (core_program t) signed kept owned f has)) ∙ s.1) in
    record { function = g.0; is = g.1; same = ap (λ (o : Option Signature). unwrap_or o no_signature) s.1 ∙ sym g.2 }

-- ---- functions

-- a function that is kept, with its code
pub function_kept : (t : TypedTree) (signed kept owned : ℕ → Bool) (f : ℕ) (x : FunctionTree) (body : BodyTree) → kept f ≡ true → slice_get t.functions f ≡ Some x → x.body ≡ Some body →
    function_at (part signed kept owned (core_program t)) f ≡ Some (core_of t f x body)
function_kept t signed kept owned f x body here is has = chosen_find (λ (g : core.FunctionTree). g.id) kept f (core_program t).functions here ∙ code_found t f x body is has

-- What a sound program's functions call is a host, or privileged where it isn't the monitor's, or one of its functions.
pub called_there : (monitor : Bool) (q : ProgramTree) (f : ℕ) → IsTrue (is_sound monitor q) → Contains (callees q) f → (signature_in q f).host ≡ false → ((signature_in q f).privileged && not monitor) ≡ false → IsTrue (is_some (function_at q f))
called_there monitor q f sound called host own = go (signature_at q f) refl (all_at (callee_fits monitor q) (callees q) f called (facts_of monitor q sound).calls)
  where
    last : (h d b : Bool) → h ≡ false → d ≡ false → ((h || d) || b) ≡ true → b ≡ true
    last false false b u v k = k
    last false true b u v k = false_not_true (sym v)
    last true d b u v k = false_not_true (sym u)

    go : (o : Option Signature) → signature_at q f ≡ o → callee_by monitor q f o ≡ true → is_some (function_at q f) ≡ true
    go None e k = false_not_true k
    go (Some s) e k =
        let same : signature_in q f ≡ s = ap (λ (o : Option Signature). unwrap_or o no_signature) e in
        last s.host (s.privileged && not monitor) (is_some (function_at q f)) (ap (λ (z : Signature). z.host) (sym same) ∙ host) (ap (λ (z : Signature). z.privileged && not monitor) (sym same) ∙ own) k

-- ---- globals

-- a global of the part is one of the owned
pub global_owned : (owned : ℕ → Bool) (n : ℕ) (gs : List GlobalTree) → is_some (lookup (nat_eq n) (map entry (filter (λ (g : GlobalTree). owned g.id) gs))) ≡ true → owned n ≡ true
global_owned owned n [] h = false_not_true h
global_owned owned n (g ∷ gs) h = go (global_owned owned n gs) (owned g.id) refl (nat_eq n g.id) refl h
  where
    go : (is_some (lookup (nat_eq n) (map entry (filter (λ (x : GlobalTree). owned x.id) gs))) ≡ true → owned n ≡ true) → (kept : Bool) → owned g.id ≡ kept → (same : Bool) → nat_eq n g.id ≡ same →
        is_some (lookup (nat_eq n) (map entry (cond kept (g ∷ filter (λ (x : GlobalTree). owned x.id) gs) (filter (λ (x : GlobalTree). owned x.id) gs)))) ≡ true → owned n ≡ true
    go rest false f same e k = rest k
    go rest true f true e k = ap owned (nat_eq_same n g.id e) ∙ f
    go rest true f false e k = rest (ap is_some (sym (cond_false (nat_eq n g.id) (Some g.var.ty) (lookup (nat_eq n) (map entry (filter (λ (x : GlobalTree). owned x.id) gs))) e)) ∙ k)

pub has_owned : (p : ProgramTree) (signed kept owned : ℕ → Bool) (g : ℕ) → has_global (part signed kept owned p) g ≡ true → owned g ≡ true
has_owned p signed kept owned g there = global_owned owned g p.globals there

-- two parts of which one owns what the other doesn't share no global
pub share_none : (p : ProgramTree) (signed kept signed' kept' owned : ℕ → Bool) (g : ℕ) → has_global (part signed' kept' (λ n. not (owned n)) p) g ≡ true → has_global (part signed kept owned p) g ≡ false
share_none p signed kept signed' kept' owned g there = go (has_global (part signed kept owned p) g) refl
  where
    both : (b : Bool) → not b ≡ true → b ≡ true → ⊥
    both true h k = false_not_true h
    both false h k = false_not_true k

    go : (b : Bool) → has_global (part signed kept owned p) g ≡ b → has_global (part signed kept owned p) g ≡ false
    go false e = e
    go true e = absurd (both (owned g) (has_owned p signed' kept' (λ n. not (owned n)) g there) (has_owned p signed kept owned g e))

-- ---- the part

-- a part that has the signatures of its functions is one
pub is_part : (p : ProgramTree) (signed kept owned : ℕ → Bool) → ((n : ℕ) → kept n ≡ true → signed n ≡ true) → IsPart (part signed kept owned p) p
is_part p signed kept owned own = record {
  structs = refl;
  functions = λ f there. ap (λ (o : Option core.FunctionTree). unwrap_or o no_function) (sym (chosen_find (λ (g : core.FunctionTree). g.id) kept f p.functions (found_chosen (λ (g : core.FunctionTree). g.id) kept f p.functions there)));
  signatures = λ f there. let same = signature_same p signed kept owned f (own f (found_chosen (λ (g : core.FunctionTree). g.id) kept f p.functions there)) in record { result = ap (λ (s : Signature). s.result) same; privileged = ap (λ (s : Signature). s.privileged) same; host = ap (λ (s : Signature). s.host) same };
  globals = λ g there. ap (λ (o : Option VarTy). unwrap_or o (Int int.Int)) (sym (same_global p owned g (λ _. has_owned p signed kept owned g there)));
}
