-- An audit names each function of the program that gives its result openly: the monitor has all of them, as the program has them.
use Rattle.std.proofs.Common.{◌≡◌, ◌∙◌, ℕ, suc, refl, ap, sym, subst, Bool, true, false, cond, Option, Some, None, List, [], ◌∷◌, ◌++◌, map}
use Rattle.std.specs.Prelude.{IsTrue, ◌&&◌, if◌then◌else◌, is_some, option_map, slice_get, unwrap_or}
use Rattle.std.specs.Option.{option_map_or}
use Rattle.std.specs.List.{filter}
use Rattle.pt_base.proofs.Booleans.{both_hold, false_not_true}
use Rattle.pt_base.proofs.Numbers.{as_zero_plus}
use Rattle.pt_base.proofs.Places.{get_map}
use Rattle.pt_tree.specs.declared.signature.Signature.{Signature}
use Rattle.typed_tree.specs.StatementTree.{BodyTree}
use Rattle.typed_tree.specs.TypedTree.{FunctionTree, TypedTree, signatures_of}
use Rattle.reach.specs.Contexts.{is_privileged, privileged}
use Rattle.pt_core.specs.CodeTree as core
use Rattle.pt_core.specs.CodeTree.{MonitorTree}
use Rattle.pt_core.specs.Calls.{no_signature, signature_in}
use Rattle.pt_core.specs.WellFormed.{monitor_program}
use Rattle.lowering.specs.Functions.{code_if, core_of, functions_from, signatures_from}
use Rattle.lowered_code_law.proofs.FormsLists.{found_signature}
use Rattle.splitter.specs.Halves.{Halves, halves_of, is_among, monitor_of}
use Rattle.splitter.proofs.SetLemmas.{among_has}
use Rattle.split_law.specs.Laws.{AreHalves, SharesNothing}
use Rattle.split_law.proofs.Accepted.{accepted_shares_nothing}
use Rattle.split_law.proofs.Chosen.{chosen_lookup}
use Rattle.split_law.proofs.Monitors.{keeps, signed}
use Rattle.function_runs.proofs.DefinedLemmas.{StandFrom, all_stand, stand_first, stand_rest}
use Rattle.monitor_labels.specs.Secrecy.{is_audited}
use Rattle.auditing.specs.Laws.{AuditsNameAll, open_from}

-- ---- choices

chosen : (n : ℕ) (xs ys : List ℕ) (a b : Bool) → a ≡ b → xs ≡ ys → cond a (n ∷ xs) xs ≡ (if b then n ∷ ys else ys)
chosen n xs ys true true e same = ap (λ zs. n ∷ zs) same
chosen n xs ys false false e same = same
chosen n xs ys true false e same = false_not_true (sym e)
chosen n xs ys false true e same = false_not_true e

left_out : (n : ℕ) (xs ys : List ℕ) (b : Bool) → b ≡ false → xs ≡ ys → xs ≡ (if b then n ∷ ys else ys)
left_out n xs ys true e same = false_not_true (sym e)
left_out n xs ys false e same = same

-- ---- the monitor's functions

abbrev monitor_with : TypedTree → Halves → MonitorTree
monitor_with t h = monitor_of t h (functions_from t 0 t.functions)

-- a function of the monitor gives its result openly
abbrev is_open : TypedTree → Halves → ℕ → Bool
is_open t h n = is_audited (signature_in (monitor_program (monitor_with t h)) n)

-- the monitor calls it with the signature that it has
signature_kept : (t : TypedTree) (h : Halves) → AreHalves t h → SharesNothing t → (n : ℕ) (f : FunctionTree) → slice_get t.functions n ≡ Some f → is_among h.monitor n ≡ true → signature_in (monitor_program (monitor_with t h)) n ≡ f.signature
signature_kept t h are apart n f at kept =
    let here : signed t h n ≡ true = (keeps t h are apart).own n kept in
    ap (λ (o : Option Signature). unwrap_or o no_signature)
    (chosen_lookup (signed t h) n (signatures_from 0 (signatures_of t)) (λ there. here)
    ∙ found_signature n 0 n (signatures_of t) (as_zero_plus n)
    ∙ get_map (λ (g : FunctionTree). g.signature) t.functions n
    ∙ ap (option_map (λ (g : FunctionTree). g.signature)) at)

-- the monitor has each privileged function
privileged_kept : (t : TypedTree) (h : Halves) → AreHalves t h → (n : ℕ) (f : FunctionTree) (b : BodyTree) → slice_get t.functions n ≡ Some f → f.body ≡ Some b → f.signature.privileged ≡ true → is_among h.monitor n ≡ true
privileged_kept t h are n f b at body marked =
    let has : IsTrue (is_privileged f) = both_hold (is_some f.body) f.signature.privileged (ap is_some body) marked in
    among_has h.monitor n ((are.monitor n).1 (privileged (record { 0 = n }) (subst (λ (o : Option FunctionTree). IsTrue (option_map_or is_privileged o false)) (sym at) has)))

-- what it hasn't gives nothing openly
closed : (t : TypedTree) (h : Halves) → AreHalves t h → (n : ℕ) (f : FunctionTree) (b : BodyTree) → slice_get t.functions n ≡ Some f → f.body ≡ Some b → is_among h.monitor n ≡ false → is_audited f.signature ≡ false
closed t h are n f b at body out = go f.signature.privileged refl
  where
    go : (marked : Bool) → f.signature.privileged ≡ marked → is_audited f.signature ≡ false
    go false e = ap (λ (z : Bool). z && (f.signature.declassify && is_some f.signature.result)) e
    go true e = false_not_true (sym out ∙ privileged_kept t h are n f b at body e)

-- ---- one function and then the others

-- those of the monitor among these that give their results openly
abbrev opened : TypedTree → Halves → List core.FunctionTree → List ℕ
opened t h code = filter (is_open t h) (map (λ (g : core.FunctionTree). g.id) (filter (λ (g : core.FunctionTree). is_among h.monitor g.id) code))

one_more : (t : TypedTree) (h : Halves) → AreHalves t h → SharesNothing t → (n : ℕ) (f : FunctionTree) (others : List core.FunctionTree) (rest : List ℕ) → slice_get t.functions n ≡ Some f → opened t h others ≡ rest →
    (o : Option BodyTree) → f.body ≡ o → opened t h (code_if t n f o ++ others) ≡ (if is_some o && is_audited f.signature then n ∷ rest else rest)
one_more t h are apart n f others rest at so None is = so
one_more t h are apart n f others rest at so (Some b) is = go (is_among h.monitor n) refl
  where
    go : (kept : Bool) → is_among h.monitor n ≡ kept →
        filter (is_open t h) (map (λ (g : core.FunctionTree). g.id) (cond kept (core_of t n f b ∷ filter (λ (g : core.FunctionTree). is_among h.monitor g.id) others) (filter (λ (g : core.FunctionTree). is_among h.monitor g.id) others)))
        ≡ (if is_audited f.signature then n ∷ rest else rest)
    go true e = chosen n (opened t h others) rest (is_open t h n) (is_audited f.signature) (ap is_audited (signature_kept t h are apart n f at e)) so
    go false e = left_out n (opened t h others) rest (is_audited f.signature) (closed t h are n f b at is e) so

named : (t : TypedTree) (h : Halves) → AreHalves t h → SharesNothing t → (n : ℕ) (fs : List FunctionTree) → StandFrom t n fs → opened t h (functions_from t n fs) ≡ open_from n fs
named t h are apart n [] stand = refl
named t h are apart n (f ∷ fs) stand =
    one_more t h are apart n f (functions_from t (suc n) fs) (open_from (suc n) fs) (stand_first t n f fs stand) (named t h are apart (suc n) fs (stand_rest t n f fs stand)) f.body refl

pub all_named : AuditsNameAll
all_named t a is = let apart = accepted_shares_nothing t a is in named t (halves_of a.sides) apart.0 apart.1 0 t.functions (all_stand t)
