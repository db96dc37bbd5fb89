-- Objects, globals and parameters, one after the other.
use Rattle.std.proofs.Common.{◌≡◌, ◌∙◌, ◌<◌, ◌+◌, ℕ, zero, suc, refl, ap, sym, arith, add-one, Option, Some, None, Bool, false, drop-cons, List, [], ◌∷◌, ◌++◌, append-nil, length, get_or, drop, map}
use Rattle.std.specs.Prelude.{◌&&◌, ◌||◌, not, option_map, slice_get}
use Rattle.std.specs.Option.{option_map_or}
use Rattle.pt_base.specs.declared.span.Span.{Span}
use Rattle.pt_tree.specs.declared.signature.Param.{Param}
use Rattle.sides.specs.declared.objects.Object.{Object}
use Rattle.sides.specs.Seeds.{is_out}
use Rattle.typed_tree.specs.declared.variable.TypedGlobal.{TypedGlobal}
use Rattle.typed_tree.specs.declared.variable.Var.{Var}
use Rattle.typed_tree.specs.TypedTree.{FunctionTree}
use Rattle.flow_rules.specs.declared.found.Found.{Found}
use Rattle.flow_rules.specs.declared.rule.Rule.TheVariants.{SharedGlobal, UnmarkedOut}
use Rattle.flow_rules.specs.Findings.{Finding, found_if, objects_findings, priv_into_unpriv, unmarked_outs}
use Rattle.flow_rules.specs.Kept.{kept, shared_in}
use Rattle.flow_rules.specs.Secrets.{Flows}
use Rattle.flow_rules.proofs.FindingLemmas.{next_kept}

-- nothing more is added where there is no more
pub nothing_more : (list whole : List Found) (xs : List Finding) → xs ≡ [] → list ++ map kept xs ≡ whole → list ≡ whole
nothing_more list whole xs none e = sym (append-nil list) ∙ ap (λ ys. list ++ map kept ys) (sym none) ∙ e

past : {X : Type 0} (xs : List X) (k : ℕ) → None ≡ slice_get xs k → drop k xs ≡ []
past [] zero h = refl
past [] (suc k) h = refl
past (x ∷ xs) zero h = cc
past (x ∷ xs) (suc k) h = past xs k h

-- ---- variables

no_objects : (p : Flows) (xs : List Var) → objects_findings p xs [] ≡ []
no_objects p [] = refl
no_objects p (x ∷ xs) = refl

-- nor where there is no such function
pub no_variables : (p : Flows) (o : Option FunctionTree) (os : List Object) → o ≡ None → objects_findings p (option_map_or (λ x. x.vars) o []) os ≡ []
no_variables p None os h = none os
  where
    none : (os : List Object) → objects_findings p [] os ≡ []
    none [] = refl
    none (o ∷ os) = refl
no_variables p (Some f) os h = cc

pub objects_end : (p : Flows) (xs : List Var) (os : List Object) (k : ℕ) → None ≡ slice_get os k → objects_findings p xs (drop k os) ≡ []
objects_end p xs os k h = ap (objects_findings p xs) (past os k h) ∙ no_objects p xs

object_on : (p : Flows) (xs : List Var) (os : List Object) (k : ℕ) (x : Var) (o : Object) → k < length xs → x ≡ get_or xs k x → Some o ≡ slice_get os k →
    objects_findings p (drop k xs) (drop k os) ≡ priv_into_unpriv p x o ++ objects_findings p (drop (suc k) xs) (drop (suc k) os)
object_on p [] os k x o lt is at = absurd (omega (arith, lt))
object_on p (y ∷ ys) [] k x o lt is at = cc
object_on p (y ∷ ys) (u ∷ us) zero x o lt is at =
    let first : y ≡ x = sym is in
    let same : u ≡ o = cc in
    (λ i. priv_into_unpriv p (first i) (same i) ++ objects_findings p ys us)
object_on p (y ∷ ys) (u ∷ us) (suc k) x o lt is at = object_on p ys us k x o (omega (arith, lt)) is at

pub next_object : (p : Flows) (xs : List Var) (os : List Object) (k : ℕ) (x : Var) (o : Object) (list new whole : List Found) → k < length xs → x ≡ get_or xs k x → Some o ≡ slice_get os k →
    new ≡ list ++ map kept (priv_into_unpriv p x o) → list ++ map kept (objects_findings p (drop k xs) (drop k os)) ≡ whole →
    new ++ map kept (objects_findings p (drop (k + 1) xs) (drop (k + 1) os)) ≡ whole
next_object p xs os k x o list new whole lt is at added e =
    rw add-one (next_kept list new whole (priv_into_unpriv p x o) (objects_findings p (drop (suc k) xs) (drop (suc k) os)) added
    (ap (λ fs. list ++ map kept fs) (sym (object_on p xs os k x o lt is at)) ∙ e))

-- ---- globals

pub globals_end : (p : Flows) (xs : List TypedGlobal) (os : List Object) (k : ℕ) → None ≡ slice_get os k → objects_findings p (map (λ x. x.var) xs) (drop k os) ≡ []
globals_end p xs os k h = objects_end p (map (λ x. x.var) xs) os k h

global_on : (p : Flows) (xs : List TypedGlobal) (os : List Object) (k : ℕ) (x : TypedGlobal) (o : Object) → k < length xs → x ≡ get_or xs k x → Some o ≡ slice_get os k →
    objects_findings p (map (λ y. y.var) (drop k xs)) (drop k os) ≡ priv_into_unpriv p x.var o ++ objects_findings p (map (λ y. y.var) (drop (suc k) xs)) (drop (suc k) os)
global_on p [] os k x o lt is at = absurd (omega (arith, lt))
global_on p (y ∷ ys) [] k x o lt is at = cc
global_on p (y ∷ ys) (u ∷ us) zero x o lt is at =
    let first : y ≡ x = sym is in
    let same : u ≡ o = cc in
    (λ i. priv_into_unpriv p (first i).var (same i) ++ objects_findings p (map (λ z. z.var) ys) us)
global_on p (y ∷ ys) (u ∷ us) (suc k) x o lt is at = global_on p ys us k x o (omega (arith, lt)) is at

pub next_global : (p : Flows) (xs : List TypedGlobal) (os : List Object) (k : ℕ) (x : TypedGlobal) (o : Object) (list new whole : List Found) → k < length xs → x ≡ get_or xs k x → Some o ≡ slice_get os k →
    new ≡ list ++ map kept (priv_into_unpriv p x.var o) → list ++ map kept (objects_findings p (map (λ y. y.var) (drop k xs)) (drop k os)) ≡ whole →
    new ++ map kept (objects_findings p (map (λ y. y.var) (drop (k + 1) xs)) (drop (k + 1) os)) ≡ whole
next_global p xs os k x o list new whole lt is at added e =
    rw add-one (next_kept list new whole (priv_into_unpriv p x.var o) (objects_findings p (map (λ y. y.var) (drop (suc k) xs)) (drop (suc k) os)) added
    (ap (λ fs. list ++ map kept fs) (sym (global_on p xs os k x o lt is at)) ∙ e))

-- ---- shared globals

pub next_shared : (slave monitor : List Bool) (xs : List TypedGlobal) (k : ℕ) (x : TypedGlobal) (b : Bool) (list new whole : List Found) → k < length xs → x ≡ get_or xs k x →
    b ≡ (get_or slave k false && get_or monitor k false) → new ≡ list ++ map kept (found_if b SharedGlobal x.var.span) →
    list ++ map kept (shared_in slave monitor k (drop k xs)) ≡ whole → new ++ map kept (shared_in slave monitor (k + 1) (drop (k + 1) xs)) ≡ whole
next_shared slave monitor xs k x b list new whole lt is wrong added e =
    let split : drop k xs ≡ x ∷ drop (suc k) xs = drop-cons xs k x lt ∙ ap (λ y. y ∷ drop (suc k) xs) (sym is) in
    let own : new ≡ list ++ map kept (found_if (get_or slave k false && get_or monitor k false) SharedGlobal x.var.span) =
    added ∙ ap (λ w. list ++ map kept (found_if w SharedGlobal x.var.span)) wrong in
    rw add-one (next_kept list new whole (found_if (get_or slave k false && get_or monitor k false) SharedGlobal x.var.span) (shared_in slave monitor (suc k) (drop (suc k) xs)) own
    (ap (λ ys. list ++ map kept (shared_in slave monitor k ys)) (sym split) ∙ e))

-- ---- parameters through which something comes back

no_spans : (xs : List Var) (k : ℕ) → None ≡ option_map (λ x. x.span) (slice_get xs k) → drop k xs ≡ []
no_spans [] zero h = refl
no_spans [] (suc k) h = refl
no_spans (x ∷ xs) zero h = cc
no_spans (x ∷ xs) (suc k) h = no_spans xs k h

no_vars : (qs : List Param) → unmarked_outs qs [] ≡ []
no_vars [] = refl
no_vars (q ∷ qs) = refl

pub outs_end : (qs : List Param) (xs : List Var) (k : ℕ) → None ≡ option_map (λ x. x.span) (slice_get xs k) → unmarked_outs qs (drop k xs) ≡ []
outs_end qs xs k h = ap (unmarked_outs qs) (no_spans xs k h) ∙ no_vars qs

-- it doesn't say how something comes back through it
abbrev pub is_open : Param → Bool
is_open q = is_out q.kind && not (q.marked || q.declassify)

out_on : (qs : List Param) (xs : List Var) (k : ℕ) (d : Param) (s : Span) → k < length qs → Some s ≡ option_map (λ x. x.span) (slice_get xs k) →
    unmarked_outs (drop k qs) (drop k xs) ≡ found_if (is_open (get_or qs k d)) UnmarkedOut s ++ unmarked_outs (drop (suc k) qs) (drop (suc k) xs)
out_on [] xs k d s lt at = absurd (omega (arith, lt))
out_on (q ∷ qs) [] k d s lt at = cc
out_on (q ∷ qs) (x ∷ xs) zero d s lt at =
    let same : x.span ≡ s = cc in
    ap (λ z. found_if (is_open q) UnmarkedOut z ++ unmarked_outs qs xs) same
out_on (q ∷ qs) (x ∷ xs) (suc k) d s lt at = out_on qs xs k d s (omega (arith, lt)) at

pub next_out : (qs : List Param) (xs : List Var) (k : ℕ) (d : Param) (s : Span) (b : Bool) (list new whole : List Found) → k < length qs →
    b ≡ is_open (get_or qs k d) → Some s ≡ option_map (λ x. x.span) (slice_get xs k) → new ≡ list ++ map kept (found_if b UnmarkedOut s) →
    list ++ map kept (unmarked_outs (drop k qs) (drop k xs)) ≡ whole → new ++ map kept (unmarked_outs (drop (k + 1) qs) (drop (k + 1) xs)) ≡ whole
next_out qs xs k d s b list new whole lt wrong at added e =
    let own : new ≡ list ++ map kept (found_if (is_open (get_or qs k d)) UnmarkedOut s) = added ∙ ap (λ w. list ++ map kept (found_if w UnmarkedOut s)) wrong in
    rw add-one (next_kept list new whole (found_if (is_open (get_or qs k d)) UnmarkedOut s) (unmarked_outs (drop (suc k) qs) (drop (suc k) xs)) own
    (ap (λ fs. list ++ map kept fs) (sym (out_on qs xs k d s lt at)) ∙ e))
