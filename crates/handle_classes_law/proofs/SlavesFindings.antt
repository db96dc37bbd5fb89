-- What it says that the rules find no secret in an expression or in what it changes.
use Rattle.std.proofs.Common.{◌≡◌, ◌∙◌, ◌<◌, ℕ, zero, suc, ◌+◌, refl, ap, sym, subst, arith, Bool, true, false, Option, None, Some, List, [], ◌∷◌, ◌++◌, map}
use Rattle.std.specs.Prelude.{cond, nat_eq, slice_get, ◌||◌}
use Rattle.std.proofs.lemmas.Bool.Decides.{nat_tests}
use Rattle.std.specs.List.{filter, flat_map, list_all, list_any, range_with_len}
use Rattle.std.specs.Option.{option_map}
use Rattle.flow_rules.specs.Findings.{changed_operand, changed_operands, found}
use Rattle.flow_rules.specs.Secrets.{Flows, secret_slots, secrets_of, value_leaves}
use Rattle.flow_rules.specs.declared.rule.Rule.TheVariants.{OperationOnPriv}
use Rattle.pt_base.specs.declared.ids.FnId.{FnId}
use Rattle.pt_base.specs.declared.span.Span.{Span}
use Rattle.pt_base.proofs.Booleans.{both_hold, both_hold_first, both_hold_second, false_not_true}
use Rattle.pt_base.proofs.Lists.{append_nil_first, append_nil_second, filter_append}
use Rattle.pt_base.proofs.Numbers.{nat_eq_same}
use Rattle.sides.specs.Carried.{Scope, carried, place_slots, scope_of}
use Rattle.sides.specs.Leaves.{leaves_of}
use Rattle.source_meaning.specs.Expressions.{type_of, type_or_int}
use Rattle.typed_tree.specs.ExpressionTree.{FormTree, typed}
use Rattle.typed_tree.specs.ExpressionTree as src
use Rattle.typed_tree.specs.TypeTests.{is_scalar}
use Rattle.typed_tree.specs.WellFormed.{function_sound, structs_sound}
use Rattle.typed_tree.specs.WellFormedExpression.{ty_of}
use Rattle.typed_tree.specs.declared.types.VarTy.{VarTy}
use Rattle.typed_tree.specs.declared.types.VarTy.TheVariants.{Array, Int, Pointer, Struct}
use Rattle.handle_classes_law.proofs.SlavesBench.{Bench, PlainIf, seen}
use Rattle.handle_classes_law.proofs.SlavesEdges.{either}
use Rattle.handle_classes_law.proofs.SlavesQuiet.{ChangedPlain, ChangesPlain}
use Rattle.handle_classes_law.specs.SlavesMarked.{slave_world}

-- ---- lists

pub all_first : (f : ℕ → Bool) (xs ys : List ℕ) → list_all f (xs ++ ys) ≡ true → list_all f xs ≡ true
all_first f [] ys h = refl
all_first f (x ∷ xs) ys h = both_hold (f x) (list_all f xs) (both_hold_first (f x) (list_all f (xs ++ ys)) h) (all_first f xs ys (both_hold_second (f x) (list_all f (xs ++ ys)) h))

pub all_rest : (f : ℕ → Bool) (xs ys : List ℕ) → list_all f (xs ++ ys) ≡ true → list_all f ys ≡ true
all_rest f [] ys h = h
all_rest f (x ∷ xs) ys h = all_rest f xs ys (both_hold_second (f x) (list_all f (xs ++ ys)) h)

pub not_found : (rule : _) (span : _) (ss : List ℕ) → found rule span ss ≡ [] → ss ≡ []
not_found rule span [] h = refl
not_found rule span (s ∷ ss) h = cc

-- an element of a list of numbers
abbrev pub has : List ℕ → ℕ → Bool
has xs j = list_any (nat_eq j) xs

pub in_range : (start n j : ℕ) → j < n → has (range_with_len start n) (start + j) ≡ true
in_range start zero j less = absurd (omega (arith, less))
in_range start (suc n) zero less = ap (λ z. z || has (range_with_len (start + 1) n) (start + 0)) (same start)
  where
    same : (k : ℕ) → nat_eq (k + 0) k ≡ true
    same k = grind (arith, nat_tests)
in_range start (suc n) (suc j) less = or_right (nat_eq (start + suc j) start) (has (range_with_len (start + 1) n) (start + suc j)) (subst (λ z. has (range_with_len (start + 1) n) z ≡ true) (next start j) (in_range (start + 1) n j (omega (arith, less))))
  where
    next : (k j : ℕ) → k + 1 + j ≡ k + suc j
    next k j = omega arith

    or_right : (a c : Bool) → c ≡ true → (a || c) ≡ true
    or_right true c h = refl
    or_right false c h = h

-- what passes the test stays
pub in_filter : (test : ℕ → Bool) (xs : List ℕ) (j : ℕ) → test j ≡ true → has xs j ≡ true → has (filter test xs) j ≡ true
in_filter test [] j is h = false_not_true h
in_filter test (x ∷ xs) j is h = go (test x) refl (λ k. in_filter test xs j is k)
  where
    go : (c : Bool) → test x ≡ c → (has xs j ≡ true → has (filter test xs) j ≡ true) → has (cond c (x ∷ filter test xs) (filter test xs)) j ≡ true
    go true e more = either (nat_eq j x) (has xs j) h (λ k. ap (λ z. z || has (filter test xs) j) k) (λ k. second (nat_eq j x) (has (filter test xs) j) (more k))
      where
        second : (a c : Bool) → c ≡ true → (a || c) ≡ true
        second true c k = refl
        second false c k = k
    go false e more = either (nat_eq j x) (has xs j) h (λ k. false_not_true (sym (ap test (nat_eq_same j x k) ∙ e) ∙ is)) more

pub in_map : (a : ℕ) (xs : List ℕ) (m : ℕ → Bool) (j : ℕ) → has xs j ≡ true → list_all m (map (λ x. a + x) xs) ≡ true → m (a + j) ≡ true
in_map a [] m j h all = false_not_true h
in_map a (x ∷ xs) m j h all = either (nat_eq j x) (has xs j) h (λ k. ap (λ z. m (a + z)) (nat_eq_same j x k) ∙ both_hold_first (m (a + x)) (list_all m (map (λ y. a + y) xs)) all) (λ k. in_map a xs m j k (both_hold_second (m (a + x)) (list_all m (map (λ y. a + y) xs)) all))

-- ---- no secret was found

-- the bench is that of this function of the program that the rules look at
pub record Looks (p : Flows) (f : FnId) (b : Bench) : Type 0 where
  pub marks : p.is_priv ≡ b.marks
  pub scope : scope_of p.tree f.0 ≡ seen b
  pub function : b.function ≡ f.0
  pub world : b.world ≡ slave_world b.marks p.tree
  pub calls : (g : ℕ) → b.w.called g ≡ option_map (λ x. x.signature) (slice_get p.tree.functions g)
  pub structs : structs_sound p.tree.structs 0 p.tree.structs ≡ true
  pub functions : list_all (function_sound p.tree) p.tree.functions ≡ true

-- among these leaves of what begins at a slot none is marked
pub none_here : (m : ℕ → Bool) (a : ℕ) (leaves : List ℕ) (j : ℕ) → filter m (map (λ x. a + x) leaves) ≡ [] → has leaves j ≡ true → m (a + j) ≡ false
none_here m a [] j h is = false_not_true is
none_here m a (x ∷ xs) j h is = go (m (a + x)) refl h (λ k q. none_here m a xs j k q)
  where
    go : (c : Bool) → m (a + x) ≡ c → cond c ((a + x) ∷ filter m (map (λ y. a + y) xs)) (filter m (map (λ y. a + y) xs)) ≡ [] → (filter m (map (λ y. a + y) xs) ≡ [] → has xs j ≡ true → m (a + j) ≡ false) → m (a + j) ≡ false
    go true e k more = cc
    go false e k more = either (nat_eq j x) (has xs j) is (λ q. ap (λ z. m (a + z)) (nat_eq_same j x q) ∙ e) (λ q. more k q)

-- nor among those of what begins at any of these
pub none_marked : (m : ℕ → Bool) (starts leaves : List ℕ) (j : ℕ) → filter m (flat_map (λ s. map (λ x. s + x) leaves) starts) ≡ [] → has leaves j ≡ true → list_any (λ s. m (s + j)) starts ≡ false
none_marked m [] leaves j h is = refl
none_marked m (a ∷ xs) leaves j h is =
    let both = sym (filter_append m (map (λ x. a + x) leaves) (flat_map (λ s. map (λ x. s + x) leaves) xs)) ∙ h in
    let one = none_here m a leaves j (append_nil_first (filter m (map (λ x. a + x) leaves)) (filter m (flat_map (λ s. map (λ x. s + x) leaves) xs)) both) is in
    let rest = none_marked m xs leaves j (append_nil_second (filter m (map (λ x. a + x) leaves)) (filter m (flat_map (λ s. map (λ x. s + x) leaves) xs)) both) is in
    ap (λ z. z || list_any (λ s. m (s + j)) xs) one ∙ rest

pub integer_quiet : (b : Bench) (o : Option VarTy) (xs : List ℕ) → is_scalar o ≡ true → filter b.marks (flat_map (λ s. map (λ j. s + j) (value_leaves b.w.names.structs o)) xs) ≡ [] → PlainIf b (type_or_int o) xs
unfolding leaves_of
integer_quiet b (Some (Int t)) xs scalar h p = none_marked b.marks xs (0 ∷ []) 0 h refl
integer_quiet b (Some (Pointer elem c)) xs scalar h p = false_not_true (sym p)
integer_quiet b None xs scalar h p = false_not_true scalar
integer_quiet b (Some (Struct n)) xs scalar h p = false_not_true scalar
integer_quiet b (Some (Array elem n)) xs scalar h p = false_not_true scalar

-- what carries slots here has none that is marked
pub plain_slots : (p : Flows) (f : FnId) (b : Bench) (o : Option VarTy) (slots : Scope → List ℕ) → Looks p f b → is_scalar o ≡ true → secret_slots p (slots (scope_of p.tree f.0)) (value_leaves p.tree.structs o) ≡ [] → PlainIf b (type_or_int o) (slots (seen b))
plain_slots p f b o slots looks scalar h =
    integer_quiet b o (slots (seen b)) scalar
    (subst (λ z. filter z (flat_map (λ s. map (λ j. s + j) (value_leaves b.w.names.structs o)) (slots (seen b))) ≡ []) looks.marks
    (subst (λ z. filter p.is_priv (flat_map (λ s. map (λ j. s + j) (value_leaves z.structs o)) (slots z)) ≡ []) looks.scope h))

pub operated_quiet : (p : Flows) (f : FnId) (b : Bench) (a : src.ExprTree) → Looks p f b → is_scalar (ty_of a) ≡ true → secrets_of p f a ≡ [] → PlainIf b (type_of a) (carried (seen b) a)
operated_quiet p f b (typed s o form) looks scalar h = plain_slots p f b o (λ z. carried z (typed s o form)) looks scalar h

pub changed_quiet : (p : Flows) (f : FnId) (b : Bench) (s : Span) (o : Option VarTy) (form : FormTree) → Looks p f b → changed_operand p f o form ≡ [] → ChangedPlain b o form
changed_quiet p f b s o (src.compound pl at op a) looks h = λ scalar. plain_slots p f b o (λ z. place_slots z pl) looks scalar (not_found OperationOnPriv at (secret_slots p (place_slots (scope_of p.tree f.0) pl) (value_leaves p.tree.structs o)) h)
changed_quiet p f b s o (src.step pl at back postfix) looks h = λ scalar. plain_slots p f b o (λ z. place_slots z pl) looks scalar (not_found OperationOnPriv at (secret_slots p (place_slots (scope_of p.tree f.0) pl) (value_leaves p.tree.structs o)) h)
changed_quiet p f b s o (src.constant v) looks h = tt
changed_quiet p f b s o src.null looks h = tt
changed_quiet p f b s o (src.read pl) looks h = tt
changed_quiet p f b s o (src.decay pl) looks h = tt
changed_quiet p f b s o (src.address pl) looks h = tt
changed_quiet p f b s o (src.unary op a) looks h = tt
changed_quiet p f b s o (src.convert a) looks h = tt
changed_quiet p f b s o (src.discard a) looks h = tt
changed_quiet p f b s o (src.chain a ls) looks h = tt
changed_quiet p f b s o (src.logical op a os) looks h = tt
changed_quiet p f b s o (src.choice a c d) looks h = tt
changed_quiet p f b s o (src.assign pl a) looks h = tt
changed_quiet p f b s o (src.call g arguments) looks h = tt

pub changes_quiet : (p : Flows) (f : FnId) (b : Bench) (a : src.ExprTree) → Looks p f b → changed_operands p f a ≡ [] → ChangesPlain b a
changes_quiet p f b (typed s o form) looks h = changed_quiet p f b s o form looks h
