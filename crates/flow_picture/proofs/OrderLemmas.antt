-- The orders that code derives are those of the definitions, and what ties by them is the same.
use Rattle.std.proofs.Common.{◌≡◌, ◌∙◌, ◌<◌, ◌+◌, refl, ap, sym, subst, arith, true, false, List, get_or, nat_cmp, Ordering, Less, Equal, Greater}
use Rattle.std.specs.Cmp.{IsTotalOrder}
use Rattle.std.specs.List.Sorted.{IsSorted, IsStrictlySortedBy}
use Rattle.std.specs.Ordering.{is_lt, ordering_reverse, ordering_then}
use Rattle.std.proofs.lemmas.Cmp.{nat_cmp_total, on_total, then_total}
use Rattle.std.proofs.lemmas.Map.Keys.{Less-from_sorted}
use Rattle.pt_base.specs.contracts.span.SpanOrd.TheImpl as span_ord
use Rattle.pt_base.specs.declared.span.Span.{Span}
use Rattle.pt_base.proofs.Orders.{cmp_equal, is_eq_equal}
use Rattle.flow_rules.specs.Faults.{span_cmp}
use Rattle.flow_picture.specs.contracts.arrow.ArrowOrd.TheImpl as arrow_ord
use Rattle.flow_picture.specs.contracts.arrow.ArrowOrd.TheImpl.Laws as arrow_laws
use Rattle.flow_picture.specs.contracts.arrow.ArrowPartialEq.TheImpl as arrow_eq
use Rattle.flow_picture.specs.contracts.node.NodeOrd.TheImpl as node_ord
use Rattle.flow_picture.specs.contracts.node.NodeOrd.TheImpl.Laws as node_laws
use Rattle.flow_picture.specs.contracts.node.NodePartialEq.TheImpl as node_eq
use Rattle.flow_picture.specs.declared.arrow.Arrow.{Arrow}
use Rattle.flow_picture.specs.declared.node.Node.{Node}
use Rattle.flow_picture.specs.declared.node.Node.TheVariants.{Global, Variable, Result}
use Rattle.flow_picture.specs.Arrows.{arrow_cmp}
use Rattle.flow_picture.specs.Nodes.{node_cmp}

-- ---- answers of comparisons

then_equal : (o : Ordering) → ordering_then o Equal ≡ o
then_equal Less = refl
then_equal Equal = refl
then_equal Greater = refl

both_equal : (o p : Ordering) → ordering_then o p ≡ Equal → (o ≡ Equal) × (p ≡ Equal)
both_equal Less p e = cc
both_equal Equal p e = (refl, e)
both_equal Greater p e = cc

-- ---- spans

pub span_cmps : span_ord.ghosts.cmp ≡ span_cmp
span_cmps = refl

pub span_total : IsTotalOrder span_cmp
span_total = then_total (on_total (λ (s : Span). s.from) nat_cmp_total) (on_total (λ (s : Span). s.to) nat_cmp_total)

pub span_tied : (a b : Span) → span_cmp a b ≡ Equal → a ≡ b
span_tied a b e =
    let two = both_equal (nat_cmp a.from b.from) (nat_cmp a.to b.to) e in
    let from = cmp_equal a.from b.from two.0 in
    let to = cmp_equal a.to b.to two.1 in
    λ i. record { from = from i; to = to i }

-- ---- nodes

node_order : (a b : Node) → node_ord.ghosts.cmp a b ≡ node_cmp a b
node_order (Global g) (Global h) = sym (then_equal (nat_cmp g h))
node_order (Global g) (Variable f v) = refl
node_order (Global g) (Result f) = refl
node_order (Variable f v) (Global g) = refl
node_order (Variable f v) (Variable h w) = refl
node_order (Variable f v) (Result h) = refl
node_order (Result f) (Global g) = refl
node_order (Result f) (Variable h w) = refl
node_order (Result f) (Result h) = sym (then_equal (nat_cmp f h))

pub node_cmps : node_ord.ghosts.cmp ≡ node_cmp
node_cmps = λ i a b. node_order a b i

pub nodes_sorted : (xs : List Node) → IsStrictlySortedBy node_ord.ghosts.cmp xs → IsStrictlySortedBy node_cmp xs
nodes_sorted xs h = subst (λ (c : Node → Node → Ordering). IsStrictlySortedBy c xs) node_cmps h

pub node_total : IsTotalOrder node_cmp
node_total = subst (λ (c : Node → Node → Ordering). IsTotalOrder c) node_cmps node_laws.total-law

pub node_tied : (a b : Node) → node_cmp a b ≡ Equal → a ≡ b
node_tied (Global g) (Global h) e = ap Global (cmp_equal g h (sym (then_equal (nat_cmp g h)) ∙ e))
node_tied (Global g) (Variable f v) e = cc
node_tied (Global g) (Result f) e = cc
node_tied (Variable f v) (Global g) e = cc
node_tied (Variable f v) (Variable h w) e =
    let two = both_equal (nat_cmp f h) (nat_cmp v w) e in
    let function = cmp_equal f h two.0 in
    let var = cmp_equal v w two.1 in
    λ i. Variable (function i) (var i)
node_tied (Variable f v) (Result h) e = cc
node_tied (Result f) (Global g) e = cc
node_tied (Result f) (Variable h w) e = cc
node_tied (Result f) (Result h) e = ap Result (cmp_equal f h (sym (then_equal (nat_cmp f h)) ∙ e))

pub node_same : (a b : Node) → node_eq.ghosts.eq a b ≡ true → a ≡ b
node_same a b e = node_tied a b (sym (node_order a b) ∙ is_eq_equal (node_ord.ghosts.cmp a b) (sym (node_laws.matches_eq-law a b) ∙ e))

-- ---- arrows

arrow_order : (a b : Arrow) → arrow_ord.ghosts.cmp a b ≡ arrow_cmp a b
arrow_order a b = λ i. ordering_then (node_order a.from b.from i) (node_order a.to b.to i)

pub arrow_cmps : arrow_ord.ghosts.cmp ≡ arrow_cmp
arrow_cmps = λ i a b. arrow_order a b i

pub arrows_sorted : (xs : List Arrow) → IsStrictlySortedBy arrow_ord.ghosts.cmp xs → IsStrictlySortedBy arrow_cmp xs
arrows_sorted xs h = subst (λ (c : Arrow → Arrow → Ordering). IsStrictlySortedBy c xs) arrow_cmps h

pub arrow_total : IsTotalOrder arrow_cmp
arrow_total = subst (λ (c : Arrow → Arrow → Ordering). IsTotalOrder c) arrow_cmps arrow_laws.total-law

pub arrow_tied : (a b : Arrow) → arrow_cmp a b ≡ Equal → a ≡ b
arrow_tied a b e =
    let two = both_equal (node_cmp a.from b.from) (node_cmp a.to b.to) e in
    let from = node_tied a.from b.from two.0 in
    let to = node_tied a.to b.to two.1 in
    λ i. record { from = from i; to = to i }

pub arrow_same : (a b : Arrow) → arrow_eq.ghosts.eq a b ≡ true → a ≡ b
arrow_same a b e = arrow_tied a b (sym (arrow_order a b) ∙ is_eq_equal (arrow_ord.ghosts.cmp a b) (sym (arrow_laws.matches_eq-law a b) ∙ e))

-- ---- what ascends strictly, ascends

backwards : (o p : Ordering) → o ≡ Less → p ≡ ordering_reverse o → is_lt p ≡ false
backwards o p less back = ap is_lt (back ∙ ap ordering_reverse less)

pub rises : {X : Type 0} {R : X → X → Ordering} → IsTotalOrder R → (xs : List X) → IsStrictlySortedBy R xs → IsSorted R xs
rises {X} {R} total xs up k d low high =
    let next : k < k + 1 = omega arith in
    backwards (R (get_or xs k d) (get_or xs (k + 1) d)) (R (get_or xs (k + 1) d) (get_or xs k d))
    (Less-from_sorted R xs k (k + 1) d up next high) (total.antisymm (get_or xs (k + 1) d) (get_or xs k d))
