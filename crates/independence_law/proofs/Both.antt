-- Two runs of one change of the blocks: they stay alike.
use Rattle.std.proofs.Common.{◌≡◌, ◌∙◌, ◌≤◌, ◌<◌, ℕ, zero, suc, ◌+◌, pos, refl, ap, sym, subst, arith, Bool, true, false, Option, Some, None, Result, Ok, Err, IfOk, List, [], ◌∷◌, ◌++◌, length}
use Rattle.std.specs.Prelude.{IsTrue, ◌&&◌, drop, take}
use Rattle.source_meaning.proofs.SizeLemmas.{sizes}
use Rattle.pt_base.proofs.Booleans.{both_hold_first, both_hold_second, false_not_true, true_and_false}
use Rattle.pt_base.proofs.Numbers.{at_most_self}
use Rattle.pt_base.proofs.Options.{some_same}
use Rattle.pt_tree.specs.declared.signature.Param.{Param}
use Rattle.typed_tree.specs.Cells.{cells_of}
use Rattle.typed_tree.specs.Sizes.{cells_by, sizes_of}
use Rattle.typed_tree.specs.TypeTests.{is_scalar, same_type}
use Rattle.typed_tree.specs.WellFormedExpression.{param_type}
use Rattle.typed_tree.proofs.SameTypes.{equal_types}
use Rattle.block_memory.specs.declared.cell.Cell.{Cell}
use Rattle.block_memory.specs.declared.cell.Cell.TheVariants as cell
use Rattle.block_memory.specs.declared.cell.BlockName.TheVariants.{Local}
use Rattle.block_memory.specs.Blocks.{Blocks}
use Rattle.pt_core.specs.CodeTree.{FunctionTree, PlaceTree, ExprTree, ExprTrees, no_exprs, expr_and, ProgramTree}
use Rattle.pt_core.specs.Types.{Context, place_type, type_of}
use Rattle.pt_core.specs.Values.{Stop, ◌>>?◌, cells_at, value_of, values_of, location_of, all_written}
use Rattle.pt_core.specs.Statements.{assigned, copied, kept}
use Rattle.pt_core.specs.Calls.{context_in}
use Rattle.pt_core.specs.WellFormedExpression.{expr_fits, place_fits, stands_for}
use Rattle.pt_core.specs.WellFormedStatement.{arguments_fit, is_compound, value_fits}
use Rattle.core_soundness_law.proofs.Values.{bound}
use Rattle.lent_blocks_law.proofs.Ranges.{always}
use Rattle.monitor_labels.specs.Nodes.{Node, of_variable, of_control}
use Rattle.monitor_labels.specs.Arrows.{all_reads, argument_arrow, argument_arrows, arrows_back, arrows_to, assigned_arrows, copied_arrows, is_pointer_place, is_pointer_variable, place_reads, place_start, reads, start_of}
use Rattle.independence_law.proofs.Slices.{part_same}
use Rattle.independence_law.proofs.Worlds.{World, AreAlike, alike_both, hides, inside, open_by, who_inside}
use Rattle.independence_law.proofs.Follows.{AreOpen, Follows, follows_first, follows_second, goes_to, open_at, open_first, open_second, place_start_read, to_open}
use Rattle.independence_law.proofs.Values.{ObjectLeads, Sees, places_lead}
use Rattle.independence_law.proofs.Alike.{places_alike, same_next, scalar_reached, values_alike}
use Rattle.independence_law.proofs.Changes.{ArgumentsAlike, all_written_alike, all_written_hidden, written_alike, written_hidden}
use Rattle.independence_law.proofs.Outcomes.{BothOk, same_ok}
use Rattle.independence_law.proofs.Known.{function_of}
use Rattle.independence_law.proofs.Stores.{kept_hidden}

-- ---- two results

none_ok : {A : Type 0} (R : A → A → Type 0) (r : Result A Stop) (stop : Stop) → BothOk R r (Err stop)
none_ok R (Ok x) stop = tt {0}
none_ok R (Err s) stop = tt {0}

pub any_ok : {A : Type 0} (R : A → A → Type 0) (r r' : Result A Stop) → ((x y : A) → R x y) → BothOk R r r'
any_ok R (Ok x) (Ok y) f = f x y
any_ok R (Ok x) (Err stop) f = tt {0}
any_ok R (Err stop) r' f = tt {0}

-- of what each is, and of what both are
pub each_ok : {A : Type 0} (P P' : A → Type 0) (R S : A → A → Type 0) (r r' : Result A Stop) → IfOk r P → IfOk r' P' → BothOk R r r' → ((x y : A) → P x → P' y → R x y → S x y) → BothOk S r r'
each_ok P P' R S (Ok x) (Ok y) h h' b f = f x y h h' b
each_ok P P' R S (Ok x) (Err stop) h h' b f = tt {0}
each_ok P P' R S (Err stop) r' h h' b f = tt {0}

-- one evaluation after another
both_next : {A B : Type 0} (T : A → A → Type 0) (R : B → B → Type 0) (r r' : Result A Stop) (next next' : A → Result B Stop) → BothOk T r r' → ((x y : A) → T x y → BothOk R (next x) (next' y)) → BothOk R (r >>? next) (r' >>? next')
both_next T R (Ok x) (Ok y) next next' h k = k x y h
both_next T R (Ok x) (Err stop) next next' h k = none_ok R (next x) stop
both_next T R (Err stop) r' next next' h k = tt {0}

-- after the same evaluation
both_same : {A B : Type 0} (P : A → Type 0) (R : B → B → Type 0) (r r' : Result A Stop) (next next' : A → Result B Stop) → IfOk r P → r ≡ r' → ((x : A) → P x → BothOk R (next x) (next' x)) → BothOk R (r >>? next) (r' >>? next')
both_same P R (Ok x) r' next next' h same k = subst (λ q. BothOk R (next x) (q >>? next')) same (k x h)
both_same P R (Err stop) r' next next' h same k = tt {0}

-- where neither comes
never_ok : {A : Type 0} (R : A → A → Type 0) (r r' : Result A Stop) → IfOk r (λ x. ⊥) → BothOk R r r'
never_ok R (Ok x) r' h = absurd h
never_ok R (Err stop) r' h = tt {0}

-- ---- an assignment

-- a place that starts from nothing is never found
assigned_never : (p : ProgramTree) (w : World) (f depth : ℕ) (blocks : Blocks) → Sees p w f depth blocks → (q : PlaceTree) (a : ExprTree) → IsTrue (place_fits (context_in p f) q) → place_start f q ≡ None → IfOk (assigned (context_in p f) depth q a blocks) (λ x. ⊥)
assigned_never p w f depth blocks s q a lies none =
    bound (ObjectLeads p w depth (place_type (context_in p f) q) (place_start f q)) (λ x. ⊥) (location_of (context_in p f) depth q blocks) _ (places_lead p w f depth blocks s q lies) (λ at object. never object.node (sym none ∙ object.starts))
  where
    never : {Z : Type 0} (n : Node) → None ≡ Some n → Z
    never n h = cc

one_node : (o : Option Node) (m n : Node) → o ≡ Some m → o ≡ Some n → m ≡ n
one_node o m n h k = let e : Some m ≡ Some n = sym h ∙ k in cc

assigned_secret : (p : ProgramTree) (w : World) (f depth : ℕ) (blocks : Blocks) → Sees p w f depth blocks → (q : PlaceTree) (a : ExprTree) (t : Node) → IsTrue (place_fits (context_in p f) q) → place_start f q ≡ Some t → w.secret t ≡ true →
    IfOk (assigned (context_in p f) depth q a blocks) (AreAlike w depth blocks)
assigned_secret p w f depth blocks s q a t lies start secret =
    let c : Context = context_in p f in
    bound (ObjectLeads p w depth (place_type c q) (place_start f q)) (AreAlike w depth blocks) (location_of c depth q blocks) _ (places_lead p w f depth blocks s q lies)
    (λ at object. bound (λ v. Unit {0}) (AreAlike w depth blocks) (value_of c depth a blocks) _ (always (λ v. Unit {0}) (value_of c depth a blocks) (λ v. tt {0}))
    (λ v _. written_hidden w depth blocks at.block at.cell v (object.secret ∙ ap w.secret (one_node (place_start f q) object.node t object.starts start) ∙ secret)))

assigned_open : (p : ProgramTree) (w : World) (f depth : ℕ) (a b : Blocks) → Sees p w f depth a → AreAlike w depth a b → (q : PlaceTree) (e : ExprTree) (t : Node) →
    IsTrue (place_fits (context_in p f) q) → IsTrue (is_scalar (Some (place_type (context_in p f) q))) → IsTrue (expr_fits (context_in p f) e) → place_start f q ≡ Some t → w.secret t ≡ false → AreOpen w.secret (reads f e) → AreOpen w.secret (place_reads f q) →
    BothOk (AreAlike w depth) (assigned (context_in p f) depth q e a) (assigned (context_in p f) depth q e b)
assigned_open p w f depth a b s same q e t lies scalar fits start shown read found =
    let c : Context = context_in p f in
    both_same (ObjectLeads p w depth (place_type c q) (place_start f q)) (AreAlike w depth) (location_of c depth q a) (location_of c depth q b) _ _ (places_lead p w f depth a s q lies) (places_alike p w f depth a b s same q lies found)
    (λ at object. both_same (λ v. Unit {0}) (AreAlike w depth) (value_of c depth e a) (value_of c depth e b) _ _ (always (λ v. Unit {0}) (value_of c depth e a) (λ v. tt {0})) (values_alike p w f depth a b s same e fits read)
    (λ v _. written_alike w depth a b at.block at.cell v object.near
    (open_by w at.block at.cell (object.secret ∙ ap w.secret (one_node (place_start f q) object.node t object.starts start) ∙ shown) (scalar_reached p w depth (place_type c q) (place_start f q) at scalar object)) same))

pub assigned_both : (p : ProgramTree) (w : World) (f depth : ℕ) (a b : Blocks) → Sees p w f depth a → Sees p w f depth b → AreAlike w depth a b → (q : PlaceTree) (e : ExprTree) →
    IsTrue (place_fits (context_in p f) q && (is_scalar (Some (place_type (context_in p f) q)) && value_fits (context_in p f) (place_type (context_in p f) q) e)) →
    Follows w.secret (assigned_arrows (function_of p f) q e) → BothOk (AreAlike w depth) (assigned (context_in p f) depth q e a) (assigned (context_in p f) depth q e b)
assigned_both p w f depth a b s s' same q e h follows = go (place_start f q) refl
  where
    lies : IsTrue (place_fits (context_in p f) q)
    lies = both_hold_first (place_fits (context_in p f) q) (is_scalar (Some (place_type (context_in p f) q)) && value_fits (context_in p f) (place_type (context_in p f) q) e) h

    more : IsTrue (is_scalar (Some (place_type (context_in p f) q)) && value_fits (context_in p f) (place_type (context_in p f) q) e)
    more = both_hold_second (place_fits (context_in p f) q) (is_scalar (Some (place_type (context_in p f) q)) && value_fits (context_in p f) (place_type (context_in p f) q) e) h

    fits : IsTrue (expr_fits (context_in p f) e)
    fits = both_hold_first (expr_fits (context_in p f) e) (stands_for (type_of (context_in p f) e) (place_type (context_in p f) q)) (both_hold_second (is_scalar (Some (place_type (context_in p f) q))) (value_fits (context_in p f) (place_type (context_in p f) q) e) more)

    by : (t : Node) → place_start f q ≡ Some t → (b' : Bool) → w.secret t ≡ b' → BothOk (AreAlike w depth) (assigned (context_in p f) depth q e a) (assigned (context_in p f) depth q e b)
    by t start true secret =
        each_ok (AreAlike w depth a) (AreAlike w depth b) (λ x y. Unit {0}) (AreAlike w depth) (assigned (context_in p f) depth q e a) (assigned (context_in p f) depth q e b)
        (assigned_secret p w f depth a s q e t lies start secret) (assigned_secret p w f depth b s' q e t lies start secret) (any_ok (λ x y. Unit {0}) (assigned (context_in p f) depth q e a) (assigned (context_in p f) depth q e b) (λ x y. tt {0}))
        (λ x y left right _. alike_both w depth a x b y same left right)
    by t start false shown =
        let all : AreOpen w.secret (reads f e ++ (place_reads f q ++ of_control f ∷ [])) = to_open w.secret t (reads f e ++ (place_reads f q ++ of_control f ∷ []))
        (goes_to w.secret t (reads f e ++ (place_reads f q ++ of_control f ∷ [])) (place_start f q) start (follows_first w.secret (arrows_to (place_start f q) (reads f e ++ (place_reads f q ++ of_control f ∷ []))) (arrows_back (is_pointer_place (function_of p f) q) (place_start f q) (start_of f e)) follows)) shown in
        assigned_open p w f depth a b s same q e t lies (both_hold_first (is_scalar (Some (place_type (context_in p f) q))) (value_fits (context_in p f) (place_type (context_in p f) q) e) more) fits start shown
        (open_first w.secret (reads f e) (place_reads f q ++ of_control f ∷ []) all) (open_first w.secret (place_reads f q) (of_control f ∷ []) (open_second w.secret (reads f e) (place_reads f q ++ of_control f ∷ []) all))

    go : (o : Option Node) → place_start f q ≡ o → BothOk (AreAlike w depth) (assigned (context_in p f) depth q e a) (assigned (context_in p f) depth q e b)
    go None none = never_ok (AreAlike w depth) (assigned (context_in p f) depth q e a) (assigned (context_in p f) depth q e b) (assigned_never p w f depth a s q e lies none)
    go (Some t) start = by t start (w.secret t) refl

-- ---- a copy

short : (n : ℕ) (xs : List Cell) → length (take n xs) ≤ n
short zero xs = omega arith
short (suc n) [] = omega arith
short (suc n) (x ∷ xs) = let rest = short n xs in omega (arith, rest)

copied_never : (p : ProgramTree) (w : World) (f depth : ℕ) (blocks : Blocks) → Sees p w f depth blocks → (to of : PlaceTree) → IsTrue (place_fits (context_in p f) to) → place_start f to ≡ None → IfOk (copied (context_in p f) depth to of blocks) (λ x. ⊥)
copied_never p w f depth blocks s to of lies none =
    bound (ObjectLeads p w depth (place_type (context_in p f) to) (place_start f to)) (λ x. ⊥) (location_of (context_in p f) depth to blocks) _ (places_lead p w f depth blocks s to lies) (λ at object. never object.node (sym none ∙ object.starts))
  where
    never : {Z : Type 0} (n : Node) → None ≡ Some n → Z
    never n h = cc

copied_secret : (p : ProgramTree) (w : World) (f depth : ℕ) (blocks : Blocks) → Sees p w f depth blocks → (to of : PlaceTree) (t : Node) → IsTrue (place_fits (context_in p f) to) → place_start f to ≡ Some t → w.secret t ≡ true →
    IfOk (copied (context_in p f) depth to of blocks) (AreAlike w depth blocks)
copied_secret p w f depth blocks s to of t lies start secret =
    let c : Context = context_in p f in
    bound (ObjectLeads p w depth (place_type c to) (place_start f to)) (AreAlike w depth blocks) (location_of c depth to blocks) _ (places_lead p w f depth blocks s to lies)
    (λ at object. bound (λ v. Unit {0}) (AreAlike w depth blocks) (location_of c depth of blocks) _ (always (λ v. Unit {0}) (location_of c depth of blocks) (λ v. tt {0}))
    (λ from _. all_written_hidden w depth blocks at.block at.cell (cells_at blocks from (cells_by (sizes_of c.structs) at.ty)) (object.secret ∙ ap w.secret (one_node (place_start f to) object.node t object.starts start) ∙ secret)))

copied_open : (p : ProgramTree) (w : World) (f depth : ℕ) (a b : Blocks) → Sees p w f depth a → AreAlike w depth a b → (to of : PlaceTree) (t : Node) → IsTrue (place_fits (context_in p f) to) → IsTrue (place_fits (context_in p f) of) →
    place_type (context_in p f) to ≡ place_type (context_in p f) of → place_start f to ≡ Some t → w.secret t ≡ false → AreOpen w.secret (place_reads f to) → AreOpen w.secret (place_reads f of) →
    BothOk (AreAlike w depth) (copied (context_in p f) depth to of a) (copied (context_in p f) depth to of b)
copied_open p w f depth a b s same to of t lies lies' types start shown found read =
    let c : Context = context_in p f in
    both_same (ObjectLeads p w depth (place_type c to) (place_start f to)) (AreAlike w depth) (location_of c depth to a) (location_of c depth to b) _ _ (places_lead p w f depth a s to lies) (places_alike p w f depth a b s same to lies found)
    (λ at object. both_same (ObjectLeads p w depth (place_type c of) (place_start f of)) (AreAlike w depth) (location_of c depth of a) (location_of c depth of b) _ _ (places_lead p w f depth a s of lies') (places_alike p w f depth a b s same of lies' read)
    (λ from source.
    let n : ℕ = cells_by (sizes_of p.structs) at.ty in
    let size : n ≡ cells_of p.structs (place_type c to) = ap (cells_by (sizes_of p.structs)) object.typed ∙ sizes p.structs (place_type c to) in
    let other : n ≡ cells_of p.structs (place_type c of) = size ∙ ap (cells_of p.structs) types in
    let cells : cells_at a from n ≡ cells_at b from n = part_same (a from.block).cells (b from.block).cells from.cell n
    (λ i less. same from.block (from.cell + i) source.near (open_by w from.block (from.cell + i) (source.secret ∙ open_at w.secret (place_reads f of) source.node read (place_start_read f of source.node source.starts)) (source.reached i (subst (λ k. i < k) other less)))) in
    subst (λ cs. AreAlike w depth (all_written a at.block at.cell (cells_at a from n)) (all_written b at.block at.cell cs)) cells
    (all_written_alike w depth a b at.block at.cell (cells_at a from n) object.near (object.secret ∙ ap w.secret (one_node (place_start f to) object.node t object.starts start) ∙ shown)
    (λ i less. object.reached i (within i n (length (cells_at a from n)) (cells_of p.structs (place_type c to)) less (short n (drop from.cell (a from.block).cells)) size)) same)))
  where
    within : (i n m k : ℕ) → i < m → m ≤ n → n ≡ k → i < k
    within i n m k less le is = omega (arith, less, le, is)

pub copied_both : (p : ProgramTree) (w : World) (f depth : ℕ) (a b : Blocks) → Sees p w f depth a → Sees p w f depth b → AreAlike w depth a b → (to of : PlaceTree) →
    IsTrue ((place_fits (context_in p f) to && place_fits (context_in p f) of) && (is_compound (place_type (context_in p f) to) && same_type (place_type (context_in p f) to) (place_type (context_in p f) of))) →
    Follows w.secret (copied_arrows (function_of p f) to of) → BothOk (AreAlike w depth) (copied (context_in p f) depth to of a) (copied (context_in p f) depth to of b)
copied_both p w f depth a b s s' same to of h follows = go (place_start f to) refl
  where
    places : IsTrue (place_fits (context_in p f) to && place_fits (context_in p f) of)
    places = both_hold_first (place_fits (context_in p f) to && place_fits (context_in p f) of) (is_compound (place_type (context_in p f) to) && same_type (place_type (context_in p f) to) (place_type (context_in p f) of)) h

    lies : IsTrue (place_fits (context_in p f) to)
    lies = both_hold_first (place_fits (context_in p f) to) (place_fits (context_in p f) of) places

    types : place_type (context_in p f) to ≡ place_type (context_in p f) of
    types = equal_types (place_type (context_in p f) to) (place_type (context_in p f) of)
        (both_hold_second (is_compound (place_type (context_in p f) to)) (same_type (place_type (context_in p f) to) (place_type (context_in p f) of))
        (both_hold_second (place_fits (context_in p f) to && place_fits (context_in p f) of) (is_compound (place_type (context_in p f) to) && same_type (place_type (context_in p f) to) (place_type (context_in p f) of)) h))

    by : (t : Node) → place_start f to ≡ Some t → (b' : Bool) → w.secret t ≡ b' → BothOk (AreAlike w depth) (copied (context_in p f) depth to of a) (copied (context_in p f) depth to of b)
    by t start true secret =
        each_ok (AreAlike w depth a) (AreAlike w depth b) (λ x y. Unit {0}) (AreAlike w depth) (copied (context_in p f) depth to of a) (copied (context_in p f) depth to of b)
        (copied_secret p w f depth a s to of t lies start secret) (copied_secret p w f depth b s' to of t lies start secret) (any_ok (λ x y. Unit {0}) (copied (context_in p f) depth to of a) (copied (context_in p f) depth to of b) (λ x y. tt {0}))
        (λ x y left right _. alike_both w depth a x b y same left right)
    by t start false shown =
        let all : AreOpen w.secret (place_reads f of ++ (place_reads f to ++ of_control f ∷ [])) = to_open w.secret t (place_reads f of ++ (place_reads f to ++ of_control f ∷ []))
        (goes_to w.secret t (place_reads f of ++ (place_reads f to ++ of_control f ∷ [])) (place_start f to) start follows) shown in
        copied_open p w f depth a b s same to of t lies (both_hold_second (place_fits (context_in p f) to) (place_fits (context_in p f) of) places) types start shown
        (open_first w.secret (place_reads f to) (of_control f ∷ []) (open_second w.secret (place_reads f of) (place_reads f to ++ of_control f ∷ []) all)) (open_first w.secret (place_reads f of) (place_reads f to ++ of_control f ∷ []) all)

    go : (o : Option Node) → place_start f to ≡ o → BothOk (AreAlike w depth) (copied (context_in p f) depth to of a) (copied (context_in p f) depth to of b)
    go None none = never_ok (AreAlike w depth) (copied (context_in p f) depth to of a) (copied (context_in p f) depth to of b) (copied_never p w f depth a s to of lies none)
    go (Some t) start = by t start (w.secret t) refl

-- ---- arguments

-- what goes to a variable that isn't secret is the same
argument_both : (p : ProgramTree) (w : World) (f depth g i : ℕ) (a b : Blocks) → Sees p w f depth a → AreAlike w depth a b → (e : ExprTree) → IsTrue (expr_fits (context_in p f) e) → Follows w.secret (argument_arrow (function_of p f) (function_of p g) i e) →
    BothOk (λ v u. hides (inside w (depth + 1) g) (Local (depth + 1) i) ≡ false → v ≡ u) (value_of (context_in p f) depth e a) (value_of (context_in p f) depth e b)
argument_both p w f depth g i a b s same e fits follows = go (w.secret (of_variable g i)) refl
  where
    known : hides (inside w (depth + 1) g) (Local (depth + 1) i) ≡ w.secret (of_variable g i)
    known = ap (λ n. w.secret (of_variable n i)) (who_inside w (depth + 1) g)

    go : (t : Bool) → w.secret (of_variable g i) ≡ t → BothOk (λ v u. hides (inside w (depth + 1) g) (Local (depth + 1) i) ≡ false → v ≡ u) (value_of (context_in p f) depth e a) (value_of (context_in p f) depth e b)
    go true secret = any_ok (λ v u. hides (inside w (depth + 1) g) (Local (depth + 1) i) ≡ false → v ≡ u) (value_of (context_in p f) depth e a) (value_of (context_in p f) depth e b)
        (λ v u shown. true_and_false (w.secret (of_variable g i)) secret (sym (ap (λ n. w.secret (of_variable n i)) (who_inside w (depth + 1) g)) ∙ shown))
    go false shown =
        each_ok (λ v. Unit {0}) (λ v. Unit {0}) (λ v u. v ≡ u) (λ v u. hides (inside w (depth + 1) g) (Local (depth + 1) i) ≡ false → v ≡ u) (value_of (context_in p f) depth e a) (value_of (context_in p f) depth e b)
        (always (λ v. Unit {0}) (value_of (context_in p f) depth e a) (λ v. tt {0})) (always (λ v. Unit {0}) (value_of (context_in p f) depth e b) (λ v. tt {0}))
        (same_ok (value_of (context_in p f) depth e a) (value_of (context_in p f) depth e b) (values_alike p w f depth a b s same e fits
        (to_open w.secret (of_variable g i) (reads f e) (follows_first w.secret (arrows_to (Some (of_variable g i)) (reads f e)) (arrows_back (is_pointer_variable (function_of p g) i) (Some (of_variable g i)) (start_of f e)) follows) shown)))
        (λ v u _ _ is open_. is)

pub arguments_both : (p : ProgramTree) (w : World) (f depth g : ℕ) (a b : Blocks) → Sees p w f depth a → AreAlike w depth a b → (ps : List Param) (i : ℕ) (args : ExprTrees) → IsTrue (arguments_fit (context_in p f) ps args) → Follows w.secret (argument_arrows (function_of p f) (function_of p g) i args) →
    BothOk (ArgumentsAlike (inside w (depth + 1) g) (depth + 1) i) (values_of (context_in p f) depth args a) (values_of (context_in p f) depth args b)
arguments_both p w f depth g a b s same [] i no_exprs h follows = tt {0}
arguments_both p w f depth g a b s same [] i (expr_and e rest) h follows = false_not_true h
arguments_both p w f depth g a b s same (x ∷ ps) i no_exprs h follows = false_not_true h
arguments_both p w f depth g a b s same (x ∷ ps) i (expr_and e rest) h follows =
    let c : Context = context_in p f in
    let fn : FunctionTree = function_of p f in
    let gn : FunctionTree = function_of p g in
    let value : IsTrue (value_fits c (param_type x.kind) e) = both_hold_first (value_fits c (param_type x.kind) e) (arguments_fit c ps rest) h in
    both_next (λ v u. hides (inside w (depth + 1) g) (Local (depth + 1) i) ≡ false → v ≡ u) (ArgumentsAlike (inside w (depth + 1) g) (depth + 1) i) (value_of c depth e a) (value_of c depth e b) _ _
    (argument_both p w f depth g i a b s same e (both_hold_first (expr_fits c e) (stands_for (type_of c e) (param_type x.kind)) value) (follows_first w.secret (argument_arrow fn gn i e) (argument_arrows fn gn (i + 1) rest) follows))
    (λ v u is. both_next (ArgumentsAlike (inside w (depth + 1) g) (depth + 1) (i + 1)) (ArgumentsAlike (inside w (depth + 1) g) (depth + 1) i) (values_of c depth rest a) (values_of c depth rest b) _ _
    (arguments_both p w f depth g a b s same ps (i + 1) rest (both_hold_second (value_fits c (param_type x.kind) e) (arguments_fit c ps rest) h) (follows_second w.secret (argument_arrow fn gn i e) (argument_arrows fn gn (i + 1) rest) follows))
    (λ vs us all. (is, all)))

-- where all that they read isn't secret, they are the same
pub arguments_same : (p : ProgramTree) (w : World) (f depth : ℕ) (a b : Blocks) → Sees p w f depth a → AreAlike w depth a b → (ps : List Param) (args : ExprTrees) → IsTrue (arguments_fit (context_in p f) ps args) → AreOpen w.secret (all_reads f args) →
    values_of (context_in p f) depth args a ≡ values_of (context_in p f) depth args b
arguments_same p w f depth a b s same [] no_exprs h open_ = refl
arguments_same p w f depth a b s same [] (expr_and e rest) h open_ = false_not_true h
arguments_same p w f depth a b s same (x ∷ ps) no_exprs h open_ = refl
arguments_same p w f depth a b s same (x ∷ ps) (expr_and e rest) h open_ =
    let c : Context = context_in p f in
    let value : IsTrue (value_fits c (param_type x.kind) e) = both_hold_first (value_fits c (param_type x.kind) e) (arguments_fit c ps rest) h in
    same_next (value_of c depth e a) (value_of c depth e b) _ _ (values_alike p w f depth a b s same e (both_hold_first (expr_fits c e) (stands_for (type_of c e) (param_type x.kind)) value) (open_first w.secret (reads f e) (all_reads f rest) open_))
    (λ v. same_next (values_of c depth rest a) (values_of c depth rest b) _ _ (arguments_same p w f depth a b s same ps rest (both_hold_second (value_fits c (param_type x.kind) e) (arguments_fit c ps rest) h) (open_second w.secret (reads f e) (all_reads f rest) open_)) (λ vs. refl))

-- ---- a result

pub kept_alike : (w : World) (f depth : ℕ) (to : Option ℕ) (v u : Option Cell) (a b : Blocks) → w.who depth ≡ f → AreAlike w depth a b → ((x : ℕ) → to ≡ Some x → w.secret (of_variable f x) ≡ false → v ≡ u) → AreAlike w depth (kept depth to v a) (kept depth to u b)
kept_alike w f depth None v u a b here same given = same
kept_alike w f depth (Some x) v u a b here same given = go (w.secret (of_variable f x)) refl
  where
    one : (r : Option Cell) → w.secret (of_variable f x) ≡ false → AreAlike w depth (kept depth (Some x) r a) (kept depth (Some x) r b)
    one None shown = written_alike w depth a b (Local depth x) 0 (cell.Int (pos 0)) (at_most_self depth) (open_by w (Local depth x) 0 (ap (λ g. w.secret (of_variable g x)) here ∙ shown) refl) same
    one (Some c) shown = written_alike w depth a b (Local depth x) 0 c (at_most_self depth) (open_by w (Local depth x) 0 (ap (λ g. w.secret (of_variable g x)) here ∙ shown) refl) same

    all_secret : w.secret (of_variable f x) ≡ true → (y : ℕ) → Some x ≡ Some y → w.secret (of_variable f y) ≡ true
    all_secret secret y is = subst (λ z. w.secret (of_variable f z) ≡ true) (some_same x y is) secret

    go : (t : Bool) → w.secret (of_variable f x) ≡ t → AreAlike w depth (kept depth (Some x) v a) (kept depth (Some x) u b)
    go true secret = alike_both w depth a (kept depth (Some x) v a) b (kept depth (Some x) u b) same (kept_hidden w f depth (Some x) v a here (all_secret secret)) (kept_hidden w f depth (Some x) u b here (all_secret secret))
    go false shown = subst (λ r. AreAlike w depth (kept depth (Some x) v a) (kept depth (Some x) r b)) (given x refl shown) (one v shown)
