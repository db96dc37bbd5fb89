-- The edges of all functions are those of the slave's.
use Rattle.std.proofs.Common.{◌≡◌, ◌∙◌, ◌+◌, ℕ, suc, refl, ap, ap₂, sym, arith, Bool, true, false, List, [], ◌∷◌, ◌++◌, Option, Some, None, length, get_or, if◌then◌else◌}
use Rattle.std.specs.Prelude.{is_some, option_and_then}
use Rattle.std.specs.List.{flat_map}
use Rattle.pt_base.specs.declared.ids.FnId.{FnId}
use Rattle.pt_base.specs.declared.slot.Edge.{Edge}
use Rattle.typed_tree.specs.declared.part.Role.TheVariants.{Value}
use Rattle.typed_tree.specs.Lookup.{function_at}
use Rattle.typed_tree.specs.Parts.{function_parts}
use Rattle.typed_tree.specs.StatementTree.{BodyTree}
use Rattle.typed_tree.specs.TypedTree.{FunctionTree, TypedTree}
use Rattle.reach.specs.declared.calls.Half.TheVariants.{Slave}
use Rattle.sides.specs.declared.halves.Sides.{Sides}
use Rattle.reach.specs.Contexts.{InSlave}
use Rattle.sides.specs.Placed.{AreSides}
use Rattle.reach.specs.Tables.{function_id, function_ids, places_true}
use Rattle.usages.specs.Usages.{parts_usages, usages_in}
use Rattle.sides.proofs.OneSides.{same_lists}
use Rattle.sides.proofs.PlaceLemmas.{half_lists}
use Rattle.flow_edges.specs.Edges.{AreEdges, edges_in, usage_edges}
use Rattle.function_runs.specs.Defined.{defined, defined_from, if_defined}
use Rattle.flow_threads.specs.OwnEdges.{own_edges}
use Rattle.function_runs.proofs.DefinedLemmas.{StandFrom, stand_first, stand_rest, all_stand}

-- ---- one function

own_by : (t : TypedTree) (s : Sides) (f : FnId) (es : List Edge) (b : Bool) → get_or s.in_slave.items f.0 false ≡ b → AreSides t s → AreEdges t f es → es ≡ (if b then edges_in t f else [])
own_by t s f es true is sides are = are.inside ((sides.table.same f).0 is)
own_by t s f es false is sides are = are.outside (λ h. let yes' : get_or s.in_slave.items f.0 false ≡ true = (sides.table.same f).1 h in cc)

pub own_is : (t : TypedTree) (s : Sides) (f : FnId) (es : List Edge) → AreSides t s → AreEdges t f es → es ≡ own_edges t s f
own_is t s f es sides are = own_by t s f es (get_or s.in_slave.items f.0 false) refl sides are

-- ---- all of them

-- a host has no edges
host_edges : (t : TypedTree) (f : FnId) (g : FunctionTree) → function_at t f ≡ Some g → g.body ≡ None → edges_in t f ≡ []
unfolding edges_in usages_in
host_edges t f g at is =
    ap (λ o. flat_map (usage_edges t f.0) (parts_usages t.exprs Value 0 (function_parts (option_and_then (λ (h : FunctionTree). h.body) o)))) at
    ∙ ap (λ o. flat_map (usage_edges t f.0) (parts_usages t.exprs Value 0 (function_parts o))) is

-- the truths of a table from the number n on
abbrev TruthsFrom : List Bool → ℕ → List Bool → Type 0
TruthsFrom table n bs = (k j : ℕ) → j ≡ n + k → get_or table j false ≡ get_or bs k false

one_more : (t : TypedTree) (s : Sides) (n : ℕ) (f : FunctionTree) (b : Bool) (body : Option BodyTree) (fs : List FnId) (ns : List ℕ) → function_at t (function_id n) ≡ Some f → f.body ≡ body → get_or s.in_slave.items n false ≡ b →
    flat_map (own_edges t s) fs ≡ flat_map (edges_in t) (function_ids ns) →
    flat_map (own_edges t s) (if_defined (is_some body) (function_id n) ++ fs) ≡ flat_map (edges_in t) (function_ids (if b then n ∷ ns else ns))
one_more t s n f true None fs ns at is true' rest = ap₂ (λ xs ys. xs ++ ys) (sym (host_edges t (function_id n) f at is)) rest
one_more t s n f false None fs ns at is true' rest = rest
one_more t s n f true (Some body) fs ns at is true' rest = ap₂ (λ xs ys. xs ++ ys) (ap (λ b. if b then edges_in t (function_id n) else []) true') rest
one_more t s n f false (Some body) fs ns at is true' rest = ap₂ (λ xs ys. xs ++ ys) (ap (λ b. if b then edges_in t (function_id n) else []) true') rest

edges_from : (t : TypedTree) (s : Sides) (n : ℕ) (fs : List FunctionTree) (bs : List Bool) → StandFrom t n fs → TruthsFrom s.in_slave.items n bs → length bs ≡ length fs →
    flat_map (own_edges t s) (defined_from n fs) ≡ flat_map (edges_in t) (function_ids (places_true n bs))
edges_from t s n [] [] at told long = refl
edges_from t s n [] (b ∷ bs) at told long = absurd (omega arith)
edges_from t s n (f ∷ fs) [] at told long = absurd (omega arith)
edges_from t s n (f ∷ fs) (b ∷ bs) at told long =
    one_more t s n f b f.body (defined_from (suc n) fs) (places_true (suc n) bs) (stand_first t n f fs at) refl (told 0 n (omega arith))
    (edges_from t s (suc n) fs bs (stand_rest t n f fs at) (λ k j e. told (suc k) j (omega arith)) (omega arith))

pub edges_of_slave : (t : TypedTree) (s : Sides) → AreSides t s → flat_map (own_edges t s) (defined t) ≡ flat_map (edges_in t) s.slave
edges_of_slave t s sides =
    edges_from t s 0 t.functions s.in_slave.items (all_stand t) (λ k j e. let same : j ≡ k = omega arith in ap (λ i. get_or s.in_slave.items i false) same) sides.table.size
    ∙ ap (flat_map (edges_in t)) (same_lists (λ (f : FnId). f.0) (InSlave t) (function_ids (places_true 0 s.in_slave.items)) s.slave (half_lists t Slave s.in_slave.items sides.table) sides.slave)
