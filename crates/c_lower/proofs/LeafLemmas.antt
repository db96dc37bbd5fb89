-- What is stored in variables: values, and the items of brace lists.
use Rattle.std.proofs.Common.{◌≡◌, ℕ, Bool, true, false, if◌then◌else◌, List, [], ◌∷◌, ◌++◌, map, Some, refl, sym, ap, ◌∙◌, subst}
use Rattle.pt_base.specs.declared.span.Span.{Span}
use Rattle.typed_tree.specs.declared.ids.ExprId.{ExprId}
use Rattle.typed_tree.specs.ExpressionTree as t
use Rattle.pt_core.specs.CodeTree.{PlaceTree, ExprTree, assign}
use Rattle.pt_core.specs.Types.{type_at}
use Rattle.lowering.specs.Lowered.{Effects, Lowered, LoweredPlace, nothing}
use Rattle.lowering.specs.Expressions.{is_struct, copied, given, object_in, value_in, place_effects}
use Rattle.lowering.specs.Leaves.{Step, Ways, at_end_of}
use Rattle.lowering.specs.StatementParts.{item_in}
use Rattle.lowering.specs.Statements.{Code, outermost, variable_place, value_stored, items_in}
use Rattle.lowering.specs.Output.{Output, next, added, Found, found, Gives, Finds, Does}
use Rattle.lowering.proofs.OutputLemmas.{nothing_made, then_stmts}
use Rattle.c_lower.proofs.LoopLemmas.{Leads, leads_step, leads_end}

-- ---- a variable is given a value

pub object_stored : (c : Code) (o o2 o3 : Output) (x : ℕ) (e : t.ExprTree) (f g p : Found) (b : Bool) →
    ((n : ℕ) → f ≡ found (variable_place c x)) → b ≡ is_struct (Some f.ty) → b ≡ true → Finds o (object_in c.scope e (next o)) o2 g → ((low from : LoweredPlace) → Finds o low o f → Finds o from o2 g → Finds o (copied low from) o3 p) →
    Does o (value_stored c x e (next o)) o3
object_stored c o o2 o3 x e f g p b ef eb et d go =
    let to = variable_place c x in
    let h : f ≡ found to = ef 0 in
    let k = go to (object_in c.scope e (next o)) (record { made = nothing_made o; is = h }) d in
    let e1 : is_struct (Some (type_at c.scope.variables x)) ≡ true = ap (λ (z : Found). is_struct (Some z.ty)) (sym h) ∙ sym eb ∙ et in
    subst (λ z. Does o (if z then place_effects (copied to (object_in c.scope e (next o))) else place_effects (given to (value_in c.scope e (next o)))) o3) (sym e1) (record { made = k.made })

pub value_given : (c : Code) (o o2 o3 : Output) (x : ℕ) (e : t.ExprTree) (f p : Found) (w : ExprTree) (b : Bool) →
    ((n : ℕ) → f ≡ found (variable_place c x)) → b ≡ is_struct (Some f.ty) → b ≡ false → Gives o (value_in c.scope e (next o)) o2 w → ((low : LoweredPlace) (v : Lowered) → Finds o low o f → Gives o v o2 w → Finds o (given low v) o3 p) →
    Does o (value_stored c x e (next o)) o3
value_given c o o2 o3 x e f p w b ef eb et d go =
    let to = variable_place c x in
    let h : f ≡ found to = ef 0 in
    let k = go to (value_in c.scope e (next o)) (record { made = nothing_made o; is = h }) d in
    let e1 : is_struct (Some (type_at c.scope.variables x)) ≡ false = ap (λ (z : Found). is_struct (Some z.ty)) (sym h) ∙ sym eb ∙ et in
    subst (λ z. Does o (if z then place_effects (copied to (object_in c.scope e (next o))) else place_effects (given to (value_in c.scope e (next o)))) o3) (sym e1) (record { made = k.made })

-- ---- the items of a brace list

-- the places at the ends of ways
abbrev pub ends : Span → PlaceTree → Ways → List PlaceTree
ends s p ways = map (λ way. at_end_of s way p) ways

no_items : (c : Code) (ps : List PlaceTree) (n : ℕ) → items_in c ps [] n ≡ nothing
no_items c [] n = refl
no_items c (p ∷ ps) n = refl

no_places : (c : Code) (items : List ExprId) (n : ℕ) → items_in c [] items n ≡ nothing
no_places c [] n = refl
no_places c (e ∷ es) n = refl

pub item_is : (c : Code) (p : PlaceTree) (e : ExprId) (o o1 o2 : Output) (v : ExprTree) → Gives o (value_in c.scope (outermost c e) (next o)) o1 v → o2 ≡ added o1 (assign p v ∷ []) [] → Does o (item_in c p e (next o)) o2
item_is c p e o o1 o2 v g h =
    let low = value_in c.scope (outermost c e) (next o) in
    record { made = then_stmts o o1 o2 low.stmts (assign p low.value ∷ []) low.temps g.made (h ∙ ap (λ z. added o1 (assign p z ∷ []) []) g.is) }

pub items_begin : (c : Code) (s : Span) (start : PlaceTree) (ways all : Ways) (items : List ExprId) (o : Output) → ways ≡ all → Leads o (items_in c (ends s start ways) items (next o)) o (items_in c (ends s start all) items (next o))
items_begin c s start ways all items o e = subst (λ z. Leads o (items_in c (ends s start ways) items (next o)) o (items_in c (ends s start z) items (next o))) e refl

-- the ways that are left, and the items that are left: what is stored there completes the whole
pub item_stored : (c : Code) (s : Span) (start p : PlaceTree) (ways ways' : Ways) (way : List Step) (e : ExprId) (items items' : List ExprId) (o now o2 : Output) (all : Effects) →
    ways ≡ way ∷ ways' → items ≡ e ∷ items' → p ≡ at_end_of s way start → Does now (item_in c p e (next now)) o2 →
    Leads now (items_in c (ends s start ways) items (next now)) o all → Leads o2 (items_in c (ends s start ways') items' (next o2)) o all
item_stored c s start p ways ways' way e items items' o now o2 all ew ei ep d sf =
    let low = item_in c (at_end_of s way start) e (next now) in
    let d1 : Does now low o2 = subst (λ z. Does now (item_in c z e (next now)) o2) ep d in
    let split : items_in c (ends s start ways) items (next now) ≡ items_in c (ends s start (way ∷ ways')) (e ∷ items') (next now) = ap (λ z. items_in c (ends s start z) items (next now)) ew ∙ ap (λ z. items_in c (ends s start (way ∷ ways')) z (next now)) ei in
    leads_step now o2 o all low (items_in c (ends s start ways) items (next now)) (items_in c (ends s start ways') items') split d1 sf

pub no_way_left : (c : Code) (s : Span) (start : PlaceTree) (ways : Ways) (items : List ExprId) (o now : Output) (all : Effects) → ways ≡ [] → Leads now (items_in c (ends s start ways) items (next now)) o all → Does o all now
no_way_left c s start ways items o now all e sf =
    leads_end now o all (items_in c (ends s start ways) items (next now)) (ap (λ z. items_in c (ends s start z) items (next now)) e ∙ no_places c items (next now)) sf

pub no_item_left : (c : Code) (s : Span) (start : PlaceTree) (ways : Ways) (items : List ExprId) (o now : Output) (all : Effects) → items ≡ [] → Leads now (items_in c (ends s start ways) items (next now)) o all → Does o all now
no_item_left c s start ways items o now all e sf =
    leads_end now o all (items_in c (ends s start ways) items (next now)) (ap (λ z. items_in c (ends s start ways) z (next now)) e ∙ no_items c (ends s start ways) (next now)) sf
