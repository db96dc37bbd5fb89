-- As many leaves as there are items suffice.
use Rattle.std.proofs.Common.{◌≡◌, ℕ, List, [], ◌∷◌, ◌++◌, ◌<◌, ◌+◌, Bool, ◌&&◌, Option, is_some, slice_get, length, refl, ap, ◌∙◌, arith}
use Rattle.pt_tree.specs.ExpressionTree.{ExprTree, expr_trees}
use Rattle.type_rules.specs.declared.types.Type.{«Type»}
use Rattle.std.proofs.Common.{subst, Vec, Result}
use Rattle.std.specs.declared.alloc.AllocError.{AllocError}
use Rattle.std.specs.declared.alloc.Global.{Global}
use Rattle.typed_tree.specs.declared.ids.ExprId.{ExprId}
use Rattle.check_statements.specs.Gives.{GivesListing, Progress}
use Rattle.check_statements.specs.Outermost.{State}
use Rattle.check_statements.specs.Initialisers.{Listing, item, items}
use Rattle.typed_tree.proofs.AlikeLists.{AreAlike, alike_at}

abbrev step : State → Bool → ExprTree → Option «Type» → Listing → Listing
step st c a leaf rest =
    let p = item st leaf c a in
    record { state = rest.state; ids = p.id ∷ rest.ids; trees = p.tree ∷ rest.trees; faults = p.faults ++ rest.faults }

same_items : (es : List ExprTree) (st : State) (ls ls' : List «Type») (c : Bool) (n : ℕ) → ((k : ℕ) → k < n + length es → slice_get ls k ≡ slice_get ls' k) → items st ls c n (expr_trees es) ≡ items st ls' c n (expr_trees es)
same_items [] st ls ls' c n h = refl
same_items (a ∷ es) st ls ls' c n h =
    let is : slice_get ls n ≡ slice_get ls' n = h n (omega arith) in
    let after = item st (slice_get ls n) c a in
    let rest : items after.state ls (c && is_some (slice_get ls n)) (n + 1) (expr_trees es) ≡ items after.state ls' (c && is_some (slice_get ls n)) (n + 1) (expr_trees es) = same_items es _ ls ls' _ (n + 1) (λ k lt. h k (omega (arith, lt))) in
    ap (step st c a (slice_get ls n)) rest
    ∙ ap (λ leaf. step st c a leaf (items (item st leaf c a).state ls' (c && is_some leaf) (n + 1) (expr_trees es))) is

pub items_alike : (es : List ExprTree) (st : State) (w : ℕ) (ls ls' : List «Type») (c : Bool) → w ≡ length es → AreAlike w ls ls' → items st ls c 0 (expr_trees es) ≡ items st ls' c 0 (expr_trees es)
items_alike es st w ls ls' c e h = same_items es st ls ls' c 0 (λ k lt. alike_at w k ls ls' h (omega (arith, e, lt)))

pub lists_alike : (r : Result (Vec ExprId Global) AllocError) (before after : Progress) (st : State) (es : List ExprTree) (w : ℕ) (given ls ls' : List «Type») (c c' : Bool) → GivesListing r before after (items st given c 0 (expr_trees es)) → given ≡ ls → c ≡ c' → w ≡ length es → AreAlike w ls ls' → GivesListing r before after (items st ls' c' 0 (expr_trees es))
lists_alike r before after st es w given ls ls' c c' h is same e alike =
    subst (λ (all : Listing). GivesListing r before after all)
    (ap (λ l. items st l c 0 (expr_trees es)) is ∙ items_alike es st w ls ls' c e alike ∙ ap (λ b. items st ls' b 0 (expr_trees es)) same) h
