-- The words of a pointer say of each cell what crosses.
use Rattle.std.proofs.Common.{◌≡◌, ◌∙◌, refl, ap, Bool, true, false, List}
use Rattle.std.specs.Prelude.{◌||◌}
use Rattle.std.specs.List.{Contains, list_any}
use Rattle.std.proofs.lemmas.List.Folds.{list_any_at}
use Rattle.marshalling.specs.declared.leaf.Leaf.{Leaf}
use Rattle.marshalling.specs.Crossings.{sealed_if}
use Rattle.marshalling.specs.Leaves.{leaves_of}
use Rattle.outlining.specs.EntryTexts.{has_marked_field}
use Rattle.outlining.specs.Laws.{WordsTellCells, is_told}

-- where no leaf is marked, this one isn't
unmarked : (leaves : List Leaf) (leaf : Leaf) → Contains leaves leaf → list_any (λ (x : Leaf). x.marked) leaves ≡ false → leaf.marked ≡ false
unmarked leaves leaf within none = go leaf.marked refl
  where
    go : (b : Bool) → leaf.marked ≡ b → leaf.marked ≡ false
    go false e = e
    go true e =
        let some : list_any (λ (x : Leaf). x.marked) leaves ≡ true = list_any_at (λ (x : Leaf). x.marked) leaves within.0 leaf within.1 (ap (λ (x : Leaf). x.marked) within.2 ∙ e) in
        cc

told : (secret fields : Bool) (leaf : Leaf) → (fields ≡ false → leaf.marked ≡ false) → (secret || leaf.marked) ≡ is_told secret fields leaf
told true fields leaf none = refl
told false true leaf none = refl
told false false leaf none = none refl

or_swap : (a b : Bool) → (a || b) ≡ (b || a)
or_swap true true = refl
or_swap true false = refl
or_swap false true = refl
or_swap false false = refl

pub words_tell : WordsTellCells
words_tell structs elem leaf secret handle within =
    let same : (secret || leaf.marked) ≡ is_told secret (has_marked_field structs elem) leaf = told secret (has_marked_field structs elem) leaf (unmarked (leaves_of structs elem) leaf within) in
    (same, ap sealed_if (or_swap leaf.marked secret ∙ same))
