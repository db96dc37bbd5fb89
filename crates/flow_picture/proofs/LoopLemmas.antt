-- Lists that code gathers one by one.
use Rattle.std.proofs.Common.{◌≡◌, ◌∙◌, refl, ap, sym, Bool, true, false, List, ◌∷◌, ◌++◌, cond}
use Rattle.std.specs.List.{filter, flat_map}
use Rattle.std.proofs.lemmas.List.Concat.{flat_map-append}
use Rattle.reach.proofs.MoreLemmas.{moved_on}
use Rattle.reach.specs.Tables.{item_if}

-- after what the parts of one more item make
pub parts_on : {X Y Z : Type 0} (make : Y → List Z) (parts : X → List Y) (xs rest : List X) (x : X) (list list' all : List Z) → xs ≡ x ∷ rest → list' ≡ list ++ flat_map make (parts x) →
    list ++ flat_map make (flat_map parts xs) ≡ all → list' ++ flat_map make (flat_map parts rest) ≡ all
parts_on make parts xs rest x list list' all split e h =
    moved_on list list' (flat_map make (parts x)) (flat_map make (flat_map parts rest)) all e
    (ap (λ zs. list ++ zs) (sym (flat_map-append make (parts x) (flat_map parts rest))) ∙ ap (λ ys. list ++ flat_map make (flat_map parts ys)) (sym split) ∙ h)

one_kept : {X : Type 0} (test : X → Bool) (x : X) (rest : List X) → filter test (x ∷ rest) ≡ item_if (test x) x ++ filter test rest
one_kept {X} test x rest = go (test x)
  where
    go : (b : Bool) → cond b (x ∷ filter test rest) (filter test rest) ≡ item_if b x ++ filter test rest
    go true = refl
    go false = refl

-- after one more item that may pass the test
pub filter_on : {X : Type 0} (test : X → Bool) (xs rest : List X) (x : X) (list list' all : List X) → xs ≡ x ∷ rest → list' ≡ list ++ item_if (test x) x →
    list ++ filter test xs ≡ all → list' ++ filter test rest ≡ all
filter_on test xs rest x list list' all split e h =
    moved_on list list' (item_if (test x) x) (filter test rest) all e
    (ap (λ zs. list ++ zs) (sym (one_kept test x rest)) ∙ ap (λ ys. list ++ filter test ys) (sym split) ∙ h)

-- after what one more item makes
pub flat_map_on : {X Y : Type 0} (make : X → List Y) (xs rest : List X) (x : X) (list list' all : List Y) → xs ≡ x ∷ rest → list' ≡ list ++ make x →
    list ++ flat_map make xs ≡ all → list' ++ flat_map make rest ≡ all
flat_map_on make xs rest x list list' all split e h =
    moved_on list list' (make x) (flat_map make rest) all e (ap (λ ys. list ++ flat_map make ys) (sym split) ∙ h)
