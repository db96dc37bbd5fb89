-- Results by arguments, as the entries of a tree give them.
use Rattle.std.proofs.Common.{◌≡◌, ◌<◌, ◌+◌, ℕ, suc, ℤ, List, [], ◌∷◌, length, drop, get_or, Vec, refl, sym, ap, ◌∙◌, cond, Bool, true, false, ◌&&◌, true≢false, Option, Some, Ordering, Less, Equal, Greater, drop-cons, add-one}
use Rattle.std.proofs.lemmas.Cmp.{int_cmp_total, int_eq_equiv, lists_total, alike_right}
use Rattle.std.specs.Cmp.{IsTotalOrder}
use Rattle.std.specs.Cmp.Lexicographic.{slice_cmp}
use Rattle.std.specs.BTreeMap.{insert_entry}
use Rattle.std.specs.Map.{lookup}
use Rattle.std.specs.Ordering.{int_cmp, int_eq, is_eq, match_ordering, ordering_then}
use Rattle.std.specs.declared.alloc.Global.{Global}
use Rattle.pt_base.proofs.Orders.{is_eq_equal}
use Rattle.pt_tree.specs.HostStep.{same_numbers, first_result}
use Rattle.pt_tree.specs.RowIndex.{IsIndexOf}
use Rattle.pt_tree.specs.declared.row.Row.{Row}

abbrev Entries : Type 0
Entries = List (Vec ℤ Global × ℤ)

-- the order of the keys
abbrev cmp : List ℤ → List ℤ → Ordering
cmp = slice_cmp int_cmp

total : IsTotalOrder cmp
total = lists_total int_cmp_total

abbrev found : List ℤ → Entries → Option ℤ
found args entries = lookup (λ (key : Vec ℤ Global). is_eq (cmp args key.items)) entries

is_eq-then : (r o : Ordering) → is_eq (ordering_then r o) ≡ is_eq r && is_eq o
is_eq-then Less o = refl
is_eq-then Equal o = refl
is_eq-then Greater o = refl

-- what the order doesn't tell apart is the same
is_same : (args key : List ℤ) → is_eq (cmp args key) ≡ same_numbers key args
is_same [] [] = refl
is_same [] (k ∷ ks) = refl
is_same (a ∷ as') [] = refl
is_same (a ∷ as') (k ∷ ks) =
    is_eq-then (int_cmp a k) (cmp as' ks) ∙ ap (λ b. b && is_eq (cmp as' ks)) (int_eq_equiv.symm a k) ∙ ap (λ b. int_eq k a && b) (is_same as' ks)

by_one_test : (here there : Bool) (v w : ℤ) (rest : Option ℤ) → here ≡ there → cond there (Some v) rest ≡ cond here (Some v) (cond there (Some w) rest)
by_one_test true true v w rest e = refl
by_one_test true false v w rest e = absurd (true≢false e)
by_one_test false true v w rest e = absurd (true≢false (sym e))
by_one_test false false v w rest e = refl

by_other_tests : (here there : Bool) (v w : ℤ) (rest : Option ℤ) → (here ≡ true → there ≡ true → ⊥) → cond there (Some w) (cond here (Some v) rest) ≡ cond here (Some v) (cond there (Some w) rest)
by_other_tests true true v w rest apart = absurd (apart refl refl)
by_other_tests true false v w rest apart = refl
by_other_tests false true v w rest apart = refl
by_other_tests false false v w rest apart = refl

-- nothing is equal to two lists that differ
apart : (args k e : List ℤ) → cmp k e ≡ Greater → is_eq (cmp args k) ≡ true → is_eq (cmp args e) ≡ true → ⊥
apart args k e greater here there =
    true≢false (sym (ap is_eq (sym (total.congr args k e (is_eq_equal (cmp args k) here)) ∙ is_eq_equal (cmp args e) there)) ∙ ap is_eq greater)

-- an entry more
found-insert_entry : (order : Vec ℤ Global → Vec ℤ Global → Ordering) → ((a b : Vec ℤ Global) → order a b ≡ cmp a.items b.items) → (args : List ℤ) (key : Vec ℤ Global) (v : ℤ) (entries : Entries)
    → found args (insert_entry order entries key v) ≡ cond (is_eq (cmp args key.items)) (Some v) (found args entries)
found-insert_entry order same args key v [] = refl
found-insert_entry order same args key v (e ∷ es) = go (order key e.0) (same key e.0) (found-insert_entry order same args key v es)
  where
    go : (o : Ordering) → o ≡ cmp key.items e.0.items → found args (insert_entry order es key v) ≡ cond (is_eq (cmp args key.items)) (Some v) (found args es)
        → found args (match_ordering o ((key, v) ∷ e ∷ es) ((e.0, v) ∷ es) (e ∷ insert_entry order es key v)) ≡ cond (is_eq (cmp args key.items)) (Some v) (found args (e ∷ es))
    go Less is rest = refl
    go Equal is rest = by_one_test (is_eq (cmp args key.items)) (is_eq (cmp args e.0.items)) v e.1 (found args es) (ap is_eq (alike_right total key.items e.0.items args (sym is)))
    go Greater is rest =
        ap (cond (is_eq (cmp args e.0.items)) (Some e.1)) rest
        ∙ by_other_tests (is_eq (cmp args key.items)) (is_eq (cmp args e.0.items)) v e.1 (found args es) (apart args key.items e.0.items (sym is))

-- one row more at the front
pub index_step : (order : Vec ℤ Global → Vec ℤ Global → Ordering) → ((a b : Vec ℤ Global) → order a b ≡ cmp a.items b.items) → (old new : Entries) (rows : List Row) (at i : ℕ) (row : Row) (key : Vec ℤ Global) (v : ℤ)
    → IsIndexOf old (drop at rows) → at ≡ i + 1 → i < length rows → row ≡ get_or rows i row → key.items ≡ row.args → v ≡ row.result → new ≡ insert_entry order old key v → IsIndexOf new (drop i rows)
index_step order same old new rows at i row key v index next within read args_is result_is entries = λ args.
    let rest : drop at rows ≡ drop (suc i) rows = ap (λ n. drop n rows) (next ∙ add-one i) in
    let front : drop i rows ≡ row ∷ drop (suc i) rows = drop-cons rows i row within ∙ ap (λ r. r ∷ drop (suc i) rows) (sym read) in
    ap (found args) entries ∙ found-insert_entry order same args key v old
    ∙ ap (λ w. cond (is_eq (cmp args key.items)) (Some w) (found args old)) result_is
    ∙ ap (λ b. cond b (Some row.result) (found args old)) (is_same args key.items ∙ ap (λ k. same_numbers k args) args_is)
    ∙ ap (cond (same_numbers row.args args) (Some row.result)) (index args ∙ ap (λ rs. first_result rs args) rest)
    ∙ sym (ap (λ rs. first_result rs args) front)
