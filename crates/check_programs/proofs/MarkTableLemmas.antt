-- Tables of marks by name.
use Rattle.std.proofs.Common.{◌≡◌, ◌∙◌, ℕ, ◌+◌, List, [], ◌∷◌, ◌++◌, Bool, true, false, Some, Vec, refl, ap, sym, subst, fold, length, if◌then◌else◌, slice_set, arith}
use Rattle.std.specs.Prelude.{unwrap_or, slice_get}
use Rattle.std.specs.Option.{option_map_or}
use Rattle.std.specs.Str.{bytes_eq}
use Rattle.std.specs.Map.{lookup}
use Rattle.std.specs.Map as maps
use Rattle.std.specs.declared.alloc.Global.{Global}
use Rattle.std.proofs.lemmas.Cmp.{nat_list_eq_equiv}
use Rattle.std.proofs.lemmas.Slice.Eq.{bytes_eq-Decides}
use Rattle.pt_tree.specs.ProgramTree.{FunctionTree, ItemTree, declares, function}
use Rattle.check_declarations.specs.declared.marks.Marks.{Marks}
use Rattle.check_programs.specs.declared.function_marks.FunctionMarks.{FunctionMarks}
use Rattle.check_programs.specs.Unions.{both, union, undeclared, with_declaration, declarations_of, function_marks}
use Rattle.check_programs.specs.MarkTables.{Known, marks_in, KeepsOthers, with_marks, with_function, with_items, nothing_known, with_marks_from}

pub same_function : {A B : Type 0} (f g : A → B) → ((x : A) → f x ≡ g x) → f ≡ g
same_function f g h = λ i x. h x i

-- ---- entries

abbrev pub Entries : Type 0
Entries = List (Vec ℕ Global × FunctionMarks)

same_name : Vec ℕ Global → Vec ℕ Global → Bool
same_name a b = bytes_eq a.items b.items

apart : (bs cs ks : List ℕ) → bytes_eq bs cs ≡ false → bytes_eq bs ks ≡ true → bytes_eq cs ks ≡ false
apart bs cs ks n y = nat_list_eq_equiv.symm cs ks ∙ sym (nat_list_eq_equiv.congr bs ks cs y) ∙ n

others : (old new : Entries) (bs : List ℕ) → maps.KeepsOthers (λ a b. bytes_eq a.items b.items) (λ k. bytes_eq bs k.items) old new → (cs : List ℕ) → bytes_eq bs cs ≡ false → lookup (λ k. bytes_eq cs k.items) new ≡ lookup (λ k. bytes_eq cs k.items) old
unfolding maps.KeepsOthers
others old new bs h cs n = h (λ k. bytes_eq cs k.items) (λ x y. nat_list_eq_equiv.congr cs x.items y.items) (λ k. apart bs cs k.items n)

-- a change at one name keeps what is known of the others
pub keeps_others : (old new : Entries) (bs : List ℕ) → maps.KeepsOthers (λ a b. bytes_eq a.items b.items) (λ k. bytes_eq bs k.items) old new → KeepsOthers bs (marks_in old) (marks_in new)
keeps_others old new bs h cs n = ap (λ o. unwrap_or o undeclared) (others old new bs h cs n)

by_name : (f g : Known) (bs : List ℕ) (w : FunctionMarks) → g bs ≡ w → KeepsOthers bs f g → (cs : List ℕ) → g cs ≡ with_marks f bs w cs
by_name f g bs w here other cs = go (bytes_eq bs cs) refl
  where
    go : (b : Bool) → bytes_eq bs cs ≡ b → g cs ≡ (if b then w else f cs)
    go true is = subst (λ l. g l ≡ w) ((bytes_eq-Decides bs cs).0 is) here
    go false is = other cs is

pub put_marks : (old new : Entries) (k : Vec ℕ Global) (bs : List ℕ) (w : FunctionMarks) → k.items ≡ bs → lookup (λ q. bytes_eq k.items q.items) new ≡ Some w → maps.KeepsOthers (λ a b. bytes_eq a.items b.items) (λ q. bytes_eq k.items q.items) old new → marks_in new ≡ with_marks (marks_in old) bs w
put_marks old new k bs w name is h = same_function _ _ (by_name (marks_in old) (marks_in new) k.items w (ap (λ o. unwrap_or o undeclared) is) (keeps_others old new k.items h)) ∙ ap (λ n. with_marks (marks_in old) n w) name

-- what was taken out and is put back changed
pub declared_once : (before middle after : Known) (f : FunctionTree) → KeepsOthers f.declarator.name.bytes before middle → after ≡ with_marks middle f.declarator.name.bytes (with_declaration (before f.declarator.name.bytes) f) → after ≡ with_function before f
declared_once before middle after f keeps is = is ∙ same_function _ _ all
  where
    all : (cs : List ℕ) → with_marks middle f.declarator.name.bytes (with_declaration (before f.declarator.name.bytes) f) cs ≡ with_function before f cs
    all cs = go (bytes_eq f.declarator.name.bytes cs) refl
      where
        go : (b : Bool) → bytes_eq f.declarator.name.bytes cs ≡ b → (if b then with_declaration (before f.declarator.name.bytes) f else middle cs) ≡ (if b then with_declaration (before cs) f else before cs)
        go true is' = ap (λ n. with_declaration (before n) f) ((bytes_eq-Decides _ cs).0 is')
        go false is' = keeps cs is'

-- ---- all items

items_marks : (known : Known) (items : List ItemTree) (name : List ℕ) → with_items known items name ≡ fold with_declaration (known name) (declarations_of items name)
items_marks known [] name = refl
items_marks known (declares d ∷ items) name = items_marks known items name
items_marks known (function f ∷ items) name = items_marks (with_function known f) items name ∙ go (bytes_eq f.declarator.name.bytes name)
  where
    go : (b : Bool) → fold with_declaration (if b then with_declaration (known name) f else known name) (declarations_of items name) ≡ fold with_declaration (known name) (if b then f ∷ declarations_of items name else declarations_of items name)
    go true = refl
    go false = refl

pub all_items : (items : List ItemTree) → with_items nothing_known items ≡ function_marks items
all_items items = same_function _ _ (items_marks nothing_known items)

-- ---- marks by position

get_behind : (before ms : List Marks) → slice_get (before ++ ms) (length before) ≡ slice_get ms 0
get_behind [] ms = refl
get_behind (m ∷ before) ms = get_behind before ms

set_behind : (before ms : List Marks) (a b : Marks) → slice_set (before ++ a ∷ ms) (length before) b ≡ before ++ b ∷ ms
set_behind [] ms a b = refl
set_behind (m ∷ before) ms a b = ap (λ xs. m ∷ xs) (set_behind before ms a b)

joined : (before ms : List Marks) (m : Marks) → (before ++ m ∷ []) ++ ms ≡ before ++ m ∷ ms
joined [] ms m = refl
joined (x ∷ before) ms m = ap (λ xs. x ∷ xs) (joined before ms m)

one_longer : (before : List Marks) (m : Marks) → length (before ++ m ∷ []) ≡ length before + 1
one_longer [] m = refl
one_longer (x ∷ before) m = let ih : length (before ++ m ∷ []) ≡ length before + 1 = one_longer before m in omega arith

from_there : (before ms owns : List Marks) → with_marks_from (before ++ ms) (length before) owns ≡ before ++ union ms owns
from_there before [] [] = refl
from_there before (m ∷ ms) [] = refl
from_there before [] (own ∷ owns) =
    ap (λ o. with_marks_from (option_map_or (λ m. slice_set (before ++ []) (length before) (both m own)) o ((before ++ []) ++ own ∷ [])) (length before + 1) owns) (get_behind before [])
    ∙ ap (λ xs. with_marks_from (xs ++ own ∷ []) (length before + 1) owns) (none_behind before)
    ∙ ap (λ k. with_marks_from (before ++ own ∷ []) k owns) (sym (one_longer before own))
    ∙ ap (λ xs. with_marks_from xs (length (before ++ own ∷ [])) owns) (sym (none_behind (before ++ own ∷ [])))
    ∙ from_there (before ++ own ∷ []) [] owns
    ∙ joined before owns own
  where
    none_behind : (xs : List Marks) → xs ++ [] ≡ xs
    none_behind [] = refl
    none_behind (x ∷ xs) = ap (λ ys. x ∷ ys) (none_behind xs)
from_there before (m ∷ ms) (own ∷ owns) =
    ap (λ o. with_marks_from (option_map_or (λ a. slice_set (before ++ m ∷ ms) (length before) (both a own)) o ((before ++ m ∷ ms) ++ own ∷ [])) (length before + 1) owns) (get_behind before (m ∷ ms))
    ∙ ap (λ xs. with_marks_from xs (length before + 1) owns) (set_behind before ms m (both m own) ∙ sym (joined before ms (both m own)))
    ∙ ap (λ k. with_marks_from ((before ++ both m own ∷ []) ++ ms) k owns) (sym (one_longer before (both m own)))
    ∙ from_there (before ++ both m own ∷ []) ms owns
    ∙ joined before (union ms owns) (both m own)

-- adding one by one is the union
pub position_by_position : (ms owns : List Marks) → with_marks_from ms 0 owns ≡ union ms owns
position_by_position ms owns = from_there [] ms owns
