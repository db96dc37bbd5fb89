-- The blocks of a call by number: each name that an argument has is among them, once.
use Rattle.std.proofs.Common.{◌≡◌, ◌<◌, ◌∙◌, refl, ap, sym, ℕ, zero, suc, Bool, true, false, List, [], ◌∷◌, ◌++◌, length, map, get_or, arith, if◌then◌else◌}
use Rattle.std.specs.Prelude.{◌||◌, not}
use Rattle.std.specs.List.{list_all, list_any}
use Rattle.std.proofs.lemmas.Bool.{and_from, not_from_false, or_from, or_left, or_parts, or_right}
use Rattle.pt_base.proofs.Booleans.{and_true_first, and_true_second, from_not_true, or_assoc}
use Rattle.block_memory.specs.declared.cell.BlockName.{BlockName}
use Rattle.block_memory.specs.declared.cell.Cell.{Cell}
use Rattle.block_memory.specs.declared.cell.Cell.TheVariants.{Int, Ptr, Sealed}
use Rattle.block_memory.specs.declared.cell.Pointer.TheVariants.{Null, At}
use Rattle.block_memory.specs.Blocks.{is_same_name}
use Rattle.block_memory.proofs.BlocksLemmas.{is_same_name-self, same_name}
use Rattle.marshalling.specs.Packing.{are_distinct, is_among, names_from, number_of, with_name, with_target}

-- ---- a name among names

number_below-step : (n b : BlockName) (names : List BlockName) (t : Bool) → (is_among names b ≡ true → number_of names b < length names)
    → (t || is_among names b) ≡ true
    → (if t then 0 else suc (number_of names b)) < suc (length names)
number_below-step n b names true ih h = omega arith
number_below-step n b names false ih h = let below = ih h in omega arith

pub number_below : (names : List BlockName) (b : BlockName) → is_among names b ≡ true → number_of names b < length names
number_below [] b h = cc
number_below (n ∷ names) b h = number_below-step n b names (is_same_name n b) (number_below names b) h

block_at-step : {X : Type 0} (f : BlockName → List X) (n b : BlockName) (names : List BlockName) (t : Bool) → is_same_name n b ≡ t
    → (is_among names b ≡ true → get_or (map f names) (number_of names b) [] ≡ f b) → (t || is_among names b) ≡ true
    → get_or (f n ∷ map f names) (if t then 0 else suc (number_of names b)) [] ≡ f b
block_at-step f n b names true e ih h = ap f (same_name n b e)
block_at-step f n b names false e ih h = ih h

pub block_at : {X : Type 0} (f : BlockName → List X) (names : List BlockName) (b : BlockName) → is_among names b ≡ true
    → get_or (map f names) (number_of names b) [] ≡ f b
block_at f [] b h = cc
block_at f (n ∷ names) b h = block_at-step f n b names (is_same_name n b) refl (block_at f names b) h

among_append : (names : List BlockName) (n x : BlockName) → is_among (names ++ n ∷ []) x ≡ (is_among names x || is_same_name n x)
among_append [] n x = go (is_same_name n x)
  where
    go : (t : Bool) → (t || false) ≡ t
    go true = refl
    go false = refl
among_append (m ∷ names) n x = ap (λ t. is_same_name m x || t) (among_append names n x)
    ∙ or_assoc (is_same_name m x) (is_among names x) (is_same_name n x)

-- names stay, and the new one is among them
with_stays : (names : List BlockName) (b x : BlockName) → is_among names x ≡ true → is_among (with_name names b) x ≡ true
with_stays names b x h = go (is_among names b)
  where
    go : (t : Bool) → is_among (if t then names else names ++ b ∷ []) x ≡ true
    go true = h
    go false = among_append names b x ∙ or_left (is_among names x) (is_same_name b x) h

with_added : (names : List BlockName) (b : BlockName) → is_among (with_name names b) b ≡ true
with_added names b = go (is_among names b) refl
  where
    go : (t : Bool) → is_among names b ≡ t → is_among (if t then names else names ++ b ∷ []) b ≡ true
    go true e = e
    go false e = among_append names b b ∙ or_right (is_among names b) (is_same_name b b) (is_same_name-self b)

target_stays : (names : List BlockName) (c : Cell) (x : BlockName) → is_among names x ≡ true → is_among (with_target names c) x ≡ true
target_stays names (Int v) x h = h
target_stays names (Ptr Null) x h = h
target_stays names (Ptr (At block base count index)) x h = with_stays names block x h
target_stays names (Sealed handle) x h = h

from_stays : (names : List BlockName) (args : List Cell) (x : BlockName) → is_among names x ≡ true → is_among (names_from names args) x ≡ true
from_stays names [] x h = h
from_stays names (c ∷ args) x h = from_stays (with_target names c) args x (target_stays names c x h)

-- the block into which the argument points is among the names
abbrev pub has_target : List BlockName → Cell → Bool
has_target names (Int v) = true
has_target names (Ptr Null) = true
has_target names (Ptr (At block base count index)) = is_among names block
has_target names (Sealed handle) = true

one_target : (names : List BlockName) (c : Cell) (args : List Cell) → has_target (names_from (with_target names c) args) c ≡ true
one_target names (Int v) args = refl
one_target names (Ptr Null) args = refl
one_target names (Ptr (At block base count index)) args = from_stays (with_name names block) args block (with_added names block)
one_target names (Sealed handle) args = refl

pub all_targets : (names : List BlockName) (args : List Cell) → list_all (has_target (names_from names args)) args ≡ true
all_targets names [] = refl
all_targets names (c ∷ args) =
    and_from (has_target (names_from names (c ∷ args)) c) (list_all (has_target (names_from names (c ∷ args))) args) (one_target names c args)
    (all_targets (with_target names c) args)

-- ---- names are distinct

same_back : (a b : BlockName) → is_same_name a b ≡ false → is_same_name b a ≡ false
same_back a b h = go (is_same_name b a) refl
  where
    go : (t : Bool) → is_same_name b a ≡ t → t ≡ false
    go true e = let self = is_same_name-self a in let same = ap (λ x. is_same_name a x) (same_name b a e) in cc
    go false e = refl

distinct_append : (names : List BlockName) (x : BlockName) → are_distinct names ≡ true → is_among names x ≡ false
    → are_distinct (names ++ x ∷ []) ≡ true
distinct_append [] x h k = refl
distinct_append (n ∷ names) x h k =
    let parts = or_parts (is_same_name n x) (is_among names x) k in
    let alone = from_not_true (is_among names n) (and_true_first (not (is_among names n)) (are_distinct names) h) in
    let here : is_among (names ++ x ∷ []) n ≡ false = among_append names x n
    ∙ or_from (is_among names n) (is_same_name x n) alone (same_back n x parts.0) in
    and_from (not (is_among (names ++ x ∷ []) n)) (are_distinct (names ++ x ∷ [])) (not_from_false (is_among (names ++ x ∷ []) n) here)
    (distinct_append names x (and_true_second (not (is_among names n)) (are_distinct names) h) parts.1)

with_distinct : (names : List BlockName) (b : BlockName) → are_distinct names ≡ true → are_distinct (with_name names b) ≡ true
with_distinct names b h = go (is_among names b) refl
  where
    go : (t : Bool) → is_among names b ≡ t → are_distinct (if t then names else names ++ b ∷ []) ≡ true
    go true e = h
    go false e = distinct_append names b h e

target_distinct : (names : List BlockName) (c : Cell) → are_distinct names ≡ true → are_distinct (with_target names c) ≡ true
target_distinct names (Int v) h = h
target_distinct names (Ptr Null) h = h
target_distinct names (Ptr (At block base count index)) h = with_distinct names block h
target_distinct names (Sealed handle) h = h

pub from_distinct : (names : List BlockName) (args : List Cell) → are_distinct names ≡ true → are_distinct (names_from names args) ≡ true
from_distinct names [] h = h
from_distinct names (c ∷ args) h = from_distinct (with_target names c) args (target_distinct names c h)

pub get_among : (names : List BlockName) (k : ℕ) (d : BlockName) → k < length names → is_among names (get_or names k d) ≡ true
get_among [] k d lt = absurd (omega arith)
get_among (n ∷ names) zero d lt = or_left (is_same_name n n) (is_among names n) (is_same_name-self n)
get_among (n ∷ names) (suc k) d lt = or_right (is_same_name n (get_or names k d)) (is_among names (get_or names k d)) (get_among names k d (omega arith))

-- the number of the name at a place is the place
pub number_at : (names : List BlockName) (k : ℕ) (d : BlockName) → are_distinct names ≡ true → k < length names → number_of names (get_or names k d) ≡ k
number_at [] k d h lt = absurd (omega arith)
number_at (n ∷ names) zero d h lt = ap (λ t. if t then 0 else suc (number_of names n)) (is_same_name-self n)
number_at (n ∷ names) (suc k) d h lt =
    let alone = from_not_true (is_among names n) (and_true_first (not (is_among names n)) (are_distinct names) h) in
    let rest = number_at names k d (and_true_second (not (is_among names n)) (are_distinct names) h) (omega arith) in
    let other = differs n (get_or names k d) names alone (get_among names k d (omega arith)) in
    ap (λ t. if t then 0 else suc (number_of names (get_or names k d))) other ∙ ap suc rest
  where
    differs : (n x : BlockName) (names : List BlockName) → is_among names n ≡ false → is_among names x ≡ true → is_same_name n x ≡ false
    differs n x names alone among = go (is_same_name n x) refl
      where
        go : (t : Bool) → is_same_name n x ≡ t → t ≡ false
        go true e = let same = ap (is_among names) (same_name n x e) in cc
        go false e = refl

-- ---- each name is an argument's

abbrev pub points_to : BlockName → Cell → Bool
points_to x (Int v) = false
points_to x (Ptr Null) = false
points_to x (Ptr (At block base count index)) = is_same_name block x
points_to x (Sealed handle) = false

with_new : (names : List BlockName) (b x : BlockName) → is_among (with_name names b) x ≡ true → (is_among names x || is_same_name b x) ≡ true
with_new names b x = go (is_among names b)
  where
    go : (t : Bool) → is_among (if t then names else names ++ b ∷ []) x ≡ true → (is_among names x || is_same_name b x) ≡ true
    go true h = or_left (is_among names x) (is_same_name b x) h
    go false h = sym (among_append names b x) ∙ h

target_new : (names : List BlockName) (c : Cell) (x : BlockName) → is_among (with_target names c) x ≡ true → (is_among names x || points_to x c) ≡ true
target_new names (Int v) x h = or_left (is_among names x) false h
target_new names (Ptr Null) x h = or_left (is_among names x) false h
target_new names (Ptr (At block base count index)) x h = with_new names block x h
target_new names (Sealed handle) x h = or_left (is_among names x) false h

pub from_new : (names : List BlockName) (args : List Cell) (x : BlockName) → is_among (names_from names args) x ≡ true
    → (is_among names x || list_any (points_to x) args) ≡ true
from_new names [] x h = or_left (is_among names x) false h
from_new names (c ∷ args) x h =
    go (is_among (with_target names c) x) refl (from_new (with_target names c) args x h)
  where
    go : (t : Bool) → is_among (with_target names c) x ≡ t → (t || list_any (points_to x) args) ≡ true
        → (is_among names x || (points_to x c || list_any (points_to x) args)) ≡ true
    go true e k = or_assoc (is_among names x) (points_to x c) (list_any (points_to x) args)
        ∙ or_left (is_among names x || points_to x c) (list_any (points_to x) args) (target_new names c x e)
    go false e k = or_right (is_among names x) (points_to x c || list_any (points_to x) args) (or_right (points_to x c) (list_any (points_to x) args) k)

-- ---- one name more

pub name_there : (names : List BlockName) (name : BlockName) (test : Bool) → test ≡ is_among names name → test ≡ true → names ≡ with_name names name
name_there names name test is h = sym (ap (λ b. if b then names else names ++ name ∷ []) (sym is ∙ h))

pub name_new : (names : List BlockName) (name : BlockName) (test : Bool) → test ≡ is_among names name → test ≡ false
    → with_name names name ≡ names ++ name ∷ []
name_new names name test is h = ap (λ b. if b then names else names ++ name ∷ []) (sym is ∙ h)

-- ---- names with one number

name_at-step : (names : List BlockName) (n b d : BlockName) (t : Bool) → is_same_name n b ≡ t
    → (is_among names b ≡ true → get_or names (number_of names b) d ≡ b) → (t || is_among names b) ≡ true
    → get_or (n ∷ names) (if t then 0 else suc (number_of names b)) d ≡ b
name_at-step names n b d true e ih h = same_name n b e
name_at-step names n b d false e ih h = ih h

-- the name at a name's number is that name
pub name_at : (names : List BlockName) (b d : BlockName) → is_among names b ≡ true → get_or names (number_of names b) d ≡ b
name_at [] b d h = cc
name_at (n ∷ names) b d h = name_at-step names n b d (is_same_name n b) refl (name_at names b d) h

-- names among these that have one number are one
pub one_number : (names : List BlockName) (a b : BlockName) → is_among names a ≡ true → is_among names b ≡ true
    → number_of names a ≡ number_of names b → a ≡ b
one_number names a b h k same = sym (name_at names a a h) ∙ ap (λ i. get_or names i a) same ∙ name_at names b a k
