-- Nodes that are secret, and what arrows say of others.
use Rattle.std.proofs.Common.{◌≡◌, ◌∙◌, ℕ, refl, ap, sym, subst, Bool, true, false, Option, Some, None, List, [], ◌∷◌, ◌++◌, ◌⊎◌, inl, inr}
use Rattle.pt_base.proofs.Booleans.{same_truth, true_and_false}
use Rattle.pt_base.proofs.Options.{some_same}
use Rattle.pt_core.specs.CodeTree.{PlaceTree, place, RootTree, local, global, deref, ExprTree, constant, read, unary, binary, convert, null, address, decay, move, compare, difference}
use Rattle.monitor_labels.specs.Nodes.{Node}
use Rattle.monitor_labels.specs.Arrows.{Arrow, arrows_back, arrows_to, place_reads, place_start, reads, root_reads, root_start, start_of}

-- with the start of each arrow its end is secret
abbrev pub Follows : (Node → Bool) → List Arrow → Type 0
Follows s [] = Unit {0}
Follows s (a ∷ arrows) = (s a.0 ≡ true → s a.1 ≡ true) × Follows s arrows

pub follows_first : (s : Node → Bool) (xs ys : List Arrow) → Follows s (xs ++ ys) → Follows s xs
follows_first s [] ys h = tt {0}
follows_first s (x ∷ xs) ys h = (h.0, follows_first s xs ys h.1)

pub follows_second : (s : Node → Bool) (xs ys : List Arrow) → Follows s (xs ++ ys) → Follows s ys
follows_second s [] ys h = h
follows_second s (x ∷ xs) ys h = follows_second s xs ys h.1

-- none is secret
abbrev pub AreOpen : (Node → Bool) → List Node → Type 0
AreOpen s [] = Unit {0}
AreOpen s (n ∷ ns) = (s n ≡ false) × AreOpen s ns

pub open_first : (s : Node → Bool) (xs ys : List Node) → AreOpen s (xs ++ ys) → AreOpen s xs
open_first s [] ys h = tt {0}
open_first s (x ∷ xs) ys h = (h.0, open_first s xs ys h.1)

pub open_second : (s : Node → Bool) (xs ys : List Node) → AreOpen s (xs ++ ys) → AreOpen s ys
open_second s [] ys h = h
open_second s (x ∷ xs) ys h = open_second s xs ys h.1

pub back_false : (a b : Bool) → (a ≡ true → b ≡ true) → b ≡ false → a ≡ false
back_false true b f h = true_and_false b (f refl) h
back_false false b f h = refl

-- what goes to a node that isn't secret isn't
pub to_open : (s : Node → Bool) (t : Node) (ns : List Node) → Follows s (arrows_to (Some t) ns) → s t ≡ false → AreOpen s ns
to_open s t [] h open_ = tt {0}
to_open s t (n ∷ ns) h open_ = (back_false (s n) (s t) h.0 open_, to_open s t ns h.1 open_)

-- a node to which one goes that is secret, behind others
pub last_secret : (s : Node → Bool) (t n : Node) (ns : List Node) → Follows s (arrows_to (Some t) (ns ++ n ∷ [])) → s n ≡ true → s t ≡ true
last_secret s t n [] h secret = h.0 secret
last_secret s t n (m ∷ ns) h secret = last_secret s t n ns h.1 secret

pub goes_to : (s : Node → Bool) (t : Node) (ns : List Node) (o : Option Node) → o ≡ Some t → Follows s (arrows_to o ns) → Follows s (arrows_to (Some t) ns)
goes_to s t ns o is h = subst (λ u. Follows s (arrows_to u ns)) is h

-- ---- what a pointer starts from is read

abbrev pub Reads : List Node → Node → Type 0
Reads [] n = ⊥
Reads (m ∷ ms) n = (m ≡ n) ⊎ Reads ms n

pub reads_first : (xs ys : List Node) (n : Node) → Reads xs n → Reads (xs ++ ys) n
reads_first [] ys n h = elim h [ ]
reads_first (x ∷ xs) ys n (inl is) = inl is
reads_first (x ∷ xs) ys n (inr there) = inr (reads_first xs ys n there)

pub reads_second : (xs ys : List Node) (n : Node) → Reads ys n → Reads (xs ++ ys) n
reads_second [] ys n h = h
reads_second (x ∷ xs) ys n h = inr (reads_second xs ys n h)

pub open_at : (s : Node → Bool) (ns : List Node) (n : Node) → AreOpen s ns → Reads ns n → s n ≡ false
open_at s [] n h there = elim there [ ]
open_at s (m ∷ ns) n h (inl is) = ap s (sym is) ∙ h.0
open_at s (m ∷ ns) n h (inr there) = open_at s ns n h.1 there

pub secret_at : (s : Node → Bool) (t : Node) (ns : List Node) (n : Node) → Follows s (arrows_to (Some t) ns) → Reads ns n → s n ≡ true → s t ≡ true
secret_at s t [] n h there secret = elim there [ ]
secret_at s t (m ∷ ns) n h (inl is) secret = h.0 (ap s is ∙ secret)
secret_at s t (m ∷ ns) n h (inr there) secret = secret_at s t ns n h.1 there secret

mutual
  pub start_read : (f : ℕ) (e : ExprTree) (n : Node) → start_of f e ≡ Some n → Reads (reads f e) n
  start_read f (constant t v) n h = cc
  start_read f (read q) n h = place_start_read f q n h
  start_read f (unary op t a s) n h = cc
  start_read f (binary op t a b s) n h = cc
  start_read f (convert t a) n h = cc
  start_read f (null elem) n h = cc
  start_read f (address q) n h = place_start_read f q n h
  start_read f (decay q) n h = place_start_read f q n h
  start_read f (move a b back s) n h = reads_second (reads f b) (reads f a) n (start_read f a n h)
  start_read f (compare op a b s) n h = cc
  start_read f (difference a b s) n h = cc

  pub place_start_read : (f : ℕ) (q : PlaceTree) (n : Node) → place_start f q ≡ Some n → Reads (place_reads f q) n
  place_start_read f (place root path) n h = root_start_read f root n h

  pub root_start_read : (f : ℕ) (r : RootTree) (n : Node) → root_start f r ≡ Some n → Reads (root_reads f r) n
  root_start_read f (local v) n h = inl (some_same _ n h)
  root_start_read f (global g) n h = inl (some_same _ n h)
  root_start_read f (deref a s) n h = start_read f a n h

-- ---- both ways between a pointer and what its value starts from

pub back_secret : (s : Node → Bool) (b : Bool) (t n : Node) (o o' : Option Node) → b ≡ true → o ≡ Some t → o' ≡ Some n → Follows s (arrows_back b o o') → s t ≡ true → s n ≡ true
back_secret s true t n (Some x) (Some y) is to start h secret = ap s (sym (some_same y n start)) ∙ h.0 (ap s (some_same x t to) ∙ secret)
back_secret s true t n None o' is to start h secret = cc
back_secret s true t n (Some x) None is to start h secret = cc
back_secret s false t n o o' is to start h secret = cc

pub as_secret : (a b : Bool) → (a ≡ true → b ≡ true) → (b ≡ true → a ≡ true) → a ≡ b
as_secret a b f g = same_truth a b f g
