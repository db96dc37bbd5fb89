-- Values that may be missing.
use Rattle.std.proofs.Common.{List, None, Some, ℕ, ◌≡◌}

pub some_same : {A : Type 0} (a b : A) → Some a ≡ Some b → a ≡ b
some_same a b e = cc

pub some_same_bytes : (x y : List ℕ) → Some x ≡ Some y → x ≡ y
some_same_bytes x y e = cc

pub some_same_bytes_turned : (a b : List ℕ) → Some a ≡ Some b → b ≡ a
some_same_bytes_turned a b e = cc

pub none_not_some : {A X : Type 0} (x : A) → None ≡ Some x → X
none_not_some x e = cc

pub some_not_none : {A B : Type 0} (a : A) → Some a ≡ None → B
some_not_none a e = cc

pub none_not_some_bytes : (a : List ℕ) → None ≡ Some a → ⊥
none_not_some_bytes a e = cc
