-- What comparisons of numbers answer.
use Rattle.std.proofs.Common.{Equal, Greater, Less, Ordering, ap, arith, nat_cmp, nat_eq, refl, subst, true, ℕ, ◌<◌, ◌∙◌, ◌≡◌, ◌≤◌}
use Rattle.std.proofs.lemmas.Bool.Decides.{nat_tests}
use Rattle.std.proofs.lemmas.Cmp.{nat_cmp_total, ranked}
use Rattle.std.specs.BTreeMap.{is_at}
use Rattle.std.specs.Ordering.{MatchOrdering, is_eq, ordering_index, ordering_reverse}

pub cmp_equal : (m n : ℕ) → nat_cmp m n ≡ Equal → m ≡ n
cmp_equal m n e = subst (λ (o : Ordering). MatchOrdering o (m < n) (m ≡ n) (n < m)) e (ranked m n (nat_cmp m n) refl)

pub cmp_less_apart : (k f : ℕ) → nat_cmp k f ≡ Less → k ≡ f → ⊥
cmp_less_apart k f is e = grind (arith, nat_tests)

pub cmp_greater_apart : (k f : ℕ) → nat_cmp k f ≡ Greater → k ≡ f → ⊥
cmp_greater_apart k f is e = grind (arith, nat_tests)

pub cmp_less : (x k low : ℕ) → x < low → low ≤ k → nat_cmp x k ≡ Less
cmp_less x k low h le = grind (arith, nat_tests)

pub cmp_turned : (x f : ℕ) (o : Ordering) → nat_cmp x f ≡ o → nat_cmp f x ≡ ordering_reverse o
cmp_turned x f o is = nat_cmp_total.antisymm f x ∙ ap ordering_reverse is

pub cmp_index_rises : (x y f : ℕ) → x ≤ y → ordering_index (nat_cmp x f) ≤ ordering_index (nat_cmp y f)
cmp_index_rises x y f le = grind (arith, nat_tests)

pub nat_eq_is_cmp : (f k : ℕ) → nat_eq f k ≡ is_at (nat_cmp f) k
nat_eq_is_cmp f k = grind (arith, nat_tests)

pub is_eq_equal : (o : Ordering) → is_eq o ≡ true → o ≡ Equal
is_eq_equal Less e = cc
is_eq_equal Equal e = refl
is_eq_equal Greater e = cc
