-- A slave's steps, some behind others.
use Rattle.std.proofs.Common.{◌≡◌, ◌≤◌, ℕ, ◌+◌, ◌-◌, zero, suc, List, [], ◌∷◌, ◌++◌, refl, sym, ap, subst, ◌∙◌, arith, Option, Some, None, append_assoc, append-nil}
use Rattle.pt_base.proofs.Numbers.{suc_same, zero_not_suc}
use Rattle.pair_protocol.specs.Sides.{Mode, going, waits, over, Sides}
use Rattle.pair_protocol.specs.SlaveRun.{At, came, Ready, having, ready, listed, with_said, moved_on, slave_at, IsLongest}
use Rattle.pair_protocol.proofs.OrderSlaveFacts.{one_step, ready_none}

-- ---- steps without replies, behind others

said_behind : {X : Type 0} (xs : List X) (o : Option X) (ys : List X) → (xs ++ listed o) ++ ys ≡ xs ++ with_said o ys
said_behind xs None ys = ap (λ l. l ++ ys) (append-nil xs)
said_behind xs (Some x) ys = append_assoc xs (x ∷ []) ys

-- it made so many steps, and came there with this said
pub record Makes {S X R : Type 0} (n : ℕ) (to : S) (ys : List X) (a : At S X R) : Type 0 where
  pub slave_is : a.slave ≡ to
  pub said_is : a.said ≡ ys
  pub made_is : a.made ≡ n

abbrev MoreSteps : {S M X R E Q : Type 0} → Sides S M X R E Q → ℕ → Type 0
MoreSteps {S = S} {X = X} {R = R} g n = (k : ℕ) (s : S) (rs : List R) (s' s'' : S) (xs ys : List X) → slave_at g k s rs ≡ came s' xs [] k → Makes n s'' ys (slave_at g n s' []) →
    slave_at g (k + n) s rs ≡ came s'' (xs ++ ys) [] (k + n)

more_in : {S M X R E Q : Type 0} (g : Sides S M X R E Q) (n k : ℕ) (s : S) (rs : List R) (s' s'' : S) (xs ys : List X) (mode : Mode) → g.mode s' ≡ mode → MoreSteps g n → slave_at g k s rs ≡ came s' xs [] k →
    Makes (suc n) s'' ys (moved_on g mode (having s' []) (slave_at g n (g.step s').slave [])) → slave_at g (k + suc n) s rs ≡ came s'' (xs ++ ys) [] (k + suc n)
more_in g n k s rs s' s'' xs ys going is more e h =
    let rest = slave_at g n (g.step s').slave [] in
    let far = more (suc k) s rs (g.step s').slave s'' (xs ++ listed (g.step s').said) rest.said (one_step g k s rs s' xs e is)
    (record { slave_is = h.slave_is; said_is = refl; made_is = suc_same rest.made n h.made_is }) in
    subst (λ m. slave_at g m s rs ≡ came s'' (xs ++ ys) [] m) (omega arith)
    (far ∙ ap (λ l. came s'' l [] (suc k + n)) (said_behind xs (g.step s').said rest.said ∙ ap (λ l. xs ++ l) h.said_is))
more_in g n k s rs s' s'' xs ys waits is more e h = zero_not_suc n h.made_is
more_in g n k s rs s' s'' xs ys over is more e h = zero_not_suc n h.made_is

pub more_steps : {S M X R E Q : Type 0} (g : Sides S M X R E Q) (n : ℕ) → MoreSteps g n
more_steps g zero k s rs s' s'' xs ys e h =
    let same : s' ≡ s'' = ap (λ c. c.slave) (sym (ready_none g s')) ∙ h.slave_is in
    subst (λ m. slave_at g m s rs ≡ came s'' (xs ++ ys) [] m) (omega arith)
    (e ∙ ap (λ l. came s' l [] k) (sym (append-nil xs) ∙ ap (λ l. xs ++ l) h.said_is) ∙ ap (λ t. came t (xs ++ ys) [] k) same)
more_steps g (suc n) k s rs s' s'' xs ys e h =
    more_in g n k s rs s' s'' xs ys (g.mode s') refl (more_steps g n) e
    (subst (λ c. Makes (suc n) s'' ys (moved_on g (g.mode c.slave) c (slave_at g n (g.step c.slave).slave c.left))) (ready_none g s') h)

-- ---- where it goes no further

abbrev Rests : {S M X R E Q : Type 0} → Sides S M X R E Q → ℕ → ℕ → Type 0
Rests {S = S} {R = R} g n k = (s : S) (rs : List R) → (slave_at g k s rs).made ≡ k → (g.mode (slave_at g k s rs).slave ≡ going → ⊥) → slave_at g (k + n) s rs ≡ slave_at g k s rs

rests_first : {S M X R E Q : Type 0} (g : Sides S M X R E Q) (n : ℕ) (c : Ready S R) (mode : Mode) → g.mode c.slave ≡ mode → (g.mode c.slave ≡ going → ⊥) →
    moved_on g mode c (slave_at g n (g.step c.slave).slave c.left) ≡ came c.slave [] c.left 0
rests_first g n c going is stopped = absurd (stopped is)
rests_first g n c waits is stopped = refl
rests_first g n c over is stopped = refl

rests_in : {S M X R E Q : Type 0} (g : Sides S M X R E Q) (n k : ℕ) (c : Ready S R) → Rests g n k → (mode : Mode) → (moved_on g mode c (slave_at g k (g.step c.slave).slave c.left)).made ≡ suc k →
    (g.mode (moved_on g mode c (slave_at g k (g.step c.slave).slave c.left)).slave ≡ going → ⊥) →
    moved_on g mode c (slave_at g (k + n) (g.step c.slave).slave c.left) ≡ moved_on g mode c (slave_at g k (g.step c.slave).slave c.left)
rests_in g n k c more going made stopped =
    ap (moved_on g going c) (more (g.step c.slave).slave c.left (suc_same (slave_at g k (g.step c.slave).slave c.left).made k made) stopped)
rests_in g n k c more waits made stopped = refl
rests_in g n k c more over made stopped = refl

rests : {S M X R E Q : Type 0} (g : Sides S M X R E Q) (n k : ℕ) → Rests g n k
rests g zero k s rs made stopped = ap (λ m. slave_at g m s rs) (omega arith)
rests g (suc n) zero s rs made stopped =
    let c = ready g s rs in
    let e : zero + suc n ≡ suc n = omega arith in
    ap (λ m. slave_at g m s rs) e ∙ rests_first g n c (g.mode c.slave) refl stopped
rests g (suc n) (suc k) s rs made stopped =
    let c = ready g s rs in
    let e : suc k + suc n ≡ suc (k + suc n) = omega arith in
    ap (λ m. slave_at g m s rs) e ∙ rests_in g (suc n) k c (rests g (suc n) k) (g.mode c.slave) made stopped

-- so it does where it may make so many
pub rests_at : {S M X R E Q : Type 0} (g : Sides S M X R E Q) (longest k : ℕ) (s : S) (rs : List R) (s' : S) (xs : List X) → k ≤ longest → slave_at g k s rs ≡ came s' xs [] k → (g.mode s' ≡ going → ⊥) →
    slave_at g longest s rs ≡ came s' xs [] k
rests_at g longest k s rs s' xs le e stopped =
    ap (λ m. slave_at g m s rs) (split_at longest k le) ∙ rests g (longest - k) k s rs (ap (λ a. a.made) e) (λ m. stopped (ap (λ a. g.mode a.slave) (sym e) ∙ m)) ∙ e
  where
    split_at : (n k : ℕ) → k ≤ n → n ≡ k + (n - k)
    split_at n k le = omega (arith, le)

pub few_made : {S M X R E Q : Type 0} (g : Sides S M X R E Q) (longest k : ℕ) (s : S) (rs : List R) (s' : S) (xs : List X) → IsLongest g longest s → slave_at g k s rs ≡ came s' xs [] k → k ≤ longest
few_made g longest k s rs s' xs bound e = subst (λ m. m ≤ longest) (ap (λ a. a.made) e) (bound rs k)
