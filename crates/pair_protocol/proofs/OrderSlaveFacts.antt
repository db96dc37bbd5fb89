-- A slave's steps, taken one more at the end.
use Rattle.std.proofs.Common.{◌≡◌, ◌≤◌, ℕ, zero, suc, List, [], ◌∷◌, ◌++◌, refl, sym, ◌∙◌, ap, arith, Option, Some, None}
use Rattle.facts.proofs.Numbers.{suc_same, zero_not_suc}
use Rattle.pair_protocol.specs.Sides.{Mode, going, waits, over, Sides, AreFair, waiting}
use Rattle.pair_protocol.specs.SlaveRun.{At, came, Ready, having, ready_in, ready, listed, with_said, moved_on, slave_at, IsLongest}
use Rattle.pair_protocol.proofs.OrderFacts.{said_more, waits_going, over_going, going_waits, over_waits}

-- ---- what is ready

ready_none_in : {S M X R E Q : Type 0} (g : Sides S M X R E Q) (mode : Mode) (s : S) → ready_in g mode s [] ≡ having s []
ready_none_in g going s = refl
ready_none_in g waits s = refl
ready_none_in g over s = refl

pub ready_none : {S M X R E Q : Type 0} (g : Sides S M X R E Q) (s : S) → ready g s [] ≡ having s []
ready_none g s = ready_none_in g (g.mode s) s

ready_idle_in : {S M X R E Q : Type 0} (g : Sides S M X R E Q) (mode : Mode) (s : S) (rs : List R) → waiting mode ≡ 0 → ready_in g mode s rs ≡ having s rs
ready_idle_in g going s rs e = refl
ready_idle_in g waits s rs e = zero_not_suc 0 (sym e)
ready_idle_in g over s rs e = refl

pub ready_idle : {S M X R E Q : Type 0} (g : Sides S M X R E Q) (s : S) (rs : List R) → waiting (g.mode s) ≡ 0 → ready g s rs ≡ having s rs
ready_idle g s rs e = ready_idle_in g (g.mode s) s rs e

-- a reply that is there is taken first
pub ready_takes : {S M X R E Q : Type 0} (g : Sides S M X R E Q) → AreFair g → (s : S) (r : R) (rs : List R) → g.mode s ≡ waits → ready g s (r ∷ rs) ≡ ready g (g.take r s) rs
ready_takes g fair s r rs e = ap (λ mode. ready_in g mode s (r ∷ rs)) e ∙ sym (ready_idle g (g.take r s) rs (fair.takes s r e))

pub taken_first : {S M X R E Q : Type 0} (g : Sides S M X R E Q) → AreFair g → (k : ℕ) (s : S) (r : R) (rs : List R) → g.mode s ≡ waits → slave_at g k s (r ∷ rs) ≡ slave_at g k (g.take r s) rs
taken_first g fair zero s r rs e = ap (λ c. came c.slave [] c.left 0) (ready_takes g fair s r rs e)
taken_first g fair (suc k) s r rs e = ap (λ c. moved_on g (g.mode c.slave) c (slave_at g k (g.step c.slave).slave c.left)) (ready_takes g fair s r rs e)

-- ---- one more step

abbrev stepped : {S M X R E Q : Type 0} → Sides S M X R E Q → ℕ → At S X R → At S X R
stepped g k a = came (g.step a.slave).slave (a.said ++ listed (g.step a.slave).said) [] (suc k)

step_first : {S M X R E Q : Type 0} (g : Sides S M X R E Q) (s : S) (o : Option X) (left : List R) → left ≡ [] → came (ready g s left).slave (with_said o []) (ready g s left).left 1 ≡ came s (listed o) [] 1
step_first g s None left e = ap (λ left. came (ready g s left).slave [] (ready g s left).left 1) e ∙ ap (λ c. came c.slave [] c.left 1) (ready_none g s)
step_first g s (Some x) left e = ap (λ left. came (ready g s left).slave (x ∷ []) (ready g s left).left 1) e ∙ ap (λ c. came c.slave (x ∷ []) c.left 1) (ready_none g s)

abbrev Longer : {S M X R E Q : Type 0} → Sides S M X R E Q → ℕ → S → List R → Type 0
Longer g k s rs = (slave_at g k s rs).left ≡ [] → (slave_at g k s rs).made ≡ k → g.mode (slave_at g k s rs).slave ≡ going → slave_at g (suc k) s rs ≡ stepped g k (slave_at g k s rs)

step_in : {S M X R E Q : Type 0} (g : Sides S M X R E Q) (k : ℕ) (c : Ready S R) → Longer g k (g.step c.slave).slave c.left → (mode : Mode) →
    (moved_on g mode c (slave_at g k (g.step c.slave).slave c.left)).left ≡ [] → (moved_on g mode c (slave_at g k (g.step c.slave).slave c.left)).made ≡ suc k →
    g.mode (moved_on g mode c (slave_at g k (g.step c.slave).slave c.left)).slave ≡ going →
    moved_on g mode c (slave_at g (suc k) (g.step c.slave).slave c.left) ≡ stepped g (suc k) (moved_on g mode c (slave_at g k (g.step c.slave).slave c.left))
step_in g k c more going left made mode =
    let a = slave_at g k (g.step c.slave).slave c.left in
    ap (moved_on g going c) (more left (suc_same _ _ made) mode) ∙
    ap (λ xs. came (g.step a.slave).slave xs [] (suc (suc k))) (said_more (g.step c.slave).said a.said (listed (g.step a.slave).said))
step_in g k c more waits left made mode = zero_not_suc k made
step_in g k c more over left made mode = zero_not_suc k made

step_more : {S M X R E Q : Type 0} (g : Sides S M X R E Q) (k : ℕ) (s : S) (rs : List R) → Longer g k s rs
step_more g zero s rs left made mode =
    let c = ready g s rs in
    ap (λ mode. moved_on g mode c (slave_at g 0 (g.step c.slave).slave c.left)) mode ∙ step_first g (g.step c.slave).slave (g.step c.slave).said c.left left
step_more g (suc k) s rs left made mode = step_in g k (ready g s rs) (step_more g k (g.step (ready g s rs).slave).slave (ready g s rs).left) (g.mode (ready g s rs).slave) left made mode

pub one_step : {S M X R E Q : Type 0} (g : Sides S M X R E Q) (k : ℕ) (s : S) (rs : List R) (s' : S) (xs : List X) → slave_at g k s rs ≡ came s' xs [] k → g.mode s' ≡ going →
    slave_at g (suc k) s rs ≡ came (g.step s').slave (xs ++ listed (g.step s').said) [] (suc k)
one_step g k s rs s' xs e mode =
    step_more g k s rs (ap (λ a. a.left) e) (ap (λ a. a.made) e) (ap (λ a. g.mode a.slave) e ∙ mode) ∙ ap (stepped g k) e

-- ---- one more reply

ready_last_in : {S M X R E Q : Type 0} (g : Sides S M X R E Q) → AreFair g → (mode : Mode) (s : S) (rs : List R) (r : R) → g.mode s ≡ mode → (ready_in g mode s rs).left ≡ [] →
    g.mode (ready_in g mode s rs).slave ≡ waits → ready_in g mode s (rs ++ r ∷ []) ≡ having (g.take r (ready_in g mode s rs).slave) []
ready_last_in g fair going s rs r is left mode = going_waits (sym is ∙ mode)
ready_last_in g fair over s rs r is left mode = over_waits (sym is ∙ mode)
ready_last_in g fair waits s [] r is left mode = refl
ready_last_in g fair waits s (r' ∷ rs) r is left mode = zero_not_suc 0 (sym (fair.takes s r' is) ∙ ap waiting mode)

ready_longer_in : {S M X R E Q : Type 0} (g : Sides S M X R E Q) (mode : Mode) (s : S) (rs : List R) (r : R) → g.mode s ≡ mode →
    waiting (g.mode (ready_in g mode s rs).slave) ≡ 0 → ready_in g mode s (rs ++ r ∷ []) ≡ having (ready_in g mode s rs).slave ((ready_in g mode s rs).left ++ r ∷ [])
ready_longer_in g going s rs r is idle = refl
ready_longer_in g over s rs r is idle = refl
ready_longer_in g waits s [] r is idle = zero_not_suc 0 (sym idle ∙ ap waiting is)
ready_longer_in g waits s (r' ∷ rs) r is idle = refl

abbrev With : {S M X R E Q : Type 0} → Sides S M X R E Q → R → ℕ → S → List R → Type 0
With g r k s rs = (slave_at g k s rs).left ≡ [] → (slave_at g k s rs).made ≡ k → g.mode (slave_at g k s rs).slave ≡ waits →
    slave_at g k s (rs ++ r ∷ []) ≡ came (g.take r (slave_at g k s rs).slave) (slave_at g k s rs).said [] k

abbrev after_ready : {S M X R E Q : Type 0} → Sides S M X R E Q → ℕ → Ready S R → At S X R
after_ready g k c = moved_on g (g.mode c.slave) c (slave_at g k (g.step c.slave).slave c.left)

take_in : {S M X R E Q : Type 0} (g : Sides S M X R E Q) (r : R) (k : ℕ) (s : S) (rs : List R) (c : Ready S R) → ready g s rs ≡ c → With g r k (g.step c.slave).slave c.left → (mode : Mode) → g.mode c.slave ≡ mode →
    (moved_on g mode c (slave_at g k (g.step c.slave).slave c.left)).left ≡ [] → (moved_on g mode c (slave_at g k (g.step c.slave).slave c.left)).made ≡ suc k →
    g.mode (moved_on g mode c (slave_at g k (g.step c.slave).slave c.left)).slave ≡ waits →
    (waiting (g.mode c.slave) ≡ 0 → ready g s (rs ++ r ∷ []) ≡ having c.slave (c.left ++ r ∷ [])) →
    slave_at g (suc k) s (rs ++ r ∷ []) ≡
    came (g.take r (moved_on g mode c (slave_at g k (g.step c.slave).slave c.left)).slave) (moved_on g mode c (slave_at g k (g.step c.slave).slave c.left)).said [] (suc k)
take_in g r k s rs c e more going is left made mode longer =
    ap (after_ready g k) (longer (ap waiting is)) ∙
    ap (λ mode. moved_on g mode (having c.slave (c.left ++ r ∷ [])) (slave_at g k (g.step c.slave).slave (c.left ++ r ∷ []))) is ∙
    ap (moved_on g going c) (more left (suc_same _ _ made) mode)
take_in g r k s rs c e more waits is left made mode longer = zero_not_suc k made
take_in g r k s rs c e more over is left made mode longer = zero_not_suc k made

take_more : {S M X R E Q : Type 0} (g : Sides S M X R E Q) → AreFair g → (r : R) (k : ℕ) (s : S) (rs : List R) → With g r k s rs
take_more g fair r zero s rs left made mode = ap (λ c. came c.slave [] c.left 0) (ready_last_in g fair (g.mode s) s rs r refl left mode)
take_more g fair r (suc k) s rs left made mode =
    take_in g r k s rs (ready g s rs) refl (take_more g fair r k (g.step (ready g s rs).slave).slave (ready g s rs).left) (g.mode (ready g s rs).slave) refl left made mode (ready_longer_in g (g.mode s) s rs r refl)

pub one_reply : {S M X R E Q : Type 0} (g : Sides S M X R E Q) → AreFair g → (r : R) (k : ℕ) (s : S) (rs : List R) (s' : S) (xs : List X) → slave_at g k s rs ≡ came s' xs [] k → g.mode s' ≡ waits →
    slave_at g k s (rs ++ r ∷ []) ≡ came (g.take r s') xs [] k
one_reply g fair r k s rs s' xs e mode =
    take_more g fair r k s rs (ap (λ a. a.left) e) (ap (λ a. a.made) e) (ap (λ a. g.mode a.slave) e ∙ mode) ∙ ap (λ a. came (g.take r a.slave) a.said [] k) e

-- ---- what is said only grows, and at the bound the slave has come to rest

abbrev pub IsFirstOf : {X : Type 0} → List X → List X → Type 0
IsFirstOf {X = X} xs ys = (rest : List X) × (ys ≡ xs ++ rest)

grows_in : {S M X R E Q : Type 0} (g : Sides S M X R E Q) (c : Ready S R) (mode : Mode) (a b : At S X R) → IsFirstOf a.said b.said → IsFirstOf (moved_on g mode c a).said (moved_on g mode c b).said
grows_in g c going a b h = (h.0, ap (with_said (g.step c.slave).said) h.1 ∙ said_more (g.step c.slave).said a.said h.0)
grows_in g c waits a b h = ([], refl)
grows_in g c over a b h = ([], refl)

pub said_grows : {S M X R E Q : Type 0} (g : Sides S M X R E Q) (k longest : ℕ) (s : S) (rs : List R) → k ≤ longest → IsFirstOf (slave_at g k s rs).said (slave_at g longest s rs).said
said_grows g zero longest s rs h = ((slave_at g longest s rs).said, refl)
said_grows g (suc k) zero s rs h = absurd (omega (arith, h))
said_grows g (suc k) (suc longest) s rs h =
    let c = ready g s rs in
    grows_in g c (g.mode c.slave) (slave_at g k (g.step c.slave).slave c.left) (slave_at g longest (g.step c.slave).slave c.left)
    (said_grows g k longest (g.step c.slave).slave c.left (omega (arith, h)))

moves_on_in : {S M X R E Q : Type 0} (g : Sides S M X R E Q) (k : ℕ) (c : Ready S R) (mode : Mode) → g.mode c.slave ≡ mode → (a b : At S X R) → (g.mode a.slave ≡ going → b.made ≡ suc k) →
    g.mode (moved_on g mode c a).slave ≡ going → (moved_on g mode c b).made ≡ suc (suc k)
moves_on_in g k c going is a b more e = ap (λ n. suc n) (more e)
moves_on_in g k c waits is a b more e = waits_going (sym is ∙ e)
moves_on_in g k c over is a b more e = over_going (sym is ∙ e)

moves_on : {S M X R E Q : Type 0} (g : Sides S M X R E Q) (k : ℕ) (s : S) (rs : List R) → g.mode (slave_at g k s rs).slave ≡ going → (slave_at g (suc k) s rs).made ≡ suc k
moves_on g zero s rs e =
    let c = ready g s rs in
    ap (λ mode. (moved_on g mode c (slave_at g 0 (g.step c.slave).slave c.left)).made) e
moves_on g (suc k) s rs e =
    let c = ready g s rs in
    moves_on_in g k c (g.mode c.slave) refl (slave_at g k (g.step c.slave).slave c.left) (slave_at g (suc k) (g.step c.slave).slave c.left) (moves_on g k (g.step c.slave).slave c.left) e

pub at_rest : {S M X R E Q : Type 0} (g : Sides S M X R E Q) (longest : ℕ) (s : S) → IsLongest g longest s → (rs : List R) → g.mode (slave_at g longest s rs).slave ≡ going → ⊥
at_rest g longest s bound rs e =
    let made : (slave_at g (suc longest) s rs).made ≡ suc longest = moves_on g longest s rs e in
    let most : (slave_at g (suc longest) s rs).made ≤ longest = bound rs (suc longest) in
    omega (arith, made, most)
