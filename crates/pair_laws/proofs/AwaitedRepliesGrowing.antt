-- With more replies a slave says what it said, and maybe more.
use Rattle.std.proofs.Common.{◌≡◌, ℕ, zero, suc, List, [], ◌∷◌, ◌++◌, refl, sym, ◌∙◌, ap, Option}
use Rattle.pair_protocol.specs.Sides.{Mode, going, waits, over, Sides}
use Rattle.pair_protocol.specs.SlaveRun.{Ready, having, ready_in, ready, with_said, moved_on, slave_at}
use Rattle.pair_protocol.proofs.OrderFacts.{said_more}

abbrev pub IsFront : {X : Type 0} → List X → List X → Type 0
IsFront {X = X} xs ys = (rest : List X) × (ys ≡ xs ++ rest)

abbrev Grows : {S M X R E Q : Type 0} → Sides S M X R E Q → ℕ → Type 0
Grows {S = S} {R = R} g n = (s : S) (rs more : List R) → IsFront (slave_at g n s rs).said (slave_at g n s (rs ++ more)).said

-- it goes on from the same slave, with more replies left
grows_in : {S M X R E Q : Type 0} (g : Sides S M X R E Q) (n : ℕ) → Grows g n → (s : S) (left more : List R) (mode : Mode) →
    IsFront (moved_on g mode (having s left) (slave_at g n (g.step s).slave left)).said (moved_on g mode (having s (left ++ more)) (slave_at g n (g.step s).slave (left ++ more))).said
grows_in g n rec s left more going =
    let h = rec (g.step s).slave left more in
    (h.0, ap (with_said (g.step s).said) h.1 ∙ said_more (g.step s).said (slave_at g n (g.step s).slave left).said h.0)
grows_in g n rec s left more waits = ([], refl)
grows_in g n rec s left more over = ([], refl)

abbrev At : {S M X R E Q : Type 0} → Sides S M X R E Q → ℕ → Ready S R → List X
At g n c = (moved_on g (g.mode c.slave) c (slave_at g n (g.step c.slave).slave c.left)).said

nothing_said : {S M X R E Q : Type 0} (g : Sides S M X R E Q) (n : ℕ) (s : S) (mode : Mode) → mode ≡ waits → (moved_on g mode (having s []) (slave_at g n (g.step s).slave [])).said ≡ []
nothing_said g n s mode e = ap (λ mode. (moved_on g mode (having s []) (slave_at g n (g.step s).slave [])).said) e

ready_grows : {S M X R E Q : Type 0} (g : Sides S M X R E Q) (n : ℕ) → Grows g n → (s : S) (mode : Mode) → g.mode s ≡ mode → (rs more : List R) → IsFront (At g n (ready_in g mode s rs)) (At g n (ready_in g mode s (rs ++ more)))
ready_grows g n rec s going is rs more = grows_in g n rec s rs more (g.mode s)
ready_grows g n rec s over is rs more = grows_in g n rec s rs more (g.mode s)
ready_grows g n rec s waits is [] more = (At g n (ready_in g waits s more), ap (λ xs. xs ++ At g n (ready_in g waits s more)) (sym (nothing_said g n s (g.mode s) is)))
ready_grows g n rec s waits is (r ∷ rs) more = grows_in g n rec (g.take r s) rs more (g.mode (g.take r s))

pub grows : {S M X R E Q : Type 0} (g : Sides S M X R E Q) (n : ℕ) → Grows g n
grows g zero s rs more = ([], refl)
grows g (suc n) s rs more = ready_grows g n (grows g n) s (g.mode s) refl rs more
