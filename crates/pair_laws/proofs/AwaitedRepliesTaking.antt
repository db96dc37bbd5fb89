-- While the pair in which each message is served at once goes on, its slave waits for each reply, and goes on behind it.
use Rattle.std.proofs.Common.{◌≡◌, ℕ, zero, suc, List, [], ◌∷◌, ◌++◌, refl, sym, ◌∙◌, ap, subst, true, false, Option, Some, None}
use Rattle.pt_base.proofs.Lists.{append_grouped, nil_not_cons}
use Rattle.pair_protocol.specs.Sides.{Mode, going, waits, over, Served, goes_on, ends, bad, Sides, AreFair, HasReply, of_bool, waiting, asks}
use Rattle.pair_protocol.specs.SlaveRun.{At, having, with_said, moved_on, ready, slave_at}
use Rattle.pair_protocol.specs.Serving.{after, serve_all}
use Rattle.pair_protocol.specs.Pair.{Both, run, answered, heard, both_in, both_step}
use Rattle.pair_protocol.proofs.OrderSlaveFacts.{ready_none, taken_first}
use Rattle.pair_protocol.proofs.OrderWalks.{one_waits}
use Rattle.pair_laws.proofs.AwaitedRepliesFacts.{first, opens, others}

-- behind the replies before, it waits for the next one, and goes on with it; and so on
abbrev pub AllTaken : {S M X R E Q : Type 0} → Sides S M X R E Q → ℕ → S → List R → List R → Type 0
AllTaken g n s before [] = Unit {0}
AllTaken g n s before (r ∷ rs) = (g.mode (slave_at g n s before).slave ≡ waits) × (g.mode (g.take r (slave_at g n s before).slave) ≡ going) × AllTaken g n s (before ++ r ∷ []) rs

abbrev pub Keeps : {S M X R E Q : Type 0} → Sides S M X R E Q → (Both S M E Q → Type 0) → Type 0
Keeps {S = S} {M = M} {E = E} {Q = Q} g Good = (b : Both S M E Q) → Good b → Good (both_step g b)

abbrev pub GoesOn : {S M X R E Q : Type 0} → Sides S M X R E Q → (Both S M E Q → Type 0) → Type 0
GoesOn {S = S} {M = M} g Good = (s : S) (m : M) (w : List ℕ) → Good (run s m w) → g.mode s ≡ going

abbrev Taking : {S M X R E Q : Type 0} → Sides S M X R E Q → (Both S M E Q → Type 0) → ℕ → Type 0
Taking {S = S} {M = M} {X = X} g Good n = (s : S) (m : M) (w : List ℕ) (xs rest : List X) → Good (run s m w) → (slave_at g n s (serve_all g m xs).replies).said ≡ xs ++ rest → AllTaken g n s [] (serve_all g m xs).replies

-- ---- where it stands

-- of slaves that stand alike behind all replies
moved_over : {S M X R E Q : Type 0} (g : Sides S M X R E Q) (n n' : ℕ) (s s' : S) (more : List R) → ((before : List R) → (slave_at g n s (more ++ before)).slave ≡ (slave_at g n' s' before).slave) →
    (before rs : List R) → AllTaken g n' s' before rs → AllTaken g n s (more ++ before) rs
moved_over g n n' s s' more alike before [] h = tt {0}
moved_over g n n' s s' more alike before (r ∷ rs) h = (
  ap g.mode (alike before) ∙ h.0,
  ap (λ x. g.mode (g.take r x)) (alike before) ∙ h.1,
  subst (λ bs. AllTaken g n s bs rs) (sym (append_grouped more before (r ∷ []))) (moved_over g n n' s s' more alike (before ++ r ∷ []) rs h.2),
)

-- one that waits, and is given nothing, stays
stays_waiting : {S M X R E Q : Type 0} (g : Sides S M X R E Q) (n : ℕ) (s : S) → g.mode s ≡ waits → (slave_at g n s []).slave ≡ s
stays_waiting g zero s is = ap (λ c. c.slave) (ready_none g s)
stays_waiting g (suc n) s is =
    ap (λ c. (moved_on g (g.mode c.slave) c (slave_at g n (g.step c.slave).slave c.left)).slave) (ready_none g s) ∙
    ap (λ mode. (moved_on g mode (having s []) (slave_at g n (g.step s).slave [])).slave) is

-- ---- a message that is served

take_served : {S M X R E Q : Type 0} (g : Sides S M X R E Q) → AreFair g → (Good : Both S M E Q → Type 0) → GoesOn g Good → (n : ℕ) → Taking g Good n → (s : S) (w : List ℕ) (xs rest : List X) (wants : _) (r : Served M R E Q) →
    HasReply wants r → waiting (g.mode s) ≡ of_bool wants → Good (answered g s w r) → (slave_at g n s (after r (λ m. serve_all g m xs)).replies).said ≡ xs ++ rest → AllTaken g n s [] (after r (λ m. serve_all g m xs)).replies
take_served g fair Good goes n rec s w xs rest true (goes_on m None bytes) h idle good e = absurd h
take_served g fair Good goes n rec s w xs rest false (goes_on m (Some r) bytes) h idle good e = absurd h
take_served g fair Good goes n rec s w xs rest false (goes_on m None bytes) h idle good e = rec s m (w ++ bytes) xs rest good e
take_served g fair Good goes n rec s w xs rest true (goes_on m (Some r) bytes) h idle good e =
    let is = one_waits (g.mode s) idle in
    let stays = stays_waiting g n s is in
    let rs = (serve_all g m xs).replies in (
      ap g.mode stays ∙ is,
      ap (λ x. g.mode (g.take r x)) stays ∙ goes (g.take r s) m (w ++ bytes) good,
      moved_over g n n s (g.take r s) (r ∷ []) (λ before. ap (λ a. a.slave) (taken_first g fair n s r before is)) [] rs
          (rec (g.take r s) m (w ++ bytes) xs rest good (sym (ap (λ a. a.said) (taken_first g fair n s r rs is)) ∙ e)),
    )
take_served g fair Good goes n rec s w xs rest wants (ends bytes end) h idle good e = tt {0}
take_served g fair Good goes n rec s w xs rest wants (bad q) h idle good e = tt {0}

-- ---- a step

-- what a step says is the front of what is served
take_said : {S M X R E Q : Type 0} (g : Sides S M X R E Q) → AreFair g → (Good : Both S M E Q → Type 0) → GoesOn g Good → (n : ℕ) → Taking g Good n → (s : S) (m : M) (w : List ℕ) (xs rest : List X) (o : Option X) →
    waiting (g.mode s) ≡ asks g.wants o → Good (heard g s o m w) → with_said o (slave_at g n s (serve_all g m xs).replies).said ≡ xs ++ rest → AllTaken g n s [] (serve_all g m xs).replies
take_said g fair Good goes n rec s m w [] rest o idle good e = tt {0}
take_said g fair Good goes n rec s m w (x ∷ xs) rest None idle good e = rec s m w (x ∷ xs) rest good e
take_said g fair Good goes n rec s m w (x ∷ xs) rest (Some y) idle good e =
    let same = ap (first y) e in
    take_served g fair Good goes n rec s w xs rest (g.wants x) (g.serve m x) (fair.serves m x)
    (idle ∙ ap (λ y. of_bool (g.wants y)) same) (subst (λ y. Good (answered g s w (g.serve m y))) same good) (ap others e)

take_step : {S M X R E Q : Type 0} (g : Sides S M X R E Q) → AreFair g → (Good : Both S M E Q → Type 0) → Keeps g Good → GoesOn g Good → (n : ℕ) → Taking g Good n → Taking g Good (suc n)
take_step g fair Good keeps goes n rec s m w xs rest good e =
    let mode = goes s m w good in
    let rs = (serve_all g m xs).replies in
    moved_over g (suc n) n s (g.step s).slave [] (λ before. ap (λ a. a.slave) (opens g n s before mode)) [] rs
    (take_said g fair Good goes n rec (g.step s).slave m w xs rest (g.step s).said (fair.steps s mode) (subst (λ mode. Good (both_in g mode s m w)) mode (keeps (run s m w) good))
    (sym (ap (λ a. a.said) (opens g n s rs mode)) ∙ e))

at_start : {S M X R E Q : Type 0} (g : Sides S M X R E Q) (s : S) (m : M) (xs rest : List X) → [] ≡ xs ++ rest → AllTaken g 0 s [] (serve_all g m xs).replies
at_start g s m [] rest e = tt {0}
at_start g s m (x ∷ xs) rest e = nil_not_cons x (xs ++ rest) e

pub taking : {S M X R E Q : Type 0} (g : Sides S M X R E Q) → AreFair g → (Good : Both S M E Q → Type 0) → Keeps g Good → GoesOn g Good → (n : ℕ) → Taking g Good n
taking g fair Good keeps goes zero s m w xs rest good e = at_start g s m xs rest e
taking g fair Good keeps goes (suc n) s m w xs rest good e = take_step g fair Good keeps goes n (taking g fair Good keeps goes n) s m w xs rest good e
