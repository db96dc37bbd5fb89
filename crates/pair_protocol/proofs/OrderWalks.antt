-- A monitor over a first part of what a slave says walks with the synchronous pair.
use Rattle.std.proofs.Common.{◌≡◌, ℕ, zero, suc, List, [], ◌∷◌, ◌++◌, refl, sym, ◌∙◌, ap, subst, arith, Bool, true, false, Option, Some, None}
use Rattle.facts.proofs.Booleans.{true_not_false}
use Rattle.facts.proofs.Lists.{append_grouped, append_nil, nil_not_cons}
use Rattle.facts.proofs.Numbers.{zero_not_suc}
use Rattle.pair_protocol.specs.Sides.{Mode, going, waits, over, Served, goes_on, ends, bad, Sides, AreFair, HasReply, of_bool, waiting, asks}
use Rattle.pair_protocol.specs.SlaveRun.{At, having, with_said, moved_on, slave_at}
use Rattle.pair_protocol.specs.Serving.{Stop, still, ended, broken, All, after, serve_all}
use Rattle.pair_protocol.specs.Pair.{Both, run, wrong, answered, heard, both_in, both_step, both_from}
use Rattle.pair_protocol.specs.OrderLaws.{ComesTo, SaidBy}
use Rattle.pair_protocol.proofs.OrderFacts.{first, others}
use Rattle.pair_protocol.proofs.OrderSlaveFacts.{ready_idle, taken_first}

later : {S M X R E Q : Type 0} (g : Sides S M X R E Q) (T U : ℕ → Type 0) (b c : Both S M E Q) (v : List ℕ) (stop : Stop M E Q) → ((k : ℕ) → T k → U (suc k)) → both_step g b ≡ c → ComesTo g T c v stop → ComesTo g U b v stop
later g T U b c v (still m) so e h = (suc h.0, h.1, ap (both_from g h.0) e ∙ h.2, so h.0 h.3)
later g T U b c v (ended e') so e h = (suc h.0, ap (both_from g h.0) e ∙ h.1)
later g T U b c v (broken q) so e h = (suc h.0, ap (both_from g h.0) e ∙ h.1)

retold : {S M X R E Q : Type 0} (g : Sides S M X R E Q) (T U : ℕ → Type 0) (b : Both S M E Q) (v : List ℕ) (stop : Stop M E Q) → ((k : ℕ) → T k → U k) → ComesTo g T b v stop → ComesTo g U b v stop
retold g T U b v (still m) so h = (h.0, h.1, h.2, so h.0 h.3)
retold g T U b v (ended e') so h = h
retold g T U b v (broken q) so h = h

-- the slave goes on: what its next step says is said first
abbrev pub rest_of : {S M X R E Q : Type 0} → Sides S M X R E Q → ℕ → S → List R → At S X R
rest_of g n s rs = slave_at g n (g.step s).slave rs

pub opens : {S M X R E Q : Type 0} (g : Sides S M X R E Q) (n : ℕ) (s : S) (rs : List R) (mode : Mode) → g.mode s ≡ mode → waiting mode ≡ 0 →
    slave_at g (suc n) s rs ≡ moved_on g mode (having s rs) (rest_of g n s rs)
opens g n s rs mode is idle =
    ap (λ c. moved_on g (g.mode c.slave) c (slave_at g n (g.step c.slave).slave c.left)) (ready_idle g s rs (ap waiting is ∙ idle)) ∙ ap (λ mode. moved_on g mode (having s rs) (rest_of g n s rs)) is

pub one_waits : (mode : Mode) → waiting mode ≡ 1 → mode ≡ waits
one_waits going e = zero_not_suc 0 e
one_waits waits e = refl
one_waits over e = zero_not_suc 0 e

-- a step further on, what is said is said behind what that step said
said_later : {S M X R E Q : Type 0} (g : Sides S M X R E Q) (n : ℕ) (s : S) (rs : List R) (o : Option X) (xs : List X) → g.mode s ≡ going → (g.step s).said ≡ o → (k : ℕ) → SaidBy g n (g.step s).slave rs xs k → SaidBy g (suc n) s rs (with_said o xs) (suc k)
said_later g n s rs o xs mode said k h =
    let most = h.0 in (
      omega (arith, most),
      ap (λ a. a.said) (opens g k s rs going mode refl) ∙ ap (λ o. with_said o (slave_at g k (g.step s).slave rs).said) said ∙ ap (with_said o) h.1,
    )

-- what the synchronous pair comes to, over these messages
abbrev Reaches : {S M X R E Q : Type 0} → Sides S M X R E Q → ℕ → S → List X → Both S M E Q → List ℕ → All M R E Q → Type 0
Reaches g n s xs b w a = ComesTo g (SaidBy g n s a.replies xs) b (w ++ a.bytes) a.stop

abbrev Walk : {S M X R E Q : Type 0} → Sides S M X R E Q → ℕ → Type 0
Walk {S = S} {M = M} {X = X} g n = (s : S) (m : M) (w : List ℕ) (xs rest : List X) → waiting (g.mode s) ≡ 0 → (slave_at g n s (serve_all g m xs).replies).said ≡ xs ++ rest → Reaches g n s xs (run s m w) w (serve_all g m xs)

nothing : {S M X R E Q : Type 0} (g : Sides S M X R E Q) (n : ℕ) (s : S) (m : M) (w : List ℕ) → Reaches g n s [] (run s m w) w (serve_all g m [])
nothing g n s m w = (0, s, ap (λ v. run s m v) (sym (append_nil w)), (omega arith, refl))

walk_served : {S M X R E Q : Type 0} (g : Sides S M X R E Q) → AreFair g → (n : ℕ) → Walk g n → (s : S) (w : List ℕ) (xs rest : List X) (wants : Bool) (r : Served M R E Q) → HasReply wants r → waiting (g.mode s) ≡ of_bool wants →
    (slave_at g n s (after r (λ m. serve_all g m xs)).replies).said ≡ xs ++ rest → Reaches g n s xs (answered g s w r) w (after r (λ m. serve_all g m xs))
walk_served g fair n walk s w xs rest true (goes_on m None bytes) h idle e = absurd h
walk_served g fair n walk s w xs rest false (goes_on m (Some r) bytes) h idle e = absurd h
walk_served g fair n walk s w xs rest false (goes_on m None bytes) h idle e =
    let a = serve_all g m xs in
    subst (λ v. ComesTo g (SaidBy g n s a.replies xs) (run s m (w ++ bytes)) v a.stop) (append_grouped w bytes a.bytes) (walk s m (w ++ bytes) xs rest idle e)
walk_served g fair n walk s w xs rest true (goes_on m (Some r) bytes) h idle e =
    let a = serve_all g m xs in
    let mode = one_waits (g.mode s) idle in
    retold g (SaidBy g n (g.take r s) a.replies xs) (SaidBy g n s (r ∷ a.replies) xs) (run (g.take r s) m (w ++ bytes)) (w ++ (bytes ++ a.bytes)) a.stop
    (λ k h. (h.0, ap (λ a. a.said) (taken_first g fair k s r a.replies mode) ∙ h.1))
    (subst (λ v. ComesTo g (SaidBy g n (g.take r s) a.replies xs) (run (g.take r s) m (w ++ bytes)) v a.stop) (append_grouped w bytes a.bytes)
    (walk (g.take r s) m (w ++ bytes) xs rest (fair.takes s r mode) (ap (λ a. a.said) (sym (taken_first g fair n s r a.replies mode)) ∙ e)))
walk_served g fair n walk s w xs rest wants (ends bytes e') h idle e = (0, refl)
walk_served g fair n walk s w xs rest wants (bad q) h idle e = (0, ap (λ v. wrong v q) (sym (append_nil w)))

walk_said : {S M X R E Q : Type 0} (g : Sides S M X R E Q) → AreFair g → (n : ℕ) → Walk g n → (s : S) (m : M) (w : List ℕ) (x : X) (xs rest : List X) → waiting (g.mode s) ≡ 0 → g.mode s ≡ going → (o : Option X) → (g.step s).said ≡ o →
    with_said o (rest_of g n s (serve_all g m (x ∷ xs)).replies).said ≡ x ∷ (xs ++ rest) → Reaches g (suc n) s (x ∷ xs) (run s m w) w (serve_all g m (x ∷ xs))
walk_said g fair n walk s m w x xs rest idle mode None said e =
    let a = serve_all g m (x ∷ xs) in
    later g (SaidBy g n (g.step s).slave a.replies (x ∷ xs)) (SaidBy g (suc n) s a.replies (x ∷ xs)) (run s m w) (run (g.step s).slave m w) (w ++ a.bytes) a.stop
    (said_later g n s a.replies None (x ∷ xs) mode said)
    (ap (λ mode. both_in g mode s m w) mode ∙ ap (λ o. heard g (g.step s).slave o m w) said)
    (walk (g.step s).slave m w (x ∷ xs) rest (fair.steps s mode ∙ ap (asks g.wants) said) e)
walk_said g fair n walk s m w x xs rest idle mode (Some y) said e =
    let a = serve_all g m (x ∷ xs) in
    let same = ap (first x) e in
    later g (SaidBy g n (g.step s).slave a.replies xs) (SaidBy g (suc n) s a.replies (x ∷ xs)) (run s m w) (answered g (g.step s).slave w (g.serve m x)) (w ++ a.bytes) a.stop
    (said_later g n s a.replies (Some x) xs mode (said ∙ ap (λ y. Some y) same))
    (ap (λ mode. both_in g mode s m w) mode ∙ ap (λ o. heard g (g.step s).slave o m w) said ∙ ap (λ x. answered g (g.step s).slave w (g.serve m x)) same)
    (walk_served g fair n walk (g.step s).slave w xs rest (g.wants x) (g.serve m x) (fair.serves m x) (fair.steps s mode ∙ ap (asks g.wants) said ∙ ap (λ x. of_bool (g.wants x)) same) (ap others e))

walk_on : {S M X R E Q : Type 0} (g : Sides S M X R E Q) → AreFair g → (n : ℕ) → Walk g n → (s : S) (m : M) (w : List ℕ) (x : X) (xs rest : List X) → waiting (g.mode s) ≡ 0 → (mode : Mode) → g.mode s ≡ mode →
    (slave_at g (suc n) s (serve_all g m (x ∷ xs)).replies).said ≡ x ∷ (xs ++ rest) → Reaches g (suc n) s (x ∷ xs) (run s m w) w (serve_all g m (x ∷ xs))
walk_on g fair n walk s m w x xs rest idle going is e =
    walk_said g fair n walk s m w x xs rest idle is (g.step s).said refl (ap (λ a. a.said) (sym (opens g n s (serve_all g m (x ∷ xs)).replies going is refl)) ∙ e)
walk_on g fair n walk s m w x xs rest idle waits is e = zero_not_suc 0 (sym idle ∙ ap waiting is)
walk_on g fair n walk s m w x xs rest idle over is e = nil_not_cons x (xs ++ rest) (ap (λ a. a.said) (sym (opens g n s (serve_all g m (x ∷ xs)).replies over is refl)) ∙ e)

pub walks : {S M X R E Q : Type 0} (g : Sides S M X R E Q) → AreFair g → (n : ℕ) (s : S) (m : M) (w : List ℕ) (xs rest : List X) → waiting (g.mode s) ≡ 0 → (slave_at g n s (serve_all g m xs).replies).said ≡ xs ++ rest →
    ComesTo g (SaidBy g n s (serve_all g m xs).replies xs) (run s m w) (w ++ (serve_all g m xs).bytes) (serve_all g m xs).stop
walks g fair zero s m w [] rest idle e = nothing g 0 s m w
walks g fair zero s m w (x ∷ xs) rest idle e = nil_not_cons x (xs ++ rest) e
walks g fair (suc n) s m w [] rest idle e = nothing g (suc n) s m w
walks g fair (suc n) s m w (x ∷ xs) rest idle e = walk_on g fair n (walks g fair n) s m w x xs rest idle (g.mode s) refl e

-- ---- where all that is said was served and the monitor is open, the synchronous pair has come to rest

abbrev pub Rests : {S M X R E Q : Type 0} → Sides S M X R E Q → Both S M E Q → Type 0
Rests {S = S} {M = M} g b = (k : ℕ) × (s : S) × (m : M) × (v : List ℕ) × (both_from g k b ≡ run s m v) × (g.mode s ≡ over)

rests_later : {S M X R E Q : Type 0} (g : Sides S M X R E Q) (b c : Both S M E Q) → both_step g b ≡ c → Rests g c → Rests g b
rests_later g b c e h = (suc h.0, h.1, h.2, h.3, ap (both_from g h.0) e ∙ h.4, h.5)

abbrev pub is_open : {M E Q : Type 0} → Stop M E Q → Bool
is_open (still m) = true
is_open (ended e) = false
is_open (broken q) = false

abbrev Rest : {S M X R E Q : Type 0} → Sides S M X R E Q → ℕ → Type 0
Rest {S = S} {M = M} {X = X} g n = (s : S) (m : M) (w : List ℕ) (xs : List X) → waiting (g.mode s) ≡ 0 → (g.mode (slave_at g n s (serve_all g m xs).replies).slave ≡ going → ⊥) →
    (slave_at g n s (serve_all g m xs).replies).said ≡ xs → is_open (serve_all g m xs).stop ≡ true → Rests g (run s m w)

rest_served : {S M X R E Q : Type 0} (g : Sides S M X R E Q) → AreFair g → (n : ℕ) → Rest g n → (s : S) (w : List ℕ) (xs : List X) (wants : Bool) (r : Served M R E Q) → HasReply wants r → waiting (g.mode s) ≡ of_bool wants →
    (g.mode (slave_at g n s (after r (λ m. serve_all g m xs)).replies).slave ≡ going → ⊥) → (slave_at g n s (after r (λ m. serve_all g m xs)).replies).said ≡ xs → is_open (after r (λ m. serve_all g m xs)).stop ≡ true →
    Rests g (answered g s w r)
rest_served g fair n more s w xs true (goes_on m None bytes) h idle rest e open' = absurd h
rest_served g fair n more s w xs false (goes_on m (Some r) bytes) h idle rest e open' = absurd h
rest_served g fair n more s w xs false (goes_on m None bytes) h idle rest e open' = more s m (w ++ bytes) xs idle rest e open'
rest_served g fair n more s w xs true (goes_on m (Some r) bytes) h idle rest e open' =
    let mode = one_waits (g.mode s) idle in
    let same = taken_first g fair n s r (serve_all g m xs).replies mode in
    more (g.take r s) m (w ++ bytes) xs (fair.takes s r mode) (λ is. rest (ap (λ a. g.mode a.slave) same ∙ is)) (ap (λ a. a.said) (sym same) ∙ e) open'
rest_served g fair n more s w xs wants (ends bytes e') h idle rest e open' = true_not_false (sym open')
rest_served g fair n more s w xs wants (bad q) h idle rest e open' = true_not_false (sym open')

rest_heard : {S M X R E Q : Type 0} (g : Sides S M X R E Q) → AreFair g → (n : ℕ) → Rest g n → (s : S) (m : M) (w : List ℕ) (y : X) (xs : List X) → g.mode s ≡ going → (g.step s).said ≡ Some y →
    (g.mode (rest_of g n s (serve_all g m xs).replies).slave ≡ going → ⊥) → y ∷ (rest_of g n s (serve_all g m xs).replies).said ≡ xs → is_open (serve_all g m xs).stop ≡ true → Rests g (run s m w)
rest_heard g fair n more s m w y [] mode said rest e open' = nil_not_cons y (rest_of g n s []).said (sym e)
rest_heard g fair n more s m w y (x ∷ xs) mode said rest e open' =
    let same = ap (first x) e in
    rests_later g (run s m w) (answered g (g.step s).slave w (g.serve m x))
    (ap (λ mode. both_in g mode s m w) mode ∙ ap (λ o. heard g (g.step s).slave o m w) said ∙ ap (λ x. answered g (g.step s).slave w (g.serve m x)) same)
    (rest_served g fair n more (g.step s).slave w xs (g.wants x) (g.serve m x) (fair.serves m x) (fair.steps s mode ∙ ap (asks g.wants) said ∙ ap (λ x. of_bool (g.wants x)) same) rest (ap others e) open')

rest_said : {S M X R E Q : Type 0} (g : Sides S M X R E Q) → AreFair g → (n : ℕ) → Rest g n → (s : S) (m : M) (w : List ℕ) (xs : List X) → g.mode s ≡ going → (o : Option X) → (g.step s).said ≡ o →
    (g.mode (rest_of g n s (serve_all g m xs).replies).slave ≡ going → ⊥) → with_said o (rest_of g n s (serve_all g m xs).replies).said ≡ xs → is_open (serve_all g m xs).stop ≡ true → Rests g (run s m w)
rest_said g fair n more s m w xs mode None said rest e open' =
    rests_later g (run s m w) (run (g.step s).slave m w)
    (ap (λ mode. both_in g mode s m w) mode ∙ ap (λ o. heard g (g.step s).slave o m w) said)
    (more (g.step s).slave m w xs (fair.steps s mode ∙ ap (asks g.wants) said) rest e open')
rest_said g fair n more s m w xs mode (Some y) said rest e open' = rest_heard g fair n more s m w y xs mode said rest e open'

rest_on : {S M X R E Q : Type 0} (g : Sides S M X R E Q) → AreFair g → (n : ℕ) → Rest g n → (s : S) (m : M) (w : List ℕ) (xs : List X) → waiting (g.mode s) ≡ 0 → (mode : Mode) → g.mode s ≡ mode →
    (g.mode (slave_at g (suc n) s (serve_all g m xs).replies).slave ≡ going → ⊥) → (slave_at g (suc n) s (serve_all g m xs).replies).said ≡ xs → is_open (serve_all g m xs).stop ≡ true → Rests g (run s m w)
rest_on g fair n more s m w xs idle going is rest e open' =
    let same = opens g n s (serve_all g m xs).replies going is refl in
    rest_said g fair n more s m w xs is (g.step s).said refl (λ at. rest (ap (λ a. g.mode a.slave) same ∙ at)) (ap (λ a. a.said) (sym same) ∙ e) open'
rest_on g fair n more s m w xs idle waits is rest e open' = zero_not_suc 0 (sym idle ∙ ap waiting is)
rest_on g fair n more s m w xs idle over is rest e open' = (0, s, m, w, refl, is)

rest_first : {S M X R E Q : Type 0} (g : Sides S M X R E Q) (s : S) (m : M) (w : List ℕ) (mode : Mode) → g.mode s ≡ mode → waiting mode ≡ 0 → (mode ≡ going → ⊥) → Rests g (run s m w)
rest_first g s m w going is idle never = absurd (never refl)
rest_first g s m w waits is idle never = zero_not_suc 0 (sym idle)
rest_first g s m w over is idle never = (0, s, m, w, refl, is)

pub rests : {S M X R E Q : Type 0} (g : Sides S M X R E Q) → AreFair g → (n : ℕ) (s : S) (m : M) (w : List ℕ) (xs : List X) → waiting (g.mode s) ≡ 0 → (g.mode (slave_at g n s (serve_all g m xs).replies).slave ≡ going → ⊥) →
    (slave_at g n s (serve_all g m xs).replies).said ≡ xs → is_open (serve_all g m xs).stop ≡ true → Rests g (run s m w)
rests g fair zero s m w xs idle rest e open' =
    rest_first g s m w (g.mode s) refl idle (λ is. rest (ap (λ c. g.mode c.slave) (ready_idle g s (serve_all g m xs).replies idle) ∙ is))
rests g fair (suc n) s m w xs idle rest e open' = rest_on g fair n (rests g fair n) s m w xs idle (g.mode s) refl rest e open'
