-- Many steps while nothing waits hand over what one after the other does, whatever the answers are.
use Rattle.std.proofs.Common.{◌≡◌, ◌<◌, ℕ, zero, suc, List, [], ◌∷◌, ◌++◌, length, Bool, true, Option, Some, None, refl, sym, ap, subst, ◌∙◌, arith}
use Rattle.std.specs.Prelude.{◌&&◌, ◌||◌, nat_lt}
use Rattle.std.proofs.lemmas.Bool.{lt-ltb}
use Rattle.pt_base.proofs.Booleans.{or_with_true}
use Rattle.pt_base.proofs.Numbers.{suc_below, suc_same, zero_not_suc}
use Rattle.pair_protocol.specs.Sides.{Mode, going, waits, over, Sides}
use Rattle.pair_protocol.specs.SlaveRun.{At, Ready, came, having, listed, moved_on, ready_in, slave_at, with_said}
use Rattle.pair_protocol.specs.Pair.{Who, is_going, is_slaves, moves}
use Rattle.pair_protocol.specs.Links.{half, Half, Either, Pops, Hands}
use Rattle.pair_protocol.proofs.OrderSlaveFacts.{ready_none}

-- ---- steps without replies

ready_by : {S M X R E Q : Type 0} (g : Sides S M X R E Q) (x : S) (m : Mode) → ready_in g m x [] ≡ having x []
ready_by g x going = refl
ready_by g x waits = refl
ready_by g x over = refl

none_made : {S M X R E Q : Type 0} (g : Sides S M X R E Q) (x : S) → slave_at g 0 x [] ≡ came x [] [] 0
none_made {S = S} {R = R} g x = ap (λ (r : Ready S R). came r.slave [] r.left 0) (ready_none g x)

made_by : {S M X R E Q : Type 0} (g : Sides S M X R E Q) (k : ℕ) (x : S) → slave_at g (suc k) x [] ≡ moved_on g (g.mode x) (having x []) (slave_at g k (g.step x).slave [])
made_by {S = S} {R = R} g k x = ap (λ (r : Ready S R). moved_on g (g.mode r.slave) r (slave_at g k (g.step r.slave).slave r.left)) (ready_none g x)

abbrev behind_step : {X S R : Type 0} → Option X → At S X R → At S X R
behind_step said rest = came rest.slave (with_said said rest.said) rest.left (suc rest.made)

made_going : {S M X R E Q : Type 0} (g : Sides S M X R E Q) (k : ℕ) (x : S) → g.mode x ≡ going → slave_at g (suc k) x [] ≡ behind_step (g.step x).said (slave_at g k (g.step x).slave [])
made_going g k x m = made_by g k x ∙ ap (λ (m : Mode). moved_on g m (having x []) (slave_at g k (g.step x).slave [])) m

-- it goes on where it makes a step
goes : {S M X R E Q : Type 0} (g : Sides S M X R E Q) (k : ℕ) (x : S) (m : Mode) → g.mode x ≡ m → (slave_at g (suc k) x []).made ≡ suc k → g.mode x ≡ going
goes g k x going e made = e
goes {S = S} {X = X} {R = R} g k x waits e made =
    zero_not_suc k (sym (ap (λ (a : At S X R). a.made) (made_by g k x ∙ ap (λ (m : Mode). moved_on g m (having x []) (slave_at g k (g.step x).slave [])) e)) ∙ made)
goes {S = S} {X = X} {R = R} g k x over e made =
    zero_not_suc k (sym (ap (λ (a : At S X R). a.made) (made_by g k x ∙ ap (λ (m : Mode). moved_on g m (having x []) (slave_at g k (g.step x).slave [])) e)) ∙ made)

-- ---- any answer

any_moves : {S M X R E Q : Type 0} (g : Sides S M X R E Q) (window : ℕ) (who : Who) (x : S) → g.mode x ≡ going → 0 < window → moves g window who x [] ≡ true
any_moves g window who x m room =
    ap (λ (m : Mode). (is_going m && nat_lt 0 window) && (is_slaves who || true)) m
    ∙ ap (λ (b : Bool). b && (is_slaves who || true)) (lt-ltb 0 window room)
    ∙ or_with_true (is_slaves who)

-- the rest of the steps, behind one that said this
abbrev From : {S M X R E Q : Type 0} → Sides S M X R E Q → ℕ → S → S → Option X → Type 0
From g k x to said = (slave_at g k x [] ≡ came to (listed said) [] k) × ((j : ℕ) → j < k → (slave_at g j x []).said ≡ [])

not_none : {A X : Type 0} (x : X) (xs : List X) → x ∷ xs ≡ [] → A
not_none x xs e = cc

no_answers : (under : List Who) → length under ≡ 0 → under ≡ []
no_answers [] e = refl
no_answers (who ∷ under) e = zero_not_suc (length under) (sym e)

-- a step that said nothing
silent_rest : {S M X R E Q : Type 0} (g : Sides S M X R E Q) (k : ℕ) (x to : S) (said : Option X) → g.mode x ≡ going → (g.step x).said ≡ None → From g (suc k) x to said → From g k (g.step x).slave to said
silent_rest {S = S} {X = X} {R = R} g k x to said m is (e, quiet) =
    let rest : At S X R = slave_at g k (g.step x).slave [] in
    let same : behind_step (g.step x).said rest ≡ came to (listed said) [] (suc k) = sym (made_going g k x m) ∙ e in
    let slave : rest.slave ≡ to = ap (λ (a : At S X R). a.slave) same in
    let words : rest.said ≡ listed said = sym (ap (λ (w : Option X). with_said w rest.said) is) ∙ ap (λ (a : At S X R). a.said) same in
    let left : rest.left ≡ [] = ap (λ (a : At S X R). a.left) same in
    let made : rest.made ≡ k = suc_same rest.made k (ap (λ (a : At S X R). a.made) same) in (
      λ i. came (slave i) (words i) (left i) (made i),
      λ j less.
          sym (ap (λ (w : Option X). with_said w (slave_at g j (g.step x).slave []).said) is)
          ∙ sym (ap (λ (a : At S X R). a.said) (made_going g j x m)) ∙ quiet (suc j) (suc_below j k less),
    )

-- a step that said something is the last one
last_step : {S M X R E Q : Type 0} (g : Sides S M X R E Q) (k : ℕ) (x to : S) (said : Option X) (word : X) → g.mode x ≡ going → (g.step x).said ≡ Some word → From g (suc k) x to said →
    (k ≡ 0) × (to ≡ (g.step x).slave) × (listed said ≡ listed (g.step x).said)
last_step {S = S} {X = X} {R = R} g zero x to said word m is (e, quiet) =
    let rest : At S X R = slave_at g 0 (g.step x).slave [] in
    let same : behind_step (g.step x).said rest ≡ came to (listed said) [] 1 = sym (made_going g 0 x m) ∙ e in
    let none : rest ≡ came (g.step x).slave [] [] 0 = none_made g (g.step x).slave in (
      refl,
      sym (ap (λ (a : At S X R). a.slave) same) ∙ ap (λ (a : At S X R). a.slave) none,
      sym (ap (λ (a : At S X R). a.said) same) ∙ ap (λ (a : At S X R). with_said (g.step x).said a.said) none ∙ alone (g.step x).said,
    )
  where
    alone : (w : Option X) → with_said w [] ≡ listed w
    alone None = refl
    alone (Some y) = refl
last_step {S = S} {X = X} {R = R} g (suc k) x to said word m is (e, quiet) =
    not_none word (slave_at g 0 (g.step x).slave []).said
    (sym (ap (λ (w : Option X). with_said w (slave_at g 0 (g.step x).slave []).said) is) ∙ sym (ap (λ (a : At S X R). a.said) (made_going g 0 x m)) ∙ quiet 1 (omega arith))

-- ---- many steps

module _ {S M X R E Q : Type 0} (g : Sides S M X R E Q) (window : ℕ) (room : 0 < window) (answers : List Who) (o : Option X) (end : Half S X) where
  abbrev HandsFrom : List Who → S → List X → Type 0
  HandsFrom under x queue = Hands g window (under ++ answers) (half x queue) o end

  one_more : (k : ℕ) (x to : S) (said : Option X) (under : List Who) → length under ≡ k → g.mode x ≡ going → From g (suc k) x to said → HandsFrom [] to (listed said) →
      (From g k (g.step x).slave to said → HandsFrom under (g.step x).slave []) → (w : Option X) → (g.step x).said ≡ w → HandsFrom under (g.step x).slave (listed (g.step x).said)
  one_more k x to said under len m from h ih None is =
      subst (λ (w : Option X). HandsFrom under (g.step x).slave (listed w)) (sym is) (ih (silent_rest g k x to said m is from))
  one_more k x to said under len m from h ih (Some word) is =
      let last = last_step g k x to said word m is from in
      subst (λ (u : List Who). HandsFrom u (g.step x).slave (listed (g.step x).said)) (sym (no_answers under (len ∙ last.0)))
      (subst (λ (y : S). HandsFrom [] y (listed (g.step x).said)) last.1 (subst (λ (q : List X). HandsFrom [] to q) last.2 h))

  pub runs_ahead : (k : ℕ) (x to : S) (said : Option X) (under : List Who) → length under ≡ k → From g k x to said → HandsFrom [] to (listed said) → HandsFrom under x []
  runs_ahead zero x to said [] len (e, quiet) h =
      let same : came x [] [] 0 ≡ came to (listed said) [] 0 = sym (none_made g x) ∙ e in
      subst (λ (y : S). HandsFrom [] y []) (sym (ap (λ (a : At S X R). a.slave) same)) (subst (λ (q : List X). HandsFrom [] to q) (sym (ap (λ (a : At S X R). a.said) same)) h)
  runs_ahead zero x to said (who ∷ under) len from h = zero_not_suc (length under) (sym len)
  runs_ahead (suc k) x to said [] len from h = zero_not_suc k len
  runs_ahead (suc k) x to said (who ∷ under) len from h =
      let m : g.mode x ≡ going = goes g k x (g.mode x) refl (ap (λ (a : At S X R). a.made) from.0) in
      subst (λ (b : Bool). Either b (HandsFrom under (g.step x).slave (listed (g.step x).said)) (Pops (under ++ answers) (half x []) o end)) (sym (any_moves g window who x m room))
      (one_more k x to said under (suc_same (length under) k len) m from h (λ rest. runs_ahead k (g.step x).slave to said under (suc_same (length under) k len) rest h) (g.step x).said refl)
