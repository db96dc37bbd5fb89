-- Facts on the synchronous pair.
use Rattle.std.proofs.Common.{◌≡◌, ℕ, zero, suc, List, [], ◌++◌, refl, sym, ◌∙◌, ap, subst, Bool, true, false, Option, Some, None}
use Rattle.facts.proofs.Booleans.{true_not_false}
use Rattle.facts.proofs.Lists.{append_grouped, append_nil}
use Rattle.pair_protocol.specs.Sides.{Mode, going, waits, over, Served, goes_on, ends, bad, Sides}
use Rattle.pair_protocol.specs.Pair.{Both, run, done, wrong, answered, heard, both_in, both_step, both_from}
use Rattle.pair_protocol.proofs.OrderSlaveFacts.{IsFirstOf}

abbrev pub is_done : {S M E Q : Type 0} → Both S M E Q → Bool
is_done (run s m w) = false
is_done (done b e) = true
is_done (wrong b q) = false

abbrev pub is_run : {S M E Q : Type 0} → Both S M E Q → Bool
is_run (run s m w) = true
is_run (done b e) = false
is_run (wrong b q) = false

pub step_last : {S M X R E Q : Type 0} (g : Sides S M X R E Q) (k : ℕ) (b : Both S M E Q) → both_step g (both_from g k b) ≡ both_from g (suc k) b
step_last g zero b = refl
step_last g (suc k) b = step_last g k (both_step g b)

stays : {S M X R E Q : Type 0} (g : Sides S M X R E Q) (k : ℕ) (b : Both S M E Q) → both_step g b ≡ b → both_from g k b ≡ b
stays g zero b e = refl
stays g (suc k) b e = ap (both_from g k) e ∙ stays g k b e

-- two states at which nothing moves are one
pub ends_once : {S M X R E Q : Type 0} (g : Sides S M X R E Q) (j k : ℕ) (b x y : Both S M E Q) → both_from g j b ≡ x → both_from g k b ≡ y → both_step g x ≡ x → both_step g y ≡ y → x ≡ y
ends_once g zero k b x y p q u v = sym (stays g k x u) ∙ ap (both_from g k) (sym p) ∙ q
ends_once g (suc j) zero b x y p q u v = sym p ∙ ap (both_from g (suc j)) q ∙ stays g (suc j) y v
ends_once g (suc j) (suc k) b x y p q u v = ends_once g j k (both_step g b) x y p q u v

abbrev bytes_of : {S M E Q : Type 0} → List ℕ → Both S M E Q → List ℕ
bytes_of w (run s m v) = w
bytes_of w (done b e) = b
bytes_of w (wrong b q) = w

abbrev end_of : {S M E Q : Type 0} → E → Both S M E Q → E
end_of e' (run s m v) = e'
end_of e' (done b e) = e
end_of e' (wrong b q) = e'

pub same_end : {S M X R E Q : Type 0} (g : Sides S M X R E Q) (j k : ℕ) (c : Both S M E Q) (b b' : List ℕ) (e e' : E) → both_from g j c ≡ done b e → both_from g k c ≡ done b' e' → (b ≡ b') × (e ≡ e')
same_end g j k c b b' e e' p q =
    let same = ends_once g j k c (done b e) (done b' e') p q refl refl in
    (ap (bytes_of b) same, ap (end_of e) same)

-- ---- what is written only grows

abbrev Begins : {S M E Q : Type 0} → List ℕ → Both S M E Q → Type 0
Begins v (run s m w) = IsFirstOf v w
Begins v (done b e) = IsFirstOf v b
Begins v (wrong b q) = IsFirstOf v b

first_more : {X : Type 0} (v w more : List X) → IsFirstOf v w → IsFirstOf v (w ++ more)
first_more v w more h = (h.0 ++ more, ap (λ u. u ++ more) h.1 ∙ append_grouped v h.0 more)

begins_answered : {S M X R E Q : Type 0} (g : Sides S M X R E Q) (v : List ℕ) (s : S) (w : List ℕ) (r : Served M R E Q) → IsFirstOf v w → Begins v (answered g s w r)
begins_answered g v s w (goes_on m o more) h = first_more v w more h
begins_answered g v s w (ends more e) h = first_more v w more h
begins_answered g v s w (bad q) h = h

begins_heard : {S M X R E Q : Type 0} (g : Sides S M X R E Q) (v : List ℕ) (s : S) (o : Option X) (m : M) (w : List ℕ) → IsFirstOf v w → Begins v (heard g s o m w)
begins_heard g v s None m w h = h
begins_heard g v s (Some x) m w h = begins_answered g v s w (g.serve m x) h

begins_in : {S M X R E Q : Type 0} (g : Sides S M X R E Q) (v : List ℕ) (mode : Mode) (s : S) (m : M) (w : List ℕ) → IsFirstOf v w → Begins v (both_in g mode s m w)
begins_in g v going s m w h = begins_heard g v (g.step s).slave (g.step s).said m w h
begins_in g v waits s m w h = h
begins_in g v over s m w h = h

begins_step : {S M X R E Q : Type 0} (g : Sides S M X R E Q) (v : List ℕ) (b : Both S M E Q) → Begins v b → Begins v (both_step g b)
begins_step g v (run s m w) h = begins_in g v (g.mode s) s m w h
begins_step g v (done b e) h = h
begins_step g v (wrong b q) h = h

begins_from : {S M X R E Q : Type 0} (g : Sides S M X R E Q) (v : List ℕ) (k : ℕ) (b : Both S M E Q) → Begins v b → Begins v (both_from g k b)
begins_from g v zero b h = h
begins_from g v (suc k) b h = begins_from g v k (both_step g b) (begins_step g v b h)

pub bytes_grow : {S M X R E Q : Type 0} (g : Sides S M X R E Q) (j k : ℕ) (c : Both S M E Q) (s : S) (m : M) (v b : List ℕ) (e : E) → both_from g j c ≡ run s m v → both_from g k c ≡ done b e → IsFirstOf v b
bytes_grow g zero k c s m v b e p q = subst (Begins v) q (begins_from g v k c (subst (Begins v) (sym p) ([], sym (append_nil v))))
bytes_grow g (suc j) zero c s m v b e p q = true_not_false (ap is_done (sym (stays g (suc j) (done b e) refl) ∙ ap (both_from g (suc j)) (sym q) ∙ p))
bytes_grow g (suc j) (suc k) c s m v b e p q = bytes_grow g j k (both_step g c) s m v b e p q
