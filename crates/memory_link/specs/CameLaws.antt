-- It is reflexive and transitive.
use Rattle.std.proofs.Common.{◌≡◌, ℕ, ◌+◌, List, [], ◌∷◌, ◌++◌, Option, Some, None, IfSome, refl, sym, ◌∙◌, ap, subst, append_assoc}
use Rattle.pt_base.specs.Talk.{Event, gave, took}
use Rattle.pt_base.specs.Turns.{DropsFirst}
use Rattle.pt_base.specs.declared.chooser.Who as base
use Rattle.pair_protocol.specs.Pair.{Who}
use Rattle.pair_meaning.specs.LinkChoosing.{half_named, AreFirst, AreTaken}
use Rattle.pair_meaning.specs.LinkTalks.{Side, hears, Runs}
use Rattle.memory_link.specs.declared.link.MemoryLink.{MemoryLink}
use Rattle.memory_link.specs.Came.{Came}

-- ---- answers

first_same : (x : List Who) (told mid rest : ℕ → base.Who) → ((k : ℕ) → mid k ≡ told k) → AreFirst x mid rest → AreFirst x told rest
first_same [] told mid rest e h = λ k. h k ∙ e k
first_same (who ∷ x) told mid rest e h = (h.0 ∙ ap half_named (e 0), first_same x (λ k. told (k + 1)) (λ k. mid (k + 1)) rest (λ k. e (k + 1)) h.1)

first_append : (x y : List Who) (told mid rest : ℕ → base.Who) → AreFirst x told mid → AreFirst y mid rest → AreFirst (x ++ y) told rest
first_append [] y told mid rest e h = first_same y told mid rest e h
first_append (who ∷ x) y told mid rest g h = (g.0, first_append x y (λ k. told (k + 1)) mid rest g.1 h)

pub taken_append : (x y : List Who) (a b c : Option (ℕ → base.Who)) → AreTaken x a b → AreTaken y b c → AreTaken (x ++ y) a c
taken_append x y None b c g h = tt {0}
taken_append x y (Some told) None c g h = absurd g
taken_append x y (Some told) (Some mid) None g h = absurd h
taken_append x y (Some told) (Some mid) (Some rest) g h = first_append x y told mid rest g h

pub taken_none : (a : Option (ℕ → base.Who)) → AreTaken [] a a
taken_none None = tt {0}
taken_none (Some told) = λ k. refl

pub taken_one : (who : base.Who) (a b : Option (ℕ → base.Who)) → IfSome a (λ told. who ≡ told 0) → DropsFirst a b → AreTaken (half_named who ∷ []) a b
taken_one who None b g h = tt {0}
taken_one who (Some told) None g h = absurd h
taken_one who (Some told) (Some rest) g h = (ap half_named g, h)

-- ---- talks

runs_append : (window : ℕ) (x y : List Who) (h at end : Side) (s t : List Event) → Runs window x h s at → Runs window y at t end → Runs window (x ++ y) h (s ++ t) end
runs_append window x y h at end [] t g k =
    subst (λ (z : List Who). Runs window (z ++ y) h t end) (sym g.0) (subst (λ (m : Side). Runs window y m t end) g.1 k)
runs_append window x y h at end (took bytes ∷ s) t g k = runs_append window x y (hears bytes h) at end s t g k
runs_append window x y h at end (gave piece ∷ s) t (first, others, mid, e, gives, runs) k =
    (first, others ++ y, mid, ap (λ z. z ++ y) e ∙ append_assoc first others y, gives, runs_append window others y mid at end s t runs k)

pub came-same : {C : Type 0} (answers : C → Option (ℕ → base.Who)) (l : MemoryLink C) → Came answers l [] l
came-same answers l = record { window = refl; same_reference = refl; under = []; taken = taken_none (answers l.chooser.now); runs = λ s is. (s, is, (refl, refl)) }

pub came-further : {C : Type 0} (answers : C → Option (ℕ → base.Who)) (a b c : MemoryLink C) (x y : List Event) → Came answers a x b → Came answers b y c → Came answers a (x ++ y) c
came-further answers a b c x y g h = record {
  window = h.window ∙ g.window;
  same_reference = h.same_reference ∙ g.same_reference;
  under = g.under ++ h.under;
  taken = taken_append g.under h.under (answers a.chooser.now) (answers b.chooser.now) (answers c.chooser.now) g.taken h.taken;
  runs = λ s is.
      let first = g.runs s is in
      let next = h.runs first.0 first.1 in
      (next.0, next.1, runs_append a.window g.under h.under s first.0 next.0 x y first.2 (subst (λ (w : ℕ). Runs w h.under first.0 y next.0) g.window next.2));
}
