-- A link that heard, or gave.
use Rattle.std.proofs.Common.{◌≡◌, ℕ, List, [], ◌∷◌, false, Option, refl, sym, ap, subst, append-nil}
use Rattle.pt_base.specs.Talk.{gave, took}
use Rattle.pt_base.specs.declared.chooser.Who as base
use Rattle.pair_meaning.specs.LinkChoosing.{AreTaken}
use Rattle.pair_meaning.specs.LinkTalks.{Side, hears}
use Rattle.memory_link.specs.declared.link.MemoryLink.{MemoryLink}
use Rattle.memory_link.specs.Came.{Came}
use Rattle.memory_link.specs.CameLaws.{taken_none}
use Rattle.memory_link.specs.Ends.{HasGiven, IsEnd}

pub heard : {C : Type 0} (answers : C → Option (ℕ → base.Who)) (a b : MemoryLink C) (bytes : List ℕ) → b.window ≡ a.window → b.chooser ≡ a.chooser → b.lost ≡ false →
    ((s : Side) → IsEnd a.end s → IsEnd b.end (hears bytes s)) → Came answers a (took bytes ∷ []) b
heard answers a b bytes window chooser sound hears' = record {
  window = window;
  same_reference = ap (λ r. r.ghost_name) chooser;
  under = [];
  taken = subst (λ r. AreTaken [] (answers a.chooser.now) (answers r.now)) (sym chooser) (taken_none (answers a.chooser.now));
  runs = λ s is. (hears bytes s, record { sound = sound; end = hears' s is.end }, (refl, refl));
}

pub given : {C : Type 0} (answers : C → Option (ℕ → base.Who)) (a b : MemoryLink C) (piece : List ℕ) → b.window ≡ a.window → b.chooser.ghost_name ≡ a.chooser.ghost_name → b.lost ≡ false →
    HasGiven a.window a.end piece b.end (answers a.chooser.now) (answers b.chooser.now) → Came answers a (gave piece ∷ []) b
given answers a b piece window reference sound has = record {
  window = window;
  same_reference = reference;
  under = has.under;
  taken = has.taken;
  runs = λ s is.
      let g = has.gives s is.end in
      (g.0, record { sound = sound; end = g.1 }, (has.under, [], g.0, sym (append-nil has.under), g.2, (refl, refl)));
}
