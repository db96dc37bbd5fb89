-- The privileged slots that marks tell are those to which a path leads.
use Rattle.std.proofs.Common.{◌≡◌, ◌<◌, ◌↔◌, ℕ, refl, true, Option, Some, None, List}
use Rattle.std.specs.Prelude.{is_some, MatchOption}
use Rattle.pt_base.specs.declared.slot.Edge.{Edge}
use Rattle.pt_base.specs.declared.slot.Slot.{Slot}
use Rattle.propagation.specs.Marks.{AreMarks, Shown, path_shown}
use Rattle.propagation.specs.Paths.{IsPriv, IsShortestPath}
use Rattle.reach.specs.Tables.{slot_number}
use Rattle.flow_rules.specs.Laws.{FlowsAreOwn}

pub told : (seeds : List Slot) (edges : List Edge) (s : Slot) (o : Option (List ℕ)) →
    MatchOption o (¬ IsPriv seeds edges s) (λ path. IsShortestPath seeds edges path s) → (is_some o ≡ true) ↔ IsPriv seeds edges s
told seeds edges s None none = (λ h. cc, λ p. absurd (none p))
told seeds edges s (Some path) is = (λ h. (is.0, path, is.1, is.2), λ p. refl)

pub privileged : (seeds : List Slot) (edges : List Edge) (slots : ℕ) (marks : Shown) → AreMarks seeds edges slots marks → (n : ℕ) → n < slots →
    (is_some (path_shown marks (slot_number n)) ≡ true) ↔ IsPriv seeds edges (slot_number n)
privileged seeds edges slots marks are n lt = told seeds edges (slot_number n) (path_shown marks (slot_number n)) (are.paths (slot_number n) lt)

pub own : FlowsAreOwn
own t s marks sides are = record {
  tree = refl;
  slave = sides.slave;
  monitor = sides.monitor;
  seeds_are = sides.seeds;
  edges_are = refl;
  privileged = privileged s.seeds _ _ marks are;
}
