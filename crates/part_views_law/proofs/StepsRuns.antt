-- What is seen of a step that is shown, and of runs.
use Rattle.std.proofs.Common.{◌≡◌, ◌+◌, ◌<◌, ◌≤◌, ℕ, zero, suc, List, [], ◌∷◌, length, refl, sym, subst, arith, Bool, false, None, ◌⊎◌, inl, inr}
use Rattle.block_memory.specs.declared.cell.BlockName.TheVariants.{Global, Received}
use Rattle.block_memory.specs.Blocks.{Blocks}
use Rattle.pt_core.specs.CodeTree.{ProgramTree}
use Rattle.pt_core.specs.Calls.{context_in}
use Rattle.pt_core.specs.Steps.{Active, Answer, Machine, Step, answers, asked, ended, idle, moved, settled, spent, step, stepped, trapped}
use Rattle.core_steps_law.specs.WholeRun.{further, further_by, steps_run}
use Rattle.core_soundness_law.specs.Fits.{AllFit, MemoryFits}
use Rattle.core_soundness_law.specs.Kept.{by_store}
use Rattle.core_soundness_law.proofs.Programs.{facts_of, function_facts}
use Rattle.core_soundness_law.proofs.Settings.{setting}
use Rattle.core_soundness_law.proofs.Steps.{settled_fits}
use Rattle.handle_classes.specs.Computes.{computes_in}
use Rattle.part_views_law.specs.Machines.{joined, seen_machine}
use Rattle.part_views_law.specs.Views.{Lies, View}
use Rattle.part_views_law.proofs.Memories.{local_own}
use Rattle.part_views_law.specs.StepsLaws.{After, IsOwn, IsSpent, PartsStep, Sees, StaysShown, StepSeen}
use Rattle.part_views_law.specs.StepsParts.{AllAbove, CallsFit, IsViewed, ShowAlike, Stands}
use Rattle.part_views_law.specs.StepsRuns.{AllPlain, IsLate, PartsRun, RunSeen}
use Rattle.part_views_law.proofs.StepsHeld.{covers_by_fits, held_by_fits}
use Rattle.part_views_law.proofs.StepsStanding.{own_stands}
use Rattle.part_views_law.proofs.StepLemmas.{Env, Seen, works_seen}
use Rattle.part_views_law.proofs.StepsValues.{Reads}

-- ---- what the innermost function sees

pub reads : (whole part : ProgramTree) (v : View) (base : ℕ) (monitor : Bool) (a : Active) (rest : List Active) (blocks : Blocks) → IsViewed v base monitor part whole → MemoryFits (by_store v.store) part (a ∷ rest) blocks → AllFit monitor part (a ∷ rest) → AllAbove base monitor (a ∷ rest) →
    ((k : ℕ) → 1 ≤ length (blocks (Received k)).types → Lies v (Received k)) → Reads v (context_in part a.function) (context_in whole a.function).globals a.depth blocks
reads whole part v base monitor a rest blocks viewed mem fit above received =
    let facts = facts_of monitor part viewed.sound in
    record {
      locals = λ k. local_own v base part viewed.view a.depth k above.0;
      named = λ g has. viewed.view.own (Global g) has;
      typed = λ g has. viewed.parts.globals g has;
      held = held_by_fits v (by_store v.store) monitor part (a ∷ rest) blocks viewed.sound mem fit
          (covers_by_fits v base (by_store v.store) monitor part viewed.view (a ∷ rest) blocks mem above received);
      setting = setting (by_store v.store) monitor part a rest blocks facts (function_facts monitor part facts a.function fit.0.known) mem;
      ranged = viewed.ranged;
    }

-- ---- a step

pub own_step : {H G : Type 0} (Alike : H → G → Type 0) (w : Env Alike) (marked : ℕ → ℕ → Bool) (x : Machine) (h : H) (g : G) → CallsFit w.part w.inner g → Stands w.v w.base w.monitor w.turns w.n w.part x → Alike h g →
    (active : List Active) → MemoryFits (by_store w.v.store) w.part active x.blocks → AllFit w.monitor w.part active → AllAbove w.base w.monitor active → computes_in marked w.part w.inner g active x.blocks ≡ false →
    Seen Alike w h (stepped w.whole w.outer (seen_machine w.v w.below w.turns w.n x) h (joined w.below active)) (stepped w.part w.inner x g active)
own_step {H} {G} Alike w marked x h g fits stands alike [] mem fit above plain = λ own. absurd own
own_step {H} {G} Alike w marked x h g fits stands alike (a ∷ rest) mem fit above plain =
    works_seen Alike w marked x h g a rest
    (record {
      known = fit.0.known;
      above = above.0;
      same = above.1;
      others = above.2;
      reads = reads w.whole w.part w.v w.base w.monitor a rest x.blocks w.viewed mem fit above stands.received;
      entered = fits.entered;
      left = stands.left;
      alike = alike;
    }) (settled a.work) (settled_fits w.monitor w.part a.function a.work fit.0.work) plain

pub parts_step : {H G K : Type 0} → PartsStep H G K
parts_step {H} {G} {K} told heard marked whole part outer inner v base monitor below turns n x h g viewed gates fits stands alike plain =
    own_step (ShowAlike told heard) (record { whole = whole; part = part; outer = outer; inner = inner; v = v; base = base; monitor = monitor; below = below; turns = turns; n = n; viewed = viewed; gates = gates }) marked
    x h g fits stands alike x.active stands.fits.memory stands.fits.active stands.above plain

-- ---- runs

-- what holds of all runs that are one step shorter
abbrev Shorter : {H G : Type 0} (Alike : H → G → Type 0) (w : Env Alike) → (ℕ → ℕ → Bool) → ℕ → Type 0
Shorter {H} {G} Alike w marked k = (m : Machine) (h : H) (g : G) → Stands w.v w.base w.monitor w.turns w.n w.part m → m.awaits ≡ None → Alike h g → AllPlain marked w.part w.inner k m g → IsOwn (steps_run w.part w.inner k m g).answer →
    RunSeen Alike w.v w.below w.turns w.n w.part w.inner k m g (steps_run w.whole w.outer k (seen_machine w.v w.below w.turns w.n m) h) (steps_run w.part w.inner k m g)

-- a late step is one of the run's
late_first : {H G : Type 0} (Alike : H → G → Type 0) (w : Env Alike) (k : ℕ) (x : Machine) (g : G) (answer : Answer) (m : Machine) (g' : G) → step w.part w.inner x g ≡ answers answer m g' → IsOwn answer → w.n < m.turns + w.turns → IsLate w.part w.inner w.turns w.n (suc k) x g
late_first {H} {G} Alike w k x g answer m g' e own over = (1, omega arith, subst (λ (s : Step G). w.n < (further s (steps_run w.part w.inner 0)).machine.turns + w.turns) (sym e) (go answer own))
  where
    go : (r : Answer) → IsOwn r → w.n < (further_by r (answers r m g') (steps_run w.part w.inner 0)).machine.turns + w.turns
    go moved o = over
    go (asked f args depth) o = absurd o
    go (ended v) o = absurd o
    go (trapped trap span) o = over
    go spent o = over
    go idle o = absurd o

late_next : {H G : Type 0} (Alike : H → G → Type 0) (w : Env Alike) (k : ℕ) (x : Machine) (g : G) (m : Machine) (g' : G) → step w.part w.inner x g ≡ answers moved m g' → IsLate w.part w.inner w.turns w.n k m g' → IsLate w.part w.inner w.turns w.n (suc k) x g
late_next {H} {G} Alike w k x g m g' e late =
    let few : late.0 ≤ k = late.1 in
    (suc late.0, omega arith, subst (λ (s : Step G). w.n < (further s (steps_run w.part w.inner late.0)).machine.turns + w.turns) (sym e) late.2)

-- where the whole's budget is spent, its run is
gone_on : {H G : Type 0} (Alike : H → G → Type 0) (w : Env Alike) (k : ℕ) (x : Machine) (g : G) (big : Step H) (small : Step G) → big.answer ≡ spent → IsLate w.part w.inner w.turns w.n (suc k) x g →
    RunSeen Alike w.v w.below w.turns w.n w.part w.inner (suc k) x g (further_by big.answer big (steps_run w.whole w.outer k)) small
gone_on {H} {G} Alike w k x g big small e late =
    subst (λ r. RunSeen Alike w.v w.below w.turns w.n w.part w.inner (suc k) x g (further_by r big (steps_run w.whole w.outer k)) small) (sym e) (inr (e, late))

-- where the part's run has stopped, so has the whole's
stopped_on : {H G : Type 0} (Alike : H → G → Type 0) (w : Env Alike) (k : ℕ) (x : Machine) (g : G) (big : Step H) (small : Step G) (answer : Answer) → further_by answer big (steps_run w.whole w.outer k) ≡ big → Sees Alike w.v w.below w.turns w.n big small → big.answer ≡ answer →
    RunSeen Alike w.v w.below w.turns w.n w.part w.inner (suc k) x g (further_by big.answer big (steps_run w.whole w.outer k)) small
stopped_on {H} {G} Alike w k x g big small answer still sees e =
    subst (λ r. RunSeen Alike w.v w.below w.turns w.n w.part w.inner (suc k) x g (further_by r big (steps_run w.whole w.outer k)) small) (sym e)
    (subst (λ (s : Step H). RunSeen Alike w.v w.below w.turns w.n w.part w.inner (suc k) x g s small) (sym still) (inl sees))

follow : {H G : Type 0} (Alike : H → G → Type 0) (w : Env Alike) (marked : ℕ → ℕ → Bool) (k : ℕ) (x : Machine) (h : H) (g : G) → Shorter Alike w marked k → (big : Step H) (answer : Answer) (m : Machine) (g' : G) → step w.part w.inner x g ≡ answers answer m g' →
    StepSeen Alike w.v w.below w.turns w.n h big (answers answer m g') → Stands w.v w.base w.monitor w.turns w.n w.part m → After (λ (y : Machine) (g : G). y.awaits ≡ None) answer m g' → After (AllPlain marked w.part w.inner k) answer m g' → IsOwn (further_by answer (answers answer m g') (steps_run w.part w.inner k)).answer →
    RunSeen Alike w.v w.below w.turns w.n w.part w.inner (suc k) x g (further_by big.answer big (steps_run w.whole w.outer k)) (further_by answer (answers answer m g') (steps_run w.part w.inner k))
follow {H} {G} Alike w marked k x h g shorter big moved m g' e sight stays free plain own = go (sight (tt {0}))
  where
    on : RunSeen Alike w.v w.below w.turns w.n w.part w.inner k m g' (steps_run w.whole w.outer k (seen_machine w.v w.below w.turns w.n m) big.gate) (steps_run w.part w.inner k m g') →
        RunSeen Alike w.v w.below w.turns w.n w.part w.inner (suc k) x g (steps_run w.whole w.outer k (seen_machine w.v w.below w.turns w.n m) big.gate) (steps_run w.part w.inner k m g')
    on (inl sees) = inl sees
    on (inr late) = inr (late.0, late_next Alike w k x g m g' e late.1)

    go : Sees Alike w.v w.below w.turns w.n big (answers moved m g') ⊎ IsSpent w.turns w.n h big (answers moved m g') →
        RunSeen Alike w.v w.below w.turns w.n w.part w.inner (suc k) x g (further_by big.answer big (steps_run w.whole w.outer k)) (steps_run w.part w.inner k m g')
    go (inl sees) =
        subst (λ r. RunSeen Alike w.v w.below w.turns w.n w.part w.inner (suc k) x g (further_by r big (steps_run w.whole w.outer k)) (steps_run w.part w.inner k m g')) (sym sees.answer)
        (subst (λ y. RunSeen Alike w.v w.below w.turns w.n w.part w.inner (suc k) x g (steps_run w.whole w.outer k y big.gate) (steps_run w.part w.inner k m g')) (sym sees.machine)
        (on (shorter m big.gate g' stays free sees.gate plain own)))
    go (inr gone) = gone_on Alike w k x g big (steps_run w.part w.inner k m g') gone.answer (late_first Alike w k x g moved m g' e (tt {0}) gone.over)
follow {H} {G} Alike w marked k x h g shorter big (asked f args depth) m g' e sight stays free plain own = absurd own
follow {H} {G} Alike w marked k x h g shorter big (ended o) m g' e sight stays free plain own = absurd own
follow {H} {G} Alike w marked k x h g shorter big (trapped trap span) m g' e sight stays free plain own = go (sight (tt {0}))
  where
    go : Sees Alike w.v w.below w.turns w.n big (answers (trapped trap span) m g') ⊎ IsSpent w.turns w.n h big (answers (trapped trap span) m g') →
        RunSeen Alike w.v w.below w.turns w.n w.part w.inner (suc k) x g (further_by big.answer big (steps_run w.whole w.outer k)) (answers (trapped trap span) m g')
    go (inl sees) = stopped_on Alike w k x g big (answers (trapped trap span) m g') (trapped trap span) refl sees sees.answer
    go (inr gone) = gone_on Alike w k x g big (answers (trapped trap span) m g') gone.answer (late_first Alike w k x g (trapped trap span) m g' e (tt {0}) gone.over)
follow {H} {G} Alike w marked k x h g shorter big spent m g' e sight stays free plain own = go (sight (tt {0}))
  where
    go : Sees Alike w.v w.below w.turns w.n big (answers spent m g') ⊎ IsSpent w.turns w.n h big (answers spent m g') →
        RunSeen Alike w.v w.below w.turns w.n w.part w.inner (suc k) x g (further_by big.answer big (steps_run w.whole w.outer k)) (answers spent m g')
    go (inl sees) = stopped_on Alike w k x g big (answers spent m g') spent refl sees sees.answer
    go (inr gone) = gone_on Alike w k x g big (answers spent m g') gone.answer (late_first Alike w k x g spent m g' e (tt {0}) gone.over)
follow {H} {G} Alike w marked k x h g shorter big idle m g' e sight stays free plain own = absurd own

run_seen : {H G : Type 0} (Alike : H → G → Type 0) (w : Env Alike) (marked : ℕ → ℕ → Bool) → (k : ℕ) → Shorter Alike w marked k
run_seen {H} {G} Alike w marked zero m h g stands free alike plain own = inl (record { answer = refl; machine = refl; gate = alike })
run_seen {H} {G} Alike w marked (suc k) m h g stands free alike plain own =
    let after : StaysShown w.v w.base w.monitor w.turns w.n w.part (step w.part w.inner m g) = own_stands Alike w.whole w.part w.outer w.inner w.v w.base w.monitor w.turns w.n m h g w.viewed w.gates plain.0 stands free alike in
    follow Alike w marked k m h g (run_seen Alike w marked k)
    (stepped w.whole w.outer (seen_machine w.v w.below w.turns w.n m) h (joined w.below m.active)) (step w.part w.inner m g).answer (step w.part w.inner m g).machine (step w.part w.inner m g).gate refl
    (own_step Alike w marked m h g plain.0 stands alike m.active stands.fits.memory stands.fits.active stands.above plain.1)
    after.stands after.awaits plain.2 own

pub parts_run : {H G K : Type 0} → PartsRun H G K
parts_run {H} {G} {K} told heard marked whole part outer inner v base monitor below turns n k x h g viewed gates stands free alike plain own =
    run_seen (ShowAlike told heard) (record { whole = whole; part = part; outer = outer; inner = inner; v = v; base = base; monitor = monitor; below = below; turns = turns; n = n; viewed = viewed; gates = gates }) marked
    k x h g stands free alike plain own
