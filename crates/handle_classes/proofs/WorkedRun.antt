-- A run of a fine program: a handle comes from outside, lies in a marked field, and goes away again; the
-- laws tell at each step that the invariant holds.
use Rattle.std.proofs.Common.{◌≡◌, refl, sym, subst, Bool, true, false, [], ◌∷◌, Some, None, if◌then◌else◌, nat_eq}
use Rattle.std.proofs.lemmas.Bool.{eqb-true}
use Rattle.typed_tree.specs.Cells as cells
use Rattle.handle_store.specs.declared.handle.Handle.{Handle}
use Rattle.block_memory.specs.declared.cell.Cell.TheVariants.{Sealed}
use Rattle.block_memory.specs.declared.cell.BlockName.TheVariants.{Local}
use Rattle.pt_core.specs.Steps.{Machine, Gate, enters, here, away, asked, step, at_rest, started, resumed}
use Rattle.handle_classes.specs.Classes.{Class}
use Rattle.handle_classes.specs.Judgment.{Flows}
use Rattle.handle_classes.specs.Invariant.{cell_of, Fine}
use Rattle.handle_classes.specs.Computes.{computes_next}
use Rattle.handle_classes.specs.Laws.{FitsGate, EntersFit}
use Rattle.handle_classes.proofs.NextStep.{no_handle_is_computed_with}
use Rattle.handle_classes.proofs.StepKeeps.{steps_keep_fine}
use Rattle.handle_classes.proofs.Outside.{rest_is_fine, starts_keep_fine, resumes_keep_fine}
use Rattle.handle_classes.proofs.WorkedPrograms.{paired, pair_world, pair_variable, pair_param, paired_fine}

-- ---- the gate: `use` is entered, and the hosts are elsewhere

abbrev pair_gate : Gate (Unit {0})
pair_gate = record { way = λ g f args. if nat_eq f 2 then enters else away; noted = λ privileged f args g. g; answer = λ f args g. (None, g) }

pair_gate_fits : FitsGate pair_world pair_gate
pair_gate_fits = record { run_here = λ g f args same. none (nat_eq f 2) same }
  where
    none : {A : Type 0} (b : Bool) → (if b then enters else away) ≡ here → A
    none true same = cc
    none false same = cc

pub flows_same : (c : Class) → Flows c c
flows_same c = record { kind = refl; first = λ h may. may; size = λ h. refl; may = λ h n less may. may; must = λ h n less must. must }

pair_gate_enters : EntersFit pair_world pair_gate
pair_gate_enters g f args same n = go (nat_eq f 2) refl same
  where
    go : (b : Bool) → nat_eq f 2 ≡ b → (if b then enters else away) ≡ enters → Flows (pair_param f n) (pair_variable f n)
    go true e h = subst (λ k. Flows (pair_param k n) (pair_variable k n)) (sym (eqb-true f 2 e)) (flows_same (pair_variable 2 n))
    go false e h = cc

-- ---- the run

abbrev begun : Machine
begun = started paired false 3 1 [] (at_rest paired 20)

abbrev next : Machine → Machine
next m = (step paired pair_gate m (tt {0})).machine

-- `load` has answered
abbrev given : Handle → Machine
given h = resumed (Some (Sealed h)) (next begun)

the_key_is_asked_for : (step paired pair_gate begun (tt {0})).answer ≡ asked 0 [] 0
the_key_is_asked_for = refl

it_lies_in_the_field : (h : Handle) → cell_of (next (given h)).blocks (Local 1 0) 1 ≡ Sealed h
unfolding cells.leaves_of
it_lies_in_the_field h = refl

it_goes_on : (h : Handle) → (step paired pair_gate (next (next (next (given h)))) (tt {0})).answer ≡ asked 1 (Sealed h ∷ []) 0
unfolding cells.leaves_of
it_goes_on h = refl

-- ---- the invariant

next_fine : (m : Machine) → Fine paired pair_world m → m.awaits ≡ None → Fine paired pair_world (next m)
next_fine m fine none = (steps_keep_fine paired pair_world pair_gate m (tt {0}) paired_fine pair_gate_enters fine none).fine

begun_fine : Fine paired pair_world begun
begun_fine = starts_keep_fine paired pair_world false 3 1 [] (at_rest paired 20) paired_fine (rest_is_fine paired pair_world 20) refl refl refl (tt {0})

given_fine : (h : Handle) → Fine paired pair_world (given h)
given_fine h = resumes_keep_fine paired pair_world (Some (Sealed h)) (next begun) (next_fine begun begun_fine refl) (λ sealed. refl)

nothing_is_computed : (h : Handle) → computes_next (λ f n. (pair_world.param f n).may 0) paired pair_gate (given h) (tt {0}) ≡ false
nothing_is_computed h = no_handle_is_computed_with paired pair_world pair_gate (given h) (tt {0}) paired_fine pair_gate_fits (given_fine h)
