-- The gate that gathers what was written is the slave's own.
use Rattle.std.proofs.Common.{◌≡◌, ◌∙◌, ◌⊎◌, inl, inr, ℕ, suc, refl, ap, sym, List, [], ◌∷◌, Option, Some, None, Bool, map}
use Rattle.pt_tree.specs.HostStep as h
use Rattle.pt_tree.specs.HostStep.{host_step}
use Rattle.block_memory.specs.Blocks.{Blocks}
use Rattle.pt_core.specs.CodeTree.{StmtTree, clear, check, assign, copy, call, choose, repeat, break_out, continue_on, give_back, no_stmts, stmt_and, ProgramTree}
use Rattle.pt_core.specs.Types.{Context}
use Rattle.pt_core.specs.Values.{number_in}
use Rattle.pt_core.specs.Calls.{context_in}
use Rattle.pt_core.specs.Steps.{Active, Answer, Gate, Machine, Step, Work, answers, asked, ended, head, idle, moved, run, settled, spent, step, trapped}
use Rattle.core_steps_law.specs.WholeRun.{further_by, steps_run}
use Rattle.core_steps_law.specs.GatesShown.{Shows, step_shown}
use Rattle.core_steps_law.proofs.GatesAgreement.{gates_agree}
use Rattle.handle_classes.specs.Computes.{computes, computes_in, computes_work}
use Rattle.pair_meaning.specs.SlaveRun.{slave_gate}
use Rattle.pair_invariant_law.specs.SlaveGatesGathering.{Gathered, gathering_gate, heard_in, with_written}
use Rattle.pair_invariant_law.specs.SlaveGatesLaws.{GatheringStepsAlike, SlavesWriteOnce, Wrote}
use Rattle.pair_invariant_law.specs.SlaveGatesOnce.{CalledOnce, LeftBy}
use Rattle.pair_invariant_law.proofs.SlaveGatesOnce.{steps_call_once}

-- ---- steps

step_alone : {G : Type 0} (program : ProgramTree) (gate : Gate G) (a : Answer) (m : Machine) (g : G) → further_by a (answers a m g) (steps_run program gate 0) ≡ answers a m g
step_alone program gate moved m g = refl
step_alone program gate (asked f args depth) m g = refl
step_alone program gate (ended v) m g = refl
step_alone program gate (trapped trap span) m g = refl
step_alone program gate spent m g = refl
step_alone program gate idle m g = refl

-- a run of one step
pub one_run : {G : Type 0} (program : ProgramTree) (gate : Gate G) (m : Machine) (g : G) → steps_run program gate 1 m g ≡ step program gate m g
one_run program gate m g = step_alone program gate (step program gate m g).answer (step program gate m g).machine (step program gate m g).gate

-- nothing has to stay
abbrev nothing : Gathered → ℕ
nothing g = 0

gathering_shows : (slave : ProgramTree) → Shows heard_in nothing 0 (gathering_gate slave) (slave_gate slave)
gathering_shows slave = record {
  way = λ f args g e. refl;
  noted = λ active f args g e. refl;
  answer = λ f numbers g e. refl;
  noted_stays = λ active f args g. refl;
  answer_stays = λ f numbers g. refl;
}

steps_alike : (slave : ProgramTree) (x : Machine) (g : Gathered) → step slave (slave_gate slave) x g.heard ≡ step_shown heard_in (step slave (gathering_gate slave) x g)
steps_alike slave x g =
    sym (one_run slave (slave_gate slave) x g.heard)
    ∙ gates_agree heard_in nothing 0 (gathering_gate slave) (slave_gate slave) (gathering_shows slave) slave 1 x g refl
    ∙ ap (step_shown heard_in) (one_run slave (gathering_gate slave) x g)

-- ---- handles

module _ (marked : ℕ → ℕ → Bool) (slave : ProgramTree) (g : Gathered) (blocks : Blocks) where
  computes_alike : (c : Context) (depth : ℕ) (rest : List Active) (s : StmtTree) → computes marked (gathering_gate slave) g c depth rest s blocks ≡ computes marked (slave_gate slave) g.heard c depth rest s blocks
  computes_alike c depth rest (clear v) = refl
  computes_alike c depth rest (check p) = refl
  computes_alike c depth rest (assign p e) = refl
  computes_alike c depth rest (copy to from) = refl
  computes_alike c depth rest (call f args result span) = refl
  computes_alike c depth rest (choose e first second) = refl
  computes_alike c depth rest (repeat body span) = refl
  computes_alike c depth rest break_out = refl
  computes_alike c depth rest continue_on = refl
  computes_alike c depth rest (give_back e) = refl

  work_alike : (c : Context) (depth : ℕ) (rest : List Active) (work : List Work) → computes_work marked (gathering_gate slave) g c depth rest work blocks ≡ computes_work marked (slave_gate slave) g.heard c depth rest work blocks
  work_alike c depth rest [] = refl
  work_alike c depth rest (run no_stmts ∷ work) = refl
  work_alike c depth rest (run (stmt_and first more) ∷ work) = computes_alike c depth rest first
  work_alike c depth rest (head body ∷ work) = refl

  active_alike : (active : List Active) → computes_in marked slave (gathering_gate slave) g active blocks ≡ computes_in marked slave (slave_gate slave) g.heard active blocks
  active_alike [] = refl
  active_alike (a ∷ rest) = work_alike (context_in slave a.function) a.depth rest (settled a.work)

pub gathering_steps_alike : GatheringStepsAlike
gathering_steps_alike slave x g = record { steps = steps_alike slave x g; computes = λ marked. active_alike marked slave g x.blocks x.active }

-- ---- writes

abbrev Writes : Machine → Step Gathered → Option (List ℕ) → Type 0
Writes x s written = (s.gate.heard.wrote ≡ written) × (s.gate.bytes ≡ with_written written [])

-- nothing was written before
nothing_yet : (x : Machine) (s : Step Gathered) (g : Gathered) → g.heard.wrote ≡ None → g.bytes ≡ [] → s.gate ≡ g → Wrote x s
nothing_yet x s g none empty e = inl (ap (λ (h : Gathered). h.heard.wrote) e ∙ none, ap (λ (h : Gathered). h.bytes) e ∙ empty)

by_written : (x : Machine) (s : Step Gathered) (written : Option (List ℕ)) → s.answer ≡ moved → s.machine.turns ≡ suc x.turns → Writes x s written → Wrote x s
by_written x s None moves turn (wrote, gathered) = inl (wrote, gathered)
by_written x s (Some bytes) moves turn (wrote, gathered) = inr (bytes, record { wrote = wrote; gathered = gathered; moves = moves; turn = turn })

pub slaves_write_once : SlavesWriteOnce
slaves_write_once slave x g none empty = go (steps_call_once slave (gathering_gate slave) x g)
  where
    by_left : (c : CalledOnce (gathering_gate slave) x g (step slave (gathering_gate slave) x g)) → LeftBy (gathering_gate slave) g c.active c.function c.args (step slave (gathering_gate slave) x g).gate → Wrote x (step slave (gathering_gate slave) x g)
    by_left c (inl e) = nothing_yet x (step slave (gathering_gate slave) x g) g none empty e
    by_left c (inr (way, e)) =
        let answer : h.Answer = host_step g.heard.input (g.heard.hosts c.function) (map number_in c.args) in
        by_written x (step slave (gathering_gate slave) x g) answer.written c.moves c.turn
        (ap (λ (h : Gathered). h.heard.wrote) e, ap (λ (h : Gathered). h.bytes) e ∙ ap (with_written answer.written) empty)

    go : ((step slave (gathering_gate slave) x g).gate ≡ g) ⊎ CalledOnce (gathering_gate slave) x g (step slave (gathering_gate slave) x g) → Wrote x (step slave (gathering_gate slave) x g)
    go (inl e) = nothing_yet x (step slave (gathering_gate slave) x g) g none empty e
    go (inr c) = by_left c c.left
