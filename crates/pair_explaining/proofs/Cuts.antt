-- The first bytes of texts tell what the whole texts tell.
use Rattle.std.proofs.Common.{◌≡◌, ◌∙◌, ℕ, List, [], ◌∷◌, ap, inl, inr, subst, sym, take}
use Rattle.std.specs.List.{flat_map}
use Rattle.pt_tree.specs.declared.signature.Signature.{Signature}
use Rattle.front_end.specs.Reading.{HasTypedTree}
use Rattle.typed_tree.specs.TypedTree.{TypedTree, signatures_of}
use Rattle.host_table.specs.declared.fault.HostFault.{HostFault}
use Rattle.policy.specs.declared.error.PolicyFault.{PolicyFault}
use Rattle.policy.specs.PolicyFault.{IsPolicyFault}
use Rattle.flow_rules.specs.declared.fault.FlowFault.{FlowFault}
use Rattle.stages.specs.Climb.{IsRefused, Refusal, Stage, StopsAt, Texts, lex, parse, types, host, policy, flow, input, hosts, rules, flows, inputs}
use Rattle.stages.specs.Commands.{AreCut}
use Rattle.stages.proofs.Commands.{whole_climb}
use Rattle.stages.proofs.Cuts.{first_bytes, short_cut}
use Rattle.explaining.specs.Explains.{AreFlowBlocks, HasHoldings}
use Rattle.explaining.specs.FrontBlocks.{lex_block, parse_block, type_block}
use Rattle.explaining.proofs.Cuts.{lex_same}
use Rattle.pair_explaining.specs.HostBlocks.{host_block}
use Rattle.pair_explaining.specs.Laws.{FirstBytesAreEnough, FirstBytesHold}
use Rattle.pair_explaining.specs.PairExplains.{IsPairHeld, of_files}
use Rattle.pair_explaining.specs.PairNames.{Names}
use Rattle.pair_explaining.specs.PolicyBlocks.{policy_block}
use Rattle.pair_explaining.specs.RefusalBlocks.{AreBlocks}

-- the text of a program that has a typed tree is whole
tree_short : (whole cut : Texts) (tree : TypedTree) → AreCut whole cut → HasTypedTree cut.program tree → cut.program ≡ whole.program
tree_short whole cut tree are has = short_cut whole.program cut.program are.program has.reads.lexed.short

-- ---- policies

no_host : (fault : PolicyFault) (tree : TypedTree) (faults : List HostFault) → policy fault ≡ host tree faults → ⊥
no_host fault tree faults e = cc

no_flow : (fault : PolicyFault) (tree : TypedTree) (faults : List FlowFault) → policy fault ≡ flow tree faults → ⊥
no_flow fault tree faults e = cc

no_input : (fault : PolicyFault) → policy fault ≡ input → ⊥
no_input fault e = cc

same_fault : (fault other : PolicyFault) → policy fault ≡ policy other → other ≡ fault
same_fault fault other e = cc

-- where a policy refuses texts it has the fault
policy_faulty : (ss : List Stage) (t : Texts) (tree : TypedTree) (fault : PolicyFault) → StopsAt ss t tree (policy fault) → IsPolicyFault (signatures_of tree) t.policy fault
policy_faulty [] t tree fault stops = absurd stops
policy_faulty (hosts ∷ ss) t tree fault (inl fails) = absurd (no_host fault tree fails.0 fails.3)
policy_faulty (hosts ∷ ss) t tree fault (inr later) = policy_faulty ss t tree fault later.1
policy_faulty (rules ∷ ss) t tree fault (inl fails) = subst (λ (f : PolicyFault). IsPolicyFault (signatures_of tree) t.policy f) (same_fault fault fails.0 fails.2) fails.1
policy_faulty (rules ∷ ss) t tree fault (inr later) = policy_faulty ss t tree fault later.1
policy_faulty (flows ∷ ss) t tree fault (inl fails) = absurd (no_flow fault tree fails.0 fails.2)
policy_faulty (flows ∷ ss) t tree fault (inr later) = policy_faulty ss t tree fault later.1
policy_faulty (inputs ∷ ss) t tree fault (inl fails) = absurd (no_input fault fails.1)
policy_faulty (inputs ∷ ss) t tree fault (inr later) = policy_faulty ss t tree fault later.1

-- it is told alike
policy_same : (name whole cut : List ℕ) (fns : List Signature) (fault : PolicyFault) → cut ≡ take 1048577 whole → IsPolicyFault fns cut fault
    → policy_block name cut fault ≡ policy_block name whole fault
policy_same name whole cut fns fault is (inl over) = ap (policy_block name cut) over.1 ∙ sym (ap (policy_block name whole) over.1)
policy_same name whole cut fns fault is (inr first) = ap (λ (xs : List ℕ). policy_block name xs fault) (short_cut whole cut is first.0)

-- ---- blocks

blocks_whole : (ss : List Stage) (names : Names) (whole cut : Texts) (r : Refusal) (report : List ℕ) → AreCut whole cut → IsRefused ss cut r
    → AreBlocks names cut r report → AreBlocks names whole r report
blocks_whole ss names whole cut (lex fault) report are (inl is) blocks = blocks ∙ lex_same names.program whole.program cut.program fault are.program is
blocks_whole ss names whole cut (lex fault) report are (inr at) blocks = blocks ∙ ap (λ (xs : List ℕ). lex_block names.program xs fault) (tree_short whole cut at.0 are at.1)
blocks_whole ss names whole cut (parse fault) report are (inl is) blocks =
    blocks ∙ ap (λ (xs : List ℕ). parse_block names.program xs fault) (short_cut whole.program cut.program are.program is.lexed.short)
blocks_whole ss names whole cut (parse fault) report are (inr at) blocks = blocks ∙ ap (λ (xs : List ℕ). parse_block names.program xs fault) (tree_short whole cut at.0 are at.1)
blocks_whole ss names whole cut (types faults) report are (inl is) blocks =
    blocks ∙ ap (λ (xs : List ℕ). flat_map (type_block names.program xs) faults) (short_cut whole.program cut.program are.program is.reads.lexed.short)
blocks_whole ss names whole cut (types faults) report are (inr at) blocks =
    blocks ∙ ap (λ (xs : List ℕ). flat_map (type_block names.program xs) faults) (tree_short whole cut at.0 are at.1)
blocks_whole ss names whole cut (host tree faults) report are (inl is) blocks = absurd is
blocks_whole ss names whole cut (host tree faults) report are (inr at) blocks =
    blocks ∙ ap (λ (xs : List ℕ). flat_map (host_block names xs tree) faults) (tree_short whole cut at.0 are at.1)
blocks_whole ss names whole cut (policy fault) report are (inl is) blocks = absurd is
blocks_whole ss names whole cut (policy fault) report are (inr at) blocks =
    blocks ∙ policy_same names.policy whole.policy cut.policy (signatures_of at.0) fault are.policy (policy_faulty ss cut at.0 fault at.2)
blocks_whole ss names whole cut (flow tree faults) report are (inl is) blocks = absurd is
blocks_whole ss names whole cut (flow tree faults) report are (inr at) blocks =
    subst (λ (xs : List ℕ). AreFlowBlocks names.program xs tree faults report) (tree_short whole cut at.0 are at.1) blocks
blocks_whole ss names whole cut input report are is blocks = blocks

pub enough : FirstBytesAreEnough
enough ss names whole cut r report are is blocks = ((first_bytes ss whole cut are).0 r is, blocks_whole ss names whole cut r report are is blocks)

-- ---- what is held

held_whole : (name : List ℕ) (whole cut : Texts) (lines : List ℕ) → AreCut whole cut → IsPairHeld name cut lines → IsPairHeld name whole lines
held_whole name whole cut lines are h = (
  h.0,
  (first_bytes (hosts ∷ rules ∷ []) whole cut are).1 h.0 h.1,
  subst (λ (xs : List ℕ). HasHoldings name xs h.0 lines) (tree_short whole cut h.0 are h.1.0) h.2,
)

pub holds : FirstBytesHold
holds name = whole_climb of_files (IsPairHeld name) (held_whole name)
