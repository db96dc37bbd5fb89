-- Texts of which only the first bytes were read, one more than a text may have: what these come to, the whole texts
-- come to.
use Rattle.std.proofs.Common.{◌≡◌, ◌≢◌, ◌≤◌, ◌<◌, ℕ, Bool, true, false, List, [], ◌∷◌, length, min, nat_lt, take, refl, ◌∙◌, ap, subst, inl, inr, arith}
use Rattle.std.proofs.lemmas.List.{length-take, take_all}
use Rattle.std.proofs.lemmas.Bool.Decides.{nat_tests}
use Rattle.pt_tree.specs.declared.signature.Signature.{Signature}
use Rattle.c_lexer.specs.declared.error.LexFault.{LexFault}
use Rattle.c_lexer.specs.Lexes.{IsLexFault}
use Rattle.typed_tree.specs.TypedTree.{TypedTree, signatures_of}
use Rattle.front_end.specs.Reading.{HasTypedTree, ComesTo as ReadsAs, parse_fault, type_faults_of}
use Rattle.host_table.specs.HostFaults.{host_faults}
use Rattle.host_table.specs.Hosts.{Hosts}
use Rattle.policy.specs.declared.error.PolicyFault.{PolicyFault}
use Rattle.policy.specs.declared.rule.Rule.{Rule}
use Rattle.policy.specs.PolicyFault.{IsPolicy, IsPolicyFault}
use Rattle.stages.specs.GivenHosts.{most, GivesHosts}
use Rattle.stages.specs.Climb.{Fails, HasPassed, IsRefused, IsUnread, Pass, Passes, Refusal, Stage, StopsAt, Texts, lex, parse, types, host, policy, flow, input, hosts, rules, flows, inputs}
use Rattle.stages.specs.Commands.{AreCut}
use Rattle.stages.specs.Laws.{FirstBytesAreEnough}

-- a text that is short where it is cut is whole
pub short_cut : (whole cut : List ℕ) → cut ≡ take 1048577 whole → length cut ≤ most → cut ≡ whole
short_cut whole cut is short =
    is ∙ take_all 1048577 whole (let same : length (take 1048577 whole) ≡ min 1048577 (length whole) = length-take 1048577 whole in
    let small : length (take 1048577 whole) ≤ most = subst (λ xs. length xs ≤ most) is short in omega arith)

pub long_cut : (whole cut : List ℕ) → cut ≡ take 1048577 whole → most < length cut → most < length whole
long_cut whole cut is long =
    let same : length (take 1048577 whole) ≡ min 1048577 (length whole) = length-take 1048577 whole in
    let large : most < length (take 1048577 whole) = subst (λ xs. most < length xs) is long in omega arith

pub lex_whole : (whole cut : List ℕ) (fault : LexFault) → cut ≡ take 1048577 whole → IsLexFault cut fault → IsLexFault whole fault
lex_whole whole cut fault is (inl over) = inl (long_cut whole cut is over.0, over.1)
lex_whole whole cut fault is (inr first) = subst (λ text. IsLexFault text fault) (short_cut whole cut is first.0) (inr first)

pub tree_whole : (whole cut : List ℕ) (tree : TypedTree) → cut ≡ take 1048577 whole → HasTypedTree cut tree → HasTypedTree whole tree
tree_whole whole cut tree is has = subst (λ text. HasTypedTree text tree) (short_cut whole cut is has.reads.lexed.short) has

-- ---- host tables

table_is_short : (text : List ℕ) (fns : List Signature) → host_faults text fns ≡ [] → length text ≤ most
table_is_short text fns none = go (nat_lt 1048576 (length text)) refl
  where
    go : (b : Bool) → nat_lt 1048576 (length text) ≡ b → length text ≤ most
    go true is = absurd (let some : host_faults text fns ≢ [] = rw is (grind arith) in some none)
    go false is = grind (arith, nat_tests)

pub hosts_whole : (whole cut : List ℕ) (tree : TypedTree) (given : Hosts) → cut ≡ take 1048577 whole → GivesHosts cut tree given → GivesHosts whole tree given
hosts_whole whole cut tree given is gives =
    subst (λ text. GivesHosts text tree given) (short_cut whole cut is (table_is_short cut (signatures_of tree) gives.faultless)) gives

pub faults_whole : (whole cut : List ℕ) (fns : List Signature) → cut ≡ take 1048577 whole → host_faults cut fns ≡ host_faults whole fns
faults_whole whole cut fns is = go (nat_lt 1048576 (length cut)) refl
  where
    go : (b : Bool) → nat_lt 1048576 (length cut) ≡ b → host_faults cut fns ≡ host_faults whole fns
    go true over =
        let large : most < length cut = grind (arith, nat_tests) in
        let larger : most < length whole = long_cut whole cut is large in
        let there : nat_lt 1048576 (length whole) ≡ true = grind (arith, nat_tests) in
        rw (over, there) refl
    go false over = ap (λ text. host_faults text fns) (short_cut whole cut is (grind (arith, nat_tests)))

-- ---- policies

pub policy_whole : (whole cut : List ℕ) (fns : List Signature) (read : List Rule) → cut ≡ take 1048577 whole → IsPolicy fns cut read → IsPolicy fns whole read
policy_whole whole cut fns read is are = subst (λ text. IsPolicy fns text read) (short_cut whole cut is are.short) are

pub fault_whole : (whole cut : List ℕ) (fns : List Signature) (fault : PolicyFault) → cut ≡ take 1048577 whole → IsPolicyFault fns cut fault → IsPolicyFault fns whole fault
fault_whole whole cut fns fault is (inl over) = inl (long_cut whole cut is over.0, over.1)
fault_whole whole cut fns fault is (inr first) = subst (λ text. IsPolicyFault fns text fault) (short_cut whole cut is first.0) (inr first)

-- ---- stages

pub passes_whole : (s : Stage) (whole cut : Texts) (tree : TypedTree) → AreCut whole cut → Passes s cut tree → Passes s whole tree
passes_whole hosts whole cut tree are p = (p.0, hosts_whole whole.host cut.host tree p.0 are.host p.1)
passes_whole rules whole cut tree are p = (p.0, policy_whole whole.policy cut.policy (signatures_of tree) p.0 are.policy p.1)
passes_whole flows whole cut tree are p = p
passes_whole inputs whole cut tree are p = subst (λ text. length text ≤ most) (short_cut whole.input cut.input are.input p) p

fails_whole : (s : Stage) (whole cut : Texts) (tree : TypedTree) (r : Refusal) → AreCut whole cut → Fails s cut tree r → Fails s whole tree r
fails_whole hosts whole cut tree r are f = (f.0, f.1 ∙ faults_whole whole.host cut.host (signatures_of tree) are.host, f.2, f.3)
fails_whole rules whole cut tree r are f = (f.0, fault_whole whole.policy cut.policy (signatures_of tree) f.0 are.policy f.1, f.2)
fails_whole flows whole cut tree r are f = f
fails_whole inputs whole cut tree r are f = (long_cut whole.input cut.input are.input f.0, f.1)

pass_whole : (ss : List Stage) (whole cut : Texts) (tree : TypedTree) → AreCut whole cut → Pass ss cut tree → Pass ss whole tree
pass_whole [] whole cut tree are p = p
pass_whole (s ∷ ss) whole cut tree are p = (passes_whole s whole cut tree are p.0, pass_whole ss whole cut tree are p.1)

pub stops_whole : (ss : List Stage) (whole cut : Texts) (tree : TypedTree) (r : Refusal) → AreCut whole cut → StopsAt ss cut tree r → StopsAt ss whole tree r
stops_whole [] whole cut tree r are x = x
stops_whole (s ∷ ss) whole cut tree r are (inl f) = inl (fails_whole s whole cut tree r are f)
stops_whole (s ∷ ss) whole cut tree r are (inr x) = inr (passes_whole s whole cut tree are x.0, stops_whole ss whole cut tree r are x.1)

-- ---- whole climbs

unread_whole : (whole cut : List ℕ) (r : Refusal) → cut ≡ take 1048577 whole → IsUnread cut r → IsUnread whole r
unread_whole whole cut (lex fault) is x = lex_whole whole cut fault is x
unread_whole whole cut (parse fault) is x = subst (λ text. ReadsAs text (parse_fault fault)) (short_cut whole cut is x.lexed.short) x
unread_whole whole cut (types faults) is x = subst (λ text. ReadsAs text (type_faults_of faults)) (short_cut whole cut is x.reads.lexed.short) x
unread_whole whole cut (host tree faults) is x = absurd x
unread_whole whole cut (policy fault) is x = absurd x
unread_whole whole cut (flow tree faults) is x = absurd x
unread_whole whole cut input is x = absurd x

refused_whole : (ss : List Stage) (whole cut : Texts) (r : Refusal) → AreCut whole cut → IsRefused ss cut r → IsRefused ss whole r
refused_whole ss whole cut r are (inl x) = inl (unread_whole whole.program cut.program r are.program x)
refused_whole ss whole cut r are (inr x) = inr (x.0, tree_whole whole.program cut.program x.0 are.program x.1, stops_whole ss whole cut x.0 r are x.2)

passed_whole : (ss : List Stage) (whole cut : Texts) (tree : TypedTree) → AreCut whole cut → HasPassed ss cut tree → HasPassed ss whole tree
passed_whole ss whole cut tree are p = (tree_whole whole.program cut.program tree are.program p.0, pass_whole ss whole cut tree are p.1)

pub first_bytes : FirstBytesAreEnough
first_bytes ss whole cut are = (λ r x. refused_whole ss whole cut r are x, λ tree p. passed_whole ss whole cut tree are p)
