-- Of the texts of a command that tells by lines one thing is seen, but for the ways that faults of flows show.
use Rattle.std.proofs.Common.{◌≡◌, ◌⊎◌, ◌∙◌, ℕ, List, [], ◌∷◌, map, refl, sym, ap, subst, inl, inr}
use Rattle.typed_tree.specs.TypedTree.{TypedTree}
use Rattle.pt_base.proofs.Booleans.{false_true_absurd}
use Rattle.front_end.specs.FaultLinesSeen.{Seen, faulty}
use Rattle.flow_rules.specs.declared.fault.FlowFault.{FlowFault}
use Rattle.stages.specs.Climb.{Refusal, Stage, Texts, lex, parse, types, host, policy, flow, input, flows, hosts, inputs, of_pair}
use Rattle.stages.specs.Commands.{AreAlike, Climb, ComesTo, came, refused, without_ways}
use Rattle.stages.specs.FlowFaults.{without_way}
use Rattle.stages.proofs.OneRefusal.{one_refusal}
use Rattle.refusal_lines.specs.Lines.{lines_of}
use Rattle.flow_check.specs.Checked.{IsChecked}
use Rattle.flow_check.proofs.OneOutcome as checks
use Rattle.auditing.specs.Audits.{IsAudit}
use Rattle.auditing.proofs.OneAudit.{audit_is_one}
use Rattle.original.specs.Original as original
use Rattle.original.specs.Original.{IsOriginal}
use Rattle.original.proofs.OneOutcome as originals
use Rattle.pair_running.specs.LocalPairLocal.{IsPairRun}
use Rattle.pair_running.specs.GeneratedPairGenerated as made
use Rattle.pair_running.proofs.GeneratedPairRuns.{told_once}
use Rattle.pair_running.proofs.LocalPairOneOutcome as runs
use Rattle.pair_running.proofs.ServedPairsOneOutcome as sessions
use Rattle.pair_texts.specs.Several.{SharedTexts}
use Rattle.pair_texts.proofs.SharedLemmas.{one_refused}
use Rattle.program_split.specs.Split.{IsSplit}
use Rattle.program_split.proofs.OneOutcome as splits
use Rattle.privtrans_app.specs.Gives.{IsRefusedBy, Shows, accepted, audited, by_lines, halved, inputs_of, original_of, pair_of, program_in, ran_alone, ran_both, shared_of}
use Rattle.privtrans_app.specs.Sessions.{ServesAll, served_seen}
use Rattle.privtrans_app.specs.Told.{DifferInWays, SeenIsOne}
use Rattle.privtrans_app.specs.Words.{help, version, check, explain, outline, picture, explain_pair, orig, local, run, split, slave, gen, serve, audit}

-- ---- refusals that differ in ways alone

-- without ways nothing is left to take away
without_twice : (faults : List FlowFault) → map without_way (map without_way faults) ≡ map without_way faults
without_twice [] = refl
without_twice (f ∷ faults) = ap (λ fs. without_way f ∷ fs) (without_twice faults)

-- these are faults of flows
abbrev AreFlows : Refusal → Type 0
AreFlows r = (tree : TypedTree) × (faults : List FlowFault) × (r ≡ flow tree faults)

ways : (r : Refusal) → (without_ways r ≡ r) ⊎ AreFlows r
ways (lex fault) = inl refl
ways (parse fault) = inl refl
ways (types faults) = inl refl
ways (host tree faults) = inl refl
ways (policy fault) = inl refl
ways (flow tree faults) = inr (tree, faults, refl)
ways input = inl refl

flows_are : (t u : TypedTree) (fs gs : List FlowFault) → flow t fs ≡ flow u gs → fs ≡ gs
flows_are t u fs gs e = cc

-- what is seen of a refusal
abbrev told : Refusal → Seen
told r = faulty (lines_of r)

-- both show faults of flows that are the same without their ways
both_flows : (a b : Refusal) (t u : TypedTree) (fs gs : List FlowFault) → a ≡ flow t fs → b ≡ flow u gs → map without_way fs ≡ map without_way gs → DifferInWays (told a) (told b)
both_flows a b t u fs gs x y same = (fs, gs, same, ap told x, ap told y)

compared : (a b : Refusal) → without_ways a ≡ without_ways b → (without_ways a ≡ a) ⊎ AreFlows a → (without_ways b ≡ b) ⊎ AreFlows b → (told a ≡ told b) ⊎ DifferInWays (told a) (told b)
compared a b same (inl x) (inl y) = inl (ap told (sym x ∙ same ∙ y))
compared a b same (inl x) (inr (u, gs, y)) =
    inr (both_flows a b u u (map without_way gs) gs (sym x ∙ same ∙ ap without_ways y) y (without_twice gs))
compared a b same (inr (t, fs, x)) (inl y) =
    inr (both_flows a b t t fs (map without_way fs) x (sym y ∙ sym same ∙ ap without_ways x) (sym (without_twice fs)))
compared a b same (inr (t, fs, x)) (inr (u, gs, y)) =
    inr (both_flows a b t u fs gs x y (flows_are t u (map without_way fs) (map without_way gs) (sym (ap without_ways x) ∙ same ∙ ap without_ways y)))

-- ---- what is seen of both

seen_as : (a b x y : Seen) → x ≡ a → y ≡ b → (a ≡ b) ⊎ DifferInWays a b → (x ≡ y) ⊎ DifferInWays x y
seen_as a b x y is is' (inl same) = inl (is ∙ same ∙ sym is')
seen_as a b x y is is' (inr (fs, gs, same, p, q)) = inr (fs, gs, same, is ∙ p, is' ∙ q)

refused_seen : (ss : List Stage) (t : Texts) (a b : Seen) → IsRefusedBy ss by_lines t a → IsRefusedBy ss by_lines t b → (a ≡ b) ⊎ DifferInWays a b
refused_seen ss t a b (r, report, stops, lines, shown) (r', report', stops', lines', shown') =
    seen_as (told r) (told r') a b (shown ∙ ap faulty lines) (shown' ∙ ap faulty lines') (compared r r' (one_refusal ss t r r' stops stops') (ways r) (ways r'))

shows_one : {A : Type 0} (ss : List Stage) (is : Texts → A → Type 0) (show : A → Seen) (t : Texts)
    → ((o p : Climb A) → ComesTo ss is t o → ComesTo ss is t p → AreAlike o p)
    → (a b : Seen) → Shows ss by_lines is show t a → Shows ss by_lines is show t b → (a ≡ b) ⊎ DifferInWays a b
shows_one ss is show t alike a b (inl x) (inl y) = refused_seen ss t a b x y
shows_one ss is show t alike a b (inl (r, report, stops, lines, shown)) (inr (y, it, seen)) = absurd (alike (refused r) (came y) stops it)
shows_one ss is show t alike a b (inr (x, it, seen)) (inl (r, report, stops, lines, shown)) = absurd (alike (came x) (refused r) it stops)
shows_one ss is show t alike a b (inr (x, it, seen)) (inr (y, it', seen')) = inl (seen ∙ ap show (alike (came x) (came y) it it') ∙ sym seen')

alike_itself : (o : Climb original.Ran) → AreAlike o o
alike_itself (refused r) = refl
alike_itself (came x) = refl

orig_alike : (t : Texts) (turns : ℕ) (o p : Climb original.Ran) → ComesTo (hosts ∷ inputs ∷ []) (IsOriginal turns) t o → ComesTo (hosts ∷ inputs ∷ []) (IsOriginal turns) t p → AreAlike o p
orig_alike t turns o p x y = subst (λ (q : Climb original.Ran). AreAlike o q) (originals.outcome_is_one t turns o p x y) (alike_itself o)

serves_one : (t : SharedTexts) (all : List (List ℕ)) (turns : ℕ) (a b : Seen) → ServesAll t all turns a → ServesAll t all turns b → (a ≡ b) ⊎ DifferInWays a b
serves_one t all turns a b (inl (r, stops, shown)) (inl (r', stops', shown')) =
    seen_as (told r) (told r') a b shown shown' (compared r r' (one_refused t all r r' stops stops') (ways r) (ways r'))
serves_one t all turns a b (inl (r, stops, shown)) (inr (w, it, seen)) = absurd (sessions.outcome_is_one t all turns (refused r) (came w) stops it)
serves_one t all turns a b (inr (v, it, seen)) (inl (r, stops, shown)) = absurd (sessions.outcome_is_one t all turns (came v) (refused r) it stops)
serves_one t all turns a b (inr (v, it, seen)) (inr (w, it', seen')) = inl (seen ∙ ap served_seen (sessions.served_is_one t all turns v w it it') ∙ sym seen')

pub seen_is_one : SeenIsOne
seen_is_one help texts a b lines x y = inl (x ∙ sym y)
seen_is_one version texts a b lines x y = inl (x ∙ sym y)
seen_is_one (check program) texts a b lines x y = shows_one (flows ∷ []) IsChecked accepted (program_in texts) (checks.outcome_is_one (program_in texts)) a b x y
seen_is_one (explain program) texts a b lines x y = absurd (false_true_absurd lines)
seen_is_one (outline program) texts a b lines x y = absurd (false_true_absurd lines)
seen_is_one (picture program) texts a b lines x y = absurd (false_true_absurd lines)
seen_is_one (explain_pair program host_name policy_name) texts a b lines x y = absurd (false_true_absurd lines)
seen_is_one (orig program host_name input_name turns) texts a b lines x y =
    shows_one (hosts ∷ inputs ∷ []) (IsOriginal turns) ran_alone (original_of texts) (orig_alike (original_of texts) turns) a b x y
seen_is_one (local program host_name policy_name input_name turns window) texts a b lines x y =
    shows_one of_pair (IsPairRun turns) ran_both (pair_of texts) (runs.outcome_is_one (pair_of texts) turns) a b x y
seen_is_one (run program host_name policy_name input_name turns) texts a b lines x y = refused_seen of_pair (pair_of texts) a b x y
seen_is_one (split program to_slave to_monitor) texts a b lines x y =
    shows_one (flows ∷ []) IsSplit halved (program_in texts) (splits.outcome_is_one (program_in texts)) a b x y
seen_is_one slave texts a b lines x y = absurd x
seen_is_one (gen seed count) texts a b lines x y =
    shows_one of_pair (made.IsGenerated seed count) ran_both (made.texts_of seed count) (told_once seed count) a b x y
seen_is_one (serve program host_name policy_name turns all) texts a b lines x y = serves_one (shared_of texts) (inputs_of texts) turns a b x y
seen_is_one (audit program) texts a b lines x y = shows_one (flows ∷ []) IsAudit audited (program_in texts) (audit_is_one (program_in texts)) a b x y
