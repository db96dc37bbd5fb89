-- Something is seen of all texts, but for programs of too many slots.
use Rattle.std.proofs.Common.{◌⊎◌, ◌<◌, ℕ, suc, List, [], ◌∷◌, drop, refl, sym, ap, subst, inl, inr, arith}
use Rattle.std.specs.List.{flat_map}
use Rattle.std.specs.List.Sorted.{IsStrictlySortedBy}
use Rattle.pt_base.proofs.Booleans.{false_true_absurd}
use Rattle.pt_base.proofs.SortedLists.{ascending}
use Rattle.runs.specs.Run.{Expected}
use Rattle.typed_tree.specs.TypedTree.{TypedTree}
use Rattle.front_end.specs.FaultLinesSeen.{Seen, faulty}
use Rattle.front_end.specs.Reading.{HasTypedTree}
use Rattle.policy.specs.Verdicts.{start}
use Rattle.flow_rules.specs.declared.fault.FlowFault.{FlowFault}
use Rattle.flow_rules.specs.Faults.{fault_cmp}
use Rattle.stages.specs.Climb.{HasPassed, IsRefused, Refusal, Stage, StopsAt, Texts, lex, parse, types, host, policy, flow, input, flows, hosts, inputs, rules, of_pair}
use Rattle.stages.specs.Commands.{Climb, ComesTo, came, refused}
use Rattle.stages.specs.FlowFaults.{HasFlowFaults}
use Rattle.stages.proofs.OneRefusal.{tree_is_one}
use Rattle.refusal_lines.specs.Lines.{lines_of}
use Rattle.flow_check.specs.Checked.{IsChecked}
use Rattle.flow_check.proofs.OneOutcome.{checked_passed}
use Rattle.explaining.specs.Explains.{AreFlowBlocks, IsHeld}
use Rattle.explaining.specs.FlowBlocks.{flow_block}
use Rattle.explaining.specs.FrontBlocks.{lex_block, parse_block, type_block}
use Rattle.explaining.specs.Holdings.{holding}
use Rattle.explaining.specs.Homes.{home_cmp, homes_from}
use Rattle.flow_picture.specs.Pictures.{IsPictured}
use Rattle.flow_picture.proofs.ExistingPictures.{picture_exists}
use Rattle.outlining.specs.Outlines.{IsOutline}
use Rattle.outlining.proofs.ExistingOutlines.{accepted_outlined}
use Rattle.auditing.specs.Audits.{IsAudit}
use Rattle.auditing.proofs.ExistingAudits.{accepted_audited}
use Rattle.auditing.proofs.OneAudit.{audit_has_passed}
use Rattle.pair_explaining.specs.HostBlocks.{host_block}
use Rattle.pair_explaining.specs.PairExplains.{IsPairHeld}
use Rattle.pair_explaining.specs.PairNames.{Names}
use Rattle.pair_explaining.specs.PolicyBlocks.{policy_block}
use Rattle.pair_explaining.specs.RefusalBlocks.{AreBlocks, IsTold}
use Rattle.pair_explaining.proofs.Told as blocks
use Rattle.original.specs.Original as original
use Rattle.original.specs.Original.{IsOriginal}
use Rattle.pair_running.specs.HonestTalksLaws.{expected_of}
use Rattle.pair_running.specs.LocalPairLocal as pairs
use Rattle.pair_running.specs.LocalPairLocal.{IsPairRun, ran_of}
use Rattle.pair_running.specs.GeneratedPairGenerated as made
use Rattle.pair_running.specs.ServedPairsServed.{AreRan, Served, Session, ran_by}
use Rattle.pair_texts.specs.Several.{IsOneRefused, SharedTexts, with_input}
use Rattle.pair_texts.specs.Start.{names_of}
use Rattle.program_split.specs.Split.{IsSplit}
use Rattle.program_split.proofs.OneOutcome.{split_has_passed}
use Rattle.texts_have_outcomes_law.specs.Laws.{HasTooManySlots}
use Rattle.texts_have_outcomes_law.proofs.Climbs.{climbs_end}
use Rattle.texts_have_outcomes_law.proofs.Commands.{check_shows, runs_come, split_gives}
use Rattle.texts_have_outcomes_law.proofs.NoOutcomes.{is_read, no_sides, not_passed, not_refused}
use Rattle.privtrans_app.specs.Gives.{Shows, accepted, audited, by_lines, drawn, files_in, halved, one_name, original_of, pair_of, program_in, ran_alone, ran_both, shared_of, text_at, three_names, unreported}
use Rattle.privtrans_app.specs.Help.{help_text, version_text}
use Rattle.privtrans_app.specs.Sessions.{ServesAll, served_seen}
use Rattle.privtrans_app.specs.Told.{CommandsAreSeen, TooManySlotsAreUnseen}
use Rattle.privtrans_app.specs.Words.{help, version, check, explain, outline, picture, explain_pair, orig, local, run, split, slave, gen, serve, audit}
use Rattle.privtrans_app.proofs.SeenLemmas.{held_passed, outline_passed}
use Rattle.privtrans_app.proofs.ToldOrders.{homes_ascend, turns_exist}

-- ---- refusals are told

abbrev IsShown : {A : Type 0} → List Stage → (Refusal → List ℕ → Type 0) → (Texts → A → Type 0) → (A → Seen) → Texts → Type 0
IsShown ss tells is show t = (s : Seen) × Shows ss tells is show t s

lines_tell : (r : Refusal) → (report : List ℕ) × by_lines r report
lines_tell r = (lines_of r, refl)

flow_blocks_exist : (name text : List ℕ) (t : TypedTree) (faults : List FlowFault) → IsStrictlySortedBy fault_cmp faults → (report : List ℕ) × AreFlowBlocks name text t faults report
flow_blocks_exist name text t faults sorted =
    let homes = ascending home_cmp (homes_from 0 t.functions) in
    let order = turns_exist faults sorted in
    (flat_map (flow_block name text t homes) order.0, (homes, homes_ascend t, order.0, order.1, refl))

blocks_tell : (names : Names) (t : Texts) (r : Refusal) → IsTold r → (report : List ℕ) × AreBlocks names t r report
blocks_tell names t (lex fault) told = (lex_block names.program t.program fault, refl)
blocks_tell names t (parse fault) told = (parse_block names.program t.program fault, refl)
blocks_tell names t (types faults) told = (flat_map (type_block names.program t.program) faults, refl)
blocks_tell names t (host tree faults) told = (flat_map (host_block names t.program tree) faults, refl)
blocks_tell names t (policy fault) told = (policy_block names.policy t.policy fault, refl)
blocks_tell names t (flow tree faults) told = flow_blocks_exist names.program t.program tree faults told
blocks_tell names t input told = absurd told

-- ---- all climbs

refused_shown : {A : Type 0} (ss : List Stage) (tells : Refusal → List ℕ → Type 0) (is : Texts → A → Type 0) (show : A → Seen) (t : Texts)
    → ((r : Refusal) → IsRefused ss t r → (report : List ℕ) × tells r report) → (r : Refusal) → IsRefused ss t r → IsShown ss tells is show t
refused_shown ss tells is show t told r stops = let report = told r stops in (faulty report.0, inl (r, report.0, stops, report.1, refl))

came_shown : {A : Type 0} (ss : List Stage) (tells : Refusal → List ℕ → Type 0) (is : Texts → A → Type 0) (show : A → Seen) (t : Texts)
    → ((x : A) × is t x) → IsShown ss tells is show t
came_shown ss tells is show t x = (show x.0, inr (x.0, x.1, refl))

climb_shown : {A : Type 0} (ss : List Stage) (tells : Refusal → List ℕ → Type 0) (is : Texts → A → Type 0) (show : A → Seen) (t : Texts)
    → ((r : Refusal) → IsRefused ss t r → (report : List ℕ) × tells r report) → ((tree : TypedTree) → HasPassed ss t tree → (x : A) × is t x)
    → ((r : Refusal) × IsRefused ss t r) ⊎ (((tree : TypedTree) × HasPassed ss t tree) ⊎ HasTooManySlots t.program)
    → IsShown ss tells is show t ⊎ HasTooManySlots t.program
climb_shown ss tells is show t told gives (inl x) = inl (refused_shown ss tells is show t told x.0 x.1)
climb_shown ss tells is show t told gives (inr (inl x)) = inl (came_shown ss tells is show t (gives x.0 x.1))
climb_shown ss tells is show t told gives (inr (inr many)) = inr many

-- of all that climb flows last
shown_behind : {A : Type 0} (ss : List Stage) (tells : Refusal → List ℕ → Type 0) (is : Texts → A → Type 0) (show : A → Seen) (t : Texts)
    → ((r : Refusal) → IsRefused ss t r → (report : List ℕ) × tells r report) → ((tree : TypedTree) → HasPassed ss t tree → (x : A) × is t x)
    → IsShown ss tells is show t ⊎ HasTooManySlots t.program
shown_behind ss tells is show t told gives = climb_shown ss tells is show t told gives (climbs_end ss t)

-- ---- what passed texts give

held_exists : (name : List ℕ) (t : Texts) → (lines : List ℕ) × IsChecked t lines → (lines : List ℕ) × IsHeld name t lines
held_exists name t (lines, (tree, has, slots)) = (
  flat_map (holding name t.program tree) slots.slots,
  (tree, has, record { accepted = slots.accepted; is = slots.is; slots = slots.slots; shown = slots.shown; lines_are = refl }),
)

explained_passed : (name : List ℕ) (t : Texts) (tree : TypedTree) → HasPassed (flows ∷ []) t tree → (lines : List ℕ) × IsHeld name t lines
explained_passed name t tree passed = held_exists name t (check_shows t tree passed)

-- the lines of the program that a check tells
pair_lines : (name : List ℕ) (t : Texts) (tree : TypedTree) → HasPassed (hosts ∷ rules ∷ []) t tree → (lines : List ℕ) × IsChecked t lines → (lines : List ℕ) × IsPairHeld name t lines
pair_lines name t tree passed (lines, (other, has, slots)) = (
  flat_map (holding name t.program other) slots.slots,
  (
    other,
    subst (λ (o : TypedTree). HasPassed (hosts ∷ rules ∷ []) t o) (tree_is_one t.program tree other passed.0 has) passed,
    record { accepted = slots.accepted; is = slots.is; slots = slots.slots; shown = slots.shown; lines_are = refl },
  ),
)

pair_explained : (name : List ℕ) (t : Texts) (tree : TypedTree) → HasPassed (hosts ∷ rules ∷ flows ∷ []) t tree → (lines : List ℕ) × IsPairHeld name t lines
pair_explained name t tree (has, (given, (read, (judged, done)))) = pair_lines name t tree (has, (given, (read, tt))) (check_shows t tree (has, (judged, tt)))

pair_runs : (turns : ℕ) (t : Texts) (tree : TypedTree) → HasPassed of_pair t tree → (r : pairs.Ran) × IsPairRun turns t r
pair_runs turns t tree (has, ((given, gives), ((read, is), ((a, accepts), (short, done))))) =
    let e : Expected = expected_of tree (start read) given t.input turns in (
      ran_of tree e,
      (
        tree,
        e,
        record {
          hosts = given;
          rules = read;
          accepted = a;
          read = record { program = has; table = gives; policy = is };
          is = accepts;
          short = short;
          expected_is = refl;
        },
        refl,
        refl,
        refl,
      ),
    )

generated_runs : (seed count : ℕ) (tree : TypedTree) → HasPassed of_pair (made.texts_of seed count) tree → (r : pairs.Ran) × made.IsGenerated seed count (made.texts_of seed count) r
generated_runs seed count tree passed = let run = pair_runs made.turns (made.texts_of seed count) tree passed in (made.telling seed count run.0, (run.0, run.1, refl))

-- ---- runs of the original

orig_shown : (t : Texts) (turns : ℕ) (o : Climb original.Ran) → ComesTo (hosts ∷ inputs ∷ []) (IsOriginal turns) t o → IsShown (hosts ∷ inputs ∷ []) by_lines (IsOriginal turns) ran_alone t
orig_shown t turns (refused r) stops = refused_shown (hosts ∷ inputs ∷ []) by_lines (IsOriginal turns) ran_alone t (λ r stops. lines_tell r) r stops
orig_shown t turns (came x) is = came_shown (hosts ∷ inputs ∷ []) by_lines (IsOriginal turns) ran_alone t (x, is)

-- ---- pictures

abbrev IsDrawn : Texts → Type 0
IsDrawn t = IsShown [] by_lines IsPictured drawn t

no_faults : (t : Texts) (tree : TypedTree) → HasPassed (flows ∷ []) t tree → IsDrawn t
no_faults t tree (has, ((a, is), done)) =
    let picture = picture_exists t.program tree a.sides is.sides a.marks is.marks [] in
    came_shown [] by_lines IsPictured drawn t (record { faults = []; picture = picture.0 }, (tree, has, (a, is), picture.1))

some_faults : (t : Texts) (tree : TypedTree) (faults : List FlowFault) → HasTypedTree t.program tree → HasFlowFaults tree faults → IsDrawn t
some_faults t tree [] has are = let none : 0 < 0 = are.some in absurd (omega (arith, none))
some_faults t tree (f ∷ fs) has are =
    let picture = picture_exists t.program tree are.sides are.placed are.marks are.marked (f ∷ fs) in
    came_shown [] by_lines IsPictured drawn t (record { faults = f ∷ fs; picture = picture.0 }, (tree, has, are, picture.1))

faulty_drawn : (t : Texts) (tree : TypedTree) (r : Refusal) → HasTypedTree t.program tree → StopsAt (flows ∷ []) t tree r → IsDrawn t
faulty_drawn t tree r has (inl (faults, are, is)) = some_faults t tree faults has are
faulty_drawn t tree r has (inr (passes, stops)) = absurd stops

refused_drawn : (t : Texts) (r : Refusal) → IsRefused (flows ∷ []) t r → IsDrawn t
refused_drawn t r (inl unread) = refused_shown [] by_lines IsPictured drawn t (λ r stops. lines_tell r) r (inl unread)
refused_drawn t r (inr (tree, has, stops)) = faulty_drawn t tree r has stops

all_drawn : (t : Texts) → ((r : Refusal) × IsRefused (flows ∷ []) t r) ⊎ (((tree : TypedTree) × HasPassed (flows ∷ []) t tree) ⊎ HasTooManySlots t.program)
    → IsDrawn t ⊎ HasTooManySlots t.program
all_drawn t (inl x) = inl (refused_drawn t x.0 x.1)
all_drawn t (inr (inl x)) = inl (no_faults t x.0 x.1)
all_drawn t (inr (inr many)) = inr many

-- ---- several pairs

-- the sessions of passed texts
session_runs : (t : SharedTexts) (turns : ℕ) (tree other : TypedTree) (bytes : List ℕ) → HasTypedTree t.program tree → HasPassed of_pair (with_input t bytes) other
    → (x : Session) × IsPairRun turns (with_input t bytes) (ran_by (names_of tree) x)
session_runs t turns tree other bytes has passed =
    let run = pair_runs turns (with_input t bytes) other passed in
    let is = run.1 in
    (record { bytes = run.0.bytes; end = run.0.end }, (is.0, is.1, is.2, is.3, ap names_of (tree_is_one t.program tree is.0 has is.2.read.program), is.5))

abbrev AllEnd : SharedTexts → ℕ → TypedTree → List (List ℕ) → Type 0
AllEnd t turns tree all = ((r : Refusal) × IsOneRefused t all r) ⊎ (((xs : List Session) × AreRan t turns (names_of tree) all xs) ⊎ HasTooManySlots t.program)

one_more : (t : SharedTexts) (turns : ℕ) (tree : TypedTree) (bytes : List ℕ) (all : List (List ℕ)) → HasTypedTree t.program tree
    → ((r : Refusal) × IsRefused of_pair (with_input t bytes) r) ⊎ (((other : TypedTree) × HasPassed of_pair (with_input t bytes) other) ⊎ HasTooManySlots t.program)
    → AllEnd t turns tree all → AllEnd t turns tree (bytes ∷ all)
one_more t turns tree bytes all has (inl (r, stops)) rest = inl (r, (0, bytes, refl, stops))
one_more t turns tree bytes all has (inr (inl (other, passed))) (inl (r, (place, there, at, stops))) = inl (r, (suc place, there, at, stops))
one_more t turns tree bytes all has (inr (inl (other, passed))) (inr (inl (xs, ran))) =
    let x = session_runs t turns tree other bytes has passed in
    inr (inl (x.0 ∷ xs, (x.1, ran)))
one_more t turns tree bytes all has (inr (inl (other, passed))) (inr (inr many)) = inr (inr many)
one_more t turns tree bytes all has (inr (inr many)) rest = inr (inr many)

all_end : (t : SharedTexts) (turns : ℕ) (tree : TypedTree) (all : List (List ℕ)) → HasTypedTree t.program tree → AllEnd t turns tree all
all_end t turns tree [] has = inr (inl ([], tt))
all_end t turns tree (bytes ∷ all) has = one_more t turns tree bytes all has (climbs_end of_pair (with_input t bytes)) (all_end t turns tree all has)

abbrev IsServeSeen : SharedTexts → List (List ℕ) → ℕ → Type 0
IsServeSeen t all turns = (s : Seen) × ServesAll t all turns s

end_seen : (t : SharedTexts) (turns : ℕ) (tree : TypedTree) (bytes : List ℕ) (all : List (List ℕ)) → AllEnd t turns tree (bytes ∷ all) → IsServeSeen t (bytes ∷ all) turns ⊎ HasTooManySlots t.program
end_seen t turns tree bytes all (inl (r, stops)) = inl (faulty (lines_of r), inl (r, stops, refl))
end_seen t turns tree bytes all (inr (inl (xs, ran))) =
    let v : Served = record { sessions = xs; names = names_of tree } in
    inl (served_seen v, inr (v, record { some = omega arith; ran = ran }, refl))
end_seen t turns tree bytes all (inr (inr many)) = inr many

first_seen : (t : SharedTexts) (turns : ℕ) (bytes : List ℕ) (all : List (List ℕ))
    → ((r : Refusal) × IsRefused of_pair (with_input t bytes) r) ⊎ (((tree : TypedTree) × HasPassed of_pair (with_input t bytes) tree) ⊎ HasTooManySlots t.program)
    → IsServeSeen t (bytes ∷ all) turns ⊎ HasTooManySlots t.program
first_seen t turns bytes all (inl (r, stops)) = inl (faulty (lines_of r), inl (r, (0, bytes, refl, stops), refl))
first_seen t turns bytes all (inr (inl (tree, passed))) = end_seen t turns tree bytes all (all_end t turns tree (bytes ∷ all) passed.0)
first_seen t turns bytes all (inr (inr many)) = inr many

-- ---- all commands

pub commands_seen : CommandsAreSeen
commands_seen help texts alone = inl (unreported help_text, refl)
commands_seen version texts alone = inl (unreported version_text, refl)
commands_seen (check program) texts alone =
    shown_behind (flows ∷ []) by_lines IsChecked accepted (program_in texts) (λ r stops. lines_tell r) (check_shows (program_in texts))
commands_seen (explain program) texts alone =
    let t : Texts = program_in texts in
    shown_behind (flows ∷ []) (AreBlocks (one_name program) t) (IsHeld program) accepted t (λ r stops. blocks_tell (one_name program) t r (blocks.told (flows ∷ []) t r tt stops))
    (explained_passed program t)
commands_seen (outline program) texts alone =
    shown_behind (flows ∷ []) by_lines IsOutline accepted (program_in texts) (λ r stops. lines_tell r) (accepted_outlined (program_in texts))
commands_seen (picture program) texts alone = all_drawn (program_in texts) (climbs_end (flows ∷ []) (program_in texts))
commands_seen (explain_pair program host_name policy_name) texts alone =
    let t : Texts = files_in texts in
    let names : Names = three_names program host_name policy_name in
    shown_behind (hosts ∷ rules ∷ flows ∷ []) (AreBlocks names t) (IsPairHeld program) accepted t (λ r stops. blocks_tell names t r (blocks.told (hosts ∷ rules ∷ flows ∷ []) t r tt stops))
    (pair_explained program t)
commands_seen (orig program host_name input_name turns) texts alone = let o = runs_come (original_of texts) turns in inl (orig_shown (original_of texts) turns o.0 o.1)
commands_seen (local program host_name policy_name input_name turns window) texts alone =
    shown_behind of_pair by_lines (IsPairRun turns) ran_both (pair_of texts) (λ r stops. lines_tell r) (pair_runs turns (pair_of texts))
commands_seen (run program host_name policy_name input_name turns) texts alone = absurd (false_true_absurd (sym alone))
commands_seen (split program to_slave to_monitor) texts alone =
    shown_behind (flows ∷ []) by_lines IsSplit halved (program_in texts) (λ r stops. lines_tell r) (split_gives (program_in texts))
commands_seen slave texts alone = absurd (false_true_absurd (sym alone))
commands_seen (gen seed count) texts alone =
    shown_behind of_pair by_lines (made.IsGenerated seed count) ran_both (made.texts_of seed count) (λ r stops. lines_tell r) (generated_runs seed count)
commands_seen (serve program host_name policy_name turns all) texts alone =
    first_seen (shared_of texts) turns (text_at texts 3) (drop 4 texts) (climbs_end of_pair (with_input (shared_of texts) (text_at texts 3)))
commands_seen (audit program) texts alone =
    shown_behind (flows ∷ []) by_lines IsAudit audited (program_in texts) (λ r stops. lines_tell r) (accepted_audited (program_in texts))

-- ---- programs of too many slots

unseen : {A : Type 0} (tells : Refusal → List ℕ → Type 0) (is : Texts → A → Type 0) (show : A → Seen) (t : Texts)
    → ((x : A) → is t x → (tree : TypedTree) × HasPassed (flows ∷ []) t tree) → HasTooManySlots t.program → (s : Seen) → Shows (flows ∷ []) tells is show t s → ⊥
unseen tells is show t passed many s (inl (r, report, stops, told, shown)) = not_refused [] t many r stops
unseen tells is show t passed many s (inr (x, it, shown)) = let h = passed x it in not_passed [] t many h.0 h.1

undrawn : (t : Texts) → HasTooManySlots t.program → (s : Seen) → Shows [] by_lines IsPictured drawn t s → ⊥
undrawn t many s (inl (r, report, inl unread, told, shown)) = is_read t.program many r unread
undrawn t many s (inl (r, report, inr (tree, has, stops), told, shown)) = stops
undrawn t many s (inr (p, is, shown)) = no_sides t.program many is.0 is.1 is.3.sides is.3.placed

pub many_unseen : TooManySlotsAreUnseen
many_unseen help texts s first many x = many
many_unseen version texts s first many x = many
many_unseen (check program) texts s first many x = unseen by_lines IsChecked accepted (program_in texts) (checked_passed (program_in texts)) many s x
many_unseen (explain program) texts s first many x =
    unseen (AreBlocks (one_name program) (program_in texts)) (IsHeld program) accepted (program_in texts) (held_passed program (program_in texts)) many s x
many_unseen (outline program) texts s first many x = unseen by_lines IsOutline accepted (program_in texts) (outline_passed (program_in texts)) many s x
many_unseen (picture program) texts s first many x = undrawn (program_in texts) many s x
many_unseen (explain_pair program host_name policy_name) texts s first many x = false_true_absurd first
many_unseen (orig program host_name input_name turns) texts s first many x = many
many_unseen (local program host_name policy_name input_name turns window) texts s first many x = false_true_absurd first
many_unseen (run program host_name policy_name input_name turns) texts s first many x = false_true_absurd first
many_unseen (split program to_slave to_monitor) texts s first many x = unseen by_lines IsSplit halved (program_in texts) (split_has_passed (program_in texts)) many s x
many_unseen slave texts s first many x = many
many_unseen (gen seed count) texts s first many x = false_true_absurd first
many_unseen (serve program host_name policy_name turns all) texts s first many x = false_true_absurd first
many_unseen (audit program) texts s first many x = unseen by_lines IsAudit audited (program_in texts) (audit_has_passed (program_in texts)) many s x
