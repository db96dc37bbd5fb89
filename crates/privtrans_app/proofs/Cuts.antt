-- What is seen of the first bytes of texts is seen of the texts.
use Rattle.std.proofs.Common.{◌≡◌, ℕ, zero, suc, List, [], ◌∷◌, map, take, refl, subst, Option, inl, inr}
use Rattle.front_end.specs.FaultLinesSeen.{Seen}
use Rattle.pt_base.specs.declared.chooser.Who.{Who}
use Rattle.stages.specs.Climb.{IsRefused, Refusal, Stage, Texts, flows, hosts, inputs, rules, of_pair}
use Rattle.stages.specs.Commands.{AreCut, came}
use Rattle.stages.proofs.Cuts as stage_cuts
use Rattle.flow_check.specs.Checked.{IsChecked}
use Rattle.flow_check.proofs.OneOutcome as check_cuts
use Rattle.explaining.specs.Explains.{IsHeld}
use Rattle.explaining.proofs.Cuts as explain_cuts
use Rattle.outlining.specs.Outlines.{IsOutline}
use Rattle.outlining.proofs.Cuts as outline_cuts
use Rattle.auditing.specs.Audits.{IsAudit}
use Rattle.auditing.proofs.Cuts as audit_cuts
use Rattle.flow_picture.specs.Pictures.{IsPictured}
use Rattle.flow_picture.proofs.Cuts as picture_cuts
use Rattle.pair_explaining.specs.PairExplains.{IsPairHeld}
use Rattle.pair_explaining.specs.PairNames.{Names}
use Rattle.pair_explaining.specs.RefusalBlocks.{AreBlocks}
use Rattle.pair_explaining.proofs.Cuts as pair_cuts
use Rattle.original.specs.Original.{IsOriginal}
use Rattle.original.proofs.Cuts as original_cuts
use Rattle.pair_running.specs.LocalPairLocal.{IsPairRun}
use Rattle.pair_running.specs.LocalPairWhole.{HasWhole}
use Rattle.pair_running.proofs.LocalPairCuts.{cut_run, cut_whole}
use Rattle.pair_running.specs.ServedPairsTurns.{HaveTurns}
use Rattle.pair_running.proofs.ServedPairsCuts.{cut_turns, served_whole}
use Rattle.pair_texts.specs.Several.{AreCutInputs, AreCutShared}
use Rattle.pair_texts.proofs.SharedLemmas.{refused_whole}
use Rattle.program_split.specs.Split.{IsSplit}
use Rattle.program_split.proofs.Cuts as split_cuts
use Rattle.privtrans_app.specs.Gives.{Gives, IsRefusedBy, Shows, accepted, audited, by_lines, drawn, files_in, halved, inputs_of, one_name, original_of, pair_of, program_in, ran_alone, ran_both, shared_of, text_at, three_names}
use Rattle.privtrans_app.specs.Reading.{AreCutOf}
use Rattle.privtrans_app.specs.Sessions.{ServesAll}
use Rattle.privtrans_app.specs.Words.{Command, help, version, check, explain, outline, picture, explain_pair, orig, local, run, split, slave, gen, serve, audit}

-- ---- texts

-- the first bytes of each text
abbrev pub firsts : List (List ℕ) → List (List ℕ)
firsts texts = map (take 1048577) texts

pub text_cut : (texts : List (List ℕ)) (n : ℕ) → text_at (firsts texts) n ≡ take 1048577 (text_at texts n)
text_cut [] n = refl
text_cut (text ∷ texts) zero = refl
text_cut (text ∷ texts) (suc n) = text_cut texts n

pub pair_cut : (texts : List (List ℕ)) → AreCut (pair_of texts) (pair_of (firsts texts))
pair_cut texts = record { program = text_cut texts 0; host = text_cut texts 1; policy = text_cut texts 2; input = text_cut texts 3; way = refl }

files_cut : (texts : List (List ℕ)) → AreCut (files_in texts) (files_in (firsts texts))
files_cut texts = record { program = text_cut texts 0; host = text_cut texts 1; policy = text_cut texts 2; input = refl; way = refl }

program_cut : (texts : List (List ℕ)) → AreCut (program_in texts) (program_in (firsts texts))
program_cut texts = record { program = text_cut texts 0; host = refl; policy = refl; input = refl; way = refl }

original_cut : (texts : List (List ℕ)) → AreCut (original_of texts) (original_of (firsts texts))
original_cut texts = record { program = text_cut texts 0; host = text_cut texts 1; policy = refl; input = text_cut texts 2; way = refl }

-- ---- each command

-- what refuses first bytes refuses the whole, and is told so
refused_cut : (ss : List Stage) (tells tells' : Refusal → List ℕ → Type 0) (whole cut : Texts) (s : Seen) → AreCut whole cut
    → ((r : Refusal) (report : List ℕ) → IsRefused ss cut r → tells r report → tells' r report) → IsRefusedBy ss tells cut s → IsRefusedBy ss tells' whole s
refused_cut ss tells tells' whole cut s are f (r, report, stops, told, shown) = (r, report, (stage_cuts.first_bytes ss whole cut are).0 r stops, f r report stops told, shown)

shows_cut : {A : Type 0} (ss : List Stage) (tells tells' : Refusal → List ℕ → Type 0) (is : Texts → A → Type 0) (show : A → Seen) (whole cut : Texts) (s : Seen) → AreCut whole cut
    → ((r : Refusal) (report : List ℕ) → IsRefused ss cut r → tells r report → tells' r report) → ((x : A) → is cut x → is whole x)
    → Shows ss tells is show cut s → Shows ss tells' is show whole s
shows_cut ss tells tells' is show whole cut s are f g (inl x) = inl (refused_cut ss tells tells' whole cut s are f x)
shows_cut ss tells tells' is show whole cut s are f g (inr (x, it, shown)) = inr (x, g x it, shown)

-- of several pairs
pub shared_cut : (texts : List (List ℕ)) → AreCutShared (shared_of texts) (shared_of (firsts texts))
shared_cut texts = record { program = text_cut texts 0; host = text_cut texts 1; policy = text_cut texts 2 }

pub inputs_cut : (texts : List (List ℕ)) → AreCutInputs (inputs_of texts) (inputs_of (firsts texts))
inputs_cut [] = refl
inputs_cut (program ∷ []) = refl
inputs_cut (program ∷ host_text ∷ []) = refl
inputs_cut (program ∷ host_text ∷ policy_text ∷ []) = refl
inputs_cut (program ∷ host_text ∷ policy_text ∷ first ∷ all) = refl

serves_cut : (texts : List (List ℕ)) (turns : ℕ) (s : Seen) → ServesAll (shared_of (firsts texts)) (inputs_of (firsts texts)) turns s → ServesAll (shared_of texts) (inputs_of texts) turns s
serves_cut texts turns s (inl (r, stops, shown)) = inl (r, refused_whole (shared_of texts) (shared_of (firsts texts)) (inputs_of texts) (inputs_of (firsts texts)) r (shared_cut texts) (inputs_cut texts) stops, shown)
serves_cut texts turns s (inr (v, is, shown)) = inr (v, served_whole (shared_of texts) (shared_of (firsts texts)) (inputs_of texts) (inputs_of (firsts texts)) turns v (shared_cut texts) (inputs_cut texts) is, shown)

gives_cut : (c : Command) (texts : List (List ℕ)) (s : Seen) → Gives c (firsts texts) s → Gives c texts s
gives_cut help texts s gives = gives
gives_cut version texts s gives = gives
gives_cut (check program) texts s gives =
    let whole : Texts = program_in texts in
    let cut : Texts = program_in (firsts texts) in
    shows_cut (flows ∷ []) by_lines by_lines IsChecked accepted whole cut s (program_cut texts) (λ r report stops told. told) (λ x it. check_cuts.cut_whole whole cut (came x) (program_cut texts) it) gives
gives_cut (explain program) texts s gives =
    let whole : Texts = program_in texts in
    let cut : Texts = program_in (firsts texts) in
    let names : Names = one_name program in
    shows_cut (flows ∷ []) (AreBlocks names cut) (AreBlocks names whole) (IsHeld program) accepted whole cut s (program_cut texts)
    (λ r report stops told. (pair_cuts.enough (flows ∷ []) names whole cut r report (program_cut texts) stops told).1)
    (λ x it. explain_cuts.enough program whole cut (came x) (program_cut texts) it) gives
gives_cut (outline program) texts s gives =
    let whole : Texts = program_in texts in
    let cut : Texts = program_in (firsts texts) in
    shows_cut (flows ∷ []) by_lines by_lines IsOutline accepted whole cut s (program_cut texts) (λ r report stops told. told) (λ x it. outline_cuts.cut_whole whole cut (came x) (program_cut texts) it) gives
gives_cut (picture program) texts s gives =
    let whole : Texts = program_in texts in
    let cut : Texts = program_in (firsts texts) in
    shows_cut [] by_lines by_lines IsPictured drawn whole cut s (program_cut texts) (λ r report stops told. told) (λ x it. picture_cuts.enough whole cut (came x) (program_cut texts) it) gives
gives_cut (explain_pair program host_name policy_name) texts s gives =
    let whole : Texts = files_in texts in
    let cut : Texts = files_in (firsts texts) in
    let names : Names = three_names program host_name policy_name in
    shows_cut (hosts ∷ rules ∷ flows ∷ []) (AreBlocks names cut) (AreBlocks names whole) (IsPairHeld program) accepted whole cut s (files_cut texts)
    (λ r report stops told. (pair_cuts.enough (hosts ∷ rules ∷ flows ∷ []) names whole cut r report (files_cut texts) stops told).1)
    (λ x it. pair_cuts.holds program whole cut (came x) (files_cut texts) it) gives
gives_cut (orig program host_name input_name turns) texts s gives =
    let whole : Texts = original_of texts in
    let cut : Texts = original_of (firsts texts) in
    shows_cut (hosts ∷ inputs ∷ []) by_lines by_lines (IsOriginal turns) ran_alone whole cut s (original_cut texts) (λ r report stops told. told)
    (λ x it. original_cuts.cut_whole whole cut turns (came x) (original_cut texts) it) gives
gives_cut (local program host_name policy_name input_name turns window) texts s gives =
    let whole : Texts = pair_of texts in
    let cut : Texts = pair_of (firsts texts) in
    shows_cut of_pair by_lines by_lines (IsPairRun turns) ran_both whole cut s (pair_cut texts) (λ r report stops told. told) (λ x it. cut_whole whole cut turns (came x) (pair_cut texts) it) gives
gives_cut (run program host_name policy_name input_name turns) texts s gives =
    refused_cut of_pair by_lines by_lines (pair_of texts) (pair_of (firsts texts)) s (pair_cut texts) (λ r report stops told. told) gives
gives_cut (split program to_slave to_monitor) texts s gives =
    let whole : Texts = program_in texts in
    let cut : Texts = program_in (firsts texts) in
    shows_cut (flows ∷ []) by_lines by_lines IsSplit halved whole cut s (program_cut texts) (λ r report stops told. told) (λ x it. split_cuts.cut_whole whole cut (came x) (program_cut texts) it) gives
gives_cut slave texts s gives = absurd gives
gives_cut (gen seed count) texts s gives = gives
gives_cut (serve program host_name policy_name turns all) texts s gives = serves_cut texts turns s gives
gives_cut (audit program) texts s gives =
    let whole : Texts = program_in texts in
    let cut : Texts = program_in (firsts texts) in
    shows_cut (flows ∷ []) by_lines by_lines IsAudit audited whole cut s (program_cut texts) (λ r report stops told. told) (λ x it. audit_cuts.cut_whole whole cut (came x) (program_cut texts) it) gives

pub gives_whole : (c : Command) (whole cut : List (List ℕ)) (s : Seen) → AreCutOf whole cut → Gives c cut s → Gives c whole s
gives_whole c whole cut s (inl same) gives = subst (λ (t : List (List ℕ)). Gives c t s) same gives
gives_whole c whole cut s (inr same) gives = gives_cut c whole s (subst (λ (t : List (List ℕ)). Gives c t s) same gives)

-- a whole run of the first bytes is one of the texts
pub run_whole : (whole cut : List (List ℕ)) (turns window : ℕ) (before after : Option (ℕ → Who)) (bytes : List ℕ) → AreCutOf whole cut
    → HasWhole (pair_of cut) turns window before after bytes → HasWhole (pair_of whole) turns window before after bytes
run_whole whole cut turns window before after bytes (inl same) has = subst (λ (t : List (List ℕ)). HasWhole (pair_of t) turns window before after bytes) same has
run_whole whole cut turns window before after bytes (inr same) has =
    cut_run (pair_of whole) (pair_of (firsts whole)) turns window before after bytes (pair_cut whole) (subst (λ (t : List (List ℕ)). HasWhole (pair_of t) turns window before after bytes) same has)

-- whole turns of the first bytes are some of the texts
pub turns_whole : (whole cut : List (List ℕ)) (turns : ℕ) (before after : Option (ℕ → Who)) (bytes : List (List ℕ)) → AreCutOf whole cut
    → HaveTurns (shared_of cut) (inputs_of cut) turns before after bytes → HaveTurns (shared_of whole) (inputs_of whole) turns before after bytes
turns_whole whole cut turns before after bytes (inl same) has = subst (λ (t : List (List ℕ)). HaveTurns (shared_of t) (inputs_of t) turns before after bytes) same has
turns_whole whole cut turns before after bytes (inr same) has =
    cut_turns (shared_of whole) (shared_of (firsts whole)) (inputs_of whole) (inputs_of (firsts whole)) turns before after bytes (shared_cut whole) (inputs_cut whole)
    (subst (λ (t : List (List ℕ)). HaveTurns (shared_of t) (inputs_of t) turns before after bytes) same has)

-- a program of the first bytes that has halves
pub halves_whole : (whole cut : List (List ℕ)) (slave_text monitor_text : List ℕ) → AreCutOf whole cut → IsSplit (program_in cut) (record { slave = slave_text; monitor = monitor_text })
    → IsSplit (program_in whole) (record { slave = slave_text; monitor = monitor_text })
halves_whole whole cut slave_text monitor_text (inl same) has =
    subst (λ (t : List (List ℕ)). IsSplit (program_in t) (record { slave = slave_text; monitor = monitor_text })) same has
halves_whole whole cut slave_text monitor_text (inr same) has =
    split_cuts.cut_whole (program_in whole) (program_in (firsts whole)) (came (record { slave = slave_text; monitor = monitor_text })) (program_cut whole)
    (subst (λ (t : List (List ℕ)). IsSplit (program_in t) (record { slave = slave_text; monitor = monitor_text })) same has)
