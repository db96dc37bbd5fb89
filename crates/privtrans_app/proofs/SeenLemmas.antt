-- Of a command's texts one status is seen, and it isn't that of want of memory.
use Rattle.std.proofs.Common.{◌≡◌, ◌≢◌, ◌∙◌, ℕ, List, [], ◌∷◌, refl, sym, ap, subst, inl, inr, arith}
use Rattle.pt_base.specs.declared.end.End.{End}
use Rattle.pt_base.specs.declared.end.End.TheVariants.{Exit, Trapped, Spent, Refused}
use Rattle.typed_tree.specs.TypedTree.{TypedTree}
use Rattle.front_end.specs.FaultLinesSeen.{Seen}
use Rattle.flow_rules.specs.declared.fault.FlowFault.{FlowFault}
use Rattle.stages.specs.Climb.{HasPassed, Refusal, Stage, Texts, flows, hosts, inputs, rules, of_pair}
use Rattle.stages.specs.Commands.{Climb, came, refused}
use Rattle.stages.proofs.OneFaults.{accepted_or_faulty}
use Rattle.stages.proofs.OneRefusal.{passed_unrefused, tree_is_one}
use Rattle.refusal_lines.specs.Ends.{end_status}
use Rattle.flow_check.specs.Checked.{IsChecked}
use Rattle.flow_check.proofs.OneOutcome.{checked_passed}
use Rattle.explaining.specs.Explains.{IsHeld}
use Rattle.outlining.specs.Outlines.{IsOutline}
use Rattle.auditing.specs.Audits.{IsAudit}
use Rattle.auditing.proofs.OneAudit.{audit_has_passed}
use Rattle.flow_picture.specs.Pictures.{AreJudged, IsPictured, Picture}
use Rattle.pair_explaining.specs.PairExplains.{IsPairHeld}
use Rattle.pair_explaining.specs.RefusalBlocks.{AreBlocks}
use Rattle.original.specs.Original.{IsOriginal}
use Rattle.original.proofs.OneOutcome as originals
use Rattle.pair_running.specs.LocalPairLocal as pairs
use Rattle.pair_running.specs.LocalPairLocal.{IsPairRun}
use Rattle.pair_running.specs.GeneratedPairGenerated as made
use Rattle.pair_running.proofs.GeneratedPairRuns.{told_once}
use Rattle.pair_running.proofs.LocalPairOneOutcome.{run_has_passed, run_is_one}
use Rattle.pair_running.proofs.ServedPairsOneOutcome as sessions
use Rattle.pair_texts.specs.Several.{SharedTexts}
use Rattle.program_split.specs.Split.{IsSplit}
use Rattle.program_split.proofs.OneOutcome.{split_has_passed}
use Rattle.privtrans_app.specs.Gives.{IsRefusedBy, Shows, accepted, audited, by_lines, drawn, drawn_with, files_in, halved, inputs_of, one_name, original_of, pair_of, program_in, ran_alone, ran_both, shared_of, three_names}
use Rattle.privtrans_app.specs.Sessions.{ServesAll}
use Rattle.privtrans_app.specs.Told.{SeenIsNoWant, StatusIsOne}
use Rattle.privtrans_app.specs.Words.{help, version, check, explain, outline, picture, explain_pair, orig, local, run, split, slave, gen, serve, audit}

abbrev status : Seen → ℕ
status s = s.status

-- ---- what has passed

pub held_passed : (name : List ℕ) (t : Texts) (lines : List ℕ) → IsHeld name t lines → (tree : TypedTree) × HasPassed (flows ∷ []) t tree
held_passed name t lines (tree, has, held) = (tree, (has, ((held.accepted, held.is), tt)))

pub outline_passed : (t : Texts) (out : List ℕ) → IsOutline t out → (tree : TypedTree) × HasPassed (flows ∷ []) t tree
outline_passed t out is = (is.tree, (is.typed, ((is.accepted, is.is), tt)))

pub picture_passed : (t : Texts) (p : Picture) → IsPictured t p → (tree : TypedTree) × HasPassed [] t tree
picture_passed t p is = (is.0, (is.1, tt))

pub pair_held_passed : (name : List ℕ) (t : Texts) (lines : List ℕ) → IsPairHeld name t lines → (tree : TypedTree) × HasPassed (hosts ∷ rules ∷ flows ∷ []) t tree
pair_held_passed name t lines (tree, (has, (given, (read, done))), held) = (tree, (has, (given, (read, ((held.accepted, held.is), tt)))))

pub generated_passed : (seed count : ℕ) (t : Texts) (r : pairs.Ran) → made.IsGenerated seed count t r → (tree : TypedTree) × HasPassed of_pair t tree
generated_passed seed count t r is = run_has_passed made.turns t is.0 is.1

-- ---- one status

refused_status : (ss : List Stage) (tells : Refusal → List ℕ → Type 0) (t : Texts) (s : Seen) → IsRefusedBy ss tells t s → s.status ≡ 5
refused_status ss tells t s (r, report, is, told, shown) = ap status shown

shows_status : {A : Type 0} (ss : List Stage) (tells : Refusal → List ℕ → Type 0) (is : Texts → A → Type 0) (show : A → Seen) (t : Texts)
    → ((x : A) → is t x → (tree : TypedTree) × HasPassed ss t tree) → ((x y : A) → is t x → is t y → (show x).status ≡ (show y).status)
    → (a b : Seen) → Shows ss tells is show t a → Shows ss tells is show t b → a.status ≡ b.status
shows_status ss tells is show t passed one a b (inl x) (inl y) = refused_status ss tells t a x ∙ sym (refused_status ss tells t b y)
shows_status ss tells is show t passed one a b (inl (r, report, stops, told, shown)) (inr (y, it, seen)) =
    let h = passed y it in absurd (passed_unrefused ss t h.0 r h.1 stops)
shows_status ss tells is show t passed one a b (inr (x, it, seen)) (inl (r, report, stops, told, shown)) =
    let h = passed x it in absurd (passed_unrefused ss t h.0 r h.1 stops)
shows_status ss tells is show t passed one a b (inr (x, it, seen)) (inr (y, it', seen')) = ap status seen ∙ one x y it it' ∙ sym (ap status seen')

drawn_status : (tree : TypedTree) (b c : List ℕ) (fs gs : List FlowFault) → AreJudged tree fs → AreJudged tree gs → (drawn_with b fs).status ≡ (drawn_with c gs).status
drawn_status tree b c [] [] j k = refl
drawn_status tree b c [] (g ∷ gs) j k = absurd (accepted_or_faulty tree j.0 (g ∷ gs) j.1 k)
drawn_status tree b c (f ∷ fs) [] j k = absurd (accepted_or_faulty tree k.0 (f ∷ fs) k.1 j)
drawn_status tree b c (f ∷ fs) (g ∷ gs) j k = refl

picture_status : (t : Texts) (x y : Picture) → IsPictured t x → IsPictured t y → (drawn x).status ≡ (drawn y).status
picture_status t x y p q =
    drawn_status p.0 x.picture y.picture x.faults y.faults p.2
    (subst (λ (other : TypedTree). AreJudged other y.faults) (tree_is_one t.program q.0 p.0 q.1 p.1) q.2)

abbrev climb_status : {A : Type 0} → (A → Seen) → Climb A → ℕ
climb_status show (refused r) = 5
climb_status show (came x) = (show x).status

serves_status : (t : SharedTexts) (all : List (List ℕ)) (turns : ℕ) (a b : Seen) → ServesAll t all turns a → ServesAll t all turns b → a.status ≡ b.status
serves_status t all turns a b (inl x) (inl y) = ap status x.2 ∙ sym (ap status y.2)
serves_status t all turns a b (inl x) (inr y) = absurd (sessions.outcome_is_one t all turns (refused x.0) (came y.0) x.1 y.1)
serves_status t all turns a b (inr x) (inl y) = absurd (sessions.outcome_is_one t all turns (came x.0) (refused y.0) x.1 y.1)
serves_status t all turns a b (inr x) (inr y) = ap status x.2 ∙ sym (ap status y.2)

pub status_is_one : StatusIsOne
status_is_one help texts a b x y = ap status x ∙ sym (ap status y)
status_is_one version texts a b x y = ap status x ∙ sym (ap status y)
status_is_one (check program) texts a b x y =
    shows_status (flows ∷ []) by_lines IsChecked accepted (program_in texts) (checked_passed (program_in texts)) (λ p q i j. refl) a b x y
status_is_one (explain program) texts a b x y =
    shows_status (flows ∷ []) (AreBlocks (one_name program) (program_in texts)) (IsHeld program) accepted (program_in texts) (held_passed program (program_in texts)) (λ p q i j. refl) a b x y
status_is_one (outline program) texts a b x y =
    shows_status (flows ∷ []) by_lines IsOutline accepted (program_in texts) (outline_passed (program_in texts)) (λ p q i j. refl) a b x y
status_is_one (picture program) texts a b x y =
    shows_status [] by_lines IsPictured drawn (program_in texts) (picture_passed (program_in texts)) (picture_status (program_in texts)) a b x y
status_is_one (explain_pair program host policy) texts a b x y =
    shows_status (hosts ∷ rules ∷ flows ∷ []) (AreBlocks (three_names program host policy) (files_in texts)) (IsPairHeld program) accepted (files_in texts) (pair_held_passed program (files_in texts)) (λ p q i j. refl) a b x y
status_is_one (orig program host input turns) texts a b x y =
    shows_status (hosts ∷ inputs ∷ []) by_lines (IsOriginal turns) ran_alone (original_of texts) (originals.original_has_passed turns (original_of texts))
    (λ p q i j. ap (climb_status ran_alone) (originals.outcome_is_one (original_of texts) turns (came p) (came q) i j)) a b x y
status_is_one (local program host policy input turns window) texts a b x y =
    shows_status of_pair by_lines (IsPairRun turns) ran_both (pair_of texts) (run_has_passed turns (pair_of texts))
    (λ p q i j. ap (λ (r : pairs.Ran). (ran_both r).status) (run_is_one turns (pair_of texts) p q i j)) a b x y
status_is_one (run program host policy input turns) texts a b x y =
    refused_status of_pair by_lines (pair_of texts) a x ∙ sym (refused_status of_pair by_lines (pair_of texts) b y)
status_is_one (split program to_slave to_monitor) texts a b x y =
    shows_status (flows ∷ []) by_lines IsSplit halved (program_in texts) (split_has_passed (program_in texts)) (λ p q i j. refl) a b x y
status_is_one slave texts a b x y = absurd x
status_is_one (gen seed count) texts a b x y =
    shows_status of_pair by_lines (made.IsGenerated seed count) ran_both (made.texts_of seed count) (generated_passed seed count (made.texts_of seed count))
    (λ p q i j. ap (λ (r : pairs.Ran). (ran_both r).status) (told_once seed count (came p) (came q) i j)) a b x y
status_is_one (serve program host policy turns all) texts a b x y = serves_status (shared_of texts) (inputs_of texts) turns a b x y
status_is_one (audit program) texts a b x y =
    shows_status (flows ∷ []) by_lines IsAudit audited (program_in texts) (audit_has_passed (program_in texts)) (λ p q i j. refl) a b x y

-- ---- never want of memory

faulty_no_want : (s : Seen) → s.status ≡ 5 → s.status ≢ 12
faulty_no_want s is = λ want. omega (arith, is, want)

clean_no_want : (s : Seen) → s.status ≡ 0 → s.status ≢ 12
clean_no_want s is = λ want. omega (arith, is, want)

shows_no_want : {A : Type 0} (ss : List Stage) (tells : Refusal → List ℕ → Type 0) (is : Texts → A → Type 0) (show : A → Seen) (t : Texts)
    → ((x : A) → (show x).status ≢ 12) → (s : Seen) → Shows ss tells is show t s → s.status ≢ 12
shows_no_want ss tells is show t never s (inl x) = faulty_no_want s (refused_status ss tells t s x)
shows_no_want ss tells is show t never s (inr (x, it, seen)) = λ want. never x (sym (ap status seen) ∙ want)

zero_no_want : (n : ℕ) → n ≡ 0 → n ≡ 12 → ⊥
zero_no_want n is want = omega (arith, is, want)

end_no_want : (e : End) → end_status e ≢ 12
end_no_want (Exit n) = λ want. omega (arith, want)
end_no_want (Trapped trap span) = λ want. omega (arith, want)
end_no_want Spent = λ want. omega (arith, want)
end_no_want (Refused call f state) = λ want. omega (arith, want)

drawn_no_want : (bytes : List ℕ) (fs : List FlowFault) → (drawn_with bytes fs).status ≢ 12
drawn_no_want bytes [] = λ want. omega (arith, want)
drawn_no_want bytes (f ∷ fs) = λ want. omega (arith, want)

pub no_want : SeenIsNoWant
no_want help texts s x = clean_no_want s (ap status x)
no_want version texts s x = clean_no_want s (ap status x)
no_want (check program) texts s x = shows_no_want (flows ∷ []) by_lines IsChecked accepted (program_in texts) (λ p. zero_no_want 0 refl) s x
no_want (explain program) texts s x =
    shows_no_want (flows ∷ []) (AreBlocks (one_name program) (program_in texts)) (IsHeld program) accepted (program_in texts) (λ p. zero_no_want 0 refl) s x
no_want (outline program) texts s x = shows_no_want (flows ∷ []) by_lines IsOutline accepted (program_in texts) (λ p. zero_no_want 0 refl) s x
no_want (picture program) texts s x = shows_no_want [] by_lines IsPictured drawn (program_in texts) (λ p. drawn_no_want p.picture p.faults) s x
no_want (explain_pair program host policy) texts s x =
    shows_no_want (hosts ∷ rules ∷ flows ∷ []) (AreBlocks (three_names program host policy) (files_in texts)) (IsPairHeld program) accepted (files_in texts) (λ p. zero_no_want 0 refl) s x
no_want (orig program host input turns) texts s x =
    shows_no_want (hosts ∷ inputs ∷ []) by_lines (IsOriginal turns) ran_alone (original_of texts) (λ p. end_no_want p.end) s x
no_want (local program host policy input turns window) texts s x = shows_no_want of_pair by_lines (IsPairRun turns) ran_both (pair_of texts) (λ p. end_no_want p.end) s x
no_want (run program host policy input turns) texts s x = faulty_no_want s (refused_status of_pair by_lines (pair_of texts) s x)
no_want (split program to_slave to_monitor) texts s x = shows_no_want (flows ∷ []) by_lines IsSplit halved (program_in texts) (λ p. zero_no_want 0 refl) s x
no_want slave texts s x = absurd x
no_want (gen seed count) texts s x =
    shows_no_want of_pair by_lines (made.IsGenerated seed count) ran_both (made.texts_of seed count) (λ p. end_no_want p.end) s x
no_want (serve program host policy turns all) texts s (inl x) = faulty_no_want s (ap status x.2)
no_want (serve program host policy turns all) texts s (inr x) = clean_no_want s (ap status x.2)
no_want (audit program) texts s x = shows_no_want (flows ∷ []) by_lines IsAudit audited (program_in texts) (λ p. zero_no_want 0 refl) s x
