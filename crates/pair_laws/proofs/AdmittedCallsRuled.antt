-- The call of an honest slave breaks no rule.
use Rattle.std.proofs.Common.{◌≡◌, ◌∙◌, ℕ, ◌+◌, ◌≤◌, nat_lt, ap, sym, refl, subst, arith, List, [], ◌∷◌, Bool, true, false, Option, None, if◌then◌else◌}
use Rattle.std.specs.Prelude.{◌&&◌, not}
use Rattle.std.specs.Option.{option_map}
use Rattle.std.proofs.lemmas.Bool.Decides.{nat_tests}
use Rattle.pt_base.specs.declared.end.End.TheVariants.{Spent}
use Rattle.typed_tree.specs.declared.types.StructInfo.{StructInfo}
use Rattle.marshalling.specs.Shape.{is_shaped}
use Rattle.marshalling_law.proofs.PostingLemmas.{replies_hold_numbers}
use Rattle.marshalling_law.proofs.RepliesFaults.{faults_see_types}
use Rattle.pair_meaning.specs.Monitors.{low}
use Rattle.pair_meaning.specs.Rules.{Admitted, PeerRule, Verdict, asked_for, bad_depth, bad_shape, bad_turns, blank, broken_if, call_rule, first_broken, handle_rule, has_depth, makes, needs, permitted, posted_plain, rule_of_fault, rules, tells, unless_broken, early_rule}
use Rattle.pair_meaning.specs.Rules as rule
use Rattle.pair_meaning.specs.Serving.{is_spent, verdict_on}
use Rattle.pair_laws.specs.AdmittedCallsLaws.{IsHonest, call_said, holds_number}
use Rattle.pair_laws.specs.ServedBodiesScene.{IsScene, Scene, admitted, code, sent_body, signature}
use Rattle.pair_laws.proofs.ServedBodiesWork.{opened, sent}

not_less : (a b : ℕ) → b ≤ a → nat_lt a b ≡ false
not_less a b h = grind (arith, nat_tests, h)

not_spent : (n b t m : ℕ) → n ≡ b → (t + 1) + m ≤ b → nat_lt n ((t + 1) + m) ≡ false
not_spent n b t m e h = grind (arith, nat_tests, e, h)

never_both : (b : Bool) → (not b && b) ≡ false
never_both true = refl
never_both false = refl

module _ (s : Scene) (ok : IsScene s) (depth : ℕ) (honest : IsHonest s depth) where
  same_structs : s.slave.structs ≡ (code s).structs
  same_structs = sym ok.halves.slave_part.structs ∙ ok.halves.monitor_part.structs

  shaped : is_shaped (code s).structs (signature s).params (sent_body s) ≡ true
  shaped = subst (λ (structs : List StructInfo). is_shaped structs (signature s).params (sent_body s) ≡ true) same_structs (opened s ok).shaped

  tells_it : tells (code s).structs (signature s) (sent_body s) ≡ holds_number s
  tells_it =
      subst (λ (structs : List StructInfo). tells structs (signature s) (sent_body s) ≡ holds_number s) same_structs
      (replies_hold_numbers s.slave.structs (signature s) s.machine.blocks s.args (sent s ok).whole)

  posted_fine : (not (holds_number s) && tells (code s).structs (signature s) (sent_body s)) ≡ false
  posted_fine = ap (λ b. not (holds_number s) && b) tells_it ∙ never_both (holds_number s)

  handles_fine : handle_rule (low s.monitor).types (signature s) (sent_body s) ≡ None
  handles_fine = ap (option_map rule_of_fault) (sym (faults_see_types s.monitor.store (signature s).params (sent_body s)) ∙ (opened s ok).faultless)

  no_rule : call_rule (low s.monitor) (signature s) depth (holds_number s) (sent_body s) ≡ None
  no_rule = λ i. first_broken (
      broken_if (not (honest.depth_is i)) bad_depth
      ∷ broken_if (not (shaped i)) bad_shape
      ∷ broken_if (posted_fine i) posted_plain
      ∷ handles_fine i
      ∷ [])

  abbrev call : Admitted
  call = admitted s depth (holds_number s) s.monitor.policy s.monitor.calls

  -- the policy's verdict is the monitor's
  pub verdict_is : (s.machine.turns + 1) + s.monitor.turns ≤ s.budget → verdict_on s.monitor (call_said s depth) ≡ permitted (low s.monitor) call
  verdict_is in_budget =
      ap (λ (b : Bool). unless_broken (broken_if b bad_turns) (if is_spent s.monitor (call_said s depth) then rule.ends Spent else rules (low s.monitor) (call_said s depth))) (not_less s.machine.turns s.monitor.last honest.last)
      ∙ ap (λ (b : Bool). if b then rule.ends Spent else rules (low s.monitor) (call_said s depth)) (not_spent s.monitor.budget s.budget s.machine.turns s.monitor.turns honest.budget in_budget)
      ∙ ap (asked_for (low s.monitor) s.function depth (holds_number s) (sent_body s)) honest.entry
      ∙ ap (λ (o : Option PeerRule). unless_broken o (permitted (low s.monitor) call)) no_rule
