-- How climbs end.
use Rattle.std.proofs.Common.{◌≡◌, ◌<◌, ◌≤◌, ◌⊎◌, ◌^◌, List, [], ◌∷◌, length, refl, sym, subst, inl, inr}
use Rattle.std.specs.List.{Contains}
use Rattle.std.proofs.lemmas.Bool.{cases_lt}
use Rattle.std.proofs.lemmas.List.Elements.{Contains-append_left, Contains-append_right, Contains-push}
use Rattle.typed_tree.specs.TypedTree.{TypedTree}
use Rattle.front_end.specs.Reading.{HasTypedTree, Reading, typed_tree, lex_fault, parse_fault, type_faults_of, ComesTo as ReadsAs}
use Rattle.sides.specs.Slots.{slots_of}
use Rattle.stages.specs.Climb.{HasPassed, IsRefused, Refusal, Stage, Texts, flow, flows, hosts, inputs, lex, parse, rules, types}
use Rattle.stages.proofs.Ends.{ClimbEnds, StageEnds, hosts_end, inputs_end, rules_end}
use Rattle.front_end_law.proofs.ReadingLemmas.{texts_read}
use Rattle.front_end_law.proofs.ReadingsTextTrees.{trees_are_sound}
use Rattle.texts_have_outcomes_law.specs.Laws.{ClimbsEnd, ClimbsEndWithoutFlows, HasTooManySlots, IsJudged}
use Rattle.texts_have_outcomes_law.proofs.Judged.{judged}

-- ---- one stage

by_flows : (t : Texts) (tree : TypedTree) → IsJudged tree → StageEnds t tree flows
by_flows t tree (inl x) = inl x
by_flows t tree (inr (faults, are)) = inr (flow tree faults, (faults, are, refl))

-- where it is that of flows, the program has to be judged
stage_ends : (s : Stage) (t : Texts) (tree : TypedTree) → (s ≡ flows → IsJudged tree) → StageEnds t tree s
stage_ends hosts t tree is = hosts_end t tree
stage_ends rules t tree is = rules_end t tree
stage_ends flows t tree is = by_flows t tree (is refl)
stage_ends inputs t tree is = inputs_end t tree

-- ---- all stages of a command

both : (s : Stage) (ss : List Stage) (t : Texts) (tree : TypedTree) → StageEnds t tree s → ClimbEnds t tree ss → ClimbEnds t tree (s ∷ ss)
both s ss t tree (inl p) (inl ps) = inl (p, ps)
both s ss t tree (inl p) (inr (r, stops)) = inr (r, inr (p, stops))
both s ss t tree (inr (r, fails)) rest = inr (r, inl fails)

stands_first : (s : Stage) (ss : List Stage) → s ≡ flows → Contains (s ∷ ss) flows
stands_first s ss e = subst (λ (x : Stage). Contains (x ∷ ss) flows) (sym e) (Contains-append_left (flows ∷ []) ss flows (Contains-push [] flows))

-- where flows are among them, the program has to be judged
all_end : (ss : List Stage) (t : Texts) (tree : TypedTree) → (Contains ss flows → IsJudged tree) → ClimbEnds t tree ss
all_end [] t tree is = inl (tt {0})
all_end (s ∷ ss) t tree is =
    both s ss t tree (stage_ends s t tree (λ e. is (stands_first s ss e))) (all_end ss t tree (λ there. is (Contains-append_right (s ∷ []) ss flows there)))

-- ---- from the texts on

abbrev Ends : List Stage → Texts → Type 0
Ends ss t = ((r : Refusal) × IsRefused ss t r) ⊎ ((tree : TypedTree) × HasPassed ss t tree)

by_stages : (ss : List Stage) (t : Texts) (tree : TypedTree) → HasTypedTree t.program tree → ClimbEnds t tree ss → Ends ss t
by_stages ss t tree has (inl pass) = inr (tree, (has, pass))
by_stages ss t tree has (inr (r, stops)) = inl (r, inr (tree, has, stops))

without_flows : (ss : List Stage) (t : Texts) → (Contains ss flows → ⊥) → (r : Reading) → ReadsAs t.program r → Ends ss t
without_flows ss t none (typed_tree tree) has = by_stages ss t tree has (all_end ss t tree (λ there. absurd (none there)))
without_flows ss t none (lex_fault fault) is = inl (lex fault, inl is)
without_flows ss t none (parse_fault fault) is = inl (parse fault, inl is)
without_flows ss t none (type_faults_of faults) is = inl (types faults, inl is)

pub climbs_end_without : ClimbsEndWithoutFlows
climbs_end_without ss t none = let r = texts_read t.program in without_flows ss t none r.0 r.1

abbrev EndsOrIsLarge : List Stage → Texts → Type 0
EndsOrIsLarge ss t = ((r : Refusal) × IsRefused ss t r) ⊎ (((tree : TypedTree) × HasPassed ss t tree) ⊎ HasTooManySlots t.program)

small : (ss : List Stage) (t : Texts) → Ends ss t → EndsOrIsLarge ss t
small ss t (inl x) = inl x
small ss t (inr x) = inr (inl x)

by_slots : (ss : List Stage) (t : Texts) (tree : TypedTree) → HasTypedTree t.program tree → (2 ^ 25 < length (slots_of tree)) ⊎ (length (slots_of tree) ≤ 2 ^ 25) → EndsOrIsLarge ss t
by_slots ss t tree has (inl many) = inr (inr (tree, has, many))
by_slots ss t tree has (inr few) = small ss t (by_stages ss t tree has (all_end ss t tree (λ there. judged tree (trees_are_sound t.program tree has) few)))

by_reading : (ss : List Stage) (t : Texts) (r : Reading) → ReadsAs t.program r → EndsOrIsLarge ss t
by_reading ss t (typed_tree tree) has = by_slots ss t tree has (cases_lt (2 ^ 25) (length (slots_of tree)))
by_reading ss t (lex_fault fault) is = inl (lex fault, inl is)
by_reading ss t (parse_fault fault) is = inl (parse fault, inl is)
by_reading ss t (type_faults_of faults) is = inl (types faults, inl is)

pub climbs_end : ClimbsEnd
climbs_end ss t = let r = texts_read t.program in by_reading ss t r.0 r.1
