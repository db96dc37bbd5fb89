-- Blocks tell of each refusal but the input's.
use Rattle.std.proofs.Common.{◌≡◌, ◌∙◌, ℕ, List, [], ◌∷◌, Result, Ok, Err, MatchResult, ap, inl, inr, subst, sym}
use Rattle.std.specs.Result.{IsErr, IsErrAnd}
use Rattle.pt_base.proofs.Booleans.{false_true_absurd}
use Rattle.typed_tree.specs.TypedTree.{TypedTree}
use Rattle.stages.specs.declared.refusal.Refusal as code
use Rattle.stages.specs.declared.refusal.Stop.{Stop}
use Rattle.stages.specs.declared.refusal.Stop.TheVariants.{Memory, Refused}
use Rattle.stages.specs.Climb.{IsUnread, Refusal, Stage, StopsAt, Texts, lex, parse, types, host, policy, flow, input, hosts, rules, flows, inputs}
use Rattle.stages.specs.Seen.{IsStop, view_refusal}
use Rattle.pair_explaining.specs.Laws.{LeavesInput, RefusalsAreTold}
use Rattle.pair_explaining.specs.RefusalBlocks.{IsTold}

unread_told : (text : List ℕ) (r : Refusal) → IsUnread text r → IsTold r
unread_told text (lex fault) is = tt
unread_told text (parse fault) is = tt
unread_told text (types faults) is = tt
unread_told text (host tree faults) is = absurd is
unread_told text (policy fault) is = absurd is
unread_told text (flow tree faults) is = absurd is
unread_told text input is = absurd is

stopped_told : (ss : List Stage) (t : Texts) (tree : TypedTree) (r : Refusal) → LeavesInput ss → StopsAt ss t tree r → IsTold r
stopped_told [] t tree r leaves stops = absurd stops
stopped_told (hosts ∷ ss) t tree r leaves (inl fails) = subst IsTold (sym fails.3) (tt {0})
stopped_told (hosts ∷ ss) t tree r leaves (inr later) = stopped_told ss t tree r leaves later.1
stopped_told (rules ∷ ss) t tree r leaves (inl fails) = subst IsTold (sym fails.2) (tt {0})
stopped_told (rules ∷ ss) t tree r leaves (inr later) = stopped_told ss t tree r leaves later.1
stopped_told (flows ∷ ss) t tree r leaves (inl fails) = subst IsTold (sym fails.2) fails.1.all.sorted
stopped_told (flows ∷ ss) t tree r leaves (inr later) = stopped_told ss t tree r leaves later.1
stopped_told (inputs ∷ ss) t tree r leaves stops = absurd leaves

pub told : RefusalsAreTold
told ss t r leaves (inl is) = unread_told t.program r is
told ss t r leaves (inr at) = stopped_told ss t at.0 r leaves at.2

-- a command that stops there with a refusal stops with one that blocks tell of
pub stop_told : {A : Type 0} (ss : List Stage) (t : Texts) (P : A → Type 0) (r : Result A Stop) (e : Stop) (refusal : code.Refusal) → LeavesInput ss → MatchResult r P (IsStop ss t) →
    r ≡ Err e → e ≡ Refused refusal → IsTold (view_refusal refusal)
stop_told {A} ss t P r e refusal leaves comes is same =
    told ss t (view_refusal refusal) leaves (subst (λ (x : Result A Stop). MatchResult x P (IsStop ss t)) (is ∙ ap Err same) comes)

-- want of memory stops whatever is climbed
pub memory_stops : {A : Type 0} (P : A → Type 0) (Q : Stop → Type 0) (r : Result A Stop) → IsErr r → IsErrAnd r (λ e. e ≡ Memory) → Q Memory → MatchResult r P Q
memory_stops P Q (Ok x) err wants q = absurd (false_true_absurd err)
memory_stops P Q (Err e) err wants q = subst Q (sym wants) q
