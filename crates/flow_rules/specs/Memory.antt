-- What code keeps of questions on leaves that it asked already. No public clause speaks of it.
use Rattle.std.specs.Prelude.{◌≡◌, ℕ, List, [], ◌∷◌, ◌++◌, Option, None, Some}
use Rattle.typed_tree.specs.declared.types.VarTy.TheVariants.{Struct}
use Rattle.flow_rules.specs.declared.memo.Asked.{Asked}
use Rattle.flow_rules.specs.declared.memo.Memo.{Memo}
use Rattle.flow_rules.specs.Kept.{first_of, secrets_from}
use Rattle.flow_rules.specs.Secrets.{Flows, unmarked_leaves}

-- this is the answer
abbrev pub Answers : Flows → Asked → Option ℕ → Type 0
Answers p x s = s ≡ first_of (secrets_from p (unmarked_leaves p.tree.structs (Some (Struct x.structure))) x.start)

-- these are the answers, in order
abbrev pub AreAnswers : Flows → List Asked → List (Option ℕ) → Type 0
AreAnswers p [] [] = Unit {0}
AreAnswers p (x ∷ xs) (s ∷ ss) = Answers p x s × AreAnswers p xs ss
AreAnswers p [] (s ∷ ss) = ⊥
AreAnswers p (x ∷ xs) [] = ⊥

abbrev pub Knows : Flows → Memo → Type 0
Knows p m = AreAnswers p m.asked.keys m.answers.items

-- the question was asked last, and has no answer yet
abbrev pub WantsAnswer : Flows → Memo → Asked → Type 0
WantsAnswer p m x = (xs : List Asked) × (m.asked.keys ≡ xs ++ x ∷ []) × AreAnswers p xs m.answers.items

-- what is left to be learned where there was no answer
abbrev pub IsLeft : Flows → Option (Option ℕ) → Memo → Asked → Type 0
IsLeft p None m x = WantsAnswer p m x
IsLeft p (Some s) m x = Unit {0}
