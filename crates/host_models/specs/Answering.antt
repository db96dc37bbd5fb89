-- What a model answers that fits its host.
use Rattle.std.specs.Prelude.{ℕ, ◌<◌, ℤ, Bool, true, false, List, Option, Some, None, IsTrue, All}
use Rattle.pt_base.specs.declared.int_type.IntType.{IntType}
use Rattle.pt_int.specs.Conversion.{is_in_range}
use Rattle.pt_tree.specs.HostStep.{Answer, host_step}
use Rattle.pt_tree.specs.declared.host_model.HostModel.{HostModel}
use Rattle.pt_tree.specs.declared.signature.Signature.{Signature}
use Rattle.host_models.specs.Fitting.{fits}

-- there is a result exactly where there is a type, and it is a number of it
abbrev pub is_result : Option IntType → Option ℤ → Bool
is_result None None = true
is_result None (Some v) = false
is_result (Some t) None = false
is_result (Some t) (Some v) = is_in_range t v

-- an answer as the signature has it, and what stands for the host next fits it
pub record IsAnswerOf (s : Signature) (answer : Answer) : Type 0 where
  pub result : IsTrue (is_result s.result answer.result)
  pub next : IsTrue (fits answer.next s)

-- whatever the bytes of the input and the arguments are, a model that fits answers so
abbrev pub AnswersInRange : Type 0
AnswersInRange = (input : List ℕ) (model : HostModel) (args : List ℤ) (s : Signature)
    → All (λ b. b < 256) input → IsTrue (fits model s) → IsAnswerOf s (host_step input model args)
