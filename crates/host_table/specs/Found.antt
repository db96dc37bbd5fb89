-- What a walk over the functions has found of a table.
use Rattle.std.specs.Prelude.{ℕ, suc, List, [], ◌∷◌, ◌++◌, map, option_map, option_to_list}
use Rattle.pt_tree.specs.declared.host_model.HostModel.{HostModel}
use Rattle.pt_tree.specs.declared.signature.Signature.{Signature}
use Rattle.serde_json.specs.Data.{Data}
use Rattle.typed_tree.specs.declared.function.TypedFn.{TypedFn}
use Rattle.host_table.specs.HostFaults.{shaped_model, host_model}
use Rattle.host_table.specs.declared.entry.Entry.{Entry}

-- the model that the entry says, under this number
abbrev pub numbered : ℕ → Entry → List (ℕ × HostModel)
numbered f entry = option_to_list (option_map (λ model. (f, model)) (shaped_model entry))

-- the models of the hosts among these functions, the first of which has this number
abbrev pub models_from : Data → ℕ → List Signature → List (ℕ × HostModel)
models_from table f [] = []
models_from table f (s ∷ fns) = option_to_list (option_map (λ model. (f, model)) (host_model table s)) ++ models_from table (suc f) fns

-- the signatures of functions
abbrev pub signatures_in : List TypedFn → List Signature
signatures_in fns = map (λ f. f.signature) fns
