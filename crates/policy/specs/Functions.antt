-- What an index of functions shows.
use Rattle.std.specs.Prelude.{List, map}
use Rattle.pt_tree.specs.declared.signature.Signature.{Signature}
use Rattle.policy.specs.declared.functions.Functions.{Functions}

-- the functions, by number
abbrev pub known : Functions → List Signature
known f = map (λ s. s.now) f.signatures.now
