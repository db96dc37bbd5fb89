-- What parts that are joined say together.
use Rattle.std.proofs.Common.{◌≡◌, ◌∙◌, ◌<◌, ℕ, suc, refl, sym, ap, ap₂, arith, List, [], ◌∷◌, ◌++◌, length, get_or, append_assoc, append-nil, Result, Ok, Err, Vec, Option, Some, None, IfOk}
use Rattle.std.specs.List.{flat_map}
use Rattle.std.specs.Option.{option_map}
use Rattle.std.specs.declared.alloc.Global.{Global}
use Rattle.std.specs.declared.alloc.AllocError.{AllocError}
use Rattle.std.proofs.lemmas.List.Concat.{flat_map-append}
use Rattle.function_runs.specs.declared.neighbours.Run.{Run}
use Rattle.function_runs.specs.Parts.{joined}
use Rattle.function_runs.specs.Runs.{covered, part}

-- one part more that came
pub joined-more : {X : Type 0} (parts : List (Result (Vec X Global) AllocError)) (v : Vec X Global) (all : List X) → joined parts ≡ Some all → joined (parts ++ Ok v ∷ []) ≡ Some (all ++ v.items)
joined-more [] v all h = let e : [] ≡ all = cc in rw (← e) (ap Some (append-nil v.items))
joined-more {X} (Ok w ∷ parts) v all h = more_behind (joined parts) (joined (parts ++ Ok v ∷ [])) (joined-more parts v) h
  where
    more_behind : (o p : Option (List X)) → ((xs : List X) → o ≡ Some xs → p ≡ Some (xs ++ v.items)) → option_map (λ xs. w.items ++ xs) o ≡ Some all → option_map (λ xs. w.items ++ xs) p ≡ Some (all ++ v.items)
    more_behind None p ih k = cc
    more_behind (Some xs) p ih k =
        let e : w.items ++ xs ≡ all = cc in rw (ih xs refl, ← e) (ap Some (sym (append_assoc w.items xs v.items)))
joined-more (Err e ∷ parts) v all h = cc

-- The parts of all runs say what all places say that the runs have: `seen` is how the items are seen, and
-- `gives` what a place gives.
pub joined-gives : {X Y Z : Type 0} (seen : List X → List Y) → seen [] ≡ [] → ((us vs : List X) → seen (us ++ vs) ≡ seen us ++ seen vs) → (gives : Z → List Y) (zs : List Z) (runs : List Run) (parts : List (Result (Vec X Global) AllocError)) (all : List X) →
    length parts ≡ length runs → ((i : ℕ) (d : Result (Vec X Global) AllocError) (e : Run) → i < length runs → IfOk (get_or parts i d) (λ w. seen w.items ≡ flat_map gives (part zs (get_or runs i e)))) →
    joined parts ≡ Some all → seen all ≡ flat_map gives (covered zs runs)
joined-gives seen none both gives zs [] [] all long each h = let e : [] ≡ all = cc in ap seen (sym e) ∙ none
joined-gives seen none both gives zs [] (p ∷ parts) all long each h = absurd (omega arith)
joined-gives seen none both gives zs (run ∷ runs) [] all long each h = absurd (omega arith)
joined-gives seen none both gives zs (run ∷ runs) (Err e ∷ parts) all long each h = cc
joined-gives {X} seen none both gives zs (run ∷ runs) (Ok v ∷ parts) all long each h =
    behind (joined parts) (λ rest is. joined-gives seen none both gives zs runs parts rest (omega arith) (λ i d e lt. each (suc i) d e (omega arith)) is) (each 0 (Ok v) run (omega arith)) h
  where
    behind : (o : Option (List X)) → ((rest : List X) → o ≡ Some rest → seen rest ≡ flat_map gives (covered zs runs)) → seen v.items ≡ flat_map gives (part zs run) → option_map (λ xs. v.items ++ xs) o ≡ Some all → seen all ≡ flat_map gives (part zs run ++ covered zs runs)
    behind None ih first k = cc
    behind (Some rest) ih first k =
        let e : v.items ++ rest ≡ all = cc in
        ap seen (sym e) ∙ both v.items rest ∙ ap₂ (λ xs ys. xs ++ ys) first (ih rest refl) ∙ sym (flat_map-append gives (part zs run) (covered zs runs))

-- where nothing is left, those so far are all
pub none_left : {X Y : Type 0} (gives : Y → List X) (sofar all : List X) (rest : List Y) → rest ≡ [] → sofar ++ flat_map gives rest ≡ all → sofar ≡ all
none_left gives sofar all rest none is = sym (append-nil sofar) ∙ ap (λ ys. sofar ++ flat_map gives ys) (sym none) ∙ is
