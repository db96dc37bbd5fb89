use Rattle.std.proofs.Common.{◌≡◌, ◌≤◌, List, ◌∷◌, ℕ, drop, length, map, arith, ap}
use Rattle.std.specs.Prelude.{codes}
use Rattle.std.proofs.lemmas.List.{length-map}
use Rattle.privtrans_app.proofs.words.serve_form.Goals as goal

-- no input, or more than there may be
pub returns-then-is_empty : goal.returns-then-is_empty
returns-then-is_empty c = λ p h q t all form.
    let same : length (map (λ w. w.now) c.args.inputs.now) ≡ length all = ap (λ xs. length (drop 5 xs)) form.are in
    let many : length (map (λ w. w.now) c.args.inputs.now) ≡ length c.args.inputs.now = length-map c.args.inputs.now (λ w. w.now) in
    let least : 1 ≤ length all = form.inputs_least in
    let most : length all ≤ 16 = form.inputs_most in
    grind arith

pub returns : goal.returns
returns c = record {
  are = ap (λ (d : List ℕ). codes "serve" ∷ c.args.program.now ∷ c.args.host.now ∷ c.args.policy.now ∷ d ∷ map (λ w. w.now) c.args.inputs.now) c.in_ok-turns.ensures.1;
  turns_most = c.in_ok-turns.ensures.0;
  inputs_least = let many = length-map c.args.inputs.now (λ w. w.now) in grind arith;
  inputs_most = let many = length-map c.args.inputs.now (λ w. w.now) in grind arith;
}
