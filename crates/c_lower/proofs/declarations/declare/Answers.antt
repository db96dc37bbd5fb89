use Rattle.std.proofs.Common.{ap, drop, ◌+◌, [], ◌∷◌}
use Rattle.std.proofs.lemmas.List.{drop_all}
use Rattle.pt_base.proofs.Places.{drop_step_at}
use Rattle.pt_core.specs.CodeTree.{clear}
use Rattle.lowering.specs.Lowered.{Effects}
use Rattle.lowering.specs.Names.{code_in}
use Rattle.lowering.specs.Output.{output_of, next}
use Rattle.lowering.specs.Statements.{declared, initialised}
use Rattle.c_lower.proofs.LoopLemmas.{leads_step, leads_end, stmts_then}
use Rattle.c_lower.proofs.declarations.declare.Goals as goal

pub loop-declarator-preserved : goal.loop-declarator-preserved
loop-declarator-preserved c =
    let code = code_in c.args.names.now in
    let all = c.args.declarators.now in
    let i = c.loop-declarator.declarator-index in
    let first = output_of c.args.lowering.now in
    let now = output_of c.loop-declarator.lowering in
    let d = c.declarator-item.result in
    let init = initialised code d.init d.var.0 in
    let low : Effects = record { stmts = clear d.var.0 ∷ (init (next now)).stmts; temps = (init (next now)).temps } in
    let split = ap (λ ds. declared code ds (next now)) (drop_step_at all i d c.loop-declarator-test.true c.declarator-item.is) in
    leads_step now _ first (declared code all (next first)) low (declared code (drop i all) (next now)) (declared code (drop (i + 1) all)) split (stmts_then now _ _ (clear d.var.0 ∷ []) init c.in_ok-add.ensures c.in_ok-initialise.ensures)
    c.loop-declarator.invariant

pub returns : goal.returns
returns c =
    let code = code_in c.args.names.now in
    let all = c.args.declarators.now in
    let i = c.loop-declarator.declarator-index in
    let first = output_of c.args.lowering.now in
    let now = output_of c.loop-declarator.lowering in
    leads_end now first (declared code all (next first)) (declared code (drop i all) (next now)) (ap (λ ds. declared code ds (next now)) (drop_all i all c.loop-declarator-test.false)) c.loop-declarator.invariant
