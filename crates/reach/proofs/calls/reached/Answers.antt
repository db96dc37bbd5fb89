use Rattle.std.proofs.Common.{◌≡◌, ◌∙◌, ◌↔◌, Option, Some, arith, codes, length, subst}
use Rattle.std.proofs.lemmas.List.{length-map}
use Rattle.pt_base.specs.declared.ids.FnId.{FnId}
use Rattle.typed_tree.specs.Lookup.{HasName}
use Rattle.typed_tree.specs.TypedTree.{view_function}
use Rattle.typed_tree.specs.TypedView.{view_typed}
use Rattle.reach.proofs.CallLemmas.{NamesMain}
use Rattle.reach.proofs.ReachLemmas.{starts_in, froms_in, tos_in, reached_in}
use Rattle.reach.proofs.calls.reached.Goals as goal

pub propagate-requires-clause-seeds : goal.propagate-requires-clause-seeds
propagate-requires-clause-seeds c =
    let size : c.len-functions.result ≡ length (view_typed c.args.t.now).functions = omega (arith, c.len-functions.ensures, c.args.t.now.functions.ok.0, length-map c.args.t.now.functions.items view_function) in
    let names : NamesMain (view_typed c.args.t.now) = λ f. subst (λ (o : Option FnId). (o ≡ Some f) ↔ HasName (view_typed c.args.t.now) f (codes "main")) c.function_of-main.ensures.is (c.function_of-main.ensures.only f) in
    starts_in (view_typed c.args.t.now) c.args.half _ size names _ (c.deref.ensures.value ∙ c.in_ok-starts.ensures)

pub propagate-requires-clause-froms : goal.propagate-requires-clause-froms
propagate-requires-clause-froms c =
    let size : c.len-functions.result ≡ length (view_typed c.args.t.now).functions = omega (arith, c.len-functions.ensures, c.args.t.now.functions.ok.0, length-map c.args.t.now.functions.items view_function) in
    froms_in (view_typed c.args.t.now) c.args.half _ size _ c.requires

pub propagate-requires-clause-tos : goal.propagate-requires-clause-tos
propagate-requires-clause-tos c =
    let size : c.len-functions.result ≡ length (view_typed c.args.t.now).functions = omega (arith, c.len-functions.ensures, c.args.t.now.functions.ok.0, length-map c.args.t.now.functions.items view_function) in
    tos_in (view_typed c.args.t.now) c.args.half _ size _ c.requires

pub returns : goal.returns
returns c =
    let size : c.len-functions.result ≡ length (view_typed c.args.t.now).functions = omega (arith, c.len-functions.ensures, c.args.t.now.functions.ok.0, length-map c.args.t.now.functions.items view_function) in
    let names : NamesMain (view_typed c.args.t.now) = λ f. subst (λ (o : Option FnId). (o ≡ Some f) ↔ HasName (view_typed c.args.t.now) f (codes "main")) c.function_of-main.ensures.is (c.function_of-main.ensures.only f) in
    reached_in (view_typed c.args.t.now) c.args.half _ size names _ _ _ _ (c.deref.ensures.value ∙ c.in_ok-starts.ensures) c.requires c.in_ok-marks.ensures c.in_ok-table.ensures
