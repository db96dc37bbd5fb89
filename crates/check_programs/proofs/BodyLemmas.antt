-- A function gets its body.
use Rattle.std.proofs.Common.{◌≡◌, ◌<◌, ap, sym, ◌∙◌, ℕ, List, length, map, Some, slice_index_or, slice_set}
use Rattle.std.specs.Prelude.{slice_get, option_map}
use Rattle.std.specs.Option.{option_map_or}
use Rattle.std.proofs.lemmas.List.{map-set}
use Rattle.std.proofs.lemmas.Option.{slice_get-map, slice_get-get_or}
use Rattle.pt_base.specs.declared.span.Span.{Span}
use Rattle.typed_tree.specs.declared.function.TypedFn.{TypedFn}
use Rattle.typed_tree.specs.declared.variable.Var.{Var}
use Rattle.typed_tree.specs.StatementTree.{BodyTree}
use Rattle.typed_tree.specs.TypedTree.{view_function}
use Rattle.check_programs.specs.Functions.{with_parts, with_body}

pub given_body : (fs : List TypedFn) (k : ℕ) (g d : TypedFn) (at : Span) (vars : List Var) (body : BodyTree) → k < length fs → view_function g ≡ with_parts (view_function (slice_index_or fs k d)) at vars body → map view_function (slice_set fs k g) ≡ with_body (map view_function fs) k at vars body
given_body fs k g d at vars body within is =
    let found : slice_get (map view_function fs) k ≡ Some (view_function (slice_index_or fs k d)) = slice_get-map view_function fs k ∙ ap (option_map view_function) (slice_get-get_or fs k d within) in
    map-set view_function fs k g
    ∙ ap (slice_set (map view_function fs) k) is
    ∙ sym (ap (λ o. option_map_or (λ f. slice_set (map view_function fs) k (with_parts f at vars body)) o (map view_function fs)) found)
