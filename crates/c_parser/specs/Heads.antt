-- The parts that the head of a `for` is.
use Rattle.std.specs.Prelude.{List, [], ◌∷◌, option_map}
use Rattle.pt_tree.specs.ExpressionTree.{view_expr}
use Rattle.pt_tree.specs.StatementTree.{view_for_init}
use Rattle.c_grammar.specs.Part.{Part, for_init, maybe_expr}
use Rattle.c_parser.specs.declared.heads.ForControls.{ForControls}
use Rattle.c_parser.specs.declared.heads.ForHead.{ForHead}

abbrev pub of_for_controls : ForControls → List Part
of_for_controls c = maybe_expr (option_map view_expr c.step) ∷ maybe_expr (option_map view_expr c.test) ∷ []

abbrev pub of_for_head : ForHead → List Part
of_for_head h = maybe_expr (option_map view_expr h.controls.step) ∷ maybe_expr (option_map view_expr h.controls.test) ∷ for_init (view_for_init h.init) ∷ []
