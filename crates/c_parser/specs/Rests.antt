-- What follows the specifiers outside of functions, as a part, and with them as an item.
use Rattle.std.specs.Prelude.{List, [], ◌∷◌, map, option_map}
use Rattle.pt_base.specs.declared.span.Span.{Span}
use Rattle.pt_tree.specs.SpecifierTree.{SpecTrees}
use Rattle.pt_tree.specs.StatementTree.{view_init_declarator, view_block}
use Rattle.pt_tree.specs.ProgramTree.{ItemTree, declares, function, view_param}
use Rattle.c_grammar.specs.Part.{Part, init_declarators, a_rest}
use Rattle.c_parser.specs.declared.rest.Rest.{Rest}
use Rattle.c_parser.specs.declared.rest.Rest.TheVariants.{Declares, Defines}

abbrev pub of_rest : Rest → List Part
of_rest (Declares ds) = init_declarators (map view_init_declarator ds.items) ∷ []
of_rest (Defines d ps b) = a_rest d (map view_param ps.items) (option_map view_block b) ∷ []

abbrev pub item_of : Rest → Span → SpecTrees → ItemTree
item_of (Declares ds) at ss = declares (record { span = at; specs = ss; declarators = map view_init_declarator ds.items })
item_of (Defines d ps b) at ss = function (record { span = at; specs = ss; declarator = d; params = map view_param ps.items; body = option_map view_block b })
