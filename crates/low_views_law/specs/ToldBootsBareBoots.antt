-- Boots without the places of the text that they tell.
use Rattle.std.specs.Prelude.{map}
use Rattle.pt_core.specs.CodeTree.{BootTree, GlobalTree}
use Rattle.lowered_code_law.specs.PlacesBareCode.{bare_code}
use Rattle.lowered_code_law.specs.PlacesBareTrees.{bare_var}

abbrev pub bare_owned : GlobalTree → GlobalTree
bare_owned g = record { id = g.id; var = bare_var g.var; cells = g.cells }

abbrev pub bare_boot : BootTree → BootTree
bare_boot b = record b { functions = map bare_code b.functions; globals = map bare_owned b.globals }
