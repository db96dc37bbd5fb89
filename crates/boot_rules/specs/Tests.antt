-- The tests of a boot, in the order in which they are made.
use Rattle.std.specs.Prelude.{ℕ, List, Bool, false, ◌&&◌, map}
use Rattle.std.specs.List.{list_all}
use Rattle.host_models.specs.Fitting.{fits}
use Rattle.typed_tree.specs.WellFormed.{are_rising}
use Rattle.pt_core.specs.CodeTree.{BootTree}
use Rattle.pt_core.specs.WellFormed.{boot_program, are_in_order, global_fits, are_small, signature_fits, function_fits, callees, callee_fits, has_main, host_fits, is_answered}

abbrev pub host_numbers : BootTree → List ℕ
host_numbers b = map (λ h. h.0) b.hosts

-- each list of what is numbered is in the order of the numbers
unfoldable pub is_in_order : BootTree → Bool
is_in_order b = are_in_order (boot_program b) && are_rising 0 (host_numbers b)

-- what is called is there where it is to be
unfoldable pub call_fits : BootTree → ℕ → Bool
call_fits b f = callee_fits false (boot_program b) f && is_answered (boot_program b) (host_numbers b) f

-- what is tested where the structs are sound
unfoldable pub parts_fit : BootTree → Bool
parts_fit b =
    list_all (global_fits b.structs) b.globals
    && are_small b.globals
    && list_all (λ s. signature_fits b.structs s.1) b.signatures
    && list_all (function_fits false (boot_program b)) b.functions
    && has_main (boot_program b)
    && list_all (host_fits fits (boot_program b)) b.hosts
    && list_all (call_fits b) (callees (boot_program b))
