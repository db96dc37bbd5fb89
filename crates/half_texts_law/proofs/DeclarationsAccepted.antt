-- The laws of halves, by the laws of what they are made of.
use Rattle.std.proofs.Common.{◌≡◌, ◌^◌, ◌<◌, ℕ, suc, zero, Bool, true, false, List, [], ◌∷◌, Some, refl, not, ◌++◌}
use Rattle.std.specs.Prelude.{IsTrue, ◌&&◌, slice_get}
use Rattle.std.specs.List.{list_all}
use Rattle.pt_base.proofs.Booleans.{both_hold, both_hold_first}
use Rattle.pt_tree.specs.ProgramTree.{ItemTree}
use Rattle.pt_tree.specs.declared.signature.Signature.{Signature}
use Rattle.typed_tree.specs.TypedTree.{TypedTree}
use Rattle.check_programs.specs.Programs.{checked_program}
use Rattle.type_law.specs.ProgramsLaws.{ProgramsAreWellFormed}
use Rattle.pt_core.specs.CodeTree.{FunctionTree, ProgramTree, SlaveTree, MonitorTree}
use Rattle.pt_core.specs.WellFormed.{context_of, called_signature, is_sound, has_main, is_well_formed, is_well_formed_slave, is_well_formed_monitor, entries_fit, slave_program, monitor_program}
use Rattle.lowering.specs.Functions.{functions_from}
use Rattle.splitter.specs.Halves.{Halves, halves_of, slave_of, monitor_of, is_among, asked, called_by, monitor_code, entry_numbers, monitor_entries}
use Rattle.split_law.specs.Laws.{SlavesAreWellFormed, MonitorsAreWellFormed, AcceptedShareNothing}
use Rattle.half_texts_law.specs.DeclarationsSaid.{CodeIsSaid, AcceptedHalvesAreSaid}
use Rattle.half_meaning_law.specs.CForms.{are_said}
use Rattle.half_names_law.specs.Laws.{HalvesKeepTheirMeaning}
use Rattle.half_names_law.specs.Standing.{all_said}
use Rattle.half_texts_law.specs.DeclarationsLaws.{TreesAreMarked, slave_half, monitor_half, HalvesAreDeclarable, IsWritable, AcceptedHalvesAreWritable, AcceptedHalvesKeepTheirMeaning}
use Rattle.half_texts_law.proofs.DeclarationsHalves.{part_declarable}

pub halves_declarable : TreesAreMarked → ProgramsAreWellFormed → HalvesAreDeclarable
halves_declarable trees programs items a few constants none =
    let t : TypedTree = (checked_program items).tree in
    let code = functions_from t 0 t.functions in
    let h : Halves = halves_of a.sides in
    let marked = trees items constants none in
    let well = programs items few constants none in (
      part_declarable t (is_among (asked h code ++ h.slave)) (is_among h.slave) (is_among h.owned) well marked,
      part_declarable t (is_among (called_by (monitor_code h code) ++ h.monitor ++ entry_numbers (monitor_entries t h code))) (is_among h.monitor) (λ n. not (is_among h.owned n)) well marked,
    )

slave_sound : (s : SlaveTree) → IsTrue (is_well_formed_slave s) → IsTrue (is_sound false (slave_program s))
unfolding is_well_formed_slave is_well_formed
slave_sound s h = both_hold_first (is_sound false (slave_program s)) (has_main (slave_program s)) h

monitor_sound : (m : MonitorTree) → IsTrue (is_well_formed_monitor m) → IsTrue (is_sound true (monitor_program m))
unfolding is_well_formed_monitor
monitor_sound m h = both_hold_first (is_sound true (monitor_program m)) (entries_fit (monitor_program m) m.entries) h

each_said : (q : FunctionTree → Bool) (fs : List FunctionTree) → ((n : ℕ) (f : FunctionTree) → slice_get fs n ≡ Some f → IsTrue (q f)) → IsTrue (list_all q fs)
each_said q [] h = refl
each_said q (f ∷ fs) h = both_hold (q f) (list_all q fs) (h 0 f refl) (each_said q fs (λ n g i. h (suc n) g i))

said_all : (monitor : Bool) (p : ProgramTree) → CodeIsSaid monitor p → IsTrue (all_said monitor p)
said_all monitor p h = each_said (λ f. are_said (context_of p f.vars) (called_signature monitor p) f.body) p.functions h

pub accepted_halves_writable : TreesAreMarked → ProgramsAreWellFormed → SlavesAreWellFormed → MonitorsAreWellFormed → AcceptedShareNothing → AcceptedHalvesAreSaid → AcceptedHalvesAreWritable
accepted_halves_writable trees programs slaves monitors apart said items a few constants none is =
    let t : TypedTree = (checked_program items).tree in
    let code = functions_from t 0 t.functions in
    let h : Halves = halves_of a.sides in
    let well = programs items few constants none in
    let halves = apart t a is in
    let both = said items a well is in
    let can = halves_declarable trees programs items a few constants none in (
      record {
        sound = slave_sound (slave_of t h code) (slaves t h well halves.0);
        declarable = can.0;
        said = said_all false (slave_half t a) both.0;
      },
      record {
        sound = monitor_sound (monitor_of t h code) (monitors t h well halves.0 halves.1);
        declarable = can.1;
        said = said_all true (monitor_half t a) both.1;
      },
    )

pub accepted_halves_mean : AcceptedHalvesAreWritable → HalvesKeepTheirMeaning → AcceptedHalvesKeepTheirMeaning
accepted_halves_mean writable means items a few constants none is =
    let t : TypedTree = (checked_program items).tree in
    let both = writable items a few constants none is in (
      (λ n f s at there. means false (slave_half t a) n f s both.0.sound both.0.declarable both.0.said at there),
      (λ n f s at there. means true (monitor_half t a) n f s both.1.sound both.1.declarable both.1.said at there),
    )
