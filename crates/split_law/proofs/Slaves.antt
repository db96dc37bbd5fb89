-- The slave's program.
use Rattle.std.proofs.Common.{◌≡◌, ◌∙◌, ℕ, refl, ap, sym, subst, Bool, true, false, not, Option, Some, ◌++◌}
use Rattle.std.specs.Prelude.{IsTrue, ◌&&◌, codes, is_some, option_map, slice_get}
use Rattle.std.specs.Option.{option_map_or}
use Rattle.std.proofs.lemmas.List.Elements.{Contains-append_left, Contains-append_right}
use Rattle.std.proofs.lemmas.Slice.Eq.{bytes_eq-Decides}
use Rattle.pt_base.proofs.Booleans.{both_hold, both_hold_first, both_hold_second}
use Rattle.pt_tree.specs.declared.signature.Signature.{Signature}
use Rattle.typed_tree.specs.TypedTree.{TypedTree, FunctionTree}
use Rattle.typed_tree.specs.Lookup.{HasName}
use Rattle.typed_tree.specs.WellFormedExpression.{is_main}
use Rattle.typed_tree.proofs.WellFormedLemmas.{facts_of}
use Rattle.reach.specs.Contexts.{is_plain, main, slave_calls, test_function}
use Rattle.pt_core.specs.CodeTree as core
use Rattle.pt_core.specs.WellFormed as well
use Rattle.pt_core.specs.WellFormed.{has_main, is_main_by, is_sound, signature_at, slave_program}
use Rattle.lowering.specs.Functions.{core_program, functions_from}
use Rattle.lowered_code_law.specs.FormsLaws.{LoweredProgramsAreWellFormed}
use Rattle.lowered_code_law.specs.NamesLaws.{LoweredNames}
use Rattle.lowered_code_law.proofs.FormsPrograms.{signature_of_function}
use Rattle.splitter.specs.Halves.{Halves, asked, is_among}
use Rattle.splitter.proofs.SetLemmas.{among_from, among_has}
use Rattle.split_law.specs.Laws.{AreHalves, SlavesAreWellFormed}
use Rattle.split_law.proofs.LoweredCode.{Keeps, all_code, all_hold}
use Rattle.split_law.proofs.Parts.{HasMain, part, part_sound, part_starts}

abbrev pub signed : TypedTree → Halves → ℕ → Bool
signed t h = is_among (asked h (functions_from t 0 t.functions) ++ h.slave)

plain_there : (t : TypedTree) (n : ℕ) (f : FunctionTree) → slice_get t.functions n ≡ Some f → IsTrue (is_plain f) → IsTrue (test_function is_plain t (record { 0 = n }))
plain_there t n f is h = subst (λ (o : Option FunctionTree). IsTrue (option_map_or is_plain o false)) (sym is) h

unmarked : (b : Bool) → (b && true) ≡ false → not b ≡ true
unmarked true e = cc
unmarked false e = refl

plain : (f : FunctionTree) → is_some f.body ≡ true → (f.signature.privileged && true) ≡ false → IsTrue (is_plain f)
plain f body own = both_hold (is_some f.body) (not f.signature.privileged) body (unmarked f.signature.privileged own)

pub keeps : (t : TypedTree) (h : Halves) → AreHalves t h → Keeps false t (signed t h) (is_among h.slave) (is_among h.owned)
keeps t h are = record {
  own = λ n here. among_has (asked h (functions_from t 0 t.functions) ++ h.slave) n (Contains-append_right (asked h (functions_from t 0 t.functions)) h.slave n (among_from h.slave n here));
  called = λ n c. among_has (asked h (functions_from t 0 t.functions) ++ h.slave) n (Contains-append_left (asked h (functions_from t 0 t.functions)) h.slave n c);
  calls = λ k n f here call is body own. among_has h.slave n ((are.slave n).1 (slave_calls (record { 0 = k }) (record { 0 = n }) ((are.slave k).0 (among_from h.slave k here)) call (plain_there t n f is (plain f body own))));
  names = λ k n here c lt. among_has h.owned n ((are.owned n).1 (lt, (record { 0 = k }, (are.slave k).0 (among_from h.slave k here), c)));
}

has_main_here : (t : TypedTree) (h : Halves) → AreHalves t h → HasMain (core_program t) (is_among h.slave) (functions_from t 0 t.functions)
has_main_here t h are =
    all_code (λ (c : core.FunctionTree). is_main_by (signature_at (core_program t) c.id) ≡ true → is_among h.slave c.id ≡ true) t
    (λ k f b is body named. among_has h.slave k ((are.slave k).1 (main (record { 0 = k }) (name k f is (subst (λ (o : Option Signature). is_main_by o ≡ true) (signature_of_function t k f is) named)))))
  where
    name : (k : ℕ) (f : FunctionTree) → slice_get t.functions k ≡ Some f → is_main f.signature ≡ true → HasName t (record { 0 = k }) (codes "main")
    name k f is m = ap (λ (o : Option FunctionTree). option_map (λ (s : Signature). s.name) (option_map (λ (g : FunctionTree). g.signature) o)) is ∙ ap Some ((bytes_eq-Decides f.signature.name (codes "main")).0 m)

pub slaves : LoweredProgramsAreWellFormed → LoweredNames → SlavesAreWellFormed
unfolding well.is_well_formed_slave well.is_well_formed
slaves forms law t h sound are =
    let p = core_program t in
    let whole = forms t sound in
    let facts = facts_of t sound in
    let hold = all_hold law false t (signed t h) (is_among h.slave) (is_among h.owned) facts.functions (keeps t h are) in
    both_hold (is_sound false (part (signed t h) (is_among h.slave) (is_among h.owned) p)) (has_main (part (signed t h) (is_among h.slave) (is_among h.owned) p))
    (part_sound p (signed t h) (is_among h.slave) (is_among h.owned) (both_hold_first (is_sound false p) (has_main p) whole) hold)
    (part_starts p (signed t h) (is_among h.slave) (is_among h.owned) hold (has_main_here t h are) (both_hold_second (is_sound false p) (has_main p) whole))
