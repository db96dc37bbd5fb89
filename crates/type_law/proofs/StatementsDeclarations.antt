-- Declarations without a fault declare good variables, whose initialisers fit.
use Rattle.std.proofs.Common.{◌≡◌, refl, sym, ◌∙◌, subst, true, false, List, [], ◌∷◌, ◌++◌, length, Option, Some}
use Rattle.std.specs.Prelude.{IsTrue, ◌&&◌, not, slice_get, option_map}
use Rattle.pt_base.specs.declared.span.Span.{Span}
use Rattle.pt_base.proofs.Booleans.{both_hold, both_hold_first, both_hold_second}
use Rattle.pt_base.proofs.Lists.{append_nil_first, append_nil_second}
use Rattle.pt_tree.specs.StatementTree as s
use Rattle.pt_tree.specs.StatementTree.{InitDeclaratorTree, DeclarationTree, ForInitTree}
use Rattle.pt_tree.specs.Facts.{specs_sound, declarator_sound, init_sound, inits_sound, declaration_sound, for_init_sound}
use Rattle.type_rules.specs.declared.types.Type.{«Type»}
use Rattle.type_rules.specs.declared.types.Type.TheVariants.{Bad, Void, Int, Struct, Array, Pointer}
use Rattle.typed_tree.specs.declared.types.VarTy.{VarTy}
use Rattle.typed_tree.specs.declared.types.StructInfo.{StructInfo}
use Rattle.typed_tree.specs.Cells as typed
use Rattle.typed_tree.specs.Parts.{declarator_parts, declaration_parts}
use Rattle.typed_tree.specs.WellFormed.{is_small, is_variable_type}
use Rattle.typed_tree.specs.WellFormedStatement.{Scope, init_fits, declarator_fits, declaration_fits, for_init_fits}
use Rattle.check_declarations.specs.declared.fault.FaultKind.TheVariants.{Redeclared}
use Rattle.check_declarations.specs.declared.objects.ObjectKind.TheVariants as kind
use Rattle.check_declarations.specs.declared.specifiers.Specified.{Specified}
use Rattle.check_declarations.specs.Faults.{fault_if}
use Rattle.check_declarations.specs.Marks.{mark_faults}
use Rattle.check_declarations.specs.Objects.{object_faults, size_faults}
use Rattle.check_declarations.specs.Specifiers.{specified}
use Rattle.check_declarations.specs.Structs.{Structs}
use Rattle.check_expressions.specs.declared.meaning.Variable.{Variable}
use Rattle.check_expressions.specs.Environment.{is_new_inside}
use Rattle.check_expressions.specs.Operands.{var_type}
use Rattle.check_expressions.specs.StructInfos.{object_type_of}
use Rattle.check_statements.specs.Initialisers.{initialised}
use Rattle.check_statements.specs.Outermost.{State}
use Rattle.check_statements.specs.Declarations.{known_variable, local_type, variable_of, variable_faults, declared_one, declared_all, declared, carrier_of}
use Rattle.check_statements.specs.Statements.{for_begun, with_structs}
use Rattle.type_law.specs.DeclarationsTypes.{is_base, is_variable}
use Rattle.type_law.specs.ExpressionsAgreement.{Agrees}
use Rattle.type_law.specs.StatementsLaws.{HasVariables, is_sound_variable}
use Rattle.type_law.proofs.DeclarationsTableLemmas.{sound_prefix}
use Rattle.type_law.proofs.StatementsListLemmas.{get_end}
use Rattle.type_law.proofs.StatementsTypeLemmas.{variable_type}
use Rattle.type_law.proofs.StatementsWalks.{initialiser_goes, declared_one_goes, declared_all_goes}
use Rattle.type_law.proofs.StatementsEnvironments.{agrees_variable, structs_within}
use Rattle.type_law.proofs.StatementsGiven.{Laws, Ready, Keeps, keeps_nowhere, keeps_on, has_first, ready_first, ready_second}
use Rattle.type_law.proofs.StatementsInitialisers.{initialised_sound}
use Rattle.type_law.proofs.StatementsOutermost.{evaluated_sound}

-- ---- one variable

small_object : (laws : Laws) (sc : Scope) (st : State) (ty : «Type») (at : Span) → Agrees st.env st.structs sc.names → IsTrue (is_variable (length st.structs) ty) → size_faults st.structs ty at ≡ [] → IsTrue (is_small sc.names.structs (object_type_of ty))
unfolding var_type typed.leaves_of
small_object laws sc st Bad at a good small = cc
small_object laws sc st Void at a good small = cc
small_object laws sc st (Int t) at a good small = subst (λ (infos : List StructInfo). IsTrue (is_small infos (object_type_of (Int t)))) (sym a.structs_are) (laws.sizes st.structs a.more (Int t) at a.sound good small).1
small_object laws sc st (Struct n) at a good small = subst (λ (infos : List StructInfo). IsTrue (is_small infos (object_type_of (Struct n)))) (sym a.structs_are) (laws.sizes st.structs a.more (Struct n) at a.sound good small).1
small_object laws sc st (Array e count) at a good small = subst (λ (infos : List StructInfo). IsTrue (is_small infos (object_type_of (Array e count)))) (sym a.structs_are) (laws.sizes st.structs a.more (Array e count) at a.sound good small).1
small_object laws sc st (Pointer e fixed) at a good small = refl

-- the variable is good, and names agree behind it
record Known (sc : Scope) (given : Specified) (st : State) (d : InitDeclaratorTree) : Type 0 where
  good : IsTrue (is_variable (length st.structs) (local_type given d.declarator))
  small : size_faults st.structs (local_type given d.declarator) d.declarator.name.span ≡ []
  keeps : Keeps sc.names st (known_variable st given d.declarator)
  entry : option_map (λ x. x.ty) (slice_get sc.names.vars (length st.env.variables)) ≡ Some (object_type_of (local_type given d.declarator))

known : (laws : Laws) (sc : Scope) (given : Specified) (st : State) (d : InitDeclaratorTree) → IsTrue (is_base (length st.structs) given.base) → Ready sc st (declared_one given st d).state (declared_one given st d).trees → variable_faults st.env st.structs given d.declarator ≡ [] → Known sc given st d
known laws sc given st d base r none =
    let name = d.declarator.name in
    let x = variable_of given d.declarator in
    let forms = object_faults kind.Local given d.declarator.pointer d.declarator.suffix name.span in
    let sizes = size_faults st.structs x.ty name.span in
    let again = fault_if (not (is_new_inside st.env.scopes name.bytes)) Redeclared name.span in
    let good = laws.objects kind.Local (length st.structs) given d.declarator.pointer d.declarator.suffix name.span base (append_nil_first forms sizes (append_nil_first (forms ++ sizes) again none)) in
    let small = append_nil_second forms sizes (append_nil_first (forms ++ sizes) again none) in
    let g = initialiser_goes given st d in
    let has = has_first sc.names (st.env.variables ++ x ∷ []) g.new (subst (λ (xs : List Variable). HasVariables sc.names xs) g.variables r.variables) in
    let type = variable_type (length st.structs) (length sc.names.structs) x.ty (structs_within st.env st.structs sc.names r.agrees) good in
    let sized = both_hold (is_variable_type (length sc.names.structs) (object_type_of x.ty)) (is_small sc.names.structs (object_type_of x.ty)) type (small_object laws sc st x.ty name.span r.agrees good small) in
    record {
      good = good;
      small = small;
      keeps = record {
        agrees = agrees_variable st.env st.structs sc.names x r.agrees good has;
        structs = refl;
        new = x ∷ [];
        variables = refl;
        sized = both_hold (is_sound_variable sc.names.structs x) true sized refl;
      };
      entry = has (length st.env.variables) x (get_end st.env.variables [] x);
    }

declared_one_sound : (laws : Laws) (sc : Scope) (given : Specified) (st : State) (d : InitDeclaratorTree) → IsTrue (is_base (length st.structs) given.base) → Ready sc st (declared_one given st d).state (declared_one given st d).trees → IsTrue (init_sound d.init) → (declared_one given st d).faults ≡ [] → Keeps sc.names st (declared_one given st d).state × IsTrue (declarator_fits sc (declared_one given st d).declarator)
declared_one_sound laws sc given st d base r sound none =
    let ty = local_type given d.declarator in
    let before = known_variable st given d.declarator in
    let init = initialised before ty d.init in
    let own = variable_faults st.env st.structs given d.declarator in
    let k = known laws sc given st d base r (append_nil_first own init.faults none) in
    let ready : Ready sc before init.state init.trees = record { agrees = k.keeps.agrees; variables = r.variables; stand = r.stand } in
    let fits = initialised_sound laws sc before ty d.declarator.name.span (record { 0 = length st.env.variables }) d.init ready k.good k.small sound (append_nil_second own init.faults none) in
    (keeps_on sc.names st before init.state k.keeps fits.0, subst (λ (o : Option VarTy). IsTrue (init_fits sc o init.init)) (sym k.entry) fits.1)

-- ---- a declaration

declared_all_sound : (laws : Laws) (sc : Scope) (given : Specified) (st : State) (ds : List InitDeclaratorTree) → IsTrue (is_base (length st.structs) given.base) → Ready sc st (declared_all given st ds).state (declared_all given st ds).trees → IsTrue (inits_sound ds) → (declared_all given st ds).faults ≡ [] → Keeps sc.names st (declared_all given st ds).state × IsTrue (declaration_fits sc (declared_all given st ds).declarators)
declared_all_sound laws sc given st [] base r sound none = (keeps_nowhere sc.names st r.agrees, refl)
declared_all_sound laws sc given st (d ∷ ds) base r sound none =
    let one = declared_one given st d in
    let rest = declared_all given one.state ds in
    let parts = declaration_parts rest.declarators in
    let here = both_hold_first (declarator_sound d.declarator && init_sound d.init) (inits_sound ds) sound in
    let later = both_hold_second (declarator_sound d.declarator && init_sound d.init) (inits_sound ds) sound in
    let ready = ready_first sc st one.state rest.state one.trees rest.trees parts (declared_all_goes given one.state ds) r in
    let first = declared_one_sound laws sc given st d base ready (both_hold_second (declarator_sound d.declarator) (init_sound d.init) here) (append_nil_first one.faults rest.faults none) in
    let next = ready_second sc st one.state rest.state one.trees rest.trees (declarator_parts one.declarator) (declared_one_goes given st d) first.0 r in
    let base' = subst (λ (x : Structs). IsTrue (is_base (length x) given.base)) (sym first.0.structs) base in
    let second = declared_all_sound laws sc given one.state ds base' next later (append_nil_second one.faults rest.faults none) in
    (keeps_on sc.names st one.state rest.state first.0 second.0, both_hold (declarator_fits sc one.declarator) (declaration_fits sc rest.declarators) first.1 second.1)

pub declared_sound : (laws : Laws) (sc : Scope) (st : State) (d : DeclarationTree) → Ready sc st (declared st d).state (declared st d).trees → IsTrue (declaration_sound d) → (declared st d).faults ≡ [] → Keeps sc.names st (declared st d).state × IsTrue (declaration_fits sc (declared st d).declaration.declarators)
declared_sound laws sc st d r sound none =
    let j = specified false st.structs d.specs in
    let before = with_structs st j.structs in
    let all = declared_all j.given before d.declarators in
    let marks = mark_faults (carrier_of d.declarators) j.given.attributes in
    let s = laws.specifiers false st.structs d.specs (sound_prefix st.structs r.agrees.more r.agrees.sound) (append_nil_first j.faults marks (append_nil_first (j.faults ++ marks) all.faults none)) in
    let same = s.none refl in
    let agrees = subst (λ (x : Structs). Agrees st.env x sc.names) (sym same) r.agrees in
    let ready : Ready sc before all.state all.trees = record { agrees = agrees; variables = r.variables; stand = r.stand } in
    let k = declared_all_sound laws sc j.given before d.declarators s.base ready (both_hold_second (specs_sound d.specs) (inits_sound d.declarators) sound) (append_nil_second (j.faults ++ marks) all.faults none) in
    (record { agrees = k.0.agrees; structs = k.0.structs ∙ same; new = k.0.new; variables = k.0.variables; sized = k.0.sized }, k.1)

pub begun_sound : (laws : Laws) (sc : Scope) (st : State) (i : ForInitTree) → Ready sc st (for_begun st i).state (for_begun st i).trees → IsTrue (for_init_sound i) → (for_begun st i).faults ≡ [] → Keeps sc.names st (for_begun st i).state × IsTrue (for_init_fits sc (for_begun st i).init)
begun_sound laws sc st (s.for_declare d) r sound none = declared_sound laws sc st d r sound none
begun_sound laws sc st s.for_nothing r sound none = (keeps_nowhere sc.names st r.agrees, refl)
begun_sound laws sc st (s.for_expr a) r sound none = evaluated_sound laws sc st a r.agrees r.stand.0 sound none
