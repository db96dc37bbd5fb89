-- Statements, lowered, fit: by induction on the tree.
use Rattle.std.proofs.Common.{◌≡◌, ◌∙◌, ◌≤◌, ℕ, pos, suc, ◌+◌, refl, sym, subst, arith, Bool, true, false, Option, Some, None, List, [], ◌∷◌, ◌++◌, length, map, if◌then◌else◌}
use Rattle.std.specs.Prelude.{◌&&◌, slice_get, get_or, option_map, unwrap_or}
use Rattle.std.specs.List.{list_all}
use Rattle.std.proofs.lemmas.Option.{get_or_from_slice_get}
use Rattle.pt_base.specs.declared.int_type.IntType.{IntType}
use Rattle.pt_base.specs.declared.int_type.IntType.TheVariants as i
use Rattle.pt_base.specs.declared.span.Span.{Span}
use Rattle.pt_base.specs.IntTypes.{promoted}
use Rattle.pt_base.proofs.Booleans.{both_hold, both_hold_first, both_hold_second, false_not_true}
use Rattle.pt_base.proofs.Places.{get_map}
use Rattle.pt_int.specs.declared.operator.BinOp.TheVariants.{Le, Eq}
use Rattle.typed_tree.specs.declared.ids.ExprId.{ExprId}
use Rattle.typed_tree.specs.declared.types.VarTy.{VarTy}
use Rattle.typed_tree.specs.declared.types.VarTy.TheVariants.{Int, Struct, Array, Pointer}
use Rattle.typed_tree.specs.declared.variable.Var.{Var}
use Rattle.typed_tree.specs.declared.statement.TypedLabel.{TypedLabel}
use Rattle.typed_tree.specs.declared.statement.TypedLabel.TheVariants.{Case, Default}
use Rattle.typed_tree.specs.declared.statement.TypedInit.{TypedInit}
use Rattle.typed_tree.specs.declared.statement.TypedInit.TheVariants as init
use Rattle.typed_tree.specs.declared.statement.TypedDeclarator.{TypedDeclarator}
use Rattle.typed_tree.specs.declared.statement.TypedForInit.{TypedForInit}
use Rattle.typed_tree.specs.declared.statement.TypedForInit.TheVariants as begin
use Rattle.typed_tree.specs.ExpressionTree as t
use Rattle.typed_tree.specs.StatementTree as b
use Rattle.typed_tree.specs.StatementTree.{BodyTree, ElseTree, no_else, otherwise, BodyTrees, no_bodies, body_and, SectionTree, section, SectionTrees, no_sections, section_and}
use Rattle.typed_tree.specs.Nodes.{body_nodes, else_nodes, bodies_nodes, section_nodes, for_init_nodes}
use Rattle.typed_tree.specs.TypeTests.{both_int, same_types, integer_of, is_scalar, is_value}
use Rattle.typed_tree.specs.TypeRules.{is_promoted}
use Rattle.typed_tree.specs.WellFormedExpression.{Names, ty_of, is_typed}
use Rattle.typed_tree.specs.WellFormedStatement as s
use Rattle.typed_tree.specs.WellFormedStatement.{found_fits, any_type, promotes_to, option_fits, item_types, items_fit, init_fits, declarator_fits, declaration_fits, for_init_fits, labels_of, label_fits, labels_distinct, labels_fit, is_sound, else_sound, all_sound, sections_sound}
use Rattle.typed_tree.specs.WellFormed.{is_variable_type, is_small}
use Rattle.pt_core.specs.CodeTree.{PlaceTree, place, local, constant, binary, clear, assign, choose, repeat, break_out, give_back, stmt_trees}
use Rattle.pt_core.specs.Types.{type_of, place_type, type_at}
use Rattle.pt_core.specs.WellFormedExpression.{expr_fits, place_fits}
use Rattle.source_meaning.specs.Expressions as x
use Rattle.source_meaning.specs.Statements.{no_expr, section_with, is_default, count_of}
use Rattle.lowering.specs.Lowered.{Temp, Effects, Lowered, past, temp, hold, int, followed}
use Rattle.lowering.specs.Operators.{as_int}
use Rattle.lowering.specs.Expressions.{is_struct, value_in, effects_in, object_in, copied, given, place_effects}
use Rattle.lowering.specs.Leaves.{leaf_places}
use Rattle.lowering.specs.Statements.{Code, outermost, Onward, nowhere, to_head, past_flag, number, onwards, inside, behind_switch, variable_place, items_in, value_stored, initialised, declared, tested, stepped, looped, on_the_way_back, first_told, case_of, cases_from, otherwise_of, section_by, switch_temps, switched, chosen, returned, begun, statement_in, otherwise_in, all_in, sections_in}
use Rattle.lowered_code_law.proofs.FormsSettings.{Agrees, EffectsFit, Fit, LoweredFits, PlaceFits, Setting, Stand, ValueFits, context, scope, source}
use Rattle.typed_tree.proofs.SameTypes.{equal_ints, equal_options}
use Rattle.lowered_code_law.proofs.FormsSameTypes.{promoted_promoted, stands_int, usual_promoted}
use Rattle.lowered_code_law.proofs.FormsStanding.{assign_fits, choose_fits, fit_both, fit_trees, hold_fits, in_list, known_both, stand_first, stand_rest, stand_three, temp_value}
use Rattle.lowered_code_law.proofs.FormsSteps.{as_int_fits, binary_fits, constant_fits}
use Rattle.lowered_code_law.proofs.FormsPlaces.{variable_fits, variable_known, variable_place_fits}
use Rattle.lowered_code_law.proofs.FormsRules.{no_struct, scalar_type, type_is, value_scalar}
use Rattle.lowered_code_law.proofs.FormLemmas.{copied_fits, given_fits, place_effects_fit, struct_compound}
use Rattle.lowered_code_law.proofs.FormsExpressions.{effects_lower, object_lowers, value_lowers}
use Rattle.lowered_code_law.proofs.FormsLeaves.{PlacesFit, leaves_fit, number_fits}

-- what statements are tested by, and lowered with
abbrev pub tests : Setting → List t.ExprTree → s.Scope
tests w exprs = record { names = w.names; exprs = exprs; result = w.result }

abbrev pub code : Setting → List t.ExprTree → Code
code w exprs = record { scope = source w.names; exprs = exprs }

-- ---- one after the other

pub followed_fits : (w : Setting) (l : Bool) (n : ℕ) (a d : Effects) → (Stand w.variables n a.temps → EffectsFit w l a.stmts a.temps) → (Stand w.variables (past n a.temps) d.temps → EffectsFit w l d.stmts d.temps) →
    Stand w.variables n (followed a d).temps → EffectsFit w l (followed a d).stmts (followed a d).temps
followed_fits w l n a d h k stand =
    let first = h (stand_first w.variables n a.temps d.temps stand) in
    let rest = k (stand_rest w.variables n a.temps d.temps stand) in
    record { stmts = fit_both (scope w) l a.stmts d.stmts first.stmts rest.stmts; temps = known_both w.names.structs a.temps d.temps first.temps rest.temps }

nothing_lowers : (w : Setting) (l : Bool) → EffectsFit w l [] []
nothing_lowers w l = record { stmts = tt; temps = tt }

number_value : (w : Setting) (k : ℕ) → k ≤ 0x7fff_ffff → ValueFits (context w) int (number k)
number_value w k h = constant_fits (context w) i.Int (pos k) (number_fits k h)

-- ---- outermost expressions

pub found : (n : Names) (exprs : List t.ExprTree) (test : Option VarTy → Bool) (a : ℕ) → found_fits n test (slice_get exprs a) ≡ true → (is_typed n (get_or exprs a no_expr) ≡ true) × (test (ty_of (get_or exprs a no_expr)) ≡ true)
found n exprs test a h = go (slice_get exprs a) refl h
  where
    go : (o : Option t.ExprTree) → slice_get exprs a ≡ o → found_fits n test o ≡ true → (is_typed n (get_or exprs a no_expr) ≡ true) × (test (ty_of (get_or exprs a no_expr)) ≡ true)
    go None is k = false_not_true k
    go (Some e) is k = subst (λ z. (is_typed n z ≡ true) × (test (ty_of z) ≡ true)) (sym (get_or_from_slice_get exprs a e no_expr is)) (both_hold_first (is_typed n e) (test (ty_of e)) k, both_hold_second (is_typed n e) (test (ty_of e)) k)

-- the type of an expression of an integer's or a pointer's type
scalar_own : (a : t.ExprTree) → is_scalar (ty_of a) ≡ true → is_scalar (Some (x.type_of a)) ≡ true
scalar_own a h = let o = scalar_type (ty_of a) h in subst (λ z. is_scalar (Some z) ≡ true) (sym (type_is a o.type o.is)) (subst (λ z. is_scalar z ≡ true) o.is h)

-- the value of a condition
condition_lowers : (w : Setting) (exprs : List t.ExprTree) (l : Bool) (e : ExprId) (n : ℕ) → Agrees w → s.expr_fits (tests w exprs) is_scalar e ≡ true → Stand w.variables n (value_in (source w.names) (outermost (code w exprs) e) n).temps →
    LoweredFits w l (x.type_of (outermost (code w exprs) e)) (value_in (source w.names) (outermost (code w exprs) e) n) × (is_scalar (Some (x.type_of (outermost (code w exprs) e))) ≡ true)
condition_lowers w exprs l e n g h stand =
    let f = found w.names exprs is_scalar e.0 h in
    (value_lowers (outermost (code w exprs) e) w l n g f.0 (no_struct (ty_of (outermost (code w exprs) e)) f.1) stand, scalar_own (outermost (code w exprs) e) f.1)

dropped_lowers : (w : Setting) (exprs : List t.ExprTree) (l : Bool) (e : ExprId) (n : ℕ) → Agrees w → s.expr_fits (tests w exprs) any_type e ≡ true → Stand w.variables n (effects_in (source w.names) (outermost (code w exprs) e) n).temps →
    EffectsFit w l (effects_in (source w.names) (outermost (code w exprs) e) n).stmts (effects_in (source w.names) (outermost (code w exprs) e) n).temps
dropped_lowers w exprs l e n g h stand = effects_lower (outermost (code w exprs) e) w l n g (found w.names exprs any_type e.0 h).0 stand

-- ---- declarations

items_lower : (w : Setting) (exprs : List t.ExprTree) (l : Bool) (ps : List PlaceTree) (tys : List VarTy) (es : List ExprId) (n : ℕ) → Agrees w → PlacesFit (context w) ps tys → items_fit (tests w exprs) tys es ≡ true →
    Stand w.variables n (items_in (code w exprs) ps es n).temps → EffectsFit w l (items_in (code w exprs) ps es n).stmts (items_in (code w exprs) ps es n).temps
items_lower w exprs l [] tys [] n g h k stand = nothing_lowers w l
items_lower w exprs l (p ∷ ps) tys [] n g h k stand = nothing_lowers w l
items_lower w exprs l [] [] (e ∷ es) n g h k stand = false_not_true k
items_lower w exprs l [] (ty ∷ tys) (e ∷ es) n g h k stand = false_not_true h
items_lower w exprs l (p ∷ ps) [] (e ∷ es) n g h k stand = false_not_true h
items_lower w exprs l (p ∷ ps) (ty ∷ tys) (e ∷ es) n g h k stand =
    let a = outermost (code w exprs) e in
    let v = value_in (source w.names) a n in
    let f = found w.names exprs (same_types (Some ty)) e.0 (both_hold_first (s.expr_fits (tests w exprs) (same_types (Some ty)) e) (items_fit (tests w exprs) tys es) k) in
    let own : ty_of a ≡ Some ty = sym (equal_options (Some ty) (ty_of a) f.1) in
    followed_fits w l n (record { stmts = v.stmts ++ assign p v.value ∷ []; temps = v.temps }) (items_in (code w exprs) ps es (past n v.temps))
    (λ st. stored w l p ty a v h.0 h.1 h.2 own (value_lowers a w l n g f.0 (subst (λ z. is_struct z ≡ false) (sym own) (no_struct (Some ty) h.2)) st))
    (λ st. items_lower w exprs l ps tys es (past n v.temps) g h.3 (both_hold_second (s.expr_fits (tests w exprs) (same_types (Some ty)) e) (items_fit (tests w exprs) tys es) k) st) stand
  where
    stored : (w : Setting) (l : Bool) (p : PlaceTree) (ty : VarTy) (a : t.ExprTree) (v : Lowered) → place_fits (context w) p ≡ true → place_type (context w) p ≡ ty → is_scalar (Some ty) ≡ true → ty_of a ≡ Some ty → LoweredFits w l (x.type_of a) v →
        EffectsFit w l (v.stmts ++ assign p v.value ∷ []) v.temps
    stored w l p ty a v fits is scalar own y = record {
      stmts = fit_both (scope w) l v.stmts (assign p v.value ∷ []) y.stmts (assign_fits w l p ty v.value fits is scalar (subst (λ z. ValueFits (context w) z v.value) (type_is a ty own) y.value), tt);
      temps = y.temps;
    }

value_initialised : (w : Setting) (exprs : List t.ExprTree) (l : Bool) (v : ℕ) (ty : VarTy) (a : t.ExprTree) (n : ℕ) → Agrees w → option_map (λ (y : Var). y.ty) (slice_get w.names.vars v) ≡ Some ty → is_value (Some ty) ≡ true → is_typed w.names a ≡ true → ty_of a ≡ Some ty →
    Stand w.variables n (value_stored (code w exprs) v a n).temps → EffectsFit w l (value_stored (code w exprs) v a n).stmts (value_stored (code w exprs) v a n).temps
value_initialised w exprs l v ty a n g is value h own stand = go (is_struct (Some (type_at (source w.names).variables v))) refl stand
  where
    to : PlaceFits w l ty (variable_place (code w exprs) v)
    to = variable_place_fits w l (t.local (record { 0 = v })) v ty g is

    same : type_at (source w.names).variables v ≡ ty
    same = get_or_from_slice_get (map (λ (y : Var). y.ty) w.names.vars) v ty (Int i.Int) (get_map (λ (y : Var). y.ty) w.names.vars v ∙ is)

    back : (n : ℕ) (ts : List Temp) → Stand w.variables (n + 0) ts → Stand w.variables n ts
    back n ts st = subst (λ m. Stand w.variables m ts) (plain n) st
      where
        plain : (n : ℕ) → n + 0 ≡ n
        plain n = omega arith

    go : (d : Bool) → is_struct (Some (type_at (source w.names).variables v)) ≡ d →
        Stand w.variables n (if d then place_effects (copied (variable_place (code w exprs) v) (object_in (source w.names) a n)) else place_effects (given (variable_place (code w exprs) v) (value_in (source w.names) a n))).temps →
        EffectsFit w l (if d then place_effects (copied (variable_place (code w exprs) v) (object_in (source w.names) a n)) else place_effects (given (variable_place (code w exprs) v) (value_in (source w.names) a n))).stmts
        (if d then place_effects (copied (variable_place (code w exprs) v) (object_in (source w.names) a n)) else place_effects (given (variable_place (code w exprs) v) (value_in (source w.names) a n))).temps
    go true e st =
        let struct : is_struct (Some ty) ≡ true = subst (λ z. is_struct (Some z) ≡ true) same e in
        place_effects_fit w l ty (copied (variable_place (code w exprs) v) (object_in (source w.names) a n))
        (copied_fits w l ty n (variable_place (code w exprs) v) (object_in (source w.names) a n) (struct_compound ty struct) (λ s1. to) (λ s1. object_lowers a w l n ty g h own struct (back n (object_in (source w.names) a n).temps s1)) st)
    go false e st =
        let plain : is_struct (Some ty) ≡ false = subst (λ z. is_struct (Some z) ≡ false) same e in
        place_effects_fit w l ty (given (variable_place (code w exprs) v) (value_in (source w.names) a n))
        (given_fits w l ty n (variable_place (code w exprs) v) (value_in (source w.names) a n) (value_scalar ty value plain) (λ s1. to)
        (λ s1. subst (λ z. LoweredFits w l z (value_in (source w.names) a n)) (type_is a ty own) (value_lowers a w l n g h (subst (λ z. is_struct z ≡ false) (sym own) plain) (back n (value_in (source w.names) a n).temps s1))) st)

initialised_lowers : (w : Setting) (exprs : List t.ExprTree) (l : Bool) (d : TypedInit) (v : ℕ) (ty : VarTy) (n : ℕ) → Agrees w → option_map (λ (y : Var). y.ty) (slice_get w.names.vars v) ≡ Some ty → init_fits (tests w exprs) (Some ty) d ≡ true →
    Stand w.variables n (initialised (code w exprs) d v n).temps → EffectsFit w l (initialised (code w exprs) d v n).stmts (initialised (code w exprs) d v n).temps
initialised_lowers w exprs l init.Nothing v ty n g is h stand = nothing_lowers w l
initialised_lowers w exprs l (init.Value e) v ty n g is h stand =
    let f = found w.names exprs (same_types (Some ty)) e.0 (both_hold_second (is_value (Some ty)) (s.expr_fits (tests w exprs) (same_types (Some ty)) e) h) in
    value_initialised w exprs l v ty (outermost (code w exprs) e) n g is (both_hold_first (is_value (Some ty)) (s.expr_fits (tests w exprs) (same_types (Some ty)) e) h) f.0 (sym (equal_options (Some ty) (ty_of (outermost (code w exprs) e)) f.1)) stand
initialised_lowers w exprs l (init.Items at es) v ty n g is h stand =
    let same : type_at (source w.names).variables v ≡ ty = get_or_from_slice_get (map (λ (y : Var). y.ty) w.names.vars) v ty (Int i.Int) (get_map (λ (y : Var). y.ty) w.names.vars v ∙ is) in
    let known = variable_known w.names.structs w.names.vars v ty g.vars is in
    let places = leaves_fit (context w) at ty (place (local v) []) g.structs (both_hold_first (is_variable_type (length w.names.structs) ty) (is_small w.names.structs ty) known) (both_hold_second (is_variable_type (length w.names.structs) ty) (is_small w.names.structs ty) known)
    (variable_fits w v ty g is) (get_or_from_slice_get w.variables v ty (Int i.Int) (g.variables v ty is)) in
    items_lower w exprs l (leaf_places w.names.structs (type_at (source w.names).variables v) at (place (local v) [])) (item_types w.names.structs ty) es n g
    (subst (λ z. PlacesFit (context w) (leaf_places w.names.structs z at (place (local v) [])) (item_types w.names.structs ty)) (sym same) places) h stand

declared_one : (w : Setting) (exprs : List t.ExprTree) (l : Bool) (d : TypedDeclarator) (n : ℕ) → Agrees w → declarator_fits (tests w exprs) d ≡ true → Stand w.variables n (initialised (code w exprs) d.init d.var.0 n).temps →
    EffectsFit w l (clear d.var.0 ∷ (initialised (code w exprs) d.init d.var.0 n).stmts) (initialised (code w exprs) d.init d.var.0 n).temps
declared_one w exprs l d n g h stand = go (option_map (λ (y : Var). y.ty) (slice_get w.names.vars d.var.0)) refl h
  where
    go : (o : Option VarTy) → option_map (λ (y : Var). y.ty) (slice_get w.names.vars d.var.0) ≡ o → init_fits (tests w exprs) o d.init ≡ true →
        EffectsFit w l (clear d.var.0 ∷ (initialised (code w exprs) d.init d.var.0 n).stmts) (initialised (code w exprs) d.init d.var.0 n).temps
    go None is k = false_not_true k
    go (Some ty) is k = let rest = initialised_lowers w exprs l d.init d.var.0 ty n g is k stand in record { stmts = (in_list w.variables d.var.0 ty (g.variables d.var.0 ty is), rest.stmts); temps = rest.temps }

declared_lowers : (w : Setting) (exprs : List t.ExprTree) (l : Bool) (ds : List TypedDeclarator) (n : ℕ) → Agrees w → declaration_fits (tests w exprs) ds ≡ true → Stand w.variables n (declared (code w exprs) ds n).temps →
    EffectsFit w l (declared (code w exprs) ds n).stmts (declared (code w exprs) ds n).temps
declared_lowers w exprs l [] n g h stand = nothing_lowers w l
declared_lowers w exprs l (d ∷ ds) n g h stand =
    let own = initialised (code w exprs) d.init d.var.0 n in
    followed_fits w l n (record { stmts = clear d.var.0 ∷ own.stmts; temps = own.temps }) (declared (code w exprs) ds (past n own.temps))
    (λ st. declared_one w exprs l d n g (both_hold_first (declarator_fits (tests w exprs) d) (list_all (declarator_fits (tests w exprs)) ds) h) st)
    (λ st. declared_lowers w exprs l ds (past n own.temps) g (both_hold_second (declarator_fits (tests w exprs) d) (list_all (declarator_fits (tests w exprs)) ds) h) st) stand

begun_lowers : (w : Setting) (exprs : List t.ExprTree) (l : Bool) (d : TypedForInit) (n : ℕ) → Agrees w → for_init_fits (tests w exprs) d ≡ true → Stand w.variables n (begun (code w exprs) d n).temps → EffectsFit w l (begun (code w exprs) d n).stmts (begun (code w exprs) d n).temps
begun_lowers w exprs l begin.Nothing n g h stand = nothing_lowers w l
begun_lowers w exprs l (begin.Declare d) n g h stand = declared_lowers w exprs l d.declarators n g h stand
begun_lowers w exprs l (begin.Evaluate e) n g h stand = dropped_lowers w exprs l e n g h stand

-- ---- loops

tested_lowers : (w : Setting) (exprs : List t.ExprTree) (o : Option ExprId) (n : ℕ) → Agrees w → option_fits (tests w exprs) is_scalar o ≡ true → Stand w.variables n (tested (code w exprs) o n).temps → EffectsFit w true (tested (code w exprs) o n).stmts (tested (code w exprs) o n).temps
tested_lowers w exprs None n g h stand = nothing_lowers w true
tested_lowers w exprs (Some e) n g h stand =
    let v = value_in (source w.names) (outermost (code w exprs) e) n in
    let c = condition_lowers w exprs true e n g h stand in
    record {
      stmts = fit_both (scope w) true v.stmts (choose v.value (stmt_trees []) (stmt_trees (break_out ∷ [])) ∷ []) c.0.stmts (choose_fits w true (x.type_of (outermost (code w exprs) e)) v.value [] (break_out ∷ []) c.0.value c.1 tt (refl, tt), tt);
      temps = c.0.temps;
    }

looped_fits : (w : Setting) (l : Bool) (at : Span) (body : Effects) → EffectsFit w true body.stmts body.temps → EffectsFit w l (looped at body).stmts (looped at body).temps
looped_fits w l at body h = record { stmts = (fit_trees (scope w) true body.stmts h.stmts, tt); temps = h.temps }

way_back_fits : (w : Setting) (k : ℕ) (back : Effects) → slice_get w.variables k ≡ Some int → EffectsFit w true back.stmts back.temps → EffectsFit w true (on_the_way_back k back).stmts (on_the_way_back k back).temps
way_back_fits w k back own h = record {
  stmts = (choose_fits w true int (temp k) (hold k (number 0) ∷ []) back.stmts (temp_value w k int own refl) refl (hold_fits w true k int (number 0) own refl (number_value w 0 (omega arith)), tt) h.stmts, tt);
  temps = h.temps;
}

first_told_fits : (w : Setting) (l : Bool) (k : ℕ) (loop : Effects) → slice_get w.variables k ≡ Some int → EffectsFit w l loop.stmts loop.temps → EffectsFit w l (first_told k loop).stmts (first_told k loop).temps
first_told_fits w l k loop own h = record { stmts = (hold_fits w l k int (number 1) own refl (number_value w 1 (omega arith)), h.stmts); temps = (refl, h.temps) }

-- ---- switches

abbrev pub few_nodes : ℕ
few_nodes = 0xfff_ffff

sections_count : (ss : SectionTrees) → count_of ss ≤ section_nodes ss
sections_count no_sections = omega arith
sections_count (section_and (section at l bs) rest) = let h = sections_count rest in omega (arith, h)

default_below : (ss : SectionTrees) → unwrap_or (section_with is_default ss) (count_of ss) ≤ count_of ss
default_below no_sections = omega arith
default_below (section_and (section at (Case p v) bs) rest) = later (section_with is_default rest) (count_of rest) (default_below rest)
  where
    later : (o : Option ℕ) (c : ℕ) → unwrap_or o c ≤ c → unwrap_or (option_map suc o) (suc c) ≤ suc c
    later None c h = omega arith
    later (Some m) c h = omega (arith, h)
default_below (section_and (section at (Default p) bs) rest) = omega arith

case_fits : (w : Setting) (l : Bool) (at : Span) (ty : IntType) (k m : ℕ) (label : TypedLabel) → is_promoted ty ≡ true → slice_get w.variables k ≡ Some (Int ty) → slice_get w.variables (k + 1) ≡ Some int → m ≤ 0x7fff_ffff → label_fits ty label ≡ true → Fit (scope w) l (case_of at ty k m label)
case_fits w l at ty k m (Default p) prom own next small h = tt
case_fits w l at ty k m (Case p v) prom own next small h = (
  choose_fits w l int (binary Eq ty (temp k) (constant ty v) at) (hold (k + 1) (number m) ∷ []) []
      (binary_fits (context w) Eq ty (temp k) (constant ty v) at refl (usual_promoted ty prom) (temp_value w k (Int ty) own refl) (constant_fits (context w) ty v h)) refl
      (hold_fits w l (k + 1) int (number m) next refl (number_value w m small), tt) tt,
  tt,
)

cases_fit : (w : Setting) (l : Bool) (at : Span) (ty : IntType) (k m : ℕ) (ss : SectionTrees) → is_promoted ty ≡ true → slice_get w.variables k ≡ Some (Int ty) → slice_get w.variables (k + 1) ≡ Some int → m + count_of ss ≤ 0x7fff_ffff → list_all (label_fits ty) (labels_of ss) ≡ true →
    Fit (scope w) l (cases_from at ty k m ss)
cases_fit w l at ty k m no_sections prom own next small h = tt
cases_fit w l at ty k m (section_and (section p label bs) rest) prom own next small h =
    fit_both (scope w) l (case_of at ty k m label) (cases_from at ty k (m + 1) rest)
    (case_fits w l at ty k m label prom own next (below m (count_of rest) small) (both_hold_first (label_fits ty label) (list_all (label_fits ty) (labels_of rest)) h))
    (cases_fit w l at ty k (m + 1) rest prom own next (more m (count_of rest) small) (both_hold_second (label_fits ty label) (list_all (label_fits ty) (labels_of rest)) h))
  where
    below : (m c : ℕ) → m + suc c ≤ 0x7fff_ffff → m ≤ 0x7fff_ffff
    below m c h = omega (arith, h)

    more : (m c : ℕ) → m + suc c ≤ 0x7fff_ffff → m + 1 + c ≤ 0x7fff_ffff
    more m c h = omega (arith, h)

section_fits : (w : Setting) (at : Span) (k m : ℕ) (body : Effects) → slice_get w.variables (k + 1) ≡ Some int → m ≤ 0x7fff_ffff → EffectsFit w true body.stmts body.temps → EffectsFit w true (section_by at k m body).stmts (section_by at k m body).temps
section_fits w at k m body own small h = record {
  stmts = (
    choose_fits w true int (binary Le i.Int (temp (k + 1)) (number m) at) body.stmts []
        (binary_fits (context w) Le i.Int (temp (k + 1)) (number m) at refl refl (temp_value w (k + 1) int own refl) (number_value w m small)) refl h.stmts tt,
    tt,
  );
  temps = h.temps;
}

inside_fits : (w : Setting) (mode : Onward) (k : ℕ) → slice_get w.variables k ≡ Some int → Fit (scope w) true (onwards (inside mode k))
inside_fits w nowhere k own = tt
inside_fits w to_head k own = (hold_fits w true k int (number 1) own refl (number_value w 1 (omega arith)), (refl, tt))
inside_fits w (past_flag j) k own = (hold_fits w true k int (number 1) own refl (number_value w 1 (omega arith)), (refl, tt))

flag_fits : (w : Setting) (l : Bool) (mode : Onward) (k : ℕ) → slice_get w.variables k ≡ Some int → Fit (scope w) l (onwards mode) → Fit (scope w) l (behind_switch mode k)
flag_fits w l nowhere k own h = tt
flag_fits w l to_head k own h = (choose_fits w l int (temp k) (onwards to_head) [] (temp_value w k int own refl) refl h tt, tt)
flag_fits w l (past_flag j) k own h = (choose_fits w l int (temp k) (onwards (past_flag j)) [] (temp_value w k int own refl) refl h tt, tt)

-- the type of a switch is that of its value, promoted
record SwitchType (o : Option VarTy) (ty : IntType) : Type 0 where
  from : IntType
  is : o ≡ Some (Int from)
  prom : is_promoted ty ≡ true

switch_type : (o : Option VarTy) (ty : IntType) → promotes_to ty o ≡ true → SwitchType o ty
switch_type (Some (Int a)) ty h = record { from = a; is = refl; prom = subst (λ z. is_promoted z ≡ true) (equal_ints (promoted a) ty h) (promoted_promoted a) }
switch_type None ty h = false_not_true h
switch_type (Some (Struct n)) ty h = false_not_true h
switch_type (Some (Array e n)) ty h = false_not_true h
switch_type (Some (Pointer e f)) ty h = false_not_true h

-- the value, the chosen section and the flag, and the sections behind them
switched_fits : (w : Setting) (l : Bool) (at : Span) (ty : IntType) (a : t.ExprTree) (n : ℕ) (mode : Onward) (ss : SectionTrees) (v : Lowered) (body : Effects) → promotes_to ty (ty_of a) ≡ true → list_all (label_fits ty) (labels_of ss) ≡ true → section_nodes ss ≤ few_nodes →
    Fit (scope w) l (onwards mode) → (is_struct (ty_of a) ≡ false → Stand w.variables n v.temps → LoweredFits w l (x.type_of a) v) →
    (slice_get w.variables (past n v.temps + 1) ≡ Some int → slice_get w.variables (past n v.temps + 2) ≡ Some int → Stand w.variables (past n v.temps + 3) body.temps → EffectsFit w true body.stmts body.temps) →
    Stand w.variables n (switched at ty (x.type_of a) (past n v.temps) mode ss v body).temps → EffectsFit w l (switched at ty (x.type_of a) (past n v.temps) mode ss v body).stmts (switched at ty (x.type_of a) (past n v.temps) mode ss v body).temps
switched_fits w l at ty a n mode ss v body rule labels nodes on h k stand =
    let types = switch_type (ty_of a) ty rule in
    let all = stand_three w.variables n v.temps (switch_temps ty) body.temps stand in
    let first = h (subst (λ z. is_struct z ≡ false) (sym types.is) refl) (stand_first w.variables n v.temps (switch_temps ty ++ body.temps) all) in
    let rest = stand_rest w.variables n v.temps (switch_temps ty ++ body.temps) all in
    let j = past n v.temps in
    let flag : slice_get w.variables (j + 2) ≡ Some int = subst (λ z. slice_get w.variables z ≡ Some int) (two j) rest.1.1.0 in
    let inner = k rest.1.0 flag (subst (λ z. Stand w.variables z body.temps) (three j) rest.1.1.1) in
    let own = type_is a (Int types.from) types.is in
    let value : ValueFits (context w) (Int ty) (as_int (x.type_of a) ty v.value) =
    subst (λ z. ValueFits (context w) (Int ty) (as_int z ty v.value)) (sym own) (as_int_fits (context w) types.from ty v.value (subst (λ z. ValueFits (context w) z v.value) own first.value)) in
    let count = sections_count ss in
    let default = default_below ss in
    let loop = repeat (stmt_trees (body.stmts ++ break_out ∷ [])) at in
    record {
      stmts = fit_both (scope w) l (v.stmts ++ hold j (as_int (x.type_of a) ty v.value) ∷ hold (j + 1) (number (otherwise_of ss)) ∷ cases_from at ty j 0 ss) (hold (j + 2) (number 0) ∷ loop ∷ behind_switch mode (j + 2))
          (fit_both (scope w) l v.stmts (hold j (as_int (x.type_of a) ty v.value) ∷ hold (j + 1) (number (otherwise_of ss)) ∷ cases_from at ty j 0 ss) first.stmts (
            hold_fits w l j (Int ty) (as_int (x.type_of a) ty v.value) rest.0 refl value,
            (
              hold_fits w l (j + 1) int (number (otherwise_of ss)) rest.1.0 refl (number_value w (otherwise_of ss) (fewer (otherwise_of ss) (count_of ss) (section_nodes ss) default count nodes)),
              cases_fit w l at ty j 0 ss types.prom rest.0 rest.1.0 (least (count_of ss) (section_nodes ss) count nodes) labels,
            ),
          )) (
            hold_fits w l (j + 2) int (number 0) flag refl (number_value w 0 (omega arith)),
            (fit_trees (scope w) true (body.stmts ++ break_out ∷ []) (fit_both (scope w) true body.stmts (break_out ∷ []) inner.stmts (refl, tt)), flag_fits w l mode (j + 2) flag on),
          );
      temps = known_both w.names.structs (v.temps ++ switch_temps ty) body.temps (known_both w.names.structs v.temps (switch_temps ty) first.temps (refl, (refl, (refl, tt)))) inner.temps;
    }
  where
    two : (j : ℕ) → j + 1 + 1 ≡ j + 2
    two j = omega arith

    three : (j : ℕ) → j + 1 + 1 + 1 ≡ j + 3
    three j = omega arith

    fewer : (d c m : ℕ) → d ≤ c → c ≤ m → m ≤ few_nodes → d ≤ 0x7fff_ffff
    fewer d c m h k i = omega (arith, h, k, i)

    least : (c m : ℕ) → c ≤ m → m ≤ few_nodes → 0 + c ≤ 0x7fff_ffff
    least c m h k = omega (arith, h, k)

-- ---- choices and returns

chosen_fits : (w : Setting) (l : Bool) (n : ℕ) (ty : VarTy) (v : Lowered) (a d : Effects) → is_scalar (Some ty) ≡ true → (Stand w.variables n v.temps → LoweredFits w l ty v) → (Stand w.variables (past n v.temps) a.temps → EffectsFit w l a.stmts a.temps) →
    (Stand w.variables (past (past n v.temps) a.temps) d.temps → EffectsFit w l d.stmts d.temps) → Stand w.variables n (chosen v a d).temps → EffectsFit w l (chosen v a d).stmts (chosen v a d).temps
chosen_fits w l n ty v a d scalar h i j stand =
    let all = stand_three w.variables n v.temps a.temps d.temps stand in
    let test = h (stand_first w.variables n v.temps (a.temps ++ d.temps) all) in
    let rest = stand_rest w.variables n v.temps (a.temps ++ d.temps) all in
    let yes = i (stand_first w.variables (past n v.temps) a.temps d.temps rest) in
    let no = j (stand_rest w.variables (past n v.temps) a.temps d.temps rest) in
    record {
      stmts = fit_both (scope w) l v.stmts (choose v.value (stmt_trees a.stmts) (stmt_trees d.stmts) ∷ []) test.stmts (choose_fits w l ty v.value a.stmts d.stmts test.value scalar yes.stmts no.stmts, tt);
      temps = known_both w.names.structs (v.temps ++ a.temps) d.temps (known_both w.names.structs v.temps a.temps test.temps yes.temps) no.temps;
    }

pub integer_result : (o : Option VarTy) (r : Option IntType) → both_int (integer_of o) r ≡ true → (z : IntType) × (o ≡ Some (Int z))
integer_result (Some (Int a)) r h = (a, refl)
integer_result None r h = false_not_true h
integer_result (Some (Struct n)) r h = false_not_true h
integer_result (Some (Array e n)) r h = false_not_true h
integer_result (Some (Pointer e f)) r h = false_not_true h

returned_fits : (w : Setting) (l : Bool) (n : ℕ) (a : t.ExprTree) (v : Lowered) → both_int (integer_of (ty_of a)) w.result ≡ true → (is_struct (ty_of a) ≡ false → LoweredFits w l (x.type_of a) v) → EffectsFit w l (returned v).stmts (returned v).temps
returned_fits w l n a v rule h =
    let o = integer_result (ty_of a) w.result rule in
    let y = h (subst (λ z. is_struct z ≡ false) (sym o.1) refl) in
    let value = subst (λ z. ValueFits (context w) z v.value) (type_is a (Int o.0) o.1) y.value in
    let result : both_int (integer_of (Some (type_of (context w) v.value))) w.result ≡ true =
    subst (λ z. both_int (integer_of (Some z)) w.result ≡ true) (sym (stands_int (type_of (context w) v.value) o.0 value.type)) (subst (λ z. both_int (integer_of z) w.result ≡ true) o.1 rule) in
    record {
      stmts = fit_both (scope w) l v.stmts (give_back (Some v.value) ∷ []) y.stmts (both_hold (expr_fits (context w) v.value) (both_int (integer_of (Some (type_of (context w) v.value))) w.result) value.fits result, tt);
      temps = y.temps;
    }

-- ---- bounds on sizes

one_less : (m : ℕ) → 1 + m ≤ few_nodes → m ≤ few_nodes
one_less m h = omega (arith, h)

left_less : (a d : ℕ) → a + d ≤ few_nodes → a ≤ few_nodes
left_less a d h = omega (arith, h)

right_less : (a d : ℕ) → a + d ≤ few_nodes → d ≤ few_nodes
right_less a d h = omega (arith, h)

zero_plus : (m : ℕ) → m ≤ few_nodes → 0 + m ≤ few_nodes
zero_plus m h = omega (arith, h)

small : (m a d : ℕ) → m + (1 + (a + d)) ≤ few_nodes → m ≤ 0x7fff_ffff
small m a d h = omega (arith, h)

inner_less : (m a d : ℕ) → m + (1 + (a + d)) ≤ few_nodes → a ≤ few_nodes
inner_less m a d h = omega (arith, h)

next_less : (m a d : ℕ) → m + (1 + (a + d)) ≤ few_nodes → m + 1 + d ≤ few_nodes
next_less m a d h = omega (arith, h)

-- ---- by induction

-- a break stands only in loops of the code
abbrev pub Breaks : Bool → Bool → Type 0
Breaks out l = out ≡ true → l ≡ true

mutual
  pub statement_lowers : (y : BodyTree) (w : Setting) (exprs : List t.ExprTree) (out again l : Bool) (mode : Onward) (n : ℕ) → Agrees w → is_sound (tests w exprs) out again y ≡ true → Breaks out l → Fit (scope w) l (onwards mode) → body_nodes y ≤ few_nodes →
      Stand w.variables n (statement_in (code w exprs) y mode n).temps → EffectsFit w l (statement_in (code w exprs) y mode n).stmts (statement_in (code w exprs) y mode n).temps
  statement_lowers (b.block at ys) w exprs out again l mode n g h br on few stand = all_lower ys w exprs out again l mode n g h br on (one_less (bodies_nodes ys) few) stand
  statement_lowers (b.nothing at) w exprs out again l mode n g h br on few stand = nothing_lowers w l
  statement_lowers (b.evaluate at e) w exprs out again l mode n g h br on few stand = dropped_lowers w exprs l e n g h stand
  statement_lowers (b.declare d) w exprs out again l mode n g h br on few stand = declared_lowers w exprs l d.declarators n g h stand
  statement_lowers (b.choose at e y o) w exprs out again l mode n g h br on few stand =
      let v = value_in (source w.names) (outermost (code w exprs) e) n in
      let first = statement_in (code w exprs) y mode (past n v.temps) in
      let cond = both_hold_first (s.expr_fits (tests w exprs) is_scalar e) (is_sound (tests w exprs) out again y && else_sound (tests w exprs) out again o) h in
      let arms = both_hold_second (s.expr_fits (tests w exprs) is_scalar e) (is_sound (tests w exprs) out again y && else_sound (tests w exprs) out again o) h in
      let less = one_less (body_nodes y + else_nodes o) few in
      chosen_fits w l n (x.type_of (outermost (code w exprs) e)) v first (otherwise_in (code w exprs) o mode (past (past n v.temps) first.temps)) (scalar_own (outermost (code w exprs) e) (found w.names exprs is_scalar e.0 cond).1)
      (λ st. (condition_lowers w exprs l e n g cond st).0)
      (λ st. statement_lowers y w exprs out again l mode (past n v.temps) g (both_hold_first (is_sound (tests w exprs) out again y) (else_sound (tests w exprs) out again o) arms) br on (left_less (body_nodes y) (else_nodes o) less) st)
      (λ st. else_lowers o w exprs out again l mode (past (past n v.temps) first.temps) g (both_hold_second (is_sound (tests w exprs) out again y) (else_sound (tests w exprs) out again o) arms) br on (right_less (body_nodes y) (else_nodes o) less) st) stand
  statement_lowers (b.while_true at e y) w exprs out again l mode n g h br on few stand =
      let test = tested (code w exprs) (Some e) n in
      let body = statement_in (code w exprs) y to_head (past n test.temps) in
      looped_fits w l at (followed test body) (followed_fits w true n test body
      (λ st. tested_lowers w exprs (Some e) n g (both_hold_first (s.expr_fits (tests w exprs) is_scalar e) (is_sound (tests w exprs) true true y) h) st)
      (λ st. statement_lowers y w exprs true true true to_head (past n test.temps) g (both_hold_second (s.expr_fits (tests w exprs) is_scalar e) (is_sound (tests w exprs) true true y) h) (λ e. e) (refl, tt) (one_less (body_nodes y) few) st) stand)
  statement_lowers (b.do_while at y e) w exprs out again l mode n g h br on few stand =
      let test = tested (code w exprs) (Some e) (n + 1) in
      let body = statement_in (code w exprs) y to_head (past (n + 1) test.temps) in
      first_told_fits w l n (looped at (followed (on_the_way_back n test) body)) stand.0 (looped_fits w l at (followed (on_the_way_back n test) body) (followed_fits w true (n + 1) (on_the_way_back n test) body
      (λ st. way_back_fits w n test stand.0 (tested_lowers w exprs (Some e) (n + 1) g (both_hold_second (is_sound (tests w exprs) true true y) (s.expr_fits (tests w exprs) is_scalar e) h) st))
      (λ st. statement_lowers y w exprs true true true to_head (past (n + 1) test.temps) g (both_hold_first (is_sound (tests w exprs) true true y) (s.expr_fits (tests w exprs) is_scalar e) h) (λ e. e) (refl, tt) (one_less (body_nodes y) few) st) stand.1))
  statement_lowers (b.for_each at d test None y) w exprs out again l mode n g h br on few stand =
      let first = begun (code w exprs) d n in
      let k = past n first.temps in
      let cond = tested (code w exprs) test k in
      let body = statement_in (code w exprs) y to_head (past k cond.temps) in
      let rest = both_hold_second (for_init_fits (tests w exprs) d) (option_fits (tests w exprs) is_scalar test && (true && is_sound (tests w exprs) true true y)) h in
      followed_fits w l n first (looped at (followed cond body))
      (λ st. begun_lowers w exprs l d n g (both_hold_first (for_init_fits (tests w exprs) d) (option_fits (tests w exprs) is_scalar test && (true && is_sound (tests w exprs) true true y)) h) st)
      (λ st. looped_fits w l at (followed cond body) (followed_fits w true k cond body
      (λ st1. tested_lowers w exprs test k g (both_hold_first (option_fits (tests w exprs) is_scalar test) (true && is_sound (tests w exprs) true true y) rest) st1)
      (λ st1. statement_lowers y w exprs true true true to_head (past k cond.temps) g (both_hold_second (option_fits (tests w exprs) is_scalar test) (true && is_sound (tests w exprs) true true y) rest) (λ e. e) (refl, tt) (right_less (for_init_nodes d) (body_nodes y) (one_less (for_init_nodes d + body_nodes y) few)) st1) st)) stand
  statement_lowers (b.for_each at d test (Some step) y) w exprs out again l mode n g h br on few stand =
      let first = begun (code w exprs) d n in
      let k = past n first.temps in
      let back = stepped (code w exprs) (Some step) (k + 1) in
      let cond = tested (code w exprs) test (past (k + 1) back.temps) in
      let body = statement_in (code w exprs) y to_head (past (past (k + 1) back.temps) cond.temps) in
      let rest = both_hold_second (for_init_fits (tests w exprs) d) (option_fits (tests w exprs) is_scalar test && (s.expr_fits (tests w exprs) any_type step && is_sound (tests w exprs) true true y)) h in
      let last = both_hold_second (option_fits (tests w exprs) is_scalar test) (s.expr_fits (tests w exprs) any_type step && is_sound (tests w exprs) true true y) rest in
      followed_fits w l n first (first_told k (looped at (followed (on_the_way_back k back) (followed cond body))))
      (λ st. begun_lowers w exprs l d n g (both_hold_first (for_init_fits (tests w exprs) d) (option_fits (tests w exprs) is_scalar test && (s.expr_fits (tests w exprs) any_type step && is_sound (tests w exprs) true true y)) h) st)
      (λ st. first_told_fits w l k (looped at (followed (on_the_way_back k back) (followed cond body))) st.0 (looped_fits w l at (followed (on_the_way_back k back) (followed cond body))
      (followed_fits w true (k + 1) (on_the_way_back k back) (followed cond body)
      (λ st1. way_back_fits w k back st.0 (dropped_lowers w exprs true step (k + 1) g (both_hold_first (s.expr_fits (tests w exprs) any_type step) (is_sound (tests w exprs) true true y) last) st1))
      (λ st1. followed_fits w true (past (k + 1) back.temps) cond body
      (λ st2. tested_lowers w exprs test (past (k + 1) back.temps) g (both_hold_first (option_fits (tests w exprs) is_scalar test) (s.expr_fits (tests w exprs) any_type step && is_sound (tests w exprs) true true y) rest) st2)
      (λ st2. statement_lowers y w exprs true true true to_head (past (past (k + 1) back.temps) cond.temps) g (both_hold_second (s.expr_fits (tests w exprs) any_type step) (is_sound (tests w exprs) true true y) last) (λ e. e) (refl, tt)
      (right_less (for_init_nodes d) (body_nodes y) (one_less (for_init_nodes d + body_nodes y) few)) st2) st1) st.1))) stand
  statement_lowers (b.give_back at None) w exprs out again l mode n g h br on few stand = record { stmts = (h, tt); temps = tt }
  statement_lowers (b.give_back at (Some e)) w exprs out again l mode n g h br on few stand =
      let f = found w.names exprs (λ z. both_int (integer_of z) w.result) e.0 h in
      returned_fits w l n (outermost (code w exprs) e) (value_in (source w.names) (outermost (code w exprs) e) n) f.1 (λ ns. value_lowers (outermost (code w exprs) e) w l n g f.0 ns stand)
  statement_lowers (b.stop_loop at) w exprs out again l mode n g h br on few stand = record { stmts = (br h, tt); temps = tt }
  statement_lowers (b.next_turn at) w exprs out again l mode n g h br on few stand = record { stmts = on; temps = tt }
  statement_lowers (b.switch at e ty ss) w exprs out again l mode n g h br on few stand =
      let a = outermost (code w exprs) e in
      let v = value_in (source w.names) a n in
      let k = past n v.temps in
      let f = found w.names exprs (promotes_to ty) e.0 (both_hold_first (s.expr_fits (tests w exprs) (promotes_to ty) e) (labels_fit ty (labels_of ss) && sections_sound (tests w exprs) again ss) h) in
      let rest = both_hold_second (s.expr_fits (tests w exprs) (promotes_to ty) e) (labels_fit ty (labels_of ss) && sections_sound (tests w exprs) again ss) h in
      let labels = both_hold_first (list_all (label_fits ty) (labels_of ss)) (labels_distinct (labels_of ss)) (both_hold_first (labels_fit ty (labels_of ss)) (sections_sound (tests w exprs) again ss) rest) in
      let less = one_less (section_nodes ss) few in
      switched_fits w l at ty a n mode ss v (sections_in (code w exprs) at ss (inside mode (k + 2)) k 0 (k + 3)) f.1 labels less on (λ ns st. value_lowers a w l n g f.0 ns st)
      (λ one two st. sections_lower ss w exprs again (inside mode (k + 2)) at k 0 (k + 3) g (both_hold_second (labels_fit ty (labels_of ss)) (sections_sound (tests w exprs) again ss) rest) (inside_fits w mode (k + 2) two) one (zero_plus (section_nodes ss) less) st) stand

  else_lowers : (o : ElseTree) (w : Setting) (exprs : List t.ExprTree) (out again l : Bool) (mode : Onward) (n : ℕ) → Agrees w → else_sound (tests w exprs) out again o ≡ true → Breaks out l → Fit (scope w) l (onwards mode) → else_nodes o ≤ few_nodes →
      Stand w.variables n (otherwise_in (code w exprs) o mode n).temps → EffectsFit w l (otherwise_in (code w exprs) o mode n).stmts (otherwise_in (code w exprs) o mode n).temps
  else_lowers no_else w exprs out again l mode n g h br on few stand = nothing_lowers w l
  else_lowers (otherwise y) w exprs out again l mode n g h br on few stand = statement_lowers y w exprs out again l mode n g h br on few stand

  all_lower : (ys : BodyTrees) (w : Setting) (exprs : List t.ExprTree) (out again l : Bool) (mode : Onward) (n : ℕ) → Agrees w → all_sound (tests w exprs) out again ys ≡ true → Breaks out l → Fit (scope w) l (onwards mode) → bodies_nodes ys ≤ few_nodes →
      Stand w.variables n (all_in (code w exprs) ys mode n).temps → EffectsFit w l (all_in (code w exprs) ys mode n).stmts (all_in (code w exprs) ys mode n).temps
  all_lower no_bodies w exprs out again l mode n g h br on few stand = nothing_lowers w l
  all_lower (body_and y rest) w exprs out again l mode n g h br on few stand =
      let first = statement_in (code w exprs) y mode n in
      followed_fits w l n first (all_in (code w exprs) rest mode (past n first.temps))
      (λ st. statement_lowers y w exprs out again l mode n g (both_hold_first (is_sound (tests w exprs) out again y) (all_sound (tests w exprs) out again rest) h) br on (left_less (body_nodes y) (bodies_nodes rest) few) st)
      (λ st. all_lower rest w exprs out again l mode (past n first.temps) g (both_hold_second (is_sound (tests w exprs) out again y) (all_sound (tests w exprs) out again rest) h) br on (right_less (body_nodes y) (bodies_nodes rest) few) st) stand

  sections_lower : (ss : SectionTrees) (w : Setting) (exprs : List t.ExprTree) (again : Bool) (mode : Onward) (at : Span) (k m n : ℕ) → Agrees w → sections_sound (tests w exprs) again ss ≡ true → Fit (scope w) true (onwards mode) → slice_get w.variables (k + 1) ≡ Some int → m + section_nodes ss ≤ few_nodes →
      Stand w.variables n (sections_in (code w exprs) at ss mode k m n).temps → EffectsFit w true (sections_in (code w exprs) at ss mode k m n).stmts (sections_in (code w exprs) at ss mode k m n).temps
  sections_lower no_sections w exprs again mode at k m n g h on own few stand = nothing_lowers w true
  sections_lower (section_and (section p label ys) rest) w exprs again mode at k m n g h on own few stand =
      let inner = all_in (code w exprs) ys mode n in
      followed_fits w true n (section_by at k m inner) (sections_in (code w exprs) at rest mode k (m + 1) (past n inner.temps))
      (λ st. section_fits w at k m inner own (small m (bodies_nodes ys) (section_nodes rest) few)
      (all_lower ys w exprs true again true mode n g (both_hold_first (all_sound (tests w exprs) true again ys) (sections_sound (tests w exprs) again rest) h) (λ e. e) on (inner_less m (bodies_nodes ys) (section_nodes rest) few) st))
      (λ st. sections_lower rest w exprs again mode at k (m + 1) (past n inner.temps) g (both_hold_second (all_sound (tests w exprs) true again ys) (sections_sound (tests w exprs) again rest) h) on own (next_less m (bodies_nodes ys) (section_nodes rest) few) st) stand
