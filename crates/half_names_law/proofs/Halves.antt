-- The walk over a whole sound half.
use Rattle.std.proofs.Common.{◌≡◌, ◌∙◌, ◌≤◌, ◌+◌, ◌^◌, sym, ap, refl, subst, ℕ, Bool, true, false, [], length, map, take, drop, Option, Some, None, arith}
use Rattle.std.specs.Prelude.{◌&&◌, ◌||◌, nat_le, not, is_some, slice_get}
use Rattle.std.specs.List.{list_all}
use Rattle.std.proofs.lemmas.Bool.Decides.{nat_tests}
use Rattle.std.proofs.lemmas.List.{length-take-le}
use Rattle.pt_base.proofs.Booleans.{and_parts}
use Rattle.pt_base.proofs.Members.{all_true_at}
use Rattle.pt_tree.specs.declared.signature.Signature.{Signature}
use Rattle.typed_tree.specs.WellFormed.{are_rising, structs_sound, params_lead}
use Rattle.check_declarations.specs.Structs.{Structs}
use Rattle.pt_core.specs.CodeTree.{GlobalTree, FunctionTree, ProgramTree}
use Rattle.pt_core.specs.WellFormed.{are_in_order, global_fits, are_small, signature_fits, variable_fits, signature_at, counts_fit, function_by, function_fits, is_sound, scope_of, called_signature, context_of}
use Rattle.pt_core.specs.WellFormedStatement.{stmts_fit}
use Rattle.half_meaning_law.specs.CForms.{are_said}
use Rattle.half_meaning_law.specs.Relations.{is_pointer}
use Rattle.half_names_law.specs.Declarable.{Declarable, signature_marked, function_marked, parameters_marked}
use Rattle.half_names_law.specs.Standing.{Marks, all_said}
use Rattle.half_names_law.proofs.TextNames.{locals_differ}
use Rattle.half_names_law.proofs.Numbers.{lookup_place}
use Rattle.half_names_law.proofs.Table.{IsTable, table_to, table_grown}
use Rattle.half_names_law.proofs.Names.{text_name, functions_apart, globals_apart}
use Rattle.half_names_law.proofs.Known.{plain_none}
use Rattle.half_names_law.proofs.Parts.{function_there, own_long, own_types, enough, few_params}
use Rattle.half_names_law.proofs.Premises.{implied, Whole, MarksSay, names_differ, frame_less, locals_fit, definition_params, dropped_all}
use Rattle.half_names_law.proofs.Bodies.{FunctionFits, HalfFits}
use Rattle.half_names_law.proofs.Functions.{FunctionsFit}

-- ---- what soundness says

pub record Sound (monitor : Bool) (p : ProgramTree) : Type 0 where
  pub order : (are_rising 0 (map (λ s. s.0) p.signatures) ≡ true) × (are_rising 0 (map (λ f. f.id) p.functions) ≡ true) × (are_rising 0 (map (λ g. g.id) p.globals) ≡ true)
  pub structs : structs_sound p.structs 0 p.structs ≡ true
  pub globals : list_all (global_fits p.structs) p.globals ≡ true
  pub small : are_small p.globals ≡ true
  pub signatures : list_all (λ s. signature_fits p.structs s.1) p.signatures ≡ true
  pub functions : list_all (function_fits monitor p) p.functions ≡ true

pub soundness : (monitor : Bool) (p : ProgramTree) → is_sound monitor p ≡ true → Sound monitor p
soundness monitor p h =
    let first = and_parts (are_in_order p && structs_sound p.structs 0 p.structs) _ h in
    let listed = and_parts (are_in_order p) (structs_sound p.structs 0 p.structs) first.0 in
    let order = and_parts (are_rising 0 (map (λ s. s.0) p.signatures)) (are_rising 0 (map (λ f. f.id) p.functions) && are_rising 0 (map (λ g. g.id) p.globals)) listed.0 in
    let order' = and_parts (are_rising 0 (map (λ f. f.id) p.functions)) (are_rising 0 (map (λ g. g.id) p.globals)) order.1 in
    let second = and_parts (list_all (global_fits p.structs) p.globals && are_small p.globals) _ first.1 in
    let objects = and_parts (list_all (global_fits p.structs) p.globals) (are_small p.globals) second.0 in
    let third = and_parts (list_all (λ s. signature_fits p.structs s.1) p.signatures && list_all (function_fits monitor p) p.functions) _ second.1 in
    let rest = and_parts (list_all (λ s. signature_fits p.structs s.1) p.signatures) (list_all (function_fits monitor p) p.functions) third.0 in
    record { order = (order.0, order'.0, order'.1); structs = listed.1; globals = objects.0; small = objects.1; signatures = rest.0; functions = rest.1 }

-- ---- the table of all structs

abbrev pub half_structs : ProgramTree → Structs
half_structs p = table_to p.structs [] 0 (length p.structs)

pub no_table : (p : ProgramTree) → IsTable [] p.structs 0
no_table p = record { long = refl; entries = λ j x h. cc; cells = λ m low. absurd (omega (arith, low)); sound = tt {0} }

pub whole_table : (monitor : Bool) (p : ProgramTree) → Sound monitor p → Declarable p → Whole (half_structs p) p.structs
whole_table monitor p sound d =
    let names = names_differ p.structs d.structs d.fields in
    let same : 0 + length p.structs ≡ length p.structs = omega arith in
    record { sound = sound.structs; table = subst (λ n. IsTable (half_structs p) p.structs n) same (table_grown p.structs [] 0 (length p.structs) sound.structs (omega arith) names (no_table p)); differ = names.structs }

pub half_fits : (monitor : Bool) (p : ProgramTree) → is_sound monitor p ≡ true → Declarable p → HalfFits monitor p (half_structs p)
half_fits monitor p h d =
    let sound = soundness monitor p h in
    let whole = whole_table monitor p sound d in
    record {
      sound = h;
      apart = record { structs = names_differ p.structs d.structs d.fields; functions = functions_apart p.signatures d.functions; globals = globals_apart p.globals sound.order.2 d.globals };
      table = whole.table;
      structs_fit = sound.structs;
      plain = λ k g there. plain_global g (all_true_at (global_fits p.structs) p.globals k g sound.globals there);
      numbers = sound.order.2;
      differ = locals_differ (2 ^ 64) (omega arith);
    }
  where
    plain_global : (g : GlobalTree) → global_fits p.structs g ≡ true → is_pointer g.var.ty ≡ false
    plain_global g fits = plain_none (length p.structs) g.var.ty (and_parts _ _ (and_parts _ _ fits).0).0

-- ---- functions

pub signature_there : (monitor : Bool) (p : ProgramTree) (f : FunctionTree) → function_fits monitor p f ≡ true → (s : Signature) × (signature_at p f.id ≡ Some s)
signature_there monitor p f h = go (signature_at p f.id) refl h
  where
    go : (o : Option Signature) → signature_at p f.id ≡ o → function_by monitor p f o ≡ true → (s : Signature) × (signature_at p f.id ≡ Some s)
    go None is e = cc
    go (Some s) is e = (s, is)

pub function_fit : (marks : Marks) (monitor : Bool) (p : ProgramTree) (n : ℕ) (f : FunctionTree) (s : Signature) → is_sound monitor p ≡ true → Declarable p → all_said monitor p ≡ true → MarksSay marks p → slice_get p.functions n ≡ Some f → signature_at p f.id ≡ Some s
    → FunctionFits marks monitor p (half_structs p) f s
function_fit marks monitor p n f s h d said say there named =
    let sound = soundness monitor p h in
    let whole = whole_table monitor p sound d in
    let place = lookup_place p.signatures f.id s named in
    let fits : function_by monitor p f (Some s) ≡ true = ap (function_by monitor p f) (sym named) ∙ all_true_at (function_fits monitor p) p.functions n f sound.functions there in
    let first = and_parts (not s.host && (counts_fit monitor f.params (length s.params) && params_lead (take f.params s.params) f.vars)) (list_all (variable_fits p.structs) f.vars && stmts_fit (scope_of monitor p f s) false f.body) fits in
    let head = and_parts (not s.host) (counts_fit monitor f.params (length s.params) && params_lead (take f.params s.params) f.vars) first.0 in
    let lead = and_parts (counts_fit monitor f.params (length s.params)) (params_lead (take f.params s.params) f.vars) head.1 in
    let vars = and_parts (list_all (variable_fits p.structs) f.vars) (stmts_fit (scope_of monitor p f s) false f.body) first.1 in
    let own = all_true_at (λ x. signature_fits p.structs x.1) p.signatures place.place (f.id, s) sound.signatures place.there in
    let few = at_most (length s.params) (and_parts (nat_le (length s.params) 8) _ (and_parts _ _ own).0).0 in
    let plain = ap (parameters_marked (take f.params f.vars)) (sym named) ∙ all_true_at (function_marked p) p.functions n f d.function_marks there in
    let found = function_there 0 p.functions n f sound.order.1 there in
    let long = enough monitor f s lead.0 lead.1 in
    let signature_marks = all_true_at (λ x. signature_marked x.1) p.signatures place.place (f.id, s) d.signature_marks place.there in
    let same = say.privileged place.place (f.id, s) place.there in
    record {
      named = named;
      found = found;
      declassify = λ e. same ∙ implied s.declassify s.privileged (and_parts (not s.declassify || s.privileged) _ signature_marks).0 e;
      parameters = definition_params (marks (text_name (f.id, s))) (half_structs p) p.structs s (take f.params s.params) f.params f.vars (length-take-le f.params s.params (own_long monitor f.params (length s.params) lead.0)) whole same
          (say.bodies place.place (f.id, s) place.there (ap is_some found)) lead.1 vars.0 plain;
      few = few_params monitor f s lead.0 few;
      locals = locals_fit (half_structs p) p.structs (drop f.params f.vars) whole (dropped_all (variable_fits p.structs) f.params f.vars vars.0);
      enough = long;
      small = at_most_64 (length f.vars) (all_true_at (λ g. nat_le (length g.vars) (2 ^ 64)) p.functions n f d.variables there);
      types = own_types monitor f s head.0 lead.0 lead.1;
      cells = frame_less (half_structs p) p.structs f.vars whole vars.0;
      said = all_true_at (λ g. are_said (context_of p g.vars) (called_signature monitor p) g.body) p.functions n f said there;
    }
  where
    at_most : (k : ℕ) → nat_le k 8 ≡ true → k ≤ 8
    at_most k h = grind (arith, nat_tests, h)

    at_most_64 : (k : ℕ) → nat_le k (2 ^ 64) ≡ true → k ≤ 2 ^ 64
    at_most_64 k h = grind (arith, nat_tests, h)

pub functions_fit : (marks : Marks) (monitor : Bool) (p : ProgramTree) → is_sound monitor p ≡ true → Declarable p → all_said monitor p ≡ true → MarksSay marks p → FunctionsFit marks monitor p (half_structs p)
functions_fit marks monitor p h d said say n f there =
    let s = signature_there monitor p f (all_true_at (function_fits monitor p) p.functions n f (soundness monitor p h).functions there) in
    record { signature = s.0; fits = function_fit marks monitor p n f s.0 h d said say there s.1 }
