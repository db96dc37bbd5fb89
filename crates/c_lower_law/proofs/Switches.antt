-- Switches: the chosen section, the sections from it on, and the flag behind them.
use Rattle.std.proofs.Common.{◌≡◌, ◌∙◌, ◌≤◌, ◌<◌, ◌⊎◌, inl, inr, ℕ, zero, suc, ◌+◌, ◌-◌, ◌^◌, ℤ, pos, nat_eq, refl, ap, sym, subst, arith, Bool, true, false, Option, Some, None, List, [], ◌∷◌, ◌++◌, length, append_assoc, Result, Ok, Err, if◌then◌else◌}
use Rattle.std.specs.Prelude.{IsTrue, ◌&&◌, ◌||◌, not, int_le, slice_get, slice_set, slice_index_or, unwrap_or, option_map}
use Rattle.std.specs.List.{list_all, list_any}
use Rattle.std.specs.Ordering.{int_eq}
use Rattle.std.proofs.lemmas.Bool.Decides.{nat_tests, Decides-int_eq}
use Rattle.std.proofs.lemmas.Int.{ints}
use Rattle.pt_base.specs.declared.int_type.IntType.{IntType}
use Rattle.pt_base.specs.declared.int_type.IntType.TheVariants as i
use Rattle.pt_base.specs.declared.span.Span.{Span}
use Rattle.pt_base.proofs.Booleans.{both_hold_first, both_hold_second, false_not_true}
use Rattle.pt_int.specs.declared.operator.BinOp.TheVariants.{Le, Eq}
use Rattle.pt_int.specs.Conversion.{conv, is_in_range}
use Rattle.pt_int.specs.Operator.{binary_of, truth}
use Rattle.pt_int.proofs.Conversions.{conv-same, conv-in_range}
use Rattle.runs.specs.State.{gives, trapped, spent, ◌>>=◌, take_turn}
use Rattle.typed_tree.specs.declared.types.VarTy.{VarTy}
use Rattle.typed_tree.specs.declared.types.VarTy.TheVariants as ty
use Rattle.typed_tree.specs.declared.statement.TypedLabel.{TypedLabel}
use Rattle.typed_tree.specs.declared.statement.TypedLabel.TheVariants.{Case, Default}
use Rattle.typed_tree.specs.ExpressionTree.{ExprTree, typed}
use Rattle.typed_tree.specs.StatementTree.{SectionTree, section, SectionTrees, no_sections, section_and}
use Rattle.typed_tree.specs.TypeTests.{same_int}
use Rattle.typed_tree.specs.WellFormedExpression.{ty_of}
use Rattle.typed_tree.specs.WellFormedStatement.{promotes_to, labels_of, same_label, labels_distinct, label_fits, labels_fit}
use Rattle.block_memory.specs.declared.cell.Cell as core
use Rattle.block_memory.specs.declared.cell.Cell.TheVariants.{Int}
use Rattle.block_memory.specs.declared.cell.BlockName.TheVariants.{Local}
use Rattle.block_memory.specs.Block as b
use Rattle.block_memory.specs.Block.{with_cell}
use Rattle.block_memory.specs.Blocks.{Blocks}
use Rattle.source_meaning.specs.Memory as mem
use Rattle.source_meaning.specs.State.{State, Outcome}
use Rattle.source_meaning.specs.Values.{Value, holds, whole, nothing, number_of, cell_of}
use Rattle.source_meaning.specs.Expressions.{value_of, type_of}
use Rattle.source_meaning.specs.Statements as src
use Rattle.source_meaning.specs.Statements.{has_label, is_default, label_of, section_with, count_of, past_switch}
use Rattle.source_soundness.specs.Worlds.{IsInteger}
use Rattle.pt_core.specs.CodeTree as t
use Rattle.pt_core.specs.CodeTree.{StmtTree, constant, binary, choose, repeat, break_out, stmt_trees}
use Rattle.pt_core.specs.Types as types
use Rattle.pt_core.specs.Values as v
use Rattle.pt_core.specs.Values.{Stop, ◌>>?◌, at_span, numbered, right_operand, converted, is_type, written}
use Rattle.pt_core.specs.Statements as c
use Rattle.pt_core.specs.Statements.{goes_on, broke, continues, returned, after_flow, do_all, with_blocks}
use Rattle.lowering.specs.Lowered.{Temp, Effects, Lowered, past, temp, hold, int, counting}
use Rattle.lowering.specs.Operators.{as_int}
use Rattle.lowering.specs.Expressions.{is_struct, value_in}
use Rattle.lowering.specs.Statements as l
use Rattle.lowering.specs.Statements.{Onward, nowhere, to_head, past_flag, number, onwards, inside, behind_switch, case_of, cases_from, otherwise_of, switch_temps, switched}
use Rattle.c_lower_law.proofs.Relations.{Scene, core_cell, context_of, frame_of, scope_of, HasTemps, Kept, Alike, Same, After, below, all}
use Rattle.c_lower_law.proofs.Expressions.{run_all, cell_asked, Gives, IsValue, SceneFits}
use Rattle.c_lower_law.proofs.Statements.{is_flag, but_flag, FlagIs, Continues, SameFlow, GivesFlow}
use Rattle.c_lower_law.proofs.Runs.{Stops, same_bind, same_weaken, run_append}
use Rattle.c_lower_law.proofs.Memories.{put_there, put_apart, kept_then, kept_less, kept_same, alike_temp}
use Rattle.c_lower_law.proofs.Held.{own_length, past_append, temps_first, temps_rest, Holds, with_temp, temp_given, temp_read, hold_then, hold_then_stops}
use Rattle.c_lower_law.proofs.Flows.{turn_same, alike_left, temp_kept, flag_kept, Runs, RunsWhere, flow_up, runs_then_where}
use Rattle.c_lower_law.proofs.Outermost.{Laws, Found, value_then, choose_yes, choose_no}

-- ---- numbers

int_turned : (x y : ℤ) → int_eq x y ≡ int_eq y x
int_turned x y = go (int_eq x y) (int_eq y x) refl refl
  where
    clash : {X : Type 0} → false ≡ true → X
    clash e = cc

    go : (a b : Bool) → int_eq x y ≡ a → int_eq y x ≡ b → a ≡ b
    go true true e f = refl
    go true false e f = clash (sym f ∙ (Decides-int_eq y x).1 (sym ((Decides-int_eq x y).0 e)))
    go false true e f = clash (sym e ∙ (Decides-int_eq x y).1 (sym ((Decides-int_eq y x).0 f)))
    go false false e f = refl

conv_small : (m : ℕ) → m ≤ 2 ^ 30 → conv i.Int (pos m) ≡ pos m
conv_small m h = conv-same i.Int (pos m) (omega (arith, ints, h), omega (arith, ints, h))

in_range : (u : IntType) (z : ℤ) → is_in_range u z ≡ true → conv u z ≡ z
in_range u z h = conv-same u z (grind (arith, ints), grind (arith, ints))

truth_holds : (a : Bool) → v.holds_in (Int (truth a)) ≡ a
truth_holds true = refl
truth_holds false = refl

-- ---- what is asked of the value and of the chosen section

eq_asked : (s : Scene) (u : IntType) (k : ℕ) (z y : ℤ) (sp : Span) (blocks : Blocks) → (blocks (Local s.frame.depth k)).cells ≡ Int y ∷ [] → cell_asked s (binary Eq u (temp k) (constant u z) sp) blocks ≡ Ok (Int (truth (int_eq (conv u y) (conv u z))))
unfolding binary_of
eq_asked s u k z y sp blocks is = ap (λ (r : Result core.Cell Stop). r >>? λ a. Ok (Int z) >>? λ w. numbered (at_span sp (binary_of Eq u (conv u (v.number_in a)) (right_operand Eq u w)))) (temp_read s k (Int y) blocks is)

pub le_asked : (s : Scene) (k m ch : ℕ) (sp : Span) (blocks : Blocks) → (blocks (Local s.frame.depth k)).cells ≡ Int (pos ch) ∷ [] → cell_asked s (binary Le i.Int (temp k) (number m) sp) blocks ≡ Ok (Int (truth (int_le (conv i.Int (pos ch)) (conv i.Int (pos m)))))
unfolding binary_of
le_asked s k m ch sp blocks is = ap (λ (r : Result core.Cell Stop). r >>? λ a. Ok (Int (pos m)) >>? λ w. numbered (at_span sp (binary_of Le i.Int (conv i.Int (v.number_in a)) (right_operand Le i.Int w)))) (temp_read s k (Int (pos ch)) blocks is)

pub le_tells : (ch m : ℕ) (t : Bool) → ch ≤ 2 ^ 30 → m ≤ 2 ^ 30 → int_le (pos ch) (pos m) ≡ t → v.holds_in (Int (truth (int_le (conv i.Int (pos ch)) (conv i.Int (pos m))))) ≡ t
le_tells ch m t small small' h = ap (λ (q : ℤ). v.holds_in (Int (truth (int_le q (conv i.Int (pos m)))))) (conv_small ch small) ∙ ap (λ (q : ℤ). v.holds_in (Int (truth (int_le (pos ch) q)))) (conv_small m small') ∙ truth_holds (int_le (pos ch) (pos m)) ∙ h

-- a number, held in the switch's type or in a lesser one
pub record HeldAs (s : Scene) (u : IntType) (z : ℤ) (e : t.ExprTree) (blocks : Blocks) : Type 0 where
  pub y : ℤ
  pub is : cell_asked s e blocks ≡ Ok (Int y)
  pub same : conv u y ≡ conv u z

pub as_held : (s : Scene) (from u : IntType) (z : ℤ) (e : t.ExprTree) (blocks : Blocks) → cell_asked s e blocks ≡ Ok (Int z) → HeldAs s u z (as_int (ty.Int from) u e) blocks
as_held s from u z e blocks is = go (same_int from u)
  where
    go : (a : Bool) → HeldAs s u z (if a then e else t.convert u e) blocks
    go true = record { y = z; is = is; same = refl }
    go false = record {
      y = conv u z;
      is = ap (λ (r : Result core.Cell Stop). r >>? λ a. Ok (converted (is_type (types.type_of (frame_of s).context e) u) u a)) is;
      same = conv-same u (conv u z) (conv-in_range u z);
    }

-- ---- the chosen section

-- what the cases leave of a number so far
abbrev pub picked : ℕ → SectionTrees → ℕ → ℤ → ℕ
picked m no_sections ch value = ch
picked m (section_and a rest) ch value = picked (m + 1) rest (if has_label (label_of a) value then m else ch) value

abbrev has : ℤ → TypedLabel → Bool
has value label = has_label label value

nothing_picked : (sections : SectionTrees) (m ch : ℕ) (value : ℤ) → section_with (has value) sections ≡ None → picked m sections ch value ≡ ch
nothing_picked no_sections m ch value h = refl
nothing_picked (section_and (section at label stmts) rest) m ch value h = go (has_label label value) h (λ e. nothing_picked rest (m + 1) ch value e)
  where
    go : (a : Bool) → (if a then Some 0 else option_map suc (section_with (has value) rest)) ≡ None → (section_with (has value) rest ≡ None → picked (m + 1) rest ch value ≡ ch) → picked (m + 1) rest (if a then m else ch) value ≡ ch
    go true e up = cc
    go false e up = up (under (section_with (has value) rest) e)
      where
        under : (o : Option ℕ) → option_map suc o ≡ None → o ≡ None
        under None e = refl
        under (Some j) e = cc

-- no other label has the value
alone : (rest : SectionTrees) (at : Span) (z value : ℤ) → int_eq z value ≡ true → list_any (same_label (Case at z)) (labels_of rest) ≡ false → section_with (has value) rest ≡ None
alone no_sections at z value h none = refl
alone (section_and (section at' (Default d) stmts) rest) at z value h none = ap (option_map suc) (alone rest at z value h none)
alone (section_and (section at' (Case d w) stmts) rest) at z value h none = go (int_eq z w) (int_eq w value) refl refl none (λ e. alone rest at z value h e)
  where
    clash : {X : Type 0} → false ≡ true → X
    clash e = cc

    go : (a o : Bool) → int_eq z w ≡ a → int_eq w value ≡ o → (a || list_any (same_label (Case at z)) (labels_of rest)) ≡ false → (list_any (same_label (Case at z)) (labels_of rest) ≡ false → section_with (has value) rest ≡ None) → (if o then Some 0 else option_map suc (section_with (has value) rest)) ≡ None
    go true o e f none up = cc
    go false true e f none up = clash (sym e ∙ (Decides-int_eq z w).1 ((Decides-int_eq z value).0 h ∙ sym ((Decides-int_eq w value).0 f)))
    go false false e f none up = ap (option_map suc) (up none)

picked_is : (sections : SectionTrees) (m ch : ℕ) (value : ℤ) → labels_distinct (labels_of sections) ≡ true → picked m sections ch value ≡ unwrap_or (option_map (λ j. m + j) (section_with (has value) sections)) ch
picked_is no_sections m ch value h = refl
picked_is (section_and (section at (Default d) stmts) rest) m ch value h =
    picked_is rest (m + 1) ch value (both_hold_second (not (list_any (same_label (Default d)) (labels_of rest))) (labels_distinct (labels_of rest)) h) ∙ ap (λ o. unwrap_or o ch) (further m (section_with (has value) rest))
  where
    further : (m : ℕ) (o : Option ℕ) → option_map (λ j. m + 1 + j) o ≡ option_map (λ j. m + j) (option_map suc o)
    further m None = refl
    further m (Some j) = ap Some (omega arith)
picked_is (section_and (section at (Case d z) stmts) rest) m ch value h = go (int_eq z value) refl (picked_is rest (m + 1) ch value (both_hold_second (not (list_any (same_label (Case d z)) (labels_of rest))) (labels_distinct (labels_of rest)) h))
  where
    further : (m : ℕ) (o : Option ℕ) → option_map (λ j. m + 1 + j) o ≡ option_map (λ j. m + j) (option_map suc o)
    further m None = refl
    further m (Some j) = ap Some (omega arith)

    single : list_any (same_label (Case d z)) (labels_of rest) ≡ false
    single = unless (list_any (same_label (Case d z)) (labels_of rest)) (both_hold_first (not (list_any (same_label (Case d z)) (labels_of rest))) (labels_distinct (labels_of rest)) h)
      where
        unless : (a : Bool) → not a ≡ true → a ≡ false
        unless true e = false_not_true e
        unless false e = refl

    go : (a : Bool) → int_eq z value ≡ a → picked (m + 1) rest ch value ≡ unwrap_or (option_map (λ j. m + 1 + j) (section_with (has value) rest)) ch → picked (m + 1) rest (if a then m else ch) value ≡ unwrap_or (option_map (λ j. m + j) (if a then Some 0 else option_map suc (section_with (has value) rest))) ch
    go true e up = nothing_picked rest (m + 1) m value (alone rest d z value e single) ∙ omega arith
    go false e up = up ∙ ap (λ o. unwrap_or o ch) (further m (section_with (has value) rest))

pub chosen_is : (sections : SectionTrees) (value : ℤ) → labels_distinct (labels_of sections) ≡ true → picked 0 sections (otherwise_of sections) value ≡ src.chosen sections value
chosen_is sections value h = picked_is sections 0 (otherwise_of sections) value h ∙ ap (λ o. unwrap_or o (otherwise_of sections)) (at_start (section_with (has value) sections))
  where
    at_start : (o : Option ℕ) → option_map (λ j. 0 + j) o ≡ o
    at_start None = refl
    at_start (Some j) = ap Some (omega arith)

-- it is one of them, or the one behind all
with_small : (is : TypedLabel → Bool) (sections : SectionTrees) (other : ℕ) → other ≤ count_of sections → unwrap_or (section_with is sections) other ≤ count_of sections
with_small is no_sections other h = h
with_small is (section_and a rest) other h = go (is (label_of a)) (section_with is rest) (λ least. with_small is rest least)
  where
    go : (f : Bool) (o : Option ℕ) → ((least : ℕ) → least ≤ count_of rest → unwrap_or o least ≤ count_of rest) → unwrap_or (if f then Some 0 else option_map suc o) other ≤ suc (count_of rest)
    go true o up = omega arith
    go false None up = h
    go false (Some j) up = let less = up 0 (omega arith) in omega (arith, less)

pub chosen_small : (sections : SectionTrees) (value : ℤ) → src.chosen sections value ≤ count_of sections
chosen_small sections value = with_small (has value) sections (otherwise_of sections) (with_small is_default sections (count_of sections) (omega arith))

-- ---- the cases

-- behind the cases
pub record Chosen (s : Scene) (k ch : ℕ) (y : ℤ) (stmts rest : List StmtTree) (st : State) (st' : c.State) : Type 0 where
  pub later : c.State
  pub runs : run_all s (stmts ++ rest) st' ≡ run_all s rest later
  pub alike : Alike s st later
  pub kept : Kept s (below k) st'.memory later.memory
  pub value : (later.memory (Local s.frame.depth k)).cells ≡ Int y ∷ []
  pub chosen : (later.memory (Local s.frame.depth (k + 1))).cells ≡ Int (pos ch) ∷ []

pub cases_run : (sections : SectionTrees) (s : Scene) (sp : Span) (u : IntType) (k m ch : ℕ) (y : ℤ) (rest : List StmtTree) (st : State) (st' : c.State) → SceneFits s → length s.names.vars ≤ k → slice_get s.core_variables (k + 1) ≡ Some int → list_all (label_fits u) (labels_of sections) ≡ true →
    Alike s st st' → (st'.memory (Local s.frame.depth k)).cells ≡ Int y ∷ [] → (st'.memory (Local s.frame.depth (k + 1))).cells ≡ Int (pos ch) ∷ [] → Chosen s k (picked m sections ch (conv u y)) y (cases_from sp u k m sections) rest st st'
cases_run no_sections s sp u k m ch y rest st st' fits from there ok al at_k at_ch = record { later = st'; runs = refl; alike = al; kept = kept_same s (below k) st'.memory; value = at_k; chosen = at_ch }
cases_run (section_and (section at (Default d) stmts) more) s sp u k m ch y rest st st' fits from there ok al at_k at_ch =
    cases_run more s sp u k (m + 1) ch y rest st st' fits from there (both_hold_second (label_fits u (Default d)) (list_all (label_fits u) (labels_of more)) ok) al at_k at_ch
cases_run (section_and (section at (Case d z) stmts) more) s sp u k m ch y rest st st' fits from there ok al at_k at_ch =
    go (int_eq z (conv u y)) refl (λ ch1 st1' al1 at_k1 at_ch1. cases_run more s sp u k (m + 1) ch1 y rest st st1' fits from there (both_hold_second (is_in_range u z) (list_all (label_fits u) (labels_of more)) ok) al1 at_k1 at_ch1)
  where
    same_test : int_eq (conv u y) (conv u z) ≡ int_eq z (conv u y)
    same_test = ap (λ (q : ℤ). int_eq (conv u y) q) (in_range u z (both_hold_first (is_in_range u z) (list_all (label_fits u) (labels_of more)) ok)) ∙ int_turned (conv u y) z

    go : (a : Bool) → int_eq z (conv u y) ≡ a →
        ((ch1 : ℕ) (st1' : c.State) → Alike s st st1' → (st1'.memory (Local s.frame.depth k)).cells ≡ Int y ∷ [] → (st1'.memory (Local s.frame.depth (k + 1))).cells ≡ Int (pos ch1) ∷ [] → Chosen s k (picked (m + 1) more ch1 (conv u y)) y (cases_from sp u k (m + 1) more) rest st st1') →
        Chosen s k (picked (m + 1) more (if a then m else ch) (conv u y)) y (case_of sp u k m (Case d z) ++ cases_from sp u k (m + 1) more) rest st st'
    go true e up =
        let given = temp_given s (k + 1) (Int (pos m)) int st st' fits (omega (arith, from)) there al in
        let h = up m (with_temp s (k + 1) (Int (pos m)) st') given.alike
        (temp_kept s (k + 1) k st'.memory (with_temp s (k + 1) (Int (pos m)) st').memory (Int y) fits given.kept from (omega arith) at_k) given.cell in
        record {
          later = h.later;
          runs = choose_yes s (binary Eq u (temp k) (constant u z) sp) (hold (k + 1) (number m) ∷ []) [] (cases_from sp u k (m + 1) more ++ rest) (Int (truth (int_eq (conv u y) (conv u z)))) st' (eq_asked s u k z y sp st'.memory at_k) (truth_holds (int_eq (conv u y) (conv u z)) ∙ same_test ∙ e)
              ∙ hold_then s (k + 1) (number m) (cases_from sp u k (m + 1) more ++ rest) (Int (pos m)) st' refl ∙ h.runs;
          alike = h.alike;
          kept = kept_then s (below (k + 1)) (below k) (below k) st'.memory (with_temp s (k + 1) (Int (pos m)) st').memory h.later.memory given.kept h.kept (λ j less. omega (arith, less)) (λ j less. less);
          value = h.value;
          chosen = h.chosen;
        }
    go false e up =
        let h = up ch st' al at_k at_ch in
        record {
          later = h.later;
          runs = choose_no s (binary Eq u (temp k) (constant u z) sp) (hold (k + 1) (number m) ∷ []) [] (cases_from sp u k (m + 1) more ++ rest) (Int (truth (int_eq (conv u y) (conv u z)))) st' (eq_asked s u k z y sp st'.memory at_k) (truth_holds (int_eq (conv u y) (conv u z)) ∙ same_test ∙ e)
              ∙ h.runs;
          alike = h.alike;
          kept = h.kept;
          value = h.value;
          chosen = h.chosen;
        }
