-- What comes back from a call that went away keeps the machine fine: handles are written where they may lie.
use Rattle.std.proofs.Common.{◌≡◌, ◌∙◌, ◌≤◌, ◌<◌, ℕ, zero, suc, ◌+◌, ◌-◌, ◌*◌, refl, ap, sym, subst, arith, inl, inr, ◌⊎◌, Bool, true, false, Option, None, Some, List, [], ◌∷◌, ◌++◌, if◌then◌else◌}
use Rattle.std.specs.Prelude.{IsTrue, pos, is_none, ◌&&◌, ◌||◌, not, slice_get, get_or, nat_eq, nat_le, length, is_some, option_map}
use Rattle.std.specs.Option.{option_map_or}
use Rattle.std.specs.List.{flat_map, list_all, list_any}
use Rattle.std.proofs.lemmas.Bool.Decides.{nat_tests}
use Rattle.pt_base.specs.declared.int_type.IntType.{IntType}
use Rattle.pt_base.proofs.Booleans.{and_true_second, both_hold, both_hold_first, both_hold_second, false_not_true, if_false, if_true}
use Rattle.pt_base.proofs.Lists.{append_nil_second}
use Rattle.pt_base.proofs.Members.{all_true_at}
use Rattle.pt_tree.specs.declared.signature.Elem.{Elem}
use Rattle.pt_tree.specs.declared.signature.Elem.TheVariants as e
use Rattle.pt_tree.specs.declared.signature.Param.{Param}
use Rattle.pt_tree.specs.declared.signature.ParamKind.{ParamKind}
use Rattle.pt_tree.specs.declared.signature.ParamKind.TheVariants as kind
use Rattle.pt_tree.specs.declared.signature.Signature.{Signature}
use Rattle.typed_tree.specs.declared.types.VarTy.TheVariants.{Pointer}
use Rattle.typed_tree.specs.declared.types.StructInfo.{StructInfo}
use Rattle.typed_tree.specs.Sizes.{sizes_of, elem_cells, cells_by}
use Rattle.typed_tree.specs.TypeTests.{same_type, same_bool, type_of_elem}
use Rattle.typed_tree.proofs.SameTypes.{equal_types}
use Rattle.typed_tree.specs.TypedTree.{TypedTree, FunctionTree}
use Rattle.typed_tree.specs.WellFormed.{is_well_formed, is_integer_kind, is_integer_param, function_sound, body_sound, variable_sound, params_lead, is_variable_type, is_small}
use Rattle.typed_tree.specs.WellFormedExpression.{is_main, is_elem, param_type}
use Rattle.typed_tree.specs.declared.variable.Var.{Var}
use Rattle.typed_tree.specs.StatementTree.{BodyTree}
use Rattle.typed_tree.proofs.WellFormedLemmas.{Facts}
use Rattle.host_models.specs.Mixed.{is_mixed}
use Rattle.block_memory.specs.declared.cell.Cell.{Cell}
use Rattle.block_memory.specs.declared.cell.Cell.TheVariants as cell
use Rattle.block_memory.specs.declared.cell.Pointer.TheVariants.{Null, At}
use Rattle.block_memory.specs.declared.cell.BlockName.{BlockName}
use Rattle.block_memory.specs.Block.{with_cell}
use Rattle.block_memory.specs.Blocks.{Blocks, put, is_same_name}
use Rattle.block_memory.proofs.BlocksLemmas.{same_name}
use Rattle.runs.specs.Pointers.{cell_at}
use Rattle.wire.specs.declared.cell.Arg.TheVariants as argument
use Rattle.wire.specs.declared.cell.WireCell.{WireCell}
use Rattle.wire.specs.declared.message.ReplyBody.{ReplyBody}
use Rattle.reach.specs.Contexts.{is_plain}
use Rattle.sides.specs.Leaves as sides
use Rattle.sides.specs.Seeds.{is_out}
use Rattle.flow_rules.specs.declared.accepted.Accepted.{Accepted}
use Rattle.flow_rules.specs.declared.rule.Rule.TheVariants.{PrivMain}
use Rattle.flow_rules.specs.Faults.{IsAccepted, flows_of}
use Rattle.flow_rules.specs.Findings.{findings_of, found_if, function_findings, unmarked_out, priv_main, slave_findings, monitor_findings, global_findings}
use Rattle.pt_core.specs.Types.{pointee_type}
use Rattle.pt_core.specs.Calls.{signature_in}
use Rattle.pt_core.specs.Steps.{Active, Machine, away, with_blocks}
use Rattle.marshalling.specs.declared.crossing.Crossing.{Crossing}
use Rattle.marshalling.specs.declared.crossing.Crossing.TheVariants.{Stays, Plain, Sealed}
use Rattle.marshalling.specs.declared.leaf.Leaf.{Leaf}
use Rattle.marshalling.specs.Crossings.{stronger, sealed_if, is_secret, leaf_crossing, range_crossing, crossing_by, crossing_of}
use Rattle.marshalling.specs.Leaves.{range_leaves}
use Rattle.marshalling.specs.Packing.{names_of, number_of, packed_argument, packed_arguments}
use Rattle.marshalling.specs.Replies.{Place, next_after, result_places}
use Rattle.marshalling.specs.Taking as taking
use Rattle.marshalling.specs.Taking.{Part, taken_cell, taken_cells, taken_blocks, taken_result, call_crossing, after_reply}
use Rattle.handle_classes.specs.Classes.{Class, World, integer_class}
use Rattle.handle_classes.specs.Invariant.{Fits, AllFit, Fine}
use Rattle.handle_classes.specs.Computes.{is_sealed}
use Rattle.handle_classes.specs.Laws.{MayGive}
use Rattle.handle_classes.proofs.Outside.{cells_behind_fit}
use Rattle.handle_classes_law.specs.ObjectsCells.{is_pointer, leaf_under}
use Rattle.handle_classes_law.specs.SlavesLaws.{slave_half, marks_of, IsSlaveWorld}
use Rattle.handle_classes_law.specs.SlavesMarked.{Marks, slave_world, entry_class, host_class, variable_class, param_class, param_in}
use Rattle.handle_classes_law.proofs.SlavesClasses.{elem_size}
use Rattle.handle_classes_law.proofs.SlavesKnown.{integer_param}
use Rattle.pair_meaning.specs.SlaveRun.{is_handle, way_by}
use Rattle.handle_flow_law.proofs.KeptCalled.{IsCalled, Mixes, has_signature, called_world, away_called, way_away, host_body, host_not_main}
use Rattle.handle_flow_law.proofs.KeptMarks.{cells_are_marked, range_cell}

-- ---- by which argument a cell comes back

abbrev Moves : Crossing → Type 0
Moves Stays = false ≡ true
Moves Plain = Unit {0}
Moves Sealed = Unit {0}

-- a cell of block k comes back so by this parameter's argument
record Crosses (structs : List StructInfo) (params : List Param) (names : List BlockName) (cells : List Cell) (k i : ℕ) (way : Crossing) : Type 0 where
  n : ℕ
  param : Param
  elem : Elem
  block : BlockName
  base : ℕ
  count : ℕ
  index : ℕ
  at : slice_get params n ≡ Some param
  points : param.kind ≡ kind.Ptr elem false
  arg : slice_get cells n ≡ Some (cell.Ptr (At block base count index))
  name : number_of names block ≡ k
  cross : range_crossing (is_secret param) (range_leaves structs elem count) base i ≡ way

later : (structs : List StructInfo) (p : Param) (ps : List Param) (names : List BlockName) (v : Cell) (vs : List Cell) (k i : ℕ) (way : Crossing) → Crosses structs ps names vs k i way → Crosses structs (p ∷ ps) names (v ∷ vs) k i way
later structs p ps names v vs k i way c = record { n = suc c.n; param = c.param; elem = c.elem; block = c.block; base = c.base; count = c.count; index = c.index; at = c.at; points = c.points; arg = c.arg; name = c.name; cross = c.cross }

-- one of two
either : (a c way : Crossing) → stronger a c ≡ way → (a ≡ way) ⊎ (c ≡ way)
either Sealed c way h = inl h
either Plain Sealed way h = inr h
either Plain Plain way h = inl h
either Plain Stays way h = inl h
either Stays c way h = inr h

stays_moves : {X : Type 0} (way : Crossing) → Stays ≡ way → Moves way → X
stays_moves way h m = false_not_true (subst Moves (sym h) m)

by_one : (structs : List StructInfo) (p : Param) (ps : List Param) (names : List BlockName) (v : Cell) (vs : List Cell) (k i : ℕ) (way : Crossing) → Moves way → crossing_by structs (is_secret p) p.kind (packed_argument names p v) k i ≡ way →
    Crosses structs (p ∷ ps) names (v ∷ vs) k i way
by_one structs p ps names v vs k i way m h = go p.kind refl v refl h
  where
    target : (elem : Elem) (block : BlockName) (base count index : ℕ) → p.kind ≡ kind.Ptr elem false → v ≡ cell.Ptr (At block base count index) → (same : Bool) → nat_eq (number_of names block) k ≡ same →
        (if same then range_crossing (is_secret p) (range_leaves structs elem count) base i else Stays) ≡ way → Crosses structs (p ∷ ps) names (v ∷ vs) k i way
    target elem block base count index e is true at g = record { n = 0; param = p; elem = elem; block = block; base = base; count = count; index = index; at = refl; points = e; arg = ap Some is; name = number (number_of names block) k at; cross = g }
      where
        number : (a c : ℕ) → nat_eq a c ≡ true → a ≡ c
        number a c q = grind (arith, nat_tests, q)
    target elem block base count index e is false at g = stays_moves way g m

    handle : (elem : Elem) (x : ℕ) (marked : Bool) → crossing_by structs (is_secret p) (kind.Ptr elem false) (if marked then argument.Sealed x else argument.Number (pos 0)) k i ≡ way → Crosses structs (p ∷ ps) names (v ∷ vs) k i way
    handle elem x true g = stays_moves way g m
    handle elem x false g = stays_moves way g m

    go : (z : ParamKind) → p.kind ≡ z → (u : Cell) → v ≡ u → crossing_by structs (is_secret p) z (packed_argument names p u) k i ≡ way → Crosses structs (p ∷ ps) names (v ∷ vs) k i way
    go (kind.Int t) e u is g = stays_moves way g m
    go (kind.Ptr elem true) e u is g = stays_moves way g m
    go (kind.Ptr elem false) e (cell.Int x) is g = stays_moves way g m
    go (kind.Ptr elem false) e (cell.Ptr Null) is g = stays_moves way g m
    go (kind.Ptr elem false) e (cell.Ptr (At block base count index)) is g = target elem block base count index e is (nat_eq (number_of names block) k) refl g
    go (kind.Ptr elem false) e (cell.Sealed x) is g = handle elem x p.marked g

crosses : (structs : List StructInfo) (params : List Param) (names : List BlockName) (cells : List Cell) (k i : ℕ) (way : Crossing) → Moves way → crossing_of structs params (packed_arguments names params cells) k i ≡ way → Crosses structs params names cells k i way
crosses structs [] names cells k i way m h = stays_moves way h m
crosses structs (p ∷ ps) names [] k i way m h = stays_moves way h m
crosses structs (p ∷ ps) names (v ∷ vs) k i way m h =
    go (λ g. crosses structs ps names vs k i way m g) (either (crossing_by structs (is_secret p) p.kind (packed_argument names p v) k i) (crossing_of structs ps (packed_arguments names ps vs) k i) way h)
  where
    go : (crossing_of structs ps (packed_arguments names ps vs) k i ≡ way → Crosses structs ps names vs k i way) → (crossing_by structs (is_secret p) p.kind (packed_argument names p v) k i ≡ way) ⊎ (crossing_of structs ps (packed_arguments names ps vs) k i ≡ way) →
        Crosses structs (p ∷ ps) names (v ∷ vs) k i way
    go rest (inl g) = by_one structs p ps names v vs k i way m g
    go rest (inr g) = later structs p ps names v vs k i way (rest g)

-- the block of this number
named_at : (names : List BlockName) (block name : BlockName) (k : ℕ) → number_of names block ≡ k → slice_get names k ≡ Some name → block ≡ name
named_at [] block name k h is = cc
named_at (n ∷ ns) block name k h is = go (is_same_name n block) refl (λ j g e. named_at ns block name j g e) k h is
  where
    one : (x y : BlockName) → Some x ≡ Some y → x ≡ y
    one x y e = cc

    go : (same : Bool) → is_same_name n block ≡ same → ((j : ℕ) → number_of ns block ≡ j → slice_get ns j ≡ Some name → block ≡ name) → (k : ℕ) → (if same then 0 else suc (number_of ns block)) ≡ k → slice_get (n ∷ ns) k ≡ Some name → block ≡ name
    go true e rest zero h is = sym (same_name n block e) ∙ one n name is
    go true e rest (suc k) h is = absurd (omega (arith, h))
    go false e rest zero h is = absurd (omega (arith, h))
    go false e rest (suc k) h is = rest k (omega (arith, h)) is

-- a cell of a range, and what is known of its leaf
record InRange (secret : Bool) (leaves : List Leaf) (base i : ℕ) (way : Crossing) : Type 0 where
  low : base ≤ i
  leaf : Leaf
  found : slice_get leaves (i - base) ≡ Some leaf
  sealed : way ≡ Sealed → (leaf.marked || secret) ≡ true

in_range : (secret : Bool) (leaves : List Leaf) (base i : ℕ) (way : Crossing) → Moves way → range_crossing secret leaves base i ≡ way → InRange secret leaves base i way
in_range secret leaves base i way m h = go (nat_le base i) refl h
  where
    told : (c : Bool) → sealed_if c ≡ way → way ≡ Sealed → c ≡ true
    told true g e = refl
    told false g e = plain (g ∙ e)
      where
        plain : Plain ≡ Sealed → false ≡ true
        plain k = cc

    leaf_by : base ≤ i → (o : Option Leaf) → slice_get leaves (i - base) ≡ o → leaf_crossing secret o ≡ way → InRange secret leaves base i way
    leaf_by low None is g = stays_moves way g m
    leaf_by low (Some leaf) is g = record { low = low; leaf = leaf; found = is; sealed = told (leaf.marked || secret) g }

    go : (c : Bool) → nat_le base i ≡ c → (if c then leaf_crossing secret (slice_get leaves (i - base)) else Stays) ≡ way → InRange secret leaves base i way
    go true is g = leaf_by (below base i is) (slice_get leaves (i - base)) refl g
      where
        below : (b i : ℕ) → nat_le b i ≡ true → b ≤ i
        below b i k = grind (arith, nat_tests, k)
    go false is g = stays_moves way g m

-- ---- parameters

pub fit_at : (w : World) (active : List Active) (into : ℕ → Class) (vs : List Cell) (n : ℕ) (v : Cell) → AllFit w active into vs → slice_get vs n ≡ Some v → Fits w active (into n) v
fit_at w active into [] n v fit is = cc
fit_at w active into (x ∷ xs) zero v fit is = subst (λ z. Fits w active (into 0) z) (one x v is) fit.0
  where
    one : (x y : Cell) → Some x ≡ Some y → x ≡ y
    one x y e = cc
fit_at w active into (x ∷ xs) (suc n) v fit is = fit_at w active (λ k. into (suc k)) xs n v fit.1 is

pub entry_at : (t : TypedTree) (m : Marks) (f n : ℕ) (x : FunctionTree) (q : Param) → slice_get t.functions f ≡ Some x → x.signature.privileged ≡ true → slice_get x.signature.params n ≡ Some q → param_class m t f n ≡ entry_class t f n q
entry_at t m f n x q is free at =
    ap (λ o. option_map_or (λ y. param_in m t f y n) o (integer_class false)) is
    ∙ if_false (is_plain x) (variable_class m t f n) (option_map_or (λ p. if x.signature.privileged then entry_class t f n p else host_class m t f x n p) (slice_get x.signature.params n) (integer_class false)) (no_plain (is_some x.body) x.signature.privileged free)
    ∙ ap (λ o. option_map_or (λ p. if x.signature.privileged then entry_class t f n p else host_class m t f x n p) o (integer_class false)) at
    ∙ if_true x.signature.privileged (entry_class t f n q) (host_class m t f x n q) free
  where
    no_plain : (b p : Bool) → p ≡ true → (b && not p) ≡ false
    no_plain true true h = refl
    no_plain true false h = false_not_true h
    no_plain false p h = refl

host_integers : (t : TypedTree) (f : ℕ) (x : FunctionTree) → Facts t → slice_get t.functions f ≡ Some x → x.signature.host ≡ true → list_all is_integer_param x.signature.params ≡ true
host_integers t f x facts is host = go x.body refl (both_hold_second (list_all (variable_sound t.structs) x.vars) (body_sound t x x.body)
    (both_hold_second (nat_le (length x.signature.params) 8 && params_lead x.signature.params x.vars) (list_all (variable_sound t.structs) x.vars && body_sound t x x.body) (all_true_at (function_sound t) t.functions f x facts.functions is)))
  where
    go : (o : Option BodyTree) → x.body ≡ o → body_sound t x o ≡ true → list_all is_integer_param x.signature.params ≡ true
    go None e s = both_hold_first (list_all is_integer_param x.signature.params) (nat_eq (length x.vars) (length x.signature.params)) (both_hold_second x.signature.host (list_all is_integer_param x.signature.params && nat_eq (length x.vars) (length x.signature.params)) s)
    go (Some b) e s = false_not_true (sym (host_body t f x facts is host) ∙ ap is_some e)

-- what goes away with a pointer is privileged
pub pointer_free : (t : TypedTree) (a : Accepted) (f n : ℕ) (args : List Cell) (q : Param) (elem : Elem) (fixed : Bool) → Facts t → (c : IsCalled t a f (signature_in (slave_half t a) f)) → way_by (signature_in (slave_half t a) f) args ≡ away →
    slice_get c.function.signature.params n ≡ Some q → q.kind ≡ kind.Ptr elem fixed → c.function.signature.privileged ≡ true
pointer_free t a f n args q elem fixed facts c way at points = go (way_away (signature_in (slave_half t a) f) args way)
  where
    go : ((signature_in (slave_half t a) f).privileged ≡ true) ⊎ Mixes (signature_in (slave_half t a) f) args → c.function.signature.privileged ≡ true
    go (inl p) = ap (λ (s : Signature). s.privileged) c.same ∙ p
    go (inr k) = false_not_true (sym (ap is_integer_kind points) ∙ integer_param c.function.signature.params n q (host_integers t f c.function facts c.is (ap (λ (s : Signature). s.host) c.same ∙ k.host)) at)

-- a parameter's element is one of the program's
param_elem : (ps : List Param) (xs : List Var) (structs : List StructInfo) (n : ℕ) (q : Param) (elem : Elem) (fixed : Bool) → params_lead ps xs ≡ true → list_all (variable_sound structs) xs ≡ true → slice_get ps n ≡ Some q → q.kind ≡ kind.Ptr elem fixed → is_elem (length structs) (Some elem) ≡ true
param_elem [] xs structs n q elem fixed lead sound is points = cc
param_elem (p ∷ ps) [] structs n q elem fixed lead sound is points = false_not_true lead
param_elem (p ∷ ps) (x ∷ xs) structs zero q elem fixed lead sound is points =
    let same : param_type p.kind ≡ x.ty = equal_types (param_type p.kind) x.ty (both_hold_first (same_type (param_type p.kind) x.ty) (same_bool p.marked x.marked) (both_hold_first (same_type (param_type p.kind) x.ty && same_bool p.marked x.marked) (params_lead ps xs) lead)) in
    let known = both_hold_first (is_variable_type (length structs) x.ty) (is_small structs x.ty && is_none x.holds) (both_hold_first (variable_sound structs x) (list_all (variable_sound structs) xs) sound) in
    subst (λ z. is_variable_type (length structs) z ≡ true) (sym same ∙ ap (λ (z : Param). param_type z.kind) (one p q is) ∙ ap param_type points) known
  where
    one : (p q : Param) → Some p ≡ Some q → p ≡ q
    one p q e = cc
param_elem (p ∷ ps) (x ∷ xs) structs (suc n) q elem fixed lead sound is points =
    param_elem ps xs structs n q elem fixed (both_hold_second (same_type (param_type p.kind) x.ty && same_bool p.marked x.marked) (params_lead ps xs) lead) (both_hold_second (variable_sound structs x) (list_all (variable_sound structs) xs) sound) is points

pub known_elem : (t : TypedTree) (f n : ℕ) (x : FunctionTree) (q : Param) (elem : Elem) (fixed : Bool) → Facts t → slice_get t.functions f ≡ Some x → slice_get x.signature.params n ≡ Some q → q.kind ≡ kind.Ptr elem fixed → is_elem (length t.structs) (Some elem) ≡ true
known_elem t f n x q elem fixed facts is at points =
    let sound = all_true_at (function_sound t) t.functions f x facts.functions is in
    let lead = both_hold_second (nat_le (length x.signature.params) 8) (params_lead x.signature.params x.vars)
    (both_hold_first (nat_le (length x.signature.params) 8 && params_lead x.signature.params x.vars) (list_all (variable_sound t.structs) x.vars && body_sound t x x.body) sound) in
    let vars = both_hold_first (list_all (variable_sound t.structs) x.vars) (body_sound t x x.body)
    (both_hold_second (nat_le (length x.signature.params) 8 && params_lead x.signature.params x.vars) (list_all (variable_sound t.structs) x.vars && body_sound t x x.body) sound) in
    param_elem x.signature.params x.vars t.structs n q elem fixed lead vars at points

-- the cells of a pointer's leaves
pub pointer_leaves : (structs : List StructInfo) (elem : Elem) (fixed : Bool) → sides.leaves_of structs (Pointer elem fixed) ≡ sides.leaves_of structs (type_of_elem elem)
unfolding sides.leaves_of
pointer_leaves structs (e.Int t) fixed = refl
pointer_leaves structs (e.Struct n) fixed = refl

swap_or : (a c d : Bool) → a ≡ d → (a || c) ≡ true → (c || d) ≡ true
swap_or true true d e h = refl
swap_or true false d e h = sym e
swap_or false true d e h = refl
swap_or false false d e h = false_not_true h

-- ---- writing

-- what a call is known by, that went away
pub record Asked (t : TypedTree) (a : Accepted) (m : Machine) (f : ℕ) (args : List Cell) : Type 0 where
  pub fits : AllFit (called_world (has_signature t a) (slave_world (marks_of t a) t)) m.active (λ n. if has_signature t a f then param_class (marks_of t a) t f n else integer_class false) args
  pub way : way_by (signature_in (slave_half t a) f) args ≡ away

abbrev pub FineAt : TypedTree → Accepted → Machine → Blocks → Type 0
FineAt t a m blocks = Fine (slave_half t a) (called_world (has_signature t a) (slave_world (marks_of t a) t)) (with_blocks blocks m)

-- a cell that comes back may be written
abbrev Writes : TypedTree → Accepted → Machine → (ℕ → ℕ → Crossing) → ℕ → BlockName → Type 0
Writes t a m crossing k name = (i : ℕ) (way : Crossing) → crossing k i ≡ way → Moves way → (v : Cell) → (is_sealed v ≡ true → way ≡ Sealed) → (blocks : Blocks) → FineAt t a m blocks → FineAt t a m (put blocks name (with_cell (blocks name) i v))

reach : (base i x q : ℕ) → base ≤ i → i - base ≡ x + q → base + x + q ≡ i
reach base i x q low h = omega (arith, low, h)

call_writes : (t : TypedTree) (a : Accepted) (m : Machine) (f : ℕ) (args : List Cell) → Facts t → IsSlaveWorld t (slave_half t a) (slave_world (marks_of t a) t) → Asked t a m f args → (k : ℕ) (name : BlockName) → slice_get (names_of args) k ≡ Some name →
    Writes t a m (call_crossing t.structs (signature_in (slave_half t a) f).params args) k name
call_writes t a m f args facts world asked k name named i way is moves v sealed blocks fine =
    let w = slave_world (marks_of t a) t in
    let s = signature_in (slave_half t a) f in
    let c = away_called t a f args asked.way in
    let x = crosses t.structs s.params (names_of args) args k i way moves is in
    let at : slice_get c.function.signature.params x.n ≡ Some x.param = subst (λ (z : Signature). slice_get z.params x.n ≡ Some x.param) (sym c.same) x.at in
    let free = pointer_free t a f x.n args x.param x.elem false facts c asked.way at x.points in
    let here : (if has_signature t a f then param_class (marks_of t a) t f x.n else integer_class false) ≡ param_class (marks_of t a) t f x.n = if_true (has_signature t a f) (param_class (marks_of t a) t f x.n) (integer_class false) c.has in
    let entry : param_class (marks_of t a) t f x.n ≡ entry_class t f x.n x.param = entry_at t (marks_of t a) f x.n c.function x.param c.is free at in
    let points : (param_class (marks_of t a) t f x.n).pointer ≡ true = ap (λ (z : Class). z.pointer) entry ∙ ap (λ (z : ParamKind). is_pointer (param_type z)) x.points in
    let size : (param_class (marks_of t a) t f x.n).size ≡ elem_cells (sizes_of t.structs) x.elem = ap (λ (z : Class). z.size) entry ∙ ap (λ (z : ParamKind). cells_by (sizes_of t.structs) (pointee_type (param_type z))) x.points ∙ elem_size t.structs x.elem in
    let block : x.block ≡ name = named_at (names_of args) x.block name k x.name named in
    let fits : Fits (called_world (has_signature t a) w) m.active (param_class (marks_of t a) t f x.n) (cell.Ptr (At name x.base x.count x.index)) =
    subst (λ z. Fits (called_world (has_signature t a) w) m.active (param_class (marks_of t a) t f x.n) (cell.Ptr (At z x.base x.count x.index))) block
    (subst (λ z. Fits (called_world (has_signature t a) w) m.active z (cell.Ptr (At x.block x.base x.count x.index))) here
    (fit_at (called_world (has_signature t a) w) m.active (λ n. if has_signature t a f then param_class (marks_of t a) t f n else integer_class false) args x.n (cell.Ptr (At x.block x.base x.count x.index)) asked.fits x.arg)) in
    let r = in_range (is_secret x.param) (range_leaves t.structs x.elem x.count) x.base i way moves x.cross in
    let known = known_elem t f x.n c.function x.param x.elem false facts c.is at x.points in
    let g = range_cell t.structs x.elem x.count (i - x.base) r.leaf facts.structs known r.found in
    let inside : g.1 < (param_class (marks_of t a) t f x.n).size = subst (λ z. g.1 < z) (sym size) g.3 in
    let there : cell_at (param_class (marks_of t a) t f x.n).size x.base g.0 + g.1 ≡ i = ap (λ z. cell_at z x.base g.0 + g.1) size ∙ reach x.base i (g.0 * elem_cells (sizes_of t.structs) x.elem) g.1 r.low g.4 in
    let must = λ (sealed_is : is_sealed v ≡ true). world.cells f x.n g.1 c.function x.param c.is free at (ap is_out x.points) inside
    (swap_or r.leaf.marked (is_secret x.param) (get_or (sides.leaves_of t.structs (param_type x.param.kind)) (leaf_under t.structs (pointee_type (param_type x.param.kind)) g.1) sides.whole).marked
    (cells_are_marked t.structs x.elem g.1 r.leaf facts.structs known g.5
    ∙ ap (λ z. (get_or z (leaf_under t.structs (type_of_elem x.elem) g.1) sides.whole).marked) (sym (pointer_leaves t.structs x.elem false))
    ∙ ap (λ (z : ParamKind). (get_or (sides.leaves_of t.structs (param_type z)) (leaf_under t.structs (pointee_type (param_type z)) g.1) sides.whole).marked) (sym x.points)) (r.sealed (sealed sealed_is))) in
    subst (λ z. FineAt t a m (put blocks name (with_cell (blocks name) z v))) there
    ((cells_behind_fit (slave_half t a) (called_world (has_signature t a) w) (with_blocks blocks m) (param_class (marks_of t a) t f x.n) name x.base x.count x.index g.0 g.1 fine fits points g.2 inside).takes v must)

-- ---- what a reply leaves

cell_fine : (t : TypedTree) (a : Accepted) (m : Machine) (crossing : ℕ → ℕ → Crossing) (k : ℕ) (name : BlockName) (i : ℕ) (part : Part) → Writes t a m crossing k name → FineAt t a m part.blocks → FineAt t a m (taken_cell (crossing k i) name i part).blocks
cell_fine t a m crossing k name i part writes fine = go (crossing k i) refl
  where
    number : crossing k i ≡ Plain → (sent : List WireCell) → FineAt t a m (taking.with_number name i sent part.next part.blocks).blocks
    number is [] = fine
    number is (s ∷ sent) = writes i Plain is tt (cell.Int (taking.number_of s)) (λ h. false_not_true h) part.blocks fine

    go : (way : Crossing) → crossing k i ≡ way → FineAt t a m (taken_cell way name i part).blocks
    go Stays is = fine
    go Plain is = number is part.sent
    go Sealed is = writes i Sealed is tt (cell.Sealed part.next) (λ h. refl) part.blocks fine

cells_fine : (types : List IntType) (t : TypedTree) (a : Accepted) (m : Machine) (crossing : ℕ → ℕ → Crossing) (k : ℕ) (name : BlockName) (i : ℕ) (part : Part) → Writes t a m crossing k name → FineAt t a m part.blocks → FineAt t a m (taken_cells crossing name k i types part).blocks
cells_fine [] t a m crossing k name i part writes fine = fine
cells_fine (ty ∷ types) t a m crossing k name i part writes fine = cells_fine types t a m crossing k name (suc i) (taken_cell (crossing k i) name i part) writes (cell_fine t a m crossing k name i part writes fine)

blocks_fine : (names : List BlockName) (t : TypedTree) (a : Accepted) (m : Machine) (crossing : ℕ → ℕ → Crossing) (k : ℕ) (part : Part) → ((j : ℕ) (name : BlockName) → slice_get names j ≡ Some name → Writes t a m crossing (k + j) name) → FineAt t a m part.blocks → FineAt t a m (taken_blocks crossing k names part).blocks
blocks_fine [] t a m crossing k part writes fine = fine
blocks_fine (name ∷ names) t a m crossing k part writes fine =
    blocks_fine names t a m crossing (suc k) (taken_cells crossing name k 0 (part.blocks name).types part) (λ j n is. subst (λ z. Writes t a m crossing z n) (next k j) (writes (suc j) n is))
    (cells_fine (part.blocks name).types t a m crossing k name 0 part (subst (λ z. Writes t a m crossing z name) (plain k) (writes 0 name refl)) fine)
  where
    plain : (k : ℕ) → k + 0 ≡ k
    plain k = omega arith

    next : (k j : ℕ) → k + suc j ≡ suc k + j
    next k j = omega arith

-- whatever the reply
pub reply_fine : (t : TypedTree) (a : Accepted) (m : Machine) (f : ℕ) (args : List Cell) (handle : ℕ) (reply : ReplyBody) → Facts t → IsSlaveWorld t (slave_half t a) (slave_world (marks_of t a) t) → Asked t a m f args →
    FineAt t a m m.blocks → FineAt t a m (after_reply handle m.blocks t.structs (signature_in (slave_half t a) f) args reply).blocks
reply_fine t a m f args handle reply facts world asked fine =
    let s = signature_in (slave_half t a) f in
    blocks_fine (names_of args) t a m (call_crossing t.structs s.params args) 0 (record { sent = reply.cells; next = next_after handle (result_places s s.result); blocks = m.blocks })
    (λ j name is. subst (λ z. Writes t a m (call_crossing t.structs s.params args) z name) (plain j) (call_writes t a m f args facts world asked j name is)) fine
  where
    plain : (j : ℕ) → j ≡ 0 + j
    plain j = omega arith

-- ---- results

none_at : {X Y : Type 0} (f : X → List Y) (xs : List X) (n : ℕ) (x : X) → flat_map f xs ≡ [] → slice_get xs n ≡ Some x → f x ≡ []
none_at f [] n x h is = cc
none_at {X} {Y} f (y ∷ ys) zero x h is = ap f (sym (one y x is)) ∙ first (f y) (flat_map f ys) h
  where
    one : (y x : X) → Some y ≡ Some x → y ≡ x
    one y x e = cc

    first : (as' bs : List Y) → as' ++ bs ≡ [] → as' ≡ []
    first [] bs h = refl
    first (z ∷ zs) bs h = cc
none_at {X} {Y} f (y ∷ ys) (suc n) x h is = none_at f ys n x (rest (f y) (flat_map f ys) h) is
  where
    rest : (as' bs : List Y) → as' ++ bs ≡ [] → bs ≡ []
    rest [] bs h = h
    rest (z ∷ zs) bs h = cc

functions_faultless : (t : TypedTree) (a : Accepted) → IsAccepted t a → flat_map function_findings t.functions ≡ []
unfolding findings_of
functions_faultless t a accepted =
    let p = flows_of t a.sides a.marks in
    append_nil_second (global_findings p) (flat_map function_findings t.functions) (append_nil_second (flat_map (slave_findings p) a.sides.slave ++ flat_map (monitor_findings p) a.sides.monitor) (global_findings p ++ flat_map function_findings t.functions) accepted.faultless)

-- what is privileged isn't main
free_not_main : (t : TypedTree) (a : Accepted) (f : ℕ) (x : FunctionTree) → IsAccepted t a → slice_get t.functions f ≡ Some x → x.signature.privileged ≡ true → is_main x.signature ≡ false
free_not_main t a f x accepted is free = go (is_main x.signature) refl (append_nil_second (unmarked_out x) (priv_main x) (none_at function_findings t.functions f x (functions_faultless t a accepted) is))
  where
    go : (c : Bool) → is_main x.signature ≡ c → priv_main x ≡ [] → is_main x.signature ≡ false
    go false e h = e
    go true e h = wrong (is_main x.signature && x.signature.privileged) (both (is_main x.signature) x.signature.privileged e free) h
      where
        both : (c d : Bool) → c ≡ true → d ≡ true → (c && d) ≡ true
        both true d p q = q
        both false d p q = false_not_true p

        wrong : (c : Bool) → c ≡ true → found_if c PrivMain x.name ≡ [] → is_main x.signature ≡ false
        wrong true p q = cc
        wrong false p q = false_not_true p

-- one of the arguments is a handle
record HasHandle (args : List Cell) : Type 0 where
  n : ℕ
  handle : ℕ
  is : slice_get args n ≡ Some (cell.Sealed handle)

handle_among : (args : List Cell) → list_any is_handle args ≡ true → HasHandle args
handle_among [] h = false_not_true h
handle_among (cell.Int v ∷ args) h = let r = handle_among args h in record { n = suc r.n; handle = r.handle; is = r.is }
handle_among (cell.Ptr p ∷ args) h = let r = handle_among args h in record { n = suc r.n; handle = r.handle; is = r.is }
handle_among (cell.Sealed k ∷ args) h = record { n = 0; handle = k; is = refl }

-- a result that comes back sealed may be a handle
result_gives : (t : TypedTree) (a : Accepted) (m : Machine) (f : ℕ) (args : List Cell) → IsTrue (is_well_formed t) → Facts t → IsAccepted t a → IsSlaveWorld t (slave_half t a) (slave_world (marks_of t a) t) → Asked t a m f args →
    is_some (signature_in (slave_half t a) f).result ≡ true → (signature_in (slave_half t a) f).declassify ≡ false → (slave_world (marks_of t a) t).result f ≡ true
result_gives t a m f args sound facts accepted world asked some open' = go (way_away (signature_in (slave_half t a) f) args asked.way)
  where
    go : ((signature_in (slave_half t a) f).privileged ≡ true) ⊎ Mixes (signature_in (slave_half t a) f) args → (slave_world (marks_of t a) t).result f ≡ true
    go (inl p) =
        let c = away_called t a f args asked.way in
        let free = ap (λ (s : Signature). s.privileged) c.same ∙ p in
        world.comes f c.function c.is (free_not_main t a f c.function accepted c.is free) (both_hold c.function.signature.privileged (not c.function.signature.declassify) free (ap not (ap (λ (s : Signature). s.declassify) c.same ∙ open')))
    go (inr k) =
        let c = away_called t a f args asked.way in
        let host = ap (λ (s : Signature). s.host) c.same ∙ k.host in
        let none = host_body t f c.function facts c.is host in
        let h = handle_among args (and_true_second (is_mixed (signature_in (slave_half t a) f)) (list_any is_handle args) k.secret) in
        let fits = fit_at (called_world (has_signature t a) (slave_world (marks_of t a) t)) m.active (λ n. if has_signature t a f then param_class (marks_of t a) t f n else integer_class false) args h.n (cell.Sealed h.handle) asked.fits h.is in
        world.mixed f h.n c.function c.is (host_not_main t f c.function sound facts c.is none) none (ap (λ (s : Signature). s.privileged) c.same ∙ k.free) (ap (λ (s : Signature). is_some s.result) c.same ∙ some)
        (subst (λ (b : Bool). (if b then param_class (marks_of t a) t f h.n else integer_class false).may 0 ≡ true) c.has fits.1)

-- the places of a result, by whether it is declassified
abbrev result_by_sign : Bool → Option IntType → List Place
result_by_sign d None = []
result_by_sign d (Some t) = record { way = sealed_if (not d); ty = t } ∷ []

places_same : (s : Signature) (r : Option IntType) → result_by_sign s.declassify r ≡ result_places s r
places_same s None = refl
places_same s (Some t) = refl

pub result_may : (t : TypedTree) (a : Accepted) (m : Machine) (f : ℕ) (args : List Cell) (next : ℕ) (o : Option WireCell) → IsTrue (is_well_formed t) → Facts t → IsAccepted t a → IsSlaveWorld t (slave_half t a) (slave_world (marks_of t a) t) → Asked t a m f args →
    MayGive (called_world (has_signature t a) (slave_world (marks_of t a) t)) f (taken_result (result_places (signature_in (slave_half t a) f) (signature_in (slave_half t a) f).result) next o)
result_may t a m f args next o sound facts accepted world asked =
    subst (λ ps. MayGive (called_world (has_signature t a) (slave_world (marks_of t a) t)) f (taken_result ps next o)) (places_same (signature_in (slave_half t a) f) (signature_in (slave_half t a) f).result)
    (go (signature_in (slave_half t a) f).result refl (signature_in (slave_half t a) f).declassify refl)
  where
    number : (o : Option WireCell) → MayGive (called_world (has_signature t a) (slave_world (marks_of t a) t)) f (option_map (λ s. cell.Int (taking.number_of s)) o)
    number None = tt
    number (Some s) = λ h. false_not_true h

    go : (r : Option IntType) → (signature_in (slave_half t a) f).result ≡ r → (d : Bool) → (signature_in (slave_half t a) f).declassify ≡ d →
        MayGive (called_world (has_signature t a) (slave_world (marks_of t a) t)) f (taken_result (result_by_sign d r) next o)
    go None is d e = tt
    go (Some ty) is true e = number o
    go (Some ty) is false e = λ h. result_gives t a m f args sound facts accepted world asked (ap is_some is) e
