-- Objects of more than one cell are cleared leaf by leaf.
use Rattle.pt_base.specs.declared.int_type.IntType.TheVariants as i
use Rattle.pt_tree.specs.ExpressionTree as p
use Rattle.pt_tree.specs.StatementTree as e
use Rattle.type_rules.specs.declared.types.Type.TheVariants as ty
use Rattle.typed_tree.specs.declared.types.VarTy.TheVariants as v
use Rattle.typed_tree.specs.ExpressionTree as t
use Rattle.check_statements.specs.declared.context.Context as k
use Rattle.check_statements.specs.Outermost as o
use Rattle.source_meaning.specs.Values as mv
use Rattle.source_meaning.specs.Expressions as x
use Rattle.source_meaning.specs.Statements as m
use Rattle.pt_core.specs.Statements as c
use Rattle.half_trees.specs.Expressions as h
use Rattle.half_trees.specs.Statements as hs
use Rattle.half_trees.specs.Leaves as leaves
use Rattle.block_memory.specs.Block as bm
use Rattle.block_memory.specs.Blocks as bs
use Rattle.source_meaning.proofs.SizeLemmas as lemmas
use Rattle.std.proofs.Common.{◌≡◌, ◌∙◌, ◌+◌, ℕ, zero, suc, pos, refl, ap, sym, subst, arith, Bool, true, false, not, Option, None, List, [], ◌∷◌, ◌++◌, length, if◌then◌else◌, append_assoc, length-append}
use Rattle.std.specs.Prelude.{IsTrue, ◌&&◌, get_or, nat_eq, map, nat_lt, slice_set, replicate}
use Rattle.pt_base.specs.declared.int_type.IntType.{IntType}
use Rattle.pt_base.specs.declared.span.Span.{Span}
use Rattle.runs.specs.State.{gives, ◌>>=◌}
use Rattle.pt_tree.specs.declared.signature.Elem.{Elem}
use Rattle.typed_tree.specs.declared.types.VarTy.{VarTy}
use Rattle.typed_tree.specs.ExpressionTree.{typed}
use Rattle.typed_tree.specs.StatementTree.{body_trees}
use Rattle.check_declarations.specs.Structs.{Structs}
use Rattle.check_expressions.specs.Environment.{Env}
use Rattle.check_expressions.specs.Expressions.{Judged, judge, literal, alone, named, named_as, meant, an_object, judge_postfixes}
use Rattle.check_expressions.specs.Conversions.{as_type}
use Rattle.check_expressions.specs.Operands.{Known, fine, value_of, value_tree, place_of, span_of, var_type, root_of, steps_of}
use Rattle.check_statements.specs.Statements.{Checked, CheckedAll, checked, checked_all}
use Rattle.block_memory.specs.Blocks.{Blocks}
use Rattle.source_meaning.specs.Memory.{Cell, number, Memory, Block, local, global, put, write as write_cell, same_block}
use Rattle.source_meaning.specs.State.{State, Outcome}
use Rattle.source_meaning.specs.Values.{holds}
use Rattle.source_meaning.specs.Statements.{no_expr, all_of, statement}
use Rattle.pt_core.specs.CodeTree.{clear}
use Rattle.pt_core.specs.Types.{type_at, shape_of}
use Rattle.pt_core.specs.Statements.{does, evaluated, with_blocks}
use Rattle.half_trees.specs.Names.{nowhere, word, local_name}
use Rattle.half_meaning_law.specs.Relations.{Scene, context_of, frame_of, core_cell, reach_in, CellFits, Alike, Same, cells_in}
use Rattle.half_meaning_law.specs.Known.{Known as AllKnown, local_id, object_as, VariableKnown}
use Rattle.half_meaning_law.specs.Expressions.{IsFine, SceneFits}
use Rattle.half_meaning_law.specs.Statements.{code_of, ListedFrom, GoesOn, advanced, StatementsMean}
use Rattle.half_meaning_law.proofs.Memories.{AllCells, OneToOne, alike_with, blocks_put, block_same, fits_all_written, live_all_written, own_live}
use Rattle.half_meaning_law.proofs.Judged.{no_faults}
use Rattle.half_meaning_law.proofs.Paths.{extended_behind}
use Rattle.half_meaning_law.proofs.Assigns.{assign_judged}
use Rattle.typed_tree.specs.Cells.{cells_of}
use Rattle.block_memory.specs.declared.cell.Cell.TheVariants.{Int as int_cell}
use Rattle.block_memory.specs.declared.cell.BlockName.TheVariants.{Local}
use Rattle.pt_base.specs.declared.ids.FnId.{FnId}
use Rattle.pt_base.proofs.Booleans.{true_not_false}
use Rattle.pt_base.proofs.Numbers.{below_holds, nat_eq_true}
use Rattle.check_expressions.specs.Postfixes.{is_called}
use Rattle.half_meaning_law.proofs.Flows.{advanced_none, advanced_more}
use Rattle.half_meaning_law.proofs.Clears.{is_single, zero_as_int, zero_fits}
use Rattle.half_meaning_law.proofs.Leaves.{At, IntegerAt, AllAt, ObjectAt, leaves_at}

-- ---- one leaf

abbrev variable : ℕ → p.ExprTree
variable n = p.name (word (local_name n))

-- the variable itself
name_is : (s : Scene) (env : Env) (structs : Structs) (n : ℕ) → VariableKnown s env n → judge env structs (variable n) ≡ alone structs (fine (an_object (object_as (type_at s.context.variables n)) (t.local (local_id n))))
unfolding judge named named_as meant
name_is s env structs n known =
    ap (λ z. alone structs (named_as env nowhere z)) known.named ∙ ap (λ z. alone structs (fine (an_object z (t.local (local_id n))))) known.object

variable_there : (s : Scene) (n : ℕ) → At s (local s.frame.depth n) 0 (type_at s.context.variables n) (an_object (object_as (type_at s.context.variables n)) (t.local (local_id n)))
unfolding root_of steps_of
variable_there s n = record { typed = refl; designates = refl; changes = refl; is = λ st. refl }

-- a leaf of it
leaf_judged : (s : Scene) (env : Env) (structs : Structs) (n j : ℕ) (leaf : leaves.Leaf) → IsFine structs (judge env structs (variable n)) → (is_called (p.postfix_trees leaf) ≡ false) → ((callee : Option FnId) (at : Span) → IntegerAt s structs (local s.frame.depth n) j (judge_postfixes env structs nowhere callee at (judge env structs (variable n)).operand (p.postfix_trees leaf))) →
    IntegerAt s structs (local s.frame.depth n) j (judge env structs (h.postfixed (variable n) leaf))
unfolding judge_postfixes
leaf_judged s env structs n j [] fine_one plain_one leads = let r = leads None nowhere in record { fine = fine_one; to = r.to; at = r.at }
leaf_judged s env structs n j (q ∷ leaf) fine_one plain_one leads =
    let r = extended_behind env structs (variable n) (q ∷ leaf) Integer tt plain_one fine_one (λ at. let d = leads None at in (d.fine, (d.to, d.at))) in
    record { fine = r.0; to = r.1.0; at = r.1.1 }
  where
    Integer : Known → Type 0
    Integer k = (to : IntType) × At s (local s.frame.depth n) j (v.Int to) k

-- 0 is stored in an integer at a cell
zero_runs : (s : Scene) (b : Block) (j : ℕ) (to : IntType) (k : Known) (sp at : Span) (o : Option VarTy) (st : State) → At s b j (v.Int to) k →
    x.value_of (typed sp o (t.assign (place_of k.tree) (as_type (ty.Int to) true (value_tree at (literal (record { span = nowhere; value = pos 0; ty = i.Int })))))) (context_of s) st ≡ gives (holds (number (pos 0))) (record st { memory = write_cell st.memory b j (number (pos 0)) })
zero_runs s b j to k sp at o st here =
    ap (λ (r : Outcome mv.Location). r >>= λ there st1. x.value_of zero (context_of s) st1 >>= x.store there) (here.is st)
    ∙ ap (λ (r : Outcome mv.Value). r >>= x.store (record { block = b; cell = j; ty = v.Int to })) (zero_as_int s to at st)
  where
    zero : t.ExprTree
    zero = as_type (ty.Int to) true (value_tree at (literal (record { span = nowhere; value = pos 0; ty = i.Int })))

-- ---- all leaves

abbrev zeros : ℕ → List Cell
zeros n = replicate n (number (pos 0))

abbrev leaf_statement : ℕ → leaves.Leaf → e.StmtTree
leaf_statement n leaf = hs.evaluated (hs.stored (h.postfixed (variable n) leaf) h.zero_tree)

-- statements that fill these cells with 0
record Fills (s : Scene) (st : o.State) (b : Block) (j count : ℕ) (ch : CheckedAll) : Type 0 where
  fine : ch.faults ≡ []
  state : ch.state ≡ advanced st (length ch.trees)
  runs : (exprs : List t.ExprTree) → ListedFrom exprs st.next ch.trees → (st1 : State) → all_of (body_trees ch.bodies) (code_of s exprs) st1 ≡ gives m.goes_on (record st1 { memory = x.write_all st1.memory b j (zeros count) })

-- one of them
pub record FillsOne (s : Scene) (st : o.State) (b : Block) (j : ℕ) (one : Checked) : Type 0 where
  pub fine : one.faults ≡ []
  pub state : one.state ≡ advanced st 1
  pub tree : t.ExprTree
  pub trees : one.trees ≡ tree ∷ []
  pub runs : (exprs : List t.ExprTree) → get_or exprs st.next no_expr ≡ tree → (st1 : State) → statement one.tree (code_of s exprs) st1 ≡ gives m.goes_on (record st1 { memory = write_cell st1.memory b j (number (pos 0)) })

fills_one : (s : Scene) (w : k.Context) (st : o.State) (n j : ℕ) (leaf : leaves.Leaf) → IntegerAt s st.structs (local s.frame.depth n) j (judge st.env st.structs (h.postfixed (variable n) leaf)) → FillsOne s st (local s.frame.depth n) j (checked w st (leaf_statement n leaf))
unfolding judge span_of literal value_of
fills_one s w st n j leaf here = record {
  fine = judged.0.faults;
  state = ap (λ z. let y : o.State = record { env = st.env; structs = z; next = st.next + 1 } in y) judged.0.structs_stay;
  tree = value_tree nowhere (judge st.env st.structs (hs.stored (h.postfixed (variable n) leaf) h.zero_tree)).operand;
  trees = refl;
  runs = λ exprs is st1.
      ap (λ z. x.value_of z (context_of s) st1 >>= λ g. gives m.goes_on) (is ∙ judged.1 nowhere)
      ∙ ap (λ (r : Outcome mv.Value). r >>= λ g. gives m.goes_on) (zero_runs s (local s.frame.depth n) j here.to (judge st.env st.structs (h.postfixed (variable n) leaf)).operand nowhere nowhere (var_type (ty.Int here.to)) st1 here.at);
}
  where
    zero : Known
    zero = literal (record { span = nowhere; value = pos 0; ty = i.Int })

    judged : IsFine st.structs (judge st.env st.structs (hs.stored (h.postfixed (variable n) leaf) h.zero_tree)) × ((at : Span) → value_tree at (judge st.env st.structs (hs.stored (h.postfixed (variable n) leaf) h.zero_tree)).operand ≡
        typed nowhere (var_type (ty.Int here.to)) (t.assign (place_of (judge st.env st.structs (h.postfixed (variable n) leaf)).operand.tree) (as_type (ty.Int here.to) (value_of zero).null (value_tree nowhere zero))))
    judged = assign_judged s st.env st.structs (v.Int here.to) (h.postfixed (variable n) leaf) h.zero_tree here.fine (record { typed = here.at.typed; designates = here.at.designates; changes = here.at.changes; no_array = λ el k e. cc; parts = refl })
        (record { faults = refl; structs_stay = refl }) refl (zero_fits (v.Int here.to) refl)

-- one, and those behind it
fills_more : (s : Scene) (w : k.Context) (st : o.State) (n j : ℕ) (l : leaves.Leaf) (ls : List leaves.Leaf) → FillsOne s st (local s.frame.depth n) j (checked w st (leaf_statement n l)) → Fills s (advanced st 1) (local s.frame.depth n) (j + 1) (length ls) (checked_all w (advanced st 1) (e.stmt_trees (map (leaf_statement n) ls))) →
    Fills s st (local s.frame.depth n) j (length (l ∷ ls)) (checked_all w st (e.stmt_trees (map (leaf_statement n) (l ∷ ls))))
fills_more s w st n j l ls first later =
    subst (λ z. Fills s st (local s.frame.depth n) j (length (l ∷ ls)) (made z one.trees)) (sym first.state)
    (subst (λ z. Fills s st (local s.frame.depth n) j (length (l ∷ ls)) (made (advanced st 1) z)) (sym first.trees) (record {
      fine = no_faults one.faults rest.faults first.fine later.fine;
      state = later.state ∙ advanced_more st 1 (length rest.trees) (suc (length rest.trees)) (counts (length rest.trees));
      runs = λ exprs listed st1.
          ap (λ (r : Outcome m.Flow). r >>= m.after_flow (all_of (body_trees rest.bodies) (code_of s exprs))) (first.runs exprs listed.0 st1)
          ∙ later.runs exprs listed.1 (record st1 { memory = write_cell st1.memory (local s.frame.depth n) j (number (pos 0)) });
    }))
  where
    one : Checked
    one = checked w st (leaf_statement n l)

    rest : CheckedAll
    rest = checked_all w (advanced st 1) (e.stmt_trees (map (leaf_statement n) ls))

    made : o.State → List t.ExprTree → CheckedAll
    made z ts =
        let r = checked_all w z (e.stmt_trees (map (leaf_statement n) ls)) in
        record { state = r.state; bodies = one.tree ∷ r.bodies; trees = ts ++ r.trees; faults = one.faults ++ r.faults }

    counts : (k : ℕ) → 1 + k ≡ suc k
    counts k = omega arith

fills : (ls : List leaves.Leaf) (s : Scene) (w : k.Context) (st : o.State) (n j : ℕ) → IsFine st.structs (judge st.env st.structs (variable n)) → AllAt s st.env st.structs (local s.frame.depth n) j (judge st.env st.structs (variable n)).operand ls →
    Fills s st (local s.frame.depth n) j (length ls) (checked_all w st (e.stmt_trees (map (leaf_statement n) ls)))
fills [] s w st n j fine_one all = record { fine = refl; state = advanced_none st; runs = λ exprs listed st1. refl }
fills (l ∷ ls) s w st n j fine_one all =
    fills_more s w st n j l ls (fills_one s w st n j l (leaf_judged s st.env st.structs n j l fine_one all.0.0 all.0.1)) (fills ls s w (advanced st 1) n (j + 1) fine_one all.1)

-- ---- what the memories are then

block_self : (b : Block) → same_block b b ≡ true
block_self (local d n) = ap (λ z. z && nat_eq n n) (nat_eq_true d d refl) ∙ nat_eq_true n n refl
block_self (global g) = nat_eq_true g g refl

put_self : (m : Memory) (b : Block) (xs : List Cell) → put m b xs b ≡ xs
put_self m b xs = ap (λ z. if z then xs else m b) (block_self b)

-- cells in place of those from a place on
abbrev overwritten : List Cell → ℕ → List Cell → List Cell
overwritten xs j [] = xs
overwritten xs j (z ∷ zs) = overwritten (slice_set xs j z) (j + 1) zs

written_there : (zs : List Cell) (m : Memory) (b : Block) (j : ℕ) → x.write_all m b j zs b ≡ overwritten (m b) j zs
written_there [] m b j = refl
written_there (z ∷ zs) m b j = written_there zs (write_cell m b j z) b (j + 1) ∙ ap (λ xs. overwritten xs (j + 1) zs) (put_self m b (slice_set (m b) j z))

written_apart : (zs : List Cell) (m : Memory) (b a : Block) (j : ℕ) → same_block a b ≡ false → x.write_all m b j zs a ≡ m a
written_apart [] m b a j h = refl
written_apart (z ∷ zs) m b a j h = written_apart zs (write_cell m b j z) b a (j + 1) h ∙ ap (λ y. if y then slice_set (m b) j z else m a) h

set_seam : (before : List Cell) (y z : Cell) (rest : List Cell) → slice_set (before ++ y ∷ rest) (length before) z ≡ (before ++ z ∷ []) ++ rest
set_seam [] y z rest = refl
set_seam (w ∷ before) y z rest = ap (λ ys. w ∷ ys) (set_seam before y z rest)

all_overwritten : (zs before xs : List Cell) (j : ℕ) → length xs ≡ length zs → j ≡ length before → overwritten (before ++ xs) j zs ≡ before ++ zs
all_overwritten [] before [] j same at = refl
all_overwritten [] before (y ∷ xs) j same at = absurd (none same)
  where
    none : suc (length xs) ≡ 0 → ⊥
    none h = omega (arith, h)
all_overwritten (z ∷ zs) before [] j same at = absurd (none same)
  where
    none : 0 ≡ suc (length zs) → ⊥
    none h = omega (arith, h)
all_overwritten (z ∷ zs) before (y ∷ xs) j same at =
    ap (λ k. overwritten (slice_set (before ++ y ∷ xs) k z) (j + 1) zs) at
    ∙ ap (λ ys. overwritten ys (j + 1) zs) (set_seam before y z xs)
    ∙ all_overwritten zs (before ++ z ∷ []) xs (j + 1) (omega (arith, same)) (let more = length-append before (z ∷ []) in omega (arith, more, at))
    ∙ append_assoc before (z ∷ []) zs

-- all cells of a block are written
written_whole : (zs : List Cell) (m : Memory) (b a : Block) → length (m b) ≡ length zs → x.write_all m b 0 zs a ≡ put m b zs a
written_whole zs m b a same = go (same_block a b) refl
  where
    go : (y : Bool) → same_block a b ≡ y → x.write_all m b 0 zs a ≡ (if y then zs else m a)
    go true e = subst (λ z. x.write_all m b 0 zs z ≡ zs) (sym (block_same a b e)) (written_there zs m b 0 ∙ all_overwritten zs [] (m b) 0 same refl)
    go false e = written_apart zs m b a 0 e

zeros_length : (n : ℕ) → length (zeros n) ≡ n
zeros_length zero = refl
zeros_length (suc n) = ap suc (zeros_length n)

zeros_core : (s : Scene) (n : ℕ) → replicate n (int_cell (pos 0)) ≡ map (core_cell s) (zeros n)
zeros_core s zero = refl
zeros_core s (suc n) = ap (λ cs. int_cell (pos 0) ∷ cs) (zeros_core s n)

zeros_fit : (P : Cell → Type 0) (n : ℕ) → P (number (pos 0)) → AllCells P (zeros n)
zeros_fit P zero h k = h
zeros_fit P (suc n) h zero = h
zeros_fit P (suc n) h (suc k) = zeros_fit P n h k

filled_alike : (s : Scene) (n count : ℕ) (fresh_one : bm.Block) (st : State) (st' : c.State) → OneToOne s.global_number → Alike s st st' → length (st.memory (local s.frame.depth n)) ≡ count → fresh_one.cells ≡ replicate count (int_cell (pos 0)) →
    Alike s (record st { memory = x.write_all st.memory (local s.frame.depth n) 0 (zeros count) }) (with_blocks (bs.put st'.memory (Local s.frame.depth n) fresh_one) st')
filled_alike s n count fresh_one st st' numbers al same is =
    alike_with s st st' (x.write_all st.memory b 0 (zeros count)) (bs.put st'.memory (Local s.frame.depth n) fresh_one) al
    (λ a. blocks_put s st.memory st'.memory b (zeros count) fresh_one numbers al.blocks (is ∙ zeros_core s count) a ∙ ap (map (core_cell s)) (sym (written_whole (zeros count) st.memory b a (same ∙ sym (zeros_length count)))))
    (fits_all_written s (zeros count) st.memory b 0 al.fits (zeros_fit (CellFits s (reach_in s b)) count tt))
    (live_all_written s (zeros count) st.memory b 0 al.live)
  where
    b : Block
    b = local s.frame.depth n

-- ---- the statement

-- a type of more than one cell, as a block of integers
pub record Compound (s : Scene) (u : VarTy) : Type 0 where
  pub fresh : (bm.fresh (shape_of s.context.structs u)).cells ≡ replicate (cells_of s.context.structs u) (int_cell (pos 0))
  pub count : cells_in s u ≡ cells_of s.context.structs u
  pub no_pointer : (elem : Elem) (f : Bool) → u ≡ v.Pointer elem f → ⊥
  pub trees : (n : ℕ) → hs.cleared s.context.structs u (hs.variable n) ≡ map (leaf_statement n) (leaves.object_leaves (leaves.leaves_from [] s.context.structs) u)

pub compound : (s : Scene) (u : VarTy) → IsTrue (not (is_single u)) → Compound s u
unfolding leaves.leaves_of
compound s (v.Int to) h = true_not_false (sym h)
compound s (v.Struct k) h = record { fresh = refl; count = refl; no_pointer = λ elem f e. cc; trees = λ n. refl }
compound s (v.Array el k) h = record { fresh = refl; count = refl; no_pointer = λ elem f e. cc; trees = λ n. refl }
compound s (v.Pointer el f) h = true_not_false (sym h)

pub fill_means : (s : Scene) (w : k.Context) (st : o.State) (n : ℕ) → SceneFits s → AllKnown s st.env st.structs → IsTrue (nat_lt n (length s.context.variables)) → IsTrue (not (is_single (type_at s.context.variables n))) →
    StatementsMean s st (checked_all w st (e.stmt_trees (hs.cleared s.context.structs (type_at s.context.variables n) (hs.variable n)))) (does (clear n) (frame_of s) s.core_calls)
fill_means s w st n fits known near ok =
    subst (λ z. StatementsMean s st (checked_all w st (e.stmt_trees z)) (does (clear n) (frame_of s) s.core_calls)) (sym (to.trees n)) (record {
      fine = filled.fine;
      state = filled.state;
      same = λ exprs listed st1 st1' al. subst (λ z. Same s (GoesOn s) z (does (clear n) (frame_of s) s.core_calls st1')) (sym (filled.runs exprs listed st1)) (record {
        alike = filled_alike s n (length ls) fresh_one st1 st1' fits.numbers al (own_live s st1.memory n fits.own al.live (below_holds n (length s.context.variables) near) ∙ to.count ∙ sym long) (to.fresh ∙ ap (λ z. replicate z (int_cell (pos 0))) (sym long));
        same = tt;
      });
    })
  where
    u : VarTy
    u = type_at s.context.variables n

    to : Compound s u
    to = compound s u ok

    fresh_one : bm.Block
    fresh_one = bm.fresh (shape_of s.context.structs u)

    ls : List leaves.Leaf
    ls = leaves.object_leaves (leaves.leaves_from [] s.context.structs) u

    there : ObjectAt s st.env st.structs (leaves.leaves_from [] s.context.structs) u
    there = leaves_at s st.env st.structs u known.fields fits.structs to.no_pointer

    long : length ls ≡ cells_of s.context.structs u
    long = there.long ∙ lemmas.sizes s.context.structs u

    named_one : judge st.env st.structs (variable n) ≡ alone st.structs (fine (an_object (object_as u) (t.local (local_id n))))
    named_one = name_is s st.env st.structs n (known.variables n (below_holds n (length s.context.variables) near))

    filled : Fills s st (local s.frame.depth n) 0 (length ls) (checked_all w st (e.stmt_trees (map (leaf_statement n) ls)))
    filled = fills ls s w st n 0 (subst (λ (z : Judged). IsFine st.structs z) (sym named_one) (record { faults = refl; structs_stay = refl }))
        (there.all (local s.frame.depth n) 0 (judge st.env st.structs (variable n)).operand (subst (λ (z : Judged). At s (local s.frame.depth n) 0 u z.operand) (sym named_one) (variable_there s n)))
