-- Paths of fields, and what stands behind an operand.
use Rattle.std.proofs.Common.{◌≡◌, ◌∙◌, ◌<◌, ℕ, refl, ap, sym, subst, Bool, true, false, Option, None, List, [], ◌∷◌, ◌++◌, append_assoc, Result, Ok, Err, if◌then◌else◌}
use Rattle.std.specs.Prelude.{IsTrue, length, not}
use Rattle.pt_base.specs.declared.ids.FnId.{FnId}
use Rattle.pt_base.specs.declared.span.Span.{Span}
use Rattle.pt_base.proofs.Booleans.{both_hold_first, both_hold_second, true_not_false}
use Rattle.pt_base.proofs.Lists.{append_nil}
use Rattle.pt_base.proofs.Numbers.{below_holds}
use Rattle.pt_tree.specs.ExpressionTree as e
use Rattle.typed_tree.specs.declared.types.VarTy.{VarTy}
use Rattle.typed_tree.specs.declared.types.VarTy.TheVariants as v
use Rattle.typed_tree.specs.Sizes.{fields_of}
use Rattle.check_declarations.specs.Structs.{Structs}
use Rattle.check_expressions.specs.Environment.{Env}
use Rattle.check_expressions.specs.Expressions.{Judged, judge, judge_postfixes, judge_postfix, headed, postfix_span}
use Rattle.check_expressions.specs.Operands.{Known, Made, fine, joined, span_of}
use Rattle.check_expressions.specs.Postfixes.{is_called, is_call, function_called, function_named}
use Rattle.block_memory.specs.Blocks.{Blocks}
use Rattle.pt_core.specs.Types.{field_type, path_type}
use Rattle.pt_core.specs.Values as w
use Rattle.pt_core.specs.Values.{Stop, ◌>>?◌, along}
use Rattle.pt_core.specs.WellFormedExpression.{is_field, is_path}
use Rattle.half_trees.specs.Names.{nowhere}
use Rattle.half_trees.specs.Expressions.{dots, extended, with_postfixes}
use Rattle.half_meaning_law.specs.Relations.{Scene}
use Rattle.half_meaning_law.specs.Known.{FieldKnown}
use Rattle.half_meaning_law.specs.Expressions.{IsFine}
use Rattle.half_meaning_law.proofs.Judged.{no_faults, NotCalled, leads_on, IsNoChain}
use Rattle.half_meaning_law.proofs.Places.{Asks, ObjectMeans, asked_as, with_field, field_means, dot_is}

-- ---- paths

-- what is made of a path by the place that it begins at
abbrev pub then_along : Scene → List ℕ → Asks → Asks
then_along s path ask blocks = ask blocks >>? λ at. Ok (along s.context path at)

pub along_none : (s : Scene) (ask : Asks) (blocks : Blocks) → ask blocks ≡ then_along s [] ask blocks
along_none s ask blocks = go (ask blocks)
  where
    go : (z : Result w.Location Stop) → z ≡ (z >>? λ at. Ok at)
    go (Ok at) = refl
    go (Err stop) = refl

pub along_more : (s : Scene) (j : ℕ) (path : List ℕ) (ask : Asks) (blocks : Blocks) → then_along s path (λ b. ask b >>? λ at. Ok (w.field_at s.context j at)) blocks ≡ then_along s (j ∷ path) ask blocks
along_more s j path ask blocks = go (ask blocks)
  where
    go : (z : Result w.Location Stop) → ((z >>? λ at. Ok (w.field_at s.context j at)) >>? λ at. Ok (along s.context path at)) ≡ (z >>? λ at. Ok (along s.context (j ∷ path) at))
    go (Ok at) = refl
    go (Err stop) = refl

-- `&` may stand before a field, whatever it is a field of
abbrev pub whole_after : Bool → List ℕ → Bool
whole_after whole [] = whole
whole_after whole (j ∷ path) = true

-- an object, and no fault
pub record JudgedObject (s : Scene) (structs : Structs) (ty : VarTy) (const whole : Bool) (ask : Asks) (j : Judged) : Type 0 where
  pub fine : IsFine structs j
  pub object : ObjectMeans s ty const whole ask j.operand

-- the fields of each struct are known
abbrev pub Fields : Scene → Structs → Type 0
Fields s structs = (n k : ℕ) → k < length (fields_of s.context.structs n) → FieldKnown s structs n k

pub path_means : (s : Scene) (env : Env) (structs : Structs) (path : List ℕ) (ty : VarTy) (const whole : Bool) (ask : Asks) (k : Known) (callee : Option FnId) (at : Span) → Fields s structs →
    IsTrue (is_path s.context.structs ty path) → ObjectMeans s ty const whole ask k →
    JudgedObject s structs (path_type s.context.structs ty path) const (whole_after whole path) (then_along s path ask) (judge_postfixes env structs nowhere callee at k (e.postfix_trees (dots s.context.structs ty path)))
unfolding judge_postfixes judge_postfix postfix_span
path_means s env structs [] ty const whole ask k callee at known ok h = record {
  fine = record { faults = refl; structs_stay = refl };
  object = asked_as s ty const whole ask (then_along s [] ask) k (along_none s ask) h;
}
path_means s env structs (j ∷ path) (v.Struct n) const whole ask k callee at known ok h =
    let f = known n j (below_holds j (length (fields_of s.context.structs n)) (both_hold_first (is_field s.context.structs (v.Struct n) j) (is_path s.context.structs (field_type s.context.structs (v.Struct n) j) path) ok)) in
    let after = with_field k (record { number = j; entry = f.entry }) in
    let rest = path_means s env structs path (field_type s.context.structs (v.Struct n) j) const true (λ blocks. ask blocks >>? λ at. Ok (w.field_at s.context j at)) after None nowhere known
    (both_hold_second (is_field s.context.structs (v.Struct n) j) (is_path s.context.structs (field_type s.context.structs (v.Struct n) j) path) ok) (field_means s structs n j const whole ask k f h) in
    subst (λ (z : Made). JudgedObject s structs (path_type s.context.structs (field_type s.context.structs (v.Struct n) j) path) const true (then_along s (j ∷ path) ask) (behind z)) (sym (dot_is s structs n j k at f h.typed)) (record {
      fine = record { faults = rest.fine.faults; structs_stay = rest.fine.structs_stay };
      object = asked_as s (path_type s.context.structs (field_type s.context.structs (v.Struct n) j) path) const true (then_along s path (λ b. ask b >>? λ at. Ok (w.field_at s.context j at))) (then_along s (j ∷ path) ask) _ (along_more s j path ask) (all path rest.object);
    })
  where
    behind : Made → Judged
    behind z =
        let r = judge_postfixes env structs nowhere None nowhere z.operand (e.postfix_trees (dots s.context.structs (field_type s.context.structs (v.Struct n) j) path)) in
        record { operand = r.operand; structs = r.structs; faults = z.faults ++ r.faults }

    all : {u : VarTy} {g : Bool} {asks : Asks} {o : Known} (p : List ℕ) → ObjectMeans s u g (whole_after true p) asks o → ObjectMeans s u g true asks o
    all [] z = z
    all (i ∷ p) z = z
path_means s env structs (j ∷ path) (v.Int t) const whole ask k callee at known ok h = true_not_false (sym ok)
path_means s env structs (j ∷ path) (v.Array elem count) const whole ask k callee at known ok h = true_not_false (sym ok)
path_means s env structs (j ∷ path) (v.Pointer elem fixed) const whole ask k callee at known ok h = true_not_false (sym ok)

-- ---- what stands behind an operand

-- what is judged of these postfixes, and of more behind them
abbrev Both : Env → Span → Judged → List e.PostfixTree → Judged → Type 0
Both env sp q more all = (end : Span) × (all ≡ record {
  operand = (judge_postfixes env q.structs sp None end q.operand (e.postfix_trees more)).operand;
  structs = (judge_postfixes env q.structs sp None end q.operand (e.postfix_trees more)).structs;
  faults = q.faults ++ (judge_postfixes env q.structs sp None end q.operand (e.postfix_trees more)).faults;
})

-- behind the judgment of one
one_more : (env : Env) (sp : Span) (one so_far all : Judged) (more : List e.PostfixTree) → Both env sp so_far more all →
    Both env sp (record { operand = so_far.operand; structs = so_far.structs; faults = one.faults ++ so_far.faults }) more (record { operand = all.operand; structs = all.structs; faults = one.faults ++ all.faults })
one_more env sp one so_far all more ih = (
  ih.0,
  ap (λ (z : Judged). let y : Judged = record { operand = z.operand; structs = z.structs; faults = one.faults ++ z.faults } in y) ih.1
      ∙ ap (λ fs. let z : Judged = record { operand = last.operand; structs = last.structs; faults = fs } in z) (sym (append_assoc one.faults so_far.faults last.faults)),
)
  where
    last : Judged
    last = judge_postfixes env so_far.structs sp None ih.0 so_far.operand (e.postfix_trees more)

judged_behind : (env : Env) (structs : Structs) (sp : Span) (callee : Option FnId) (at : Span) (k : Known) (p : e.PostfixTree) (ps : e.PostfixTrees) (more : List e.PostfixTree) →
    Both env sp (judge_postfixes env structs sp callee at k (e.postfix_and p ps)) more (judge_postfixes env structs sp callee at k (e.postfix_and p (with_postfixes ps more)))
unfolding judge_postfixes
judged_behind env structs sp callee at k p e.no_postfixes more =
    (joined sp (postfix_span p), ap (λ fs. let z : Judged = record { operand = rest.operand; structs = rest.structs; faults = fs } in z) (sym (ap (λ fs. fs ++ rest.faults) (append_nil one.faults))))
  where
    one : Judged
    one = judge_postfix env structs sp callee at k p

    rest : Judged
    rest = judge_postfixes env one.structs sp None (joined sp (postfix_span p)) one.operand (e.postfix_trees more)
judged_behind env structs sp callee at k p (e.postfix_and q ps) more =
    one_more env sp (judge_postfix env structs sp callee at k p) (judge_postfixes env (judge_postfix env structs sp callee at k p).structs sp None (joined sp (postfix_span p)) (judge_postfix env structs sp callee at k p).operand (e.postfix_and q ps))
    (judge_postfixes env (judge_postfix env structs sp callee at k p).structs sp None (joined sp (postfix_span p)) (judge_postfix env structs sp callee at k p).operand (e.postfix_and q (with_postfixes ps more))) more
    (judged_behind env (judge_postfix env structs sp callee at k p).structs sp None (joined sp (postfix_span p)) (judge_postfix env structs sp callee at k p).operand q ps more)

-- ---- an operand with more behind it

-- what is judged of more behind an operand, wherever it stands
abbrev pub MoreJudged : Env → Structs → List e.PostfixTree → (Judged → Type 0) → Judged → Type 0
MoreJudged env structs more P j = (at : Span) → P (judge_postfixes env structs nowhere None at j.operand (e.postfix_trees more))

-- it is fine, and this holds of what is known
abbrev pub FineAnd : Structs → (Known → Type 0) → Judged → Type 0
FineAnd structs P j = IsFine structs j × P j.operand

not_called : (env : Env) (a : e.ExprTree) (ps : e.PostfixTrees) → is_called ps ≡ false → function_called env a ps ≡ None
unfolding function_called
not_called env a ps h = ap (λ z. if z then function_named env a else None) h

no_first : (ps : e.PostfixTrees) (more : List e.PostfixTree) → is_called ps ≡ false → is_called (e.postfix_trees more) ≡ false → is_called (with_postfixes ps more) ≡ false
unfolding is_called
no_first e.no_postfixes more h k = k
no_first (e.postfix_and p ps) more h k = h

-- an operand that had no postfixes
first_behind : (env : Env) (structs : Structs) (a : e.ExprTree) (more : List e.PostfixTree) (P : Known → Type 0) → is_called (e.postfix_trees more) ≡ false → IsFine structs (judge env structs a) →
    MoreJudged env structs more (FineAnd structs P) (judge env structs a) → FineAnd structs P (judge env structs (e.postfix nowhere a (e.postfix_trees more)))
unfolding judge headed
first_behind env structs a more P none left on =
    subst (λ z. FineAnd structs P (made z)) (sym (not_called env a (e.postfix_trees more) none))
    (subst (λ z. FineAnd structs P (with_structs z)) (sym left.structs_stay) (
      record {
        faults = no_faults p.faults (judge_postfixes env structs nowhere None (span_of a) p.operand (e.postfix_trees more)).faults left.faults (on (span_of a)).0.faults;
        structs_stay = (on (span_of a)).0.structs_stay;
      },
      (on (span_of a)).1,
    ))
  where
    p : Judged
    p = judge env structs a

    made : Option FnId → Judged
    made callee =
        let o = headed callee structs p in
        let q = judge_postfixes env o.structs nowhere callee (span_of a) o.operand (e.postfix_trees more) in
        record { operand = q.operand; structs = q.structs; faults = o.faults ++ q.faults }

    with_structs : Structs → Judged
    with_structs z =
        let q = judge_postfixes env z nowhere None (span_of a) p.operand (e.postfix_trees more) in
        record { operand = q.operand; structs = q.structs; faults = p.faults ++ q.faults }

-- an operand that had some
later_behind : (env : Env) (structs : Structs) (a : e.ExprTree) (first : e.PostfixTree) (ps : e.PostfixTrees) (more : List e.PostfixTree) (P : Known → Type 0) → is_called (e.postfix_and first ps) ≡ false →
    IsFine structs (judge env structs (e.postfix nowhere a (e.postfix_and first ps))) → MoreJudged env structs more (FineAnd structs P) (judge env structs (e.postfix nowhere a (e.postfix_and first ps))) →
    FineAnd structs P (judge env structs (e.postfix nowhere a (e.postfix_and first (with_postfixes ps more))))
unfolding judge headed is_called
later_behind env structs a first ps more P none left on =
    subst (λ z. FineAnd structs P (made z)) (sym (not_called env a (e.postfix_and first (with_postfixes ps more)) none))
    (both
    (subst (λ z. IsFine structs (so_far z)) (not_called env a (e.postfix_and first ps) none) left)
    (subst (λ z. MoreJudged env structs more (FineAnd structs P) (so_far z)) (not_called env a (e.postfix_and first ps) none) on))
  where
    p : Judged
    p = judge env structs a

    so_far : Option FnId → Judged
    so_far callee =
        let o = headed callee structs p in
        let q = judge_postfixes env o.structs nowhere callee (span_of a) o.operand (e.postfix_and first ps) in
        record { operand = q.operand; structs = q.structs; faults = o.faults ++ q.faults }

    made : Option FnId → Judged
    made callee =
        let o = headed callee structs p in
        let q = judge_postfixes env o.structs nowhere callee (span_of a) o.operand (e.postfix_and first (with_postfixes ps more)) in
        record { operand = q.operand; structs = q.structs; faults = o.faults ++ q.faults }

    q : Judged
    q = judge_postfixes env p.structs nowhere None (span_of a) p.operand (e.postfix_and first ps)

    last : Structs → Span → Judged
    last z end = judge_postfixes env z nowhere None end q.operand (e.postfix_trees more)

    all : Structs → Span → Judged
    all z end = record { operand = (last z end).operand; structs = (last z end).structs; faults = p.faults ++ (q.faults ++ (last z end).faults) }

    both : IsFine structs (so_far None) → MoreJudged env structs more (FineAnd structs P) (so_far None) → FineAnd structs P (made None)
    both fine next =
        let eq = judged_behind env p.structs nowhere None (span_of a) p.operand first ps more in
        subst (λ (z : Judged). FineAnd structs P (record { operand = z.operand; structs = z.structs; faults = p.faults ++ z.faults })) (sym eq.1)
        (subst (λ z. FineAnd structs P (all z eq.0)) (sym fine.structs_stay) (
          record {
            faults = sym (append_assoc p.faults q.faults (last structs eq.0).faults) ∙ no_faults (p.faults ++ q.faults) (last structs eq.0).faults fine.faults (next eq.0).0.faults;
            structs_stay = (next eq.0).0.structs_stay;
          },
          (next eq.0).1,
        ))

uncalled : (p : e.PostfixTree) (ps : e.PostfixTrees) → not (is_call p) ≡ true → is_called (e.postfix_and p ps) ≡ false
unfolding is_called
uncalled p ps h = go (is_call p) refl
  where
    go : (z : Bool) → is_call p ≡ z → z ≡ false
    go true e = true_not_false (sym h ∙ ap not e)
    go false e = refl

-- whatever it is
pub extended_behind : (env : Env) (structs : Structs) (a : e.ExprTree) (more : List e.PostfixTree) (P : Known → Type 0) → NotCalled a → is_called (e.postfix_trees more) ≡ false → IsFine structs (judge env structs a) →
    MoreJudged env structs more (FineAnd structs P) (judge env structs a) → FineAnd structs P (judge env structs (extended a more))
extended_behind env structs (e.name w) more P shape none left on = first_behind env structs (e.name w) more P none left on
extended_behind env structs (e.constant k) more P shape none left on = first_behind env structs (e.constant k) more P none left on
extended_behind env structs (e.prefix sp op b) more P shape none left on = first_behind env structs (e.prefix sp op b) more P none left on
extended_behind env structs (e.cast sp specs pointer b) more P shape none left on = first_behind env structs (e.cast sp specs pointer b) more P none left on
extended_behind env structs (e.chain sp b ls) more P shape none left on = first_behind env structs (e.chain sp b ls) more P none left on
extended_behind env structs (e.choice sp b d f) more P shape none left on = first_behind env structs (e.choice sp b d f) more P none left on
extended_behind env structs (e.assign sp op b d) more P shape none left on = first_behind env structs (e.assign sp op b d) more P none left on
extended_behind env structs (e.postfix sp b e.no_postfixes) more P shape none left on = true_not_false (sym shape.1)
extended_behind env structs (e.postfix sp b (e.postfix_and p ps)) more P shape none left on =
    later_behind env structs b p ps more P (uncalled p ps shape.1) (subst (λ z. IsFine structs (judge env structs (e.postfix z b (e.postfix_and p ps)))) shape.0 left)
    (subst (λ z. MoreJudged env structs more (FineAnd structs P) (judge env structs (e.postfix z b (e.postfix_and p ps)))) shape.0 on)

-- what is made longer can be made longer again
pub extended_shape : (a : e.ExprTree) (more : List e.PostfixTree) → NotCalled a → leads_on (e.postfix_trees more) ≡ true → NotCalled (extended a more)
extended_shape (e.name w) more shape some = (refl, some)
extended_shape (e.constant k) more shape some = (refl, some)
extended_shape (e.prefix sp op b) more shape some = (refl, some)
extended_shape (e.cast sp specs pointer b) more shape some = (refl, some)
extended_shape (e.chain sp b ls) more shape some = (refl, some)
extended_shape (e.choice sp b d f) more shape some = (refl, some)
extended_shape (e.assign sp op b d) more shape some = (refl, some)
extended_shape (e.postfix sp b e.no_postfixes) more shape some = (refl, some)
extended_shape (e.postfix sp b (e.postfix_and p ps)) more shape some = (refl, shape.1)

pub extended_no_chain : (a : e.ExprTree) (more : List e.PostfixTree) → IsNoChain (extended a more)
extended_no_chain (e.name w) more = tt
extended_no_chain (e.constant k) more = tt
extended_no_chain (e.prefix sp op b) more = tt
extended_no_chain (e.cast sp specs pointer b) more = tt
extended_no_chain (e.chain sp b ls) more = tt
extended_no_chain (e.choice sp b d f) more = tt
extended_no_chain (e.assign sp op b d) more = tt
extended_no_chain (e.postfix sp b ps) more = tt
