-- Expressions without a fault are sound: one case for each form.
use Rattle.std.proofs.Common.{◌≡◌, ◌∙◌, ◌≤◌, ◌+◌, ℕ, refl, sym, subst, List, [], ◌∷◌, ◌++◌, Bool, true, false, Option, Some, None, length, is_some, inr}
use Rattle.std.specs.Prelude.{IsTrue, ◌&&◌, slice_get, nat_lt}
use Rattle.std.specs.List.{list_all}
use Rattle.pt_base.specs.declared.span.Span.{Span}
use Rattle.pt_base.specs.declared.ids.FnId.{FnId}
use Rattle.pt_base.proofs.Booleans.{both_hold_first, both_hold_second}
use Rattle.pt_base.proofs.Lists.{append_nil_first, append_nil_second as none_right}
use Rattle.pt_tree.specs.ExpressionTree as e
use Rattle.pt_tree.specs.SpecifierTree.{SpecTrees}
use Rattle.pt_tree.specs.Facts.{expr_sound, exprs_sound, link_sound, links_sound, postfix_sound, postfixes_sound, specs_sound}
use Rattle.type_rules.specs.declared.types.Type.{«Type»}
use Rattle.typed_tree.specs.WellFormedExpression.{Names}
use Rattle.check_declarations.specs.declared.fault.TypeFault.{TypeFault}
use Rattle.check_declarations.specs.Specifiers.{specified}
use Rattle.check_declarations.specs.Structs.{Structs}
use Rattle.check_expressions.specs.Environment.{Env}
use Rattle.check_expressions.specs.Expressions.{Judged, CastBase, Linked, Arguments, cast_specified, headed, postfix_span, judge, judge_links, judge_link, judge_postfixes, judge_postfix, judge_arguments}
use Rattle.check_expressions.specs.Links.{SoFar, begun, sort_of}
use Rattle.check_expressions.specs.Operands.{Known, faulty, joined, span_of, value_of, value_tree}
use Rattle.check_expressions.specs.Postfixes.{argument_faults, function_called, params_for, is_call, is_called}
use Rattle.type_law.specs.DeclarationsLaws.{SpecifiersAreSound}
use Rattle.type_law.specs.DeclarationsSound.{SoundStructs}
use Rattle.type_law.specs.DeclarationsTypes.{is_base, is_parameter}
use Rattle.type_law.specs.ExpressionsAgreement.{Agrees}
use Rattle.type_law.specs.ExpressionsLaws.{ExpressionsAreSound}
use Rattle.type_law.proofs.ExpressionsKnown.{SoundKnown, value_sound}
use Rattle.type_law.proofs.ExpressionsLinks as links
use Rattle.type_law.proofs.ExpressionsLinks.{Before, begun_before, chained_sound}
use Rattle.type_law.proofs.ExpressionsChoices.{chosen_sound}
use Rattle.type_law.proofs.ExpressionsAssignments.{assigned_sound, good_of}
use Rattle.type_law.proofs.ExpressionsPrefixes.{prefixed_sound, cast_sound, stepped_sound}
use Rattle.type_law.proofs.ExpressionsPostfixes.{FieldsAgree, indexed_sound, dotted_sound, arrow_sound}
use Rattle.type_law.proofs.ExpressionsFields.{fields_agree, count_within}
use Rattle.type_law.proofs.DeclarationsTableLemmas.{sound_prefix}
use Rattle.type_law.proofs.ExpressionsNames.{CalledAt, named_sound, literal_sound, called_entry}
use Rattle.type_law.proofs.ExpressionsCalls.{Passed, FromOn, from_here, from_next, from_none, from_start, argument_fits, argument_typed, called_sound, no_call, params_are}

-- ---- what is carried

-- no struct is declared, and the operand is sound
record Well (n : Names) (structs : Structs) (j : Judged) : Type 0 where
  same : j.structs ≡ structs
  known : SoundKnown n (length j.structs) j.operand

record WellLinked (n : Names) (structs : Structs) (is_logical : Bool) (l : Linked) : Type 0 where
  same : l.structs ≡ structs
  far : Before n (length l.structs) is_logical l.far

record WellPassed (n : Names) (structs : Structs) (params : List «Type») (a : Arguments) : Type 0 where
  same : a.structs ≡ structs
  passed : Passed n params a.trees

-- the head of postfixes: an operand, or the name of a function that is called
abbrev Head : Names → Env → ℕ → Option FnId → Known → e.PostfixTrees → Type 0
Head n env count None k ps = SoundKnown n count k
Head n env count (Some f) k ps = CalledAt env ps f

-- the same of one postfix
record CalledOne (env : Env) (p : e.PostfixTree) (f : FnId) : Type 0 where
  call : is_call p ≡ true
  entry : IsTrue (nat_lt f.0 (length env.functions))

abbrev HeadOne : Names → Env → ℕ → Option FnId → Known → e.PostfixTree → Type 0
HeadOne n env count None k p = SoundKnown n count k
HeadOne n env count (Some f) k p = CalledOne env p f

head_one : (n : Names) (env : Env) (count : ℕ) (callee : Option FnId) (k : Known) (p : e.PostfixTree) (ps : e.PostfixTrees) → Head n env count callee k (e.postfix_and p ps) → HeadOne n env count callee k p
unfolding is_called
head_one n env count None k p ps h = h
head_one n env count (Some f) k p ps h = record { call = h.call; entry = h.entry }

agrees_at : (n : Names) (env : Env) (structs later : Structs) → later ≡ structs → Agrees env structs n → Agrees env later n
agrees_at n env structs later same h = subst (λ t. Agrees env t n) (sym same) h

known_at : (n : Names) (structs later : Structs) (k : Known) → later ≡ structs → SoundKnown n (length structs) k → SoundKnown n (length later) k
known_at n structs later k same h = subst (λ t. SoundKnown n (length t) k) (sym same) h

below : (n : Names) (env : Env) (structs : Structs) → Agrees env structs n → length structs ≤ length n.structs
below n env structs h = count_within n structs h.more h.structs_are

fields : (n : Names) (env : Env) (structs : Structs) → Agrees env structs n → FieldsAgree n structs
fields n env structs h = fields_agree n structs h.more h.sound h.structs_are

-- ---- casts

record CastSound (structs : Structs) (c : CastBase) : Type 0 where
  same : c.structs ≡ structs
  base : IsTrue (is_base (length c.structs) c.base)

cast_base_sound : SpecifiersAreSound → (structs : Structs) (specs : SpecTrees) → SoundStructs structs → (cast_specified structs specs).faults ≡ [] → CastSound structs (cast_specified structs specs)
unfolding cast_specified
cast_base_sound spec structs specs h z =
    let r = spec false structs specs h (append_nil_first (specified false structs specs).faults _ z) in
    record { same = r.none refl; base = r.base }

-- ---- the head of postfixes

postfixes_case : (n : Names) (env : Env) (structs : Structs) (o : Option FnId) (s at : Span) (p : Judged) (ps : e.PostfixTrees) → (p.faults ≡ [] → Well n structs p) → ((f : FnId) → o ≡ Some f → CalledAt env ps f) →
    ((later : Structs) (k : Known) → later ≡ structs → Head n env (length later) o k ps → (judge_postfixes env later s o at k ps).faults ≡ [] → Well n later (judge_postfixes env later s o at k ps)) →
    (headed o structs p).faults ++ (judge_postfixes env (headed o structs p).structs s o at (headed o structs p).operand ps).faults ≡ [] →
    Well n structs (judge_postfixes env (headed o structs p).structs s o at (headed o structs p).operand ps)
unfolding headed
postfixes_case n env structs None s at p ps first called rest z =
    let h = first (append_nil_first p.faults _ z) in
    let r = rest p.structs p.operand h.same h.known (none_right p.faults _ z) in
    record { same = r.same ∙ h.same; known = r.known }
postfixes_case n env structs (Some f) s at p ps first called rest z =
    rest structs faulty refl (called f refl) (none_right (let none : List TypeFault = [] in none) _ z)

-- ---- all forms

mutual
  unfolding judge judge_links judge_link judge_postfixes judge_postfix judge_arguments is_call is_called

  law : SpecifiersAreSound → (n : Names) (env : Env) (structs : Structs) (a : e.ExprTree) → Agrees env structs n → IsTrue (expr_sound a) → (judge env structs a).faults ≡ [] → Well n structs (judge env structs a)
  law spec n env structs (e.name w) h ok z = record { same = refl; known = named_sound n env structs h w z }
  law spec n env structs (e.constant c) h ok z = record { same = refl; known = literal_sound n (length structs) c ok }
  law spec n env structs (e.prefix s op a) h ok z =
      let p : Judged = judge env structs a in
      let r = law spec n env structs a h ok (append_nil_first p.faults _ z) in
      record { same = r.same; known = prefixed_sound n p.structs (length p.structs) op s (span_of a) p.operand r.known (none_right p.faults _ z) }
  law spec n env structs (e.cast s specs pointer a) h ok z =
      let c : CastBase = cast_specified structs specs in
      let p : Judged = judge env c.structs a in
      let parts = append_nil_first (c.faults ++ p.faults) _ z in
      let b = cast_base_sound spec structs specs (sound_prefix structs h.more h.sound) (append_nil_first c.faults p.faults parts) in
      let r = law spec n env c.structs a (agrees_at n env structs c.structs b.same h) (both_hold_second (specs_sound specs) (expr_sound a) ok) (none_right c.faults p.faults parts) in
      let base = subst (λ (t : Structs). IsTrue (is_base (length t) c.base)) (sym r.same) b.base in
      record { same = r.same ∙ b.same; known = cast_sound n (length p.structs) pointer c.base s (span_of a) p.operand base r.known (none_right (c.faults ++ p.faults) _ z) }
  law spec n env structs (e.postfix s a ps) h ok z =
      let r = postfixes_case n env structs (function_called env a ps) s (span_of a) (judge env structs a) ps
      (λ y. law spec n env structs a h (both_hold_first (expr_sound a) (postfixes_sound ps) ok) y)
      (λ f y. called_entry n env structs h a ps f y)
      (λ later k same head y. law_postfixes spec n env later s (function_called env a ps) (span_of a) k ps (agrees_at n env structs later same h) (both_hold_second (expr_sound a) (postfixes_sound ps) ok) head y) z in
      record { same = r.same; known = r.known }
  law spec n env structs (e.chain s a ls) h ok z =
      let p : Judged = judge env structs a in
      let q : Linked = judge_links env p.structs s (is_some (sort_of ls)) (begun (span_of a) p.operand) ls in
      let parts = append_nil_first (p.faults ++ q.faults) _ z in
      let r = law spec n env structs a h (both_hold_first (expr_sound a) (links_sound ls) ok) (append_nil_first p.faults q.faults parts) in
      let t = law_links spec n env p.structs s (is_some (sort_of ls)) (begun (span_of a) p.operand) ls (agrees_at n env structs p.structs r.same h) (both_hold_second (expr_sound a) (links_sound ls) ok) (begun_before n (length p.structs) (is_some (sort_of ls)) (span_of a) p.operand r.known) (none_right p.faults q.faults parts) in
      record { same = t.same ∙ r.same; known = chained_sound n (length q.structs) (sort_of ls) s q.far t.far (none_right (p.faults ++ q.faults) _ z) }
  law spec n env structs (e.choice s a b c) h ok z =
      let p : Judged = judge env structs a in
      let q : Judged = judge env p.structs b in
      let r : Judged = judge env q.structs c in
      let parts = append_nil_first (p.faults ++ q.faults ++ r.faults) _ z in
      let two = append_nil_first (p.faults ++ q.faults) r.faults parts in
      let f = law spec n env structs a h (both_hold_first (expr_sound a) (expr_sound b && expr_sound c) ok) (append_nil_first p.faults q.faults two) in
      let others = both_hold_second (expr_sound a) (expr_sound b && expr_sound c) ok in
      let agree = agrees_at n env structs p.structs f.same h in
      let g = law spec n env p.structs b agree (both_hold_first (expr_sound b) (expr_sound c) others) (none_right p.faults q.faults two) in
      let agree' = agrees_at n env p.structs q.structs g.same agree in
      let i = law spec n env q.structs c agree' (both_hold_second (expr_sound b) (expr_sound c) others) (none_right (p.faults ++ q.faults) r.faults parts) in
      let known = known_at n q.structs r.structs p.operand i.same (known_at n p.structs q.structs p.operand g.same f.known) in
      let known' = known_at n q.structs r.structs q.operand i.same g.known in
      record {
        same = i.same ∙ g.same ∙ f.same;
        known = chosen_sound n (length r.structs) s (record { span = span_of a; known = p.operand }) (record { span = span_of b; known = q.operand }) (record { span = span_of c; known = r.operand }) (below n env r.structs (agrees_at n env q.structs r.structs i.same agree')) known known' i.known (none_right (p.faults ++ q.faults ++ r.faults) _ z);
      }
  law spec n env structs (e.assign s op a b) h ok z =
      let p : Judged = judge env structs a in
      let q : Judged = judge env p.structs b in
      let parts = append_nil_first (p.faults ++ q.faults) _ z in
      let f = law spec n env structs a h (both_hold_first (expr_sound a) (expr_sound b) ok) (append_nil_first p.faults q.faults parts) in
      let agree = agrees_at n env structs p.structs f.same h in
      let g = law spec n env p.structs b agree (both_hold_second (expr_sound a) (expr_sound b) ok) (none_right p.faults q.faults parts) in
      record {
        same = g.same ∙ f.same;
        known = assigned_sound n q.structs (length q.structs) op s (span_of a) (span_of b) p.operand q.operand (below n env q.structs (agrees_at n env p.structs q.structs g.same agree)) (known_at n p.structs q.structs p.operand g.same f.known) g.known (none_right (p.faults ++ q.faults) _ z);
      }

  law_links : SpecifiersAreSound → (n : Names) (env : Env) (structs : Structs) (s : Span) (is_logical : Bool) (far : SoFar) (ls : e.LinkTrees) → Agrees env structs n → IsTrue (links_sound ls) → Before n (length structs) is_logical far → (judge_links env structs s is_logical far ls).faults ≡ [] → WellLinked n structs is_logical (judge_links env structs s is_logical far ls)
  law_links spec n env structs s is_logical far e.no_links h ok b z = record { same = refl; far = b }
  law_links spec n env structs s is_logical far (e.link_and l ls) h ok b z =
      let one : Linked = judge_link env structs s is_logical far l in
      let rest : Linked = judge_links env one.structs s is_logical one.far ls in
      let f = law_link spec n env structs s is_logical far l h (both_hold_first (link_sound l) (links_sound ls) ok) b (append_nil_first one.faults rest.faults z) in
      let g = law_links spec n env one.structs s is_logical one.far ls (agrees_at n env structs one.structs f.same h) (both_hold_second (link_sound l) (links_sound ls) ok) f.far (none_right one.faults rest.faults z) in
      record { same = g.same ∙ f.same; far = g.far }

  law_link : SpecifiersAreSound → (n : Names) (env : Env) (structs : Structs) (s : Span) (is_logical : Bool) (far : SoFar) (l : e.LinkTree) → Agrees env structs n → IsTrue (link_sound l) → Before n (length structs) is_logical far → (judge_link env structs s is_logical far l).faults ≡ [] → WellLinked n structs is_logical (judge_link env structs s is_logical far l)
  law_link spec n env structs s is_logical far (e.link span op a) h ok b z =
      let q : Judged = judge env structs a in
      let r = law spec n env structs a h ok (append_nil_first q.faults _ z) in
      let before = subst (λ (t : Structs). Before n (length t) is_logical far) (sym r.same) b in
      let w = value_sound n (length q.structs) (span_of a) q.operand r.known in
      let under = links.link_sound n (length q.structs) is_logical op (joined s span) far (value_of q.operand) (value_tree (span_of a) q.operand) far.span (span_of a) (below n env q.structs (agrees_at n env structs q.structs r.same h)) before w (none_right q.faults _ z) in
      record { same = r.same; far = inr under }

  law_postfixes : SpecifiersAreSound → (n : Names) (env : Env) (structs : Structs) (s : Span) (callee : Option FnId) (at : Span) (k : Known) (ps : e.PostfixTrees) → Agrees env structs n → IsTrue (postfixes_sound ps) → Head n env (length structs) callee k ps → (judge_postfixes env structs s callee at k ps).faults ≡ [] → Well n structs (judge_postfixes env structs s callee at k ps)
  law_postfixes spec n env structs s None at k e.no_postfixes h ok head z = record { same = refl; known = head }
  law_postfixes spec n env structs s (Some f) at k e.no_postfixes h ok head z = let y : false ≡ true = head.call in cc
  law_postfixes spec n env structs s callee at k (e.postfix_and p ps) h ok head z =
      let one : Judged = judge_postfix env structs s callee at k p in
      let rest : Judged = judge_postfixes env one.structs s None (joined s (postfix_span p)) one.operand ps in
      let f = law_postfix spec n env structs s callee at k p h (both_hold_first (postfix_sound p) (postfixes_sound ps) ok) (head_one n env (length structs) callee k p ps head) (append_nil_first one.faults rest.faults z) in
      let g = law_postfixes spec n env one.structs s None (joined s (postfix_span p)) one.operand ps (agrees_at n env structs one.structs f.same h) (both_hold_second (postfix_sound p) (postfixes_sound ps) ok) f.known (none_right one.faults rest.faults z) in
      record { same = g.same ∙ f.same; known = g.known }

  law_postfix : SpecifiersAreSound → (n : Names) (env : Env) (structs : Structs) (s : Span) (callee : Option FnId) (at : Span) (k : Known) (p : e.PostfixTree) → Agrees env structs n → IsTrue (postfix_sound p) → HeadOne n env (length structs) callee k p → (judge_postfix env structs s callee at k p).faults ≡ [] → Well n structs (judge_postfix env structs s callee at k p)
  law_postfix spec n env structs s None at k (e.index span a) h ok head z =
      let q : Judged = judge env structs a in
      let r = law spec n env structs a h ok (append_nil_first q.faults _ z) in
      record { same = r.same; known = indexed_sound n (length q.structs) (joined s span) at k (span_of a) q.operand (known_at n structs q.structs k r.same head) r.known (none_right q.faults _ z) }
  law_postfix spec n env structs s None at k (e.call span es) h ok head z =
      let q : Arguments = judge_arguments env structs (params_for env None) 0 es in
      no_call env k.ty (joined s span) q.trees (good_of n (length structs) k head) (none_right q.faults _ z)
  law_postfix spec n env structs s None at k (e.dot span w) h ok head z = record { same = refl; known = dotted_sound n structs w at k (fields n env structs h) head z }
  law_postfix spec n env structs s None at k (e.arrow span w) h ok head z = record { same = refl; known = arrow_sound n structs (joined s span) w at k (fields n env structs h) head z }
  law_postfix spec n env structs s None at k (e.increment span) h ok head z = record { same = refl; known = stepped_sound n structs (length structs) (joined s span) false true at k head z }
  law_postfix spec n env structs s None at k (e.decrement span) h ok head z = record { same = refl; known = stepped_sound n structs (length structs) (joined s span) true true at k head z }
  law_postfix spec n env structs s (Some f) at k (e.index span a) h ok head z = let y : false ≡ true = head.call in cc
  law_postfix spec n env structs s (Some f) at k (e.call span es) h ok head z =
      let params = params_for env (Some f) in
      let q : Arguments = judge_arguments env structs (params_for env (Some f)) 0 es in
      let r = law_arguments spec n env structs (params_for env (Some f)) 0 (params_for env (Some f)) es h ok (from_start (params_for env (Some f))) (params_are n env structs h f head.entry) (append_nil_first q.faults _ z) in
      record { same = r.same; known = called_sound n env q.structs (agrees_at n env structs q.structs r.same h) f k.ty (joined s span) q.trees head.entry r.passed (none_right q.faults _ z) }
  law_postfix spec n env structs s (Some f) at k (e.dot span w) h ok head z = let y : false ≡ true = head.call in cc
  law_postfix spec n env structs s (Some f) at k (e.arrow span w) h ok head z = let y : false ≡ true = head.call in cc
  law_postfix spec n env structs s (Some f) at k (e.increment span) h ok head z = let y : false ≡ true = head.call in cc
  law_postfix spec n env structs s (Some f) at k (e.decrement span) h ok head z = let y : false ≡ true = head.call in cc

  law_arguments : SpecifiersAreSound → (n : Names) (env : Env) (structs : Structs) (params : List «Type») (k : ℕ) (rest : List «Type») (es : e.ExprTrees) → Agrees env structs n → IsTrue (exprs_sound es) → FromOn params k rest → IsTrue (list_all (is_parameter (length structs)) rest) → (judge_arguments env structs params k es).faults ≡ [] → WellPassed n structs rest (judge_arguments env structs params k es)
  law_arguments spec n env structs params k rest e.no_exprs h ok on are z = record { same = refl; passed = tt }
  law_arguments spec n env structs params k [] (e.expr_and a es) h ok on are z =
      let p : Judged = judge env structs a in
      let others : Arguments = judge_arguments env p.structs params (k + 1) es in
      let parts = append_nil_first (p.faults ++ argument_faults (slice_get params k) (value_of p.operand) (span_of a)) others.faults z in
      let r = law spec n env structs a h (both_hold_first (expr_sound a) (exprs_sound es) ok) (append_nil_first p.faults _ parts) in
      let t = law_arguments spec n env p.structs params (k + 1) [] es (agrees_at n env structs p.structs r.same h) (both_hold_second (expr_sound a) (exprs_sound es) ok) (from_none params k on) refl (none_right (p.faults ++ argument_faults (slice_get params k) (value_of p.operand) (span_of a)) others.faults z) in
      record { same = t.same ∙ r.same; passed = (argument_typed n (length p.structs) (slice_get params k) (value_of p.operand) (value_tree (span_of a) p.operand) (from_here params k [] on) (value_sound n (length p.structs) (span_of a) p.operand r.known), t.passed) }
  law_arguments spec n env structs params k (q ∷ rest) (e.expr_and a es) h ok on are z =
      let p : Judged = judge env structs a in
      let others : Arguments = judge_arguments env p.structs params (k + 1) es in
      let parts = append_nil_first (p.faults ++ argument_faults (slice_get params k) (value_of p.operand) (span_of a)) others.faults z in
      let r = law spec n env structs a h (both_hold_first (expr_sound a) (exprs_sound es) ok) (append_nil_first p.faults _ parts) in
      let agree = agrees_at n env structs p.structs r.same h in
      let are' = subst (λ (t : Structs). IsTrue (list_all (is_parameter (length t)) (q ∷ rest))) (sym r.same) are in
      let t = law_arguments spec n env p.structs params (k + 1) rest es agree (both_hold_second (expr_sound a) (exprs_sound es) ok) (from_next params k q rest on) (both_hold_second (is_parameter (length p.structs) q) _ are') (none_right (p.faults ++ argument_faults (slice_get params k) (value_of p.operand) (span_of a)) others.faults z) in
      record {
        same = t.same ∙ r.same;
        passed = (
          argument_fits n (length p.structs) (slice_get params k) q (value_of p.operand) (value_tree (span_of a) p.operand) (span_of a) (below n env p.structs agree) (from_here params k (q ∷ rest) on) (both_hold_first (is_parameter (length p.structs) q) _ are') (value_sound n (length p.structs) (span_of a) p.operand r.known) (none_right p.faults _ parts),
          t.passed,
        );
      }

-- by the law of the specifiers that casts hold
pub expressions_by : SpecifiersAreSound → ExpressionsAreSound
expressions_by spec n env structs a h ok z =
    let r = law spec n env structs a h ok z in
    record { same = r.same; value = λ s. value_sound n (length structs) s (judge env structs a).operand (subst (λ (t : Structs). SoundKnown n (length t) (judge env structs a).operand) r.same r.known) }
