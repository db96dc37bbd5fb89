-- Functions: the whole of what is made of one.
use Rattle.std.proofs.Common.{◌≡◌, ℕ, ◌+◌, List, [], ◌∷◌, ◌++◌, length, map, refl, sym, ap, ◌∙◌, subst, arith}
use Rattle.std.proofs.lemmas.List.{append-nil}
use Rattle.pt_base.specs.declared.span.Span.{Span}
use Rattle.typed_tree.specs.declared.variable.Var.{Var}
use Rattle.typed_tree.specs.StatementTree.{BodyTree}
use Rattle.typed_tree.specs.TypedTree.{TypedTree, FunctionTree}
use Rattle.source_meaning.specs.Functions.{brace_of}
use Rattle.pt_core.specs.CodeTree as core
use Rattle.pt_core.specs.CodeTree.{StmtTree, view_stmt, stmt_trees}
use Rattle.lowering.specs.declared.output.Lowering.{Lowering}
use Rattle.lowering.specs.declared.temporary.Temporary.{Temporary}
use Rattle.lowering.specs.Lowered.{Temp}
use Rattle.lowering.specs.Functions.{variable_of, code_of, lowered_body, main_end, core_of}
use Rattle.lowering.specs.FunctionParts.{variables_of, MakesBody}
use Rattle.lowering.specs.Output.{Output, output_of, next, temporary_of, added, more, Does}
use Rattle.lowering.specs.Statements.{Code, nowhere, statement_in}

-- temporaries as variables, also by what the code keeps of them
as_variables : (temps : List Temp) → variables_of (map temporary_of temps) ≡ map variable_of temps
as_variables [] = refl
as_variables (x ∷ xs) = ap (λ ys. variable_of x ∷ ys) (as_variables xs)

-- what is made from nothing
pub made_from : (c : Code) (body : BodyTree) (n : ℕ) (end : List StmtTree) (l0 l1 l2 : Lowering) → output_of l0 ≡ record { first = n; stmts = []; temps = [] } → Does (output_of l0) (statement_in c body nowhere (next (output_of l0))) (output_of l1) → output_of l2 ≡ added (output_of l1) end [] → MakesBody c body n end l2
unfolding output_of
made_from c body n end l0 l1 l2 e0 d e2 =
    let low = statement_in c body nowhere n in
    let m : next (output_of l0) ≡ n = ap next e0 ∙ omega arith in
    let d1 : Does (output_of l0) low (output_of l1) = subst (λ j. Does (output_of l0) (statement_in c body nowhere j) (output_of l1)) m d in
    let h : output_of l2 ≡ added (more (record { first = n; stmts = []; temps = [] }) low.stmts low.temps) end [] = e2 ∙ ap (λ o. added o end []) d1.made ∙ ap (λ o. added (more o low.stmts low.temps) end []) e0 in
    record {
      stmts = ap (λ (o : Output). o.stmts) h;
      temps = ap (λ (o : Output). variables_of o.temps) h ∙ ap variables_of (append-nil (map temporary_of low.temps)) ∙ as_variables low.temps;
    }

pub function_is : (program : TypedTree) (f : FunctionTree) (c : Code) (body : BodyTree) (k n : ℕ) (params : ℕ) (variables vars : List Var) (temps : List Temporary) (l : Lowering) (end : Span) →
    c ≡ code_of program f → variables ≡ f.vars → n ≡ length f.vars → MakesBody c body n (main_end f.signature) l → vars ≡ variables ++ variables_of temps → temps ≡ l.temps.items → params ≡ length f.signature.params → end ≡ brace_of body →
    record { id = k; params = params; vars = vars; body = stmt_trees (map view_stmt l.stmts.items); end = end } ≡ core_of program k f body
function_is program f c body k n params variables vars temps l end ec ev en m evs et ep ee =
    let m1 : MakesBody (code_of program f) body (length f.vars) (main_end f.signature) l = subst (λ z. MakesBody z body (length f.vars) (main_end f.signature) l) ec (subst (λ j. MakesBody c body j (main_end f.signature) l) en m) in
    let low = lowered_body program f body in
    let function : ℕ → List Var → List StmtTree → Span → core.FunctionTree = λ p vs xs e. record { id = k; params = p; vars = vs; body = stmt_trees xs; end = e } in
    ap (λ p. function p vars (map view_stmt l.stmts.items) end) ep
    ∙ ap (λ vs. function (length f.signature.params) vs (map view_stmt l.stmts.items) end) (evs ∙ ap (λ vs. vs ++ variables_of temps) ev ∙ ap (λ ts. f.vars ++ variables_of ts) et ∙ ap (λ vs. f.vars ++ vs) m1.temps)
    ∙ ap (λ xs. function (length f.signature.params) (f.vars ++ map variable_of low.temps) xs end) m1.stmts
    ∙ ap (λ e. function (length f.signature.params) (f.vars ++ map variable_of low.temps) (low.stmts ++ main_end f.signature) e) ee
