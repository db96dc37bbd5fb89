-- A program with further arguments steps as without them.
use Rattle.std.proofs.Common.{◌≡◌, ◌∙◌, ◌+◌, ℕ, List, [], ◌∷◌, ◌++◌, map, refl, ap, Bool, true, false, nat_eq, nat_lt, nat_le, ◌⊎◌, inl, inr, if◌then◌else◌, Option, Some, None, Result, Ok, Err}
use Rattle.std.specs.Prelude.{unwrap_or, ◌||◌}
use Rattle.std.proofs.lemmas.List.{append-nil}
use Rattle.std.specs.List.{find}
use Rattle.std.specs.Map.{lookup}
use Rattle.pt_base.specs.declared.int_type.IntType.{IntType}
use Rattle.pt_base.specs.declared.span.Span.{Span}
use Rattle.pt_base.specs.declared.trap.Trap.TheVariants.{Depth}
use Rattle.runs.specs.Run.{deepest}
use Rattle.pt_tree.specs.declared.signature.Param.{Param}
use Rattle.pt_tree.specs.declared.signature.Signature.{Signature}
use Rattle.typed_tree.specs.declared.variable.Var.{Var}
use Rattle.block_memory.specs.declared.cell.Cell.{Cell}
use Rattle.block_memory.specs.Blocks.{Blocks, with_frame}
use Rattle.pt_core.specs.CodeTree.{ExprTree, ExprTrees, no_exprs, expr_and, expr_trees, StmtTree, clear, check, assign, copy, call, choose, repeat, break_out, continue_on, give_back, StmtTrees, no_stmts, stmt_and, FunctionTree, ProgramTree}
use Rattle.pt_core.specs.Types.{Context, shape_of}
use Rattle.pt_core.specs.Values.{Stop, ◌>>?◌, holds_in, location_of, number_in, value_of, values_of}
use Rattle.pt_core.specs.Statements.{assigned, cleared, copied, returned_value}
use Rattle.pt_core.specs.Calls.{context_in, entered, function_in, no_function, no_signature, signature_in, with_arguments}
use Rattle.pt_core.specs.Steps.{Active, Awaited, Gate, Machine, Step, Way, Work, act, answers, asked, at_end, at_head, away, awaiting, begins, by_way, enters, enters_at, goes_away, head, here, made, made_here, moved, on_value, past_loop, resumed, resumed_in, returned, run, settled, spent, started, stepped, trapped, turned, with_blocks, with_turn, working, works}
use Rattle.core_steps_law.specs.ArgumentsAdded.{More, active_with, all_with_more, exprs_and, extended, function_with, machine_with, signature_with, step_with, with_more, work_with}
use Rattle.core_steps_law.specs.ArgumentsLaws.{GatesAdd, HaveValues, OutsideIsAdded, StepsAreAdded}

-- ---- what numbers name

found_with : (more : More) (f : ℕ) (fs : List FunctionTree) → unwrap_or (find (λ g. nat_eq f g.id) (map (function_with more) fs)) no_function ≡ function_with more (unwrap_or (find (λ g. nat_eq f g.id) fs) no_function)
found_with more f [] = refl
found_with more f (x ∷ xs) = go (found_with more f xs) (nat_eq f x.id)
  where
    go : unwrap_or (find (λ g. nat_eq f g.id) (map (function_with more) xs)) no_function ≡ function_with more (unwrap_or (find (λ g. nat_eq f g.id) xs) no_function) → (b : Bool) → unwrap_or (if b then Some (function_with more x) else find (λ g. nat_eq f g.id) (map (function_with more) xs)) no_function ≡ function_with more (unwrap_or (if b then Some x else find (λ g. nat_eq f g.id) xs) no_function)
    go further true = refl
    go further false = further

function_is : (more : More) (params : ℕ → List Param) (p : ProgramTree) (f : ℕ) → function_in (extended more params p) f ≡ function_with more (function_in p f)
function_is more params p f = found_with more f p.functions

pub context_is : (more : More) (params : ℕ → List Param) (p : ProgramTree) (f : ℕ) → context_in (extended more params p) f ≡ context_in p f
context_is more params p f = λ i. record { structs = p.structs; globals = (context_in p f).globals; variables = map (λ (x : Var). x.ty) (function_is more params p f i).vars }

-- what of a signature isn't its parameters is the same
looked_with : {A : Type 0} (look : Signature → A) (params : ℕ → List Param) (f : ℕ) → ((s : Signature) (ps : List Param) → look (record s { params = ps }) ≡ look s) → (ss : List (ℕ × Signature)) →
    look (unwrap_or (lookup (nat_eq f) (map (signature_with params) ss)) no_signature) ≡ look (unwrap_or (lookup (nat_eq f) ss) no_signature)
looked_with {A} look params f same [] = refl
looked_with {A} look params f same (s ∷ ss) = go (looked_with look params f same ss) (nat_eq f s.0)
  where
    go : look (unwrap_or (lookup (nat_eq f) (map (signature_with params) ss)) no_signature) ≡ look (unwrap_or (lookup (nat_eq f) ss) no_signature) → (b : Bool) → look (unwrap_or (if b then Some (record s.1 { params = s.1.params ++ params s.0 }) else lookup (nat_eq f) (map (signature_with params) ss)) no_signature) ≡ look (unwrap_or (if b then Some s.1 else lookup (nat_eq f) ss) no_signature)
    go further true = same s.1 (s.1.params ++ params s.0)
    go further false = further

-- ---- work

pub settled_with : (more : More) (work : List Work) → settled (map (work_with more) work) ≡ map (work_with more) (settled work)
settled_with more [] = refl
settled_with more (run no_stmts ∷ work) = settled_with more work
settled_with more (run (stmt_and s rest) ∷ work) = refl
settled_with more (head body ∷ work) = refl

past_with : (more : More) (work : List Work) → past_loop (map (work_with more) work) ≡ map (work_with more) (past_loop work)
past_with more [] = refl
past_with more (run body ∷ work) = past_with more work
past_with more (head body ∷ work) = refl

head_with : (more : More) (work : List Work) → at_head (map (work_with more) work) ≡ map (work_with more) (at_head work)
head_with more [] = refl
head_with more (run body ∷ work) = head_with more work
head_with more (head body ∷ work) = refl

chosen_with : (more : More) (b : Bool) (first second : StmtTrees) → run (if b then all_with_more more first else all_with_more more second) ≡ work_with more (run (if b then first else second))
chosen_with more true first second = refl
chosen_with more false first second = refl

-- ---- arguments

abbrev pub with_cells : List Cell → Result (List Cell) Stop → Result (List Cell) Stop
with_cells more (Ok vs) = Ok (vs ++ more)
with_cells more (Err stop) = Err stop

pub values_with : (c : Context) (depth : ℕ) (more : List ExprTree) (cells : List Cell) (blocks : Blocks) → values_of c depth (expr_trees more) blocks ≡ Ok cells → (args : ExprTrees) →
    values_of c depth (exprs_and args more) blocks ≡ with_cells cells (values_of c depth args blocks)
values_with c depth more cells blocks known no_exprs = known
values_with c depth more cells blocks known (expr_and e rest) = go (values_with c depth more cells blocks known rest) (value_of c depth e blocks)
  where
    last : (v : Cell) (r : Result (List Cell) Stop) → (with_cells cells r >>? λ vs. Ok (v ∷ vs)) ≡ with_cells cells (r >>? λ vs. Ok (v ∷ vs))
    last v (Ok vs) = refl
    last v (Err stop) = refl

    go : values_of c depth (exprs_and rest more) blocks ≡ with_cells cells (values_of c depth rest blocks) → (r : Result Cell Stop) → (r >>? λ v. values_of c depth (exprs_and rest more) blocks >>? λ vs. Ok (v ∷ vs)) ≡ with_cells cells (r >>? λ v. values_of c depth rest blocks >>? λ vs. Ok (v ∷ vs))
    go further (Ok v) = ap (λ (r : Result (List Cell) Stop). r >>? λ vs. Ok (v ∷ vs)) further ∙ last v (values_of c depth rest blocks)
    go further (Err stop) = refl

-- ---- the parts of steps

value_with : {G A : Type 0} (more : More) (cells : ℕ → List Cell) (m : Machine) (g : G) (next' next : A → Step G) → ((a : A) → next' a ≡ step_with more cells (next a)) → (r : Result A Stop) →
    on_value r (machine_with more m) g next' ≡ step_with more cells (on_value r m g next)
value_with {G} {A} more cells m g next' next same (Ok a) = same a
value_with {G} {A} more cells m g next' next same (Err stop) = refl

turn_with : {G : Type 0} (more : More) (cells : ℕ → List Cell) (m : Machine) (g : G) (next' next : Machine → Step G) → next' (machine_with more (with_turn m)) ≡ step_with more cells (next (with_turn m)) →
    turned (machine_with more m) g next' ≡ step_with more cells (turned m g next)
turn_with {G} more cells m g next' next same = go (nat_lt m.turns m.budget)
  where
    go : (t : Bool) → (if t then next' (machine_with more (with_turn m)) else answers spent (machine_with more m) g) ≡ step_with more cells (if t then next (with_turn m) else answers spent m g)
    go true = same
    go false = refl

returned_with : {G : Type 0} (more : More) (cells : ℕ → List Cell) (m : Machine) (g : G) (a : Active) (rest : List Active) (v : Option Cell) →
    returned (machine_with more m) g (active_with more a) (map (active_with more) rest) v ≡ step_with more cells (returned m g a rest v)
returned_with {G} more cells m g a [] v = refl
returned_with {G} more cells m g a (caller ∷ rest) v = refl

end_with : {G : Type 0} (more : More) (cells : ℕ → List Cell) (m : Machine) (g : G) (a : Active) (rest : List Active) (s : Span) (t : Option IntType) →
    at_end t s (machine_with more m) g (active_with more a) (map (active_with more) rest) ≡ step_with more cells (at_end t s m g a rest)
end_with {G} more cells m g a rest s None = returned_with more cells m g a rest None
end_with {G} more cells m g a rest s (Some t) = refl

begins_with : {G : Type 0} (more : More) (cells : ℕ → List Cell) (m : Machine) (g : G) (a : Active) (rest : List Active) (body : StmtTrees) (work : List Work) →
    begins (machine_with more m) g (active_with more a) (map (active_with more) rest) (all_with_more more body) (map (work_with more) work) ≡ step_with more cells (begins m g a rest body work)
begins_with {G} more cells m g a rest body work =
    turn_with more cells m g
    (λ m1. answers moved (working m1 (active_with more a) (map (active_with more) rest) (run (all_with_more more body) ∷ head (all_with_more more body) ∷ map (work_with more) work)) g)
    (λ m1. answers moved (working m1 a rest (run body ∷ head body ∷ work)) g) refl

-- ---- calls

-- what stays the same in what follows: the programs, what is added, and the gates
pub record Setting (G : Type 0) : Type 0 where
  pub more : More
  pub params : ℕ → List Param
  pub cells : ℕ → List Cell
  pub program : ProgramTree
  pub plain : Gate G
  pub added : Gate G
  pub values : HaveValues more cells program
  pub gates : GatesAdd cells plain added

abbrev big : {G : Type 0} → Setting G → ProgramTree
big w = extended w.more w.params w.program

-- the machine in which the callee was entered
abbrev entering : {G : Type 0} → ProgramTree → Gate G → G → Bool → Bool → FunctionTree → ℕ → ℕ → List Cell → Option ℕ → Machine → Step G
entering p gate g active privileged callee f depth args result m1 =
    answers moved
    (record m1 {
      active = record { function = f; depth = depth; privileged = active || privileged; result = result; work = run callee.body ∷ [] } ∷ m1.active;
      blocks = with_arguments (with_frame m1.blocks depth (map (λ (x : Var). shape_of p.structs x.ty) callee.vars)) depth 0 args;
    })
    (gate.noted active f args g)

enters_with : {G : Type 0} (w : Setting G) (m : Machine) (g : G) (a : Active) (rest : List Active) (work : List Work) (s : Span) (f : ℕ) (args : List Cell) (result : Option ℕ) (depth : ℕ) →
    enters_at (big w) w.added (machine_with w.more (working m a rest work)) g s f args result depth ≡ step_with w.more w.cells (enters_at w.program w.plain (working m a rest work) g s f args result depth)
enters_with {G} w m g a rest work s f args result depth = go (nat_le depth deepest)
  where
    called : FunctionTree
    called = function_in w.program f

    is : function_in (big w) f ≡ function_with w.more called
    is = function_is w.more w.params w.program f

    privileged : (signature_in (big w) f).privileged ≡ (signature_in w.program f).privileged
    privileged = looked_with (λ s. s.privileged) w.params f (λ s ps. refl) w.program.signatures

    go : (t : Bool) →
        (if t then turned (machine_with w.more (working m a rest work)) g (λ m1. entering (big w) w.added g a.privileged (signature_in (big w) f).privileged (function_in (big w) f) f depth args result m1) else answers (trapped Depth s) (machine_with w.more (working m a rest work)) g)
        ≡ step_with w.more w.cells (if t then turned (working m a rest work) g (λ m1. entering w.program w.plain g a.privileged (signature_in w.program f).privileged called f depth args result m1) else answers (trapped Depth s) (working m a rest work) g)
    go true =
        turn_with w.more w.cells (working m a rest work) g
        (λ m1. entering (big w) w.added g a.privileged (signature_in (big w) f).privileged (function_in (big w) f) f depth args result m1)
        (λ m1. entering w.program w.plain g a.privileged (signature_in w.program f).privileged called f depth args result m1)
        (λ i. answers moved
        (record m {
          active = record { function = f; depth = depth; privileged = a.privileged || privileged i; result = result; work = run (is i).body ∷ [] } ∷ map (active_with w.more) (record a { work = work } ∷ rest);
          blocks = with_arguments (with_frame m.blocks depth (map (λ (x : Var). shape_of w.program.structs x.ty) (is i).vars)) depth 0 args;
          turns = (with_turn m).turns;
        })
        (w.gates.noted i a.privileged f args g))
    go false = refl

made_with : {G : Type 0} (w : Setting G) (m : Machine) (g : G) (a : Active) (rest : List Active) (work : List Work) (f : ℕ) (args : List Cell) (result : Option ℕ) (depth : ℕ) →
    made_here (big w) w.added (machine_with w.more (working m a rest work)) g f args result depth ≡ step_with w.more w.cells (made_here w.program w.plain (working m a rest work) g f args result depth)
made_with {G} w m g a rest work f args result depth =
    turn_with w.more w.cells (working m a rest work) g
    (λ m1. made m1 depth result (w.added.answer f (map number_in args) (w.added.noted a.privileged f args g)))
    (λ m1. made m1 depth result (w.plain.answer f (map number_in args) (w.plain.noted a.privileged f args g)))
    (λ i. made (machine_with w.more (with_turn (working m a rest work))) depth result (w.gates.answer i f (map number_in args) (w.gates.noted i a.privileged f args g)))

away_with : {G : Type 0} (w : Setting G) (m : Machine) (g : G) (s : Span) (f : ℕ) (args : List Cell) (result : Option ℕ) (depth : ℕ) →
    goes_away (big w) (machine_with w.more m) g s f (args ++ w.cells f) result depth ≡ step_with w.more w.cells (goes_away w.program m g s f args result depth)
away_with {G} w m g s f args result depth =
    ap (λ h. if h then answers (asked f (args ++ w.cells f) 0) (awaiting f result (machine_with w.more m)) g
    else (if nat_le depth deepest then answers (asked f (args ++ w.cells f) depth) (awaiting f result (machine_with w.more m)) g else answers (trapped Depth s) (machine_with w.more m) g))
    (looked_with (λ s. s.host) w.params f (λ s ps. refl) w.program.signatures)
    ∙ go (signature_in w.program f).host (nat_le depth deepest)
  where
    go : (h t : Bool) →
        (if h then answers (asked f (args ++ w.cells f) 0) (awaiting f result (machine_with w.more m)) g else (if t then answers (asked f (args ++ w.cells f) depth) (awaiting f result (machine_with w.more m)) g else answers (trapped Depth s) (machine_with w.more m) g))
        ≡ step_with w.more w.cells (if h then answers (asked f args 0) (awaiting f result m) g else (if t then answers (asked f args depth) (awaiting f result m) g else answers (trapped Depth s) m g))
    go true t = refl
    go false true = refl
    go false false = refl

way_with : {G : Type 0} (w : Setting G) (m : Machine) (g : G) (a : Active) (rest : List Active) (work : List Work) (s : Span) (f : ℕ) (args : List Cell) (result : Option ℕ) (depth : ℕ) (way : Way) → (w.cells f ≡ []) ⊎ (way ≡ away) →
    by_way (big w) w.added (machine_with w.more (working m a rest work)) g s f (args ++ w.cells f) result depth way ≡ step_with w.more w.cells (by_way w.program w.plain (working m a rest work) g s f args result depth way)
way_with {G} w m g a rest work s f args result depth away goes = away_with w (working m a rest work) g s f args result (depth + 1)
way_with {G} w m g a rest work s f args result depth enters (inl none) =
    ap (λ vs. enters_at (big w) w.added (machine_with w.more (working m a rest work)) g s f vs result (depth + 1)) (ap (λ cs. args ++ cs) none ∙ append-nil args)
    ∙ enters_with w m g a rest work s f args result (depth + 1)
way_with {G} w m g a rest work s f args result depth enters (inr is) = cc
way_with {G} w m g a rest work s f args result depth here (inl none) =
    ap (λ vs. made_here (big w) w.added (machine_with w.more (working m a rest work)) g f vs result depth) (ap (λ cs. args ++ cs) none ∙ append-nil args)
    ∙ made_with w m g a rest work f args result depth
way_with {G} w m g a rest work s f args result depth here (inr is) = cc

call_with : {G : Type 0} (w : Setting G) (m : Machine) (g : G) (a : Active) (rest : List Active) (work : List Work) (s : Span) (f : ℕ) (result : Option ℕ) (r : Result (List Cell) Stop) →
    on_value (with_cells (w.cells f) r) (machine_with w.more m) g (λ vs. by_way (big w) w.added (machine_with w.more (working m a rest work)) g s f vs result a.depth (w.added.way g f vs))
    ≡ step_with w.more w.cells (on_value r m g (λ vs. by_way w.program w.plain (working m a rest work) g s f vs result a.depth (w.plain.way g f vs)))
call_with {G} w m g a rest work s f result (Ok vs) =
    ap (by_way (big w) w.added (machine_with w.more (working m a rest work)) g s f (vs ++ w.cells f) result a.depth) (w.gates.way g f vs)
    ∙ way_with w m g a rest work s f vs result a.depth (w.plain.way g f vs) (w.gates.goes g f vs)
call_with {G} w m g a rest work s f result (Err stop) = refl

-- ---- statements

act_with : {G : Type 0} (w : Setting G) (m : Machine) (g : G) (a : Active) (rest : List Active) (work : List Work) (s : StmtTree) →
    act (big w) w.added (machine_with w.more m) g (active_with w.more a) (map (active_with w.more) rest) (map (work_with w.more) work) (with_more w.more s) ≡ step_with w.more w.cells (act w.program w.plain m g a rest work s)
act_with {G} w m g a rest work s = go s
  where
    same : context_in (big w) a.function ≡ context_in w.program a.function
    same = context_is w.more w.params w.program a.function

    go : (s : StmtTree) → act (big w) w.added (machine_with w.more m) g (active_with w.more a) (map (active_with w.more) rest) (map (work_with w.more) work) (with_more w.more s) ≡ step_with w.more w.cells (act w.program w.plain m g a rest work s)
    go (clear v) = ap (λ (c : Context). answers moved (with_blocks (cleared c a.depth v m.blocks) (machine_with w.more (working m a rest work))) g) same
    go (check p) =
        ap (λ (c : Context). on_value (location_of c a.depth p m.blocks) (machine_with w.more m) g (λ at. answers moved (machine_with w.more (working m a rest work)) g)) same
        ∙ value_with w.more w.cells m g (λ at. answers moved (machine_with w.more (working m a rest work)) g) (λ at. answers moved (working m a rest work) g) (λ at. refl) (location_of (context_in w.program a.function) a.depth p m.blocks)
    go (assign p e) =
        ap (λ (c : Context). on_value (assigned c a.depth p e m.blocks) (machine_with w.more m) g (λ blocks. answers moved (with_blocks blocks (machine_with w.more (working m a rest work))) g)) same
        ∙ value_with w.more w.cells m g (λ blocks. answers moved (with_blocks blocks (machine_with w.more (working m a rest work))) g) (λ blocks. answers moved (with_blocks blocks (working m a rest work)) g) (λ blocks. refl) (assigned (context_in w.program a.function) a.depth p e m.blocks)
    go (copy to from) =
        ap (λ (c : Context). on_value (copied c a.depth to from m.blocks) (machine_with w.more m) g (λ blocks. answers moved (with_blocks blocks (machine_with w.more (working m a rest work))) g)) same
        ∙ value_with w.more w.cells m g (λ blocks. answers moved (with_blocks blocks (machine_with w.more (working m a rest work))) g) (λ blocks. answers moved (with_blocks blocks (working m a rest work)) g) (λ blocks. refl) (copied (context_in w.program a.function) a.depth to from m.blocks)
    go (call f args result span) =
        ap (λ (c : Context). on_value (values_of c a.depth (exprs_and args (w.more f)) m.blocks) (machine_with w.more m) g (λ vs. by_way (big w) w.added (machine_with w.more (working m a rest work)) g span f vs result a.depth (w.added.way g f vs))) same
        ∙ ap (λ r. on_value r (machine_with w.more m) g (λ vs. by_way (big w) w.added (machine_with w.more (working m a rest work)) g span f vs result a.depth (w.added.way g f vs)))
        (values_with (context_in w.program a.function) a.depth (w.more f) (w.cells f) m.blocks (w.values a.function a.depth f m.blocks) args)
        ∙ call_with w m g a rest work span f result (values_of (context_in w.program a.function) a.depth args m.blocks)
    go (choose e first second) =
        ap (λ (c : Context). on_value (value_of c a.depth e m.blocks) (machine_with w.more m) g (λ v. answers moved (working (machine_with w.more m) (active_with w.more a) (map (active_with w.more) rest) (run (if holds_in v then all_with_more w.more first else all_with_more w.more second) ∷ map (work_with w.more) work)) g)) same
        ∙ value_with w.more w.cells m g
        (λ v. answers moved (working (machine_with w.more m) (active_with w.more a) (map (active_with w.more) rest) (run (if holds_in v then all_with_more w.more first else all_with_more w.more second) ∷ map (work_with w.more) work)) g)
        (λ v. answers moved (working m a rest (run (if holds_in v then first else second) ∷ work)) g)
        (λ v. ap (λ x. answers moved (working (machine_with w.more m) (active_with w.more a) (map (active_with w.more) rest) (x ∷ map (work_with w.more) work)) g) (chosen_with w.more (holds_in v) first second))
        (value_of (context_in w.program a.function) a.depth e m.blocks)
    go (repeat body span) = begins_with w.more w.cells m g a rest body work
    go break_out = ap (λ xs. answers moved (working (machine_with w.more m) (active_with w.more a) (map (active_with w.more) rest) xs) g) (past_with w.more work)
    go continue_on = ap (λ xs. answers moved (working (machine_with w.more m) (active_with w.more a) (map (active_with w.more) rest) xs) g) (head_with w.more work)
    go (give_back e) =
        ap (λ (c : Context). on_value (returned_value c a.depth e m.blocks) (machine_with w.more m) g (λ v. returned (machine_with w.more m) g (active_with w.more a) (map (active_with w.more) rest) v)) same
        ∙ value_with w.more w.cells m g (λ v. returned (machine_with w.more m) g (active_with w.more a) (map (active_with w.more) rest) v) (λ v. returned m g a rest v) (returned_with w.more w.cells m g a rest) (returned_value (context_in w.program a.function) a.depth e m.blocks)

-- ---- steps

works_with : {G : Type 0} (w : Setting G) (m : Machine) (g : G) (a : Active) (rest : List Active) (work : List Work) →
    works (big w) w.added (machine_with w.more m) g (active_with w.more a) (map (active_with w.more) rest) (map (work_with w.more) work) ≡ step_with w.more w.cells (works w.program w.plain m g a rest work)
works_with {G} w m g a rest [] =
    ap (λ t. at_end t (function_in (big w) a.function).end (machine_with w.more m) g (active_with w.more a) (map (active_with w.more) rest)) (looked_with (λ s. s.result) w.params a.function (λ s ps. refl) w.program.signatures)
    ∙ ap (λ (f : FunctionTree). at_end (signature_in w.program a.function).result f.end (machine_with w.more m) g (active_with w.more a) (map (active_with w.more) rest)) (function_is w.more w.params w.program a.function)
    ∙ end_with w.more w.cells m g a rest (function_in w.program a.function).end (signature_in w.program a.function).result
works_with {G} w m g a rest (run no_stmts ∷ work) = refl
works_with {G} w m g a rest (run (stmt_and s further) ∷ work) = act_with w m g a rest (run further ∷ work) s
works_with {G} w m g a rest (head body ∷ work) = begins_with w.more w.cells m g a rest body work

stepped_with : {G : Type 0} (w : Setting G) (m : Machine) (g : G) (active : List Active) →
    stepped (big w) w.added (machine_with w.more m) g (map (active_with w.more) active) ≡ step_with w.more w.cells (stepped w.program w.plain m g active)
stepped_with {G} w m g [] = refl
stepped_with {G} w m g (a ∷ rest) =
    ap (works (big w) w.added (machine_with w.more m) g (active_with w.more a) (map (active_with w.more) rest)) (settled_with w.more a.work)
    ∙ works_with w m g a rest (settled a.work)

pub added_steps : {G : Type 0} → StepsAreAdded G
added_steps {G} more params cells p plain added m g values gates =
    stepped_with (record { more = more; params = params; cells = cells; program = p; plain = plain; added = added; values = values; gates = gates }) m g m.active

-- ---- what comes from outside

pub added_outside : OutsideIsAdded
added_outside more params p = record { rests = λ budget. refl; starts = starts; resumes = resumes }
  where
    starts : (privileged : Bool) (f depth : ℕ) (args : List Cell) (m : Machine) → started (extended more params p) privileged f depth args (machine_with more m) ≡ machine_with more (started p privileged f depth args m)
    starts privileged f depth args m =
        ap (λ (callee : FunctionTree). record m {
          active = record { function = f; depth = depth; privileged = privileged; result = None; work = run callee.body ∷ [] } ∷ [];
          blocks = with_arguments (with_frame m.blocks depth (map (λ (x : Var). shape_of p.structs x.ty) callee.vars)) depth 0 args;
        }) (function_is more params p f)

    resumes : (v : Option Cell) (m : Machine) → resumed v (machine_with more m) ≡ machine_with more (resumed v m)
    resumes v m = ap (λ (blocks : Blocks). record m { active = map (active_with more) m.active; blocks = blocks; awaits = None }) (go m.awaits m.active)
      where
        go : (o : Option Awaited) (active : List Active) → resumed_in v o (map (active_with more) active) m.blocks ≡ resumed_in v o active m.blocks
        go None active = refl
        go (Some awaited) [] = refl
        go (Some awaited) (a ∷ rest) = refl
