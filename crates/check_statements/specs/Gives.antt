-- What the judging functions answer: a judgment's value, with the state behind it, and with its outermost
-- expressions and its faults at the end.
use Rattle.std.specs.Prelude.{◌≡◌, ℤ, List, [], ◌∷◌, ◌++◌, length, map, Option, Result, OnOk, Vec}
use Rattle.std.specs.declared.alloc.AllocError.{AllocError}
use Rattle.std.specs.declared.alloc.Global.{Global}
use Rattle.pt_base.specs.Gives.{GivesWith}
use Rattle.typed_tree.specs.declared.ids.ExprId.{ExprId}
use Rattle.typed_tree.specs.declared.statement.TypedBody.{TypedBody}
use Rattle.typed_tree.specs.declared.statement.TypedSection.{TypedSection}
use Rattle.typed_tree.specs.declared.statement.TypedDeclaration.{TypedDeclaration}
use Rattle.typed_tree.specs.declared.statement.TypedDeclarator.{TypedDeclarator}
use Rattle.typed_tree.specs.declared.statement.TypedForInit.{TypedForInit}
use Rattle.typed_tree.specs.declared.statement.TypedInit.{TypedInit}
use Rattle.typed_tree.specs.declared.statement.TypedLabel.{TypedLabel}
use Rattle.typed_tree.specs.ExpressionTree.{ExprTree, view_expr}
use Rattle.typed_tree.specs.StatementTree.{view_body, view_section}
use Rattle.check_declarations.specs.declared.fault.TypeFault.{TypeFault}
use Rattle.check_declarations.specs.declared.findings.Findings.{Findings}
use Rattle.check_declarations.specs.Gives as findings
use Rattle.check_expressions.specs.declared.names.Names.{Names}
use Rattle.check_expressions.specs.EnvOf.{env_of}
use Rattle.check_statements.specs.declared.switches.Controlling.{Controlling}
use Rattle.check_statements.specs.declared.switches.Kind.{Kind}
use Rattle.check_statements.specs.declared.walk.Walk.{Walk}
use Rattle.check_statements.specs.Outermost.{State, Placed, Maybe}
use Rattle.check_statements.specs.Initialisers.{Listing, Initialised}
use Rattle.check_statements.specs.Declarations.{Declared, DeclaredAll, Declaring}
use Rattle.check_statements.specs.GlobalInitialisers.{GlobalInit}
use Rattle.check_statements.specs.Labels.{Seen, Labelled}
use Rattle.check_statements.specs.Statements.{Begun, Chosen, Checked, CheckedAll, CheckedSection, CheckedSections}

-- the state, the outermost expressions and the faults so far
pub record Progress : Type 0 where
  pub state : State
  pub trees : List ExprTree
  pub faults : List TypeFault

abbrev pub state_of : Names → Walk → State
state_of names walk = record { env = env_of names; structs = walk.findings.structs; next = length walk.exprs.items }

abbrev pub progress_of : Names → Walk → Progress
progress_of names walk = record { state = state_of names walk; trees = map view_expr walk.exprs.items; faults = walk.findings.faults.items }

-- this state was reached, and these expressions and faults were added
pub record Reaches (before after : Progress) (state : State) (trees : List ExprTree) (faults : List TypeFault) : Type 0 where
  pub state_is : after.state ≡ state
  pub trees_are : after.trees ≡ before.trees ++ trees
  pub faults_are : after.faults ≡ before.faults ++ faults

-- ---- outermost expressions

abbrev pub GivesPlaced : Result ExprId AllocError → Progress → Progress → Placed → Type 0
GivesPlaced r before after p = GivesWith (λ id. id) r p.id (Reaches before after p.state (p.tree ∷ []) p.faults)

abbrev pub GivesMaybe : Result (Option ExprId) AllocError → Progress → Progress → Maybe → Type 0
GivesMaybe r before after p = GivesWith (λ id. id) r p.id (Reaches before after p.state p.trees p.faults)

-- ---- initialisers and declarations

abbrev pub GivesListing : Result (Vec ExprId Global) AllocError → Progress → Progress → Listing → Type 0
GivesListing r before after p = GivesWith (λ ids. ids.items) r p.ids (Reaches before after p.state p.trees p.faults)

abbrev pub GivesInitialised : Result TypedInit AllocError → Progress → Progress → Initialised → Type 0
GivesInitialised r before after p = GivesWith (λ init. init) r p.init (Reaches before after p.state p.trees p.faults)

abbrev pub GivesDeclared : Result TypedDeclarator AllocError → Progress → Progress → Declared → Type 0
GivesDeclared r before after p = GivesWith (λ d. d) r p.declarator (Reaches before after p.state p.trees p.faults)

abbrev pub GivesDeclaredAll : Result (Vec TypedDeclarator Global) AllocError → Progress → Progress → DeclaredAll → Type 0
GivesDeclaredAll r before after p = GivesWith (λ ds. ds.items) r p.declarators (Reaches before after p.state p.trees p.faults)

abbrev pub GivesDeclaring : Result TypedDeclaration AllocError → Progress → Progress → Declaring → Type 0
GivesDeclaring r before after p = GivesWith (λ d. d) r p.declaration (Reaches before after p.state p.trees p.faults)

-- the values that a global starts with
abbrev pub GivesGlobal : Result (Vec ℤ Global) AllocError → Findings → Findings → GlobalInit → Type 0
GivesGlobal r before after g = GivesWith (λ values. values.items) r g.values (findings.Reaches before after g.structs g.faults)

-- an item's values were added
abbrev pub AddsValues : Result (Unit {0}) AllocError → List ℤ → List ℤ → Findings → Findings → GlobalInit → Type 0
AddsValues r values values' before after g = OnOk r ((values' ≡ values ++ g.values) × findings.Reaches before after g.structs g.faults)

-- ---- statements

abbrev pub GivesBegun : Result TypedForInit AllocError → Progress → Progress → Begun → Type 0
GivesBegun r before after p = GivesWith (λ init. init) r p.init (Reaches before after p.state p.trees p.faults)

abbrev pub GivesChecked : Result TypedBody AllocError → Progress → Progress → Checked → Type 0
GivesChecked r before after c = GivesWith view_body r c.tree (Reaches before after c.state c.trees c.faults)

abbrev pub GivesCheckedAll : Result (Vec TypedBody Global) AllocError → Progress → Progress → CheckedAll → Type 0
GivesCheckedAll r before after c = GivesWith (λ bodies. map view_body bodies.items) r c.bodies (Reaches before after c.state c.trees c.faults)

-- ---- switches

abbrev pub GivesChosen : Result Controlling AllocError → Progress → Progress → Chosen → Type 0
GivesChosen r before after p = GivesWith {B = ExprId × Kind} (λ c. (c.id, c.kind)) r (p.id, p.kind) (Reaches before after p.state (p.tree ∷ []) p.faults)

-- a label, with the labels behind it
abbrev pub GivesLabelled : Result TypedLabel AllocError → Findings → Findings → Seen → Labelled → Type 0
GivesLabelled r before after seen l = GivesWith (λ label. label) r l.label ((seen ≡ l.seen) × findings.Reaches before after l.structs l.faults)

-- a section, with the labels behind it
abbrev pub GivesCheckedSection : Result TypedSection AllocError → Progress → Progress → Seen → CheckedSection → Type 0
GivesCheckedSection r before after seen c = GivesWith view_section r c.section ((seen ≡ c.seen) × Reaches before after c.state c.trees c.faults)

abbrev pub GivesCheckedSections : Result (Vec TypedSection Global) AllocError → Progress → Progress → CheckedSections → Type 0
GivesCheckedSections r before after c = GivesWith (λ parts. map view_section parts.items) r c.sections (Reaches before after c.state c.trees c.faults)
