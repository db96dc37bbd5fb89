-- What expressions and places consist of, as far as labels ask.
use Rattle.std.specs.Prelude.{◌≡◌, ◌≤◌, ℕ, suc, max, List, [], ◌∷◌, ◌++◌, Option, Some, None, Bool, true, false}
use Rattle.pt_core.specs.declared.expression.Expr.{Expr, size-Expr}
use Rattle.pt_core.specs.declared.place.Place.{Place, size-Place}
use Rattle.pt_core.specs.CodeTree.{view_expr, view_place}
use Rattle.monitor_labels.specs.declared.parts.Parts.{Parts}
use Rattle.monitor_labels.specs.declared.parts.Parts.TheVariants as part
use Rattle.monitor_labels.specs.Nodes.{Node, of_variable, of_global}
use Rattle.monitor_labels.specs.Arrows.{reads, place_reads, place_start, start_of}

abbrev pub reads_in : ℕ → Parts → List Node
reads_in f part.Nothing = []
reads_in f (part.Variable v) = of_variable f v.0 ∷ []
reads_in f (part.Global g) = of_global g.0 ∷ []
reads_in f (part.Behind a) = reads f (view_expr a.now)
reads_in f (part.Moved p by) = reads f (view_expr by.now) ++ reads f (view_expr p.now)
reads_in f (part.One a) = reads f (view_expr a.now)
reads_in f (part.Two a b) = reads f (view_expr b.now) ++ reads f (view_expr a.now)

abbrev pub start_in : ℕ → Parts → Option Node
start_in f part.Nothing = None
start_in f (part.Variable v) = Some (of_variable f v.0)
start_in f (part.Global g) = Some (of_global g.0)
start_in f (part.Behind a) = start_of f (view_expr a.now)
start_in f (part.Moved p by) = start_of f (view_expr p.now)
start_in f (part.One a) = None
start_in f (part.Two a b) = None

-- greater than the size of each expression in it
abbrev pub parts_size : Parts → ℕ
parts_size part.Nothing = 0
parts_size (part.Variable v) = 0
parts_size (part.Global g) = 0
parts_size (part.Behind a) = suc (size-Expr a.now)
parts_size (part.Moved p by) = suc (max (size-Expr p.now) (size-Expr by.now))
parts_size (part.One a) = suc (size-Expr a.now)
parts_size (part.Two a b) = suc (max (size-Expr a.now) (size-Expr b.now))

-- no pointer whose start would be that of the whole
abbrev pub is_start : Parts → Bool
is_start part.Nothing = true
is_start (part.Variable v) = true
is_start (part.Global g) = true
is_start (part.Behind a) = false
is_start (part.Moved p by) = false
is_start (part.One a) = true
is_start (part.Two a b) = true

-- those of an expression
pub record ArePartsOf (e : Expr) (parts : Parts) : Type 0 where
  pub same_reads : (f : ℕ) → reads_in f parts ≡ reads f (view_expr e)
  pub same_start : (f : ℕ) → start_in f parts ≡ start_of f (view_expr e)
  pub small : parts_size parts ≤ size-Expr e

-- those of a place: of where it begins
pub record ArePlaceParts (q : Place) (parts : Parts) : Type 0 where
  pub same_reads : (f : ℕ) → reads_in f parts ≡ place_reads f (view_place q)
  pub same_start : (f : ℕ) → start_in f parts ≡ place_start f (view_place q)
  pub small : parts_size parts ≤ size-Place q

-- what is still to be read
abbrev pub reads_left : ℕ → Option Expr → List Node
reads_left f None = []
reads_left f (Some e) = reads f (view_expr e)
