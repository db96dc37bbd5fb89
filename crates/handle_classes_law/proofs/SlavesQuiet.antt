-- What is known of each expression that a body evaluates, where the flow rules find nothing in it and the marks
-- are closed under its edges.
use Rattle.std.proofs.Common.{◌≡◌, ℕ, refl, ap, sym, subst, true, Option, Some, List, [], ◌∷◌, ◌++◌}
use Rattle.std.specs.Prelude.{slice_get}
use Rattle.pt_base.specs.declared.ids.FnId.{FnId}
use Rattle.pt_base.specs.declared.ids.VarId.{VarId}
use Rattle.pt_base.specs.declared.int_type.IntType.{IntType}
use Rattle.pt_tree.specs.declared.signature.Param.{Param}
use Rattle.pt_tree.specs.declared.signature.Signature.{Signature}
use Rattle.typed_tree.specs.declared.types.VarTy.{VarTy}
use Rattle.typed_tree.specs.declared.types.VarTy.TheVariants.{Int}
use Rattle.typed_tree.specs.ExpressionTree as src
use Rattle.typed_tree.specs.ExpressionTree.{typed, FormTree}
use Rattle.typed_tree.specs.TypeTests.{is_scalar}
use Rattle.typed_tree.specs.WellFormedExpression.{ty_of, param_type}
use Rattle.source_meaning.specs.Expressions.{type_or_int, type_of}
use Rattle.usages.specs.declared.usage.How.{How}
use Rattle.usages.specs.declared.usage.How.TheVariants.{Operated, Passed, Begins, Returned}
use Rattle.usages.specs.Usages.{UsageTree, used, evaluated, form_usages}
use Rattle.sides.specs.Carried.{carried, place_slots}
use Rattle.flow_edges.specs.Edges.{begun_slots, form_edges}
use Rattle.handle_classes.specs.Classes.{Class}
use Rattle.handle_classes.specs.Judgment.{Flows}
use Rattle.handle_classes_law.proofs.SlavesClasses.{IsBy}
use Rattle.handle_classes_law.proofs.SlavesBench.{Bench, seen, at_slots, PlainIf}
use Rattle.handle_classes_law.proofs.SlavesEdges.{AreClosed, Moves}

-- the class of an expression's value
abbrev pub class_here : Bench → src.ExprTree → Class
class_here b a = at_slots b (type_of a) (carried (seen b) a)

-- an integer that ++, -- or a compound assignment changes is no handle
abbrev pub ChangedPlain : Bench → Option VarTy → FormTree → Type 0
ChangedPlain b ty (src.compound p at op a) = is_scalar ty ≡ true → PlainIf b (type_or_int ty) (place_slots (seen b) p)
ChangedPlain b ty (src.step p at back postfix) = is_scalar ty ≡ true → PlainIf b (type_or_int ty) (place_slots (seen b) p)
ChangedPlain b ty _ = Unit {0}

abbrev pub ChangesPlain : Bench → src.ExprTree → Type 0
ChangesPlain b (typed s ty form) = ChangedPlain b ty form

-- whatever is of the expression's class may go to the parameter k of g
abbrev pub MayPass : Bench → FnId → ℕ → src.ExprTree → Type 0
MayPass b g k a = (v : Class) → IsBy v (class_here b a) → Flows v (b.world.param g.0 k)

pub record IsQuiet (b : Bench) (u : UsageTree) : Type 0 where
  -- an operand of an operator, which is no void expression, is no handle
  pub operated : u.how ≡ Operated → is_scalar (ty_of u.value) ≡ true → PlainIf b (type_of u.value) (carried (seen b) u.value)
  pub changed : ChangesPlain b u.value
  -- the marks are closed under the edges of an assignment, and of the beginning of a variable
  pub assigned : AreClosed b.marks (form_edges (seen b) u.value)
  pub begins : (v : VarId) (k : ℕ) → u.how ≡ Begins v k → Moves b u.value (begun_slots (seen b) (slice_get b.variables v.0) k (ty_of u.value))
  -- an argument of its parameter's type may go there
  pub passed : (g : FnId) (k : ℕ) (f : Signature) (q : Param) → u.how ≡ Passed g k → b.w.called g.0 ≡ Some f → slice_get f.params k ≡ Some q → ty_of u.value ≡ Some (param_type q.kind) → MayPass b g k u.value
  -- a handle is returned where the function may give one
  pub returned : (t : IntType) → u.how ≡ Returned → ty_of u.value ≡ Some (Int t) → (class_here b u.value).may 0 ≡ true → b.world.result b.function ≡ true

abbrev pub Quiet : Bench → List UsageTree → Type 0
Quiet b [] = Unit {0}
Quiet b (u ∷ us) = IsQuiet b u × Quiet b us

pub quiet_first : (b : Bench) (us vs : List UsageTree) → Quiet b (us ++ vs) → Quiet b us
quiet_first b [] vs h = tt
quiet_first b (u ∷ us) vs h = (h.0, quiet_first b us vs h.1)

pub quiet_rest : (b : Bench) (us vs : List UsageTree) → Quiet b (us ++ vs) → Quiet b vs
quiet_rest b [] vs h = h
quiet_rest b (u ∷ us) vs h = quiet_rest b us vs h.1

pub plain_here : (b : Bench) (a : src.ExprTree) → is_scalar (ty_of a) ≡ true → Quiet b (evaluated Operated a) → PlainIf b (type_of a) (carried (seen b) a)
plain_here b (typed s t form) scalar h = (quiet_rest b (form_usages t form) (used Operated (typed s t form) ∷ []) h).0.operated refl scalar

pub type_at : (a : src.ExprTree) → type_of a ≡ type_or_int (ty_of a)
type_at (typed s t form) = refl

-- what is known of the expression itself
pub quiet_here : (b : Bench) (how : How) (s : _) (t : Option VarTy) (form : FormTree) → Quiet b (evaluated how (typed s t form)) → IsQuiet b (used how (typed s t form))
quiet_here b how s t form h = (quiet_rest b (form_usages t form) (used how (typed s t form) ∷ []) h).0

-- and of what is evaluated for it
pub quiet_within : (b : Bench) (how : How) (s : _) (t : Option VarTy) (form : FormTree) → Quiet b (evaluated how (typed s t form)) → Quiet b (form_usages t form)
quiet_within b how s t form h = quiet_first b (form_usages t form) (used how (typed s t form) ∷ []) h

pub quiet_at : (b : Bench) (how : How) (a : src.ExprTree) → Quiet b (evaluated how a) → IsQuiet b (used how a)
quiet_at b how (typed s t form) h = quiet_here b how s t form h

-- the integer that is changed, by its type
pub changed_plain : (b : Bench) (o : Option VarTy) (z : VarTy) (slots : List ℕ) → o ≡ Some z → is_scalar (Some z) ≡ true → (is_scalar o ≡ true → PlainIf b (type_or_int o) slots) → PlainIf b z slots
changed_plain b o z slots is scalar h = subst (λ y. PlainIf b y slots) (ap type_or_int is) (h (subst (λ y. is_scalar y ≡ true) (sym is) scalar))
