-- What a body evaluates names only globals that have the same types in two scopes.
use Rattle.std.proofs.Common.{◌≡◌, subst, ◌⊎◌, inl, inr, List, [], ◌∷◌, ◌++◌}
use Rattle.std.specs.Prelude.{Contains}
use Rattle.std.proofs.lemmas.List.Elements.{Contains-append_left, Contains-append_right}
use Rattle.pt_base.specs.declared.ids.GlobalId.{GlobalId}
use Rattle.pt_base.proofs.Members.{contains_cases, contains_first, contains_nothing}
use Rattle.typed_tree.specs.declared.types.VarTy.{VarTy}
use Rattle.typed_tree.specs.declared.types.StructInfo.{StructInfo}
use Rattle.pt_core.specs.Types.{type_at}
use Rattle.usages.specs.declared.usage.How.{How}
use Rattle.usages.specs.Usages.{UsageTree, evaluated, used}
use Rattle.reach.specs.Contexts.{expr_globals}
use Rattle.source_meaning.specs.Statements.{no_expr}
use Rattle.lowering.specs.Expressions.{Scope}

-- Two scopes that differ in their globals alone.
pub record Scopes : Type 0 where
  pub structs : List StructInfo
  pub variables : List VarTy
  pub globals : List VarTy
  pub others : List VarTy

abbrev pub here : Scopes → Scope
here w = record { structs = w.structs; globals = w.globals; variables = w.variables }

abbrev pub there : Scopes → Scope
there w = record { structs = w.structs; globals = w.others; variables = w.variables }

-- each of these globals has the same type in both
abbrev pub Known : Scopes → List GlobalId → Type 0
Known w gs = (g : GlobalId) → Contains gs g → type_at w.globals g.0 ≡ type_at w.others g.0

-- so has each that one of these expressions names itself
abbrev pub Agree : Scopes → List UsageTree → Type 0
Agree w us = (u : UsageTree) → Contains us u → Known w (expr_globals u.value)

pub former : (w : Scopes) (us vs : List UsageTree) → Agree w (us ++ vs) → Agree w us
former w us vs h = λ u c. h u (Contains-append_left us vs u c)

pub latter : (w : Scopes) (us vs : List UsageTree) → Agree w (us ++ vs) → Agree w vs
latter w us vs h = λ u c. h u (Contains-append_right us vs u c)

pub last_known : (w : Scopes) (us : List UsageTree) (u : UsageTree) → Agree w (us ++ u ∷ []) → Known w (expr_globals u.value)
last_known w us u h = h u (Contains-append_right us (u ∷ []) u (contains_first u []))

-- what stands for an expression that isn't there names nothing
pub nothing_named : (w : Scopes) (how : How) → Agree w (evaluated how no_expr)
nothing_named w how u c = go (contains_cases (used how no_expr) [] u c)
  where
    go : (used how no_expr ≡ u) ⊎ Contains [] u → Known w (expr_globals u.value)
    go (inl e) = subst (λ (x : UsageTree). Known w (expr_globals x.value)) e (λ g i. absurd (contains_nothing g i))
    go (inr i) = absurd (contains_nothing u i)
