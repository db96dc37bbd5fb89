-- What is known of expressions and declarations, and what each part of a body is given and keeps.
use Rattle.std.proofs.Common.{◌≡◌, ℕ, refl, sym, ap, ◌∙◌, subst, List, [], ◌++◌, append_assoc, append-nil}
use Rattle.std.specs.Prelude.{IsTrue, option_map}
use Rattle.std.specs.List.{list_all}
use Rattle.pt_base.proofs.Members.{all_hold_append}
use Rattle.pt_base.proofs.Places.{get_kept}
use Rattle.type_rules.specs.declared.types.Type.{«Type»}
use Rattle.typed_tree.specs.declared.part.Part.{Part}
use Rattle.typed_tree.specs.declared.types.VarTy.TheVariants as v
use Rattle.typed_tree.specs.ExpressionTree.{ExprTree}
use Rattle.typed_tree.specs.WellFormedExpression.{Names}
use Rattle.typed_tree.specs.WellFormedStatement.{Scope}
use Rattle.check_declarations.specs.Structs.{Structs}
use Rattle.check_expressions.specs.declared.meaning.Variable.{Variable}
use Rattle.check_expressions.specs.Operands.{var_type}
use Rattle.check_statements.specs.Outermost.{State, behind}
use Rattle.check_statements.specs.Statements.{inside, outside}
use Rattle.type_law.specs.DeclarationsTypes.{is_result}
use Rattle.type_law.specs.DeclarationsLaws.{SpecifiersAreSound, ObjectsAreSound, SizesAreSound, LeavesAreSound}
use Rattle.type_law.specs.ExpressionsAgreement.{Agrees}
use Rattle.type_law.specs.ExpressionsLaws.{ExpressionsAreSound, ValuesFit}
use Rattle.type_law.specs.StatementsLaws.{HasVariables, is_sound_variable}
use Rattle.type_law.proofs.StatementsNumbering.{StandAt, stand_left, stand_right, Goes}
use Rattle.type_law.proofs.StatementsEnvironments.{agrees_opened, agrees_closed}

-- the laws of the parts that statements consist of
pub record Laws : Type 0 where
  pub expressions : ExpressionsAreSound
  pub values : ValuesFit
  pub specifiers : SpecifiersAreSound
  pub objects : ObjectsAreSound
  pub sizes : SizesAreSound
  pub leaves : LeavesAreSound

-- the function's result in the typed tree is that of its declaration
pub record Returns (sc : Scope) (ty : «Type») : Type 0 where
  pub good : IsTrue (is_result ty)
  pub is : option_map v.Int sc.result ≡ var_type ty

-- ---- what a part is given

-- Names agree before it, its variables are those of the function, and its trees are the next outermost
-- expressions of the program.
pub record Ready (sc : Scope) (st st' : State) (trees : List ExprTree) : Type 0 where
  pub agrees : Agrees st.env st.structs sc.names
  pub variables : HasVariables sc.names st'.env.variables
  pub stand : StandAt sc.exprs st.next trees

-- ---- what it keeps

pub record Keeps (n : Names) (st st' : State) : Type 0 where
  pub agrees : Agrees st'.env st'.structs n
  pub structs : st'.structs ≡ st.structs
  pub new : List Variable
  pub variables : st'.env.variables ≡ st.env.variables ++ new
  pub sized : IsTrue (list_all (is_sound_variable n.structs) new)

pub keeps_nowhere : (n : Names) (st : State) → Agrees st.env st.structs n → Keeps n st st
keeps_nowhere n st a = record { agrees = a; structs = refl; new = []; variables = sym (append-nil st.env.variables); sized = refl }

pub keeps_on : (n : Names) (st st1 st2 : State) → Keeps n st st1 → Keeps n st1 st2 → Keeps n st st2
keeps_on n st st1 st2 a b = record {
  agrees = b.agrees;
  structs = b.structs ∙ a.structs;
  new = a.new ++ b.new;
  variables = b.variables ∙ ap (λ xs. xs ++ b.new) a.variables ∙ append_assoc st.env.variables a.new b.new;
  sized = all_hold_append (is_sound_variable n.structs) a.new b.new a.sized b.sized;
}

-- past an expression that leaves the structs as they are
pub keeps_behind : (n : Names) (st : State) (structs : Structs) → structs ≡ st.structs → Agrees st.env st.structs n → Keeps n st (behind st structs)
keeps_behind n st structs same a = record {
  agrees = subst (λ (x : Structs). Agrees st.env x n) (sym same) a;
  structs = same;
  new = [];
  variables = sym (append-nil st.env.variables);
  sized = refl;
}

-- a scope of its own
pub keeps_scope : (n : Names) (st st' : State) → Keeps n (inside st) st' → Keeps n st (outside st')
keeps_scope n st st' k = record { agrees = agrees_closed st'.env st'.structs n k.agrees; structs = k.structs; new = k.new; variables = k.variables; sized = k.sized }

pub ready_scope : (sc : Scope) (st st' : State) (trees : List ExprTree) → Ready sc st (outside st') trees → Ready sc (inside st) st' trees
ready_scope sc st st' trees r = record { agrees = agrees_opened st.env st.structs sc.names r.agrees; variables = r.variables; stand = r.stand }

-- ---- of two parts the first and the second

pub has_first : (n : Names) (xs new : List Variable) → HasVariables n (xs ++ new) → HasVariables n xs
has_first n xs new h = λ k x e. h k x (get_kept xs new k x e)

pub ready_first : (sc : Scope) (st st1 st2 : State) (ts us : List ExprTree) (qs : List Part) → Goes st1 st2 us qs → Ready sc st st2 (ts ++ us) → Ready sc st st1 ts
ready_first sc st st1 st2 ts us qs g r = record {
  agrees = r.agrees;
  variables = has_first sc.names st1.env.variables g.new (subst (λ (xs : List Variable). HasVariables sc.names xs) g.variables r.variables);
  stand = stand_left sc.exprs st.next ts us r.stand;
}

pub ready_second : (sc : Scope) (st st1 st2 : State) (ts us : List ExprTree) (ps : List Part) → Goes st st1 ts ps → Keeps sc.names st st1 → Ready sc st st2 (ts ++ us) → Ready sc st1 st2 us
ready_second sc st st1 st2 ts us ps g k r = record {
  agrees = k.agrees;
  variables = r.variables;
  stand = subst (λ (m : ℕ). StandAt sc.exprs m us) (sym g.next) (stand_right sc.exprs st.next ts us r.stand);
}
