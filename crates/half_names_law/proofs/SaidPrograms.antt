-- Whole programs, lowered, can be said: function by function.
use Rattle.std.proofs.Common.{◌≡◌, ℕ, pos, zero, suc, ◌+◌, refl, subst, arith, Bool, true, false, Option, None, Some, List, [], ◌∷◌, ◌++◌, length, if◌then◌else◌}
use Rattle.std.specs.Prelude.{IsTrue, slice_get}
use Rattle.pt_base.specs.declared.int_type.IntType.TheVariants as i
use Rattle.pt_tree.specs.declared.signature.Signature.{Signature}
use Rattle.typed_tree.specs.StatementTree.{BodyTree}
use Rattle.typed_tree.specs.TypedTree as source
use Rattle.typed_tree.specs.TypedTree.{TypedTree}
use Rattle.typed_tree.specs.WellFormedExpression.{is_main}
use Rattle.typed_tree.proofs.WellFormedLemmas.{facts_of}
use Rattle.pt_core.specs.CodeTree.{FunctionTree, constant, give_back}
use Rattle.pt_core.specs.WellFormed.{context_of, called_signature}
use Rattle.lowering.specs.Functions.{core_of, core_program, lowered_body, main_end, code_if, functions_from}
use Rattle.lowering.specs.Statements.{nowhere}
use Rattle.lowered_code_law.proofs.FormsSettings.{Setting}
use Rattle.lowered_code_law.proofs.FormsLists.{stand_behind}
use Rattle.lowered_code_law.proofs.FormsPrograms.{setting, agrees, sound_at}
use Rattle.half_meaning_law.specs.CForms.{are_said}
use Rattle.half_names_law.specs.SaidLaws.{LoweredFunctionsAreSaid, LoweredProgramsAreSaid}
use Rattle.half_names_law.proofs.SaidLemmas.{AreSaid, said_both, trees_said}
use Rattle.half_names_law.proofs.SaidStatements.{statement_said}

end_said : (w : Setting) (s : Signature) → AreSaid w (main_end s)
end_said w s = go (is_main s)
  where
    go : (b : Bool) → AreSaid w (if b then give_back (Some (constant i.Int (pos 0))) ∷ [] else [])
    go true = (refl, tt)
    go false = tt

pub functions_said : LoweredFunctionsAreSaid
functions_said t n f body well nulls here is =
    let facts = facts_of t well in
    let sound = sound_at t n f body facts here is in
    let effects = lowered_body t f body in
    let w = setting t f effects.temps in
    trees_said w (effects.stmts ++ main_end f.signature)
    (said_both w effects.stmts (main_end f.signature)
    (statement_said body w t.exprs false false nowhere (length f.vars) (agrees t f effects.temps facts sound.vars) nulls sound.body tt (stand_behind f.vars effects.temps)) (end_said w f.signature))

-- each function of the lowered program is that of one with a body
record Lowers (t : TypedTree) (n : ℕ) (fs : List source.FunctionTree) (c : FunctionTree) : Type 0 where
  place : ℕ
  function : source.FunctionTree
  body : BodyTree
  here : slice_get fs place ≡ Some function
  has : function.body ≡ Some body
  is : core_of t (n + place) function body ≡ c

-- one function more before these
later : (t : TypedTree) (n : ℕ) (f : source.FunctionTree) (fs : List source.FunctionTree) (c : FunctionTree) → Lowers t (suc n) fs c → Lowers t n (f ∷ fs) c
later t n f fs c l = record { place = suc l.place; function = l.function; body = l.body; here = l.here; has = l.has; is = subst (λ m. core_of t m l.function l.body ≡ c) (next n l.place) l.is }
  where
    next : (n k : ℕ) → suc n + k ≡ n + suc k
    next n k = omega arith

lowers : (t : TypedTree) (n k : ℕ) (fs : List source.FunctionTree) (c : FunctionTree) → slice_get (functions_from t n fs) k ≡ Some c → Lowers t n fs c
lowers t n k [] c h = cc
lowers t n k (f ∷ fs) c h = go (λ j e. later t n f fs c (lowers t (suc n) j fs c e)) f.body refl k h
  where
    go : ((j : ℕ) → slice_get (functions_from t (suc n) fs) j ≡ Some c → Lowers t n (f ∷ fs) c) → (o : Option BodyTree) → f.body ≡ o → (k : ℕ) → slice_get (code_if t n f o ++ functions_from t (suc n) fs) k ≡ Some c → Lowers t n (f ∷ fs) c
    go rest None e k h = rest k h
    go rest (Some b) e zero h = record { place = 0; function = f; body = b; here = refl; has = e; is = subst (λ m. core_of t m f b ≡ c) (plain n) (same (core_of t n f b) h) }
      where
        plain : (n : ℕ) → n ≡ n + 0
        plain n = omega arith

        same : (x : FunctionTree) → Some x ≡ Some c → x ≡ c
        same x e = cc
    go rest (Some b) e (suc k) h = rest k h

pub programs_said : LoweredProgramsAreSaid
programs_said t k f well nulls here =
    let l = lowers t 0 k t.functions f here in
    subst (λ (z : FunctionTree). IsTrue (are_said (context_of (core_program t) z.vars) (called_signature false (core_program t)) z.body)) l.is
    (functions_said t (0 + l.place) l.function l.body well nulls (subst (λ m. slice_get t.functions m ≡ Some l.function) (plain l.place) l.here) l.has)
  where
    plain : (k : ℕ) → k ≡ 0 + k
    plain k = omega arith
