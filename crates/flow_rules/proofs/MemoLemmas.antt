-- Questions that were asked, and their answers.
use Rattle.std.proofs.Common.{◌≡◌, ◌∙◌, ℕ, zero, suc, ap, sym, subst, arith, Bool, true, false, Option, Some, None, List, [], ◌∷◌, ◌++◌, slice_get}
use Rattle.std.specs.Prelude.{not, if◌then◌else◌, IfSome}
use Rattle.std.specs.List.{list_any}
use Rattle.std.proofs.lemmas.Bool.Decides.{nat_tests}
use Rattle.indexmap.specs.IndexSet.{insert_key}
use Rattle.pt_tree.specs.declared.signature.Elem.TheVariants as e
use Rattle.sides.specs.Leaves.{leaves_of}
use Rattle.sides.specs.LeafTables.{named_struct}
use Rattle.typed_tree.specs.declared.types.StructInfo.{StructInfo}
use Rattle.typed_tree.specs.declared.types.VarTy.{VarTy}
use Rattle.typed_tree.specs.declared.types.VarTy.TheVariants.{Int, Struct, Array, Pointer}
use Rattle.flow_rules.specs.contracts.memo.AskedPartialEq.TheImpl as asked_eq
use Rattle.flow_rules.specs.declared.memo.Asked.{Asked}
use Rattle.flow_rules.specs.declared.memo.Memo.{Memo}
use Rattle.flow_rules.specs.Kept.{first_of, secrets_from}
use Rattle.flow_rules.specs.Memory.{Answers, AreAnswers, IsLeft, Knows, WantsAnswer}
use Rattle.flow_rules.specs.Secrets.{Flows, unmarked_leaves}

-- ---- keys

asked_same : (a b : Asked) → asked_eq.ghosts.eq a b ≡ true → a ≡ b
asked_same a b h = grind (arith, nat_tests)

-- a new question stands behind the others
pub asked_new : (before after : List Asked) (x : Asked) (b : Bool) → after ≡ insert_key asked_eq.ghosts.eq before x → b ≡ not (list_any (asked_eq.ghosts.eq x) before) → b ≡ true → after ≡ before ++ x ∷ []
asked_new before after x b added is new = go (list_any (asked_eq.ghosts.eq x) before) added (sym is ∙ new)
  where
    go : (there : Bool) → after ≡ (if there then before else before ++ x ∷ []) → not there ≡ true → after ≡ before ++ x ∷ []
    go true added h = cc
    go false added h = added

-- an old one leaves them as they are
pub asked_old : (before after : List Asked) (x : Asked) (b : Bool) → after ≡ insert_key asked_eq.ghosts.eq before x → b ≡ not (list_any (asked_eq.ghosts.eq x) before) → b ≡ false → after ≡ before
asked_old before after x b added is old = go (list_any (asked_eq.ghosts.eq x) before) added (sym is ∙ old)
  where
    go : (there : Bool) → after ≡ (if there then before else before ++ x ∷ []) → not there ≡ false → after ≡ before
    go true added h = added
    go false added h = cc

-- ---- answers

pub nothing_asked : (p : Flows) (xs : List Asked) (ss : List (Option ℕ)) → xs ≡ [] → ss ≡ [] → AreAnswers p xs ss
nothing_asked p xs ss none nothing = subst (λ (ys : List Asked). AreAnswers p ys ss) (sym none) (subst (λ (ts : List (Option ℕ)). AreAnswers p [] ts) (sym nothing) tt)

answer_at : (p : Flows) (xs : List Asked) (ss : List (Option ℕ)) (i : ℕ) (x : Asked) (s : Option ℕ) → AreAnswers p xs ss → slice_get xs i ≡ Some x → slice_get ss i ≡ Some s → Answers p x s
answer_at p [] ss i x s are h k = cc
answer_at p (y ∷ ys) [] i x s are h k = absurd are
answer_at p (y ∷ ys) (t ∷ ts) zero x s are h k = let e : y ≡ x = cc in let f : t ≡ s = cc in subst (λ (z : Asked). Answers p z s) e (sym f ∙ are.0)
answer_at p (y ∷ ys) (t ∷ ts) (suc i) x s are h k = answer_at p ys ts i x s are.1 h k

-- an old question has its answer
pub old_answer : (p : Flows) (before after : List Asked) (ss : List (Option ℕ)) (i : ℕ) (x k : Asked) (s : Option ℕ) → AreAnswers p before ss → after ≡ before → slice_get after i ≡ Some k → asked_eq.ghosts.eq x k ≡ true → slice_get ss i ≡ Some s → Answers p x s
old_answer p before after ss i x k s are same at equal found =
    let e : x ≡ k = asked_same x k equal in
    subst (λ (z : Asked). Answers p z s) (sym e) (answer_at p before ss i k s are (sym (ap (λ (ys : List Asked). slice_get ys i) same) ∙ at) found)

answer_there : (p : Flows) (xs : List Asked) (ss : List (Option ℕ)) (i : ℕ) (x : Asked) → AreAnswers p xs ss → slice_get xs i ≡ Some x → slice_get ss i ≡ None → ⊥
answer_there p [] ss i x are h k = cc
answer_there p (y ∷ ys) [] i x are h k = are
answer_there p (y ∷ ys) (t ∷ ts) zero x are h k = cc
answer_there p (y ∷ ys) (t ∷ ts) (suc i) x are h k = answer_there p ys ts i x are.1 h k

pub never_missing : (p : Flows) (before after : List Asked) (ss : List (Option ℕ)) (i : ℕ) (k : Asked) → AreAnswers p before ss → after ≡ before → slice_get after i ≡ Some k → slice_get ss i ≡ None → ⊥
never_missing p before after ss i k are same at found = answer_there p before ss i k are (sym (ap (λ (ys : List Asked). slice_get ys i) same) ∙ at) found

pub still_known : (p : Flows) (before after : List Asked) (ss : List (Option ℕ)) → AreAnswers p before ss → after ≡ before → AreAnswers p after ss
still_known p before after ss are same = subst (λ (ys : List Asked). AreAnswers p ys ss) (sym same) are

answers_push : (p : Flows) (xs : List Asked) (ss : List (Option ℕ)) (x : Asked) (s : Option ℕ) → AreAnswers p xs ss → Answers p x s → AreAnswers p (xs ++ x ∷ []) (ss ++ s ∷ [])
answers_push p [] [] x s are is = (is, tt)
answers_push p [] (t ∷ ts) x s are is = absurd are
answers_push p (y ∷ ys) [] x s are is = absurd are
answers_push p (y ∷ ys) (t ∷ ts) x s are is = (are.0, answers_push p ys ts x s are.1 is)

pub learned : (p : Flows) (m : Memo) (keys : List Asked) (ss : List (Option ℕ)) (x : Asked) (s : Option ℕ) → WantsAnswer p m x → Answers p x s → keys ≡ m.asked.keys → ss ≡ m.answers.items ++ s ∷ [] → AreAnswers p keys ss
learned p m keys ss x s (xs, last, are) is same added =
    subst (λ (ys : List Asked). AreAnswers p ys ss) (sym (same ∙ last)) (subst (λ (ts : List (Option ℕ)). AreAnswers p (xs ++ x ∷ []) ts) (sym added) (answers_push p xs m.answers.items x s are is))

-- ---- the leaves of a type are those of its struct

pub struct_leaves : (structs : List StructInfo) (ty : VarTy) (n : ℕ) → named_struct ty ≡ Some n → unmarked_leaves structs (Some (Struct n)) ≡ unmarked_leaves structs (Some ty)
unfolding leaves_of
struct_leaves structs (Int t) n h = cc
struct_leaves structs (Struct m) n h = let same : m ≡ n = cc in ap (λ k. unmarked_leaves structs (Some (Struct k))) (sym same)
struct_leaves structs (Array (e.Int t) count) n h = cc
struct_leaves structs (Array (e.Struct m) count) n h = let same : m ≡ n = cc in ap (λ k. unmarked_leaves structs (Some (Struct k))) (sym same)
struct_leaves structs (Pointer (e.Int t) fixed) n h = cc
struct_leaves structs (Pointer (e.Struct m) fixed) n h = let same : m ≡ n = cc in ap (λ k. unmarked_leaves structs (Some (Struct k))) (sym same)

pub answers_type : (p : Flows) (x : Asked) (ty : VarTy) (s : Option ℕ) → named_struct ty ≡ Some x.structure → Answers p x s → s ≡ first_of (secrets_from p (unmarked_leaves p.tree.structs (Some ty)) x.start)
answers_type p x ty s named is = is ∙ ap (λ ls. first_of (secrets_from p ls x.start)) (struct_leaves p.tree.structs ty x.structure named)

pub type_answers : (p : Flows) (x : Asked) (ty : VarTy) (s : Option ℕ) → named_struct ty ≡ Some x.structure → s ≡ first_of (secrets_from p (unmarked_leaves p.tree.structs (Some ty)) x.start) → Answers p x s
type_answers p x ty s named is = is ∙ ap (λ ls. first_of (secrets_from p ls x.start)) (sym (struct_leaves p.tree.structs ty x.structure named))

-- ---- what a question was answered

pub was_known : (o : Option (Option ℕ)) (s : Option ℕ) (before after : Memo) (x : Asked) (p : Flows) → o ≡ Some s → IfSome o (λ t. (q : Flows) → Knows q before → Answers q x t × Knows q after) → Knows p before → Answers p x s × Knows p after
was_known None s before after x p e h k = cc
was_known (Some t) s before after x p e h k = let same : t ≡ s = cc in subst (λ (u : Option ℕ). Answers p x u × Knows p after) same (h p k)

pub was_new : (o : Option (Option ℕ)) (m : Memo) (x : Asked) (p : Flows) → o ≡ None → IsLeft p o m x → WantsAnswer p m x
was_new None m x p e h = h
was_new (Some s) m x p e h = cc
