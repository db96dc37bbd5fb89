-- A map as a table of names.
use Rattle.std.proofs.Common.{◌≡◌, ◌∙◌, ◌+◌, ℕ, suc, List, [], ◌∷◌, ◌++◌, map, Vec, refl, ap, sym, length, nat_lt, cond, not, arith, Bool, true, false, Option, Some, None, if◌then◌else◌, is_none}
use Rattle.std.specs.Prelude.{position}
use Rattle.std.specs.List.{prefix_len}
use Rattle.std.specs.Str.{bytes_eq}
use Rattle.std.specs.declared.alloc.Global.{Global}
use Rattle.std.specs.Map.{keys_of, values_of}
use Rattle.indexmap.specs.IndexMap.{insert_entry}
use Rattle.check_declarations.specs.NameTables.{Named, number_of, is_new, with_name}

module _ {X : Type 0} where
  abbrev pub named : List (Vec ℕ Global × X) → Named X
  named es = map (λ e. (e.0.items, e.1)) es

  prefix_named : (es : List (Vec ℕ Global × X)) (name : List ℕ) → prefix_len (λ k. not (bytes_eq name k.items)) (keys_of es) ≡ prefix_len (λ e. not (bytes_eq name e.0)) (named es)
  prefix_named [] name = refl
  prefix_named (e ∷ es) name = ap (λ n. cond (not (bytes_eq name e.0.items)) (1 + n) 0) (prefix_named es name)

  length_named : (es : List (Vec ℕ Global × X)) → length (keys_of es) ≡ length (named es)
  length_named [] = refl
  length_named (e ∷ es) = ap suc (length_named es)

  pub numbers : (es : List (Vec ℕ Global × X)) (name : List ℕ) → position (λ k. bytes_eq name k.items) (keys_of es) ≡ number_of (named es) name
  numbers es name =
      ap (λ n. cond (nat_lt n (length (keys_of es))) (Some n) None) (prefix_named es name)
      ∙ ap (λ m. cond (nat_lt (prefix_len (λ e. not (bytes_eq name e.0)) (named es)) m) (Some (prefix_len (λ e. not (bytes_eq name e.0)) (named es))) None) (length_named es)

  pub values_named : (es : List (Vec ℕ Global × X)) → values_of es ≡ map (λ e. e.1) (named es)
  values_named [] = refl
  values_named (e ∷ es) = ap (λ xs. e.1 ∷ xs) (values_named es)

  -- a name that stands nowhere isn't the first one, and isn't among the others
  tail_new : (e : List ℕ × X) (table : Named X) (name : List ℕ) → number_of (e ∷ table) name ≡ None → (bytes_eq name e.0 ≡ false) × (number_of table name ≡ None)
  tail_new e table name none = go (bytes_eq name e.0) refl none
    where
      rest : ℕ
      rest = prefix_len (λ e'. not (bytes_eq name e'.0)) table

      absent : (b : Bool) (n : ℕ) → cond b (Some n) None ≡ None → b ≡ false
      absent true n is = cc
      absent false n is = refl

      go : (b : Bool) → bytes_eq name e.0 ≡ b → cond (nat_lt (cond (not b) (1 + rest) 0) (suc (length table))) (Some (cond (not b) (1 + rest) 0)) None ≡ None → (b ≡ false) × (cond (nat_lt rest (length table)) (Some rest) None ≡ None)
      go true is none' = let first : nat_lt 0 (suc (length table)) ≡ true = grind arith in let h : nat_lt 0 (suc (length table)) ≡ false = absent _ 0 none' in cc
      go false is none' =
          let h : nat_lt (1 + rest) (suc (length table)) ≡ false = absent _ (1 + rest) none' in
          let k : nat_lt rest (length table) ≡ false = grind arith in
          (refl, ap (λ b. cond b (Some rest) None) k)

  inserted : (eq : Vec ℕ Global → Vec ℕ Global → Bool) → ((a b : Vec ℕ Global) → eq a b ≡ bytes_eq a.items b.items) → (es : List (Vec ℕ Global × X)) (k : Vec ℕ Global) (x : X) → number_of (named es) k.items ≡ None → named (insert_entry eq es k x) ≡ named es ++ (k.items, x) ∷ []
  inserted eq same [] k x none = refl
  inserted eq same (e ∷ es) k x none =
      let t = tail_new (e.0.items, e.1) (named es) k.items none in
      ap (λ b. named (if b then (e.0, x) ∷ es else e ∷ insert_entry eq es k x)) (same k e.0 ∙ t.0)
      ∙ ap (λ xs. (e.0.items, e.1) ∷ xs) (inserted eq same es k x t.1)

  -- a name that isn't there is added at the end
  pub named-insert : (eq : Vec ℕ Global → Vec ℕ Global → Bool) → ((a b : Vec ℕ Global) → eq a b ≡ bytes_eq a.items b.items) → (es after : List (Vec ℕ Global × X)) (k : Vec ℕ Global) (name : List ℕ) (x : X)
      → k.items ≡ name → is_new (named es) name ≡ true → after ≡ insert_entry eq es k x → named after ≡ with_name (named es) name x
  named-insert eq same es after k name x is new e =
      let none : number_of (named es) k.items ≡ None = ap (number_of (named es)) is ∙ nothing (number_of (named es) name) new in
      ap named e
      ∙ inserted eq same es k x none
      ∙ ap (λ n. named es ++ (n, x) ∷ []) is
      ∙ sym (ap (λ b. if b then named es ++ (name, x) ∷ [] else named es) new)
    where
      nothing : (o : Option ℕ) → is_none o ≡ true → o ≡ None
      nothing None h = refl
      nothing (Some n) h = cc
