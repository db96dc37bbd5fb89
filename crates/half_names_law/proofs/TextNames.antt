-- The names that a half's text gives variables, globals and functions are different.
use Rattle.std.proofs.Common.{◌≡◌, ◌∙◌, ◌<◌, ◌≤◌, ◌^◌, sym, ap, refl, ℕ, Bool, true, false, List, [], ◌∷◌, codes, Some, arith, if◌then◌else◌}
use Rattle.std.specs.Str.{bytes_eq}
use Rattle.std.proofs.lemmas.Fmt.{decimal_injective}
use Rattle.pt_base.proofs.Lists.{bytes_eq_same}
use Rattle.pt_tree.specs.declared.signature.Signature.{Signature}
use Rattle.typed_tree.specs.WellFormedExpression as m
use Rattle.check_expressions.specs.Postfixes.{is_main}
use Rattle.half_trees.specs.Names.{named, local_name, global_name, function_by}
use Rattle.half_names_law.proofs.Tables.{Differ}

abbrev first_of : List ℕ → ℕ
first_of [] = 0
first_of (b ∷ bs) = b

abbrev rest_of : List ℕ → List ℕ
rest_of [] = []
rest_of (b ∷ bs) = bs

abbrev behind_two : List ℕ → List ℕ
behind_two bs = rest_of (rest_of bs)

-- ---- numbers

pub locals_differ : (count : ℕ) → count ≤ 2 ^ 64 → Differ local_name count
locals_differ count small j k low high same = decimal_injective j k (omega (arith, low, small)) (omega (arith, high, small)) (ap behind_two same)

pub same_global : (g h : ℕ) → g < 2 ^ 64 → h < 2 ^ 64 → global_name g ≡ global_name h → g ≡ h
same_global g h low high same = decimal_injective g h low high (ap behind_two same)

-- ---- kinds

-- a function's name begins with `f` or, where it is main's, with `m`
function_first : (f : ℕ) (s : Signature) → first_of (function_by f (Some s)) ≡ (if m.is_main s then 109 else 102)
function_first f s = go (m.is_main s)
  where
    go : (b : Bool) → first_of (if b then codes "main" else named (codes "f_") f (Some s.name)) ≡ (if b then 109 else 102)
    go true = refl
    go false = refl

begins_low : (f : ℕ) (s : Signature) (c : ℕ) → first_of (function_by f (Some s)) ≡ c → (c ≡ 103 → ⊥) × (c ≡ 118 → ⊥)
begins_low f s c h = go (m.is_main s) (sym (function_first f s) ∙ h)
  where
    go : (b : Bool) → (if b then 109 else 102) ≡ c → (c ≡ 103 → ⊥) × (c ≡ 118 → ⊥)
    go true e = ((λ k. omega (arith, e, k)), (λ k. omega (arith, e, k)))
    go false e = ((λ k. omega (arith, e, k)), (λ k. omega (arith, e, k)))

pub no_global : (f : ℕ) (s : Signature) (g : ℕ) → function_by f (Some s) ≡ global_name g → ⊥
no_global f s g same = (begins_low f s 103 (ap first_of same)).0 refl

pub no_local : (f : ℕ) (s : Signature) (v : ℕ) → function_by f (Some s) ≡ local_name v → ⊥
no_local f s v same = (begins_low f s 118 (ap first_of same)).1 refl

pub global_no_local : (g v : ℕ) → global_name g ≡ local_name v → ⊥
global_no_local g v same = apart (ap first_of same)
  where
    apart : first_of (codes "g_") ≡ first_of (codes "v_") → ⊥
    apart e = omega (arith, e)

-- ---- main

-- another function isn't called main
pub no_main : (f : ℕ) (s : Signature) → m.is_main s ≡ false → is_main (function_by f (Some s)) ≡ false
unfolding is_main
no_main f s other = go (bytes_eq (function_by f (Some s)) (codes "main")) refl
  where
    apart : (first_of (function_by f (Some s)) ≡ 109) → ⊥
    apart e = differ (sym (function_first f s ∙ ap (λ b. if b then 109 else 102) other) ∙ e)
      where
        differ : first_of (codes "f_") ≡ first_of (codes "m_") → ⊥
        differ k = omega (arith, k)

    go : (b : Bool) → bytes_eq (function_by f (Some s)) (codes "main") ≡ b → b ≡ false
    go true is = absurd (apart (ap first_of (bytes_eq_same (function_by f (Some s)) (codes "main") is)))
    go false is = refl
