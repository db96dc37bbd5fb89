-- The first of several privileged slots.
use Rattle.std.proofs.Common.{◌≡◌, ◌∙◌, ◌<◌, ◌-◌, ◌+◌, ℕ, suc, refl, ap, sym, arith, Option, None, Some, List, [], ◌∷◌, ◌++◌, map, append_assoc}
use Rattle.std.specs.List.{flat_map, range_with_len}
use Rattle.pt_base.specs.declared.span.Span.{Span}
use Rattle.pt_base.proofs.Lists.{filter_append}
use Rattle.flow_rules.specs.declared.rule.Rule.{Rule}
use Rattle.flow_rules.specs.Findings.{found}
use Rattle.flow_rules.specs.Kept.{first_of, found_at, kept, secrets_from}
use Rattle.flow_rules.specs.Secrets.{Flows, secret_slots}

pub kept_found : (rule : Rule) (span : Span) (slots : List ℕ) → found_at rule span (first_of slots) ≡ map kept (found rule span slots)
kept_found rule span [] = refl
kept_found rule span (s ∷ ss) = refl

-- where the first list has none, the first of the second one
pub first_later : (xs ys : List ℕ) → first_of xs ≡ None → first_of (xs ++ ys) ≡ first_of ys
first_later [] ys h = refl
first_later (x ∷ xs) ys h = cc

pub first_here : (xs ys : List ℕ) (s : ℕ) → first_of xs ≡ Some s → first_of (xs ++ ys) ≡ Some s
first_here [] ys s h = cc
first_here (x ∷ xs) ys s h = h

pub starts_split : (p : Flows) (leaves : List ℕ) (s : ℕ) (ss : List ℕ) →
    secret_slots p (s ∷ ss) leaves ≡ secrets_from p leaves s ++ secret_slots p ss leaves
starts_split p leaves s ss = filter_append p.is_priv (map (λ j. s + j) leaves) (flat_map (λ k. map (λ j. k + j) leaves) ss)

pub next_number : (xs new whole : List ℕ) (n j : ℕ) → j < n → new ≡ xs ++ j ∷ [] →
    xs ++ range_with_len j (n - j) ≡ whole → new ++ range_with_len (j + 1) (n - (j + 1)) ≡ whole
next_number xs new whole n j lt added e =
    let is : n - j ≡ suc (n - (j + 1)) = omega (arith, lt) in
    ap (λ ys. ys ++ range_with_len (j + 1) (n - (j + 1))) added
    ∙ append_assoc xs (j ∷ []) (range_with_len (j + 1) (n - (j + 1)))
    ∙ ap (λ k. xs ++ range_with_len j k) (sym is) ∙ e

-- the first of what begins at one slot or else at others
abbrev pub first_or : Option ℕ → Option ℕ → Option ℕ
first_or None other = other
first_or (Some s) other = Some s

first_both : (xs ys : List ℕ) → first_of (xs ++ ys) ≡ first_or (first_of xs) (first_of ys)
first_both [] ys = refl
first_both (x ∷ xs) ys = refl

pub starts : (p : Flows) (leaves : List ℕ) (s : ℕ) (ss : List ℕ) →
    first_of (secret_slots p (s ∷ ss) leaves) ≡ first_or (first_of (secrets_from p leaves s)) (first_of (secret_slots p ss leaves))
starts p leaves s ss = ap first_of (starts_split p leaves s ss) ∙ first_both (secrets_from p leaves s) (secret_slots p ss leaves)
