-- The members as code appends them are those of the table's text.
use Rattle.std.proofs.Common.{◌≡◌, ◌∙◌, ℕ, Bool, true, false, cond, List, [], ◌∷◌, ◌++◌, map, filter, flat_map, codes, refl, sym, ap, append-nil}
use Rattle.std.specs.List.{join_with_byte}
use Rattle.pt_tree.specs.declared.signature.Signature.{Signature}
use Rattle.serde_json.specs.Written.{comma_if}
use Rattle.typed_tree.specs.TypedTree.{TypedTree, signatures_of}
use Rattle.starting_texts.specs.Hosts.{hosts_text}
use Rattle.starting_texts.specs.Tables.{member_text, table_text}

-- each of these behind a comma
abbrev pub behind_commas : List (List ℕ) → List ℕ
behind_commas pieces = flat_map (λ (p : List ℕ). 44 ∷ p) pieces

abbrev pub members_of : List Signature → List (List ℕ)
members_of hosts = map member_text hosts

-- the first piece, and the others behind commas
pub joined : (first : List ℕ) (pieces : List (List ℕ)) → join_with_byte 44 (first ∷ pieces) ≡ first ++ behind_commas pieces
joined first [] = sym (append-nil first)
joined first (p ∷ pieces) = ap (λ (xs : List ℕ). first ++ 44 ∷ xs) (joined p pieces)

abbrev hosts_in : List Signature → List Signature
hosts_in fns = filter (λ (s : Signature). s.host) fns

behind : (fns : List Signature) → hosts_text true fns ≡ behind_commas (members_of (hosts_in fns))
behind [] = refl
behind (s ∷ fns) = go s.host (behind fns)
  where
    go : (b : Bool) → hosts_text true fns ≡ behind_commas (members_of (hosts_in fns))
        → cond b ((comma_if true ++ member_text s) ++ hosts_text true fns) (hosts_text true fns) ≡ behind_commas (members_of (cond b (s ∷ hosts_in fns) (hosts_in fns)))
    go true rest = ap (λ (xs : List ℕ). (44 ∷ member_text s) ++ xs) rest
    go false rest = rest

hosts_joined : (fns : List Signature) → hosts_text false fns ≡ join_with_byte 44 (members_of (hosts_in fns))
hosts_joined [] = refl
hosts_joined (s ∷ fns) = go s.host (hosts_joined fns)
  where
    go : (b : Bool) → hosts_text false fns ≡ join_with_byte 44 (members_of (hosts_in fns))
        → cond b ((comma_if false ++ member_text s) ++ hosts_text true fns) (hosts_text false fns) ≡ join_with_byte 44 (members_of (cond b (s ∷ hosts_in fns) (hosts_in fns)))
    go true rest = ap (λ (xs : List ℕ). member_text s ++ xs) (behind fns) ∙ sym (joined (member_text s) (members_of (hosts_in fns)))
    go false rest = rest

pub table_is : (t : TypedTree) → codes "{" ++ hosts_text false (signatures_of t) ++ codes "}" ≡ table_text t
table_is t = ap (λ (xs : List ℕ). codes "{" ++ xs ++ codes "}") (hosts_joined (signatures_of t))
