-- One range more at the front.
use Rattle.std.proofs.Common.{◌≡◌, ◌∙◌, ℕ, List, [], ◌∷◌, ◌++◌, Option, Some, None, ap, ap₂, sym, append_assoc}
use Rattle.std.specs.Option.{option_map, option_map_or}
use Rattle.policy.specs.declared.argument.ArgRange.{ArgRange}
use Rattle.policy.specs.Reading.{range_of, first_range, ranges_of, onto_ranges}

-- the ranges of the words are this one and those of the others
ranges_step : (ws others : List (List ℕ)) (r : ArgRange) → Some (r, others) ≡ first_range ws → ranges_of ws ≡ onto_ranges r (ranges_of others)
ranges_step [] others r e = cc
ranges_step (a ∷ []) others r e = cc
ranges_step (a ∷ b ∷ []) others r e = cc
ranges_step (a ∷ b ∷ c ∷ ws) others r e = go (range_of a b c) e
  where
    go : (o : Option ArgRange) → ◌≡◌ {A = Option (ArgRange × List (List ℕ))} (Some (r, others)) (option_map (λ q. (q, ws)) o)
        → option_map_or (λ q. onto_ranges q (ranges_of ws)) o ([], a ∷ b ∷ c ∷ ws) ≡ onto_ranges r (ranges_of others)
    go None is = cc
    go (Some q) is =
        let same : ◌≡◌ {A = ArgRange × List (List ℕ)} (r, others) (q, ws) = cc in
        ap₂ (λ x xs. onto_ranges x (ranges_of xs)) (sym (ap (λ p. p.0) same)) (sym (ap (λ p. p.1) same))

pub ranges_more : (all : List ArgRange × List (List ℕ)) (ws others : List (List ℕ)) (r : ArgRange) (so_far longer : List ArgRange)
    → Some (r, others) ≡ first_range ws → longer ≡ so_far ++ r ∷ [] → all.0 ≡ so_far ++ (ranges_of ws).0 → all.1 ≡ (ranges_of ws).1
    → (all.0 ≡ longer ++ (ranges_of others).0) × (all.1 ≡ (ranges_of others).1)
ranges_more all ws others r so_far longer e pushed ranges rest =
    let step : ranges_of ws ≡ onto_ranges r (ranges_of others) = ranges_step ws others r e in (
      ranges ∙ ap (λ p. so_far ++ p.0) step ∙ sym (append_assoc so_far (r ∷ []) (ranges_of others).0) ∙ ap (λ xs. xs ++ (ranges_of others).0) (sym pushed),
      rest ∙ ap (λ p. p.1) step,
    )
