-- What is found, one after the other.
use Rattle.std.proofs.Common.{◌≡◌, ◌∙◌, refl, ap, sym, List, [], ◌∷◌, ◌++◌, map, append_assoc, append-nil}
use Rattle.flow_rules.specs.declared.found.Found.{Found}
use Rattle.flow_rules.specs.Findings.{Finding}
use Rattle.flow_rules.specs.Kept.{kept}

pub kept_both : (xs ys : List Finding) → map kept (xs ++ ys) ≡ map kept xs ++ map kept ys
kept_both [] ys = refl
kept_both (x ∷ xs) ys = ap (λ zs. kept x ∷ zs) (kept_both xs ys)

-- one thing more is added, and the rest then adds what all did
pub next_kept : (list new whole : List Found) (xs ys : List Finding) → new ≡ list ++ map kept xs →
    list ++ map kept (xs ++ ys) ≡ whole → new ++ map kept ys ≡ whole
next_kept list new whole xs ys added e =
    ap (λ zs. zs ++ map kept ys) added ∙ append_assoc list (map kept xs) (map kept ys) ∙ ap (λ zs. list ++ zs) (sym (kept_both xs ys)) ∙ e

pub two_kept : (list mid new : List Found) (xs ys : List Finding) → mid ≡ list ++ map kept xs → new ≡ mid ++ map kept ys → new ≡ list ++ map kept (xs ++ ys)
two_kept list mid new xs ys h k = k ∙ ap (λ zs. zs ++ map kept ys) h ∙ append_assoc list (map kept xs) (map kept ys) ∙ ap (λ zs. list ++ zs) (sym (kept_both xs ys))

pub five_kept : (list a b d f new : List Found) (xs ys zs us vs : List Finding) →
    a ≡ list ++ map kept xs → b ≡ a ++ map kept ys → d ≡ b ++ map kept zs → f ≡ d ++ map kept us → new ≡ f ++ map kept vs →
    new ≡ list ++ map kept ((xs ++ ys) ++ (zs ++ (us ++ vs)))
five_kept list a b d f new xs ys zs us vs h i j k l =
    two_kept list b new (xs ++ ys) (zs ++ (us ++ vs)) (two_kept list a b xs ys h i) (two_kept b d new zs (us ++ vs) j (two_kept d f new us vs k l))

pub four_kept : (list a b d new : List Found) (xs ys zs us : List Finding) → list ≡ [] →
    a ≡ list ++ map kept xs → b ≡ a ++ map kept ys → d ≡ b ++ map kept zs → new ≡ d ++ map kept us → new ≡ map kept ((xs ++ ys) ++ (zs ++ us))
four_kept list a b d new xs ys zs us none h i j k =
    two_kept list b new (xs ++ ys) (zs ++ us) (two_kept list a b xs ys h i) (two_kept b d new zs us j k) ∙ ap (λ fs. fs ++ map kept ((xs ++ ys) ++ (zs ++ us))) none

-- where nothing is found
pub none_kept : (list : List Found) (xs : List Finding) → xs ≡ [] → list ≡ list ++ map kept xs
none_kept list xs none = sym (append-nil list) ∙ ap (λ ys. list ++ map kept ys) (sym none)
