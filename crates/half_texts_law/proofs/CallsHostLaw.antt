-- The law of halves whose functions without a body are hosts.
use Rattle.std.proofs.Common.{◌≡◌, ◌∙◌, ℕ, zero, suc, refl, ap, sym, subst, arith, Bool, true, false, Option, Some, None, List, [], ◌∷◌, map, length, cond, if◌then◌else◌}
use Rattle.std.specs.Prelude.{◌&&◌, ◌||◌, not, is_some, slice_get, nat_eq, nat_le, unwrap_or}
use Rattle.std.specs.List.{list_all}
use Rattle.std.specs.Map.{lookup}
use Rattle.std.proofs.lemmas.Bool.Decides.{nat_tests}
use Rattle.pt_base.proofs.Booleans.{and_parts}
use Rattle.pt_base.proofs.Members.{all_true_at}
use Rattle.pt_base.proofs.Numbers.{nat_eq_same}
use Rattle.pt_base.proofs.Options.{none_not_some}
use Rattle.pt_base.proofs.Places.{get_mapped}
use Rattle.pt_tree.specs.declared.signature.Param.{Param}
use Rattle.pt_tree.specs.declared.signature.ParamKind.{ParamKind}
use Rattle.pt_tree.specs.declared.signature.ParamKind.TheVariants as k
use Rattle.pt_tree.specs.declared.signature.Signature.{Signature}
use Rattle.typed_tree.specs.TypedTree.{TypedTree}
use Rattle.typed_tree.specs.WellFormed.{are_rising, is_integer_kind, is_integer_param}
use Rattle.source_meaning.specs.Values.{numbers_of}
use Rattle.source_meaning.specs.Functions as mf
use Rattle.source_meaning.specs.Functions.{function_or_none}
use Rattle.pt_core.specs.CodeTree.{FunctionTree, ProgramTree}
use Rattle.pt_core.specs.Values as cv
use Rattle.pt_core.specs.Calls as d
use Rattle.pt_core.specs.WellFormed.{is_sound, signature_at, function_at, called_signature, function_by, function_fits, signature_fits}
use Rattle.half_meaning_law.specs.Statements.{BodiesKeepTheirMeaning, CallsAlike}
use Rattle.half_names_law.specs.Declarable.{Declarable, takes_no_pointer, is_pointer_kind, prototypes_take_no_pointers}
use Rattle.half_names_law.specs.Standing.{own_marks, scene_of, all_said}
use Rattle.half_names_law.specs.Laws.{judged_tree}
use Rattle.half_names_law.proofs.Numbers.{lookup_place, once_there, number_once}
use Rattle.half_names_law.proofs.Names.{FunctionsApart, text_name}
use Rattle.half_names_law.proofs.Premises.{MarksSay}
use Rattle.half_names_law.proofs.Known.{called_from}
use Rattle.half_names_law.proofs.Parts.{function_there}
use Rattle.half_names_law.proofs.Halves.{soundness, signature_there}
use Rattle.half_names_law.proofs.Law.{functions_differ, meanings}
use Rattle.half_names_law.proofs.Marks.{own_say, find_back, defined_is}
use Rattle.half_names_law.proofs.Trees.{bodies_stand}
use Rattle.half_texts_law.specs.Calls.{text_calls, prototypes_are_hosts, OutsideAlike}
use Rattle.half_texts_law.specs.CallsLaws.{StartsAlike, HalfHostsAgree, HalfHostStartsAgree}
use Rattle.half_texts_law.proofs.CallsEntering.{as_many}
use Rattle.half_texts_law.proofs.CallsScenes.{numbers_same}
use Rattle.half_texts_law.proofs.CallsDepths.{number_of, EntryStands, shown}
use Rattle.half_texts_law.proofs.CallsMarked.{undefined_said}
use Rattle.half_texts_law.proofs.CallsEntries.{standing, entry_at, beyond}
use Rattle.half_texts_law.proofs.CallsHosts.{text_hosts, half_hosts, text_within, half_within, host_alike}
use Rattle.half_texts_law.proofs.CallsLaw.{half_calls_agree, half_starts_agree}

-- ---- a host takes no pointers

integers_only : (ps : List Param) → list_all is_integer_param ps ≡ true → list_all (λ x. not (is_pointer_kind x.kind)) ps ≡ true
integers_only [] h = refl
integers_only (x ∷ ps) h = let parts = and_parts (is_integer_param x) (list_all is_integer_param ps) h in λ i. plain x parts.0 i && integers_only ps parts.1 i
  where
    plain : (x : Param) → is_integer_param x ≡ true → not (is_pointer_kind x.kind) ≡ true
    plain x h = kind_plain x.kind h
      where
        kind_plain : (z : ParamKind) → is_integer_kind z ≡ true → not (is_pointer_kind z) ≡ true
        kind_plain (k.Int u) h = refl
        kind_plain (k.Ptr elem fixed) h = cc

pub no_pointers : (p : ProgramTree) → list_all (λ s. signature_fits p.structs s.1) p.signatures ≡ true → prototypes_are_hosts p ≡ true → prototypes_take_no_pointers p ≡ true
no_pointers p fits hosts = go p.signatures fits hosts
  where
    go : (ss : List (ℕ × Signature)) → list_all (λ s. signature_fits p.structs s.1) ss ≡ true → list_all (λ s. is_some (function_at p s.0) || s.1.host) ss ≡ true → list_all (λ s. is_some (function_at p s.0) || takes_no_pointer s.1) ss ≡ true
    go [] fits hosts = refl
    go (s ∷ ss) fits hosts =
        let own = and_parts (signature_fits p.structs s.1) (list_all (λ z. signature_fits p.structs z.1) ss) fits in
        let host = and_parts (is_some (function_at p s.0) || s.1.host) (list_all (λ z. is_some (function_at p z.0) || z.1.host) ss) hosts in
        λ i. one (is_some (function_at p s.0)) s.1.host host.0 (and_parts _ _ own.0).1 i && go ss own.1 host.1 i
      where
        one : (b host : Bool) → (b || host) ≡ true → (not host || list_all is_integer_param s.1.params) ≡ true → (b || takes_no_pointer s.1) ≡ true
        one true host h g = refl
        one false true h g = integers_only s.1.params g
        one false false h g = cc

-- ---- numbers that are looked up

lookup_there : {A : Type 0} (first : ℕ) (xs : List (ℕ × A)) (n j : ℕ) (x : A) → are_rising first (map (λ z. z.0) xs) ≡ true → slice_get xs j ≡ Some (n, x) → lookup (nat_eq n) xs ≡ Some x
lookup_there first [] n j x rise at = cc
lookup_there first (y ∷ ys) n zero x rise at = go (nat_eq n y.0) (self n y.0 (ap (λ z. z.0) (sym (same at))))
  where
    same : Some y ≡ Some (n, x) → y ≡ (n, x)
    same e = cc

    self : (a b : ℕ) → a ≡ b → nat_eq a b ≡ true
    self a b e = grind (arith, nat_tests, e)

    go : (b : Bool) → b ≡ true → cond b (Some y.1) (lookup (nat_eq n) ys) ≡ Some x
    go true e = ap (λ z. Some z.1) (same at)
    go false e = cc
lookup_there first (y ∷ ys) n (suc j) x rise at = go (nat_eq n y.0) refl (lookup_there (suc y.0) ys n j x (and_parts (nat_le first y.0) (are_rising (suc y.0) (map (λ z. z.0) ys)) rise).1 at)
  where
    apart : n ≡ y.0 → ⊥
    apart e = let places = once_there first (map (λ z. z.0) (y ∷ ys)) 0 (suc j) n rise (ap Some (sym e)) (get_mapped (λ z. z.0) ys j (n, x) at) in omega (arith, places)

    go : (b : Bool) → nat_eq n y.0 ≡ b → lookup (nat_eq n) ys ≡ Some x → cond b (Some y.1) (lookup (nat_eq n) ys) ≡ Some x
    go true e again = absurd (apart (nat_eq_same n y.0 e))
    go false e again = again

-- ---- who is a host

module _ (bodies : BodiesKeepTheirMeaning) (monitor : Bool) (p : ProgramTree) (h : is_sound monitor p ≡ true) (d' : Declarable p) (said_all : all_said monitor p ≡ true) (hosts : prototypes_are_hosts p ≡ true) where
  abbrev text_tree : TypedTree
  text_tree = judged_tree (own_marks monitor p) monitor p

  plain : prototypes_take_no_pointers p ≡ true
  plain = no_pointers p (soundness monitor p h).signatures hosts

  half_are : (f : ℕ) → (d.signature_in p f).host ≡ not (is_some (function_at p f))
  half_are f = go (signature_at p f) (function_at p f) refl refl
    where
      fits_at : (g : FunctionTree) (n : ℕ) → slice_get p.functions n ≡ Some g → function_fits monitor p g ≡ true
      fits_at g n there = all_true_at (function_fits monitor p) p.functions n g (soundness monitor p h).functions there

      is_false : (b : Bool) → not b ≡ true → b ≡ false
      is_false true e = cc
      is_false false e = refl

      second : (a b : Bool) → a ≡ false → (a || b) ≡ true → b ≡ true
      second true b e g = cc
      second false b e g = g

      no_host : (g : FunctionTree) (s : Signature) → function_at p f ≡ Some g → signature_at p f ≡ Some s → s.host ≡ false
      no_host g s found named =
          let back = find_back p.functions f g found in
          let fits : function_by monitor p g (Some s) ≡ true = ap (function_by monitor p g) (sym (ap (signature_at p) (sym back.2) ∙ named)) ∙ fits_at g back.0 back.1 in
          is_false s.host (and_parts (not s.host) _ (and_parts _ _ fits).0).0

      a_host : (s : Signature) → function_at p f ≡ None → signature_at p f ≡ Some s → s.host ≡ true
      a_host s none named =
          let place = lookup_place p.signatures f s named in
          second (is_some (function_at p f)) s.host (ap is_some none) (all_true_at (λ z. is_some (function_at p z.0) || z.1.host) p.signatures place.place (f, s) hosts place.there)

      no_name : (g : FunctionTree) → function_at p f ≡ Some g → signature_at p f ≡ None → ⊥
      no_name g found none =
          let back = find_back p.functions f g found in
          let signature = signature_there monitor p g (fits_at g back.0 back.1) in
          none_not_some signature.0 (sym none ∙ ap (signature_at p) back.2 ∙ signature.1)

      go : (o : Option Signature) (q : Option FunctionTree) → signature_at p f ≡ o → function_at p f ≡ q → (unwrap_or (signature_at p f) d.no_signature).host ≡ not (is_some (function_at p f))
      go None None e e' = (λ i. (unwrap_or (e i) d.no_signature).host) ∙ (λ i. not (is_some (sym e' i)))
      go None (Some g) e e' = absurd (no_name g e' e)
      go (Some s) None e e' = (λ i. (unwrap_or (e i) d.no_signature).host) ∙ a_host s e' e ∙ (λ i. not (is_some (sym e' i)))
      go (Some s) (Some g) e e' = (λ i. (unwrap_or (e i) d.no_signature).host) ∙ no_host g s e' e ∙ (λ i. not (is_some (sym e' i)))

  text_are : (g : ℕ) → (function_or_none text_tree g).signature.host ≡ not (is_some (function_or_none text_tree g).body)
  text_are g = go (slice_get p.signatures g) refl
    where
      apart : FunctionsApart p.signatures
      apart = functions_differ monitor p h d'

      say : MarksSay (own_marks monitor p) p
      say = own_say monitor p (soundness monitor p h) apart plain

      defined : (s : ℕ × Signature) → slice_get p.signatures g ≡ Some s → (own_marks monitor p (text_name s)).defined ≡ is_some (function_at p s.0)
      defined s at = by (function_at p s.0) refl
        where
          by : (o : Option FunctionTree) → function_at p s.0 ≡ o → (own_marks monitor p (text_name s)).defined ≡ is_some (function_at p s.0)
          by None e =
              undefined_said monitor p g s (soundness monitor p h) apart at
              (λ j f there is. none_not_some f (sym e ∙ ap (function_at p) (sym is) ∙ function_there 0 p.functions j f (soundness monitor p h).order.1 there))
              ∙ sym (ap is_some e)
          by (Some f) e = defined_is monitor p g s (soundness monitor p h) at (ap is_some e) ∙ sym (ap is_some e)

      go : (o : Option (ℕ × Signature)) → slice_get p.signatures g ≡ o → (function_or_none text_tree g).signature.host ≡ not (is_some (function_or_none text_tree g).body)
      go None e =
          let none = beyond bodies (own_marks monitor p) monitor p h d' said_all say g e in
          (λ i. (unwrap_or (none i) mf.no_function).signature.host) ∙ (λ i. not (is_some (unwrap_or (sym none i) mf.no_function).body))
      go (Some s) e =
          let stands = standing bodies (own_marks monitor p) monitor p h d' said_all say g s e (lookup_there 0 p.signatures s.0 g s.1 (soundness monitor p h).order.0 e) in
          (λ i. (unwrap_or (stands.there i) mf.no_function).signature.host)
          ∙ ap (λ (z : Signature). z.host) stands.signature
          ∙ ap not (defined s e ∙ sym stands.body)
          ∙ (λ i. not (is_some (unwrap_or (sym stands.there i) mf.no_function).body))

  -- ---- calls of hosts

  outside_alike : OutsideAlike monitor p (text_hosts text_tree) (half_hosts p)
  outside_alike n f frames frame active at at' g signature vs xs st st' named not_main args al =
      let apart = functions_differ monitor p h d' in
      let say = own_say monitor p (soundness monitor p h) apart plain in
      let none = without (function_at p (number_of p g)) refl named in
      let from = called_from monitor p (number_of p g) signature none.1 in
      let known = entry_at bodies (own_marks monitor p) monitor p h d' said_all say (λ name. refl)
      (λ n f s there known. (bodies_stand bodies monitor p n f s h d' said_all there known).1 plain) (λ n f s there known. (meanings bodies monitor p n f s h d' said_all there known).1 plain) g from.0 from.1 in
      let stands : EntryStands monitor p text_tree g (number_of p g) from.0 = record { entry = known.entry; there = known.there; privileged = known.privileged; plain = known.plain; body = known.body } in
      let scene = scene_of p f frames frame (text_hosts text_tree) (half_hosts p) in
      let many = as_many scene signature.params vs xs args in
      host_alike scene signature.result (function_or_none text_tree g).signature (d.signature_in p (number_of p g)) g (numbers_of vs) (map cv.number_in xs) st st'
      (λ j k same. number_once 0 (map (λ x. x.0) p.signatures) j k (soundness monitor p h).order.0 same) (numbers_same scene signature.params vs xs args)
      (shown monitor p text_tree g from.0 f frames frame (text_hosts text_tree) (half_hosts p) vs xs signature.params stands from.1 args (many.0 ∙ ap (λ (z : Signature). length z.params) (sym from.2))) al
    where
      without : (o : Option FunctionTree) → function_at p (number_of p g) ≡ o → (if is_some (function_at p (number_of p g)) then None else called_signature monitor p (number_of p g)) ≡ Some signature → (function_at p (number_of p g) ≡ None) × (called_signature monitor p (number_of p g) ≡ Some signature)
      without None e is = (e, sym (ap (λ o. if is_some o then None else called_signature monitor p (number_of p g)) e) ∙ is)
      without (Some x) e is = none_not_some signature (sym (ap (λ o. if is_some o then None else called_signature monitor p (number_of p g)) e) ∙ is)

-- ---- the law

pub half_hosts_agree : BodiesKeepTheirMeaning → HalfHostsAgree
half_hosts_agree bodies monitor p h d' said_all hosts depth n f frames frame active =
    let fits = no_pointers p (soundness monitor p h).signatures hosts in
    let text_tree = judged_tree (own_marks monitor p) monitor p in
    subst (λ k. CallsAlike (scene_of p f frames frame k (d.calls_within p depth)) (called_signature monitor p)) (sym (text_within text_tree (text_are bodies monitor p h d' said_all hosts) depth))
    (subst (λ k. CallsAlike (scene_of p f frames frame (text_calls text_tree (text_hosts text_tree) depth) k) (called_signature monitor p)) (sym (half_within p (half_are bodies monitor p h d' said_all hosts) depth))
    ((half_calls_agree bodies monitor p h d' said_all).1 fits (text_hosts text_tree) (half_hosts p) (outside_alike bodies monitor p h d' said_all hosts) depth n f frames frame active))

pub half_host_starts_agree : BodiesKeepTheirMeaning → HalfHostStartsAgree
half_host_starts_agree bodies monitor p h d' said_all hosts depth =
    let fits = no_pointers p (soundness monitor p h).signatures hosts in
    let text_tree = judged_tree (own_marks monitor p) monitor p in
    subst (λ k. StartsAlike monitor p text_tree k (d.calls_within p depth)) (sym (text_within text_tree (text_are bodies monitor p h d' said_all hosts) depth))
    (subst (λ k. StartsAlike monitor p text_tree (text_calls text_tree (text_hosts text_tree) depth) k) (sym (half_within p (half_are bodies monitor p h d' said_all hosts) depth))
    ((half_starts_agree bodies monitor p h d' said_all).1 fits (text_hosts text_tree) (half_hosts p) (outside_alike bodies monitor p h d' said_all hosts) depth))
