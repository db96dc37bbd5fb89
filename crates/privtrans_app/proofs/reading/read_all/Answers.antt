use Rattle.std.proofs.Common.{◌≡◌, ◌≤◌, ◌<◌, ◌+◌, ◌∙◌, ℕ, List, [], ◌∷◌, ◌++◌, map, take, drop, get_or, length, Bor, Option, refl, sym, ap, subst, arith}
use Rattle.std.proofs.lemmas.List.{take_more, drop_more, take-append-drop}
use Rattle.pt_base.specs.Files.{Files, GivesFirst, SameFiles}
use Rattle.privtrans_app.specs.Ending.{Ending, memory}
use Rattle.privtrans_app.specs.EndingSeen.{ending_seen}
use Rattle.privtrans_app.specs.Reading.{AreFirst, IsReadRefusal, IsRefusal}
use Rattle.privtrans_app.proofs.HeldLemmas.{first_held, first_more}
use Rattle.privtrans_app.proofs.ReadingLemmas.{gives_same, refusal_since, same_trans}
use Rattle.privtrans_app.proofs.reading.read_all.Goals as goal

-- ---- names

abbrev bytes_of : List (Bor (List ℕ)) → List (List ℕ)
bytes_of names = map (λ n. n.now) names

abbrev name_at : List (Bor (List ℕ)) → ℕ → Bor (List ℕ)
name_at names i = get_or names i (record { ref_ptr = (0, 0); now = [] })

bytes_split : (xs ys : List (Bor (List ℕ))) → bytes_of (xs ++ ys) ≡ bytes_of xs ++ bytes_of ys
bytes_split [] ys = refl
bytes_split (x ∷ xs) ys = ap (λ zs. x.now ∷ zs) (bytes_split xs ys)

parted : (names : List (Bor (List ℕ))) (i : ℕ) → i < length names → bytes_of names ≡ bytes_of (take i names) ++ (name_at names i).now ∷ bytes_of (drop (i + 1) names)
parted names i within =
    ap bytes_of (sym (take-append-drop i names)) ∙ bytes_split (take i names) (drop i names)
    ∙ ap (λ (ys : List (Bor (List ℕ))). bytes_of (take i names) ++ bytes_of ys) (drop_more names i (record { ref_ptr = (0, 0); now = [] }) within)

one_more : (names : List (Bor (List ℕ))) (i : ℕ) → i < length names → bytes_of (take (i + 1) names) ≡ bytes_of (take i names) ++ (name_at names i).now ∷ []
one_more names i within =
    ap bytes_of (take_more names i (record { ref_ptr = (0, 0); now = [] }) within) ∙ bytes_split (take i names) (name_at names i ∷ [])

-- ---- the file of the next name

module _ (names : List (Bor (List ℕ))) (i : ℕ) (a b : Option Files) (texts : List (List ℕ)) (within : i < length names) (first : AreFirst a (bytes_of (take i names)) texts) (same : SameFiles a b) where
  unread : (r0 r1 r2 : ℕ) (e : Ending) → r0 ≤ r1 → r1 ≤ r2 → IsReadRefusal (name_at names i).now b r1 r2 e → IsRefusal (bytes_of names) a r0 r2 e
  unread r0 r1 r2 e x y is = record {
    before = bytes_of (take i names);
    name = (name_at names i).now;
    after = bytes_of (drop (i + 1) names);
    are = parted names i within;
    held = first_held a (bytes_of (take i names)) texts first;
    is = refusal_since a b (name_at names i).now r0 r1 r2 e same x y is;
  }

  read : (text : List ℕ) (texts' : List (List ℕ)) → GivesFirst b (name_at names i).now 1048577 text → texts' ≡ texts ++ text ∷ [] → AreFirst a (bytes_of (take (i + 1) names)) texts'
  read text texts' gives is =
      subst (λ (ns : List (List ℕ)). AreFirst a ns texts') (sym (one_more names i within))
      (subst (λ (ts : List (List ℕ)). AreFirst a (bytes_of (take i names) ++ (name_at names i).now ∷ []) ts) (sym is)
      (first_more a (bytes_of (take i names)) texts (name_at names i).now text first (gives_same a b (name_at names i).now 1048577 text same gives)))

pub returns-in-Err-clause-refusal : goal.returns-in-Err-clause-refusal
returns-in-Err-clause-refusal g c =
    let within : c.loop-name.name-index < length c.args.names.now = grind arith in
    let stood : g.F.Folder.read_faults c.args.folder.now ≤ g.F.Folder.read_faults c.loop-name.folder = let is = c.loop-name.invariant.stays in grind arith in
    unread c.args.names.now c.loop-name.name-index (g.F.Folder.files c.args.folder.now) (g.F.Folder.files c.loop-name.folder) c.loop-name.texts.items within c.loop-name.invariant.read c.loop-name.invariant.same
    (g.F.Folder.read_faults c.args.folder.now) (g.F.Folder.read_faults c.loop-name.folder) (g.F.Folder.read_faults c.read_text.new.folder) (ending_seen c.in-Err.ending) stood c.in-Err.ensures.later c.in-Err.ensures.refusal

pub returns-in_default-clause-refusal : goal.returns-in_default-clause-refusal
returns-in_default-clause-refusal g c =
    let within : c.loop-name.name-index < length c.args.names.now = grind arith in
    let stood : g.F.Folder.read_faults c.args.folder.now ≤ g.F.Folder.read_faults c.loop-name.folder = let is = c.loop-name.invariant.stays in grind arith in
    unread c.args.names.now c.loop-name.name-index (g.F.Folder.files c.args.folder.now) (g.F.Folder.files c.loop-name.folder) c.loop-name.texts.items within c.loop-name.invariant.read c.loop-name.invariant.same
    (g.F.Folder.read_faults c.args.folder.now) (g.F.Folder.read_faults c.loop-name.folder) (g.F.Folder.read_faults c.read_text.new.folder) memory stood c.in-Ok.ensures.later tt

pub loop-name-preserved : goal.loop-name-preserved
loop-name-preserved g c =
    let within : c.loop-name.name-index < length c.args.names.now = grind arith in
    let more : c.push.new.self.items ≡ c.loop-name.texts.items ++ c.in-Ok.text.items ∷ [] = grind arith in
    record {
      read = read c.args.names.now c.loop-name.name-index (g.F.Folder.files c.args.folder.now) (g.F.Folder.files c.loop-name.folder) c.loop-name.texts.items within c.loop-name.invariant.read c.loop-name.invariant.same
          c.in-Ok.text.items c.push.new.self.items c.in-Ok.ensures.content more;
      unread = λ none. absurd (omega arith);
      same = same_trans (g.F.Folder.files c.args.folder.now) (g.F.Folder.files c.loop-name.folder) (g.F.Folder.files c.read_text.new.folder) c.loop-name.invariant.same c.in-Ok.ensures.same;
      writes = c.in-Ok.ensures.writes ∙ c.loop-name.invariant.writes;
      stays = c.in-Ok.ensures.stays ∙ c.loop-name.invariant.stays;
      unfailed = c.in-Ok.ensures.unfailed ∙ c.loop-name.invariant.unfailed;
    }
