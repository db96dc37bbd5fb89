-- Words ask for one command.
use Rattle.std.proofs.Common.{◌≡◌, ◌≢◌, ◌≤◌, ◌∙◌, ℕ, if◌then◌else◌, List, [], ◌∷◌, get_or, drop, sym, ap, subst, arith, inl, inr}
use Rattle.std.specs.Prelude.{codes, bytes_eq}
use Rattle.std.specs.Fmt.{decimal}
use Rattle.std.specs.Str.Parse.{digits_value}
use Rattle.std.proofs.lemmas.Fmt.{decimal_is_IsNumeral}
use Rattle.privtrans_app.specs.Forms.{AreNotGenerated, AreNotLocal, AreNotOne, AreNotOrig, AreNotRun, AreNotServe, AreNotSplit, ExplainNothing, IsNoWord}
use Rattle.privtrans_app.specs.Told.{SaysOne}
use Rattle.privtrans_app.specs.Words.{Command, help, version, check, explain, outline, picture, explain_pair, orig, local, run, split, slave, gen, serve, audit, IsUsage, Says}

-- ---- numbers

abbrev number_in : List ℕ → ℕ
number_in digits = digits_value 10 digits

same_number : (n : ℕ) → n ≤ 4294967295 → number_in (decimal n) ≡ n
same_number n most = (decimal_is_IsNumeral n (omega arith)).1

-- ---- the command that words could ask for

abbrev explained : List (List ℕ) → Command
explained [] = explain []
explained (program ∷ []) = explain program
explained (program ∷ host ∷ ws) = explain_pair program host (get_or ws 0 [])

abbrev decoded : List ℕ → List (List ℕ) → Command
decoded w ws =
    if bytes_eq w (codes "--help") then help else
    if bytes_eq w (codes "-h") then help else
    if bytes_eq w (codes "--version") then version else
    if bytes_eq w (codes "check") then check (get_or ws 0 []) else
    if bytes_eq w (codes "explain") then explained ws else
    if bytes_eq w (codes "outline") then outline (get_or ws 0 []) else
    if bytes_eq w (codes "picture") then picture (get_or ws 0 []) else
    if bytes_eq w (codes "orig") then orig (get_or ws 0 []) (get_or ws 1 []) (get_or ws 2 []) (number_in (get_or ws 3 [])) else
    if bytes_eq w (codes "local") then local (get_or ws 0 []) (get_or ws 1 []) (get_or ws 2 []) (get_or ws 3 []) (number_in (get_or ws 4 [])) (number_in (get_or ws 5 [])) else
    if bytes_eq w (codes "run") then run (get_or ws 0 []) (get_or ws 1 []) (get_or ws 2 []) (get_or ws 3 []) (number_in (get_or ws 4 [])) else
    if bytes_eq w (codes "split") then split (get_or ws 0 []) (get_or ws 1 []) (get_or ws 2 []) else
    if bytes_eq w (codes "slave") then slave else
    if bytes_eq w (codes "audit") then audit (get_or ws 0 []) else
    if bytes_eq w (codes "serve") then serve (get_or ws 0 []) (get_or ws 1 []) (get_or ws 2 []) (number_in (get_or ws 3 [])) (drop 4 ws) else gen (number_in (get_or ws 0 [])) (number_in (get_or ws 1 []))

abbrev decode : List (List ℕ) → Command
decode [] = help
decode (w ∷ ws) = decoded w ws

-- the words of a command are decoded to it
says_decodes : (words : List (List ℕ)) (c : Command) → Says words c → decode words ≡ c
says_decodes words help (inl is) = ap decode is
says_decodes words help (inr is) = ap decode is
says_decodes words version is = ap decode is
says_decodes words (check program) is = ap decode is
says_decodes words (explain program) is = ap decode is
says_decodes words (outline program) is = ap decode is
says_decodes words (picture program) is = ap decode is
says_decodes words (explain_pair program host policy) is = ap decode is.are
says_decodes words (orig program host input turns) is = ap decode is.are ∙ ap (orig program host input) (same_number turns is.turns_most)
says_decodes words (local program host policy input turns window) is =
    let small : window ≤ 1024 = is.window_most in
    let same : local program host policy input (number_in (decimal turns)) (number_in (decimal window)) ≡ local program host policy input turns window =
    λ k. local program host policy input (same_number turns is.turns_most k) (same_number window (omega arith) k) in
    ap decode is.are ∙ same
says_decodes words (run program host policy input turns) is = ap decode is.are ∙ ap (run program host policy input) (same_number turns is.turns_most)
says_decodes words (split program to_slave to_monitor) is = ap decode is.are
says_decodes words slave is = ap decode is
says_decodes words (gen seed count) is =
    let low : seed ≤ 2147483647 = is.seed_most in
    let small : count ≤ 2000 = is.count_most in
    let same : gen (number_in (decimal seed)) (number_in (decimal count)) ≡ gen seed count = λ k. gen (same_number seed (omega arith) k) (same_number count (omega arith) k) in
    ap decode is.are ∙ same
says_decodes words (serve program host policy turns inputs) is = ap decode is.are ∙ ap (λ n. serve program host policy n inputs) (same_number turns is.turns_most)
says_decodes words (audit program) is = ap decode is

pub says_one : SaysOne
says_one words c d a b = sym (says_decodes words c a) ∙ says_decodes words d b

-- what words ask for they ask for as it is decoded
again : (words : List (List ℕ)) (c : Command) → Says words c → Says words (decode words)
again words c says = subst (λ (d : Command). Says words d) (sym (says_decodes words c says)) says

-- ---- words that ask for nothing

pub no_words : IsUsage []
no_words c says = asks c says
  where
    asks : (c : Command) → Says [] c → ⊥
    asks help (inl is) = cc
    asks help (inr is) = cc
    asks version is = cc
    asks (check program) is = cc
    asks (explain program) is = cc
    asks (outline program) is = cc
    asks (picture program) is = cc
    asks (explain_pair program host policy) is = let e = is.are in cc
    asks (orig program host input turns) is = let e = is.are in cc
    asks (local program host policy input turns window) is = let e = is.are in cc
    asks (run program host policy input turns) is = let e = is.are in cc
    asks (split program to_slave to_monitor) is = let e = is.are in cc
    asks slave is = cc
    asks (gen seed count) is = let e = is.are in cc
    asks (serve program host policy turns inputs) is = let e = is.are in cc
    asks (audit program) is = cc

pub no_check : (ws : List (List ℕ)) → AreNotOne ws → IsUsage (codes "check" ∷ ws)
no_check ws none c says = none (get_or ws 0 []) (ap (drop 1) (again (codes "check" ∷ ws) c says))

pub no_outline : (ws : List (List ℕ)) → AreNotOne ws → IsUsage (codes "outline" ∷ ws)
no_outline ws none c says = none (get_or ws 0 []) (ap (drop 1) (again (codes "outline" ∷ ws) c says))

pub no_picture : (ws : List (List ℕ)) → AreNotOne ws → IsUsage (codes "picture" ∷ ws)
no_picture ws none c says = none (get_or ws 0 []) (ap (drop 1) (again (codes "picture" ∷ ws) c says))

pub no_explain : (ws : List (List ℕ)) → ExplainNothing ws → IsUsage (codes "explain" ∷ ws)
no_explain [] none c says = none.not_one [] (ap (drop 1) (again (codes "explain" ∷ []) c says))
no_explain (program ∷ []) none c says = none.not_one program (ap (drop 1) (again (codes "explain" ∷ program ∷ []) c says))
no_explain (program ∷ host ∷ ws) none c says = none.not_three program host (get_or ws 0 []) (ap (drop 1) (again (codes "explain" ∷ program ∷ host ∷ ws) c says).are)

pub no_orig : (ws : List (List ℕ)) → AreNotOrig (codes "orig" ∷ ws) → IsUsage (codes "orig" ∷ ws)
no_orig ws none c says = none (get_or ws 0 []) (get_or ws 1 []) (get_or ws 2 []) (number_in (get_or ws 3 [])) (again (codes "orig" ∷ ws) c says)

pub no_local : (ws : List (List ℕ)) → AreNotLocal (codes "local" ∷ ws) → IsUsage (codes "local" ∷ ws)
no_local ws none c says =
    none (get_or ws 0 []) (get_or ws 1 []) (get_or ws 2 []) (get_or ws 3 []) (number_in (get_or ws 4 [])) (number_in (get_or ws 5 [])) (again (codes "local" ∷ ws) c says)

pub no_run : (ws : List (List ℕ)) → AreNotRun (codes "run" ∷ ws) → IsUsage (codes "run" ∷ ws)
no_run ws none c says = none (get_or ws 0 []) (get_or ws 1 []) (get_or ws 2 []) (get_or ws 3 []) (number_in (get_or ws 4 [])) (again (codes "run" ∷ ws) c says)

pub no_split : (ws : List (List ℕ)) → AreNotSplit (codes "split" ∷ ws) → IsUsage (codes "split" ∷ ws)
no_split ws none c says = none (get_or ws 0 []) (get_or ws 1 []) (get_or ws 2 []) (again (codes "split" ∷ ws) c says)

pub no_gen : (ws : List (List ℕ)) → AreNotGenerated (codes "gen" ∷ ws) → IsUsage (codes "gen" ∷ ws)
no_gen ws none c says = none (number_in (get_or ws 0 [])) (number_in (get_or ws 1 [])) (again (codes "gen" ∷ ws) c says)

pub no_serve : (ws : List (List ℕ)) → AreNotServe (codes "serve" ∷ ws) → IsUsage (codes "serve" ∷ ws)
no_serve ws none c says = none (get_or ws 0 []) (get_or ws 1 []) (get_or ws 2 []) (number_in (get_or ws 3 [])) (drop 4 ws) (again (codes "serve" ∷ ws) c says)

pub no_audit : (ws : List (List ℕ)) → AreNotOne ws → IsUsage (codes "audit" ∷ ws)
no_audit ws none c says = none (get_or ws 0 []) (ap (drop 1) (again (codes "audit" ∷ ws) c says))

-- ---- one word

head_is : (xs ys : List (List ℕ)) → xs ≡ ys → get_or xs 0 [] ≡ get_or ys 0 []
head_is xs ys same = ap (λ zs. get_or zs 0 []) same

-- a command with a name isn't one word
short : (w a b : List ℕ) (xs : List (List ℕ)) → w ∷ [] ≡ a ∷ b ∷ xs → ⊥
short w a b xs same = cc

pub no_word : (w : List ℕ) → IsNoWord w → IsUsage (w ∷ [])
no_word w none c says = asks c says
  where
    asks : (c : Command) → Says (w ∷ []) c → ⊥
    asks help (inl is) = none.no_help (head_is _ _ is)
    asks help (inr is) = none.no_short_help (head_is _ _ is)
    asks version is = none.no_version (head_is _ _ is)
    asks (check program) is = short _ _ _ _ is
    asks (explain program) is = short _ _ _ _ is
    asks (outline program) is = short _ _ _ _ is
    asks (picture program) is = short _ _ _ _ is
    asks (explain_pair program host policy) is = short _ _ _ _ is.are
    asks (orig program host input turns) is = short _ _ _ _ is.are
    asks (local program host policy input turns window) is = short _ _ _ _ is.are
    asks (run program host policy input turns) is = short _ _ _ _ is.are
    asks (split program to_slave to_monitor) is = short _ _ _ _ is.are
    asks slave is = none.no_slave (head_is _ _ is)
    asks (gen seed count) is = short _ _ _ _ is.are
    asks (serve program host policy turns inputs) is = short _ _ _ _ is.are
    asks (audit program) is = short _ _ _ _ is

-- ---- another word, and some behind it

pub record IsOther (w : List ℕ) : Type 0 where
  pub no_run : w ≢ codes "run"
  pub no_local : w ≢ codes "local"
  pub no_orig : w ≢ codes "orig"
  pub no_check : w ≢ codes "check"
  pub no_explain : w ≢ codes "explain"
  pub no_outline : w ≢ codes "outline"
  pub no_picture : w ≢ codes "picture"
  pub no_split : w ≢ codes "split"
  pub no_gen : w ≢ codes "gen"
  pub no_serve : w ≢ codes "serve"
  pub no_audit : w ≢ codes "audit"

-- one word is no more
alone : (w a : List ℕ) (ws : List (List ℕ)) → ws ≢ [] → w ∷ ws ≡ a ∷ [] → ⊥
alone w a ws some same = some (ap (drop 1) same)

pub no_command : (w : List ℕ) (ws : List (List ℕ)) → ws ≢ [] → IsOther w → IsUsage (w ∷ ws)
no_command w ws some none c says = asks c says
  where
    asks : (c : Command) → Says (w ∷ ws) c → ⊥
    asks help (inl is) = alone w _ ws some is
    asks help (inr is) = alone w _ ws some is
    asks version is = alone w _ ws some is
    asks (check program) is = none.no_check (head_is _ _ is)
    asks (explain program) is = none.no_explain (head_is _ _ is)
    asks (outline program) is = none.no_outline (head_is _ _ is)
    asks (picture program) is = none.no_picture (head_is _ _ is)
    asks (explain_pair program host policy) is = none.no_explain (head_is _ _ is.are)
    asks (orig program host input turns) is = none.no_orig (head_is _ _ is.are)
    asks (local program host policy input turns window) is = none.no_local (head_is _ _ is.are)
    asks (run program host policy input turns) is = none.no_run (head_is _ _ is.are)
    asks (split program to_slave to_monitor) is = none.no_split (head_is _ _ is.are)
    asks slave is = alone w _ ws some is
    asks (gen seed count) is = none.no_gen (head_is _ _ is.are)
    asks (serve program host policy turns inputs) is = none.no_serve (head_is _ _ is.are)
    asks (audit program) is = none.no_audit (head_is _ _ is)
