-- The slave of a well-formed boot is sound.
use Rattle.std.proofs.Common.{◌≡◌, ◌∙◌, ◌≤◌, ◌<◌, ◌⊎◌, inl, inr, ℕ, zero, suc, ◌+◌, ◌*◌, ◌^◌, nat_eq, refl, ap, sym, subst, arith, List, [], ◌∷◌, Option, Some, None, Bool, true, false, length, map}
use Rattle.std.specs.Prelude.{IsTrue, All, ◌&&◌, ◌||◌, not, take as first_of, is_some, codes, if◌then◌else◌, nat_le, option_map, unwrap_or}
use Rattle.std.specs.List.{list_all, list_any, find, filter}
use Rattle.std.specs.Map.{lookup}
use Rattle.std.specs.Str.{bytes_eq}
use Rattle.std.proofs.lemmas.Bool.Decides.{nat_tests}
use Rattle.pt_base.proofs.Booleans.{both_hold_first, both_hold_second, false_not_true}
use Rattle.pt_base.proofs.Numbers.{nat_eq_same}
use Rattle.pt_tree.specs.declared.host_model.HostModel.{HostModel}
use Rattle.pt_tree.specs.declared.signature.Param.{Param}
use Rattle.pt_tree.specs.declared.signature.Signature.{Signature}
use Rattle.typed_tree.specs.WellFormed.{are_rising, is_int_result}
use Rattle.typed_tree.specs.WellFormedExpression.{is_main}
use Rattle.runs.specs.Run.{deepest}
use Rattle.host_models.specs.Fitting.{fits}
use Rattle.host_table.specs.Hosts.{models_by}
use Rattle.host_table.specs.RunHosts.{model_or_none, models_of}
use Rattle.block_memory.specs.Block.{no_block}
use Rattle.block_memory.specs.Blocks.{no_blocks}
use Rattle.wire.specs.Limits.{most_in_a_block}
use Rattle.pt_core.specs.CodeTree.{FunctionTree, ProgramTree, BootTree, no_stmts}
use Rattle.pt_core.specs.Calls.{signature_in, function_in, no_function, no_signature}
use Rattle.pt_core.specs.CoreRun.{main_in}
use Rattle.pt_core.specs.Steps.{Machine, run, at_rest, just_entered, started}
use Rattle.pt_core.specs.WellFormed.{signature_at, function_at, are_in_order, boot_program, callees, callee_by, callee_fits, has_main, host_by, host_fits, hosts_fit, is_answered, is_main_by, is_only_start, is_plain_host, is_sound, is_well_formed, is_well_formed_boot, starts_by}
use Rattle.core_steps_law.specs.WholeRun.{begun_machine}
use Rattle.core_soundness_law.specs.Kept.{Kept, any}
use Rattle.core_soundness_law.specs.Fits.{Fits}
use Rattle.core_soundness_law.specs.Outside.{ArgumentsFit, own_params}
use Rattle.core_soundness_law.proofs.Programs.{ProgramFacts, facts_of}
use Rattle.core_soundness_law.proofs.Resting.{rest_fits, received_stay}
use Rattle.core_soundness_law.proofs.Starting.{started_fits}
use Rattle.core_soundness_law.specs.Called.{is_called}
use Rattle.core_soundness_law.proofs.CalledSteps.{started_call_own}
use Rattle.pair_meaning.specs.SlaveRun.{Slave, slave_of}
use Rattle.slave_soundness_law.specs.Laws.{SlavesBeginSound}
use Rattle.slave_soundness_law.specs.Sound.{HostsFit, IsBare, IsFree, IsSound, most_given}
use Rattle.slave_soundness_law.proofs.Hosts.{each_holds}

-- ---- what a boot's form says

record BootFacts (b : BootTree) : Type 0 where
  sound : IsTrue (is_sound false (boot_program b))
  main : IsTrue (has_main (boot_program b))
  models : IsTrue (list_all (host_fits fits (boot_program b)) b.hosts)
  answered : IsTrue (list_all (is_answered (boot_program b) (map (λ h. h.0) b.hosts)) (callees (boot_program b)))

program_facts : (p : ProgramTree) → IsTrue (is_well_formed p) → IsTrue (is_sound false p) × IsTrue (has_main p)
unfolding is_well_formed
program_facts p h = (both_hold_first (is_sound false p) (has_main p) h, both_hold_second (is_sound false p) (has_main p) h)

pub boot_parts : (b : BootTree) → IsTrue (is_well_formed_boot fits b) → IsTrue (is_well_formed (boot_program b)) × IsTrue (hosts_fit fits (boot_program b) b.hosts)
unfolding is_well_formed_boot
boot_parts b h = (both_hold_first (is_well_formed (boot_program b)) (hosts_fit fits (boot_program b) b.hosts) h, both_hold_second (is_well_formed (boot_program b)) (hosts_fit fits (boot_program b) b.hosts) h)

boot_facts : (b : BootTree) → IsTrue (is_well_formed_boot fits b) → BootFacts b
boot_facts b h =
    let parts = boot_parts b h in
    let program = program_facts (boot_program b) parts.0 in
    let rising : Bool = are_rising 0 (map (λ h. h.0) b.hosts) in
    let models : Bool = list_all (host_fits fits (boot_program b)) b.hosts in
    let answered : Bool = list_all (is_answered (boot_program b) (map (λ h. h.0) b.hosts)) (callees (boot_program b)) in
    record {
      sound = program.0;
      main = program.1;
      models = both_hold_second rising models (both_hold_first (rising && models) answered parts.1);
      answered = both_hold_second (rising && models) answered parts.1;
    }

-- ---- hosts

-- a model that fits a host's signature fits what the number has
model_by : (model : HostModel) (o : Option Signature) → IsTrue (host_by fits model o) → IsTrue (fits model (unwrap_or o no_signature))
model_by model None h = false_not_true h
model_by model (Some s) h = both_hold_second s.host (fits model s) h

host_found : (p : ProgramTree) (hosts : List (ℕ × HostModel)) (f : ℕ) → IsTrue (list_any (nat_eq f) (map (λ h. h.0) hosts)) → IsTrue (list_all (host_fits fits p) hosts) → IsTrue (fits (model_or_none (lookup (nat_eq f) hosts)) (signature_in p f))
host_found p [] f among all = false_not_true among
host_found p (h ∷ hosts) f among all = go (λ more. host_found p hosts f more (both_hold_second (host_fits fits p h) (list_all (host_fits fits p) hosts) all)) (nat_eq f h.0) refl among
  where
    go : (IsTrue (list_any (nat_eq f) (map (λ x. x.0) hosts)) → IsTrue (fits (model_or_none (lookup (nat_eq f) hosts)) (signature_in p f))) → (b : Bool) → nat_eq f h.0 ≡ b → IsTrue (b || list_any (nat_eq f) (map (λ x. x.0) hosts)) →
        IsTrue (fits (model_or_none (if b then Some h.1 else lookup (nat_eq f) hosts)) (signature_in p f))
    go more true e k = subst (λ n. IsTrue (fits h.1 (signature_in p n))) (sym (nat_eq_same f h.0 e)) (model_by h.1 (signature_at p h.0) (both_hold_first (host_fits fits p h) (list_all (host_fits fits p) hosts) all))
    go more false e k = more k

hosts_begin : (b : BootTree) → BootFacts b → HostsFit (boot_program b) (models_of (models_by b.hosts))
hosts_begin b facts f own plain =
    host_found (boot_program b) b.hosts f
    (listed (signature_at (boot_program b) f) (each_holds (callee_fits false (boot_program b)) f (callees (boot_program b)) (facts_of false (boot_program b) facts.sound).calls own) plain
    (each_holds (is_answered (boot_program b) (map (λ h. h.0) b.hosts)) f (callees (boot_program b)) facts.answered own))
    facts.models
  where
    by_test : (t among : Bool) → IsTrue t → IsTrue (not t || among) → IsTrue among
    by_test true among h k = k
    by_test false among h k = false_not_true h

    listed : (o : Option Signature) → IsTrue (callee_by false (boot_program b) f o) → IsTrue ((unwrap_or o no_signature).host && not (unwrap_or o no_signature).privileged) →
        IsTrue (not (is_plain_host o) || list_any (nat_eq f) (map (λ h. h.0) b.hosts)) → IsTrue (list_any (nat_eq f) (map (λ h. h.0) b.hosts))
    listed None fit plain h = false_not_true fit
    listed (Some s) fit plain h = by_test (s.host && not s.privileged) (list_any (nat_eq f) (map (λ h. h.0) b.hosts)) plain h

-- ---- main

-- the numbers of such a list are no less than its first
not_below : (first n : ℕ) (xs : List (ℕ × Signature)) → n < first → IsTrue (are_rising first (map (λ s. s.0) xs)) → (P : (ℕ × Signature) → Bool) (found : ℕ × Signature) → find P xs ≡ Some found → nat_eq found.0 n ≡ false
not_below first n [] less rising P found e = cc
not_below first n (x ∷ xs) less rising P found e =
    go (λ k. not_below (suc x.0) n xs (further first n x.0 less here) (both_hold_second (nat_le first x.0) (are_rising (suc x.0) (map (λ s. s.0) xs)) rising) P found k) (P x) e
  where
    here : nat_le first x.0 ≡ true
    here = both_hold_first (nat_le first x.0) (are_rising (suc x.0) (map (λ s. s.0) xs)) rising

    further : (first n k : ℕ) → n < first → nat_le first k ≡ true → n < suc k
    further first n k h e = grind (arith, nat_tests)

    apart : (first n k : ℕ) → n < first → nat_le first k ≡ true → nat_eq k n ≡ false
    apart first n k h e = grind (arith, nat_tests)

    same : (a b : ℕ × Signature) → Some a ≡ Some b → a ≡ b
    same a b k = cc

    go : (find P xs ≡ Some found → nat_eq found.0 n ≡ false) → (b : Bool) → (if b then Some x else find P xs) ≡ Some found → nat_eq found.0 n ≡ false
    go more true k = subst (λ (f : ℕ × Signature). nat_eq f.0 n ≡ false) (same x found k) (apart first n x.0 less here)
    go more false k = more k

-- what is found among signatures in order is what its number names
found_named : (first : ℕ) (xs : List (ℕ × Signature)) (P : (ℕ × Signature) → Bool) (found : ℕ × Signature) → IsTrue (are_rising first (map (λ s. s.0) xs)) → find P xs ≡ Some found → (lookup (nat_eq found.0) xs ≡ Some found.1) × (P found ≡ true)
found_named first [] P found rising e = cc
found_named first (x ∷ xs) P found rising e =
    go (found_named (suc x.0) xs P found more_rising) (P x) refl e
  where
    more_rising : IsTrue (are_rising (suc x.0) (map (λ s. s.0) xs))
    more_rising = both_hold_second (nat_le first x.0) (are_rising (suc x.0) (map (λ s. s.0) xs)) rising

    same : (a b : ℕ × Signature) → Some a ≡ Some b → a ≡ b
    same a b k = cc

    self : (n : ℕ) → nat_eq n n ≡ true
    self n = grind arith

    here : (b : Bool) → b ≡ true → (if b then Some x.1 else lookup (nat_eq x.0) xs) ≡ Some x.1
    here true k = refl
    here false k = cc

    behind : (b : Bool) → b ≡ false → (if b then Some x.1 else lookup (nat_eq found.0) xs) ≡ lookup (nat_eq found.0) xs
    behind true k = cc
    behind false k = refl

    one : (n : ℕ) → n < suc n
    one n = omega arith

    go : (find P xs ≡ Some found → (lookup (nat_eq found.0) xs ≡ Some found.1) × (P found ≡ true)) → (b : Bool) → P x ≡ b → (if b then Some x else find P xs) ≡ Some found → (lookup (nat_eq found.0) (x ∷ xs) ≡ Some found.1) × (P found ≡ true)
    go more true t k = subst (λ (f : ℕ × Signature). (lookup (nat_eq f.0) (x ∷ xs) ≡ Some f.1) × (P f ≡ true)) (same x found k) (here (nat_eq x.0 x.0) (self x.0), t)
    go more false t k = (behind (nat_eq found.0 x.0) (not_below (suc x.0) x.0 xs (one x.0) more_rising P found k) ∙ (more k).0, (more k).1)

-- a list with a function that passes isn't filtered to none
passes_one : (T : FunctionTree → Bool) (f : ℕ) (fs : List FunctionTree) (g : FunctionTree) → find (λ x. nat_eq f x.id) fs ≡ Some g → T g ≡ true → filter T fs ≡ [] → ⊥
passes_one T f [] g e t none = cc
passes_one T f (x ∷ xs) g e t none = go (passes_one T f xs g) (nat_eq f x.id) (T x) refl e none
  where
    same : Some x ≡ Some g → x ≡ g
    same k = cc

    go : (find (λ y. nat_eq f y.id) xs ≡ Some g → T g ≡ true → filter T xs ≡ [] → ⊥) → (b c : Bool) → T x ≡ c → (if b then Some x else find (λ y. nat_eq f y.id) xs) ≡ Some g → (if c then x ∷ filter T xs else filter T xs) ≡ [] → ⊥
    go more b true u k l = cc
    go more true false u k l = not_both (T x) u (ap T (same k) ∙ t)
      where
        not_both : (b : Bool) → b ≡ false → b ≡ true → ⊥
        not_both b u v = cc
    go more false false u k l = more k t l

-- where one function alone is a start, it is the one that passes
start_is : (p : ProgramTree) (T : FunctionTree → Bool) (f : ℕ) (fs : List FunctionTree) (g : FunctionTree) → find (λ x. nat_eq f x.id) fs ≡ Some g → T g ≡ true → IsTrue (is_only_start p (filter T fs)) → IsTrue (starts_by (signature_at p g.id))
start_is p T f [] g e t only = cc
start_is p T f (x ∷ xs) g e t only = go (λ k. start_is p T f xs g k t) (nat_eq f x.id) (T x) refl e only
  where
    same : Some x ≡ Some g → x ≡ g
    same k = cc

    not_both : (b : Bool) → b ≡ false → b ≡ true → ⊥
    not_both b u v = cc

    alone : (rest : List FunctionTree) → IsTrue (is_only_start p (x ∷ rest)) → IsTrue (starts_by (signature_at p x.id)) × (rest ≡ [])
    alone [] h = (h, refl)
    alone (z ∷ rest) h = false_not_true h

    go : (find (λ y. nat_eq f y.id) xs ≡ Some g → IsTrue (is_only_start p (filter T xs)) → IsTrue (starts_by (signature_at p g.id))) → (b c : Bool) → T x ≡ c → (if b then Some x else find (λ y. nat_eq f y.id) xs) ≡ Some g →
        IsTrue (is_only_start p (if c then x ∷ filter T xs else filter T xs)) → IsTrue (starts_by (signature_at p g.id))
    go more true true u k l = subst (λ (z : FunctionTree). IsTrue (starts_by (signature_at p z.id))) (same k) (alone (filter T xs) l).0
    go more true false u k l = absurd (not_both (T x) u (ap T (same k) ∙ t))
    go more false true u k l = absurd (passes_one T f xs g k t (alone (filter T xs) l).1)
    go more false false u k l = more k l

no_params : (o : Option Signature) → IsTrue (starts_by o) → (unwrap_or o no_signature).params ≡ []
no_params None h = false_not_true h
no_params (Some s) h = none s.params (both_hold_second (is_int_result s.result) (nat_eq (length s.params) 0) h)
  where
    none : (ps : List Param) → IsTrue (nat_eq (length ps) 0) → ps ≡ []
    none [] h = refl
    none (p ∷ ps) h = absurd (some (length ps) h)
      where
        some : (n : ℕ) → IsTrue (nat_eq (suc n) 0) → ⊥
        some n h = grind (arith, nat_tests, h)

-- the function of a number has that number
found_number : (f : ℕ) (fs : List FunctionTree) (g : FunctionTree) → find (λ x. nat_eq f x.id) fs ≡ Some g → f ≡ g.id
found_number f [] g e = cc
found_number f (x ∷ xs) g e = go (found_number f xs g) (nat_eq f x.id) refl e
  where
    same : Some x ≡ Some g → x ≡ g
    same k = cc

    go : (find (λ y. nat_eq f y.id) xs ≡ Some g → f ≡ g.id) → (b : Bool) → nat_eq f x.id ≡ b → (if b then Some x else find (λ y. nat_eq f y.id) xs) ≡ Some g → f ≡ g.id
    go more true t k = nat_eq_same f x.id t ∙ ap (λ (z : FunctionTree). z.id) (same k)
    go more false t k = more k

abbrev names_main : (ℕ × Signature) → Bool
names_main s = bytes_eq s.1.name (codes "main")

-- main's number names no function, or one without parameters
main_params : (p : ProgramTree) (g : FunctionTree) → IsTrue (are_in_order p) → IsTrue (has_main p) → function_at p (main_in p) ≡ Some g → (signature_in p (main_in p)).params ≡ []
main_params p g order main e = go (find names_main p.signatures) refl
  where
    rising : IsTrue (are_rising 0 (map (λ s. s.0) p.signatures))
    rising = both_hold_first (are_rising 0 (map (λ s. s.0) p.signatures)) (are_rising 0 (map (λ f. f.id) p.functions) && are_rising 0 (map (λ g. g.id) p.globals)) order

    -- a function that is a start has a name among the signatures
    no_start : find names_main p.signatures ≡ None → (fs : List FunctionTree) → IsTrue (is_only_start p (filter (λ f. is_main_by (signature_at p f.id)) fs)) → ⊥
    no_start none [] h = cc
    no_start none (x ∷ xs) h = by_test (no_start none xs) (is_main_by (signature_at p x.id)) refl h
      where
        unnamed : (xs : List (ℕ × Signature)) (n : ℕ) → find names_main xs ≡ None → is_main_by (lookup (nat_eq n) xs) ≡ true → ⊥
        unnamed [] n k t = cc
        unnamed (y ∷ ys) n k t = step (unnamed ys n) (names_main y) (nat_eq n y.0) refl k t
          where
            step : (find names_main ys ≡ None → is_main_by (lookup (nat_eq n) ys) ≡ true → ⊥) → (a c : Bool) → names_main y ≡ a → (if a then Some y else find names_main ys) ≡ None → is_main_by (if c then Some y.1 else lookup (nat_eq n) ys) ≡ true → ⊥
            step more true c q k t = cc
            step more false true q k t = both (names_main y) q t
              where
                both : (b : Bool) → b ≡ false → b ≡ true → ⊥
                both b u v = cc
            step more false false q k t = more k t

        by_test : (IsTrue (is_only_start p (filter (λ f. is_main_by (signature_at p f.id)) xs)) → ⊥) → (b : Bool) → is_main_by (signature_at p x.id) ≡ b → IsTrue (is_only_start p (if b then x ∷ filter (λ f. is_main_by (signature_at p f.id)) xs else filter (λ f. is_main_by (signature_at p f.id)) xs)) → ⊥
        by_test more true t h = unnamed p.signatures x.id none t
        by_test more false t h = more h

    go : (o : Option (ℕ × Signature)) → find names_main p.signatures ≡ o → (signature_in p (main_in p)).params ≡ []
    go None k = absurd (no_start k p.functions main)
    go (Some found) k =
        let number : main_in p ≡ found.0 = ap (λ (o : Option (ℕ × Signature)). unwrap_or (option_map (λ s. s.0) o) 0) k in
        let named = found_named 0 p.signatures names_main found rising k in
        let id : main_in p ≡ g.id = found_number (main_in p) p.functions g e in
        let signed : signature_at p g.id ≡ Some found.1 = ap (λ n. signature_at p n) (sym id ∙ number) ∙ named.0 in
        ap (λ n. (signature_in p n).params) id ∙ no_params (signature_at p g.id) (start_is p (λ f. is_main_by (signature_at p f.id)) (main_in p) p.functions g e (ap is_main_by signed ∙ named.1) main)

-- ---- its machine

-- Where main is a function of its own its machine fits, whichever handles stand for numbers: it has none.
module _ (b : BootTree) (well : IsTrue (is_well_formed_boot fits b)) (g : FunctionTree) (main : function_at (boot_program b) (main_in (boot_program b)) ≡ Some g) where
  abbrev p : ProgramTree
  p = boot_program b

  facts_here : BootFacts b
  facts_here = boot_facts b well

  no_arguments : (kept : Kept) (params : List Param) → params ≡ [] → ArgumentsFit kept p.structs (at_rest p b.turns).blocks 0 (first_of (function_in p (main_in p)).params params) []
  no_arguments kept params k =
      subst (λ ps. ArgumentsFit kept p.structs (at_rest p b.turns).blocks 0 ps []) (sym (ap (λ ps. first_of (function_in p (main_in p)).params ps) k ∙ nothing (function_in p (main_in p)).params)) (tt {0})
    where
      nothing : (n : ℕ) → first_of {A = Param} n [] ≡ []
      nothing zero = refl
      nothing (suc n) = refl

  pub begun_fits : (kept : Kept) → Fits kept false p (begun_machine p b.turns)
  begun_fits kept =
      started_fits kept false p (at_rest p b.turns) false (main_in p) 1 [] facts_here.sound (rest_fits kept false p b.turns facts_here.sound) refl refl (subst (λ o. IsTrue (is_some o)) (sym main) refl) (omega arith) (omega arith)
      (no_arguments kept (signature_in p (main_in p)).params (main_params p g (facts_of false p facts_here.sound).order facts_here.main main))

  pub begun_free : IsFree (slave_of b)
  begun_free = record {
    running = record {
      machine = begun_fits any;
      own = started_call_own p false (main_in p) 1 [] (at_rest p b.turns);
      small = λ n. subst (λ (x : _). length x.types ≤ most_in_a_block) (sym (received_stay p.structs p.globals no_blocks n)) (least most_in_a_block);
      hosts = hosts_begin b facts_here;
    };
    free = refl;
  }
    where
      least : (n : ℕ) → 0 ≤ n
      least n = omega arith

pub slaves_begin_sound : SlavesBeginSound
slaves_begin_sound b well bytes small = record {
  program = (boot_facts b well).sound;
  input = bytes;
  budget = small;
  turns = none b.turns;
  calls = none b.turns;
  given = none (0 * most_given);
  doing = go (function_at (boot_program b) (main_in (boot_program b))) refl;
}
  where
    none : (n : ℕ) → 0 ≤ n
    none n = omega arith

    no_body : (o : Option FunctionTree) → o ≡ None → (unwrap_or o no_function).body ≡ no_stmts
    no_body o k = ap (λ o. (unwrap_or o no_function).body) k

    go : (o : Option FunctionTree) → function_at (boot_program b) (main_in (boot_program b)) ≡ o → IsFree (slave_of b) ⊎ IsBare (slave_of b).machine
    go None k =
        inr (record {
          started = just_entered (boot_program b) false (main_in (boot_program b)) 1 None;
          active = refl;
          work = ap (λ body. run body ∷ []) (no_body (function_at (boot_program b) (main_in (boot_program b))) k);
          free = refl;
        })
    go (Some g) k = inl (begun_free b well g k)
