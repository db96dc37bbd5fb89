-- What the parts of a call come to.
use Rattle.std.proofs.Common.{◌≡◌, ◌⊎◌, ℕ, true, false, List, [], Option, Some, None, refl, sym, subst, inl, inr}
use Rattle.std.specs.Io.KnownBytes.{Keeps}
use Rattle.pt_base.proofs.Booleans.{false_true_absurd}
use Rattle.pt_base.specs.Faults.{Rose}
use Rattle.pt_base.specs.Files.{Files, Lacks, SameFiles}
use Rattle.front_end.specs.FaultLinesSeen.{Seen}
use Rattle.privtrans_app.specs.Comes.{ComesAlone, ComesTo, HasShown, is_quiet}
use Rattle.privtrans_app.specs.Ending.{Ending, told, usage, missing, read_fault, write_fault, link_fault, bad_peer, peer_ended, memory, Puts}
use Rattle.privtrans_app.specs.Gives.{Gives, unreported}
use Rattle.privtrans_app.specs.Held.{AreHeld, IsReached}
use Rattle.privtrans_app.specs.Help.{help_text, version_text}
use Rattle.privtrans_app.specs.Outside.{Outside}
use Rattle.privtrans_app.specs.Reading.{IsReadRefusal, IsRefusal}
use Rattle.privtrans_app.specs.SplitRun.{Leaves}
use Rattle.privtrans_app.specs.Words.{Command, help, version, check, explain, outline, picture, explain_pair, orig, local, run, split, slave, gen, serve, audit, files_of, uses_of}

pub keeps_same : (o : Option (List ℕ)) → Keeps o o
keeps_same None = tt
keeps_same (Some xs) = refl

-- ---- what is said in other words

module _ (does does' : Command → Outside → Ending → Type 0) (same same' : Type 0) (c : Command) (b a : Outside) (f : (e : Ending) → does c b e → does' c b e) (g : same → same') where
  shown_more : (report : List ℕ) (status : ℕ) → HasShown same c b a report status → HasShown same' c b a report status
  shown_more report status x = record {
    own = x.own;
    texts = x.texts;
    held = x.held;
    seen = x.seen;
    gives = x.gives;
    out = x.out;
    quiet = λ quiet. g (x.quiet quiet);
    report_is = x.report_is;
    status_is = x.status_is;
    leaves = x.leaves;
  }

  pub comes_more : (e : Ending) → ComesTo does same c b a e → ComesTo does' same' c b a e
  comes_more (told report status) (inl x) = inl (shown_more report status x)
  comes_more (told report status) (inr x) = inr (f (told report status) x)
  comes_more usage comes = absurd comes
  comes_more (missing name) comes = (comes.0, comes.1, g comes.2, comes.3)
  comes_more (read_fault name) comes = (comes.0, comes.1, g comes.2, comes.3)
  comes_more write_fault (inl (uses, rose, inl part)) = inl (uses, rose, inl part)
  comes_more write_fault (inl (uses, rose, inr x)) = inl (uses, rose, inr (f write_fault x))
  comes_more write_fault (inr x) = inr x
  comes_more link_fault comes = (comes.0, f link_fault comes.1)
  comes_more (bad_peer rule offset) comes = f (bad_peer rule offset) comes
  comes_more peer_ended comes = f peer_ended comes
  comes_more memory (inl x) = inl x
  comes_more memory (inr (inl x)) = inr (inl x)
  comes_more memory (inr (inr (inl x))) = inr (inr (inl x))
  comes_more memory (inr (inr (inr x))) = inr (inr (inr (f memory x)))

-- of a command that talks with no other process
pub alone_comes : (does : Command → Outside → Ending → Type 0) (same same' : Type 0) (c : Command) (b a : Outside) (e : Ending) → (same → same') → ComesAlone same c b a e → ComesTo does same' c b a e
alone_comes does same same' c b a e g comes = comes_more (λ c b e. ⊥) does same same' c b a (λ e x. absurd x) g e comes

-- ---- files that aren't read

module _ (does : Command → Outside → Ending → Type 0) (same : Type 0) (c : Command) (b a : Outside) (no_slave : c ≡ slave → ⊥) (is_same : same) (keeps : Keeps b.out.taken a.out.taken) (stay : SameFiles b.folder.files a.folder.files) where
  unread : (name : List ℕ) (e : Ending) → IsReached c b.folder.files name → IsReadRefusal name b.folder.files b.folder.reads a.folder.reads e → ComesTo does same c b a e
  unread name (told report status) reached is = absurd is
  unread name usage reached is = absurd is
  unread name (missing n) reached is =
      (subst (λ (m : List ℕ). IsReached c b.folder.files m) (sym is.0) reached, subst (λ (m : List ℕ). Lacks b.folder.files m ⊎ Rose b.folder.reads a.folder.reads) (sym is.0) is.1, is_same, stay)
  unread name (read_fault n) reached is = (subst (λ (m : List ℕ). IsReached c b.folder.files m) (sym is.0) reached, is.1, is_same, stay)
  unread name write_fault reached is = absurd is
  unread name link_fault reached is = absurd is
  unread name (bad_peer rule offset) reached is = absurd is
  unread name peer_ended reached is = absurd is
  unread name memory reached is = inl (record { no_slave = no_slave; keeps = keeps; stay = stay })

  pub refusal_comes : (e : Ending) → IsRefusal (files_of c) b.folder.files b.folder.reads a.folder.reads e → ComesTo does same c b a e
  refusal_comes e refusal = unread refusal.name e (record { before = refusal.before; after = refusal.after; are = refusal.are; held = refusal.held }) refusal.is

  -- memory was wanting before anything was done
  pub memory_comes : ComesTo does same c b a memory
  memory_comes = inl (record { no_slave = no_slave; keeps = keeps; stay = stay })

-- ---- what is written

-- a command that writes no files leaves them so
pub leaves_same : (c : Command) (texts : List (List ℕ)) (files files' : Option Files) (s : Seen) → (uses_of c).writes_files ≡ false → SameFiles files files' → Leaves c texts files files' s
leaves_same help texts files files' s none stay = stay
leaves_same version texts files files' s none stay = stay
leaves_same (check program) texts files files' s none stay = stay
leaves_same (explain program) texts files files' s none stay = stay
leaves_same (outline program) texts files files' s none stay = stay
leaves_same (picture program) texts files files' s none stay = stay
leaves_same (explain_pair program host policy) texts files files' s none stay = stay
leaves_same (orig program host input turns) texts files files' s none stay = stay
leaves_same (local program host policy input turns window) texts files files' s none stay = stay
leaves_same (run program host policy input turns) texts files files' s none stay = stay
leaves_same (split program to_slave to_monitor) texts files files' s none stay = absurd (false_true_absurd (sym none))
leaves_same slave texts files files' s none stay = stay
leaves_same (gen seed count) texts files files' s none stay = stay
leaves_same (serve program host policy turns inputs) texts files files' s none stay = stay
leaves_same (audit program) texts files files' s none stay = stay

-- What writing what is seen comes to, of a command that writes to out alone.
module _ (same : Type 0) (c : Command) (b a : Outside) (texts : List (List ℕ)) (s : Seen) (own : (uses_of c).link ≡ false) (writes_none : (uses_of c).writes_files ≡ false) (uses_out : (uses_of c).out ≡ true)
    (held : AreHeld b.folder.files (files_of c) texts) (gives : Gives c texts s) (quiet : is_quiet c s ≡ true → same) (stay : SameFiles b.folder.files a.folder.files) where
  pub puts_come : (came : Ending) → Puts b.out.taken a.out.taken b.out.failed a.out.failed s.out (told s.report s.status) came → ComesAlone same c b a came
  puts_come came (inl puts) = subst (λ (e : Ending). ComesAlone same c b a e) (sym puts.0) (inl (record {
    own = own;
    texts = texts;
    held = held;
    seen = s;
    gives = gives;
    out = puts.1;
    quiet = quiet;
    report_is = refl;
    status_is = refl;
    leaves = leaves_same c texts b.folder.files a.folder.files s writes_none stay;
  }))
  puts_come came (inr (inl puts)) = subst (λ (e : Ending). ComesAlone same c b a e) (sym puts.0)
      (inl (uses_out, puts.1, inl (record { own = own; texts = texts; held = held; seen = s; gives = gives; out = puts.2; stay = stay })))
  puts_come came (inr (inr puts)) = subst (λ (e : Ending). ComesAlone same c b a e) (sym puts.0)
      (inr (inl (record { own = own; texts = texts; held = held; seen = s; gives = gives; out = puts.1; stay = stay })))

-- ---- a command, as it is known

pub as_command : (does : Command → Outside → Ending → Type 0) (same : Type 0) (c d : Command) (b a : Outside) (e : Ending) → c ≡ d → ComesTo does same d b a e → ComesTo does same c b a e
as_command does same c d b a e is comes = subst (λ (x : Command). ComesTo does same x b a e) (sym is) comes

-- a text that is written whatever the files hold
module _ (does : Command → Outside → Ending → Type 0) (same : Type 0) (c : Command) (b a : Outside) (came : Ending) (stay : SameFiles b.folder.files a.folder.files) where
  pub help_comes : c ≡ help → Puts b.out.taken a.out.taken b.out.failed a.out.failed help_text (told [] 0) came → ComesTo does same c b a came
  help_comes is puts = as_command does same c help b a came is
      (alone_comes does same same help b a came (λ x. x) (puts_come same help b a [] (unreported help_text) refl refl refl tt refl (λ quiet. absurd (false_true_absurd quiet)) stay came puts))

  pub version_comes : c ≡ version → Puts b.out.taken a.out.taken b.out.failed a.out.failed version_text (told [] 0) came → ComesTo does same c b a came
  version_comes is puts = as_command does same c version b a came is
      (alone_comes does same same version b a came (λ x. x) (puts_come same version b a [] (unreported version_text) refl refl refl tt refl (λ quiet. absurd (false_true_absurd quiet)) stay came puts))
