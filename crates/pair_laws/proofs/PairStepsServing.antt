-- What a monitor answers to what a slave says that asks for no call, or too late for one.
use Rattle.std.proofs.Common.{◌≡◌, ◌∙◌, ◌+◌, ◌<◌, ◌≤◌, ℕ, ap, sym, subst, arith, List, [], append-nil, Some, None, false}
use Rattle.std.specs.Prelude.{nat_lt, nat_le, if◌then◌else◌}
use Rattle.std.proofs.lemmas.Bool.Decides.{nat_tests}
use Rattle.pt_base.specs.declared.end.End.{End}
use Rattle.pt_base.specs.declared.end.End.TheVariants.{Spent}
use Rattle.pt_base.proofs.Numbers.{nat_lt_true}
use Rattle.runs.specs.Run.{Expected}
use Rattle.wire.specs.declared.message.Message.{Message}
use Rattle.wire.specs.declared.message.Message.TheVariants as message
use Rattle.wire.specs.declared.message.ReplyBody.{ReplyBody}
use Rattle.pair_protocol.specs.Pair.{answered, heard}
use Rattle.pair_protocol.specs.Sides.{Served, ends}
use Rattle.pair_meaning.specs.Monitors.{Monitor, low}
use Rattle.pair_meaning.specs.Pair.{the_sides}
use Rattle.pair_meaning.specs.Rules as rule
use Rattle.pair_meaning.specs.Rules.{PeerRule, bad_turns, broken_if, early_rule, needs, rules, unless_broken}
use Rattle.pair_meaning.specs.Serving.{acted, is_spent, left_for, serve}
use Rattle.pair_meaning.specs.SlaveRun.{Slave}
use Rattle.pair_invariant_law.specs.Live.{IsKept, Setting, expected_of}

-- ---- numbers

pub not_less : (a b : ℕ) → b ≤ a → nat_lt a b ≡ false
not_less a b h = grind (arith, nat_tests, h)

not_within : (a b : ℕ) → b < a → nat_le a b ≡ false
not_within a b h = grind (arith, nat_tests, h)

-- ---- turns don't go back

pub emit_goes : (last turns : ℕ) (bytes : List ℕ) → last < turns → early_rule last (message.Emit turns bytes) ≡ None
emit_goes last turns bytes h = ap (λ b. broken_if b bad_turns) (not_within turns last h)

-- of what ends, or asks
pub turns_go : (last turns : ℕ) → last ≤ turns → broken_if (nat_lt turns last) bad_turns ≡ None
turns_go last turns h = ap (λ b. broken_if b bad_turns) (not_less turns last h)

-- ---- what is served

pub ruled : (m : Monitor) (x : Message) → early_rule m.last x ≡ None → needs x + m.turns ≤ m.budget → serve m x ≡ acted m x (left_for m x) (rules (low m) x)
ruled m x early room =
    ap (λ o. acted m x (left_for m x) (unless_broken o (if is_spent m x then rule.ends Spent else rules (low m) x))) early
    ∙ ap (λ b. acted m x (left_for m x) (if b then rule.ends Spent else rules (low m) x)) (not_less m.budget (needs x + m.turns) room)

pub late_served : (m : Monitor) (x : Message) → early_rule m.last x ≡ None → m.budget < needs x + m.turns → serve m x ≡ ends [] Spent
late_served m x early over =
    ap (λ o. acted m x (left_for m x) (unless_broken o (if is_spent m x then rule.ends Spent else rules (low m) x))) early
    ∙ ap (λ b. acted m x (left_for m x) (if b then rule.ends Spent else rules (low m) x)) (nat_lt_true m.budget (needs x + m.turns) over)

-- ---- what is expected

abbrev pub expect : List ℕ → End → Expected
expect bytes end = record { bytes = bytes; end = end }

-- where serving ends as is expected, the pair has come to it
pub kept_end : (w : Setting) (Own : Slave → Type 0) (s : Slave) (m : Monitor) (x : Message) (written : List ℕ) (end : End) → serve m x ≡ ends [] end → expected_of w ≡ expect written end → IsKept w Own (heard the_sides s (Some x) m written)
kept_end w Own s m x written end e is =
    subst (λ (r : Served Monitor ReplyBody End PeerRule). IsKept w Own (answered the_sides s written r)) (sym e)
    (is ∙ ap (λ bytes. expect bytes end) (sym (append-nil written)))

-- and where it is late for whatever was said
pub kept_late : (w : Setting) (Own : Slave → Type 0) (s : Slave) (m : Monitor) (x : Message) (written : List ℕ) → early_rule m.last x ≡ None → m.budget < needs x + m.turns → expected_of w ≡ expect written Spent → IsKept w Own (heard the_sides s (Some x) m written)
kept_late w Own s m x written early over is = kept_end w Own s m x written Spent (late_served m x early over) is
