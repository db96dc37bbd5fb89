-- What a policy says of a call.
use Rattle.std.proofs.Common.{◌≡◌, ◌∙◌, ◌+◌, ℕ, ℤ, refl, ap, sym, subst, Bool, true, false, List, Option, Some, None, if◌then◌else◌}
use Rattle.pt_base.specs.declared.end.End.{End}
use Rattle.pt_base.specs.declared.end.End.TheVariants as e
use Rattle.pt_tree.specs.declared.signature.Signature.{Signature}
use Rattle.wire.specs.declared.message.CallBody.{CallBody}
use Rattle.policy.specs.Answers.{allowed, function_of}
use Rattle.policy.specs.Verdicts.{Standing, after, verdict_on}
use Rattle.policy.specs.declared.verdict.Verdict.{Verdict}
use Rattle.policy.specs.declared.verdict.Verdict.TheVariants.{Allow, Deny}
use Rattle.pair_meaning.specs.Monitors.{Low}
use Rattle.pair_meaning.specs.Rules.{Admitted, decided, makes, plain_of}
use Rattle.serving_rules.specs.Permitting.{Permits, Permitted, PermissionsDecide, answered, granted, permission, verdict_by}
use Rattle.serving_rules.specs.declared.permission.Permission.TheVariants.{Granted, Refused}

-- a call that isn't guarded
pub free : (policy : Standing) (calls f : ℕ) (s : Signature) (body : CallBody) → s.privileged ≡ false → Permits (Granted calls) policy policy (permission policy calls f s body)
free policy calls f s body plain = go s.privileged plain
  where
    go : (b : Bool) → b ≡ false → Permits (Granted calls) policy policy (if b then answered policy calls f (allowed policy (verdict_on policy (function_of f) (plain_of s body))) else granted policy calls)
    go true h = cc
    go false h = (refl, refl)

guarded : (b : Bool) (x y : Permitted) → b ≡ true → (if b then x else y) ≡ x
guarded true x y h = refl
guarded false x y h = cc

permission_is : (policy : Standing) (calls f : ℕ) (s : Signature) (body : CallBody) (plain : List ℤ) (v : Verdict) → s.privileged ≡ true → plain ≡ plain_of s body → v ≡ verdict_on policy (function_of f) plain →
    permission policy calls f s body ≡ answered policy calls f (allowed policy v)
permission_is policy calls f s body plain v secret numbers is =
    guarded s.privileged (answered policy calls f (allowed policy (verdict_on policy (function_of f) (plain_of s body)))) (granted policy calls) secret
    ∙ ap (λ ns. answered policy calls f (allowed policy (verdict_on policy (function_of f) ns))) (sym numbers)
    ∙ ap (λ w. answered policy calls f (allowed policy w)) (sym is)

pub allows : (old new : Standing) (calls f : ℕ) (s : Signature) (body : CallBody) (plain : List ℤ) (k : ℕ) → s.privileged ≡ true → plain ≡ plain_of s body → Allow k ≡ verdict_on old (function_of f) plain → new ≡ after old (Allow k) →
    Permits (Granted (calls + 1)) old new (permission old calls f s body)
allows old new calls f s body plain k secret numbers is stands = subst (λ p. Permits (Granted (calls + 1)) old new p) (sym (permission_is old calls f s body plain (Allow k) secret numbers is)) (refl, stands)

pub denies : (old new : Standing) (calls f : ℕ) (s : Signature) (body : CallBody) (plain : List ℤ) (end : End) → s.privileged ≡ true → plain ≡ plain_of s body → Deny ≡ verdict_on old (function_of f) plain → new ≡ after old Deny →
    end ≡ e.Refused (calls + 1) (function_of f) new.state → Permits (Refused end) old new (permission old calls f s body)
denies old new calls f s body plain end secret numbers is stands ends =
    subst (λ p. Permits (Refused end) old new p) (sym (permission_is old calls f s body plain Deny secret numbers is)) (ends ∙ ap (λ (x : Standing). e.Refused (calls + 1) (function_of f) x.state) stands, stands)

-- ---- the verdict on it

by_answer : (low : Low) (call : Admitted) (o : Option Standing) → decided low call o ≡ verdict_by call (answered low.policy low.calls call.function o)
by_answer low call None = refl
by_answer low call (Some next) = refl

pub permissions_decide : PermissionsDecide
permissions_decide low call policy calls = go call.signature.privileged
  where
    go : (b : Bool) →
        (if b then decided low call (allowed low.policy (verdict_on low.policy (function_of call.function) (plain_of call.signature call.body))) else makes call) ≡ verdict_by call (if b then answered low.policy low.calls call.function (allowed low.policy (verdict_on low.policy (function_of call.function) (plain_of call.signature call.body))) else granted low.policy low.calls)
    go true = by_answer low call (allowed low.policy (verdict_on low.policy (function_of call.function) (plain_of call.signature call.body)))
    go false = ap (λ p. makes (record call { policy = p })) policy ∙ ap (λ n. makes (record call { policy = low.policy; calls = n })) calls
