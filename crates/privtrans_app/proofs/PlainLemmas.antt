-- The commands that only show what comes of their files' texts.
use Rattle.std.proofs.Common.{◌≡◌, ◌∙◌, ◌⊎◌, Bool, true, false, not, ◌||◌, refl, sym, ap, inl, inr}
use Rattle.pt_base.proofs.Booleans.{false_true_absurd}
use Rattle.privtrans_app.specs.Words.{Command, Uses, slave, both_halves, out_alone, uses_of}
use Rattle.privtrans_app.specs.WordsSeen.{plain_seen}
use Rattle.privtrans_app.specs.declared.words.Plain.{Plain}
use Rattle.privtrans_app.specs.declared.words.Plain.TheVariants.{Check, Explain, Outline, Picture, ExplainPair, Orig, Local, Gen, Serve, Audit}

plain_uses : (p : Plain) → (uses_of (plain_seen p) ≡ out_alone) ⊎ (uses_of (plain_seen p) ≡ both_halves)
plain_uses (Check program) = inl refl
plain_uses (Explain program) = inl refl
plain_uses (Outline program) = inl refl
plain_uses (Picture program) = inl refl
plain_uses (ExplainPair words) = inl refl
plain_uses (Orig words) = inl refl
plain_uses (Local words) = inr refl
plain_uses (Gen words) = inr refl
plain_uses (Serve words) = inr refl
plain_uses (Audit program) = inl refl

-- what both of them use and don't use
either : (f : Uses → Bool) (b : Bool) (u : Uses) → f out_alone ≡ b → f both_halves ≡ b → (u ≡ out_alone) ⊎ (u ≡ both_halves) → f u ≡ b
either f b u x y (inl is) = ap f is ∙ x
either f b u x y (inr is) = ap f is ∙ y

pub plain_link : (p : Plain) → (uses_of (plain_seen p)).link ≡ false
plain_link p = either (λ u. u.link) false (uses_of (plain_seen p)) refl refl (plain_uses p)

pub plain_writes : (p : Plain) → (uses_of (plain_seen p)).writes_files ≡ false
plain_writes p = either (λ u. u.writes_files) false (uses_of (plain_seen p)) refl refl (plain_uses p)

pub plain_out : (p : Plain) → (uses_of (plain_seen p)).out ≡ true
plain_out p = either (λ u. u.out) true (uses_of (plain_seen p)) refl refl (plain_uses p)

pub plain_no_slave : (p : Plain) → plain_seen p ≡ slave → ⊥
plain_no_slave p is = false_true_absurd (sym (ap (λ (c : Command). (uses_of c).out) is) ∙ plain_out p)

-- a command that writes to out is quiet for what it shows alone
pub quiet_of : (out shown : Bool) → out ≡ true → not out || shown ≡ true → shown ≡ true
quiet_of true shown is quiet = quiet
quiet_of false shown is quiet = absurd (false_true_absurd is)
