-- Statuses of runs and of calls that run nothing.
use Rattle.std.proofs.Common.{◌≡◌, ◌∙◌, ℕ, Bool, true, false, ◌||◌, nat_eq, List, Option, Some, None, [], refl, sym, ap, subst, inl, inr}
use Rattle.pt_base.specs.declared.chooser.Who.{Who}
use Rattle.pt_base.proofs.Booleans.{false_true_absurd}
use Rattle.pair_meaning.specs.LinkChoosing.{AreTaken}
use Rattle.privtrans_app.specs.Ending.{Ending, status_of, EndsWith, Reports, StaysDown}
use Rattle.privtrans_app.specs.Interleaving.{IsOfNoRun, IsOfRun}

-- ---- a run that came to its end

abbrev of_run : ℕ → Bool
of_run n = nat_eq n 0 || (nat_eq n 6 || (nat_eq n 7 || nat_eq n 8))

is_of_run : (n : ℕ) → IsOfRun n → of_run n ≡ true
is_of_run n (inl is) = ap of_run is
is_of_run n (inr (inl is)) = ap of_run is
is_of_run n (inr (inr (inl is))) = ap of_run is
is_of_run n (inr (inr (inr is))) = ap of_run is

-- a status that is none of a run
pub other : (n m : ℕ) → n ≡ m → of_run m ≡ false → IsOfRun n → ⊥
other n m same apart is = false_true_absurd (sym apart ∙ sym (ap of_run same) ∙ is_of_run n is)

-- ---- nothing was run

abbrev of_no_run : ℕ → Bool
of_no_run n = nat_eq n 1 || (nat_eq n 2 || (nat_eq n 3 || nat_eq n 5))

is_of_no_run : (n : ℕ) → IsOfNoRun n → of_no_run n ≡ true
is_of_no_run n (inl is) = ap of_no_run is
is_of_no_run n (inr (inl is)) = ap of_no_run is
is_of_no_run n (inr (inr (inl is))) = ap of_no_run is
is_of_no_run n (inr (inr (inr is))) = ap of_no_run is

-- a status of a run or of something that is done
pub done : (n m : ℕ) → n ≡ m → of_no_run m ≡ false → IsOfNoRun n → ⊥
done n m same apart is = false_true_absurd (sym apart ∙ sym (ap of_no_run same) ∙ is_of_no_run n is)

-- a chooser that wasn't asked
pub none_taken : (told : Option (ℕ → Who)) → AreTaken [] told told
none_taken None = tt
none_taken (Some f) = λ k. refl

-- ---- an ending that is reported

module _ (e : Ending) (report report' : Option (List ℕ)) (failed failed' status : ℕ) where
  -- a call that is reported with the status of a run ends so
  pub run_ends : Reports e report report' failed failed' status → IsOfRun status → IsOfRun (status_of e)
  run_ends (inl is) run = subst IsOfRun is.0 run
  run_ends (inr (inl is)) run = absurd (other status 4 is.0 refl run)
  run_ends (inr (inr is)) run = absurd (other status 12 is.0 refl run)

  -- so does one with the status of a call that runs nothing
  pub idle_ends : Reports e report report' failed failed' status → IsOfNoRun status → IsOfNoRun (status_of e)
  idle_ends (inl is) idle = subst IsOfNoRun is.0 idle
  idle_ends (inr (inl is)) idle = absurd (done status 4 is.0 refl idle)
  idle_ends (inr (inr is)) idle = absurd (done status 12 is.0 refl idle)

  -- where no write of the report failed, the status is that of the ending, or 12
  pub told_status : Reports e report report' failed failed' status → StaysDown failed failed' → EndsWith status (status_of e)
  told_status (inl is) down = inl is.0
  told_status (inr (inl is)) down = absurd (down is.2)
  told_status (inr (inr is)) down = inr is.0

-- want of memory is one of two statuses anywhere
pub memory_of : (status n : ℕ) → EndsWith status 12 → EndsWith status n
memory_of status n (inl is) = inr is
memory_of status n (inr is) = inr is
