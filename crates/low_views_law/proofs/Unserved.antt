-- Where a talk stops by a rule or by a refusal.
use Rattle.std.proofs.Common.{◌≡◌, ◌∙◌, inl, inr, ℕ, refl, ap, sym, subst, List, [], ◌∷◌, ◌++◌, Option}
use Rattle.pt_base.specs.declared.end.End.{End}
use Rattle.pt_base.specs.declared.end.End.TheVariants.{Exit, Trapped, Spent, Refused}
use Rattle.runs.specs.State as r
use Rattle.runs.specs.State.{gives}
use Rattle.block_memory.specs.declared.cell.Cell.{Cell}
use Rattle.wire.specs.declared.message.Message.{Message}
use Rattle.wire.specs.declared.message.ReplyBody.{ReplyBody}
use Rattle.wire.specs.Frames.{Ending, open_end, bad_frame_at, too_long_at}
use Rattle.pt_core.specs.Statements as core
use Rattle.pair_protocol.specs.Sides.{goes_on, ends, bad}
use Rattle.pair_protocol.specs.Serving.{All, after, all}
use Rattle.pair_protocol.specs.SlaveRun.{listed}
use Rattle.pair_meaning.specs.Monitors.{Monitor}
use Rattle.pair_meaning.specs.Pair.{serve_all}
use Rattle.pair_meaning.specs.Rules as rule
use Rattle.pair_meaning.specs.Rules.{PeerRule, bad_frame, too_long, Admitted, Verdict, breaks, makes, writes}
use Rattle.pair_meaning.specs.Serving.{acted, left_for, serve, served_by, verdict_on, work_of}
use Rattle.pair_meaning.specs.Streams.{Stopped, still_open, at_end, at_rule, Talk, after_frame, serve_frames, stopped_at}
use Rattle.low_views_law.specs.Unserved.{AreServed, IsEndOf, IsUnservedAt, IsUnservedAtEnd, IsVerdict, messages_of, Outcome, Unserved}
use Rattle.low_views_law.specs.Laws.{RefusedMessagesChangeNothing}

-- ---- one message

end_itself : (end : End) → IsEndOf (rule.ends end) [] end
end_itself (Exit status) = tt {0}
end_itself (Trapped kind span) = tt {0}
end_itself Spent = tt {0}
end_itself (Refused number function state) = (refl, refl)

-- the work of a call comes to no rule and to no refusal
called_itself : (m : Monitor) (x : Message) (call : Admitted) (left : ℕ) (o : core.Outcome (Option Cell)) → IsVerdict (makes call) (served_by m x call left o)
called_itself m x call left (gives v st) = tt {0}
called_itself m x call left (r.trapped trap span st) = tt {0}
called_itself m x call left (r.spent st) = tt {0}

acted_itself : (m : Monitor) (x : Message) (left : ℕ) (v : Verdict) → IsVerdict v (acted m x left v)
acted_itself m x left (breaks rule) = refl
acted_itself m x left (rule.ends end) = end_itself end
acted_itself m x left (writes bytes) = tt {0}
acted_itself m x left (makes call) = called_itself m x call left (work_of m call left)

-- ---- a stream

-- the talk behind a message that was served
abbrev later : Option ReplyBody → List ℕ → Talk → Talk
later reply bytes talk = record { bytes = bytes ++ talk.bytes; replies = listed reply ++ talk.replies; stopped = talk.stopped }

served_later : (m next : Monitor) (x : Message) (reply : Option ReplyBody) (bytes : List ℕ) (messages : List Message) (talk : Talk) → serve m x ≡ goes_on next reply bytes → AreServed next messages talk →
    AreServed m (x ∷ messages) (later reply bytes talk)
served_later m next x reply bytes messages talk e first = record {
  left = first.left;
  served = ap (λ (o : Outcome). after o (λ m. serve_all m messages)) e ∙ ap (λ (a : All Monitor ReplyBody End PeerRule). all (listed reply ++ a.replies) (bytes ++ a.bytes) a.stop) first.served;
}

unserved_later : (m next : Monitor) (x : Message × ℕ) (frames : List (Message × ℕ)) (reply : Option ReplyBody) (bytes : List ℕ) (talk : Talk) (place : ℕ) (o : Outcome) → serve m x.0 ≡ goes_on next reply bytes → Unserved next frames talk place o →
    Unserved m (x ∷ frames) (later reply bytes talk) place o
unfolding served_later
unserved_later m next x frames reply bytes talk place o e rest = record {
  before = x ∷ rest.before;
  message = rest.message;
  behind = rest.behind;
  are = ap (λ xs. x ∷ xs) rest.are;
  first = served_later m next x.0 reply bytes (messages_of rest.before) talk e rest.first;
  comes_to = rest.comes_to;
}

at_end_later : (m next : Monitor) (x : Message × ℕ) (frames : List (Message × ℕ)) (reply : Option ReplyBody) (bytes : List ℕ) (talk : Talk) (end : End) → serve m x.0 ≡ goes_on next reply bytes → IsUnservedAtEnd next frames talk end →
    IsUnservedAtEnd m (x ∷ frames) (later reply bytes talk) end
at_end_later m next x frames reply bytes talk (Exit status) e h = tt {0}
at_end_later m next x frames reply bytes talk (Trapped kind span) e h = tt {0}
at_end_later m next x frames reply bytes talk Spent e h = tt {0}
at_end_later m next x frames reply bytes talk (Refused number function state) e h = (h.0, unserved_later m next x frames reply bytes talk h.0 (ends [] (Refused number function state)) e h.1)

at_later : (m next : Monitor) (x : Message × ℕ) (frames : List (Message × ℕ)) (ending : Ending) (reply : Option ReplyBody) (bytes : List ℕ) (talk : Talk) (stopped : Stopped) → serve m x.0 ≡ goes_on next reply bytes → IsUnservedAt next frames ending talk stopped →
    IsUnservedAt m (x ∷ frames) ending (later reply bytes talk) stopped
at_later m next x frames ending reply bytes talk still_open e h = tt {0}
at_later m next x frames ending reply bytes talk (at_end end) e h = at_end_later m next x frames reply bytes talk end e h
at_later m next x frames ending reply bytes talk (at_rule rule place) e (inl h) = inl (unserved_later m next x frames reply bytes talk place (bad rule) e h)
at_later m next x frames ending reply bytes talk (at_rule rule place) e (inr h) = inr (h.0, served_later m next x.0 reply bytes (messages_of frames) talk e h.1)

none_served : (m : Monitor) (stopped : Stopped) → AreServed m [] (record { bytes = []; replies = []; stopped = stopped })
none_served m stopped = record { left = m; served = refl }

first_unserved : (m : Monitor) (x : Message × ℕ) (frames : List (Message × ℕ)) (stopped : Stopped) (o : Outcome) → serve m x.0 ≡ o → Unserved m (x ∷ frames) (record { bytes = []; replies = []; stopped = stopped }) x.1 o
unfolding none_served
first_unserved m x frames stopped o e = record { before = []; message = x.0; behind = frames; are = refl; first = none_served m stopped; comes_to = e }

first_at_end : (m : Monitor) (x : Message × ℕ) (frames : List (Message × ℕ)) (verdict : Verdict) (bytes : List ℕ) (end : End) → serve m x.0 ≡ ends bytes end → IsEndOf verdict bytes end →
    IsUnservedAtEnd m (x ∷ frames) (record { bytes = bytes; replies = []; stopped = at_end end }) end
first_at_end m x frames verdict bytes (Exit status) e h = tt {0}
first_at_end m x frames verdict bytes (Trapped kind span) e h = tt {0}
first_at_end m x frames verdict bytes Spent e h = tt {0}
first_at_end m x frames verdict bytes (Refused number function state) e h = (
  x.1,
  subst (λ (bs : List ℕ). Unserved m (x ∷ frames) (record { bytes = bs; replies = []; stopped = at_end (Refused number function state) }) x.1 (ends [] (Refused number function state))) (sym h.0)
      (first_unserved m x frames (at_end (Refused number function state)) (ends [] (Refused number function state)) (e ∙ ap (λ bs. ends bs (Refused number function state)) h.0)),
)

at_the_end : (m : Monitor) (ending : Ending) → IsUnservedAt m [] ending (record { bytes = []; replies = []; stopped = stopped_at ending }) (stopped_at ending)
at_the_end m open_end = tt {0}
at_the_end m (bad_frame_at place) = inr (refl, none_served m (at_rule bad_frame place))
at_the_end m (too_long_at place) = inr (refl, none_served m (at_rule too_long place))

in_a_stream : (m : Monitor) (frames : List (Message × ℕ)) (ending : Ending) → IsUnservedAt m frames ending (serve_frames m frames ending) (serve_frames m frames ending).stopped
in_a_stream m [] ending = at_the_end m ending
in_a_stream m (x ∷ frames) ending = go (serve m x.0) refl (acted_itself m x.0 (left_for m x.0) (verdict_on m x.0)) (λ next. in_a_stream next frames ending)
  where
    go : (o : Outcome) → serve m x.0 ≡ o → IsVerdict (verdict_on m x.0) o → ((next : Monitor) → IsUnservedAt next frames ending (serve_frames next frames ending) (serve_frames next frames ending).stopped) →
        IsUnservedAt m (x ∷ frames) ending (after_frame x.1 o (λ m. serve_frames m frames ending)) (after_frame x.1 o (λ m. serve_frames m frames ending)).stopped
    go (goes_on next reply bytes) e h rest = at_later m next x frames ending reply bytes (serve_frames next frames ending) (serve_frames next frames ending).stopped e (rest next)
    go (ends bytes end) e h rest = first_at_end m x frames (verdict_on m x.0) bytes end e h
    go (bad rule) e h rest = inl (first_unserved m x frames (at_rule rule x.1) (bad rule) e)

pub refused_messages_change_nothing : RefusedMessagesChangeNothing
refused_messages_change_nothing = record {
  alone = λ m x. acted_itself m x (left_for m x) (verdict_on m x);
  in_a_stream = in_a_stream;
}
