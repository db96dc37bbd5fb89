-- The slave's end of the link.
use Rattle.std.proofs.Common.{◌≡◌, ◌≢◌, ◌<◌, ◌+◌, ◌^◌, inl, inr, ℕ, List, [], ◌∷◌, ◌++◌, length, true, false, Option, Some, None, refl, sym, ap, subst, ◌∙◌, arith, length-append}
use Rattle.std.proofs.lemmas.List.Elements.{All-nil}
use Rattle.pt_base.specs.declared.chooser.Who as base
use Rattle.wire.specs.declared.message.Message.{Message}
use Rattle.wire.specs.Limits.{Spells}
use Rattle.wire.specs.Spelling.{four_bytes, payload, spelling}
use Rattle.wire.specs.View.{ReaderView, fresh}
use Rattle.wire.proofs.Sizes.{length-four_bytes}
use Rattle.pair_protocol.specs.Links.{half}
use Rattle.pair_protocol.specs.Pair.{is_empty}
use Rattle.pair_meaning.specs.Peer.{cut}
use Rattle.pair_meaning.specs.SlaveRun as s
use Rattle.pair_meaning.specs.LinkTalks.{Side, all_heard, begun, hears}
use Rattle.memory_link.specs.declared.slave_end.SlaveEnd.{SlaveEnd}
use Rattle.memory_link.specs.declared.slave_half.SlaveHalf.{SlaveHalf}
use Rattle.memory_link.specs.CameLaws.{taken_none}
use Rattle.memory_link.specs.Ends.{HasGiven, IsEnd}
use Rattle.memory_link.specs.Halves.{IsHalf}
use Rattle.memory_link.specs.Onward.{HandsOver}
use Rattle.memory_link.specs.Reading.{HearsAll, IsReading}

-- ---- bytes

pub some_bytes : (m : Message) → spelling m ≢ []
some_bytes m e = absurd (no_length (length (four_bytes (length (payload m)))) (length (payload m)) (length-four_bytes (length (payload m))) (sym (length-append (four_bytes (length (payload m))) (payload m)) ∙ ap length e))
  where
    no_length : (a b : ℕ) → a ≡ 4 → a + b ≡ 0 → ⊥
    no_length a b h k = omega (arith, h, k)

pub some_left : (bytes : List ℕ) → is_empty bytes ≡ false → bytes ≢ []
some_left [] e none = cc
some_left (b ∷ bytes) e none = cc

pub none_left : (bytes : List ℕ) → is_empty bytes ≡ true → bytes ≡ []
none_left [] e = refl
none_left (b ∷ bytes) e = cc

-- ---- where it begins

pub begins : (x : SlaveEnd) (y : s.Slave) → IsHalf x.half (half y []) → x.rest ≡ [] → x.reader ≡ fresh → IsEnd x (begun y)
begins x y h none first = record {
  half = h;
  rest = none;
  reading = subst IsReading (sym first) (record { stands = tt {0}; bytes = All-nil (λ b. b < 2 ^ 8) });
  unread = ap (λ (r : ReaderView). r.unread) first;
}

-- ---- what it is sent

pub hears_bytes : (start : SlaveEnd) (end : SlaveHalf) (fed after : ReaderView) (bytes : List ℕ) → (IsReading start.reader → IsReading fed) → fed.unread ≡ start.reader.unread ++ bytes →
    (IsReading fed → HearsAll start.half fed end after) → (s : Side) → IsEnd start s → IsEnd (record start { half = end; reader = after }) (hears bytes s)
hears_bytes start end fed after bytes reads more hears' s is =
    let all = hears' (reads is.reading) in
    let same : fed.unread ≡ s.unread ++ bytes = more ∙ ap (λ l. l ++ bytes) is.unread in
    record {
      half = subst (λ (l : List ℕ). IsHalf end (all_heard (cut l).messages s.slave_half)) same (all.half s.slave_half is.half);
      rest = is.rest;
      reading = all.reading;
      unread = all.unread ∙ ap (λ l. (cut l).rest) same;
    }

-- ---- what it gives

pub gives_more : (window : ℕ) (start : SlaveEnd) (left piece : List ℕ) (a : Option (ℕ → base.Who)) → start.rest ≡ piece ++ left → piece ≢ [] → HasGiven window start piece (record start { rest = left }) a a
gives_more window start left piece a e some = record {
  under = [];
  taken = taken_none a;
  gives = λ s is. (
    record s { rest = left },
    record { half = is.half; rest = refl; reading = is.reading; unread = is.unread },
    inl (record { unasked = refl; some = some; rest = sym is.rest ∙ e; same = refl; unread = refl }),
  );
}

pub gives_first : (window : ℕ) (start : SlaveEnd) (end : SlaveHalf) (left piece : List ℕ) (m : Message) (a b : Option (ℕ → base.Who)) → start.rest ≡ [] → HandsOver window start.half (Some m) end a b →
    spelling m ≡ piece ++ left → Spells m (spelling m) → piece ≢ [] → HasGiven window start piece (record start { half = end; rest = left }) a b
gives_first window start end left piece m a b none over e spelled some = record {
  under = over.under;
  taken = over.taken;
  gives = λ s is.
      let h = over.hands s.slave_half is.half in (
        record s { slave_half = h.0; rest = left },
        record { half = h.1; rest = refl; reading = is.reading; unread = is.unread },
        inr (inl (record { between = sym is.rest ∙ none; said = m; hands = h.2; spelled = spelled; some = some; rest = e; unread = refl })),
      );
}

pub gives_none : (window : ℕ) (start : SlaveEnd) (end : SlaveHalf) (piece : List ℕ) (a b : Option (ℕ → base.Who)) → start.rest ≡ [] → HandsOver window start.half None end a b → piece ≡ [] →
    HasGiven window start piece (record start { half = end }) a b
gives_none window start end piece a b none over empty = record {
  under = over.under;
  taken = over.taken;
  gives = λ s is.
      let h = over.hands s.slave_half is.half in (
        record s { slave_half = h.0 },
        record { half = h.1; rest = is.rest; reading = is.reading; unread = is.unread },
        inr (inr (record { between = sym is.rest ∙ none; hands = h.2; none = empty; rest = sym is.rest ∙ none; unread = refl })),
      );
}
