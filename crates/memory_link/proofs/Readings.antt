-- What a reader reads, and what it is fed.
use Rattle.std.proofs.Common.{◌≡◌, ◌<◌, ◌^◌, ◌⊎◌, inl, inr, ◌++◌, ℕ, List, length, Option, Some, None, sym, ap, subst, ◌∙◌, append_assoc}
use Rattle.std.proofs.lemmas.List.Elements.{All-append}
use Rattle.wire.specs.declared.fault.FrameFault.{FrameFault}
use Rattle.wire.specs.declared.fault.FrameFault.TheVariants as fault
use Rattle.wire.specs.declared.message.Message.{Message}
use Rattle.wire.specs.Frames.{IsUnfinished, HoldsFrame, BeginsBad, BeginsTooLong}
use Rattle.wire.specs.Limits.{IsBytes}
use Rattle.wire.specs.Spelling.{four_bytes, spelling}
use Rattle.wire.specs.Steps.{Refuses, Takes}
use Rattle.wire.specs.View.{ReaderView}
use Rattle.wire.proofs.Bytes.{AreBytes, AreBytes-from, AreBytes-right, IsBytes-from}
use Rattle.memory_link.specs.Reading.{IsReading, Reads, Stands}
use Rattle.memory_link.proofs.Fronts.{bad_front, message_front, too_long_front, unfinished_front}

-- ---- what is read

pub takes_one : (before after : ReaderView) (given : Message × ℕ) → Takes before given after → IsReading before → Reads before (Some given.0) after
takes_one before after given t r = record {
  reading = record {
    stands = subst (λ (f : Option FrameFault). Stands f after.unread) (sym t.stays_sound) (tt {0});
    bytes = IsBytes-from after.unread (AreBytes-right (spelling given.0) after.unread (subst AreBytes t.begins.are (AreBytes-from before.unread r.bytes)));
  };
  front = message_front given.0 before.unread after.unread t.begins;
}

pub takes_none : (before after : ReaderView) → (before.fault ≡ None) × IsUnfinished before.unread × (after ≡ before) → IsReading before → Reads before None after
takes_none before after (sound, cut, same) r = record {
  reading = subst IsReading (sym same) r;
  front = (unfinished_front before.unread cut, ap (λ (v : ReaderView). v.unread) same);
}

-- the fault stands at the front in any case
stood : (kind : FrameFault) (before : ReaderView) → (before.fault ≡ Some kind) ⊎ ((before.fault ≡ None) × Stands (Some kind) before.unread) → IsReading before → Stands (Some kind) before.unread
stood kind before (inl kept) r = subst (λ (f : Option FrameFault). Stands f before.unread) kept r.stands
stood kind before (inr found) r = found.1

pub refuses_bad : (before after : ReaderView) (at : ℕ) → Refuses BeginsBad fault.BadFrame before at after → IsReading before → Reads before None after
refuses_bad before after at f r =
    let bad = stood fault.BadFrame before f.why r in
    record {
      reading = subst IsReading (sym f.keeps) (record { stands = bad; bytes = r.bytes });
      front = (bad_front before.unread (AreBytes-from before.unread r.bytes) bad, ap (λ (v : ReaderView). v.unread) f.keeps);
    }

pub refuses_long : (before after : ReaderView) (at : ℕ) → Refuses BeginsTooLong fault.TooLong before at after → IsReading before → Reads before None after
refuses_long before after at f r =
    let long = stood fault.TooLong before f.why r in
    record {
      reading = subst IsReading (sym f.keeps) (record { stands = long; bytes = r.bytes });
      front = (too_long_front before.unread long, ap (λ (v : ReaderView). v.unread) f.keeps);
    }

-- ---- what is fed

more_frame : (bytes more : List ℕ) → HoldsFrame bytes → HoldsFrame (bytes ++ more)
more_frame bytes more h = record {
  body = h.body;
  rest = h.rest ++ more;
  are = ap (λ l. l ++ more) h.are ∙ append_assoc (four_bytes (length h.body)) (h.body ++ h.rest) more ∙ ap (λ l. four_bytes (length h.body) ++ l) (append_assoc h.body h.rest more);
  in_range = h.in_range;
}

more_stands : (f : Option FrameFault) (bytes more : List ℕ) → Stands f bytes → Stands f (bytes ++ more)
unfolding more_frame
more_stands None bytes more s = tt {0}
more_stands (Some fault.BadFrame) bytes more s = record { frame = more_frame bytes more s.frame; no_message = s.no_message }
more_stands (Some fault.TooLong) bytes more s = record { size = s.size; rest = s.rest ++ more; are = ap (λ l. l ++ more) s.are ∙ append_assoc (four_bytes s.size) s.rest more; fits = s.fits; over = s.over }

pub feeds : (before after : ReaderView) (bytes : List ℕ) → after ≡ record before { unread = before.unread ++ bytes } → IsBytes bytes → IsReading before → IsReading after
feeds before after bytes is fits r = subst IsReading (sym is) (record {
  stands = more_stands before.fault before.unread bytes r.stands;
  bytes = All-append (λ b. b < 2 ^ 8) before.unread bytes r.bytes fits;
})
