-- What the words ask for, as the definitions name it.
use Rattle.std.specs.Prelude.{map}
use Rattle.privtrans_app.specs.Words as w
use Rattle.privtrans_app.specs.declared.words.Command.{Command}
use Rattle.privtrans_app.specs.declared.words.Command.TheVariants.{Help, Version, Show, Split, Run, Slave}
use Rattle.privtrans_app.specs.declared.words.Plain.{Plain}
use Rattle.privtrans_app.specs.declared.words.Plain.TheVariants.{Check, Explain, Outline, Picture, ExplainPair, Orig, Local, Gen, Serve, Audit}
use Rattle.privtrans_app.specs.declared.words.RunWords.{RunWords}
use Rattle.privtrans_app.specs.declared.words.SplitWords.{SplitWords}

abbrev pub plain_seen : Plain → w.Command
plain_seen (Check program) = w.check program.now
plain_seen (Explain program) = w.explain program.now
plain_seen (Outline program) = w.outline program.now
plain_seen (Picture program) = w.picture program.now
plain_seen (ExplainPair e) = w.explain_pair e.program.now e.host.now e.policy.now
plain_seen (Orig o) = w.orig o.program.now o.host.now o.input.now o.turns
plain_seen (Local l) = w.local l.names.program.now l.names.host.now l.names.policy.now l.names.input.now l.turns l.window
plain_seen (Gen g) = w.gen g.seed g.count
plain_seen (Serve s) = w.serve s.program.now s.host.now s.policy.now s.turns (map (λ n. n.now) s.inputs.now)
plain_seen (Audit program) = w.audit program.now

abbrev pub split_seen : SplitWords → w.Command
split_seen s = w.split s.program.now s.slave.now s.monitor.now

abbrev pub run_seen : RunWords → w.Command
run_seen r = w.run r.names.program.now r.names.host.now r.names.policy.now r.names.input.now r.turns

abbrev pub command_seen : Command → w.Command
command_seen Help = w.help
command_seen Version = w.version
command_seen (Show plain) = plain_seen plain
command_seen (Split s) = split_seen s
command_seen (Run r) = run_seen r
command_seen Slave = w.slave
