use Rattle.std.proofs.Common.{◌≡◌, map, take}
use Rattle.pt_base.specs.Files.{SameFiles}
use Rattle.privtrans_app.specs.Reading.{AreFirst}
use Rattle.privtrans_app.proofs.reading.read_all.Given as goal

-- these are the first bytes of the files so far, and the folder told no fault
abbrev pub invariant-loop-name : goal.invariant-loop-name
invariant-loop-name g l = record {
  read : AreFirst (g.F.Folder.files l.fn.folder) (map (λ n. n.now) (take l.name-index l.names)) l.texts.items;
  unread : l.name-index ≡ 0 → l.folder ≡ l.fn.folder;
  same : SameFiles (g.F.Folder.files l.fn.folder) (g.F.Folder.files l.folder);
  writes : g.F.Folder.write_faults l.folder ≡ g.F.Folder.write_faults l.fn.folder;
  stays : g.F.Folder.read_faults l.folder ≡ g.F.Folder.read_faults l.fn.folder;
  unfailed : g.F.Folder.failed_reads l.folder ≡ g.F.Folder.failed_reads l.fn.folder;
}
