-- The pairs that begin have talks.
use Rattle.pair_laws.specs.BegunPairsLaws.{BegunBootsAreWellFormed}
use Rattle.pair_running.specs.HonestTalksLaws.{BegunPairsAreFair, expected_of, with_hosts}
use Rattle.policy.specs.Verdicts.{start}
use Rattle.pair_running.specs.TalksExistLaws.{BegunPairsHaveTalks, FairPairsHaveTalks}

pub begun_talks : BegunBootsAreWellFormed → BegunPairsAreFair → FairPairsHaveTalks → BegunPairsHaveTalks
begun_talks boots fair talks t turns boot monitor b own bytes input small are spells sizes =
    talks (expected_of b.started.tree (start b.started.rules) b.started.hosts t.input turns) boot (with_hosts own monitor) (fair t turns boot monitor b own bytes input small are spells) bytes spells
    (boots t turns boot monitor b) sizes
