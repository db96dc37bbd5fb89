-- Two programs that are the same for the slave go alike.
use Rattle.hidden_laws.specs.BegunBootsLaws.{BegunBootsTellNothingPrivileged}
use Rattle.hidden_laws.specs.HiddenRunsLaws.{BootsAndRulesTellAll}
use Rattle.hidden_laws.specs.HiddenBodiesLaws.{PrivilegedBodiesAreHidden}

pub bodies_hidden : BegunBootsTellNothingPrivileged → BootsAndRulesTellAll → PrivilegedBodiesAreHidden
bodies_hidden boots law t t' turns b b' m m' own own' begin programs outside rules =
    law t t' turns b b' m m' own own' begin (boots t t' turns b b' m m' (record { here = begin.one; there = begin.other; outside = outside }) programs) rules
