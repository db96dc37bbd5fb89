-- What is at the other end of a child's link.
use Rattle.std.specs.Prelude.{⊤}
use Rattle.process_link.specs.declared.child.Ends.{Ends}
use Rattle.process_link.specs.declared.child.Ends.TheVariants.{Nothing, Started, Inherited}

-- a child that was started
abbrev pub AreStarted : {P I A B C : Type 0} → Ends P I A B C → Type 0
AreStarted Nothing = ⊥
AreStarted (Started child) = ⊤
AreStarted (Inherited input output) = ⊥

-- the parent, which was taken over
abbrev pub AreInherited : {P I A B C : Type 0} → Ends P I A B C → Type 0
AreInherited Nothing = ⊥
AreInherited (Started child) = ⊥
AreInherited (Inherited input output) = ⊤
