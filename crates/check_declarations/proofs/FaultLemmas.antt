-- The order of faults, as the derived comparisons give it.
use Rattle.std.proofs.Common.{◌≡◌, List, true, ◌&&◌, nat_eq, refl, ap, subst, arith}
use Rattle.std.proofs.lemmas.Bool.Decides.{nat_tests}
use Rattle.std.specs.Ordering.{nat_cmp, ordering_then}
use Rattle.std.specs.List.Sorted.{IsStrictlySortedBy}
use Rattle.pt_base.specs.declared.span.Span.{Span}
use Rattle.pt_base.proofs.Booleans.{and_parts}
use Rattle.check_declarations.specs.declared.fault.FaultKind.{FaultKind}
use Rattle.check_declarations.specs.declared.fault.FaultKind.TheVariants.{UnknownName, Redeclared, NotLvalue, WrongType, ArgCount, ConstWrite, OutOfProfile, NoMain, TooLarge, BadAttribute}
use Rattle.check_declarations.specs.declared.fault.TypeFault.{TypeFault}
use Rattle.check_declarations.specs.contracts.fault.FaultKindOrd.TheImpl as kind_ord
use Rattle.check_declarations.specs.contracts.fault.TypeFaultOrd.TheImpl as fault_ord
use Rattle.check_declarations.specs.contracts.fault.FaultKindPartialEq.TheImpl as kind_eq
use Rattle.check_declarations.specs.contracts.fault.TypeFaultPartialEq.TheImpl as fault_eq
use Rattle.check_declarations.specs.Faults.{fault_number, fault_cmp, span_cmp}

kind_cmp : (a b : FaultKind) → kind_ord.ghosts.cmp a b ≡ nat_cmp (fault_number a) (fault_number b)
kind_cmp UnknownName UnknownName = refl
kind_cmp Redeclared Redeclared = refl
kind_cmp NotLvalue NotLvalue = refl
kind_cmp WrongType WrongType = refl
kind_cmp ArgCount ArgCount = refl
kind_cmp ConstWrite ConstWrite = refl
kind_cmp OutOfProfile OutOfProfile = refl
kind_cmp NoMain NoMain = refl
kind_cmp TooLarge TooLarge = refl
kind_cmp BadAttribute BadAttribute = refl
kind_cmp a b = refl

kind_same : (a b : FaultKind) → kind_eq.ghosts.eq a b ≡ true → a ≡ b
kind_same UnknownName UnknownName h = refl
kind_same Redeclared Redeclared h = refl
kind_same NotLvalue NotLvalue h = refl
kind_same WrongType WrongType h = refl
kind_same ArgCount ArgCount h = refl
kind_same ConstWrite ConstWrite h = refl
kind_same OutOfProfile OutOfProfile h = refl
kind_same NoMain NoMain h = refl
kind_same TooLarge TooLarge h = refl
kind_same BadAttribute BadAttribute h = refl
kind_same a b h = cc

fault_cmp_is : (a b : TypeFault) → fault_ord.ghosts.cmp a b ≡ fault_cmp a b
fault_cmp_is a b = ap (ordering_then (span_cmp a.span b.span)) (kind_cmp a.kind b.kind)

pub sorted_is : (faults : List TypeFault) → IsStrictlySortedBy fault_ord.ghosts.cmp faults → IsStrictlySortedBy fault_cmp faults
sorted_is faults h = let same : fault_ord.ghosts.cmp ≡ fault_cmp = (λ i a b. fault_cmp_is a b i) in subst (λ cmp. IsStrictlySortedBy cmp faults) same h

pub span_same : (a b : Span) → (nat_eq a.from b.from && nat_eq a.to b.to) ≡ true → a ≡ b
span_same a b h = grind (arith, nat_tests)

pub fault_same : (a b : TypeFault) → fault_eq.ghosts.eq a b ≡ true → a ≡ b
fault_same a b h =
    let same = and_parts (nat_eq a.span.from b.span.from && nat_eq a.span.to b.span.to) (kind_eq.ghosts.eq a.kind b.kind) h in
    let place = span_same a.span b.span same.0 in
    let kind = kind_same a.kind b.kind same.1 in
    λ i. record { span = place i; kind = kind i }
