-- The type faults of a program, in order.
use Rattle.std.proofs.Common.{◌≡◌, ◌<◌, List, length, refl, sym, subst}
use Rattle.std.specs.Cmp.{IsTotalOrder}
use Rattle.std.specs.declared.cmp.Ordering.TheVariants.{Equal}
use Rattle.std.specs.Ordering.{nat_cmp}
use Rattle.std.specs.List.{Contains}
use Rattle.std.proofs.lemmas.Cmp.{nat_cmp_total, on_total, then_total}
use Rattle.check_declarations.specs.declared.fault.FaultKind.{FaultKind}
use Rattle.check_declarations.specs.declared.fault.FaultKind.TheVariants.{UnknownName, Redeclared, NotLvalue, WrongType, ArgCount, ConstWrite, OutOfProfile, NoMain, TooLarge, BadAttribute}
use Rattle.check_declarations.specs.declared.fault.TypeFault.{TypeFault}
use Rattle.check_declarations.specs.Faults.{fault_cmp, fault_number, span_cmp}
use Rattle.check_programs.specs.Answers.{AreFaults}
use Rattle.pt_base.proofs.SortedLists.{ascending, ascends, both_tie, from_ascending, in_ascending, numbers_tie}

fault_total : IsTotalOrder fault_cmp
fault_total =
    then_total (then_total (on_total (λ (f : TypeFault). f.span.from) nat_cmp_total) (on_total (λ (f : TypeFault). f.span.to) nat_cmp_total))
    (on_total (λ (f : TypeFault). fault_number f.kind) nat_cmp_total)

same_kind : (a b : FaultKind) → fault_number a ≡ fault_number b → a ≡ b
same_kind UnknownName UnknownName h = refl
same_kind Redeclared Redeclared h = refl
same_kind NotLvalue NotLvalue h = refl
same_kind WrongType WrongType h = refl
same_kind ArgCount ArgCount h = refl
same_kind ConstWrite ConstWrite h = refl
same_kind OutOfProfile OutOfProfile h = refl
same_kind NoMain NoMain h = refl
same_kind TooLarge TooLarge h = refl
same_kind BadAttribute BadAttribute h = refl
same_kind a b h = cc

-- two faults that tie are one
same_fault : (f g : TypeFault) → fault_cmp f g ≡ Equal → f ≡ g
same_fault f g e =
    let both = both_tie (span_cmp f.span g.span) (nat_cmp (fault_number f.kind) (fault_number g.kind)) e in
    let place = both_tie (nat_cmp f.span.from g.span.from) (nat_cmp f.span.to g.span.to) both.0 in
    let from = numbers_tie f.span.from g.span.from place.0 in
    let to = numbers_tie f.span.to g.span.to place.1 in
    let kind = same_kind f.kind g.kind (numbers_tie (fault_number f.kind) (fault_number g.kind) both.1) in
    λ i. record { span = record { from = from i; to = to i }; kind = kind i }

pub in_order : List TypeFault → List TypeFault
in_order all = ascending fault_cmp all

pub are_faults : (all : List TypeFault) → 0 < length all → AreFaults (in_order all) all
unfolding in_order
are_faults all some = record {
  sorted = ascends fault_cmp fault_total all;
  same = λ f. (
    from_ascending fault_cmp all f,
    λ h. let t = in_ascending fault_cmp fault_total all f h in
        subst (λ (g : TypeFault). Contains (ascending fault_cmp all) g) (sym (same_fault f t.0 t.2)) t.1,
  );
  some = some;
}
