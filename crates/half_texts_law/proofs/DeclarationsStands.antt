-- What attributes without a fault mark.
use Rattle.std.proofs.Common.{◌≡◌, ◌∙◌, sym, ap, subst, refl, ℕ, zero, suc, Bool, true, false, List, [], ◌∷◌, ◌++◌, map, arith, ◌+◌, cond, not, length, Option, Some, None}
use Rattle.std.specs.Prelude.{IsTrue, ◌&&◌, ◌||◌, slice_get, flat_map}
use Rattle.std.specs.List.{list_all, list_any}
use Rattle.pt_base.proofs.Booleans.{from_not_false}
use Rattle.pt_base.proofs.Lists.{append_nil_first, append_nil_second}
use Rattle.check_declarations.specs.declared.fault.FaultKind.TheVariants.{BadAttribute}
use Rattle.check_declarations.specs.declared.fault.TypeFault.{TypeFault}
use Rattle.check_declarations.specs.declared.marks.Attribute.{Attribute}
use Rattle.check_declarations.specs.declared.marks.Carrier.{Carrier}
use Rattle.check_declarations.specs.declared.marks.Carrier.TheVariants.{Global, Function, Parameter}
use Rattle.check_declarations.specs.declared.marks.Mark.{Mark}
use Rattle.check_declarations.specs.declared.marks.Mark.TheVariants.{Priv, Unpriv, Declassify, Other}
use Rattle.check_declarations.specs.Faults.{fault_if}
use Rattle.check_declarations.specs.Marks.{is_priv, is_unpriv, is_declassify, marks_of, may_stand, mark_faults}
use Rattle.type_law.proofs.DeclarationsFaultLemmas.{no_fault}

-- one of these marks is there, and may stand
pub record Standing (carrier : Carrier) (marked : Bool) (q : Mark → Bool) : Type 0 where
  pub mark : Mark
  pub is : q mark ≡ true
  pub stands : may_stand carrier marked mark ≡ true

abbrev faults_of : Carrier → Bool → List Attribute → List TypeFault
faults_of carrier marked attributes = flat_map (λ a. fault_if (not (may_stand carrier marked a.mark)) BadAttribute a.span) attributes

found : (carrier : Carrier) (marked : Bool) (q : Mark → Bool) (as' : List Attribute) → faults_of carrier marked as' ≡ [] → list_any (λ a. q a.mark) as' ≡ true → Standing carrier marked q
found carrier marked q [] none h = cc
found carrier marked q (a ∷ rest) none h = go (found carrier marked q rest (append_nil_second (fault_if (not (may_stand carrier marked a.mark)) BadAttribute a.span) (faults_of carrier marked rest) none)) (q a.mark) refl h
  where
    go : (list_any (λ a. q a.mark) rest ≡ true → Standing carrier marked q) → (b : Bool) → q a.mark ≡ b → (b || list_any (λ a. q a.mark) rest) ≡ true → Standing carrier marked q
    go again true e h = record {
      mark = a.mark;
      is = e;
      stands = from_not_false (may_stand carrier marked a.mark) (no_fault (not (may_stand carrier marked a.mark)) BadAttribute a.span (append_nil_first (fault_if (not (may_stand carrier marked a.mark)) BadAttribute a.span) (faults_of carrier marked rest) none));
    }
    go again false e h = again h

pub stands : (carrier : Carrier) (q : Mark → Bool) (attributes : List Attribute) → mark_faults carrier attributes ≡ [] → list_any (λ a. q a.mark) attributes ≡ true → Standing carrier (marks_of attributes).marked q
stands carrier q attributes none h = found carrier (marks_of attributes).marked q attributes none h

-- ---- each carrier

pub function_declassified : (privileged : Bool) (attributes : List Attribute) → mark_faults (Function privileged) attributes ≡ [] → (marks_of attributes).declassify ≡ true → privileged ≡ true
function_declassified privileged attributes none h = let s = stands (Function privileged) is_declassify attributes none h in go s.mark s.is s.stands
  where
    go : (m : Mark) → is_declassify m ≡ true → may_stand (Function privileged) (marks_of attributes).marked m ≡ true → privileged ≡ true
    go Priv i j = cc
    go Unpriv i j = cc
    go Declassify i j = j
    go Other i j = cc

pub parameter_declassified : (privileged host returns : Bool) (attributes : List Attribute) → mark_faults (Parameter privileged host returns) attributes ≡ [] → (marks_of attributes).declassify ≡ true → (privileged ≡ true) × (returns ≡ true)
parameter_declassified privileged host returns attributes none h = let s = stands (Parameter privileged host returns) is_declassify attributes none h in go s.mark s.is s.stands
  where
    parts : (a b c : Bool) → (a && (not b && c)) ≡ true → (a ≡ true) × (c ≡ true)
    parts true true c i = cc
    parts true false c i = (refl, i)
    parts false b c i = cc

    go : (m : Mark) → is_declassify m ≡ true → may_stand (Parameter privileged host returns) (marks_of attributes).marked m ≡ true → (privileged ≡ true) × (returns ≡ true)
    go Priv i j = cc
    go Unpriv i j = cc
    go Declassify i j = parts privileged host returns j
    go Other i j = cc

pub parameter_unprivileged : (privileged host returns : Bool) (attributes : List Attribute) → mark_faults (Parameter privileged host returns) attributes ≡ [] → (marks_of attributes).unpriv ≡ true → privileged ≡ false
parameter_unprivileged privileged host returns attributes none h = let s = stands (Parameter privileged host returns) is_unpriv attributes none h in go s.mark s.is s.stands
  where
    parts : (a b c : Bool) → not (a || (b || c)) ≡ true → b ≡ false
    parts true b c i = cc
    parts false true c i = cc
    parts false false c i = refl

    go : (m : Mark) → is_unpriv m ≡ true → may_stand (Parameter privileged host returns) (marks_of attributes).marked m ≡ true → privileged ≡ false
    go Priv i j = cc
    go Unpriv i j = parts (marks_of attributes).marked privileged host j
    go Declassify i j = cc
    go Other i j = cc

-- no global can be marked both `priv` and `unpriv`
pub global_marked : (attributes : List Attribute) → mark_faults Global attributes ≡ [] → not ((marks_of attributes).marked && (marks_of attributes).unpriv) ≡ true
global_marked attributes none = go (marks_of attributes).marked (marks_of attributes).unpriv refl refl
  where
    alone : (b : Bool) (m : Mark) → is_unpriv m ≡ true → may_stand Global b m ≡ true → not b ≡ true
    alone b Priv i j = cc
    alone b Unpriv i j = j
    alone b Declassify i j = cc
    alone b Other i j = cc

    go : (a b : Bool) → (marks_of attributes).marked ≡ a → (marks_of attributes).unpriv ≡ b → not (a && b) ≡ true
    go false b e i = refl
    go true false e i = refl
    go true true e i = let s = stands Global is_unpriv attributes none i in let n = alone (marks_of attributes).marked s.mark s.is s.stands in let m = ap not (sym e) in cc
