use Rattle.std.proofs.Common.{◌+◌, ◌≤◌, length, drop, inr, sym, ◌∙◌, subst, arith, rules, length-drop}
use Rattle.pt_base.specs.Names.{longest_name}
use Rattle.c_lexer.specs.Lexes.{Reads, none}
use Rattle.c_lexer.specs.declared.next.Next.TheVariants.{Blank, Token, Fault}
use Rattle.std.specs.Prelude.{IsTrue}
use Rattle.std.proofs.lemmas.List.Elements.{All-push}
use Rattle.c_lexer.specs.Values.{value_fits, ValuesFit}
use Rattle.c_lexer.proofs.ValueLemmas.{meaning_fits}
use Rattle.c_lexer.proofs.Steps.{step_begins, step_fits}
use Rattle.c_lexer.proofs.Walks.{reads_blank, reads_token}
use Rattle.c_lexer.proofs.text.lex.Goals as goal

pub loop-at-init : goal.loop-at-init
loop-at-init c = record {
  within = omega arith;
  reads = subst (λ ts. Reads c.args.text.now 0 ts 0) (sym c.new-tokens.ensures.items) none;
  values = subst ValuesFit (sym c.new-tokens.ensures.items) (search rules);
  count = omega (arith, c.new-tokens.ensures.len);
}

pub overflow_add-at : goal.overflow_add-at
overflow_add-at c =
    let fits = step_fits c.args.text.now c.loop-at.at (Blank c.in-Blank.length) c.loop-at-test.true (sym c.in-Blank.is ∙ c.in_ok-length.ensures) in
    let bound : c.loop-at.at + c.in-Blank.length ≤ length c.args.text.now = omega (arith, fits.1) in
    search rules

pub loop-at-smaller-in-Blank : goal.loop-at-smaller-in-Blank
loop-at-smaller-in-Blank c =
    let fits = step_fits c.args.text.now c.loop-at.at (Blank c.in-Blank.length) c.loop-at-test.true (sym c.in-Blank.is ∙ c.in_ok-length.ensures) in
    omega (arith, fits.0, fits.1)

pub loop-at-preserved-in-Blank : goal.loop-at-preserved-in-Blank
loop-at-preserved-in-Blank c =
    let fits = step_fits c.args.text.now c.loop-at.at (Blank c.in-Blank.length) c.loop-at-test.true (sym c.in-Blank.is ∙ c.in_ok-length.ensures) in
    let begins = step_begins c.args.text.now c.loop-at.at (Blank c.in-Blank.length) c.loop-at-test.true (sym c.in-Blank.is ∙ c.in_ok-length.ensures) in
    record {
      within = omega (arith, fits.1);
      reads = reads_blank c.args.text.now 0 c.loop-at.tokens.items c.loop-at.at c.in-Blank.length c.loop-at.invariant.reads begins;
      values = c.loop-at.invariant.values;
      count = omega arith;
    }

pub overflow_add-span : goal.overflow_add-span
overflow_add-span c =
    let fits = step_fits c.args.text.now c.loop-at.at (Token c.in-Token.length c.in-Token.kind c.in-Token.value) c.loop-at-test.true (sym c.in-Token.is ∙ c.in_ok-length.ensures) in
    let bound : c.loop-at.at + c.in-Token.length ≤ length c.args.text.now = omega (arith, fits.1) in
    search rules

pub overflow_cast-span-in-Token : goal.overflow_cast-span-in-Token
overflow_cast-span-in-Token c =
    let fits = step_fits c.args.text.now c.loop-at.at (Token c.in-Token.length c.in-Token.kind c.in-Token.value) c.loop-at-test.true (sym c.in-Token.is ∙ c.in_ok-length.ensures) in
    let bound : c.loop-at.at + c.in-Token.length ≤ length c.args.text.now = omega (arith, fits.1) in
    search rules

pub overflow_add-at-in-Token : goal.overflow_add-at-in-Token
overflow_add-at-in-Token c =
    let fits = step_fits c.args.text.now c.loop-at.at (Token c.in-Token.length c.in-Token.kind c.in-Token.value) c.loop-at-test.true (sym c.in-Token.is ∙ c.in_ok-length.ensures) in
    let bound : c.loop-at.at + c.in-Token.length ≤ length c.args.text.now = omega (arith, fits.1) in
    search rules

pub loop-at-smaller : goal.loop-at-smaller
loop-at-smaller c =
    let fits = step_fits c.args.text.now c.loop-at.at (Token c.in-Token.length c.in-Token.kind c.in-Token.value) c.loop-at-test.true (sym c.in-Token.is ∙ c.in_ok-length.ensures) in
    omega (arith, fits.0, fits.1)

pub loop-at-preserved : goal.loop-at-preserved
loop-at-preserved c =
    let fits = step_fits c.args.text.now c.loop-at.at (Token c.in-Token.length c.in-Token.kind c.in-Token.value) c.loop-at-test.true (sym c.in-Token.is ∙ c.in_ok-length.ensures) in
    let begins = step_begins c.args.text.now c.loop-at.at (Token c.in-Token.length c.in-Token.kind c.in-Token.value) c.loop-at-test.true (sym c.in-Token.is ∙ c.in_ok-length.ensures) in
    let pushed = c.in_ok-push-in-Token.ensures.items in
    let size = length-drop c.loop-at.at c.args.text.now in
    let few : length (drop c.loop-at.at c.args.text.now) ≤ longest_name = omega (arith, size) in
    let reads = reads_token c.args.text.now 0 c.loop-at.tokens.items c.loop-at.at c.in-Token.length c.in-Token.kind c.in-Token.value c.loop-at.invariant.reads begins in
    record {
      within = omega (arith, fits.1);
      reads = subst (λ ts. Reads c.args.text.now 0 ts (c.loop-at.at + c.in-Token.length)) (sym pushed) reads;
      values = subst ValuesFit (sym pushed) (All-push (λ t. IsTrue (value_fits t.value)) c.loop-at.tokens.items _ c.loop-at.invariant.values (meaning_fits (drop c.loop-at.at c.args.text.now) c.in-Token.length c.in-Token.kind c.in-Token.value begins.longest.within few begins.means));
      count = omega (arith, fits.0, c.in_ok-push-in-Token.ensures.len);
    }

pub returns-in-Fault-clause-tokens : goal.returns-in-Fault-clause-tokens
returns-in-Fault-clause-tokens c =
    inr (
      omega arith,
      record {
        before = c.loop-at.tokens.items;
        reads = c.loop-at.invariant.reads;
        stops = step_begins c.args.text.now c.loop-at.at (Fault c.in-Fault.kind) c.loop-at-test.true (sym c.in-Fault.is ∙ c.in_ok-length.ensures);
      },
    )
