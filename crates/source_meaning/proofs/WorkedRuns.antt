-- Runs of small programs, computed by the definitions alone. What they come to is counted by hand.
use Rattle.std.proofs.Common.{◌≡◌, ℕ, zero, suc, pos, negsuc, true, false, [], ◌∷◌, Some, None, refl, codes}
use Rattle.std.specs.Fmt.{digits}
use Rattle.pt_base.specs.declared.int_type.IntType.TheVariants as i
use Rattle.pt_base.specs.declared.end.End.TheVariants.{Exit, Trapped, Spent}
use Rattle.pt_base.specs.declared.trap.Trap.TheVariants as trap
use Rattle.pt_int.specs.declared.operator.BinOp.TheVariants.{Add, Sub, Lt, Eq}
use Rattle.pt_int.specs.Operator.{binary_of}
use Rattle.pt_int.specs.Conversion.{conv}
use Rattle.pt_tree.specs.declared.signature.Elem.TheVariants as el
use Rattle.pt_tree.specs.declared.host_model.HostModel.TheVariants.{Table, Line}
use Rattle.runs.specs.State.{Hosts, out, guarded}
use Rattle.typed_tree.specs.declared.types.VarTy.TheVariants as ty
use Rattle.typed_tree.specs.declared.statement.TypedLabel.TheVariants.{Case, Default}
use Rattle.typed_tree.specs.declared.statement.TypedInit.TheVariants as n
use Rattle.typed_tree.specs.declared.statement.TypedForInit.TheVariants as f
use Rattle.typed_tree.specs.ExpressionTree as t
use Rattle.typed_tree.specs.ExpressionTree.{typed, place, no_steps}
use Rattle.typed_tree.specs.StatementTree.{block, choose, no_else, do_while, for_each, stop_loop, next_turn, switch, body_trees, no_bodies, section, section_trees}
use Rattle.typed_tree.specs.TypedTree.{TypedTree}
use Rattle.source_meaning.specs.WholeRun.{whole_run}
use Rattle.source_meaning.proofs.WorkedTrees.{at, anywhere, int, char, to_int, ints, one_s, to_s, variable, part, item, field, constant, read, value, as_char, as_int, binary, assign, add_to, count_up, call, expr, does, returns, declares, of_type, int_param, pointer_param, host, function, main, program, no_host}

-- ---- turns

-- int n; n = 0; switch (2) { case 1: n = n + 1; case 2: n = n + 2; default: n = n + 4; break; case 3: n = 100; } return n;
abbrev falls_through : TypedTree
falls_through = program
    (main (of_type int ∷ []) (declares 0 n.Nothing ∷ does 0 ∷ switch anywhere (expr 1) i.Int (section_trees (
    section anywhere (Case anywhere (pos 1)) (body_trees (does 2 ∷ [])) ∷ section anywhere (Case anywhere (pos 2)) (body_trees (does 3 ∷ [])) ∷
    section anywhere (Default anywhere) (body_trees (does 4 ∷ stop_loop anywhere ∷ [])) ∷ section anywhere (Case anywhere (pos 3)) (body_trees (does 5 ∷ [])) ∷ [])) ∷ returns 6 ∷ []) ∷ [])
    (assign int (variable 0) (constant 0) ∷ constant 2 ∷ assign int (variable 0) (binary anywhere Add (value 0) (constant 1)) ∷ assign int (variable 0) (binary anywhere Add (value 0) (constant 2)) ∷
    assign int (variable 0) (binary anywhere Add (value 0) (constant 4)) ∷ assign int (variable 0) (constant 100) ∷ value 0 ∷ [])

falls_through_0 : whole_run falls_through no_host [] 0 ≡ record { events = []; end = Spent; turns = 0 }
unfolding binary_of conv
falls_through_0 = refl

falls_through_1 : whole_run falls_through no_host [] 1 ≡ record { events = []; end = Exit (pos 6); turns = 1 }
unfolding binary_of conv
falls_through_1 = refl

-- int i; int n; n = 0; for (i = 0; i < 3; i++) { switch (i) { case 1: continue; } n = n + 10; } return n;
abbrev continues : TypedTree
continues = program
    (main (of_type int ∷ of_type int ∷ []) (declares 0 n.Nothing ∷ declares 1 n.Nothing ∷ does 0 ∷ for_each anywhere (f.Evaluate (expr 1)) (Some (expr 2)) (Some (expr 3)) (block anywhere (body_trees (
    switch anywhere (expr 4) i.Int (section_trees (section anywhere (Case anywhere (pos 1)) (body_trees (next_turn anywhere ∷ [])) ∷ [])) ∷ does 5 ∷ []))) ∷ returns 6 ∷ []) ∷ [])
    (assign int (variable 1) (constant 0) ∷ assign int (variable 0) (constant 0) ∷ binary anywhere Lt (value 0) (constant 3) ∷ count_up int (variable 0) ∷ value 0 ∷
    assign int (variable 1) (binary anywhere Add (value 1) (constant 10)) ∷ value 1 ∷ [])

continues_6 : whole_run continues no_host [] 6 ≡ record { events = []; end = Spent; turns = 6 }
unfolding binary_of conv
continues_6 = refl

continues_7 : whole_run continues no_host [] 7 ≡ record { events = []; end = Exit (pos 20); turns = 7 }
unfolding binary_of conv
continues_7 = refl

-- int i; do { i++; if (i == 2) continue; } while (i < 3); return i;
abbrev tests_later : TypedTree
tests_later = program
    (main (of_type int ∷ []) (declares 0 n.Nothing ∷ do_while anywhere (block anywhere (body_trees (does 0 ∷ choose anywhere (expr 1) (next_turn anywhere) no_else ∷ []))) (expr 2) ∷ returns 3 ∷ []) ∷ [])
    (count_up int (variable 0) ∷ binary anywhere Eq (value 0) (constant 2) ∷ binary anywhere Lt (value 0) (constant 3) ∷ value 0 ∷ [])

tests_later_3 : whole_run tests_later no_host [] 3 ≡ record { events = []; end = Spent; turns = 3 }
unfolding binary_of conv
tests_later_3 = refl

tests_later_4 : whole_run tests_later no_host [] 4 ≡ record { events = []; end = Exit (pos 3); turns = 4 }
unfolding binary_of conv
tests_later_4 = refl

-- ---- calls

-- priv int load(int n); priv int sign(priv int k, int n); void put(int v);
-- int main(void) { int k; int s; k = load(7); s = sign(k, 5); put(s); return 0; }
abbrev signs : TypedTree
signs = program
    (host (codes "load") (Some i.Int) (int_param false ∷ []) true ∷ host (codes "sign") (Some i.Int) (int_param true ∷ int_param false ∷ []) true ∷ host (codes "put") None (int_param false ∷ []) false ∷
    main (of_type int ∷ of_type int ∷ []) (declares 0 n.Nothing ∷ declares 1 n.Nothing ∷ does 0 ∷ does 1 ∷ does 2 ∷ returns 3 ∷ []) ∷ [])
    (assign int (variable 0) (call anywhere (Some int) 0 (constant 7 ∷ [])) ∷ assign int (variable 1) (call anywhere (Some int) 1 (value 0 ∷ constant 5 ∷ [])) ∷
    call anywhere None 2 (value 1 ∷ []) ∷ constant 0 ∷ [])

abbrev signing : Hosts
signing zero = Table (record { args = pos 7 ∷ []; result = pos 1234 } ∷ record { args = pos 8 ∷ []; result = pos 5 } ∷ []) (pos 0)
signing (suc zero) = Table (record { args = pos 1234 ∷ pos 5 ∷ []; result = pos 99 } ∷ []) (negsuc 0)
signing (suc (suc f)) = Line (codes "put")

signs_2 : whole_run signs signing [] 2 ≡ record { events = guarded 0 (pos 7 ∷ []) ∷ guarded 1 (pos 5 ∷ []) ∷ []; end = Spent; turns = 2 }
unfolding binary_of conv
signs_2 = refl

signs_3 : whole_run signs signing [] 3 ≡ record { events = guarded 0 (pos 7 ∷ []) ∷ guarded 1 (pos 5 ∷ []) ∷ out (codes "put 99\n") ∷ []; end = Exit (pos 0); turns = 3 }
unfolding binary_of conv digits
signs_3 = refl

-- int down(int n) { if (n == 0) return 0; return down(n - 1); } int main(void) { return down(N); }
abbrev goes_down : ℕ → TypedTree
goes_down calls = program
    (function (codes "down") (Some i.Int) (int_param false ∷ []) false (of_type int ∷ []) (block anywhere (body_trees (choose anywhere (expr 0) (returns 1) no_else ∷ returns 2 ∷ []))) ∷ main [] (returns 3 ∷ []) ∷ [])
    (binary anywhere Eq (value 0) (constant 0) ∷ constant 0 ∷ call (at 47 58) (Some int) 0 (binary anywhere Sub (value 0) (constant 1) ∷ []) ∷ call anywhere (Some int) 0 (constant calls ∷ []) ∷ [])

goes_down_198 : whole_run (goes_down 198) no_host [] 300 ≡ record { events = []; end = Exit (pos 0); turns = 199 }
unfolding binary_of conv
goes_down_198 = refl

goes_down_199 : whole_run (goes_down 199) no_host [] 300 ≡ record { events = []; end = Trapped trap.Depth (at 47 58); turns = 199 }
unfolding binary_of conv
goes_down_199 = refl

-- int f(void) { } int main(void) { return f(); }
abbrev owes : TypedTree
owes = program (function (codes "f") (Some i.Int) [] false [] (block (at 12 15) no_bodies) ∷ main [] (returns 0 ∷ []) ∷ []) (call anywhere (Some int) 0 [] ∷ [])

owes_a_result : whole_run owes no_host [] 5 ≡ record { events = []; end = Trapped trap.NoReturn (at 14 15); turns = 1 }
owes_a_result = refl

-- priv void bump(int *p, int *q) { *p += 1; *q += 1; } void put(int v); int main(void) { int a[1]; bump(a, a); put(a[0]); return 0; }
abbrev aliases : TypedTree
aliases = program
    (function (codes "bump") None (pointer_param ∷ pointer_param ∷ []) true (of_type to_int ∷ of_type to_int ∷ []) (block anywhere (body_trees (does 0 ∷ does 1 ∷ []))) ∷
    main (of_type (ints 1) ∷ []) (declares 0 n.Nothing ∷ does 2 ∷ does 3 ∷ returns 4 ∷ []) ∷ host (codes "put") None (int_param false ∷ []) false ∷ [])
    (add_to int (place (t.deref (read to_int (variable 0)) anywhere) no_steps) (constant 1) ∷ add_to int (place (t.deref (read to_int (variable 1)) anywhere) no_steps) (constant 1) ∷
    call anywhere None 0 (typed anywhere (Some to_int) (t.decay (variable 0)) ∷ typed anywhere (Some to_int) (t.decay (variable 0)) ∷ []) ∷
    call anywhere None 2 (read int (part 0 (item anywhere (constant 0) no_steps)) ∷ []) ∷ constant 0 ∷ [])

aliases_run : whole_run aliases signing [] 2 ≡ record { events = guarded 0 [] ∷ out (codes "put 2\n") ∷ []; end = Exit (pos 0); turns = 2 }
unfolding binary_of conv digits
aliases_run = refl

-- priv void f(int n, priv int k) { w(n); } priv void w(priv int v); int main(void) { f(3, 4); w(5); return 0; }
abbrev guards : TypedTree
guards = program
    (main [] (does 0 ∷ does 1 ∷ returns 2 ∷ []) ∷
    function (codes "f") None (int_param false ∷ int_param true ∷ []) true (of_type int ∷ of_type int ∷ []) (block anywhere (body_trees (does 3 ∷ []))) ∷ host (codes "w") None (int_param true ∷ []) true ∷ [])
    (call anywhere None 1 (constant 3 ∷ constant 4 ∷ []) ∷ call anywhere None 2 (constant 5 ∷ []) ∷ constant 0 ∷ call anywhere None 2 (value 0 ∷ []) ∷ [])

guards_outermost : whole_run guards no_host [] 9 ≡ record { events = guarded 1 (pos 3 ∷ []) ∷ out (3 ∷ []) ∷ guarded 2 [] ∷ out (5 ∷ []) ∷ []; end = Exit (pos 0); turns = 3 }
unfolding binary_of conv
guards_outermost = refl

-- ---- variables

-- int x; with no declaration that is reached, x = 5; return x;
abbrev holds_from_entry : TypedTree
holds_from_entry = program (main (of_type int ∷ []) (does 0 ∷ returns 1 ∷ []) ∷ []) (assign int (variable 0) (constant 5) ∷ value 0 ∷ [])

holds_from_entry_runs : whole_run holds_from_entry no_host [] 0 ≡ record { events = []; end = Exit (pos 5); turns = 0 }
unfolding conv
holds_from_entry_runs = refl

-- ---- objects

-- int a[3]; return a[N];
abbrev reads : ℕ → TypedTree
reads index = program (main (of_type (ints 3) ∷ []) (declares 0 n.Nothing ∷ returns 0 ∷ []) ∷ []) (read int (part 0 (item (at 34 38) (constant index) no_steps)) ∷ [])

reads_2 : whole_run (reads 2) no_host [] 0 ≡ record { events = []; end = Exit (pos 0); turns = 0 }
unfolding conv
reads_2 = refl

reads_3 : whole_run (reads 3) no_host [] 0 ≡ record { events = []; end = Trapped trap.Bounds (at 34 38); turns = 0 }
reads_3 = refl

reads_4 : whole_run (reads 4) no_host [] 0 ≡ record { events = []; end = Trapped trap.PtrRange (at 34 38); turns = 0 }
reads_4 = refl

-- int *p; *p = 1; return 0;
abbrev writes_null : TypedTree
writes_null = program (main (of_type to_int ∷ []) (declares 0 n.Nothing ∷ does 0 ∷ returns 1 ∷ []) ∷ []) (assign int (place (t.deref (read to_int (variable 0)) (at 25 27)) no_steps) (constant 1) ∷ constant 0 ∷ [])

writes_null_traps : whole_run writes_null no_host [] 0 ≡ record { events = []; end = Trapped trap.Null (at 25 27); turns = 0 }
writes_null_traps = refl

-- int g(void); int main(void) { int *p; *p = g(); return 0; }
abbrev fixes_its_place : TypedTree
fixes_its_place = program (main (of_type to_int ∷ []) (declares 0 n.Nothing ∷ does 0 ∷ returns 1 ∷ []) ∷ host (codes "g") (Some i.Int) [] false ∷ [])
    (assign int (place (t.deref (read to_int (variable 0)) (at 38 40)) no_steps) (call anywhere (Some int) 1 []) ∷ constant 0 ∷ [])

fixes_its_place_first : whole_run fixes_its_place no_host [] 5 ≡ record { events = []; end = Trapped trap.Null (at 38 40); turns = 0 }
fixes_its_place_first = refl

-- char c = 100; c += 200; return c;
abbrev narrows : TypedTree
narrows = program (main (of_type char ∷ []) (declares 0 (n.Value (expr 0)) ∷ does 1 ∷ returns 2 ∷ []) ∷ [])
    (as_char (constant 100) ∷ add_to char (variable 0) (constant 200) ∷ as_int (read char (variable 0)) ∷ [])

narrows_runs : whole_run narrows no_host [] 0 ≡ record { events = []; end = Exit (pos 44); turns = 0 }
unfolding binary_of conv
narrows_runs = refl

-- int a[2] = {1, a[0]}; return a[1];
abbrev reads_its_own : TypedTree
reads_its_own = program (main (of_type (ints 2) ∷ []) (declares 0 (n.Items anywhere (expr 0 ∷ expr 1 ∷ [])) ∷ returns 2 ∷ []) ∷ [])
    (constant 1 ∷ read int (part 0 (item anywhere (constant 0) no_steps)) ∷ read int (part 0 (item anywhere (constant 1) no_steps)) ∷ [])

reads_its_own_runs : whole_run reads_its_own no_host [] 0 ≡ record { events = []; end = Exit (pos 1); turns = 0 }
unfolding conv
reads_its_own_runs = refl

-- struct S x[2]; struct S y; struct S *p; p = x; p++; p->a[2] = 7; y = x[1]; return (x[0] = y).a[2] + x[0].a[2] + p->a[1];
abbrev copies : TypedTree
copies = program
    (main (of_type (ty.Array (el.Struct 0) 2) ∷ of_type one_s ∷ of_type to_s ∷ []) (declares 0 n.Nothing ∷ declares 1 n.Nothing ∷ declares 2 n.Nothing ∷ does 0 ∷ does 1 ∷ does 2 ∷ does 3 ∷ returns 4 ∷ []) ∷ [])
    (assign to_s (variable 2) (typed anywhere (Some to_s) (t.decay (variable 0))) ∷ count_up to_s (variable 2) ∷
    assign char (place (t.deref (read to_s (variable 2)) anywhere) (field 1 (item anywhere (constant 2) no_steps))) (as_char (constant 7)) ∷
    assign one_s (variable 1) (read one_s (part 0 (item anywhere (constant 1) no_steps))) ∷
    binary anywhere Add (binary anywhere Add
    (as_int (read char (place (t.assigned (assign one_s (part 0 (item anywhere (constant 0) no_steps)) (read one_s (variable 1)))) (field 1 (item anywhere (constant 2) no_steps)))))
    (as_int (read char (part 0 (item anywhere (constant 0) (field 1 (item anywhere (constant 2) no_steps)))))))
    (as_int (read char (place (t.deref (read to_s (variable 2)) anywhere) (field 1 (item anywhere (constant 1) no_steps))))) ∷ [])

copies_run : whole_run copies no_host [] 0 ≡ record { events = []; end = Exit (pos 14); turns = 0 }
unfolding binary_of conv
copies_run = refl
