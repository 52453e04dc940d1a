use Rattle.std.proofs.Common.{◌≡◌, ◌-◌, take, drop, ◌∙◌, ap, arith, rules}
use Rattle.std.proofs.lemmas.Grind.{common_steps}
use Rattle.terms.specs.Heads.{size_of, subject_in, objects_in}
use Rattle.terms.proofs.Cleared.{subject_passes, objects_asked, subject_alone, none_asked}
use Rattle.terms.specs.Pointers.{any_of}
use Rattle.terms.proofs.Scanned.{head_size}
use Rattle.terms.proofs.walks.head_passes.Goals as goal

pub slice_bounds-objects-end : goal.slice_bounds-objects-end
slice_bounds-objects-end g c =
    let (some, room, rows, few) = head_size c.args.stretch.bytes.now c.args.head c.requires.head in
    let is = ap size_of c.in-Output.is in
    omega arith

pub returns-then-test : goal.returns-then-test
unfolding subject_in
returns-then-test g c known tests =
    rw (c.in-Output.is) (subject_passes (known c.args.stretch.bound) c.in-Output.subject _ (tests _ _ _ (grind (arith, common_steps)) (search rules) c.test.ensures) _ c.if-test.true)

pub returns-else-test : goal.returns-else-test
unfolding subject_in objects_in
returns-else-test g c known tests =
    let long : c.size.result - 3 ≡ c.in-Output.count = omega (arith, c.size.ensures) in
    rw (c.in-Output.is) (objects_asked (known c.args.stretch.bound) c.in-Output.subject _ (tests _ _ _ (grind (arith, common_steps)) (search rules) c.test.ensures) _ c.if-test.false _
    (c.any_passes.ensures known tests ∙ ap (λ n. any_of (known c.args.stretch.bound) (take n (drop 3 c.args.stretch.bytes.now))) long))

pub returns-in-Input : goal.returns-in-Input
unfolding subject_in objects_in
returns-in-Input g c known tests =
    rw (c.in-Input.is) (subject_alone (known c.args.stretch.bound) c.in-Input.subject _ (tests _ _ _ (grind (arith, common_steps)) (search rules) c.test-in-Input.ensures))

pub returns-in-Terminated : goal.returns-in-Terminated
returns-in-Terminated g c known tests = none_asked (known c.args.stretch.bound) c.args.stretch.bytes.now c.args.head c.in-Terminated.is
