use mathlib.Core.Path.{refl}
use native.Mathlib.Omega.{arith}
use borrow.Author.Rules.{rules}
use borrow.Author.Tests.{le-leb}
use Rattle.area_calls.specs.Calls.{step_on}
use Rattle.reset.specs.Steps.{enter, send, recv, start}
use Rattle.turnover_commands.proofs.Laws.{step_told}
use Rattle.turnover_commands.proofs.stepping.Goals as goal

pub returns-in-Enter : goal.returns-in-Enter
returns-in-Enter c =
    let p = enter c.in-Enter.station c.in-Enter.register in
    let a = c.args.area.now in
    let d = step_told p a _ _ (search rules) c.requires.1 (le-leb c.in-Enter.register 4294967295 (omega arith)) (rw (c.from.ensures) at c.enter-answered.ensures) in
    record { by_index = λ b. rw c.in-Enter.is (c.made.ensures b _ (step_on p a) d.0 d.1); area_after = d.2 }

pub returns-in-Send : goal.returns-in-Send
returns-in-Send c =
    let p = send c.in-Send.station c.in-Send.peer c.in-Send.register in
    let a = c.args.area.now in
    let d = step_told p a _ _ (search rules) c.requires.1 (le-leb c.in-Send.register 4294967295 (omega arith)) (rw (c.from-in-Send.ensures, c.from-in-Send-2.ensures) at c.send-answered.ensures) in
    record { by_index = λ b. rw c.in-Send.is (c.made-in-Send.ensures b _ (step_on p a) d.0 d.1); area_after = d.2 }

pub returns-in-Recv : goal.returns-in-Recv
returns-in-Recv c =
    let p = recv c.in-Recv.station c.in-Recv.peer in
    let a = c.args.area.now in
    let d = step_told p a _ _ (search rules) c.requires.1 (refl) (rw (c.from-in-Recv.ensures, c.from-in-Recv-2.ensures) at c.recv-answered.ensures) in
    record { by_index = λ b. rw c.in-Recv.is (c.made-in-Recv.ensures b _ (step_on p a) d.0 d.1); area_after = d.2 }

pub returns-in-Start : goal.returns-in-Start
returns-in-Start c =
    let p = start c.in-Start.station in
    let a = c.args.area.now in
    let d = step_told p a _ _ (search rules) c.requires.1 (refl) (rw (c.from-in-Start.ensures) at c.start-answered.ensures) in
    record { by_index = λ b. rw c.in-Start.is (c.made-in-Start.ensures b _ (step_on p a) d.0 d.1); area_after = d.2 }
