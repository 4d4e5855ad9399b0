use Rattle.area_edit.proofs.controls.put_control.Goals as goal

pub put_all-requires : goal.put_all-requires
put_all-requires c = (c.requires.0, rw c.in-Some.is at c.requires.1)

pub returns-in-Some : goal.returns-in-Some
returns-in-Some c = λ d s r p. rw c.in-Some.is (c.put_all.ensures d s r p)

pub returns-in_default : goal.returns-in_default
returns-in_default c = λ d s r p. rw c.in_default.is p
