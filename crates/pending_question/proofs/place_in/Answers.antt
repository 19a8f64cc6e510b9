use Rattle.pending_question.proofs.place_in.Goals as goal

pub returns : goal.returns
returns c = rw c.if-same.false c.first_statement.ensures
