use Rattle.asking.proofs.Answering.{askable, ask_ran}
use Rattle.calls.proofs.ask.Goals as goal

pub answer-requires : goal.answer-requires
answer-requires c = askable c.run-done.new.tables c.run-done.result c.run-done.ensures.rules c.run-done.ensures.stands

pub returns : goal.returns
returns c = ask_ran _ _ _ _ c.run-done.new.tables _ _ c.count_of-n.ensures c.run-done.result c.run-done.ensures.rules c.run-done.ensures.stands c.answer.ensures
