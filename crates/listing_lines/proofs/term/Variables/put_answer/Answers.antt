-- `listing_lines::term::Variables::put_answer` meets its contract, operation by operation.
use Rattle.std.proofs.Common.{rules}
use Rattle.listing_lines.proofs.AnswerLaws.{lead-answer, sum-answer}
use Rattle.listing_lines.proofs.term.Variables.put_answer.Goals as goal

pub returns-in-Lead : goal.returns-in-Lead
returns-in-Lead c = lead-answer c.in-Lead.is c.args.f.same_long c.put_lead-end.ensures _ (search rules)

pub returns-in-Sum : goal.returns-in-Sum
returns-in-Sum c = sum-answer c.in-Sum.is c.args.f.same_long c.put_sum-s.ensures _ (search rules)
