use Rattle.std.proofs.Common.{rules}
use Rattle.listing_lines.proofs.AnswerLaws.{lead-put}
use Rattle.listing_lines.proofs.term.Variables.put_lead.Goals as goal

pub returns : goal.returns
returns c = lead-put c.args.self.order c.args.self.n c.args.f.words.now c.args.f.coefs.now c.args.f.same_long (search rules) (search rules) c.put-from.ensures c.put_place-end.ensures c.put_byte.ensures
