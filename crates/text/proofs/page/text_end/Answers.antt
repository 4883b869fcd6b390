use Rattle.text.proofs.Paging.{or_its_end}
use Rattle.text.proofs.page.text_end.Goals as goal

pub returns : goal.returns
returns c = rw (c.unwrap_or.ensures, c.first_zero.ensures) (or_its_end c.args.page.now)
