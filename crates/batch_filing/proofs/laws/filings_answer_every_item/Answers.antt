use Rattle.batch_filing.proofs.laws.filings_answer_every_item.Goals as goal
-- src/laws.rt:11:1
use Rattle.batch_filing.proofs.Filed.{answer_of_each}

pub returns : goal.returns
returns c = λ first k lists filer all within. answer_of_each first k lists filer all within
