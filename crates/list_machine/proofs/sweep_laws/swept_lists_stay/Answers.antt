-- A marked slot is not filed into, and past the marks there are no places to claim.
use Rattle.list_machine.proofs.Lists.{at_same}
use Rattle.list_machine.proofs.DoneSweeps.{done_stays}
use Rattle.list_machine.proofs.sweep_laws.swept_lists_stay.Goals as goal

pub returns : goal.returns
returns c = record {
  list = λ s t l p f m a e sound run leaf shut all at up. at_same t.owner.book.leaves l e a at (done_stays s t l p f m a e sound run leaf shut all at up).0;
  slots = λ s t l c k p f m r y a e sound run leaf shut all at up. (done_stays s t l p f m a e sound run leaf shut all at up).1 y r c k;
}
