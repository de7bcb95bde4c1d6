-- The rule says which slots are marked.
use Rattle.list_machine.proofs.Sweeps.{is_marked, is_unmarked, past_is_blank, blank_is_ahead}
use Rattle.list_machine.proofs.sweep_laws.first_places_are_marked.Goals as goal

pub returns : goal.returns
returns c = record {
  marked = λ s l c k p f m r y a sound leaf shut. is_marked s sound l p f m a leaf shut y r c k;
  unmarked = λ s l c k p f m r y a sound leaf shut. is_unmarked s sound l p f m a leaf shut y r c k;
  past = λ s l c k p f m r a sound leaf shut. past_is_blank s sound l p f m a leaf shut r c k;
  blank = λ s l c k p f m r y a sound leaf shut. blank_is_ahead s sound l p f m a leaf shut y r c k;
}
