use Rattle.pinned_version.proofs.BookLaws.{found_in}
use Rattle.pinned_version.proofs.laws.books_tell_all_items.Goals as goal

pub returns : goal.returns
returns c = found_in
