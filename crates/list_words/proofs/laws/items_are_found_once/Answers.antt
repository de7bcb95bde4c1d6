use Rattle.list_words.specs.Store.{row}
use Rattle.list_words.proofs.MarkLaws.{found_once}
use Rattle.list_words.proofs.laws.items_are_found_once.Goals as goal

pub returns : goal.returns
returns g c l i j x marks alone at also = found_once (g.L.LeafLists.shown c.args.lists.now l) (g.L.LeafLists.claims c.args.lists.now l) (row (g.L.LeafLists.store c.args.lists.now) l) x
    (λ n m d one other. (c.slots_agree.ensures.once l l n m d one other).1) marks alone i j at also
