use Rattle.std.proofs.Common.{◌≡◌, ◌∙◌, ◌<◌, ap, arith, length, List}
use Rattle.std.proofs.lemmas.List.{length-map}
use Rattle.leaf_items.specs.Items.{ItemsValue, items_from}
use Rattle.leaf_items.specs.Lists.{ListValue, list_at}
use Rattle.leaf_items.proofs.ItemLaws.{items_few}
use Rattle.leaf_items.proofs.ListLaws.{known_is}
use Rattle.leaf_items.proofs.items.LeafItems.items.Goals as goal

pub returns-clause-few : goal.returns-clause-few
returns-clause-few c =
    let lists : List ListValue = c.self.inside.lists.items in
    let low : c.args.list < length lists =
    omega (arith, c.requires, ap (λ (v : ItemsValue). length v.born) c.self.view_is, length-map lists (λ (v : ListValue). v.born)) in
    let known : c.index.result.now ≡ list_at lists c.args.list = known_is lists c.args.list c.index.result.now low c.index.ensures in
    let have : c.items.result.now ≡ items_from 0 c.self.inside.leaf.items c.args.list =
    c.items.ensures ∙ ap (λ (v : ListValue). v.items) known ∙ c.self.invariant.lists.have c.args.list low in
    omega (arith, ap length have, items_few 0 c.self.inside.leaf.items c.args.list, c.self.invariant.few_items, c.self.inside.leaf.ok.0)
