use Rattle.std.proofs.Common.{◌≡◌, ◌∙◌, ◌<◌, ◌≤◌, ◌∷◌, ◌++◌, [], List, ℕ, ap, arith, length, refl, set}
use Rattle.std.proofs.lemmas.List.{length-map}
use Rattle.leaf_items.specs.Items.{ItemsValue}
use Rattle.leaf_items.specs.Lists.{ListValue, list_at}
use Rattle.leaf_items.proofs.ListLaws.{births_set, known_is, lists_same, value_same, want_step, wanted_few}
use Rattle.leaf_items.proofs.items.LeafItems.want.Goals as goal

pub want-requires : goal.want-requires
want-requires c =
    let lists : List ListValue = c.self.inside.lists.items in
    let low : c.args.list < length lists =
    omega (arith, c.requires, ap (λ (v : ItemsValue). length v.born) c.self.view_is, length-map lists (λ (v : ListValue). v.born)) in
    let few : c.index_mut-known.result.now.wanted ≤ length c.self.inside.ready.items =
    wanted_few c.self.inside.leaf.items c.self.inside.ready.items lists c.args.list c.index_mut-known.result.now low
    (known_is lists c.args.list c.index_mut-known.result.now low c.index_mut-known.ensures.value) c.self.invariant.lists in
    omega (arith, few, c.self.inside.ready.ok.0, c.if-len-count.false)

pub invariant_of-self-2 : goal.invariant_of-self-2
invariant_of-self-2 c =
    let lists : List ListValue = c.self.inside.lists.items in
    let low : c.args.list < length lists =
    omega (arith, c.requires, ap (λ (v : ItemsValue). length v.born) c.self.view_is, length-map lists (λ (v : ListValue). v.born)) in
    let known : c.index_mut-known.result.now ≡ list_at lists c.args.list =
    known_is lists c.args.list c.index_mut-known.result.now low c.index_mut-known.ensures.value in
    let next : List ListValue = set lists c.args.list c.want.new.self in
    let ready : List ℕ = c.self.inside.ready.items ++ c.args.list ∷ [] in
    record {
      lists = lists_same c.self.inside.leaf.items c.reserve.new.self.items ready c.push.new.self.items next next
          c.in_ok-reserve.ensures.items (c.in_ok-push.ensures.items ∙ ap (λ (s : List ℕ). s ++ c.args.list ∷ []) c.in_ok-reserve-2.ensures.items) refl
          (want_step c.self.inside.leaf.items c.self.inside.ready.items lists c.args.list c.index_mut-known.result.now c.want.new.self low known
          c.self.invariant.lists c.in_ok-want.ensures.ok);
      leaf_room = omega (arith, c.in_ok-reserve.ensures.ok, c.in_ok-reserve.ensures.len, c.in_ok-push.ensures.len, c.in_ok-reserve-2.ensures.len);
      few_items = omega (arith, c.in_ok-reserve.ensures.len, c.in_ok-push.ensures.len, c.in_ok-reserve-2.ensures.len, c.if-len-count.false);
      list_room = c.self.invariant.list_room;
      few_lists = c.self.invariant.few_lists;
    }

pub returns-clause-ok : goal.returns-clause-ok
returns-clause-ok c =
    let lists : List ListValue = c.self.inside.lists.items in
    let low : c.args.list < length lists =
    omega (arith, c.requires, ap (λ (v : ItemsValue). length v.born) c.self.view_is, length-map lists (λ (v : ListValue). v.born)) in
    let known : c.index_mut-known.result.now ≡ list_at lists c.args.list =
    known_is lists c.args.list c.index_mut-known.result.now low c.index_mut-known.ensures.value in
    value_same _ _ _ _ _ _ _ _
    (c.in_ok-reserve.ensures.items ∙ ap (λ (v : ItemsValue). v.leaf) c.self.view_is)
    (births_set lists c.args.list c.want.new.self low (ap (λ (v : ListValue). v.born) c.in_ok-want.ensures.ok ∙ ap (λ (v : ListValue). v.born) known)
    ∙ ap (λ (v : ItemsValue). v.born) c.self.view_is)
    (c.in_ok-push.ensures.items
    ∙ ap (λ (s : List ℕ). s ++ c.args.list ∷ []) (c.in_ok-reserve-2.ensures.items ∙ ap (λ (v : ItemsValue). v.ready) c.self.view_is))
    (ap (λ (v : ItemsValue). v.rooms) c.self.view_is)
