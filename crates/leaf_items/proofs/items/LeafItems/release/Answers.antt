use Rattle.std.proofs.Common.{◌≡◌, ◌∙◌, ◌<◌, ◌∷◌, ◌++◌, [], List, ℕ, ap, append-nil, arith, length, refl, sym}
use Rattle.leaf_items.specs.Kept.{AreLists}
use Rattle.leaf_items.specs.Lists.{ListValue, list_at}
use Rattle.leaf_items.proofs.ListLaws.{births_set, known_is, last_low, lists_same, unwant_step, wanted_once}
use Rattle.leaf_items.proofs.items.LeafItems.release.Goals as goal

pub index_mut-known-requires : goal.index_mut-known-requires
index_mut-known-requires c =
    let lists : List ListValue = c.loop-list.self-inside.lists.items in
    let leaf : List ℕ = c.loop-list.self-inside.leaf.items in
    let are : AreLists leaf (c.pop.new.self.items ++ c.in-Some.list ∷ []) lists =
    lists_same leaf leaf _ _ lists lists refl (sym c.in-Some.ensures.items) refl c.loop-list.invariant.kept.lists in
    omega (arith, last_low leaf c.pop.new.self.items lists c.in-Some.list are, c.loop-list.self-inside.lists.ok.0)

pub unwant-requires : goal.unwant-requires
unwant-requires c =
    let lists : List ListValue = c.loop-list.self-inside.lists.items in
    let leaf : List ℕ = c.loop-list.self-inside.leaf.items in
    let are : AreLists leaf (c.pop.new.self.items ++ c.in-Some.list ∷ []) lists =
    lists_same leaf leaf _ _ lists lists refl (sym c.in-Some.ensures.items) refl c.loop-list.invariant.kept.lists in
    let low : c.in-Some.list < length lists = last_low leaf c.pop.new.self.items lists c.in-Some.list are in
    wanted_once leaf c.pop.new.self.items lists c.in-Some.list c.index_mut-known.result.now c.index_mut-known.result.now low
    (known_is lists c.in-Some.list c.index_mut-known.result.now low c.index_mut-known.ensures.value) are

pub loop-list-preserved : goal.loop-list-preserved
loop-list-preserved c =
    let lists : List ListValue = c.loop-list.self-inside.lists.items in
    let leaf : List ℕ = c.loop-list.self-inside.leaf.items in
    let are : AreLists leaf (c.pop.new.self.items ++ c.in-Some.list ∷ []) lists =
    lists_same leaf leaf _ _ lists lists refl (sym c.in-Some.ensures.items) refl c.loop-list.invariant.kept.lists in
    let low : c.in-Some.list < length lists = last_low leaf c.pop.new.self.items lists c.in-Some.list are in
    let known : c.index_mut-known.result.now ≡ list_at lists c.in-Some.list =
    known_is lists c.in-Some.list c.index_mut-known.result.now low c.index_mut-known.ensures.value in
    record {
      kept = record {
        lists = unwant_step leaf c.pop.new.self.items lists c.in-Some.list c.index_mut-known.result.now c.unwant.new.self low known are c.unwant.ensures;
        leaf_room = omega (arith, c.loop-list.invariant.kept.leaf_room, c.in-Some.ensures.len);
        few_items = omega (arith, c.loop-list.invariant.kept.few_items, c.in-Some.ensures.len);
        list_room = c.loop-list.invariant.kept.list_room;
        few_lists = c.loop-list.invariant.kept.few_lists;
      };
      leaf = c.loop-list.invariant.leaf;
      born = births_set lists c.in-Some.list c.unwant.new.self low (ap (λ (v : ListValue). v.born) c.unwant.ensures ∙ ap (λ (v : ListValue). v.born) known)
          ∙ c.loop-list.invariant.born;
      rooms = c.loop-list.invariant.rooms;
    }

pub invariant_of-self : goal.invariant_of-self
invariant_of-self c =
    let lists : List ListValue = c.loop-list.self-inside.lists.items in
    let leaf : List ℕ = c.loop-list.self-inside.leaf.items in
    record {
      lists = lists_same leaf leaf c.loop-list.self-inside.ready.items c.pop.new.self.items lists lists refl
          (sym (c.in_default.ensures.items ∙ append-nil c.pop.new.self.items)) refl c.loop-list.invariant.kept.lists;
      leaf_room = omega (arith, c.loop-list.invariant.kept.leaf_room, c.in_default.ensures.len);
      few_items = omega (arith, c.loop-list.invariant.kept.few_items, c.in_default.ensures.len);
      list_room = c.loop-list.invariant.kept.list_room;
      few_lists = c.loop-list.invariant.kept.few_lists;
    }
