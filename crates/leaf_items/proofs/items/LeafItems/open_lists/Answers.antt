use Rattle.std.proofs.Common.{◌≡◌, ◌∙◌, ◌<◌, ◌++◌, [], List, ℕ, ap, arith, length, map, refl, set, sym, vec_items}
use Rattle.std.proofs.lemmas.List.{length-map}
use Rattle.leaf_items.specs.Items.{ItemsValue, items_from}
use Rattle.leaf_items.specs.Kept.{AreLists, births}
use Rattle.leaf_items.specs.Lists.{ListValue, list_at, opened_lists}
use Rattle.leaf_items.specs.Openings.{ArePicked, PartsValue, moved}
use Rattle.leaf_items.proofs.ListLaws.{known_is, lists_same, value_same}
use Rattle.leaf_items.proofs.OpenLaws.{births_opened, emptied, grown_same, lists_opened, moved_same, picked_inside}
use Rattle.leaf_items.proofs.items.LeafItems.open_lists.Goals as goal

pub invariant_of-self : goal.invariant_of-self
invariant_of-self c =
    let leaf : List ℕ = c.self.inside.leaf.items in
    let lists : List ListValue = c.self.inside.lists.items in
    let list : ℕ = c.parts.inside.list in
    let aims : List ℕ = c.parts.inside.aims.items in
    let parts : List (List ℕ) = map vec_items c.parts.inside.parts.items in
    let leaf_is : leaf ≡ c.args.self.now.leaf = ap (λ (v : ItemsValue). v.leaf) (c.self.view_is ∙ c.release.ensures) in
    let born_is : births lists ≡ c.args.self.now.born = ap (λ (v : ItemsValue). v.born) (c.self.view_is ∙ c.release.ensures) in
    let ready_is : c.self.inside.ready.items ≡ [] = ap (λ (v : ItemsValue). v.ready) (c.self.view_is ∙ c.release.ensures) in
    let rooms_is : c.self.inside.rooms ≡ c.args.self.now.rooms = ap (λ (v : ItemsValue). v.rooms) (c.self.view_is ∙ c.release.ensures) in
    let list_is : list ≡ c.args.parts.list = ap (λ (v : PartsValue). v.list) c.parts.view_is in
    let many : length parts ≡ length c.args.parts.parts = ap (λ (v : PartsValue). length v.parts) c.parts.view_is in
    let dealt : ArePicked (items_from 0 leaf list) aims parts =
    picked_inside c.args.self.now c.args.parts leaf list aims parts leaf_is list_is (ap (λ (v : PartsValue). v.aims) c.parts.view_is)
    (ap (λ (v : PartsValue). v.parts) c.parts.view_is) c.requires.dealt in
    let low : list < length lists = omega (arith, c.requires.dealt.opened, list_is, ap length born_is, length-map lists (λ (v : ListValue). v.born)) in
    let known : c.index_mut-known.result.now ≡ list_at lists list = known_is lists list c.index_mut-known.result.now low c.index_mut-known.ensures.value in
    let first_is : c.len-first.result ≡ length lists = omega (arith, c.len-first.ensures, c.self.inside.lists.ok.0) in
    let number : c.len-born.result ≡ length leaf = omega (arith, c.len-born.ensures, c.self.inside.leaf.ok.0) in
    let now : c.open_all.new.lists.items ≡ set lists list (emptied (list_at lists list)) ++ opened_lists (length leaf) parts =
    c.open_all.ensures.lists ∙ ap (λ (v : ListValue). set lists list v ++ opened_lists c.len-born.result parts) (c.empty.ensures ∙ ap emptied known)
    ∙ ap (λ (n : ℕ). set lists list (emptied (list_at lists list)) ++ opened_lists n parts) number in
    let moved_is : c.move_items.new.leaf.items ≡ moved (length lists) list leaf aims =
    c.move_items.ensures.leaf
    ∙ moved_same c.len-first.result (length lists) list list leaf leaf c.deref.result.now aims first_is refl refl c.deref.ensures.value in
    let are : AreLists leaf [] lists = lists_same leaf leaf c.self.inside.ready.items [] lists lists refl (sym ready_is) refl c.self.invariant.lists in
    let short : length parts ≡ length c.parts.inside.parts.items = length-map c.parts.inside.parts.items vec_items in
    record {
      lists = lists_same (moved (length lists) list leaf aims) c.move_items.new.leaf.items [] c.self.inside.ready.items
          (set lists list (emptied (list_at lists list)) ++ opened_lists (length leaf) parts) c.open_all.new.lists.items
          moved_is ready_is now (lists_opened leaf aims lists list parts low are dealt);
      leaf_room = omega (arith, c.self.invariant.leaf_room, c.move_items.ensures.len, c.move_items.ensures.capacity);
      few_items = omega (arith, c.self.invariant.few_items, c.move_items.ensures.len);
      list_room = omega (
        arith,
        c.self.invariant.list_room,
        c.open_all.ensures.len,
        c.open_all.ensures.capacity,
        c.len.ensures,
        c.requires.rooms,
        rooms_is,
        many,
        short,
        c.parts.inside.parts.ok.0,
      );
      few_lists = omega
          (arith, c.self.invariant.few_lists, c.open_all.ensures.len, c.len.ensures, c.requires.rooms, rooms_is, many, short, c.parts.inside.parts.ok.0);
    }

pub returns : goal.returns
returns c =
    let leaf : List ℕ = c.self.inside.leaf.items in
    let lists : List ListValue = c.self.inside.lists.items in
    let list : ℕ = c.parts.inside.list in
    let parts : List (List ℕ) = map vec_items c.parts.inside.parts.items in
    let leaf_is : leaf ≡ c.args.self.now.leaf = ap (λ (v : ItemsValue). v.leaf) (c.self.view_is ∙ c.release.ensures) in
    let born_is : births lists ≡ c.args.self.now.born = ap (λ (v : ItemsValue). v.born) (c.self.view_is ∙ c.release.ensures) in
    let ready_is : c.self.inside.ready.items ≡ [] = ap (λ (v : ItemsValue). v.ready) (c.self.view_is ∙ c.release.ensures) in
    let rooms_is : c.self.inside.rooms ≡ c.args.self.now.rooms = ap (λ (v : ItemsValue). v.rooms) (c.self.view_is ∙ c.release.ensures) in
    let list_is : list ≡ c.args.parts.list = ap (λ (v : PartsValue). v.list) c.parts.view_is in
    let many : length parts ≡ length c.args.parts.parts = ap (λ (v : PartsValue). length v.parts) c.parts.view_is in
    let low : list < length lists = omega (arith, c.requires.dealt.opened, list_is, ap length born_is, length-map lists (λ (v : ListValue). v.born)) in
    let known : c.index_mut-known.result.now ≡ list_at lists list = known_is lists list c.index_mut-known.result.now low c.index_mut-known.ensures.value in
    let first_is : c.len-first.result ≡ length c.args.self.now.born =
    omega (arith, c.len-first.ensures, c.self.inside.lists.ok.0, ap length born_is, length-map lists (λ (v : ListValue). v.born)) in
    let number : c.len-born.result ≡ length leaf = omega (arith, c.len-born.ensures, c.self.inside.leaf.ok.0) in
    let now : c.open_all.new.lists.items ≡ set lists list (emptied (list_at lists list)) ++ opened_lists (length leaf) parts =
    c.open_all.ensures.lists ∙ ap (λ (v : ListValue). set lists list v ++ opened_lists c.len-born.result parts) (c.empty.ensures ∙ ap emptied known)
    ∙ ap (λ (n : ℕ). set lists list (emptied (list_at lists list)) ++ opened_lists n parts) number in
    let short : length parts ≡ length c.parts.inside.parts.items = length-map c.parts.inside.parts.items vec_items in
    value_same _ _ _ _ _ _ _ _
    (c.move_items.ensures.leaf
    ∙ moved_same c.len-first.result (length c.args.self.now.born) list c.args.parts.list leaf c.args.self.now.leaf c.deref.result.now c.args.parts.aims
    first_is list_is leaf_is (c.deref.ensures.value ∙ ap (λ (v : PartsValue). v.aims) c.parts.view_is))
    (ap births now ∙ births_opened lists list (length leaf) parts low
    ∙ grown_same (births lists) c.args.self.now.born (length parts) (length c.args.parts.parts) (length leaf) (length c.args.self.now.leaf) born_is many
    (ap length leaf_is))
    ready_is
    (omega (arith, rooms_is, c.len.ensures, many, short, c.parts.inside.parts.ok.0))
