use Rattle.std.proofs.Common.{◌≡◌, ◌∙◌, ◌+◌, ◌<◌, ◌∷◌, ◌++◌, [], List, ℕ, ap, append_assoc, arith, drop, get_or, length, refl, set, sym, take}
use Rattle.std.proofs.lemmas.List.{drop_more, take_more}
use Rattle.leaf_items.specs.Kept.{AreLists}
use Rattle.leaf_items.specs.Lists.{ListValue, appended, list_at}
use Rattle.leaf_items.proofs.ListLaws.{admit_step, births_set, known_is, lists_same, next_low, wanted_next}
use Rattle.leaf_items.proofs.lists.admit_all.Goals as goal

pub append-requires : goal.append-requires
append-requires c =
    let k : ℕ = c.loop-list.list-index in
    let ready : List ℕ = c.args.ready.now in
    let at : ℕ = get_or ready k 0 in
    let lists : List ListValue = c.loop-list.lists.items in
    let are : AreLists c.loop-list.leaf.items (at ∷ drop (k + 1) ready) lists =
    lists_same c.loop-list.leaf.items c.loop-list.leaf.items (drop k ready) (at ∷ drop (k + 1) ready) lists lists refl
    (sym (drop_more ready k 0 c.loop-list-test.true)) refl c.loop-list.invariant.lists in
    let low : at < length lists = next_low c.loop-list.leaf.items (drop (k + 1) ready) lists at are in
    wanted_next c.loop-list.leaf.items (drop (k + 1) ready) lists at c.index_mut-known.result.now c.index_mut-known.result.now low
    (known_is lists at c.index_mut-known.result.now low c.index_mut-known.ensures.value) are

pub loop-list-preserved : goal.loop-list-preserved
loop-list-preserved c =
    let k : ℕ = c.loop-list.list-index in
    let ready : List ℕ = c.args.ready.now in
    let at : ℕ = get_or ready k 0 in
    let leaf : List ℕ = c.loop-list.leaf.items in
    let lists : List ListValue = c.loop-list.lists.items in
    let are : AreLists leaf (at ∷ drop (k + 1) ready) lists =
    lists_same leaf leaf (drop k ready) (at ∷ drop (k + 1) ready) lists lists refl
    (sym (drop_more ready k 0 c.loop-list-test.true)) refl c.loop-list.invariant.lists in
    let low : at < length lists = next_low leaf (drop (k + 1) ready) lists at are in
    let known : c.index_mut-known.result.now ≡ list_at lists at = known_is lists at c.index_mut-known.result.now low c.index_mut-known.ensures.value in
    let number : c.len-item.result ≡ length leaf = omega (arith, c.len-item.ensures, c.loop-list.leaf.ok.0) in
    let new : c.append.new.self ≡ appended c.index_mut-known.result.now (length leaf) = c.append.ensures ∙ ap (appended c.index_mut-known.result.now) number in
    record {
      lists = lists_same (leaf ++ at ∷ []) c.push_within.new.values.items (drop (k + 1) ready) (drop (k + 1) ready) (set lists at c.append.new.self)
          (set lists at c.append.new.self)
          c.push_within.ensures.items refl refl
          (admit_step leaf (drop (k + 1) ready) lists at c.index_mut-known.result.now c.append.new.self low known are new);
      leaf = c.push_within.ensures.items ∙ ap (λ (s : List ℕ). s ++ at ∷ []) c.loop-list.invariant.leaf
          ∙ append_assoc c.args.leaf.now.items (take k ready) (at ∷ [])
          ∙ ap (λ (s : List ℕ). c.args.leaf.now.items ++ s) (sym (take_more ready k 0 c.loop-list-test.true));
      births = births_set lists at c.append.new.self low (ap (λ (v : ListValue). v.born) new ∙ ap (λ (v : ListValue). v.born) known)
          ∙ c.loop-list.invariant.births;
      leaf_len = omega (arith, c.push_within.ensures.len, c.loop-list.invariant.leaf_len);
      leaf_room = omega (arith, c.push_within.ensures.capacity, c.loop-list.invariant.leaf_room);
      len = c.loop-list.invariant.len;
      capacity = c.loop-list.invariant.capacity;
    }
