use Rattle.std.proofs.Common.{◌≡◌, ℕ, List, [], ◌∷◌, ◌++◌, length, ap, sym, subst, ◌∙◌, arith}
use Rattle.std.specs.Prelude.{replicate}
use Rattle.std.specs.FinSet as set_of
use Rattle.std.proofs.lemmas.List.{length-replicate}
use Rattle.chunk_pool.specs.Numbers.{Numbers, all_free}
use Rattle.chunk_pool.proofs.HeapLaws.{len_all_below}
use Rattle.list_words.specs.PlainRows.{PlainList, no_list}
use Rattle.list_words.specs.Plain.{Plain}
use Rattle.list_words.specs.PlainKept.{AreHomed, AreOrdered, AreSummed}
use Rattle.list_words.proofs.FreshLaws.{homed-fresh, ordered-fresh, summed-fresh}
use Rattle.list_words.proofs.plain_lists.PlainLists.new.Goals as goal

pub invariant_of-result : goal.invariant_of-result
invariant_of-result c =
    let size : c.in_ok-pool.pool.size ≡ length c.in_ok-homes.homes.items = ap (λ (p : Numbers). p.size) c.in_ok-pool.ensures ∙ omega (arith, c.in_ok-homes.ensures.len, c.in_ok-homes.homes.ok.0) in
    let long : length c.in_ok-rows.rows.items ≡ c.args.lists = ap length c.in_ok-rows.ensures ∙ length-replicate c.args.lists no_list in
    let out : c.push_within.new.values.items ≡ 0 ∷ [] = c.push_within.ensures.items ∙ ap (λ (xs : List ℕ). xs ++ 0 ∷ []) c.in_ok-out.ensures.items in
    let none : length c.in_ok-order.order.items ≡ 0 = ap length c.in_ok-order.ensures.items in
    record {
      homed = subst (λ (ls : List PlainList). AreHomed ls c.in_ok-homes.homes.items c.in_ok-pool.pool) (sym c.in_ok-rows.ensures)
          (subst (λ (p : Numbers). AreHomed (replicate c.args.lists no_list) c.in_ok-homes.homes.items p) (sym c.in_ok-pool.ensures)
          (homed-fresh c.args.lists c.args.chunks c.in_ok-homes.homes.items (ap (λ (p : Numbers). p.size) (sym c.in_ok-pool.ensures) ∙ size)));
      summed = subst (λ (ls : List PlainList). AreSummed ls c.in_ok-pool.pool 0 (length c.in_ok-order.order.items)) (sym c.in_ok-rows.ensures)
          (subst (λ (p : Numbers). AreSummed (replicate c.args.lists no_list) p 0 (length c.in_ok-order.order.items)) (sym c.in_ok-pool.ensures)
          (subst (λ n. AreSummed (replicate c.args.lists no_list) (all_free c.args.chunks) 0 n) (sym none) (summed-fresh c.args.lists c.args.chunks)));
      ordered = subst (λ (xs : List ℕ). AreOrdered c.in_ok-rows.rows.items xs 0 c.push_within.new.values.items 0) (sym c.in_ok-order.ensures.items)
          (subst (λ (xs : List ℕ). AreOrdered c.in_ok-rows.rows.items [] 0 xs 0) (sym out) (ordered-fresh c.in_ok-rows.rows.items));
      order_room = omega (arith, long, c.in_ok-rows.rows.ok.0, c.in_ok-order.ensures.capacity);
      out_room = omega (arith, long, c.in_ok-rows.rows.ok.0, c.in_ok-out.ensures.capacity, c.push_within.ensures.capacity);
      grants_room = omega arith;
      items_room = omega arith;
      no_grants = c.new-2.ensures.items;
      no_answers = c.new-3.ensures.items;
      few_lists = omega (arith, long, c.in_ok-rows.rows.ok.0, c.requires.lists);
      few_chunks = let chunks : c.in_ok-pool.pool.size ≡ c.args.chunks = ap (λ (p : Numbers). p.size) c.in_ok-pool.ensures in omega (arith, c.requires.chunks);
      few_given = omega arith;
    }

plain_with : List PlainList → Numbers → List ℕ → List ℕ → Plain
plain_with lists p order out = record { lists = lists; chunks = p.size; free = set_of.len p.free; order = order; cleared = 0; out = out; grants_room = 0; items_room = 0; given = 0 }

pub returns : goal.returns
unfolding plain_with
returns c =
    let out : c.push_within.new.values.items ≡ 0 ∷ [] = c.push_within.ensures.items ∙ ap (λ (xs : List ℕ). xs ++ 0 ∷ []) c.in_ok-out.ensures.items in
    ap (λ (ls : List PlainList). plain_with ls c.in_ok-pool.pool c.in_ok-order.order.items c.push_within.new.values.items) c.in_ok-rows.ensures
    ∙ ap (λ (p : Numbers). plain_with (replicate c.args.lists no_list) p c.in_ok-order.order.items c.push_within.new.values.items) c.in_ok-pool.ensures
    ∙ ap (λ (xs : List ℕ). plain_with (replicate c.args.lists no_list) (all_free c.args.chunks) xs c.push_within.new.values.items) c.in_ok-order.ensures.items
    ∙ ap (λ (xs : List ℕ). plain_with (replicate c.args.lists no_list) (all_free c.args.chunks) [] xs) out
    ∙ ap (λ n. let q : Plain = record { lists = replicate c.args.lists no_list; chunks = c.args.chunks; free = n; order = []; cleared = 0; out = 0 ∷ []; grants_room = 0; items_room = 0; given = 0 } in q) (len_all_below c.args.chunks)
