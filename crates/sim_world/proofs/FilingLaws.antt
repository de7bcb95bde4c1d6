-- The steps of a filing are steps of the machine.
use Rattle.std.proofs.Common.{◌≡◌, ℕ, zero, suc, ◌+◌, ◌*◌, ◌/◌, ◌%◌, ◌<◌, ◌≤◌, inl, inr, Bool, true, false, cond, List, ◌∷◌, length, refl, sym, ap, ◌∙◌, subst, arith}
use Rattle.std.specs.Prelude.{◌==◌, nat_lt, slice_index}
use Rattle.std.proofs.lemmas.Bool.Decides.{nat_tests}
use Rattle.cube_math.specs.Batches.{BatchValue}
use Rattle.list_machine.specs.Words.{link_to}
use Rattle.list_machine.specs.State.{link_at}
use Rattle.list_machine.specs.Facts.{IsAt}
use Rattle.list_machine.specs.Machine.{IsSound, Run}
use Rattle.list_machine.specs.Steps.{KnowsChunk, KnowsLink, nobody}
use Rattle.list_machine.specs.declared.views.Unfiled.{Unfiled}
use Rattle.list_machine.specs.declared.views.Unfiled.TheVariants.{Nothing, Place}
use Rattle.list_machine.specs.declared.views.Guest.{Guest}
use Rattle.list_machine.proofs.Lists.{some_at, index_is, or_is}
use Rattle.list_machine.proofs.Knowledge.{claim_has_chunk}
use Rattle.list_machine.proofs.Moves.{claim_run, file_run, read_run}
use Rattle.list_machine.specs.Moves.{guest_in, last_link, link_behind}
use Rattle.sim_world.specs.FilingRules.{tasks_in, IsClaimOf, unclaimed, IsFiling}
use Rattle.sim_world.specs.Filings.{claimed_step, linked_chunk, task_step, walk_of}
use Rattle.sim_world.specs.Worlds.{Filing, Task, World}

-- the chunk that a link of the machine leads to
chunk_of_link : (q c : ℕ) → c + 1 < 4294967296 → linked_chunk (link_to q c) ≡ c
chunk_of_link q c small = omega arith

-- the way on from what is known of a chain
knows_last : (g : Guest) (l i : ℕ) (known : List ℕ) → g.claim ≡ Place l i → ((r c : ℕ) → IsAt known r c → KnowsChunk g l r c)
    → KnowsLink g l (last_link known) (length known)
knows_last g l i known claim chunks = by (length known) refl where
  by : (n : ℕ) → length known ≡ n → KnowsLink g l (link_behind known n) n
  by zero e = (inr (inl (i, claim)), refl)
  by (suc r) e = let d = some_at known r (omega arith) in (r, refl, subst (λ (z : ℕ). KnowsChunk g l r z) (sym (index_is known r d.0 d.1)) (chunks r d.0 d.1))

-- the next step of a filing is one of the machine
module _ (w : World) (a : ℕ) (bs : List BatchValue) (f : Filing) (sound : IsSound w.lists) (is : IsFiling w.lists.guests f) where
  claimed_legal : (x l i : ℕ) (ts : List Task) → is.guest.claim ≡ Place l i → (b : Bool) → nat_lt (i / 256) (length (walk_of f.walks l)) ≡ b
      → Run w.lists (claimed_step b w a bs f x l ts i).lists
  claimed_legal x l i ts claim true e =
      let known : List ℕ = walk_of f.walks l in
      let low : i / 256 < length known = grind (arith, nat_tests) in
      let d = some_at known (i / 256) low in
      let c : slice_index known (i / 256) ≡ d.0 = index_is known (i / 256) d.0 d.1 in
      let place : i ≡ 256 * (i / 256) + i % 256 = omega arith in
      file_run w.lists f.seat l (i / 256) (slice_index known (i / 256)) (i % 256) x is.guest is.here (claim ∙ ap (Place l) place) (omega arith)
      (subst (λ (z : ℕ). KnowsChunk is.guest l (i / 256) z) (sym c) (is.walks l (i / 256) d.0 d.1))
  claimed_legal x l i ts claim false e =
      let known : List ℕ = walk_of f.walks l in
      let high : length known ≤ i / 256 = grind (arith, nat_tests) in
      let knows = knows_last is.guest l i known claim (is.walks l) in
      let t =
      claim_has_chunk w.lists.words w.lists.owner w.lists.guests sound f.seat l i (length known) (last_link known) is.guest is.here claim knows
      (omega arith) in
      let d : linked_chunk (link_at w.lists.words l (last_link known)) ≡ t.0 = ap linked_chunk t.2 ∙ chunk_of_link (length known) t.0 t.1 in
      read_run w.lists f.seat l (length known) (linked_chunk (link_at w.lists.words l (last_link known))) (last_link known) is.guest is.here is.out knows
      (t.2 ∙ ap (link_to (length known)) (sym d))

  pub task_legal : (t : Task) (ts : List Task) (c : Unfiled) → f.todo ≡ t ∷ ts → is.guest.claim ≡ c → Run w.lists (task_step w a bs f t.item t.list ts c).lists
  task_legal t ts Nothing todo claim =
      let enough = is.grants t.list in
      let one : tasks_in t.list (unclaimed f.todo is.guest.claim) ≡ 1 + tasks_in t.list ts =
      ap (λ (z : List Task × Unfiled). tasks_in t.list (unclaimed z.0 z.1)) (λ i. (todo i, claim i))
      ∙ ap (λ b. cond b 1 0 + tasks_in t.list ts) (same_list t.list) in
      claim_run w.lists f.seat t.list is.guest is.here claim (omega arith) where
        same_list : (l : ℕ) → (l == l) ≡ true
        same_list l = grind (arith, nat_tests)
  task_legal t ts (Place h i) todo claim =
      let mine : IsClaimOf (t ∷ ts) (Place h i) = subst (λ (z : List Task × Unfiled). IsClaimOf z.0 z.1) (λ k. (todo k, claim k)) is.claim in
      claimed_legal t.item t.list i ts (claim ∙ ap (λ l. Place l i) (sym mine)) (nat_lt (i / 256) (length (walk_of f.walks t.list))) refl

  -- by the claim that the seat has
  pub next_legal : (t : Task) (ts : List Task) → f.todo ≡ t ∷ ts → Run w.lists (task_step w a bs f t.item t.list ts (guest_in w.lists f.seat).claim).lists
  next_legal t ts todo =
      task_legal t ts (guest_in w.lists f.seat).claim todo (ap (λ (g : Guest). g.claim) (sym (or_is w.lists.guests f.seat is.guest nobody is.here)))
